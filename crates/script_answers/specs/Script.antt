-- The lines of a script that are answered.
use Rattle.std.specs.Prelude.{ℕ, ◌&&◌, nat_le, Bool, List, length, take}
use Rattle.std.specs.List.{list_all, take_while}
use Rattle.doc_io.specs.LineReader.{is_short}

-- the lines before the first that is too long, and at most so many
unfoldable pub within : ℕ → List (List ℕ) → List (List ℕ)
within most lines = take_while is_short (take most lines)

-- no line is too long, and there are at most so many
unfoldable pub is_within : ℕ → List (List ℕ) → Bool
is_within most lines = nat_le (length lines) most && list_all is_short lines
