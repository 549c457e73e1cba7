-- The form of a line that is written.
use Rattle.std.specs.Prelude.{ℕ, ℤ, List, [], ◌∷◌, ◌++◌, map}
use Rattle.std.specs.Fmt.{signed_decimal}
use Rattle.std.specs.List.{flat_map}

-- a space and the word
abbrev pub spaced : List ℕ → List ℕ
spaced word = 32 ∷ word

-- the words of a line stand one space apart, and a line feed ends it
abbrev pub line : List ℕ → List (List ℕ) → List ℕ
line first others = first ++ flat_map spaced others ++ 10 ∷ []

-- a space and a number's decimal, and so on
abbrev pub spaced_numbers : List ℤ → List ℕ
spaced_numbers numbers = flat_map spaced (map signed_decimal numbers)
