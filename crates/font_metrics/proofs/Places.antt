-- What is known of places in lists of characters and glyphs.
use Rattle.std.proofs.Common.{◌≡◌, ℕ, ◌<◌, Bool, List, length, Option, Some, None}
use Rattle.std.specs.List.{All}
use Rattle.std.specs.Map.{lookup}
use Rattle.std.specs.Option.{unwrap_or, IfSome}
use Rattle.std.specs.Str.{bytes_eq}
use Rattle.std.proofs.lemmas.List.Quantifiers.{position-Some}
use Rattle.std.proofs.lemmas.Map.Entries.{All-lookup}
use Rattle.font_metrics.specs.Metrics.{NamedGlyph, nameless, place_of_name}

-- the place of a character lies below n where each does and the other place does
pub place_below : (test : ℕ → Bool) (places : List (ℕ × ℕ)) (n other : ℕ) → All (λ c. c.1 < n) places
    → other < n → unwrap_or (lookup test places) other < n
place_below test places n other all h = by (lookup test places) (All-lookup (λ p. p < n) test places all)
  where
    by : (found : Option ℕ) → IfSome found (λ p. p < n) → unwrap_or found other < n
    by None k = h
    by (Some p) k = k

-- a name's place is a glyph's
pub place_within : (glyphs : List NamedGlyph) (name : List ℕ) (place : ℕ)
    → place_of_name glyphs name ≡ Some place → place < length glyphs
place_within glyphs name place h = (position-Some (λ g. bytes_eq name g.name) glyphs place nameless h).0
