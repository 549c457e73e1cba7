-- What is printed for a number of design units or a glyph is a word.
use Rattle.std.proofs.Common.{◌≡◌, ℕ, ◌<◌, ℤ, true, List, length, arith}
use Rattle.std.specs.Fmt.{signed_decimal}
use Rattle.std.proofs.lemmas.Int.{ints}
use Rattle.font_metrics.specs.Metrics.{NamedGlyph, name_in_list}
use Rattle.font_metrics.specs.Taken.{IsReach, IsLength}
use Rattle.metrics_file.proofs.ReadBack.Fields.{AreNamed}
use Rattle.metrics_file.proofs.ReadBack.Joined.{is_word}
use Rattle.metrics_file.proofs.ReadBack.Names.{name-word}
use Rattle.metrics_file.proofs.ReadBack.Printed.{signed-word}

pub reach-word : (z : ℤ) → IsReach z → is_word (signed_decimal z) ≡ true
reach-word z h = signed-word z h.0 h.1

pub length-word : (z : ℤ) → IsLength z → is_word (signed_decimal z) ≡ true
length-word z h = signed-word z (omega (arith, ints, h.0)) h.1

pub place-word : (glyphs : List NamedGlyph) (place : ℕ) → AreNamed glyphs → place < length glyphs
    → is_word (name_in_list glyphs place) ≡ true
place-word glyphs place n low = name-word (name_in_list glyphs place) (n.names place low)
