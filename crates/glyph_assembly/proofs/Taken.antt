-- The first variant that reaches a target.
use Rattle.std.proofs.Common.{◌≡◌, refl, ap, ℤ, Bool, true, false, cond, List, [], ◌∷◌, Option, Some, None, MatchOption, arith}
use Rattle.std.proofs.lemmas.List.Elements.{All-nil, All-cons}
use Rattle.std.specs.Option.{option_map}
use Rattle.std.specs.List.{All, find}
use borrow.Author.Differences.{le-true, le-false}
use Rattle.fixed_units.proofs.Signed.{signed}
use Rattle.font_metrics.specs.Metrics.{MetricsValue, scale_of}
use Rattle.font_metrics.specs.declared.growth.Variant.{Variant}
use Rattle.glyph_assembly.specs.Laws.{IsShort, IsFirstReaching}
use Rattle.glyph_assembly.specs.Shaping.{reaches, first_reaching}

module _ (m : MetricsValue) (size target : ℤ) where
  taken_of : Option Variant → List Variant → Type 0
  taken_of found variants =
      MatchOption (option_map (λ variant. variant.glyph) found) (All (IsShort m size target) variants) (IsFirstReaching m size target variants)

  -- one that falls short in front changes nothing
  behind_short : (v : Variant) (vs : List Variant) (found : Option Variant) → IsShort m size target v → taken_of found vs → taken_of found (v ∷ vs)
  unfolding taken_of
  behind_short v vs None short all = All-cons (IsShort m size target) v vs short all
  behind_short v vs (Some w) short is = record {
    before = v ∷ is.before;
    variant = is.variant;
    behind = is.behind;
    stands = ap (λ rest. v ∷ rest) is.stands;
    named = is.named;
    reaches = is.reaches;
    short = All-cons (IsShort m size target) v is.before short is.short;
  }

  first_is : (variants : List Variant) → taken_of (find (reaches m size target) variants) variants
  unfolding taken_of
  first_is [] = All-nil (IsShort m size target)
  first_is (v ∷ vs) = by (reaches m size target v) refl (first_is vs)
    where
      by : (b : Bool) → reaches m size target v ≡ b → taken_of (find (reaches m size target) vs) vs
          → taken_of (cond b (Some v) (find (reaches m size target) vs)) (v ∷ vs)
      by true e rest =
          let l = le-true target (scale_of m v.measure size) e in
          record {
            before = [];
            variant = v;
            behind = vs;
            stands = refl;
            named = refl;
            reaches = omega (arith, signed);
            short = All-nil (IsShort m size target);
          }
      by false e rest =
          let l = le-false target (scale_of m v.measure size) e in
          behind_short v vs (find (reaches m size target) vs) (omega (arith, signed)) rest

pub first_reaching_is : (m : MetricsValue) (size target : ℤ) (variants : List Variant)
    → MatchOption (first_reaching m size target variants) (All (IsShort m size target) variants) (IsFirstReaching m size target variants)
unfolding taken_of
first_reaching_is m size target variants = first_is m size target variants
