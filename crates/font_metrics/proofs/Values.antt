-- What is read off metrics stays within bounds.
use Rattle.std.proofs.Common.{zero, suc, ◌≡◌, ◌∙◌, sym, ap, refl, subst, ℕ, ◌≤◌, ◌<◌, ◌^◌, ℤ, pos, negsuc, ◌≤ℤ◌, List, [], length, Option, Some, None, arith, nat_eq, Contains, if◌then◌else◌, Bool, true, false}
use Rattle.std.proofs.lemmas.Bool.Decides.{nat_tests}
use Rattle.std.proofs.lemmas.List.Elements.{All-nil, All-contains, All-weaker}
use Rattle.std.proofs.lemmas.Map.Entries.{All-lookup}
use Rattle.std.proofs.lemmas.Map.Views.{IfSome-lookup}
use Rattle.std.specs.List.{All}
use Rattle.std.specs.Map.{lookup}
use Rattle.std.specs.Option.{unwrap_or, IfSome}
use Rattle.op_dictionary.specs.declared.operator.Axis.{Axis}
use Rattle.fixed_units.specs.Numbers.{IsWithin}
use Rattle.std.specs.Ordering.{int_eq}
use Rattle.fixed_units.proofs.Signed.{signed}
use Rattle.fixed_units.proofs.Within.{natural_in, widened}
use Rattle.font_metrics.specs.declared.constants.ConstName.{ConstName}
use Rattle.font_metrics.specs.declared.constants.ConstName.TheVariants.{ScriptPercentScaleDown, ScriptScriptPercentScaleDown}
use Rattle.font_metrics.specs.declared.corner.Corner.{Corner}
use Rattle.font_metrics.specs.declared.table.Table.{Table}
use Rattle.font_metrics.specs.declared.table.Table.TheVariants.{Variants, Parts, Kerns}
use Rattle.font_metrics.specs.Constants.{place_of_constant, is_scale_down}
use Rattle.font_metrics.specs.Metrics.{MetricsValue, ByGlyph, given_constant, or_default, percent_of, IsPercent, IsScaleDown, items_of, variants_of, parts_of, kerns_of}
use Rattle.font_metrics.specs.Tables.{slot, entries, IsSound}
use Rattle.font_metrics.specs.Taken.{IsTaken, IsReach, IsVariant, IsPart, IsKern, IsConstant, IsEntry}

-- ---- the items of a glyph in a table

module _ {X : Type 0} (Is : X → Type 0) where
  pub all_items : (count most : ℕ) (table : ByGlyph X) (place : ℕ) → All (IsEntry count most Is) table
      → All Is (items_of table place)
  all_items count most table place h =
      by (lookup (nat_eq place) table)
      (All-lookup (All Is) (nat_eq place) table (All-weaker (IsEntry count most Is) (λ e. All Is e.1) (λ e k. k.items) table h))
    where
      by : (o : Option (List X)) → IfSome o (All Is) → All Is (unwrap_or o [])
      by None k = All-nil Is
      by (Some xs) k = k

  pub few_items : (count most : ℕ) (table : ByGlyph X) (place : ℕ) → All (IsEntry count most Is) table
      → length (items_of table place) ≤ most
  few_items count most table place h =
      by (lookup (nat_eq place) table)
      (All-lookup (λ xs. length xs ≤ most) (nat_eq place) table (All-weaker (IsEntry count most Is) (λ e. length e.1 ≤ most) (λ e k. k.few) table h))
    where
      by : (o : Option (List X)) → IfSome o (λ xs. length xs ≤ most) → length (unwrap_or o []) ≤ most
      by None k = omega arith
      by (Some xs) k = k

-- what a glyph has in a table
module _ (m : MetricsValue) (place : ℕ) (h : IsTaken m) where
  pub entries_in : (t : Table) → All ((slot t).Is (length m.glyphs)) (items_of (entries t m.tables) place)
  entries_in t =
      All-weaker (IsSound t (length m.glyphs)) ((slot t).Is (length m.glyphs)) (λ x is. is.0) (items_of (entries t m.tables) place)
      (all_items (IsSound t (length m.glyphs)) (length m.glyphs) (slot t).most (entries t m.tables) place (h.tables t).entries)

  pub entries_few : (t : Table) → length (items_of (entries t m.tables) place) ≤ (slot t).most
  entries_few t =
      few_items (IsSound t (length m.glyphs)) (length m.glyphs) (slot t).most (entries t m.tables) place (h.tables t).entries

pub variants_in : (m : MetricsValue) (place : ℕ) (axis : Axis) → IsTaken m
    → All (IsVariant (length m.glyphs)) (variants_of m place axis)
unfolding variants_of
variants_in m place axis h = entries_in m place h (Variants axis)

pub variants_few : (m : MetricsValue) (place : ℕ) (axis : Axis) → IsTaken m → length (variants_of m place axis) ≤ 64
unfolding variants_of
variants_few m place axis h = entries_few m place h (Variants axis)

pub parts_in : (m : MetricsValue) (place : ℕ) (axis : Axis) → IsTaken m
    → All (IsPart (length m.glyphs)) (parts_of m place axis)
unfolding parts_of
parts_in m place axis h = entries_in m place h (Parts axis)

pub parts_few : (m : MetricsValue) (place : ℕ) (axis : Axis) → IsTaken m → length (parts_of m place axis) ≤ 16
unfolding parts_of
parts_few m place axis h = entries_few m place h (Parts axis)

pub kerns_in : (m : MetricsValue) (place : ℕ) (corner : Corner) → IsTaken m → All IsKern (kerns_of m place corner)
unfolding kerns_of
kerns_in m place corner h = entries_in m place h (Kerns corner)

-- ---- constants

nat_same : (x y : ℕ) → nat_eq x y ≡ true → x ≡ y
nat_same x y h = grind (arith, nat_tests)

pub given_in : (m : MetricsValue) (name : ConstName) → IsTaken m
    → IfSome (given_constant m name) (λ v. IsConstant (place_of_constant name, v))
given_in m name h = by (given_constant m name) (IfSome-lookup nat_same (place_of_constant name) m.constants)
  where
    by : (o : Option ℤ) → IfSome o (λ v. Contains m.constants (place_of_constant name, v))
        → IfSome o (λ v. IsConstant (place_of_constant name, v))
    by None k = tt
    by (Some v) k = All-contains IsConstant m.constants (place_of_constant name, v) h.constants k

pub other_percent : (m : MetricsValue) (name : ConstName) → IsPercent name → (name ≡ ScriptPercentScaleDown → ⊥)
    → (name ≡ ScriptScriptPercentScaleDown → ⊥)
    → percent_of m name ≡ unwrap_or (given_constant m name) (pos 60)
unfolding percent_of
other_percent m ScriptPercentScaleDown p h k = absurd (h refl)
other_percent m ScriptScriptPercentScaleDown p h k = absurd (k refl)
other_percent m name p h k = refl

-- ---- bounds

pub reach_within : (z : ℤ) → IsReach z → IsWithin (2 ^ 16) z
reach_within z h = let low = h.0 in let high = h.1 in record { low = omega (arith, signed, low); high = omega (arith, signed, high) }

pub in_reach : (place : ℕ) (z : ℤ) → IsConstant (place, z) → IsReach z
in_reach place z h = by (is_scale_down place) h.1 h.2
  where
    by : (b : Bool) → (if b then pos 0 else negsuc 32767) ≤ℤ z → z ≤ℤ (if b then pos 200 else pos 65535) → IsReach z
    by true low high = (omega (arith, signed, low), omega (arith, signed, high))
    by false low high = (low, high)

pub given_within : (m : MetricsValue) (name : ConstName) → IsTaken m
    → IfSome (given_constant m name) (IsWithin (2 ^ 16))
given_within m name h = by (given_constant m name) (given_in m name h)
  where
    by : (o : Option ℤ) → IfSome o (λ v. IsConstant (place_of_constant name, v)) → IfSome o (IsWithin (2 ^ 16))
    by None k = tt
    by (Some v) k = reach_within v (in_reach (place_of_constant name) v k)

zero_within : (n : ℕ) → n ≤ 2 ^ 16 → IsWithin (2 ^ 16) (pos n)
zero_within n h = widened (2 ^ 16) (natural_in n) h

pub or_within : (n : ℕ) (o : Option ℤ) → n ≤ 2 ^ 16 → IfSome o (IsWithin (2 ^ 16))
    → IsWithin (2 ^ 16) (unwrap_or o (pos n))
or_within n None h k = zero_within n h
or_within n (Some v) h k = k

pub default_within : (n : ℕ) (o : Option ℤ) → n ≤ 2 ^ 16 → IfSome o (IsWithin (2 ^ 16))
    → IsWithin (2 ^ 16) (or_default (pos n) o)
default_within n None h k = zero_within n h
default_within n (Some v) h k = by (int_eq v (pos 0))
  where
    by : (b : Bool) → IsWithin (2 ^ 16) (if b then pos n else v)
    by true = zero_within n h
    by false = k

-- ---- the scale-downs

pub first_percent : (m : MetricsValue) (name : ConstName) → name ≡ ScriptPercentScaleDown
    → or_default (pos 70) (given_constant m name) ≡ percent_of m name
unfolding percent_of
first_percent m name h =
    ap (λ n. or_default (pos 70) (given_constant m n)) h ∙ ap (percent_of m) (sym h)

pub second_percent : (m : MetricsValue) (name : ConstName) → name ≡ ScriptScriptPercentScaleDown
    → or_default (pos 50) (given_constant m name) ≡ percent_of m name
unfolding percent_of
second_percent m name h =
    ap (λ n. or_default (pos 50) (given_constant m n)) h ∙ ap (percent_of m) (sym h)

no_zero : (n : ℕ) → int_eq (pos (suc n)) (pos 0) ≡ false
no_zero n = grind (arith, nat_tests)

some_percent : (n : ℕ) (o : Option ℤ) → 1 ≤ n → n ≤ 200
    → IfSome o (λ v. (pos 0 ≤ℤ v) × (v ≤ℤ pos 200))
    → (pos 1 ≤ℤ or_default (pos n) o) × (or_default (pos n) o ≤ℤ pos 200)
some_percent n None low high h = (omega (arith, signed, low), omega (arith, signed, high))
some_percent n (Some (negsuc v)) low high h = let none : ⊥ = omega (arith, signed, h.0) in absurd none
some_percent n (Some (pos zero)) low high h = (omega (arith, signed, low), omega (arith, signed, high))
some_percent n (Some (pos (suc v))) low high h =
    let least : pos 1 ≤ℤ pos (suc v) = omega (arith, signed) in
    subst (λ z. (pos 1 ≤ℤ z) × (z ≤ℤ pos 200)) (ap (λ b. if b then pos n else pos (suc v)) (sym (no_zero v))) (least, h.1)

in_percent : (place : ℕ) (o : Option ℤ) → place < 2 → IfSome o (λ v. IsConstant (place, v))
    → IfSome o (λ v. (pos 0 ≤ℤ v) × (v ≤ℤ pos 200))
in_percent place None h k = tt
in_percent place (Some v) h k =
    let down : is_scale_down place ≡ true = grind (arith, nat_tests) in
    (subst (λ b. (if b then pos 0 else negsuc 32767) ≤ℤ v) down k.1, subst (λ b. v ≤ℤ (if b then pos 200 else pos 65535)) down k.2)

pub scale_down_in : (m : MetricsValue) (name : ConstName)
    → IfSome (given_constant m name) (λ v. IsConstant (place_of_constant name, v)) → IsScaleDown name
    → (pos 1 ≤ℤ percent_of m name) × (percent_of m name ≤ℤ pos 200)
unfolding percent_of
scale_down_in m ScriptPercentScaleDown h k =
    some_percent 70 (given_constant m ScriptPercentScaleDown) (omega arith) (omega arith)
    (in_percent 0 (given_constant m ScriptPercentScaleDown) (omega arith) h)
scale_down_in m ScriptScriptPercentScaleDown h k =
    some_percent 50 (given_constant m ScriptScriptPercentScaleDown) (omega arith) (omega arith)
    (in_percent 1 (given_constant m ScriptScriptPercentScaleDown) (omega arith) h)
scale_down_in m name h k = absurd k
