-- No pair is moved farther than all are, so the ink of each keeps its gap; and where scripts stand.
use Rattle.std.proofs.Common.{◌≡◌, ◌∙◌, sym, subst, ap, ℕ, zero, suc, ◌<◌, arith, Bool, true, cond, List, [], ◌∷◌, length, get_or, map, fold, Some, ℤ, pos, ◌+ℤ◌, ◌-ℤ◌, ◌≤ℤ◌}
use Rattle.std.specs.Int.{int_max}
use Rattle.std.specs.List.{slice_get}
use Rattle.std.proofs.lemmas.Option.{slice_get-get_or, slice_get_within}
use Rattle.fixed_units.specs.Boxes.{IsUnion}
use Rattle.fixed_units.specs.Sums.{list_to}
use Rattle.fixed_units.specs.declared.boxes.MathBox.{MathBox}
use Rattle.fixed_units.proofs.Signed.{signed}
use Rattle.fixed_units.proofs.Sums.{slice_get-list_to}
use Rattle.fixed_units.proofs.Unions.{all_joined_is_union}
use Rattle.font_metrics.specs.Metrics.{MetricsValue, constant_of}
use Rattle.font_metrics.specs.declared.constants.ConstName.TheVariants.{SpaceAfterScript}
use Rattle.multiscripts.specs.Along.{no_pair, lean_at, sub_start_of, sup_start_of, sub_x_at, sup_x_at}
use Rattle.multiscripts.specs.Heights.{alone_of, larger_of, all_shifts_of, moved}
use Rattle.multiscripts.specs.Laws.{AllKeepGap, PrescriptsEndTogether}
use Rattle.multiscripts.specs.Placing.{multi_of}
use Rattle.multiscripts.specs.declared.parts.Pair.{Pair}
use Rattle.scripts.specs.Lengths.{pair_lengths_of}
use Rattle.scripts.specs.declared.parts.Shifts.{Shifts}
use Rattle.scripts.proofs.Gaps.{pair_keeps_gap}

-- ---- the farthest
record IsAtMost (a b : Shifts) : Type 0 where
  up : a.up ≤ℤ b.up
  down : a.down ≤ℤ b.down

kept : (first : Shifts) (others : List Shifts) → IsAtMost first (fold larger_of first others)
unfolding larger_of
kept first [] = record { up = omega (arith, signed); down = omega (arith, signed) }
kept first (next ∷ others) =
    let k = kept (larger_of first next) others in
    record { up = omega (arith, signed, k.up); down = omega (arith, signed, k.down) }

reached : (f : Pair → Shifts) (first : Shifts) (pairs : List Pair) (i : ℕ) → i < length pairs
    → IsAtMost (f (get_or pairs i no_pair)) (fold larger_of first (map f pairs))
unfolding larger_of
reached f first [] i l = absurd (omega arith)
reached f first (pair ∷ pairs) zero l =
    let k = kept (larger_of first (f pair)) (map f pairs) in
    record { up = omega (arith, signed, k.up); down = omega (arith, signed, k.down) }
reached f first (pair ∷ pairs) (suc i) l = reached f (larger_of first (f pair)) pairs i (omega arith)

none_farther : (m : MetricsValue) (size : ℤ) (cramped : Bool) (base : MathBox) (pairs : List Pair) (i : ℕ) → i < length pairs
    → IsAtMost (alone_of m size cramped base (get_or pairs i no_pair)) (all_shifts_of m size cramped base pairs)
none_farther m size cramped base [] i l = absurd (omega arith)
none_farther m size cramped base (pair ∷ pairs) zero l = kept _ (map (alone_of m size cramped base) pairs)
none_farther m size cramped base (pair ∷ pairs) (suc i) l = reached (alone_of m size cramped base) _ pairs i (omega arith)

-- ---- what is found at a place
pub item_at : {A : Type 0} (xs : List A) (i : ℕ) (d x : A) → slice_get xs i ≡ Some x → get_or xs i d ≡ x
item_at xs i d x is = let e = slice_get-get_or xs i d (slice_get_within xs i x is) in cc

pub listed : {A : Type 0} (n i : ℕ) (f : ℕ → A) (x : A) → i < n → slice_get (list_to n f) i ≡ Some x → x ≡ f i
listed n i f x l is = let e = slice_get-list_to n i f l in cc

-- ---- the laws
pub all_keep_gap : (m : MetricsValue) (base : MathBox) (large cramped : Bool) (pairs : List Pair) (size : ℤ)
    → AllKeepGap (pair_lengths_of m size).gap pairs (multi_of m base large cramped pairs size)
all_keep_gap m base large cramped pairs size place pair sub sup stand =
    let l = slice_get_within pairs place pair stand.pair_is in
    let far = subst (λ p. IsAtMost (alone_of m size cramped base p) (all_shifts_of m size cramped base pairs)) (item_at pairs place no_pair pair stand.pair_is)
    (none_farther m size cramped base pairs place l) in
    let gap = pair_keeps_gap m size cramped base pair.sub pair.sup in
    let low = ap (λ at. at.y) (listed _ _ _ _ l stand.sub_is) in
    let high = ap (λ at. at.y) (listed _ _ _ _ l stand.sup_is) in
    omega (arith, signed, gap, low, high, far.up, far.down)

pub box_is_union : (m : MetricsValue) (base : MathBox) (large cramped : Bool) (pairs : List Pair) (size : ℤ)
    → IsUnion (base ∷ moved (all_shifts_of m size cramped base pairs) pairs) (multi_of m base large cramped pairs size).frame
box_is_union m base large cramped pairs size =
    let all = all_joined_is_union base (moved (all_shifts_of m size cramped base pairs) pairs) in
    record { ascent = all.ascent; descent = all.descent; ink_ascent = all.ink_ascent; ink_descent = all.ink_descent }

prescripts_end : (space end : ℤ) (base : MathBox) (large : Bool) (pairs : List Pair) (i : ℕ) → (get_or pairs i no_pair).before ≡ true
    → sub_x_at space end base large pairs i +ℤ (get_or pairs i no_pair).sub.width ≡ sup_x_at space end base large pairs i +ℤ (get_or pairs i no_pair).sup.width
unfolding sub_start_of sup_start_of
prescripts_end space end base large pairs i before =
    let pair = get_or pairs i no_pair in
    let sub : sub_start_of (lean_at base large pairs i) pair ≡ int_max pair.sub.width pair.sup.width -ℤ pair.sub.width =
    ap (λ (v : Bool). cond v (int_max pair.sub.width pair.sup.width -ℤ pair.sub.width) (pos 0 -ℤ (lean_at base large pairs i).back)) before in
    let sup : sup_start_of (lean_at base large pairs i) pair ≡ int_max pair.sub.width pair.sup.width -ℤ pair.sup.width =
    ap (λ (v : Bool). cond v (int_max pair.sub.width pair.sup.width -ℤ pair.sup.width) (lean_at base large pairs i).forth) before in
    omega (arith, signed, sub, sup)

pub prescripts_end_together : (m : MetricsValue) (base : MathBox) (large cramped : Bool) (pairs : List Pair) (size : ℤ)
    → PrescriptsEndTogether pairs (multi_of m base large cramped pairs size)
prescripts_end_together m base large cramped pairs size place pair sub sup stand before =
    let l = slice_get_within pairs place pair stand.pair_is in
    let here = item_at pairs place no_pair pair stand.pair_is in
    let e = prescripts_end (constant_of m SpaceAfterScript size) _ base large pairs place (ap (λ p. p.before) here ∙ before) in
    let low = ap (λ at. at.x) (listed _ _ _ _ l stand.sub_is) in
    let high = ap (λ at. at.x) (listed _ _ _ _ l stand.sup_is) in
    let sub_width = ap (λ p. p.sub.width) here in
    let sup_width = ap (λ p. p.sup.width) here in
    (λ k. low k +ℤ (sym sub_width) k) ∙ e ∙ (λ k. (sym high) k +ℤ sup_width k)
