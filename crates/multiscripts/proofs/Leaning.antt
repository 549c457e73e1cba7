-- The base leans over the first pair behind it, and over no other.
use Rattle.std.proofs.Common.{◌≡◌, ◌∙◌, refl, sym, ap, ℕ, zero, suc, ◌<◌, arith, Bool, true, false, cond, ◌&&◌, List, [], ◌∷◌, get_or, take, Some, ℤ, pos, ◌+ℤ◌, ◌-ℤ◌}
use Rattle.std.specs.List.{list_all, slice_get}
use Rattle.std.proofs.lemmas.Option.{slice_get_within}
use Rattle.fixed_units.specs.declared.boxes.MathBox.{MathBox}
use Rattle.fixed_units.proofs.Signed.{signed}
use Rattle.font_metrics.specs.Metrics.{MetricsValue, constant_of}
use Rattle.font_metrics.specs.declared.constants.ConstName.TheVariants.{SpaceAfterScript}
use Rattle.multiscripts.specs.Along.{is_before, no_pair, base_lean_of, upright, lean_at, line_at, sub_start_of, sup_start_of, room_x_of, sub_x_at, sup_x_at}
use Rattle.multiscripts.specs.Laws.{AllBefore, FirstPairLeans, LaterPairsDont}
use Rattle.multiscripts.specs.Placing.{multi_of}
use Rattle.multiscripts.specs.declared.along.Lean.{Lean}
use Rattle.multiscripts.specs.declared.parts.Pair.{Pair}
use Rattle.multiscripts.proofs.Farthest.{item_at, listed}

-- ---- which pair is the first
all_before : (pairs : List Pair) (place : ℕ) → AllBefore pairs place → list_all is_before (take place pairs) ≡ true
all_before [] zero h = refl
all_before [] (suc n) h = refl
all_before (pair ∷ pairs) zero h = refl
all_before (pair ∷ pairs) (suc n) h =
    let here : pair.before ≡ true = h 0 pair (omega arith) refl in
    let rest = all_before pairs n (λ earlier other l is. h (suc earlier) other (omega arith) is) in
    λ k. here k && rest k

never_first : (v : Bool) → (v && false) ≡ false
never_first true = refl
never_first false = refl

one_behind : (pairs : List Pair) (place earlier : ℕ) (other : Pair) → earlier < place → slice_get pairs earlier ≡ Some other → other.before ≡ false
    → list_all is_before (take place pairs) ≡ false
one_behind [] place earlier other l is behind = absurd (omega (arith, slice_get_within [] earlier other is))
one_behind (pair ∷ pairs) zero earlier other l is behind = absurd (omega arith)
one_behind (pair ∷ pairs) (suc n) zero other l is behind =
    let same : pair ≡ other = item_at (pair ∷ pairs) 0 pair other is in
    let here : pair.before ≡ false = ap (λ p. p.before) same ∙ behind in
    ap (λ (v : Bool). v && list_all is_before (take n pairs)) here
one_behind (pair ∷ pairs) (suc n) (suc earlier) other l is behind =
    ap (λ (v : Bool). pair.before && v) (one_behind pairs n earlier other (omega arith) is behind) ∙ never_first pair.before

-- ---- where its scripts begin
starts_behind : (lean : Lean) (pair : Pair) → pair.before ≡ false → (sub_start_of lean pair ≡ pos 0 -ℤ lean.back) × (sup_start_of lean pair ≡ lean.forth)
unfolding sub_start_of sup_start_of
starts_behind lean pair behind = rw behind (refl, refl)

apart : (room : ℤ) (lean : Lean) (pair : Pair) → pair.before ≡ false
    → room +ℤ sup_start_of lean pair ≡ room +ℤ sub_start_of lean pair +ℤ (lean.back +ℤ lean.forth)
apart room lean pair behind = let starts = starts_behind lean pair behind in omega (arith, signed, starts.0, starts.1)

whole_lean : (base : MathBox) (large : Bool) → (base_lean_of base large).back +ℤ (base_lean_of base large).forth ≡ base.italic
unfolding base_lean_of
whole_lean base true = omega (arith, signed)
whole_lean base false = omega (arith, signed)

lean_when : (base : MathBox) (large : Bool) (pairs : List Pair) (i : ℕ) (first : Bool) → list_all is_before (take i pairs) ≡ first
    → lean_at base large pairs i ≡ cond first (base_lean_of base large) upright
unfolding lean_at
lean_when base large pairs i first is = ap (λ (v : Bool). cond v (base_lean_of base large) upright) is

plus_none : (x : ℤ) → x +ℤ (pos 0 +ℤ pos 0) ≡ x
plus_none x = omega (arith, signed)

leaning : (space end : ℤ) (base : MathBox) (large : Bool) (pairs : List Pair) (i : ℕ) → (get_or pairs i no_pair).before ≡ false
    → list_all is_before (take i pairs) ≡ true
    → sup_x_at space end base large pairs i ≡ sub_x_at space end base large pairs i +ℤ base.italic
leaning space end base large pairs i behind first =
    let pair = get_or pairs i no_pair in
    apart (room_x_of space end (line_at space base large pairs i) pair) (lean_at base large pairs i) pair behind
    ∙ ap (λ (z : ℤ). sub_x_at space end base large pairs i +ℤ z)
    (ap (λ (lean : Lean). lean.back +ℤ lean.forth) (lean_when base large pairs i true first) ∙ whole_lean base large)

upright_later : (space end : ℤ) (base : MathBox) (large : Bool) (pairs : List Pair) (i : ℕ) → (get_or pairs i no_pair).before ≡ false
    → list_all is_before (take i pairs) ≡ false
    → sup_x_at space end base large pairs i ≡ sub_x_at space end base large pairs i
upright_later space end base large pairs i behind later =
    let pair = get_or pairs i no_pair in
    apart (room_x_of space end (line_at space base large pairs i) pair) (lean_at base large pairs i) pair behind
    ∙ ap (λ (z : ℤ). sub_x_at space end base large pairs i +ℤ z) (ap (λ (lean : Lean). lean.back +ℤ lean.forth) (lean_when base large pairs i false later))
    ∙ plus_none (sub_x_at space end base large pairs i)

-- ---- the laws
pub first_leans : (m : MetricsValue) (base : MathBox) (large cramped : Bool) (pairs : List Pair) (size : ℤ)
    → FirstPairLeans base pairs (multi_of m base large cramped pairs size)
first_leans m base large cramped pairs size place pair sub sup stand behind first =
    let l = slice_get_within pairs place pair stand.pair_is in
    let here = ap (λ p. p.before) (item_at pairs place no_pair pair stand.pair_is) ∙ behind in
    let low = ap (λ at. at.x) (listed _ _ _ _ l stand.sub_is) in
    let high = ap (λ at. at.x) (listed _ _ _ _ l stand.sup_is) in
    high ∙ leaning (constant_of m SpaceAfterScript size) _ base large pairs place here (all_before pairs place first)
    ∙ ap (λ (z : ℤ). z +ℤ base.italic) (sym low)

pub later_dont : (m : MetricsValue) (base : MathBox) (large cramped : Bool) (pairs : List Pair) (size : ℤ)
    → LaterPairsDont pairs (multi_of m base large cramped pairs size)
later_dont m base large cramped pairs size place earlier pair other sub sup stand behind ahead is other_behind =
    let l = slice_get_within pairs place pair stand.pair_is in
    let here = ap (λ p. p.before) (item_at pairs place no_pair pair stand.pair_is) ∙ behind in
    let low = ap (λ at. at.x) (listed _ _ _ _ l stand.sub_is) in
    let high = ap (λ at. at.x) (listed _ _ _ _ l stand.sup_is) in
    high ∙ upright_later (constant_of m SpaceAfterScript size) _ base large pairs place here (one_behind pairs place earlier other ahead is other_behind) ∙ sym low
