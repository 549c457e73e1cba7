-- How far pairs are moved, and what their scripts reach there: one pair more.
use Rattle.std.proofs.Common.{◌≡◌, ◌∙◌, refl, sym, ap, ℕ, add-one, ◌+◌, ◌^◌, ◌<◌, lit≤, List, [], ◌∷◌, ◌++◌, length, get_or, take, map, fold}
use Rattle.std.proofs.Math.Seq.{take-suc}
use Rattle.std.proofs.lemmas.List.{map-append}
use Rattle.std.proofs.lemmas.List.Sums.{fold-append}
use Rattle.fixed_units.specs.Boxes.{IsStored, IsBoxWithin, raised, joined}
use Rattle.fixed_units.specs.declared.boxes.MathBox.{MathBox}
use Rattle.fixed_units.proofs.Unions.{box_widened}
use Rattle.fixed_units.proofs.Within.{max_in}
use Rattle.multiscripts.specs.declared.parts.Pair.{Pair}
use Rattle.multiscripts.specs.Along.{no_pair}
use Rattle.multiscripts.specs.Heights.{larger_of, moved}
use Rattle.scripts.specs.Beside.{below}
use Rattle.scripts.specs.Shifts.{AreShiftsWithin}
use Rattle.scripts.specs.declared.parts.Shifts.{Shifts}

-- ---- shifts
pub larger_in : (a b : Shifts) → AreShiftsWithin (2 ^ 40) a → AreShiftsWithin (2 ^ 40) b → AreShiftsWithin (2 ^ 40) (larger_of a b)
unfolding larger_of
larger_in a b p q = record { up = max_in p.up q.up; down = max_in p.down q.down }

pub one_shift_more : (alone_of : Pair → Shifts) (first : Shifts) (pairs : List Pair) (i : ℕ) (before alone after : Shifts) → i < length pairs
    → before ≡ fold larger_of first (map alone_of (take i pairs)) → alone ≡ alone_of (get_or pairs i no_pair) → after ≡ larger_of before alone
    → after ≡ fold larger_of first (map alone_of (take (i + 1) pairs))
one_shift_more alone_of first pairs i before alone after l so_far is added =
    let pair = get_or pairs i no_pair in
    let more : take (i + 1) pairs ≡ take i pairs ++ (pair ∷ []) = rw add-one (take-suc pairs i no_pair l) in
    let ends : map alone_of (take (i + 1) pairs) ≡ map alone_of (take i pairs) ++ (alone_of pair ∷ []) =
    ap (map alone_of) more ∙ map-append alone_of (take i pairs) (pair ∷ []) in
    added ∙ (λ k. larger_of (so_far k) (is k))
    ∙ sym (ap (fold larger_of first) ends ∙ fold-append larger_of first (map alone_of (take i pairs)) (alone_of pair ∷ []))

-- ---- boxes
pub may_be_raised : (part : MathBox) → IsStored part → IsBoxWithin (2 ^ 61) part
may_be_raised part p = box_widened (2 ^ 61) p (lit≤ tt)

moved-append : (shifts : Shifts) (first others : List Pair) → moved shifts (first ++ others) ≡ moved shifts first ++ moved shifts others
moved-append shifts [] others = refl
moved-append shifts (pair ∷ first) others =
    ap (λ rest. below pair.sub shifts.down ∷ raised pair.sup shifts.up ∷ rest) (moved-append shifts first others)

pub one_pair_more : (base : MathBox) (shifts : Shifts) (pairs : List Pair) (i : ℕ) (before after : MathBox) → i < length pairs
    → before ≡ fold joined base (moved shifts (take i pairs))
    → after ≡ joined (joined before (below (get_or pairs i no_pair).sub shifts.down)) (raised (get_or pairs i no_pair).sup shifts.up)
    → after ≡ fold joined base (moved shifts (take (i + 1) pairs))
one_pair_more base shifts pairs i before after l so_far added =
    let pair = get_or pairs i no_pair in
    let more : take (i + 1) pairs ≡ take i pairs ++ (pair ∷ []) = rw add-one (take-suc pairs i no_pair l) in
    let ends : moved shifts (take (i + 1) pairs) ≡ moved shifts (take i pairs) ++ moved shifts (pair ∷ []) =
    ap (moved shifts) more ∙ moved-append shifts (take i pairs) (pair ∷ []) in
    added
    ∙ ap (λ all. joined (joined all (below pair.sub shifts.down)) (raised pair.sup shifts.up)) so_far
    ∙ sym (ap (fold joined base) ends ∙ fold-append joined base (moved shifts (take i pairs)) (moved shifts (pair ∷ [])))
