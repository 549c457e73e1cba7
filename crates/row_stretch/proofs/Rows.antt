-- What the first children of a row take, one child more, and how far that reaches.
use Rattle.std.proofs.Common.{◌≡◌, ◌≢◌, refl, ap, ℕ, zero, suc, add-one, ◌+◌, ◌*◌, ◌^◌, ◌<◌, ◌≤◌, arith, lit≤, Bool, ◌&&◌, List, [], ◌∷◌, length, map, take, fold, get_or, ℤ, pos, ◌+ℤ◌}
use Rattle.std.specs.List.{All}
use Rattle.std.proofs.lemmas.Bool.Decides.{nat_tests}
use Rattle.std.proofs.lemmas.List.Elements.{All-get_or}
use Rattle.fixed_units.specs.Boxes.{all_joined, farthest, joined}
use Rattle.fixed_units.specs.Numbers.{IsWithin, halved}
use Rattle.fixed_units.specs.declared.boxes.MathBox.{MathBox}
use Rattle.fixed_units.proofs.Signed.{signed}
use Rattle.fixed_units.proofs.Sums.{sum_to-zero, sum_to-add_one, sum_to_in}
use Rattle.fixed_units.proofs.Within.{natural_in, widened, sum_in, choice_in}
use Rattle.row_stretch.specs.declared.parts.RowKid.{RowKid}
use Rattle.row_stretch.specs.Equation.{IsKidStored, no_kid, ahead_of, advance_of, italic_before, ahead_at, advance_at, room_of, offset_of, accent_of, frame_of_kid, with_kid}

-- ---- one child more
pub room_of-zero : (s : Bool) (kids : List RowKid) → room_of s kids 0 ≡ pos 0
unfolding room_of
room_of-zero s kids = sum_to-zero _

pub room_of-add_one : (s : Bool) (kids : List RowKid) (i : ℕ) → room_of s kids (i + 1) ≡ room_of s kids i +ℤ (ahead_at s kids i +ℤ advance_at s kids i)
unfolding room_of
room_of-add_one s kids i = sum_to-add_one i (λ place. ahead_at s kids place +ℤ advance_at s kids place)

pub offset_of-is : (s : Bool) (kids : List RowKid) (i : ℕ) → offset_of s kids i ≡ room_of s kids i +ℤ ahead_at s kids i
unfolding offset_of
offset_of-is s kids i = refl

pub italic_before-add_one : (kids : List RowKid) (i : ℕ) → italic_before kids (i + 1) ≡ (get_or kids i no_kid).frame.italic
italic_before-add_one kids i = rw add-one refl

-- ---- how far numbers reach
ahead_of_in : (s : Bool) (italic : ℤ) (kid : RowKid) → IsWithin farthest italic → IsKidStored kid → IsWithin farthest (ahead_of s italic kid)
unfolding ahead_of
ahead_of_in s italic kid w fit = choice_in kid.embellished (choice_in s fit.before (natural_in 0)) w

advance_of_in : (s : Bool) (kid : RowKid) → IsKidStored kid → IsWithin (2 ^ 31) (advance_of s kid)
unfolding advance_of
advance_of_in s kid fit = choice_in (kid.embellished && s) (sum_in fit.frame.width fit.after) fit.frame.width

pub kid_stored : (kids : List RowKid) (i : ℕ) → i < length kids → All IsKidStored kids → IsKidStored (get_or kids i no_kid)
kid_stored kids i l all = All-get_or IsKidStored kids i no_kid l all

pub italic_before_in : (kids : List RowKid) (i : ℕ) → i ≤ length kids → All IsKidStored kids → IsWithin farthest (italic_before kids i)
italic_before_in kids zero l all = widened farthest (natural_in 0) (lit≤ tt)
italic_before_in kids (suc i) l all = (kid_stored kids i (omega arith) all).frame.italic

pub ahead_at_in : (s : Bool) (kids : List RowKid) (i : ℕ) → i < length kids → All IsKidStored kids → IsWithin farthest (ahead_at s kids i)
ahead_at_in s kids i l all = ahead_of_in s _ _ (italic_before_in kids i (omega arith) all) (kid_stored kids i l all)

pub advance_at_in : (s : Bool) (kids : List RowKid) (i : ℕ) → i < length kids → All IsKidStored kids → IsWithin (2 ^ 31) (advance_at s kids i)
advance_at_in s kids i l all = advance_of_in s _ (kid_stored kids i l all)

pub room_of_in : (s : Bool) (kids : List RowKid) (n : ℕ) → n ≤ length kids → All IsKidStored kids → IsWithin (n * 2 ^ 32) (room_of s kids n)
unfolding room_of
room_of_in s kids n l all = sum_to_in n _ (λ i h.
    widened (2 ^ 32) (sum_in (ahead_at_in s kids i (omega arith) all) (advance_at_in s kids i (omega arith) all)) (lit≤ tt))

-- ---- the box
more_joined : (frame : MathBox) (kids : List RowKid) (i : ℕ) → i < length kids
    → fold joined frame (map frame_of_kid (take (suc i) kids)) ≡ joined (fold joined frame (map frame_of_kid (take i kids))) (get_or kids i no_kid).frame
more_joined frame [] i l = absurd (omega arith)
more_joined frame (kid ∷ kids) zero l = refl
more_joined frame (kid ∷ kids) (suc i) l = more_joined (joined frame kid.frame) kids i (omega arith)

-- the first children, joined with one more
pub joined-suc : (kids : List RowKid) (i : ℕ) → i < length kids
    → all_joined (map frame_of_kid (take (suc i) kids)) ≡ with_kid (all_joined (map frame_of_kid (take i kids))) i (get_or kids i no_kid)
joined-suc [] i l = absurd (omega arith)
joined-suc (kid ∷ kids) zero l = refl
joined-suc (kid ∷ kids) (suc i) l = more_joined kid.frame kids i (omega arith)

-- ---- the accent
pub accent_of-one : (s : Bool) (kids : List RowKid) → length kids ≡ 1 → accent_of s kids ≡ ahead_at s kids 0 +ℤ (get_or kids 0 no_kid).frame.accent
unfolding accent_of
accent_of-one s kids one =
    let start : offset_of s kids 0 ≡ ahead_at s kids 0 = omega (arith, signed, offset_of-is s kids 0, room_of-zero s kids) in
    let e : offset_of s kids 0 +ℤ (get_or kids 0 no_kid).frame.accent ≡ ahead_at s kids 0 +ℤ (get_or kids 0 no_kid).frame.accent =
    ap (λ (x : ℤ). x +ℤ (get_or kids 0 no_kid).frame.accent) start in
    grind (arith, nat_tests)

pub accent_of-other : (s : Bool) (kids : List RowKid) → length kids ≢ 1 → accent_of s kids ≡ halved (room_of s kids (length kids))
unfolding accent_of
accent_of-other s kids other = grind (arith, nat_tests)
