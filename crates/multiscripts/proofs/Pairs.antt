-- What the first pairs take, one pair more, and how far that reaches.
use Rattle.std.proofs.Common.{◌≡◌, ◌∙◌, refl, sym, subst, ap, ℕ, add-one, ◌+◌, ◌^◌, ◌<◌, ◌≤◌, arith, lit≤, Bool, true, false, cond, ◌&&◌, List, [], ◌∷◌, ◌++◌, length, get_or, take, ℤ, pos, ◌+ℤ◌}
use Rattle.std.specs.List.{All, list_all}
use Rattle.std.proofs.Math.Seq.{take-suc}
use Rattle.std.proofs.lemmas.List.Elements.{All-get_or}
use Rattle.std.proofs.lemmas.List.Folds.{list_all-append}
use Rattle.fixed_units.specs.Boxes.{IsStored, farthest}
use Rattle.fixed_units.specs.Numbers.{IsWithin}
use Rattle.fixed_units.specs.Sums.{list_to}
use Rattle.fixed_units.specs.declared.boxes.MathBox.{MathBox}
use Rattle.fixed_units.proofs.Signed.{signed}
use Rattle.fixed_units.proofs.Sums.{sum_to-zero, sum_to-add_one, sum_to_in, list_to-add_one}
use Rattle.fixed_units.proofs.Within.{natural_in, widened, sum_in, difference_in, max_in, choice_in}
use Rattle.multiscripts.specs.declared.along.Lean.{Lean}
use Rattle.multiscripts.specs.declared.along.Line.{Line}
use Rattle.multiscripts.specs.declared.parts.Pair.{Pair}
use Rattle.scripts.specs.declared.parts.Spot.{Spot}
use Rattle.scripts.specs.Beside.{spot}
use Rattle.multiscripts.specs.Along.{base_lean_of, upright, sub_start_of, sup_start_of, room_of, is_before, no_pair, lean_at, taken_at, ahead_of, behind_of, line_at, past_of, room_x_of, IsPairStored, IsLeanWithin, IsLineWithin}

-- ---- how far one pair reaches
pub upright_in : IsLeanWithin farthest upright
upright_in = let zero = widened farthest (natural_in 0) (lit≤ tt) in record { back = zero; forth = zero }

pub base_lean_in : (base : MathBox) (large : Bool) → IsStored base → IsLeanWithin farthest (base_lean_of base large)
unfolding base_lean_of
base_lean_in base true b = record { back = b.italic; forth = widened farthest (natural_in 0) (lit≤ tt) }
base_lean_in base false b = record { back = widened farthest (natural_in 0) (lit≤ tt); forth = b.italic }

pub sub_start_in : (lean : Lean) (pair : Pair) → IsLeanWithin farthest lean → IsPairStored pair → IsWithin (2 ^ 31) (sub_start_of lean pair)
unfolding sub_start_of
sub_start_in lean pair l p =
    choice_in pair.before (difference_in (max_in p.sub.width p.sup.width) p.sub.width) (difference_in (natural_in 0) l.back)

pub sup_start_in : (lean : Lean) (pair : Pair) → IsLeanWithin farthest lean → IsPairStored pair → IsWithin (2 ^ 31) (sup_start_of lean pair)
unfolding sup_start_of
sup_start_in lean pair l p =
    choice_in pair.before (difference_in (max_in p.sub.width p.sup.width) p.sup.width) l.forth

pub room_in : (lean : Lean) (pair : Pair) → IsLeanWithin farthest lean → IsPairStored pair → IsWithin (2 ^ 32) (room_of lean pair)
unfolding room_of
room_in lean pair l p =
    widened (2 ^ 32) (max_in (sum_in (sub_start_in lean pair l p) p.sub.width) (sum_in (sup_start_in lean pair l p) p.sup.width)) (lit≤ tt)

-- ---- the lean
pub lean_at-zero : (base : MathBox) (large : Bool) (pairs : List Pair) → lean_at base large pairs 0 ≡ base_lean_of base large
unfolding lean_at
lean_at-zero base large pairs = refl

pub lean_at-add_one : (base : MathBox) (large : Bool) (pairs : List Pair) (i : ℕ) → i < length pairs
    → lean_at base large pairs (i + 1) ≡ cond (get_or pairs i no_pair).before (lean_at base large pairs i) upright
unfolding lean_at
lean_at-add_one base large pairs i l =
    let more : take (i + 1) pairs ≡ take i pairs ++ (get_or pairs i no_pair ∷ []) = rw add-one (take-suc pairs i no_pair l) in
    let all : list_all is_before (take (i + 1) pairs) ≡ (list_all is_before (take i pairs) && ((get_or pairs i no_pair).before && true)) =
    ap (list_all is_before) more ∙ list_all-append is_before (take i pairs) (get_or pairs i no_pair ∷ []) in
    ap (λ (v : Bool). cond v (base_lean_of base large) upright) all
    ∙ by (list_all is_before (take i pairs)) (get_or pairs i no_pair).before
  where
    by : (v w : Bool) → cond (v && (w && true)) (base_lean_of base large) upright ≡ cond w (cond v (base_lean_of base large) upright) upright
    by true true = refl
    by true false = refl
    by false true = refl
    by false false = refl

pub lean_at_in : (base : MathBox) (large : Bool) (pairs : List Pair) (i : ℕ) → IsStored base → IsLeanWithin farthest (lean_at base large pairs i)
unfolding lean_at
lean_at_in base large pairs i b = by (list_all is_before (take i pairs))
  where
    by : (v : Bool) → IsLeanWithin farthest (cond v (base_lean_of base large) upright)
    by true = base_lean_in base large b
    by false = upright_in

-- ---- one pair more
pub pair_stored : (pairs : List Pair) (i : ℕ) → i < length pairs → All IsPairStored pairs → IsPairStored (get_or pairs i no_pair)
pair_stored pairs i l all = All-get_or IsPairStored pairs i no_pair l all

pub line_at-zero : (space : ℤ) (base : MathBox) (large : Bool) (pairs : List Pair)
    → line_at space base large pairs 0 ≡ record { ahead = pos 0; behind = pos 0; lean = base_lean_of base large }
unfolding ahead_of behind_of lean_at
line_at-zero space base large pairs =
    let a = sum_to-zero (λ place. cond (get_or pairs place no_pair).before (taken_at space base large pairs place) (pos 0)) in
    let b = sum_to-zero (λ place. cond (get_or pairs place no_pair).before (pos 0) (taken_at space base large pairs place)) in
    λ k. record { ahead = a k; behind = b k; lean = base_lean_of base large }

-- what is added on one side only
either_side : (v : Bool) (ahead behind taken : ℤ) (lean : Lean)
    → record { ahead = ahead +ℤ cond v taken (pos 0); behind = behind +ℤ cond v (pos 0) taken; lean = cond v lean upright }
    ≡ cond {A = Line} v record { ahead = ahead +ℤ taken; behind = behind; lean = lean } record { ahead = ahead; behind = behind +ℤ taken; lean = upright }
either_side true ahead behind taken lean =
    let same : behind +ℤ pos 0 ≡ behind = omega (arith, signed) in
    λ k. record { ahead = ahead +ℤ taken; behind = same k; lean = lean }
either_side false ahead behind taken lean =
    let same : ahead +ℤ pos 0 ≡ ahead = omega (arith, signed) in
    λ k. record { ahead = same k; behind = behind +ℤ taken; lean = upright }

pub line_at-add_one : (space : ℤ) (base : MathBox) (large : Bool) (pairs : List Pair) (i : ℕ) → i < length pairs
    → line_at space base large pairs (i + 1) ≡ past_of space (line_at space base large pairs i) (get_or pairs i no_pair)
unfolding ahead_of behind_of past_of
line_at-add_one space base large pairs i l =
    let lean = lean_at-add_one base large pairs i l in
    let a = sum_to-add_one i (λ place. cond (get_or pairs place no_pair).before (taken_at space base large pairs place) (pos 0)) in
    let b = sum_to-add_one i (λ place. cond (get_or pairs place no_pair).before (pos 0) (taken_at space base large pairs place)) in
    let here = line_at space base large pairs i in
    (λ k. record { ahead = a k; behind = b k; lean = lean k })
    ∙ either_side (get_or pairs i no_pair).before here.ahead here.behind (taken_at space base large pairs i) here.lean

-- ---- how far all pairs reach
taken_at_in : (space : ℤ) (base : MathBox) (large : Bool) (pairs : List Pair) (i : ℕ) → i < length pairs
    → IsWithin (2 ^ 32) space → IsStored base → All IsPairStored pairs → IsWithin (2 ^ 33) (taken_at space base large pairs i)
taken_at_in space base large pairs i l s b all =
    sum_in s (room_in _ _ (lean_at_in base large pairs i b) (pair_stored pairs i l all))

pub line_at_in : (space : ℤ) (base : MathBox) (large : Bool) (pairs : List Pair) (n : ℕ) → n ≤ length pairs → length pairs ≤ 65536
    → IsWithin (2 ^ 32) space → IsStored base → All IsPairStored pairs → IsLineWithin (2 ^ 50) (line_at space base large pairs n)
unfolding ahead_of behind_of
line_at_in space base large pairs n l few s b all = record {
  ahead = widened (2 ^ 50) (sum_to_in n _ (λ i h. choice_in (get_or pairs i no_pair).before (taken_at_in space base large pairs i (omega arith) s b all) (natural_in 0))) (omega arith);
  behind = widened (2 ^ 50) (sum_to_in n _ (λ i h. choice_in (get_or pairs i no_pair).before (natural_in 0) (taken_at_in space base large pairs i (omega arith) s b all))) (omega arith);
  lean = lean_at_in base large pairs n b;
}

pub room_x_in : (space end : ℤ) (line : Line) (pair : Pair) → IsWithin (2 ^ 32) space → IsWithin (2 ^ 51) end → IsLineWithin (2 ^ 50) line
    → IsWithin (2 ^ 52) (room_x_of space end line pair)
unfolding room_x_of
room_x_in space end line pair s e l = widened (2 ^ 52) (choice_in pair.before (sum_in l.ahead s) (sum_in e l.behind)) (lit≤ tt)

-- as a loop has it, whose line is that of the pairs so far
pub line_so_far : (space given : ℤ) (base : MathBox) (large : Bool) (pairs : List Pair) (n : ℕ) (line : Line) → given ≡ space
    → line ≡ line_at given base large pairs n → n ≤ length pairs → length pairs ≤ 65536
    → IsWithin (2 ^ 32) space → IsStored base → All IsPairStored pairs → IsLineWithin (2 ^ 50) line
line_so_far space given base large pairs n line same is l few s b all =
    subst (IsLineWithin (2 ^ 50)) (sym (is ∙ ap (λ (z : ℤ). line_at z base large pairs n) same)) (line_at_in space base large pairs n l few s b all)

-- ---- one place more
pub one_spot : (i : ℕ) (f : ℕ → Spot) (before after : List Spot) (x y : ℤ) → before ≡ list_to i f → after ≡ before ++ spot x y ∷ []
    → x ≡ (f i).x → y ≡ (f i).y → after ≡ list_to (i + 1) f
one_spot i f before after x y so_far added p q =
    added ∙ (λ k. so_far k ++ spot (p k) (q k) ∷ []) ∙ sym (list_to-add_one i f)
