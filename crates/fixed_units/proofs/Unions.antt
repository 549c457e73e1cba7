-- Boxes that are moved up and joined: how far they reach, and that a union is the farthest.
use Rattle.std.proofs.Common.{◌≡◌, ◌∙◌, refl, sym, ap, ℕ, suc, ◌+◌, ◌≤◌, max, ◌⊎◌, inl, inr, arith, List, [], ◌∷◌, map, fold, ℤ, ◌≤ℤ◌}
use Rattle.std.proofs.lemmas.Int.{fold-int_max_bounds, fold-int_max_reached}
use Rattle.std.proofs.lemmas.List.Elements.{All-cons, All-head, All-tail}
use Rattle.std.specs.Int.{int_max}
use Rattle.std.specs.List.{All, Contains}
use Rattle.fixed_units.specs.Boxes.{IsBoxWithin, raised, joined, all_joined, empty_box, IsLargest, IsUnion}
use Rattle.fixed_units.specs.Numbers.{IsWithin}
use Rattle.fixed_units.specs.declared.boxes.MathBox.{MathBox}
use Rattle.fixed_units.proofs.Within.{natural_in, widened, sum_in, difference_in, max_in}

-- ---- how far they reach
pub box_widened : {m : ℕ} (n : ℕ) {frame : MathBox} → IsBoxWithin m frame → m ≤ n → IsBoxWithin n frame
box_widened n p l = record {
  width = widened n p.width l;
  ascent = widened n p.ascent l;
  descent = widened n p.descent l;
  ink_ascent = widened n p.ink_ascent l;
  ink_descent = widened n p.ink_descent l;
  italic = widened n p.italic l;
  accent = widened n p.accent l;
}

pub empty_box_in : (m : ℕ) → IsBoxWithin m empty_box
empty_box_in m =
    let zero = widened m (natural_in 0) (omega arith) in
    record { width = zero; ascent = zero; descent = zero; ink_ascent = zero; ink_descent = zero; italic = zero; accent = zero }

pub raised_in : {m n : ℕ} {part : MathBox} {height : ℤ} → IsBoxWithin m part → IsWithin n height → IsBoxWithin (m + n) (raised part height)
unfolding raised
raised_in {m} {n} p h = record {
  width = widened (m + n) p.width (omega arith);
  ascent = sum_in p.ascent h;
  descent = difference_in p.descent h;
  ink_ascent = sum_in p.ink_ascent h;
  ink_descent = difference_in p.ink_descent h;
  italic = widened (m + n) p.italic (omega arith);
  accent = widened (m + n) p.accent (omega arith);
}

pub joined_in : {m n : ℕ} {first second : MathBox} → IsBoxWithin m first → IsBoxWithin n second → IsBoxWithin (max m n) (joined first second)
unfolding joined
joined_in {m} {n} p q = record {
  width = widened (max m n) p.width (omega arith);
  ascent = max_in p.ascent q.ascent;
  descent = max_in p.descent q.descent;
  ink_ascent = max_in p.ink_ascent q.ink_ascent;
  ink_descent = max_in p.ink_descent q.ink_descent;
  italic = widened (max m n) p.italic (omega arith);
  accent = widened (max m n) p.accent (omega arith);
}

folded_in : (m : ℕ) (frame : MathBox) (frames : List MathBox) → IsBoxWithin m frame → All (IsBoxWithin m) frames → IsBoxWithin m (fold joined frame frames)
folded_in m frame [] p all = p
folded_in m frame (next ∷ frames) p all =
    let one = joined_in p (All-head (IsBoxWithin m) next frames all) in
    folded_in m (joined frame next) frames (box_widened m one (omega arith)) (All-tail (IsBoxWithin m) next frames all)

pub all_joined_in : (m : ℕ) (frames : List MathBox) → All (IsBoxWithin m) frames → IsBoxWithin m (all_joined frames)
all_joined_in m [] all = empty_box_in m
all_joined_in m (frame ∷ frames) all =
    folded_in m frame frames (All-head (IsBoxWithin m) frame frames all) (All-tail (IsBoxWithin m) frame frames all)

-- ---- a union reaches as far as the farthest
module _ (measure : MathBox → ℤ) (larger : (a b : MathBox) → measure (joined a b) ≡ int_max (measure a) (measure b)) where
  measured : (frame : MathBox) (frames : List MathBox) → measure (fold joined frame frames) ≡ fold int_max (measure frame) (map measure frames)
  measured frame [] = refl
  measured frame (next ∷ frames) =
      measured (joined frame next) frames ∙ ap (λ most. fold int_max most (map measure frames)) (larger frame next)

  largest : (frame : MathBox) (frames : List MathBox) → IsLargest (map measure (frame ∷ frames)) (measure (fold joined frame frames))
  largest frame frames =
      let e = measured frame frames in
      let most = measure (fold joined frame frames) in
      let bounds = fold-int_max_bounds (measure frame) (map measure frames) most e in
      record {
        reached = one_of (fold-int_max_reached (measure frame) (map measure frames) most e);
        bound = All-cons (λ z. z ≤ℤ most) (measure frame) (map measure frames) bounds.0 bounds.1;
      }
    where
      one_of : {most : ℤ} → (most ≡ measure frame) ⊎ Contains (map measure frames) most → Contains (map measure (frame ∷ frames)) most
      one_of (inl e) = (0, omega arith, sym e)
      one_of (inr h) = (suc h.0, omega (arith, h.1), h.2)

ascents : (a b : MathBox) → (joined a b).ascent ≡ int_max a.ascent b.ascent
unfolding joined
ascents a b = refl

descents : (a b : MathBox) → (joined a b).descent ≡ int_max a.descent b.descent
unfolding joined
descents a b = refl

ink_ascents : (a b : MathBox) → (joined a b).ink_ascent ≡ int_max a.ink_ascent b.ink_ascent
unfolding joined
ink_ascents a b = refl

ink_descents : (a b : MathBox) → (joined a b).ink_descent ≡ int_max a.ink_descent b.ink_descent
unfolding joined
ink_descents a b = refl

pub all_joined_is_union : (frame : MathBox) (frames : List MathBox) → IsUnion (frame ∷ frames) (all_joined (frame ∷ frames))
all_joined_is_union frame frames = record {
  ascent = largest (λ b. b.ascent) ascents frame frames;
  descent = largest (λ b. b.descent) descents frame frames;
  ink_ascent = largest (λ b. b.ink_ascent) ink_ascents frame frames;
  ink_descent = largest (λ b. b.ink_descent) ink_descents frame frames;
}
