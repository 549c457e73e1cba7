-- The pieces of an assembly by the way along it, and how far that goes.
use Rattle.std.proofs.Common.{◌≡◌, ◌∙◌, sym, ap, subst, refl, ℕ, zero, suc, ◌+◌, ◌*◌, ◌^◌, ◌≤◌, ◌<◌, false, ℤ, pos, ◌+ℤ◌, ◌-ℤ◌, ◌≤ℤ◌, List, [], ◌∷◌, ◌++◌, length, map, take, drop, get_or, replicate, arith, append-nil}
use Rattle.std.specs.List.{All, flat_map}
use Rattle.std.proofs.lemmas.List.Elements.{All-head, All-tail, All-append, All-replicate, All-nil, All-get_or}
use Rattle.std.proofs.lemmas.List.Concat.{flat_map-append}
use Rattle.std.proofs.lemmas.List.{length-append, length-replicate, take_more, take-append-drop}
use Rattle.fixed_units.specs.Numbers.{IsWithin}
use Rattle.fixed_units.proofs.Signed.{signed}
use Rattle.fixed_units.proofs.Within.{difference_in, sum_in, widened}
use Rattle.font_metrics.proofs.Bounds.{length_scale_within}
use Rattle.font_metrics.specs.Metrics.{MetricsValue, scale_of}
use Rattle.font_metrics.specs.Taken.{IsPart, IsTaken}
use Rattle.font_metrics.specs.declared.growth.Part.{Part}
use Rattle.paint_list.specs.Pieces.{IsAssembly, built_paints, each_behind, piece_at, pieces_in, pieces_of, start_behind, step_of, times, total}
use Rattle.paint_list.specs.Running.{laid_from, start_after}
use Rattle.paint_list.specs.declared.paints.Paint.{Paint}
use Rattle.paint_list.specs.declared.pieces.Assembly.{Assembly}

-- what stands for a part that isn't there
abbrev pub no_part : Part
no_part = record { glyph = record { 0 = 0 }; extender = false; start = pos 0; end = pos 0; full = pos 0 }

-- ---- one behind the other

total-append : (zs : List ℤ) (z : ℤ) → total (zs ++ z ∷ []) ≡ total zs +ℤ z
total-append [] z = omega (arith, signed)
total-append (y ∷ ys) z = ap (λ t. y +ℤ t) (total-append ys z) ∙ omega (arith, signed)

map-more : {A B : Type 0} (f : A → B) (xs : List A) (x : A) → map f (xs ++ x ∷ []) ≡ map f xs ++ f x ∷ []
map-more f [] x = refl
map-more f (y ∷ ys) x = ap (λ l. f y ∷ l) (map-more f ys x)

module _ (m : MetricsValue) (built : Assembly) where
  pub laid-append : (start : ℤ) (xs ys : List Part)
      → laid_from m built start (xs ++ ys) ≡ laid_from m built start xs ++ laid_from m built (start_after m built start xs) ys
  unfolding laid_from start_after
  laid-append start [] ys = refl
  laid-append start (x ∷ xs) ys =
      ap (λ l. piece_at m built x start ∷ l) (laid-append (start +ℤ step_of m built x) xs ys)

  pub after-append : (start : ℤ) (xs ys : List Part)
      → start_after m built start (xs ++ ys) ≡ start_after m built (start_after m built start xs) ys
  unfolding start_after
  after-append start [] ys = refl
  after-append start (x ∷ xs) ys = after-append (start +ℤ step_of m built x) xs ys

  pub laid-more : (start : ℤ) (xs : List Part) (part : Part)
      → laid_from m built start (xs ++ part ∷ [])
      ≡ laid_from m built start xs ++ piece_at m built part (start_after m built start xs) ∷ []
  unfolding laid_from
  laid-more start xs part = laid-append start xs (part ∷ [])

  pub after-more : (start : ℤ) (xs : List Part) (part : Part)
      → start_after m built start (xs ++ part ∷ []) ≡ start_after m built start xs +ℤ step_of m built part
  unfolding start_after
  after-more start xs part = after-append start xs (part ∷ [])

  start-more : (before : List Part) (part : Part)
      → start_behind m built (before ++ part ∷ []) ≡ start_behind m built before +ℤ step_of m built part
  start-more before part =
      ap total (map-more (step_of m built) before part) ∙ total-append (map (step_of m built) before) (step_of m built part)

  -- each piece at the sum over those before it, and each at the start that the one before it leaves
  behind_is_laid : (before parts : List Part)
      → each_behind (λ before part. piece_at m built part (start_behind m built before)) before parts
      ≡ laid_from m built (start_behind m built before) parts
  unfolding laid_from
  behind_is_laid before [] = refl
  behind_is_laid before (part ∷ parts) =
      ap (λ l. piece_at m built part (start_behind m built before) ∷ l)
      (behind_is_laid (before ++ part ∷ []) parts ∙ ap (λ s. laid_from m built s parts) (start-more before part))

  pub built_is_laid : built_paints m built ≡ laid_from m built (pos 0) (pieces_in m built)
  unfolding built_paints
  built_is_laid = behind_is_laid [] (pieces_in m built)

  laid-length : (start : ℤ) (parts : List Part) → length (laid_from m built start parts) ≡ length parts
  unfolding laid_from
  laid-length start [] = refl
  laid-length start (part ∷ parts) = ap suc (laid-length (start +ℤ step_of m built part) parts)

  -- as many are painted as there are pieces
  pub built_length : length (built_paints m built) ≡ length (pieces_in m built)
  built_length = ap length built_is_laid ∙ laid-length (pos 0) (pieces_in m built)

  -- ---- how far

  -- a piece leads no farther than this
  pub step_within : (part : Part) → IsTaken m → IsAssembly m built → IsPart (length m.glyphs) part → IsWithin (2 ^ 34) (step_of m built part)
  unfolding step_of
  step_within part taken is h =
      widened (2 ^ 34) (difference_in (length_scale_within m part.full built.size taken h.full is.size_low is.size_high) is.overlap) (omega arith)

  pub after_within : (start : ℤ) (n : ℕ) (parts : List Part) → IsTaken m → IsAssembly m built → All (IsPart (length m.glyphs)) parts
      → IsWithin (n * 2 ^ 34) start → IsWithin ((n + length parts) * 2 ^ 34) (start_after m built start parts)
  unfolding start_after
  after_within start n [] taken is all h = widened ((n + 0) * 2 ^ 34) h (omega arith)
  after_within start n (part ∷ parts) taken is all h =
      let here = sum_in h (step_within part taken is (All-head (IsPart (length m.glyphs)) part parts all)) in
      let next = widened ((n + 1) * 2 ^ 34) here (omega arith) in
      widened ((n + length (part ∷ parts)) * 2 ^ 34)
      (after_within (start +ℤ step_of m built part) (n + 1) parts taken is (All-tail (IsPart (length m.glyphs)) part parts all) next) (omega arith)

  -- pieces of one part lead so far
  pub same_within : (start : ℤ) (n k : ℕ) (part : Part) → IsWithin (2 ^ 34) (step_of m built part) → IsWithin (n * 2 ^ 34) start
      → IsWithin ((n + k) * 2 ^ 34) (start_after m built start (replicate k part))
  unfolding start_after
  same_within start n zero part near h = widened ((n + 0) * 2 ^ 34) h (omega arith)
  same_within start n (suc k) part near h =
      widened ((n + suc k) * 2 ^ 34)
      (same_within (start +ℤ step_of m built part) (n + 1) k part near (widened ((n + 1) * 2 ^ 34) (sum_in h near) (omega arith))) (omega arith)

-- ---- the pieces of some of the parts

pub pieces-append : (count : ℤ) (xs ys : List Part) → pieces_of count (xs ++ ys) ≡ pieces_of count xs ++ pieces_of count ys
unfolding pieces_of
pieces-append count xs ys = flat_map-append (λ part. replicate (times count part) part) xs ys

pieces-one : (count : ℤ) (part : Part) → pieces_of count (part ∷ []) ≡ replicate (times count part) part
unfolding pieces_of
pieces-one count part = append-nil (replicate (times count part) part)

pub pieces-more : (count : ℤ) (parts : List Part) (i : ℕ) (d part : Part) → i < length parts → part ≡ get_or parts i d
    → pieces_of count (take (i + 1) parts) ≡ pieces_of count (take i parts) ++ replicate (times count part) part
pieces-more count parts i d part below is =
    ap (pieces_of count) (take_more parts i d below)
    ∙ pieces-append count (take i parts) (get_or parts i d ∷ [])
    ∙ ap (λ p. pieces_of count (take i parts) ++ p) (pieces-one count (get_or parts i d) ∙ ap (λ p. replicate (times count p) p) (sym is))

pub pieces-few : (count : ℤ) (parts : List Part) (i : ℕ) → length (pieces_of count (take i parts)) ≤ length (pieces_of count parts)
pieces-few count parts i =
    let e : length (pieces_of count parts) ≡ length (pieces_of count (take i parts)) + length (pieces_of count (drop i parts)) =
    ap (λ l. length (pieces_of count l)) (sym (take-append-drop i parts))
    ∙ ap length (pieces-append count (take i parts) (drop i parts))
    ∙ length-append (pieces_of count (take i parts)) (pieces_of count (drop i parts)) in
    omega arith

pub pieces-length-more : (count : ℤ) (parts : List Part) (i : ℕ) (d part : Part) → i < length parts → part ≡ get_or parts i d
    → length (pieces_of count (take (i + 1) parts)) ≡ length (pieces_of count (take i parts)) + times count part
pieces-length-more count parts i d part below is =
    ap length (pieces-more count parts i d part below is)
    ∙ length-append (pieces_of count (take i parts)) (replicate (times count part) part)
    ∙ ap (λ n. length (pieces_of count (take i parts)) + n) (length-replicate (times count part) part)

pub pieces_are_parts : (P : Part → Type 0) (count : ℤ) (parts : List Part) → All P parts → All P (pieces_of count parts)
unfolding pieces_of
pieces_are_parts P count [] all = All-nil P
pieces_are_parts P count (part ∷ parts) all =
    All-append P (replicate (times count part) part) (pieces_of count parts)
    (All-replicate P (times count part) part (All-head P part parts all)) (pieces_are_parts P count parts (All-tail P part parts all))
