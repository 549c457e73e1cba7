-- Loops that drop entries in place, from the last one on.
use Rattle.std.proofs.Common.{◌≡◌, ◌∙◌, refl, sym, ap, ℕ, zero, suc, ◌+◌, ◌<◌, ◌≤◌, arith, Bool, true, false, cond, List, [], ◌∷◌, ◌++◌, append_assoc, drop, drop-cons, filter, get_or, length, length-append, length-take, map, remove, set, take, Option, None, Some, slice_get}
use Rattle.std.proofs.lemmas.List.{take_more}
use Rattle.std.specs.Option.{option_map_or}
use Rattle.kept_results.specs.Ends.{all_undone, restored, settled, settled_all, undone_from}
use Rattle.kept_results.specs.Kept.{is_live}
use Rattle.kept_results.specs.declared.memo.Before.{Before}
use Rattle.kept_results.specs.declared.memo.Entry.{Entry}
use Rattle.kept_results.specs.declared.memo.Origin.{Origin}
use Rattle.kept_results.specs.declared.memo.Origin.TheVariants.{Made, Remade, Standing}

-- the first entries are as they were, and of the others those that are kept
pub record Dropped (kept : List Entry → List Entry) (before now : List Entry) (left : ℕ) : Type 0 where
  pub is : now ≡ take left before ++ kept (drop left before)
  pub within : left ≤ length before

-- ---- the item between two parts of a list

module _ {X : Type 0} where
  mid_get : (f r : List X) (x d : X) → get_or (f ++ x ∷ r) (length f) d ≡ x
  mid_get [] r x d = refl
  mid_get (y ∷ f) r x d = mid_get f r x d

  mid_remove : (f r : List X) (x : X) → remove (f ++ x ∷ r) (length f) ≡ f ++ r
  mid_remove [] r x = refl
  mid_remove (y ∷ f) r x = ap (λ l. y ∷ l) (mid_remove f r x)

  pub remove_set : (xs : List X) (i : ℕ) (x : X) → remove (set xs i x) i ≡ remove xs i
  remove_set [] i x = refl
  remove_set (y ∷ xs) zero x = refl
  remove_set (y ∷ xs) (suc i) x = ap (λ l. y ∷ l) (remove_set xs i x)

  mid_set : (f r : List X) (x y : X) → set (f ++ x ∷ r) (length f) y ≡ f ++ y ∷ r
  mid_set [] r x y = refl
  mid_set (z ∷ f) r x y = ap (λ l. z ∷ l) (mid_set f r x y)

-- ---- one entry less is left

module _ (kept : List Entry → List Entry) (before now : List Entry) (left at : ℕ) (e : at + 1 ≡ left) (h : Dropped kept before now left) where
  rest : List Entry
  rest = drop (suc at) before

  inside : at < length before
  inside = omega (arith, e, h.within)

  front_length : length (take at before) ≡ at
  front_length = let l = length-take at before in let i = inside in omega arith

  split : (d : Entry) → now ≡ take at before ++ get_or before at d ∷ kept (drop (suc at) before)
  split d =
      let one : suc at ≡ left = omega (arith, e) in
      h.is
      ∙ ap (λ n. take n before ++ kept (drop n before)) (sym e)
      ∙ ap (λ l. l ++ kept (drop (at + 1) before)) (take_more before at d inside)
      ∙ append_assoc (take at before) (get_or before at d ∷ []) (kept (drop (at + 1) before))
      ∙ ap (λ n. take at before ++ get_or before at d ∷ kept (drop n before)) (e ∙ sym one)

  pub near : (d : Entry) → at < length now
  near d = omega (arith, ap length (split d), length-append (take at before) (get_or before at d ∷ kept (drop (suc at) before)), front_length)

  pub read : (x : Entry) → x ≡ get_or now at x → x ≡ get_or before at x
  read x is =
      is ∙ ap (λ l. get_or l at x) (split x)
      ∙ ap (λ n. get_or (take at before ++ get_or before at x ∷ kept (drop (suc at) before)) n x) (sym front_length)
      ∙ mid_get (take at before) (kept (drop (suc at) before)) (get_or before at x) x

  after : (x : Entry) → x ≡ get_or before at x → drop at before ≡ x ∷ drop (suc at) before
  after x is = drop-cons before at x inside ∙ ap (λ y. y ∷ drop (suc at) before) (sym is)

  parts : (x : Entry) → x ≡ get_or before at x → now ≡ take at before ++ x ∷ kept (drop (suc at) before)
  parts x is = split x ∙ ap (λ y. take at before ++ y ∷ kept (drop (suc at) before)) (sym is)

  pub turn_remove : (x : Entry) → x ≡ get_or before at x → kept (x ∷ drop (suc at) before) ≡ kept (drop (suc at) before) → Dropped kept before (remove now at) at
  turn_remove x is k = record {
    is = ap (λ l. remove l at) (parts x is)
        ∙ ap (remove (take at before ++ x ∷ kept (drop (suc at) before))) (sym front_length)
        ∙ mid_remove (take at before) (kept (drop (suc at) before)) x
        ∙ ap (λ l. take at before ++ l) (sym k ∙ ap kept (sym (after x is)));
    within = let i = inside in omega arith;
  }

  pub turn_stay : (x : Entry) → x ≡ get_or before at x → kept (x ∷ drop (suc at) before) ≡ x ∷ kept (drop (suc at) before) → Dropped kept before now at
  turn_stay x is k = record {
    is = parts x is ∙ ap (λ l. take at before ++ l) (sym k ∙ ap kept (sym (after x is)));
    within = let i = inside in omega arith;
  }

  pub turn_set : (x y : Entry) → x ≡ get_or before at x → kept (x ∷ drop (suc at) before) ≡ y ∷ kept (drop (suc at) before) → Dropped kept before (set now at y) at
  turn_set x y is k = record {
    is = ap (λ l. set l at y) (parts x is)
        ∙ ap (λ n. set (take at before ++ x ∷ kept (drop (suc at) before)) n y) (sym front_length)
        ∙ mid_set (take at before) (kept (drop (suc at) before)) x y
        ∙ ap (λ l. take at before ++ l) (sym k ∙ ap kept (sym (after x is)));
    within = let i = inside in omega arith;
  }

-- ---- which are kept

made_goes : (x : Entry) (l : List Entry) → x.origin ≡ Made → all_undone (x ∷ l) ≡ all_undone l
made_goes x l h = ap (λ (origin : Origin). undone_from origin x ++ all_undone l) h

standing_stays : (x : Entry) (l : List Entry) → x.origin ≡ Standing → all_undone (x ∷ l) ≡ x ∷ all_undone l
standing_stays x l h = ap (λ (origin : Origin). undone_from origin x ++ all_undone l) h

remade_back : (x : Entry) (was : List Before) (before : Before) (l : List Entry) → x.origin ≡ Remade was → slice_get was 0 ≡ Some before → all_undone (x ∷ l) ≡ restored x before ∷ all_undone l
remade_back x was before l h e =
    ap (λ (origin : Origin). undone_from origin x ++ all_undone l) h
    ∙ ap (λ (o : Option Before). option_map_or (λ (b : Before). restored x b ∷ []) o [] ++ all_undone l) e

remade_goes : (x : Entry) (was : List Before) (l : List Entry) → x.origin ≡ Remade was → slice_get was 0 ≡ None → all_undone (x ∷ l) ≡ all_undone l
remade_goes x was l h e =
    ap (λ (origin : Origin). undone_from origin x ++ all_undone l) h
    ∙ ap (λ (o : Option Before). option_map_or (λ (b : Before). restored x b ∷ []) o [] ++ all_undone l) e

older_goes : (marked : Bool) (x : Entry) (l : List Entry) → is_live marked x ≡ false → settled_all marked (x ∷ l) ≡ settled_all marked l
older_goes marked x l h = ap (λ (b : Bool). map settled (cond b (x ∷ filter (is_live marked) l) (filter (is_live marked) l))) h

live_stays : (marked : Bool) (x : Entry) (l : List Entry) → is_live marked x ≡ true → settled_all marked (x ∷ l) ≡ settled x ∷ settled_all marked l
live_stays marked x l h = ap (λ (b : Bool). map settled (cond b (x ∷ filter (is_live marked) l) (filter (is_live marked) l))) h

module _ (before now : List Entry) (left at : ℕ) (e : at + 1 ≡ left) (x : Entry) (is : x ≡ get_or now at x) where
  pub made_out : Dropped all_undone before now left → x.origin ≡ Made → Dropped all_undone before (remove now at) at
  made_out h f = turn_remove all_undone before now left at e h x (read all_undone before now left at e h x is) (made_goes x (drop (suc at) before) f)

  pub standing_in : Dropped all_undone before now left → x.origin ≡ Standing → Dropped all_undone before now at
  standing_in h f = turn_stay all_undone before now left at e h x (read all_undone before now left at e h x is) (standing_stays x (drop (suc at) before) f)

  pub remade_in : (was : List Before) (one : Before) → Dropped all_undone before now left → x.origin ≡ Remade was → slice_get was 0 ≡ Some one → Dropped all_undone before (set now at (restored x one)) at
  remade_in was one h f g =
      turn_set all_undone before now left at e h x (restored x one) (read all_undone before now left at e h x is) (remade_back x was one (drop (suc at) before) f g)

  pub remade_out : (was : List Before) → Dropped all_undone before now left → x.origin ≡ Remade was → slice_get was 0 ≡ None → Dropped all_undone before (remove now at) at
  remade_out was h f g = turn_remove all_undone before now left at e h x (read all_undone before now left at e h x is) (remade_goes x was (drop (suc at) before) f g)

  pub older_out : (marked : Bool) → Dropped (settled_all marked) before now left → is_live marked x ≡ false → Dropped (settled_all marked) before (remove now at) at
  older_out marked h f =
      turn_remove (settled_all marked) before now left at e h x (read (settled_all marked) before now left at e h x is) (older_goes marked x (drop (suc at) before) f)

  pub live_in : (marked : Bool) → Dropped (settled_all marked) before now left → is_live marked x ≡ true → Dropped (settled_all marked) before (set now at (settled x)) at
  live_in marked h f =
      turn_set (settled_all marked) before now left at e h x (settled x) (read (settled_all marked) before now left at e h x is) (live_stays marked x (drop (suc at) before) f)
