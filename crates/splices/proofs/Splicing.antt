-- A splice is taken back by its inverse, and what stays is moved.
use Rattle.std.proofs.Common.{◌≡◌, ◌∙◌, inl, inr, refl, sym, ap, subst, ℕ, suc, ◌+◌, ◌≤◌, arith, List, length, length-set, insert, remove, set, Option, slice_get}
use Rattle.splices.proofs.Places.{some_at, insert_before, insert_behind, remove_before, remove_behind, set_elsewhere, length_insert, length_remove, remove_inserted, insert_removed, set_back}
use Rattle.splices.specs.Laws.{InverseLaw, LengthLaw, MovesLaw}
use Rattle.splices.specs.Splicing.{FitsIn, Moves, inverse, room_back, site_of, spliced, taken}
use Rattle.splices.specs.declared.site.Site.TheVariants.{Take as TakeAt, Swap as SwapAt}
use Rattle.splices.specs.declared.splice.Splice.{Splice}
use Rattle.splices.specs.declared.splice.Splice.TheVariants.{Stay, Put, Take, Swap}

module _ {A : Type 0} where
  -- ---- back

  pub led_back : (splice : Splice A) (list : List A) (room : ℕ) → FitsIn splice list
      → spliced (inverse (site_of splice) (taken splice list) room) (spliced splice list) ≡ list
  led_back Stay list room fits = refl
  led_back (Put index item own) list room fits = remove_inserted list index item fits.0
  led_back (Take index) list room fits =
      let there = some_at list index fits in
      ap (λ (o : Option A). spliced (inverse (TakeAt index) o room) (remove list index)) there.1 ∙ insert_removed list index there.0 there.1
  led_back (Swap index item) list room fits =
      let there = some_at list index fits in
      ap (λ (o : Option A). spliced (inverse (SwapAt index) o room) (set list index item)) there.1 ∙ set_back list index there.0 item there.1

  pub fits_back : (splice : Splice A) (list : List A) (room : ℕ) → FitsIn splice list → room_back splice list ≤ room
      → FitsIn (inverse (site_of splice) (taken splice list) room) (spliced splice list)
  fits_back Stay list room fits some = tt
  fits_back (Put index item own) list room fits some = omega (arith, length_insert list index item fits.0, fits.0)
  fits_back (Take index) list room fits some =
      let there = some_at list index fits in
      subst (λ (o : Option A). FitsIn (inverse (TakeAt index) o room) (remove list index)) (sym there.1)
      (omega (arith, length_remove list index fits, fits), omega (arith, length_remove list index fits, some))
  fits_back (Swap index item) list room fits some =
      let there = some_at list index fits in
      subst (λ (o : Option A). FitsIn (inverse (SwapAt index) o room) (set list index item)) (sym there.1)
      (omega (arith, length-set list index item, fits))

  -- it takes no more room than there are items
  pub few_put_back : (splice : Splice A) (list : List A) → room_back splice list ≤ length list
  few_put_back Stay list = omega arith
  few_put_back (Put index item room) list = omega arith
  few_put_back (Take index) list = omega arith
  few_put_back (Swap index item) list = omega arith

  -- ---- what stays

  pub moved : (splice : Splice A) (list : List A) (before after : ℕ) → FitsIn splice list → Moves (site_of splice) before after
      → slice_get (spliced splice list) after ≡ slice_get list before
  moved Stay list before after fits h = ap (slice_get list) (sym h)
  moved (Put index item room) list before after fits (inl h) = insert_before list index after item fits.0 h.0 ∙ ap (slice_get list) (sym h.1)
  moved (Put index item room) list before after fits (inr h) =
      let next : suc before ≡ after = omega (arith, h.1) in
      ap (slice_get (insert list index item)) (sym next) ∙ insert_behind list index before item fits.0 (omega (arith, h.0, h.1))
  moved (Take index) list before after fits (inl h) = remove_before list index after fits h.0 ∙ ap (slice_get list) (sym h.1)
  moved (Take index) list before after fits (inr h) =
      let next : suc after ≡ before = omega (arith, h.1) in
      remove_behind list index after fits h.0 ∙ ap (slice_get list) next
  moved (Swap index item) list before after fits h = set_elsewhere list index after item h.1 ∙ ap (slice_get list) (sym h.0)

  -- ---- lengths

  pub one_more : (splice : Splice A) (list : List A) → FitsIn splice list → length (spliced splice list) ≤ length list + 1
  one_more Stay list fits = omega arith
  one_more (Put index item room) list fits = omega (arith, length_insert list index item fits.0)
  one_more (Take index) list fits = omega (arith, length_remove list index fits)
  one_more (Swap index item) list fits = omega (arith, length-set list index item)

  pub one_less : (splice : Splice A) (list : List A) → FitsIn splice list → length list ≤ length (spliced splice list) + 1
  one_less Stay list fits = omega arith
  one_less (Put index item room) list fits = omega (arith, length_insert list index item fits.0)
  one_less (Take index) list fits = omega (arith, length_remove list index fits)
  one_less (Swap index item) list fits = omega (arith, length-set list index item)

-- ---- the laws

pub inverse_law : {A : Type 0} → InverseLaw A
inverse_law splice list room fits = record { back = led_back splice list room fits; fits = fits_back splice list room fits }

pub moves_law : {A : Type 0} → MovesLaw A
moves_law splice list before after fits h = moved splice list before after fits h

pub length_law : {A : Type 0} → LengthLaw A
length_law splice list fits = (one_more splice list fits, one_less splice list fits)
