-- Where what stands in a spliced list comes from.
use Rattle.std.proofs.Common.{◌≡◌, ◌∙◌, ◌⊎◌, inl, inr, refl, sym, ap, subst, ℕ, zero, suc, ◌-◌, ◌<◌, ◌≤◌, arith, List, insert, length, remove, set, Some, slice_get}
use Rattle.std.proofs.lemmas.Option.{same_Some}
use Rattle.splices.proofs.Places.{insert_before, insert_behind, insert_here, remove_before, remove_behind, set_elsewhere, set_here, some_at}
use Rattle.splices.specs.Laws.{OriginLaw}
use Rattle.splices.specs.Splicing.{AllBrought, Brings, FitsIn, Moves, site_of, spliced}
use Rattle.splices.specs.declared.splice.Splice.{Splice}
use Rattle.splices.specs.declared.splice.Splice.TheVariants.{Stay, Put, Take, Swap}

-- ---- two places

abbrev Compared : ℕ → ℕ → Type 0
Compared i j = (j < i) ⊎ ((j ≡ i) ⊎ (i < j))

compared_next : (i j : ℕ) → Compared i j → Compared (suc i) (suc j)
compared_next i j (inl l) = inl (omega (arith, l))
compared_next i j (inr (inl e)) = inr (inl (ap suc e))
compared_next i j (inr (inr l)) = inr (inr (omega (arith, l)))

compared : (i j : ℕ) → Compared i j
compared zero zero = inr (inl refl)
compared zero (suc j) = inr (inr (omega arith))
compared (suc i) zero = inl (omega arith)
compared (suc i) (suc j) = compared_next i j (compared i j)

-- ---- what stands at a place

module _ {A : Type 0} (list : List A) (index place : ℕ) (x : A) where
  abbrev From : Splice A → Type 0
  From splice = Brings splice place x ⊎ ((before : ℕ) × Moves (site_of splice) before place × (slice_get list before ≡ Some x))

  of_put : (item : A) (room : ℕ) → index ≤ length list → slice_get (insert list index item) place ≡ Some x → Compared index place → From (Put index item room)
  of_put item room w at (inl l) = inr (place, inl (l, refl), sym (insert_before list index place item w l) ∙ at)
  of_put item room w at (inr (inl e)) =
      inl (e, same_Some x item (sym at ∙ ap (slice_get (insert list index item)) e ∙ insert_here list index item w))
  of_put item room w at (inr (inr l)) =
      let up : suc (place - 1) ≡ place = omega (arith, l) in
      inr (
        place - 1,
        inr (l, omega (arith, l)),
        sym (insert_behind list index (place - 1) item w (omega (arith, l))) ∙ ap (slice_get (insert list index item)) up ∙ at,
      )

  behind_taken : index < length list → slice_get (remove list index) place ≡ Some x → index ≤ place → From (Take index)
  behind_taken w at l = inr (suc place, inr (l, omega arith), sym (remove_behind list index place w l) ∙ at)

  of_take : index < length list → slice_get (remove list index) place ≡ Some x → Compared index place → From (Take index)
  of_take w at (inl l) = inr (place, inl (l, refl), sym (remove_before list index place w l) ∙ at)
  of_take w at (inr (inl e)) = behind_taken w at (omega (arith, e))
  of_take w at (inr (inr l)) = behind_taken w at (omega (arith, l))

  elsewhere : (item : A) → slice_get (set list index item) place ≡ Some x → (place ≡ index → ⊥) → From (Swap index item)
  elsewhere item at other = inr (place, (refl, other), sym (set_elsewhere list index place item other) ∙ at)

  of_swap : (item : A) → index < length list → slice_get (set list index item) place ≡ Some x → Compared index place → From (Swap index item)
  of_swap item w at (inl l) = elsewhere item at (λ e. omega (arith, l, e))
  of_swap item w at (inr (inl e)) =
      let was = some_at list index w in
      inl (e, same_Some x item (sym at ∙ ap (slice_get (set list index item)) e ∙ set_here list index was.0 item was.1))
  of_swap item w at (inr (inr l)) = elsewhere item at (λ e. omega (arith, l, e))

module _ {A : Type 0} where
  pub comes : (splice : Splice A) (list : List A) (place : ℕ) (x : A) → FitsIn splice list → slice_get (spliced splice list) place ≡ Some x
      → Brings splice place x ⊎ ((before : ℕ) × Moves (site_of splice) before place × (slice_get list before ≡ Some x))
  comes Stay list place x fits at = inr (place, refl, at)
  comes (Put index item room) list place x fits at = of_put list index place x item room fits.0 at (compared index place)
  comes (Take index) list place x fits at = of_take list index place x fits at (compared index place)
  comes (Swap index item) list place x fits at = of_swap list index place x item fits at (compared index place)

  -- what holds of all that it brings holds of that item
  pub brought_holds : (P : A → Type 0) (splice : Splice A) (place : ℕ) (x : A) → AllBrought P splice → Brings splice place x → P x
  brought_holds P Stay place x all b = absurd b
  brought_holds P (Put index item room) place x all b = subst P (sym b.1) all
  brought_holds P (Take index) place x all b = absurd b
  brought_holds P (Swap index item) place x all b = subst P (sym b.1) all

  pub all_brought : (P : A → Type 0) (splice : Splice A) → ((place : ℕ) (x : A) → Brings splice place x → P x) → AllBrought P splice
  all_brought P Stay each = tt
  all_brought P (Put index item room) each = each index item (refl, refl)
  all_brought P (Take index) each = tt
  all_brought P (Swap index item) each = each index item (refl, refl)

  -- it stands there after it
  pub brought_there : (splice : Splice A) (list : List A) (place : ℕ) (x : A) → FitsIn splice list → Brings splice place x → slice_get (spliced splice list) place ≡ Some x
  brought_there Stay list place x fits b = absurd b
  brought_there (Put index item room) list place x fits b =
      ap (slice_get (insert list index item)) b.0 ∙ insert_here list index item fits.0 ∙ ap Some (sym b.1)
  brought_there (Take index) list place x fits b = absurd b
  brought_there (Swap index item) list place x fits b =
      let was = some_at list index fits in
      ap (slice_get (set list index item)) b.0 ∙ set_here list index was.0 item was.1 ∙ ap Some (sym b.1)

  -- and what holds of each item before and of all that it brings holds of each item after
  pub each_spliced : (P : A → Type 0) (splice : Splice A) (list : List A) → FitsIn splice list → AllBrought P splice
      → ((i : ℕ) (x : A) → slice_get list i ≡ Some x → P x) → (i : ℕ) (x : A) → slice_get (spliced splice list) i ≡ Some x → P x
  each_spliced P splice list fits all each i x at =
      elim (comes splice list i x fits at) [ inl b ↦ brought_holds P splice i x all b | inr t ↦ each t.0 x t.2 ]

pub origin_law : {A : Type 0} → OriginLaw A
origin_law splice list place item fits at = comes splice list place item fits at
