-- One step on the way to a memo that is changed.
use Rattle.std.proofs.Common.{◌≡◌, ◌∙◌, refl, sym, ap, subst, ℕ, ◌-◌, arith, List, [], ◌∷◌, drop, get_or, length, set, take, Option, Some, slice_get}
use Rattle.std.proofs.lemmas.List.{take_all}
use Rattle.std.specs.Option.{option_and_then, option_map_or}
use Rattle.splices.specs.Splicing.{spliced, taken}
use Rattle.splices.specs.declared.splice.Splice.{Splice}
use Rattle.kept_results.specs.declared.memo.Memo.{Memo}
use Rattle.kept_results.specs.declared.memo.Memo.TheOpen.{Memo-F}
use Rattle.kept_results.specs.declared.memo.Memo.TheViews.{out-Memo, out-roll-Memo}
use Rattle.kept_edits.specs.Changed.{FitsMemo, renewed, spliced_at, taken_from, with_below, without_mark}
use Rattle.kept_edits.specs.declared.change.Renewal.{Renewal}

-- a way that isn't empty is its first place and the rest
split : (path : List ℕ) → (length path ≡ 0 → ⊥) → path ≡ get_or path 0 0 ∷ take (length path - 1) (drop 1 path)
split [] h = absurd (h refl)
split (place ∷ path) h = ap (λ (l : List ℕ). place ∷ l) (sym (take_all (length (place ∷ path) - 1) path (omega arith)))

abbrev first_of : List ℕ → ℕ
first_of path = get_or path 0 0

abbrev rest_of : List ℕ → List ℕ
rest_of path = take (length path - 1) (drop 1 path)

-- the memo of the child on the way
pub record FitsFurther (splice : Splice Memo) (path : List ℕ) (memo : Memo) : Type 0 where
  pub kept : Memo
  pub at : slice_get (out-Memo memo).below (get_or path 0 0) ≡ Some kept
  pub fits : FitsMemo splice (take (length path - 1) (drop 1 path)) kept

pub further : (splice : Splice Memo) (path : List ℕ) (memo : Memo) → (length path ≡ 0 → ⊥) → FitsMemo splice path memo → FitsFurther splice path memo
further splice path memo some fits =
    let f = subst (λ (p : List ℕ). FitsMemo splice p memo) (split path some) fits in
    record { kept = f.0; at = f.1; fits = f.2 }

pub fits_here : (splice : Splice Memo) (path : List ℕ) (memo : Memo) → length path ≡ 0 → FitsMemo splice path memo → FitsMemo splice [] memo
fits_here splice [] memo z fits = fits
fits_here splice (place ∷ path) memo z fits = absurd (omega (arith, z))

pub below_renewed : (own : Renewal) (memo new : Memo) → new ≡ renewed own memo → (out-Memo new).below ≡ (out-Memo memo).below
below_renewed own memo new e = ap (λ (m : Memo). (out-Memo m).below) e ∙ ap (λ (l : Memo-F Memo). l.below) (out-roll-Memo _)

pub below_unmarked : (memo new : Memo) → new ≡ without_mark memo → (out-Memo new).below ≡ (out-Memo memo).below
below_unmarked memo new e = ap (λ (m : Memo). (out-Memo m).below) e ∙ ap (λ (l : Memo-F Memo). l.below) (out-roll-Memo _)

module _ (along : List ℕ → Memo → Memo) (splice : Splice Memo) (memo new : Memo) where
  pub spliced_here : (path : List ℕ) (below : List Memo) → length path ≡ 0 → new ≡ along path memo → below ≡ spliced splice (out-Memo memo).below
      → with_below new below ≡ spliced_at along splice path memo
  spliced_here [] below z e b = λ i. with_below (e i) (b i)
  spliced_here (place ∷ path) below z e b = absurd (omega (arith, z))

  one_step : (place : ℕ) (rest : List ℕ) (kept after : Memo) → slice_get (out-Memo memo).below place ≡ Some kept → after ≡ spliced_at along splice rest kept
      → new ≡ along (place ∷ rest) memo → with_below new (set (out-Memo memo).below place after) ≡ spliced_at along splice (place ∷ rest) memo
  one_step place rest kept after at k e =
      let below : List Memo = (out-Memo memo).below in
      (λ i. with_below (e i) (set below place (k i)))
      ∙ ap (λ (found : Option Memo). with_below (along (place ∷ rest) memo) (option_map_or (λ z. set below place (spliced_at along splice rest z)) found below)) (sym at)

  pub spliced_further : (path : List ℕ) (below : List Memo) (kept after : Memo) → (length path ≡ 0 → ⊥) → below ≡ (out-Memo memo).below
      → slice_get (out-Memo memo).below (get_or path 0 0) ≡ Some kept → after ≡ spliced_at along splice (take (length path - 1) (drop 1 path)) kept
      → new ≡ along path memo → with_below new (set below (get_or path 0 0) after) ≡ spliced_at along splice path memo
  spliced_further path below kept after some b at k e =
      ap (λ (l : List Memo). with_below new (set l (first_of path) after)) b
      ∙ subst (λ (p : List ℕ). new ≡ along p memo → with_below new (set (out-Memo memo).below (first_of path) after) ≡ spliced_at along splice p memo)
      (sym (split path some)) (one_step (first_of path) (rest_of path) kept after at k) e

-- ---- what is taken out

pub taken_here : (splice : Splice Memo) (path : List ℕ) (memo : Memo) (below : List Memo) (result : Option Memo) → length path ≡ 0 → below ≡ (out-Memo memo).below
    → result ≡ taken splice below → result ≡ taken_from splice path memo
taken_here splice [] memo below result z b e = e ∙ ap (taken splice) b
taken_here splice (place ∷ path) memo below result z b e = absurd (omega (arith, z))

pub taken_further : (splice : Splice Memo) (path : List ℕ) (memo kept : Memo) (result : Option Memo) → (length path ≡ 0 → ⊥)
    → slice_get (out-Memo memo).below (get_or path 0 0) ≡ Some kept → result ≡ taken_from splice (take (length path - 1) (drop 1 path)) kept
    → result ≡ taken_from splice path memo
taken_further splice path memo kept result some at e =
    e ∙ ap (option_and_then (taken_from splice (rest_of path))) (sym at)
    ∙ ap (λ (p : List ℕ). taken_from splice p memo) (sym (split path some))
