-- Runs of a changed memo: each entry that counts stood at one path before, and no two stood at one.
use Rattle.std.proofs.Common.{◌≡◌, ◌∙◌, ◌⊎◌, inl, inr, refl, sym, ap, subst, ℕ, arith, Bool, true, false, List, [], ◌∷◌, get_or, length, set, Option, Some, slice_get}
use Rattle.std.specs.Bool.{⊤}
use Rattle.std.specs.Option.{option_map_or}
use Rattle.splices.proofs.Alike.{alike_brought}
use Rattle.splices.proofs.Origins.{brought_holds, comes}
use Rattle.splices.specs.Splicing.{AllBrought, IsAlike, Moves, site_of, spliced}
use Rattle.splices.specs.declared.site.Site.{Site}
use Rattle.splices.specs.declared.site.Site.TheVariants.{Stay, Put, Take, Swap}
use Rattle.splices.specs.declared.splice.Splice.{Splice}
use Rattle.font_metrics.specs.Metrics.{MetricsValue}
use Rattle.math_tree.specs.declared.node.Node.{Node}
use Rattle.tree_edits.specs.Paths.{splice_of}
use Rattle.tree_edits.specs.declared.change.Change.{Change}
use Rattle.outcome_cells.specs.Store.{Runs}
use Rattle.kept_results.specs.Backed.{HaveOwnRuns, IsBacked}
use Rattle.kept_results.specs.Kept.{HasEntry, Holds, HoldsIn, is_live, is_marked}
use Rattle.kept_results.specs.Looking.{own_facts}
use Rattle.kept_results.specs.declared.memo.Entry.{Entry}
use Rattle.kept_results.specs.declared.memo.Memo.{Memo}
use Rattle.kept_results.specs.declared.memo.Memo.TheOpen.{Memo-F}
use Rattle.kept_results.specs.declared.memo.Memo.TheViews.{out-Memo, out-roll-Memo}
use Rattle.kept_results.proofs.Lists.{set_other}
use Rattle.kept_edits.specs.Blank.{blank}
use Rattle.kept_edits.specs.Changed.{FitsMemo, changed_memo, renewed, seen_anew, with_below}
use Rattle.kept_edits.specs.Runs.{ChangeOwnRunsLaw, FollowBackedLaw, PutsBlank}
use Rattle.kept_edits.specs.declared.change.Renewal.{Renewal}
use Rattle.kept_edits.proofs.Backed.{blank_backed_law, change_backed_law, none_held}
use Rattle.kept_edits.proofs.Changing.{marked, marked_is}

-- ---- places and paths

-- what stood at a place before stands at one place after it
one_after : (site : Site) (before a b : ℕ) → Moves site before a → Moves site before b → a ≡ b
one_after Stay before a b h k = sym h ∙ k
one_after (Put index) before a b (inl h) (inl k) = sym h.1 ∙ k.1
one_after (Put index) before a b (inl h) (inr k) = absurd (omega (arith, h.0, h.1, k.0, k.1))
one_after (Put index) before a b (inr h) (inl k) = absurd (omega (arith, h.0, h.1, k.0, k.1))
one_after (Put index) before a b (inr h) (inr k) = sym h.1 ∙ k.1
one_after (Take index) before a b (inl h) (inl k) = sym h.1 ∙ k.1
one_after (Take index) before a b (inl h) (inr k) = absurd (omega (arith, h.0, h.1, k.0, k.1))
one_after (Take index) before a b (inr h) (inl k) = absurd (omega (arith, h.0, h.1, k.0, k.1))
one_after (Take index) before a b (inr h) (inr k) = omega (arith, h.1, k.1)
one_after (Swap index) before a b h k = sym h.0 ∙ k.0

-- an element stood at a path before the change at the end of another, and stands at this one after it
abbrev IsFrom : Site → List ℕ → List ℕ → List ℕ → Type 0
IsFrom site [] [] [] = ⊤
IsFrom site [] (before ∷ from) (after ∷ to) = Moves site before after × (from ≡ to)
IsFrom site (place ∷ path) [] [] = ⊤
IsFrom site (place ∷ path) (before ∷ from) (after ∷ to) =
    (before ≡ after) × (((after ≡ place) × IsFrom site path from to) ⊎ ((after ≡ place → ⊥) × (from ≡ to)))
IsFrom site path from to = ⊥

both_same : (a b : ℕ) (to other : List ℕ) → a ≡ b → to ≡ other → a ∷ to ≡ b ∷ other
both_same a b to other h k = λ i. h i ∷ k i

-- so at one path
one_path : (site : Site) (path from to other : List ℕ) → IsFrom site path from to → IsFrom site path from other → to ≡ other
one_path site [] [] [] [] h k = refl
one_path site [] [] [] (b ∷ other) h k = absurd k
one_path site [] [] (a ∷ to) other h k = absurd h
one_path site [] (before ∷ from) [] other h k = absurd h
one_path site [] (before ∷ from) (a ∷ to) [] h k = absurd k
one_path site [] (before ∷ from) (a ∷ to) (b ∷ other) h k = both_same a b to other (one_after site before a b h.0 k.0) (sym h.1 ∙ k.1)
one_path site (place ∷ path) [] [] [] h k = refl
one_path site (place ∷ path) [] [] (b ∷ other) h k = absurd k
one_path site (place ∷ path) [] (a ∷ to) other h k = absurd h
one_path site (place ∷ path) (before ∷ from) [] other h k = absurd h
one_path site (place ∷ path) (before ∷ from) (a ∷ to) [] h k = absurd k
one_path site (place ∷ path) (before ∷ from) (a ∷ to) (b ∷ other) h k =
    let same : a ≡ b = sym h.0 ∙ k.0 in
    elim h.1 [
      | inl p ↦ elim k.1 [
        | inl q ↦ both_same a b to other same (one_path site path from to other p.1 q.1)
        | inr q ↦ absurd (q.0 (sym same ∙ p.0))
      ]
      | inr p ↦ elim k.1 [
        | inl q ↦ absurd (p.0 (same ∙ q.0))
        | inr q ↦ both_same a b to other same (sym p.1 ∙ q.1)
      ]
    ]

-- ---- a changed memo

-- nothing is kept in it
abbrev pub HoldsNothing : Memo → Type 0
HoldsNothing memo = (path : List ℕ) (entry : Entry) → Holds path memo entry → ⊥

module _ (splice : Splice Memo) (known : List Renewal) where
  abbrev pub own_on : List ℕ → Memo → Renewal
  own_on path memo = get_or known (length path) (seen_anew (own_facts memo))

  -- it is marked and has its entries, over memos of which one is changed
  abbrev pub IsMadeOf : List ℕ → Memo → List Memo → Type 0
  IsMadeOf path memo below = out-Memo (changed_memo splice known path memo) ≡ marked memo (own_on path memo) below

  pub last_made : (memo : Memo) → IsMadeOf [] memo (spliced splice (out-Memo memo).below)
  last_made memo =
      let below = spliced splice (out-Memo memo).below in
      ap out-Memo (marked_is memo (own_on [] memo) below) ∙ out-roll-Memo (marked memo (own_on [] memo) below)

  pub step_made : (place : ℕ) (path : List ℕ) (memo kept : Memo) → slice_get (out-Memo memo).below place ≡ Some kept
      → IsMadeOf (place ∷ path) memo (set (out-Memo memo).below place (changed_memo splice known path kept))
  step_made place path memo kept at =
      let own = own_on (place ∷ path) memo in
      let below = set (out-Memo memo).below place (changed_memo splice known path kept) in
      ap (λ (o : Option Memo). out-Memo (with_below (renewed own memo) (option_map_or (λ z. set (out-Memo memo).below place (changed_memo splice known path z)) o (out-Memo memo).below))) at
      ∙ ap out-Memo (marked_is memo own below) ∙ out-roll-Memo (marked memo own below)

  -- ---- where its entries were

  still_live : (marked : Bool) (entry : Entry) → is_live true entry ≡ true → is_live marked entry ≡ true
  still_live true entry h = h
  still_live false entry h = refl

  -- what counts of an element on the way counted before
  own_held : (path : List ℕ) (memo : Memo) (below : List Memo) (entry : Entry) → IsMadeOf path memo below → Holds [] (changed_memo splice known path memo) entry
      → Holds [] memo entry
  own_held path memo below entry made h =
      let has = subst (λ (l : Memo-F Memo). HasEntry l entry) made h in
      record { place = has.place; at = has.at; live = still_live (is_marked (out-Memo memo)) entry has.live }

  abbrev WasHeld : List ℕ → Memo → List ℕ → Entry → Type 0
  WasHeld path memo to entry = (from : List ℕ) × IsFrom (site_of splice) path from to × Holds from memo entry

  was_held : (path : List ℕ) (memo : Memo) (to : List ℕ) (entry : Entry) → FitsMemo splice path memo → AllBrought HoldsNothing splice
      → Holds to (changed_memo splice known path memo) entry → WasHeld path memo to entry
  was_held [] memo [] entry fits new h = ([], tt, own_held [] memo (spliced splice (out-Memo memo).below) entry (last_made memo) h)
  was_held [] memo (after ∷ to) entry fits new h =
      let below : List Memo = (out-Memo memo).below in
      let k = subst (λ (l : Memo-F Memo). HoldsIn (after ∷ to) l entry) (last_made memo) h in
      elim (comes splice below after k.0 fits k.1) [
        | inl b ↦ absurd (brought_holds HoldsNothing splice after k.0 new b to entry k.2)
        | inr t ↦ (t.0 ∷ to, (t.1, refl), (k.0, t.2, k.2))
      ]
  was_held (place ∷ path) memo [] entry fits new h =
      ([], tt, own_held (place ∷ path) memo (set (out-Memo memo).below place (changed_memo splice known path fits.0)) entry (step_made place path memo fits.0 fits.1) h)
  was_held (place ∷ path) memo (after ∷ to) entry fits new h =
      let below : List Memo = (out-Memo memo).below in
      let now : Memo = changed_memo splice known path fits.0 in
      let k = subst (λ (l : Memo-F Memo). HoldsIn (after ∷ to) l entry) (step_made place path memo fits.0 fits.1) h in
      elim (set_other below place after now k.0 k.1) [
        | inl p ↦
            let r = was_held path fits.0 to entry fits.2 new (subst (λ (z : Memo). Holds to z entry) p.1 k.2) in
            (after ∷ r.0, (refl, inl (p.0, r.1)), (fits.0, ap (slice_get below) p.0 ∙ fits.1, r.2))
        | inr q ↦ (after ∷ to, (refl, inr (q.0, refl)), (k.0, q.1, k.2))
      ]

  pub own_runs : (path : List ℕ) (memo : Memo) → FitsMemo splice path memo → AllBrought HoldsNothing splice → HaveOwnRuns memo
      → HaveOwnRuns (changed_memo splice known path memo)
  own_runs path memo fits new own = record {
    at = λ to other a b x y same.
        let p = was_held path memo to a fits new x in
        let q = was_held path memo other b fits new y in
        let r = own.at p.0 q.0 a b p.2 q.2 same in (
          one_path (site_of splice) path q.0 to other (subst (λ (z : List ℕ). IsFrom (site_of splice) path z to) r.0 p.1) q.1,
          r.1,
        );
  }

pub change_own_runs_law : ChangeOwnRunsLaw
change_own_runs_law memo change other path known fits new own =
    own_runs other known path memo fits
    (alike_brought (λ child z. z ≡ blank child) HoldsNothing (splice_of change) other
    (λ child z is. subst HoldsNothing (sym is) (λ at entry held. none_held at child entry held)) new) own

-- ---- beside the edited tree

-- runs have all that is kept of what is put in
pub new_backed : (m : MetricsValue) (runs : Runs) (change : Change) (other : Splice Memo) → PutsBlank change other → IsAlike (IsBacked m runs) (splice_of change) other
new_backed m runs change other new = record {
  one_site = new.one_site;
  related = λ place child z a b. subst (IsBacked m runs child) (sym (new.related place child z a b)) (blank_backed_law m runs child);
}

pub follow_backed_law : FollowBackedLaw
follow_backed_law m runs tree edit change other path known memo is new ready backed =
    subst (λ (n : Node). IsBacked m runs n (changed_memo other known path memo)) (sym is.gives)
    (change_backed_law m runs tree.root memo change other path known ready backed is.fits (new_backed m runs change other new))
