-- What an edit does to each memo.
use Rattle.std.proofs.Common.{◌≡◌, ◌∙◌, ◌↔◌, ◌⊎◌, inl, inr, refl, sym, ap, subst, ℕ, nat_eq, ◌+◌, arith, Bool, true, false, true≢false, is_some, List, [], ◌∷◌, ◌++◌, drop, get_or, length, set, Option, Some, None, slice_get}
use Rattle.std.proofs.lemmas.Bool.Decides.{Decides-eqb}
use Rattle.std.proofs.lemmas.Option.{none-some, same_Some}
use Rattle.std.specs.Option.{option_and_then, option_map_or}
use Rattle.splices.proofs.Alike.{alike_brought, alike_gives}
use Rattle.splices.proofs.Origins.{brought_there, each_spliced}
use Rattle.splices.proofs.Places.{set_elsewhere, set_here}
use Rattle.splices.proofs.Splicing.{moved}
use Rattle.splices.specs.Splicing.{AllBrought, Brings, Moves, site_of, spliced}
use Rattle.splices.specs.declared.site.Site.{Site}
use Rattle.splices.specs.declared.splice.Splice.{Splice}
use Rattle.font_metrics.specs.Metrics.{MetricsValue}
use Rattle.math_tree.specs.declared.node.Node.{Node}
use Rattle.tree_edits.specs.Paths.{splice_of}
use Rattle.tree_edits.specs.declared.change.Change.{Change}
use Rattle.kept_results.specs.Kept.{is_marked}
use Rattle.kept_results.specs.Laws.{is_unmarked}
use Rattle.kept_results.specs.Looking.{own_facts}
use Rattle.kept_results.specs.declared.memo.Memo.{Memo}
use Rattle.kept_results.specs.declared.memo.Memo.TheOpen.{Memo-F}
use Rattle.kept_results.specs.declared.memo.Memo.TheViews.{out-Memo, out-roll-Memo}
use Rattle.kept_edits.specs.Blank.{blank}
use Rattle.kept_edits.specs.Changed.{FitsMemo, changed_memo, renewed, seen_anew, with_below}
use Rattle.kept_edits.specs.Need.{CameFrom}
use Rattle.kept_edits.specs.declared.change.Renewal.{Renewal}
use Rattle.kept_edits.proofs.Backwards.{below_unmarked, former_none}
use Rattle.kept_edits.proofs.Changing.{marked, marked_is}
use Rattle.kept_edits.proofs.Unlaid.{blank_law}
use Rattle.kept_edits.specs.Followed.{IsSplicedAlong}
use Rattle.memo_tree.specs.Marked.{HasEntriesOf, memo_at}

-- ---- one step down

down : (path : List ℕ) (found : Option Memo) (memo : Memo) → option_and_then (memo_at path) found ≡ Some memo → (kept : Memo) × (found ≡ Some kept) × (memo_at path kept ≡ Some memo)
down path None memo at = absurd (none-some memo at)
down path (Some kept) memo at = (kept, refl, at)

same_place : (i j : ℕ) → (i ≡ j) ⊎ (i ≡ j → ⊥)
same_place i j = by (nat_eq i j) refl
  where
    by : (b : Bool) → nat_eq i j ≡ b → (i ≡ j) ⊎ (i ≡ j → ⊥)
    by true e = inl ((Decides-eqb i j).0 e)
    by false e = inr (λ same. true≢false (sym ((Decides-eqb i j).1 same) ∙ e))

-- ---- no marks

none_marked : (at : List ℕ) (memo kept : Memo) → is_unmarked memo ≡ true → memo_at at memo ≡ Some kept → is_marked (out-Memo kept) ≡ false
none_marked [] memo kept h e = ap (λ (z : Memo). is_marked (out-Memo z)) (sym (same_Some memo kept e)) ∙ ap is_some (former_none memo h)
none_marked (i ∷ at) memo kept h e =
    let below = down at (slice_get (out-Memo memo).below i) kept e in
    none_marked at below.0 kept (below_unmarked memo i below.0 h below.1) below.2

-- ---- a memo on the way

module _ (splice : Splice Memo) (known : List Renewal) where
  abbrev own_on : List ℕ → Memo → Renewal
  own_on path memo = get_or known (length path) (seen_anew (own_facts memo))

  -- each memo on the way is marked and has its entries, over memos of which one is changed
  abbrev IsMadeOf : List ℕ → Memo → List Memo → Type 0
  IsMadeOf path memo below = out-Memo (changed_memo splice known path memo) ≡ marked memo (own_on path memo) below

  last_made : (memo : Memo) → IsMadeOf [] memo (spliced splice (out-Memo memo).below)
  last_made memo =
      let below = spliced splice (out-Memo memo).below in
      ap out-Memo (marked_is memo (own_on [] memo) below) ∙ out-roll-Memo (marked memo (own_on [] memo) below)

  step_made : (place : ℕ) (path : List ℕ) (memo kept : Memo) → slice_get (out-Memo memo).below place ≡ Some kept
      → IsMadeOf (place ∷ path) memo (set (out-Memo memo).below place (changed_memo splice known path kept))
  step_made place path memo kept at =
      let own = own_on (place ∷ path) memo in
      let below = set (out-Memo memo).below place (changed_memo splice known path kept) in
      ap (λ (o : Option Memo). out-Memo (with_below (renewed own memo) (option_map_or (λ z. set (out-Memo memo).below place (changed_memo splice known path z)) o (out-Memo memo).below))) at
      ∙ ap out-Memo (marked_is memo own below) ∙ out-roll-Memo (marked memo own below)

  -- what stands below it
  abbrev Under : List ℕ → ℕ → List Memo → Option Memo
  Under at i below = option_and_then (memo_at at) (slice_get below i)

  under_made : (path at : List ℕ) (i : ℕ) (memo : Memo) (below : List Memo) → IsMadeOf path memo below → memo_at (i ∷ at) (changed_memo splice known path memo) ≡ Under at i below
  under_made path at i memo below made = ap (λ (l : Memo-F Memo). Under at i l.below) made

  -- ---- marks

  abbrev IsOnWay : List ℕ → List ℕ → Type 0
  IsOnWay path at = (rest : List ℕ) × (path ≡ at ++ rest)

  here_marked : (path : List ℕ) (memo kept : Memo) (below : List Memo) → IsMadeOf path memo below → memo_at [] (changed_memo splice known path memo) ≡ Some kept
      → (is_marked (out-Memo kept) ≡ true) ↔ IsOnWay path []
  here_marked path memo kept below made e = (
    λ m. (path, refl),
    λ w. ap (λ (z : Memo). is_marked (out-Memo z)) (sym (same_Some (changed_memo splice known path memo) kept e)) ∙ ap is_marked made,
  )

  off_way : (path at : List ℕ) (kept : Memo) → is_marked (out-Memo kept) ≡ false → (IsOnWay path at → ⊥) → (is_marked (out-Memo kept) ≡ true) ↔ IsOnWay path at
  off_way path at kept e away = (λ m. absurd (true≢false (sym m ∙ e)), λ w. absurd (away w))

  none_past : (i : ℕ) (at : List ℕ) → IsOnWay [] (i ∷ at) → ⊥
  none_past i at w = let l = ap length w.1 in omega (arith, l)

  none_beside : (place i : ℕ) (path at : List ℕ) → (i ≡ place → ⊥) → IsOnWay (place ∷ path) (i ∷ at) → ⊥
  none_beside place i path at other w = other (sym (ap (λ (l : List ℕ). get_or l 0 0) w.1))

  pub marks : (path : List ℕ) (memo : Memo) (at : List ℕ) (kept : Memo) → is_unmarked memo ≡ true → FitsMemo splice path memo
      → AllBrought (λ z. is_unmarked z ≡ true) splice → memo_at at (changed_memo splice known path memo) ≡ Some kept
      → (is_marked (out-Memo kept) ≡ true) ↔ IsOnWay path at
  marks [] memo [] kept none fits new e = here_marked [] memo kept (spliced splice (out-Memo memo).below) (last_made memo) e
  marks (place ∷ path) memo [] kept none fits new e =
      here_marked (place ∷ path) memo kept (set (out-Memo memo).below place (changed_memo splice known path fits.0)) (step_made place path memo fits.0 fits.1) e
  marks [] memo (i ∷ at) kept none fits new e =
      let below = (out-Memo memo).below in
      let there = down at (slice_get (spliced splice below) i) kept (sym (under_made [] at i memo (spliced splice below) (last_made memo)) ∙ e) in
      let clean = each_spliced (λ z. is_unmarked z ≡ true) splice below fits new (λ j x there. below_unmarked memo j x none there) i there.0 there.1 in
      off_way [] (i ∷ at) kept (none_marked at there.0 kept clean there.2) (none_past i at)
  marks (place ∷ path) memo (i ∷ at) kept none fits new e =
      let below = (out-Memo memo).below in
      let now = changed_memo splice known path fits.0 in
      let under : Under at i (set below place now) ≡ Some kept =
      sym (under_made (place ∷ path) at i memo (set below place now) (step_made place path memo fits.0 fits.1)) ∙ e in
      elim (same_place i place) [
        | inl same ↦
            let here : slice_get (set below place now) i ≡ Some now = ap (slice_get (set below place now)) same ∙ set_here below place fits.0 now fits.1 in
            let r = marks path fits.0 at kept (below_unmarked memo place fits.0 none fits.1) fits.2 new (ap (option_and_then (memo_at at)) (sym here) ∙ under) in (
              λ m. let w = r.0 m in (w.0, ap (λ (l : List ℕ). place ∷ l) w.1 ∙ ap (λ (j : ℕ). j ∷ (at ++ w.0)) (sym same)),
              λ w. r.1 (w.0, ap (drop 1) w.1),
            )
        | inr other ↦
            let there = down at (slice_get below i) kept (ap (option_and_then (memo_at at)) (sym (set_elsewhere below place i now other)) ∙ under) in
            off_way (place ∷ path) (i ∷ at) kept (none_marked at there.0 kept (below_unmarked memo i there.0 none there.1) there.2) (none_beside place i path at other)
      ]

  -- ---- what was put in

  pub put_there : (path : List ℕ) (memo : Memo) (place : ℕ) (new : Memo) → FitsMemo splice path memo → Brings splice place new
      → memo_at (path ++ place ∷ []) (changed_memo splice known path memo) ≡ Some new
  put_there [] memo place new fits b =
      let below = (out-Memo memo).below in
      under_made [] [] place memo (spliced splice below) (last_made memo) ∙ ap (option_and_then (memo_at [])) (brought_there splice below place new fits b)
  put_there (i ∷ path) memo place new fits b =
      let below = (out-Memo memo).below in
      let now = changed_memo splice known path fits.0 in
      under_made (i ∷ path) (path ++ place ∷ []) i memo (set below i now) (step_made i path memo fits.0 fits.1)
      ∙ ap (option_and_then (memo_at (path ++ place ∷ []))) (set_here below i fits.0 now fits.1)
      ∙ put_there path fits.0 place new fits.2 b

  -- ---- what stays

  here_kept : (path : List ℕ) (memo kept : Memo) (below : List Memo) → IsMadeOf path memo below → memo_at [] memo ≡ Some kept
      → HasEntriesOf kept (memo_at [] (changed_memo splice known path memo))
  here_kept path memo kept below made e = record {
    memo = changed_memo splice known path memo;
    there = refl;
    entries = ap (λ (l : Memo-F Memo). l.entries) made ∙ ap (λ (z : Memo). (out-Memo z).entries) (same_Some memo kept e);
  }

  pub kept_on : (path at rest : List ℕ) (memo kept : Memo) → FitsMemo splice path memo → path ≡ at ++ rest → memo_at at memo ≡ Some kept
      → HasEntriesOf kept (memo_at at (changed_memo splice known path memo))
  kept_on [] [] rest memo kept fits is e = here_kept [] memo kept (spliced splice (out-Memo memo).below) (last_made memo) e
  kept_on (place ∷ path) [] rest memo kept fits is e =
      here_kept (place ∷ path) memo kept (set (out-Memo memo).below place (changed_memo splice known path fits.0)) (step_made place path memo fits.0 fits.1) e
  kept_on [] (i ∷ at) rest memo kept fits is e = let l = ap length is in absurd (omega (arith, l))
  kept_on (place ∷ path) (i ∷ at) rest memo kept fits is e =
      let below = (out-Memo memo).below in
      let now = changed_memo splice known path fits.0 in
      let same : place ≡ i = ap (λ (l : List ℕ). get_or l 0 0) is in
      let there = down at (slice_get below i) kept e in
      let one : there.0 ≡ fits.0 = same_Some there.0 fits.0 (sym there.1 ∙ ap (slice_get below) (sym same) ∙ fits.1) in
      let rest_of = kept_on path at rest fits.0 kept fits.2 (ap (drop 1) is) (ap (memo_at at) (sym one) ∙ there.2) in
      let here : slice_get (set below place now) i ≡ Some now = ap (slice_get (set below place now)) (sym same) ∙ set_here below place fits.0 now fits.1 in
      subst (HasEntriesOf kept)
      (sym (under_made (place ∷ path) at i memo (set below place now) (step_made place path memo fits.0 fits.1) ∙ ap (option_and_then (memo_at at)) here)) rest_of

  module _ (change : Change) (site : site_of splice ≡ site_of (splice_of change)) where
    pub kept_elsewhere : (path : List ℕ) (memo : Memo) (from to : List ℕ) (kept : Memo) → FitsMemo splice path memo → CameFrom path change from to
        → memo_at from memo ≡ Some kept → memo_at to (changed_memo splice known path memo) ≡ Some kept
    kept_elsewhere [] memo [] to kept fits came e = absurd came
    kept_elsewhere [] memo (before ∷ from) [] kept fits came e = absurd came
    kept_elsewhere [] memo (before ∷ from) (after ∷ to) kept fits came e =
        let below = (out-Memo memo).below in
        under_made [] to after memo (spliced splice below) (last_made memo)
        ∙ ap (option_and_then (memo_at to)) (moved splice below before after fits (subst (λ (s : Site). Moves s before after) (sym site) came.0))
        ∙ ap (λ (p : List ℕ). Under p before below) (sym came.1) ∙ e
    kept_elsewhere (place ∷ path) memo [] to kept fits came e = absurd came
    kept_elsewhere (place ∷ path) memo (before ∷ from) [] kept fits came e = absurd came
    kept_elsewhere (place ∷ path) memo (before ∷ from) (after ∷ to) kept fits came e =
        let below = (out-Memo memo).below in
        let now = changed_memo splice known path fits.0 in
        let under : memo_at (after ∷ to) (changed_memo splice known (place ∷ path) memo) ≡ Under to after (set below place now) =
        under_made (place ∷ path) to after memo (set below place now) (step_made place path memo fits.0 fits.1) in
        elim came.1 [
          | inl on ↦
              let there = down from (slice_get below before) kept e in
              let one : there.0 ≡ fits.0 = same_Some there.0 fits.0 (sym there.1 ∙ ap (slice_get below) (came.0 ∙ on.0) ∙ fits.1) in
              under ∙ ap (option_and_then (memo_at to)) (ap (slice_get (set below place now)) on.0 ∙ set_here below place fits.0 now fits.1)
              ∙ kept_elsewhere path fits.0 from to kept fits.2 on.1 (ap (memo_at from) (sym one) ∙ there.2)
          | inr off ↦
              under ∙ ap (option_and_then (memo_at to)) (set_elsewhere below place after now off.0)
              ∙ ap (λ (j : ℕ). Under to j below) (sym came.0) ∙ ap (λ (p : List ℕ). Under p before below) (sym off.1) ∙ e
        ]

-- ---- after an edit

module _ (change : Change) (path : List ℕ) (root : Node) (memo now : Memo) (h : IsSplicedAlong change path root memo now) where
  pub blank_put : (place : ℕ) (child : Node) → Brings (splice_of change) place child → memo_at (path ++ place ∷ []) now ≡ Some (blank child)
  blank_put place child b =
      let twin = alike_gives (λ child new. new ≡ blank child) (splice_of change) h.splice place child h.alike b in
      ap (memo_at (path ++ place ∷ [])) h.is ∙ put_there h.splice h.known path memo place twin.0 h.fits twin.1 ∙ ap Some twin.2

  pub path_marked : (m : MetricsValue) → is_unmarked memo ≡ true → (at : List ℕ) (kept : Memo) → memo_at at now ≡ Some kept
      → (is_marked (out-Memo kept) ≡ true) ↔ ((rest : List ℕ) × (path ≡ at ++ rest))
  path_marked m none at kept e =
      marks h.splice h.known path memo at kept none h.fits
      (alike_brought (λ child new. new ≡ blank child) (λ z. is_unmarked z ≡ true) (splice_of change) h.splice
      (λ child new is. ap is_unmarked is ∙ (blank_law m child).1) h.alike)
      (ap (memo_at at) (sym h.is) ∙ e)

  pub stays_on : (at rest : List ℕ) (kept : Memo) → path ≡ at ++ rest → memo_at at memo ≡ Some kept → HasEntriesOf kept (memo_at at now)
  stays_on at rest kept is e =
      subst (λ (z : Memo). HasEntriesOf kept (memo_at at z)) (sym h.is) (kept_on h.splice h.known path at rest memo kept h.fits is e)

  pub stays_elsewhere : (from to : List ℕ) (kept : Memo) → CameFrom path change from to → memo_at from memo ≡ Some kept → memo_at to now ≡ Some kept
  stays_elsewhere from to kept came e =
      ap (memo_at to) h.is
      ∙ kept_elsewhere h.splice h.known change h.alike.one_site path memo from to kept h.fits came e
