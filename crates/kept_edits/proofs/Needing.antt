-- What stays kept through an edit, and so what may have to be made after it.
use Rattle.std.proofs.Common.{◌≡◌, ◌∙◌, inl, inr, sym, ap, subst, ℕ, List, [], ◌∷◌, get_or, length, set, Option, Some, slice_get}
use Rattle.std.proofs.lemmas.Option.{same_Some}
use Rattle.std.specs.Option.{option_map_or}
use Rattle.splices.proofs.Places.{set_elsewhere, set_here}
use Rattle.splices.proofs.Splicing.{moved}
use Rattle.splices.specs.Splicing.{FitsIn, Moves, site_of, spliced}
use Rattle.splices.specs.declared.site.Site.{Site}
use Rattle.splices.specs.declared.splice.Splice.{Splice}
use Rattle.font_metrics.specs.Metrics.{MetricsValue}
use Rattle.math_tree.specs.declared.node.Node.{Node}
use Rattle.tree_edits.specs.Paths.{splice_of}
use Rattle.tree_edits.specs.declared.change.Change.{Change}
use Rattle.layout_model.specs.declared.context.Context.{Context}
use Rattle.kept_results.specs.Kept.{Holds, HoldsIn}
use Rattle.kept_results.specs.Looking.{own_facts}
use Rattle.kept_results.specs.Passes.{IsPairMissing, Pair}
use Rattle.kept_results.specs.declared.memo.Entry.{Entry}
use Rattle.kept_results.specs.declared.memo.Memo.{Memo}
use Rattle.kept_results.specs.declared.memo.Memo.TheOpen.{Memo-F}
use Rattle.kept_results.specs.declared.memo.Memo.TheViews.{out-Memo, out-roll-Memo, roll-Memo}
use Rattle.kept_results.proofs.Lists.{all_then}
use Rattle.kept_results.proofs.Whole.{kept_law}
use Rattle.kept_edits.specs.Changed.{FitsMemo, changed_memo, renewed, with_below, seen_anew}
use Rattle.kept_edits.specs.Laws.{IsReadyFor, IsSame}
use Rattle.kept_edits.specs.Need.{CameFrom, CountedLaw, IsCounted, IsSealedFor, StaysLaw}
use Rattle.kept_edits.specs.declared.change.Renewal.{Renewal}
use Rattle.kept_edits.proofs.Changing.{marked, marked_is}

-- a child that an edit leaves alone keeps its memo
still_there : (m : MetricsValue) (below : List Memo) (change : Change) (other : Splice Memo) (before after : ℕ) (kept : Memo) → FitsIn other below → IsSame m change other
    → Moves (site_of (splice_of change)) before after → slice_get below before ≡ Some kept → slice_get (spliced other below) after ≡ Some kept
still_there m below change other before after kept fits same moves at =
    moved other below before after fits (subst (λ (s : Site). Moves s before after) (sym same.one_site) moves) ∙ at

-- ---- entries at paths

-- what the memo of a child holds, the memo over it holds
held_below : (memo whole : Memo) (own : Renewal) (below : List Memo) (place : ℕ) (path : List ℕ) (kept : Memo) (entry : Entry) → whole ≡ roll-Memo (marked memo own below)
    → slice_get below place ≡ Some kept → Holds path kept entry → Holds (place ∷ path) whole entry
held_below memo whole own below place path kept entry e at h =
    subst (λ (l : Memo-F Memo). HoldsIn (place ∷ path) l entry) (sym (ap out-Memo e ∙ out-roll-Memo (marked memo own below))) (kept, at, h)

stays_at : (m : MetricsValue) (path : List ℕ) (memo : Memo) (change : Change) (other : Splice Memo) (known : List Renewal) (from to : List ℕ) (entry : Entry)
    → FitsMemo other path memo → IsSame m change other → CameFrom path change from to → Holds from memo entry → Holds to (changed_memo other known path memo) entry
stays_at m [] memo change other known [] to entry fits same came h = absurd came
stays_at m [] memo change other known (before ∷ from) [] entry fits same came h = absurd came
stays_at m [] memo change other known (before ∷ from) (after ∷ to) entry fits same came h =
    let below : List Memo = (out-Memo memo).below in
    let own : Renewal = get_or known 0 (seen_anew (own_facts memo)) in
    let kept : Memo = h.0 in
    held_below memo (changed_memo other known [] memo) own (spliced other below) after to kept entry (marked_is memo own (spliced other below))
    (still_there m below change other before after kept fits same came.0 h.1) (subst (λ (p : List ℕ). Holds p kept entry) came.1 h.2)
stays_at m (place ∷ path) memo change other known [] to entry fits same came h = absurd came
stays_at m (place ∷ path) memo change other known (before ∷ from) [] entry fits same came h = absurd came
stays_at m (place ∷ path) memo change other known (before ∷ from) (after ∷ to) entry fits same came h =
    let below : List Memo = (out-Memo memo).below in
    let own : Renewal = get_or known (length (place ∷ path)) (seen_anew (own_facts memo)) in
    let new : Memo = changed_memo other known path fits.0 in
    let made : changed_memo other known (place ∷ path) memo ≡ roll-Memo (marked memo own (set below place new)) =
    ap (λ (o : Option Memo). with_below (renewed own memo) (option_map_or (λ z. set below place (changed_memo other known path z)) o below)) fits.1
    ∙ marked_is memo own (set below place new) in
    elim came.1 [
      | inl on ↦
          let one : h.0 ≡ fits.0 = same_Some h.0 fits.0 (sym h.1 ∙ ap (slice_get below) (came.0 ∙ on.0) ∙ fits.1) in
          let held = stays_at m path fits.0 change other known from to entry fits.2 same on.1 (subst (λ (z : Memo). Holds from z entry) one h.2) in
          held_below memo (changed_memo other known (place ∷ path) memo) own (set below place new) after to new entry made
          (ap (slice_get (set below place new)) on.0 ∙ set_here below place fits.0 new fits.1) held
      | inr off ↦
          held_below memo (changed_memo other known (place ∷ path) memo) own (set below place new) after to h.0 entry made
          (set_elsewhere below place after new off.0 ∙ ap (slice_get below) (sym came.0) ∙ h.1) (subst (λ (p : List ℕ). Holds p h.0 entry) off.1 h.2)
    ]

pub stays_law : StaysLaw
stays_law m memo change other path known from to entry fits same came h = stays_at m path memo change other known from to entry fits same came h

-- ---- what is missing then is counted

pub missing_counted : (m : MetricsValue) (node : Node) (context : Context) (memo : Memo) (change : Change) (other : Splice Memo) (path : List ℕ) (known : List Renewal)
    → IsSealedFor m node context memo → FitsMemo other path memo → IsSame m change other
    → (pair : Pair) → IsPairMissing (changed_memo other known path memo) pair → IsCounted m path change node context pair
missing_counted m node context memo change other path known sealed fits same pair missing from came need =
    let one = kept_law m node memo context sealed.ready.agrees sealed.kept record { path = from; context = pair.context } need in
    missing record { entry = one.entry; held = stays_at m path memo change other known from pair.path one.entry fits same came one.held; in_context = one.in_context }

pub counted_law : CountedLaw
counted_law m node context memo change other path known sealed fits same edited root after from to done passes = record {
  pairs = passes.pairs;
  steps = passes.steps;
  counted_all = all_then (IsPairMissing (changed_memo other known path memo)) (IsCounted m path change node context)
      (missing_counted m node context memo change other path known sealed fits same) passes.pairs passes.missing;
  apart = passes.apart;
}
