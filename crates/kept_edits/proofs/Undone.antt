-- Memos after an edit of their tree, and taken back.
use Rattle.std.proofs.Common.{◌≡◌, ◌∙◌, sym, ap, subst, ℕ, ◌≤◌, true, List, Option}
use Rattle.splices.proofs.Alike.{alike_brought}
use Rattle.splices.specs.Splicing.{inverse, site_of}
use Rattle.splices.specs.declared.site.Site.{Site}
use Rattle.splices.specs.declared.splice.Splice.{Splice}
use Rattle.math_tree.specs.declared.node.Node.{Node}
use Rattle.outcome_cells.specs.Store.{Runs}
use Rattle.tree_edits.specs.Paths.{changed, changed_at, splice_of}
use Rattle.kept_results.specs.Backed.{HaveOwnRuns, IsBacked}
use Rattle.kept_results.specs.Ends.{kept_count}
use Rattle.kept_results.specs.Kept.{Holds}
use Rattle.kept_results.specs.Laws.{is_unmarked}
use Rattle.kept_results.specs.Tidy.{IsTidy}
use Rattle.kept_results.specs.declared.memo.Entry.{Entry}
use Rattle.kept_results.specs.declared.memo.Memo.{Memo}
use Rattle.kept_edits.specs.Blank.{blank}
use Rattle.kept_edits.specs.Changed.{FitsMemo, changed_memo, taken_from, undone_memo}
use Rattle.kept_edits.specs.Known.{IsKnownOn}
use Rattle.kept_edits.specs.Laws.{IsReadyFor, KnownOn}
use Rattle.kept_edits.specs.Need.{CameFrom}
use Rattle.kept_edits.specs.declared.change.Renewal.{Renewal}
use Rattle.kept_edits.proofs.Backed.{change_backed_law}
use Rattle.kept_edits.proofs.Backwards.{back_law}
use Rattle.kept_edits.proofs.Changing.{change_law}
use Rattle.kept_edits.proofs.Counting.{change_count_law}
use Rattle.kept_edits.proofs.Needing.{stays_law}
use Rattle.kept_edits.proofs.Runs.{change_own_runs_law, new_backed}
use Rattle.kept_edits.proofs.Tidying.{blank_tidy, changed_is_tidy}
use Rattle.kept_edits.specs.Followed.{IsBefore, IsFollowed, IsOfWay, IsSplicedAlong}
use Rattle.kept_edits.specs.Rooms.{HasRoom}
use Rattle.kept_edits.specs.declared.way.Way.{Way}
use Rattle.kept_edits.proofs.Followed.{blank_alike, fits_change, same_change}
use Rattle.kept_edits.proofs.Rooms.{back_fits}

module _ (path : List ℕ) (memo now : Memo) (other back : Splice Memo) (known : List Renewal) (taken : Option Memo) (room : ℕ) (site : Site)
    (is : now ≡ changed_memo other known path memo) (took : taken ≡ taken_from other path memo) (made : back ≡ inverse site taken room) (there : site_of other ≡ site)
    (fits : FitsMemo other path memo) where
  back_is : back ≡ inverse (site_of other) (taken_from other path memo) room
  back_is = made ∙ ap (λ (s : Site). inverse s taken room) (sym there) ∙ ap (λ (o : Option Memo). inverse (site_of other) o room) took

  undo_fits : HasRoom room path memo → FitsMemo back path now
  undo_fits roomy =
      subst (λ (z : Memo). FitsMemo back path z) (sym is)
      (subst (λ (b : Splice Memo). FitsMemo b path (changed_memo other known path memo)) (sym back_is) (back_fits path memo other known room fits roomy))

  undone : is_unmarked memo ≡ true → undone_memo back path now ≡ memo
  undone unmarked =
      ap (undone_memo back path) is ∙ ap (λ (b : Splice Memo). undone_memo b path (changed_memo other known path memo)) back_is
      ∙ back_law memo other path known room unmarked fits

-- the memos are spliced as the tree was, and what was known of them before is given back
pub followed : (root : Node) (memo now : Memo) (way : Way) (before : IsBefore root memo way) (other back : Splice Memo) (known : List Renewal) (taken : Option Memo) (room : ℕ)
    → IsOfWay root way other → IsKnownOn way.path root memo known → HasRoom room way.path memo → now ≡ changed_memo other known way.path memo
    → taken ≡ taken_from other way.path memo → back ≡ inverse way.site taken room → IsFollowed root memo way before now back
followed root memo now way before other back known taken room of_way k roomy is took made =
    let fits = fits_change root memo way before other of_way in
    record {
      spliced = record { splice = other; known = known; fits = fits; alike = blank_alike root memo way before other of_way; knows = k.on; is = is };
      fits = undo_fits way.path memo now other back known taken room way.site is took made of_way.is.site_is fits roomy;
      gives = undone way.path memo now other back known taken room way.site is took made of_way.is.site_is fits before.unmarked;
    }

-- ---- what follows of that

module _ (root : Node) (memo now : Memo) (way : Way) (before : IsBefore root memo way) (h : IsSplicedAlong before.change way.path root memo now) where
  known_beside : KnownOn h.known way.path (changed_at (changed before.change) way.path before.old) memo
  known_beside = subst (λ (n : Node). KnownOn h.known way.path n memo) before.gives h.knows

  -- they agree with the edited tree
  pub ready_then : IsReadyFor before.metrics root now
  ready_then =
      subst (IsReadyFor before.metrics root) (sym h.is)
      (subst (λ (n : Node). IsReadyFor before.metrics n (changed_memo h.splice h.known way.path memo)) (sym before.gives)
      (change_law before.metrics before.old memo before.change h.splice way.path h.known before.ready before.fits (same_change root memo way before h.splice h.alike) known_beside))

  -- nothing is marked below an element that isn't
  pub tidy_then : IsTidy now
  tidy_then =
      subst IsTidy (sym h.is)
      (changed_is_tidy before.metrics before.old before.change h.splice h.known way.path memo before.unmarked before.ready before.fits known_beside h.fits
      (alike_brought (λ child new. new ≡ blank child) IsTidy (splice_of before.change) h.splice
      (λ child new is. subst IsTidy (sym is) (blank_tidy before.metrics child)) h.alike))

  -- and what is kept of elements that the edit leaves alone stays kept
  pub stays_then : (from to : List ℕ) (entry : Entry) → CameFrom way.path before.change from to → Holds from memo entry → Holds to now entry
  stays_then from to entry came held =
      subst (λ (z : Memo). Holds to z entry) (sym h.is)
      (stays_law before.metrics memo before.change h.splice way.path h.known from to entry h.fits (same_change root memo way before h.splice h.alike) came held)

  -- ---- the runs of what is kept

  pub backed_then : (runs : Runs) → IsBacked before.metrics runs before.old memo → IsBacked before.metrics runs root now
  backed_then runs backed =
      subst (IsBacked before.metrics runs root) (sym h.is)
      (subst (λ (n : Node). IsBacked before.metrics runs n (changed_memo h.splice h.known way.path memo)) (sym before.gives)
      (change_backed_law before.metrics runs before.old memo before.change h.splice way.path h.known before.ready backed before.fits
      (new_backed before.metrics runs before.change h.splice h.alike)))

  pub own_then : HaveOwnRuns memo → HaveOwnRuns now
  own_then own = subst HaveOwnRuns (sym h.is) (change_own_runs_law memo before.change h.splice way.path h.known h.fits h.alike own)

  pub fewer_then : kept_count now ≤ kept_count memo
  fewer_then = subst (λ (z : Memo). kept_count z ≤ kept_count memo) (sym h.is) (change_count_law memo before.change h.splice way.path h.known h.fits h.alike)
