-- A layout that is kept of an element, as an entry of it has it.
use Rattle.std.proofs.Common.{◌≡◌, ◌∙◌, sym, ap, subst, ℕ, ◌<◌, true, List, ◌++◌, get_or, length, map, Some, ℤ}
use Rattle.std.proofs.lemmas.Option.{get_or_from_slice_get, slice_get-get_or, slice_get-map}
use Rattle.std.specs.Option.{option_map}
use Rattle.font_metrics.specs.Metrics.{MetricsValue}
use Rattle.math_tree.specs.declared.node.Node.{Node}
use Rattle.math_tree.specs.declared.node.Node.TheViews.{out-Node}
use Rattle.embellished.specs.Seen.{seen_of}
use Rattle.layout_model.specs.Laid.{all_outcomes}
use Rattle.layout_model.specs.Laws.{answer_of}
use Rattle.layout_model.specs.Layout.{laid, lay, questions}
use Rattle.layout_model.specs.Range.{mark_fits, offset_fits, outcome_fits}
use Rattle.layout_model.specs.declared.context.Context.{Context}
use Rattle.layout_model.specs.declared.laid.Laid.{Laid}
use Rattle.layout_model.specs.declared.laid.Laid.TheOpen.{Laid-F}
use Rattle.layout_model.specs.declared.laid.Laid.TheViews.{out-Laid, out-roll-Laid}
use Rattle.layout_model.proofs.Trees.{laid_is}
use Rattle.outcome_cells.specs.Cells.{IsMarkHeld, IsOffsetHeld, mark_numbers, offset_numbers}
use Rattle.outcome_cells.specs.Parts.{AreItems, ArePartsOf}
use Rattle.outcome_cells.specs.Store.{HasOutcome, Runs}
use Rattle.outcome_cells.specs.declared.parts.Parts.{Parts}
use Rattle.kept_results.specs.Backed.{IsBacked}
use Rattle.kept_results.specs.Kept.{Agrees, HasEntry}
use Rattle.kept_results.specs.declared.memo.Entry.{Entry}
use Rattle.kept_results.specs.declared.memo.Memo.{Memo}
use Rattle.kept_results.specs.declared.memo.Memo.TheViews.{out-Memo}
use Rattle.kept_laid.specs.Laid.{kids_laid, laid_kid}
use Rattle.kept_laid.specs.declared.laid.KeptLayout.{KeptLayout}
use Rattle.kept_laid.proofs.Reading.{asks_are, asks_in, keeps_layout}
use Rattle.box_writer.specs.declared.placed.PlacedItem.{PlacedItem}
use Rattle.placement.specs.Placing.{kids_at, placed}
use Rattle.placement.proofs.Lent.{IsMark, IsOffset, KidsPlaced, all_stored}
use Rattle.placement.proofs.Near.{marks_stored, offsets_stored}

module _ (m : MetricsValue) (node : Node) (context : Context) where
  abbrev all : Laid
  all = laid m node context

  layer : Laid-F Laid
  layer = record {
    head = (out-Node node).head;
    outcome = lay m node context;
    kids = kids_laid m node (questions m (seen_of node) context (answer_of m node));
  }

  all_out : out-Laid all ≡ layer
  unfolding layer
  all_out = ap out-Laid (laid_is m node context) ∙ out-roll-Laid _

  pub head_is : (out-Laid all).head ≡ (out-Node node).head
  unfolding layer
  head_is = ap (λ (l : Laid-F Laid). l.head) all_out

  module _ (memo : Memo) (entry : Entry) (agrees : Agrees m node memo) (has : HasEntry (out-Memo memo) entry) (is : entry.context ≡ context) where
    pub keeps_outcome : (runs : Runs) → IsBacked m runs node memo → HasOutcome runs entry.run.0 (out-Laid all).outcome
    unfolding layer
    keeps_outcome runs backed =
        subst (HasOutcome runs entry.run.0) (sym (ap (λ (l : Laid-F Laid). l.outcome) all_out)) (keeps_layout m node memo entry agrees has runs backed context is)

    pub kids_of : (kids : List Laid) → kids ≡ kids_laid m node (asks_in entry) → kids ≡ (out-Laid all).kids
    unfolding layer
    kids_of kids k = k ∙ ap (kids_laid m node) (asks_are m node memo entry agrees has context is) ∙ sym (ap (λ (l : Laid-F Laid). l.kids) all_out)

-- ---- the cells of its outcome

module _ (l : Laid) (runs : Runs) (id : ℕ) (parts : Parts) (has : HasOutcome runs id (out-Laid l).outcome) (are : ArePartsOf parts (out-Laid l).outcome) (fit : all_outcomes outcome_fits l ≡ true) where
  pub marks_are : AreItems mark_numbers IsMark parts.marks.now
  marks_are = record {
    items = (out-Laid l).outcome.marks;
    fits = all_stored IsMarkHeld mark_fits (out-Laid l).outcome.marks has.held.marks (marks_stored l fit);
    cells_are = are.marks;
  }

  pub offsets_are : AreItems offset_numbers IsOffset parts.offsets.now
  offsets_are = record {
    items = (out-Laid l).outcome.offsets;
    fits = all_stored IsOffsetHeld offset_fits (out-Laid l).outcome.offsets has.held.offsets (offsets_stored l fit);
    cells_are = are.offsets;
  }

  -- nothing is placed of its children yet
  pub kids_start : (x y : ℤ) (kids : List Laid) (items : List PlacedItem) → kids ≡ (out-Laid l).kids → KidsPlaced x y l items parts.offsets.now kids 0 items
  unfolding offsets_are
  kids_start x y kids items is = record {
    offsets = offsets_are;
    shown = ap (λ (some : List Laid). items ++ kids_at x y (out-Laid l).outcome.offsets (map placed some)) is;
  }

-- ---- children

-- a child that is laid out, among all of them
pub laid_at : (m : MetricsValue) (kids : List KeptLayout) (i : ℕ) (kid : KeptLayout) → i < length kids → kid ≡ get_or kids i kid
    → laid_kid m kid ≡ get_or (map (laid_kid m) kids) i (laid_kid m kid)
laid_at m kids i kid within is =
    sym (get_or_from_slice_get (map (laid_kid m) kids) i (laid_kid m kid) (laid_kid m kid)
    (slice_get-map (laid_kid m) kids i ∙ ap (option_map (laid_kid m)) (slice_get-get_or kids i kid within ∙ ap (λ (k : KeptLayout). Some k) (sym is))))
