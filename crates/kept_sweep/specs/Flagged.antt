-- Entries are flagged that a layout needs, and all else is as it was.
use Rattle.std.specs.Prelude.{◌≡◌, ◌⊎◌, ℕ, List, ◌∷◌, map, None, Some, slice_get}
use Rattle.font_metrics.specs.Metrics.{MetricsValue}
use Rattle.math_tree.specs.declared.node.Node.{Node}
use Rattle.math_tree.specs.declared.node.Node.TheViews.{out-Node}
use Rattle.layout_model.specs.declared.context.Context.{Context}
use Rattle.layout_model.specs.declared.context.Question.{Question}
use Rattle.kept_results.specs.Ends.{settled}
use Rattle.kept_results.specs.Kept.{Agrees, HoldsOne, IsKept}
use Rattle.kept_results.specs.Passes.{AnswersNeed, Needs}
use Rattle.kept_results.specs.Tidy.{AreTidy, IsTidy}
use Rattle.kept_results.specs.declared.memo.Entry.{Entry}
use Rattle.kept_results.specs.declared.memo.Memo.{Memo}
use Rattle.kept_results.specs.declared.memo.Memo.TheFolds.{fold-Memo}
use Rattle.kept_results.specs.declared.memo.Memo.TheOpen.{Memo-F}
use Rattle.kept_results.specs.declared.memo.Memo.TheViews.{out-Memo, roll-Memo}

-- ---- marks and flags

abbrev pub marked_layer : Memo-F Memo → Memo
marked_layer layer = roll-Memo record {
  former = Some record { facts = layer.facts; alike_but = None };
  facts = layer.facts;
  entries = layer.entries;
  below = layer.below;
}

-- the same memo with a mark at each element
abbrev pub all_marked : Memo → Memo
all_marked memo = fold-Memo Memo marked_layer memo

abbrev pub cleared_layer : Memo-F Memo → Memo
cleared_layer layer = roll-Memo record {
  former = None;
  facts = layer.facts;
  entries = map settled layer.entries;
  below = layer.below;
}

-- the same memo without marks and flags, so that none of its entries is an older one
abbrev pub cleared : Memo → Memo
cleared memo = fold-Memo Memo cleared_layer memo

-- ---- one element

-- the entry at a place is in this context, older or not
pub record StandsAt (entries : List Entry) (context : Context) (place : ℕ) : Type 0 where
  pub entry : Entry
  pub at : slice_get entries place ≡ Some entry
  pub in_context : entry.context ≡ context

-- what the layout of a node in a context needs came to be kept, and nothing else
pub record IsFlagged (m : MetricsValue) (node : Node) (context : Context) (before after : Memo)
    : Type 0 where
  pub agrees : Agrees m node after
  pub same : cleared after ≡ cleared before
  pub grows : (path : List ℕ) (other : Context) → HoldsOne path before other
      → HoldsOne path after other
  pub asked : (path : List ℕ) (other : Context) → HoldsOne path after other
      → HoldsOne path before other ⊎ Needs m node context record { path = path; context = other }
  pub here : IsKept (out-Memo after) context
  pub tidy : IsTidy before → IsTidy after

-- ---- its children

-- an element below the child at a place has an entry in a context
abbrev pub IsKeptBelow : ℕ → List ℕ → List Memo → Context → Type 0
IsKeptBelow place path below context = (memo : Memo) × (slice_get below place ≡ Some memo)
    × HoldsOne path memo context

-- each child agrees with its memo
abbrev pub BelowAgree : MetricsValue → Node → List Memo → Type 0
BelowAgree m node below = (place : ℕ) (child : Node) (memo : Memo)
    → slice_get (out-Node node).children place ≡ Some child
    → slice_get below place ≡ Some memo → Agrees m child memo

-- what the answers to some questions of a node need came to be kept, and nothing else
pub record AreFlagged (m : MetricsValue) (node : Node) (asks : List Question)
    (before after : List Memo) : Type 0 where
  pub agrees : BelowAgree m node after
  pub same : map cleared after ≡ map cleared before
  pub grows : (place : ℕ) (path : List ℕ) (context : Context)
      → IsKeptBelow place path before context → IsKeptBelow place path after context
  pub asked : (place : ℕ) (path : List ℕ) (context : Context) → IsKeptBelow place path after context
      → IsKeptBelow place path before context ⊎ AnswersNeed m node asks record {
        path =
            place ∷ path;
        context = context;
      }
  pub tidy : AreTidy before → AreTidy after
