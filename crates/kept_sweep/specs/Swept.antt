-- What a sweep leaves of kept layouts.
use Rattle.std.specs.Prelude.{◌≡◌, ◌↔◌, ℕ, ◌+◌, true, List, length}
use Rattle.std.specs.List.{AllByRecursion, Contains}
use Rattle.font_metrics.specs.Metrics.{MetricsValue}
use Rattle.math_tree.specs.declared.node.Node.{Node}
use Rattle.layout_model.specs.Layout.{Visit, visits}
use Rattle.layout_model.specs.Made.{IsMade, visit_of}
use Rattle.layout_model.specs.declared.context.Context.{Context}
use Rattle.kept_results.specs.Ends.{stripped}
use Rattle.kept_results.specs.Kept.{Agrees, Holds}
use Rattle.kept_results.specs.Laws.{AllKept, is_unmarked}
use Rattle.kept_results.specs.Passes.{HasNoRepeat, IsPairKept, Needs, Pair}
use Rattle.kept_results.specs.declared.memo.Entry.{Entry}
use Rattle.kept_results.specs.declared.memo.Memo.{Memo}

-- a memo agrees with its tree, has no marks and flags, and keeps exactly the layouts that the one
-- of the root in a context needs
pub record KeepsNeeded (m : MetricsValue) (node : Node) (context : Context) (memo : Memo)
    : Type 0 where
  pub agrees : Agrees m node memo
  pub unmarked : is_unmarked memo ≡ true
  pub plain : stripped memo ≡ memo
  pub all : AllKept m node context memo
  pub no_other : (pair : Pair) → IsPairKept memo pair → Needs m node context pair

-- each entry that one memo keeps is kept by another one, just as it is
abbrev pub IsPartOf : Memo → Memo → Type 0
IsPartOf part whole = (path : List ℕ) (entry : Entry) → Holds path part entry
    → Holds path whole entry

-- the steps that were counted are layouts that the one of the root needs, none of them twice
pub record CountsNeeded (m : MetricsValue) (node : Node) (context : Context) (from to : ℕ)
    : Type 0 where
  pub pairs : List Pair
  pub steps : to ≡ from + length pairs
  pub needed : AllByRecursion (Needs m node context) pairs
  pub apart : HasNoRepeat pairs

-- a layout that is kept, as it is listed
pub record IsKeptVisit (m : MetricsValue) (node : Node) (context : Context) (memo : Memo)
    (visit : Visit) : Type 0 where
  pub pair : Pair
  pub kept : IsPairKept memo pair
  pub element : Node
  pub made : IsMade m pair.path node context element pair.context
  pub listed : visit ≡ visit_of m element pair.context

-- what such a memo keeps is what is listed for the layout of the root
abbrev pub KeptVisitsLaw : Type 0
KeptVisitsLaw = (m : MetricsValue) (node : Node) (context : Context) (memo : Memo)
    → KeepsNeeded m node context memo →
    (visit : Visit) → Contains (visits m node context) visit ↔ IsKeptVisit m node context memo visit
