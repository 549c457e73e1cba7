-- What a pass over a tree does: it makes layouts that weren't kept, each of them once.
use Rattle.std.specs.Prelude.{◌≡◌, ⊤, ℕ, ◌+◌, Bool, true, List, [], ◌∷◌, length, Some, slice_get}
use Rattle.std.specs.List.{AllByRecursion, Contains}
use Rattle.font_metrics.specs.Metrics.{MetricsValue}
use Rattle.math_tree.specs.declared.node.Node.{Node}
use Rattle.embellished.specs.Seen.{Child, flow_children}
use Rattle.layout_model.specs.Made.{IsMade}
use Rattle.layout_model.specs.declared.context.Context.{Context}
use Rattle.layout_model.specs.declared.context.Question.{Question}
use Rattle.kept_results.specs.Ends.{kept_count, stripped}
use Rattle.kept_results.specs.Kept.{Agrees, HoldsOne, Keeps}
use Rattle.kept_results.specs.declared.memo.Memo.{Memo}

-- an element, by the places of children down to it, in a context
pub record Pair : Type 0 where
  pub path : List ℕ
  pub context : Context

-- ---- what is needed

-- the layout of a node in a context needs it: it is its own, or that of something asked for it
pub record Needs (m : MetricsValue) (node : Node) (context : Context) (pair : Pair) : Type 0 where
  pub element : Node
  pub made : IsMade m pair.path node context element pair.context

-- the answers to some questions of a node need it
pub record AnswersNeed (m : MetricsValue) (node : Node) (asks : List Question) (pair : Pair)
    : Type 0 where
  pub question : Question
  pub asked : Contains asks question
  pub child : Child
  pub to : slice_get (flow_children node) question.kid ≡ Some child
  pub path : List ℕ
  pub down : pair.path ≡ child.place ∷ path
  pub below : Needs m child.node question.context record { path = path; context = pair.context }

-- ---- what is kept

abbrev pub IsPairKept : Memo → Pair → Type 0
IsPairKept memo pair = HoldsOne pair.path memo pair.context

abbrev pub IsPairMissing : Memo → Pair → Type 0
IsPairMissing memo pair = IsPairKept memo pair → ⊥

abbrev pub HasNoRepeat : List Pair → Type 0
HasNoRepeat [] = ⊤
HasNoRepeat (pair ∷ pairs) = AllByRecursion (λ other. pair ≡ other → ⊥) pairs × HasNoRepeat pairs

-- a pass, with the steps that were counted before it and after it, where what it was for needs some
-- pairs. It keeps the state and all that was kept, and undone it leaves no trace. Its steps are
-- pairs that are needed and weren't kept, none twice. Where it is done they are kept, and nothing
-- more is kept
pub record Passes (m : MetricsValue) (node : Node) (needed : Pair → Type 0) (before after : Memo)
    (from to : ℕ) (done : Bool) : Type 0 where
  pub agrees : Agrees m node after
  pub same : stripped after ≡ stripped before
  pub keeps : Keeps before after
  pub pairs : List Pair
  pub steps : to ≡ from + length pairs
  pub needed_all : AllByRecursion needed pairs
  pub missing : AllByRecursion (IsPairMissing before) pairs
  pub apart : HasNoRepeat pairs
  pub kept : done ≡ true → AllByRecursion (IsPairKept after) pairs
  pub grown : done ≡ true → kept_count after ≡ kept_count before + length pairs
