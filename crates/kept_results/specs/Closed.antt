-- Entries that follow from others by the equations of their elements.
use Rattle.std.specs.Prelude.{◌≡◌, ℕ, List, [], ◌∷◌, ◌++◌, Some, slice_get}
use Rattle.std.specs.List.{AllZip, Contains}
use Rattle.font_metrics.specs.Metrics.{MetricsValue}
use Rattle.math_tree.specs.declared.node.Node.{Node}
use Rattle.embellished.specs.Seen.{Child, flow_children, seen_of}
use Rattle.layout_model.specs.Answers.{questions_in}
use Rattle.layout_model.specs.Layout.{equation, lay}
use Rattle.layout_model.specs.Questions.{first, second}
use Rattle.layout_model.specs.declared.context.Question.{Question}
use Rattle.layout_model.specs.declared.outcome.Answer.{Answer}
use Rattle.layout_model.specs.declared.outcome.Outcome.{Outcome}
use Rattle.outcome_cells.specs.Store.{HasOutcome, Runs}
use Rattle.kept_results.specs.Kept.{HasEntry}
use Rattle.kept_results.specs.declared.memo.Entry.{Entry}
use Rattle.kept_results.specs.declared.memo.Memo.{Memo}
use Rattle.kept_results.specs.declared.memo.Memo.TheViews.{out-Memo}

-- a question of an element names this entry of the child to which it goes
pub record Names (node : Node) (below : List Memo) (question : Question) (child : Child)
    (memo : Memo) (entry : Entry) : Type 0 where
  pub to : slice_get (flow_children node) question.kid ≡ Some child
  pub at : slice_get below child.place ≡ Some memo
  pub has : HasEntry (out-Memo memo) entry
  pub in_context : entry.context ≡ question.context

-- it names an entry whose run has an outcome with this answer
pub record NamesAnswer (runs : Runs) (node : Node) (below : List Memo) (question : Question)
    (answer : Answer) : Type 0 where
  pub child : Child
  pub memo : Memo
  pub entry : Entry
  pub names : Names node below question child memo entry
  pub outcome : Outcome
  pub stores : HasOutcome runs entry.run.0 outcome
  pub answers : outcome.answer ≡ answer

-- the entries that it names are those of exactly what its element asks in both waves, and its run
-- has the equation of its element over their answers
pub record IsClosed (m : MetricsValue) (runs : Runs) (node : Node) (below : List Memo)
    (entry : Entry) : Type 0 where
  pub one : List Answer
  pub two : List Answer
  pub ones : questions_in entry.one ≡ first m (seen_of node) entry.context
  pub twos : questions_in entry.two ≡ second m (seen_of node) entry.context one
  pub one_named : AllZip (NamesAnswer runs node below) (questions_in entry.one) one
  pub two_named : AllZip (NamesAnswer runs node below) (questions_in entry.two) two
  pub stores : HasOutcome runs entry.run.0 (equation m (seen_of node) entry.context one two)

-- an entry is reached from another by naming, down the places of children
abbrev pub IsReached : List ℕ → Node → Memo → Entry → Node → Memo → Entry → Type 0
IsReached [] node memo entry element kept other = (element ≡ node) × (kept ≡ memo) × (other ≡ entry)
IsReached (place ∷ path) node memo entry element kept other =
    (question : Question) × (child : Child) × (below : Memo) × (next : Entry)
    × Contains (questions_in entry.one ++ questions_in entry.two) question
    × Names node (out-Memo memo).below question child below next
    × (child.place ≡ place) × IsReached path child.node below next element kept other

-- where an entry and all that are reached from it are closed, its run has the layout of its element
abbrev pub ClosedLaw : Type 0
ClosedLaw = (m : MetricsValue) (runs : Runs) (node : Node) (memo : Memo) (entry : Entry) →
    ((path : List ℕ) (element : Node) (kept : Memo) (other : Entry)
    → IsReached path node memo entry element kept other →
    IsClosed m runs element (out-Memo kept).below other) →
    HasOutcome runs entry.run.0 (lay m node entry.context)
