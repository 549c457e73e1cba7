use Rattle.std.proofs.Common.{◌≡◌, ℕ, true, List, map, take}
use Rattle.std.specs.List.{AllByRecursion}
use Rattle.font_metrics.specs.Metrics.{MetricsValue}
use Rattle.math_tree.specs.declared.node.Node.{Node}
use Rattle.layout_model.specs.Answers.{answers_in, questions_in}
use Rattle.layout_model.specs.Laws.{answer_of}
use Rattle.layout_model.specs.declared.context.Question.{Question}
use Rattle.layout_model.specs.declared.reply.Reply.{Reply}
use Rattle.layout_model.proofs.Waves.{all_fit}
use Rattle.outcome_cells.specs.Store.{StoreValue}
use Rattle.kept_results.specs.Backed.{Grows}
use Rattle.kept_results.specs.Kept.{NamesKept}
use Rattle.kept_results.specs.Passes.{AnswersNeed, Passes}
use Rattle.kept_results.specs.Tidy.{AreTidy}
use Rattle.kept_results.specs.declared.memo.Memo.{Memo}
use Rattle.kept_results.specs.declared.memo.Memo.TheViews.{out-Memo}
use Rattle.kept_relay.proofs.relay.+relay.Given as goal

-- the first questions are answered, in range and kept, and that is all that the pass did
pub record Answered (m : MetricsValue) (node : Node) (before memo : Memo) (held holds : StoreValue) (asks : List Question) (index : ℕ) (replies : List Reply) (from to : ℕ) : Type 0 where
  pub same : questions_in replies ≡ asks
  pub told : take index (answers_in replies) ≡ map (answer_of m node) (take index asks)
  pub fit : all_fit m node (take index asks) ≡ true
  pub passes : Passes m node (AnswersNeed m node asks) before memo from to true
  pub grows : Grows m node before memo held holds from to true
  pub own : (out-Memo memo).entries ≡ (out-Memo before).entries
  pub marked : (out-Memo memo).former ≡ (out-Memo before).former
  pub kept : AllByRecursion (NamesKept node (out-Memo memo).below) (take index asks)
  pub tidy : AreTidy (out-Memo memo).below

abbrev pub invariant-relay_all-loop-index : goal.invariant-relay_all-loop-index
invariant-relay_all-loop-index g l = Answered l.metrics l.node l.fn.memo l.memo l.fn.store l.store (questions_in l.fn.replies) l.index l.replies l.fn.steps l.steps
