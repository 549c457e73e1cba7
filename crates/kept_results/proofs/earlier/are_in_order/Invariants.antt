use Rattle.std.proofs.Common.{◌≡◌, ◌<◌, ℕ, Some, slice_get}
use Rattle.layout_model.specs.declared.reply.Reply.{Reply}
use Rattle.kept_results.proofs.earlier.are_in_order.Given as goal

-- the first questions are
abbrev pub invariant-loop-index : goal.invariant-loop-index
invariant-loop-index l = (k : ℕ) (reply : Reply) → k < l.index → slice_get l.replies k ≡ Some reply → reply.question.kid ≡ k
