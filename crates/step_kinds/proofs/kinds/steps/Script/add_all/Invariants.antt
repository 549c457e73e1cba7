use Rattle.memo_tree.specs.States.{IsIn, Sealed}
use Rattle.step_kinds.proofs.kinds.steps.Script.add_all.Given as goal

-- neither an edit nor a pass is under way
abbrev pub invariant-loop-value : goal.invariant-loop-value
invariant-loop-value g l = IsIn Sealed l.beside.laid
