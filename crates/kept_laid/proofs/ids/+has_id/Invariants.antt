use Rattle.std.proofs.Common.{◌≡◌, ℕ, take, false}
use Rattle.kept_laid.proofs.IdsBelow.{in_all}
use Rattle.kept_laid.proofs.ids.+has_id.Given as goal

-- no element has the id in the first children
abbrev pub invariant-loop-child : goal.invariant-loop-child
invariant-loop-child l = (level : ℕ) → in_all l.id level (take l.child-index l.child-items) ≡ false
