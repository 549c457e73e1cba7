use Rattle.std.proofs.Common.{ℕ, ◌≤◌, drop}
use Rattle.doc_io.specs.MemoryInputs.{IsGreatest, IsUncut}
use Rattle.doc_io.proofs.memory_inputs.uncut.Given as goal

-- what the cuts to come leave of the count is what all of them leave of the most
abbrev pub invariant-loop-cut : goal.invariant-loop-cut
invariant-loop-cut l = (n : ℕ) → IsGreatest (λ n. (n ≤ l.count) × IsUncut (drop l.cut-index l.cuts) l.place n) n →
    IsGreatest (λ n. (n ≤ l.most) × IsUncut l.cuts l.place n) n
