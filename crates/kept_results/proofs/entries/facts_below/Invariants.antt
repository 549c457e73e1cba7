use Rattle.std.proofs.Common.{◌≡◌, map, take}
use Rattle.kept_results.specs.Looking.{own_facts}
use Rattle.kept_results.proofs.entries.facts_below.Given as goal

abbrev pub invariant-loop-memo : goal.invariant-loop-memo
invariant-loop-memo l = l.kids ≡ map own_facts (take l.memo-index l.below)
