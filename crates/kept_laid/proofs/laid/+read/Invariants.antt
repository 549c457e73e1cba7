use Rattle.std.proofs.Common.{◌≡◌, map, take}
use Rattle.font_metrics.specs.Metrics.{MetricsValue}
use Rattle.kept_results.specs.Backed.{IsBacked}
use Rattle.kept_results.specs.Kept.{Agrees}
use Rattle.kept_laid.specs.Laid.{laid_kid}
use Rattle.kept_laid.proofs.laid.+read.Given as goal

-- the first children
abbrev pub invariant-laid_kids-loop-kid : goal.invariant-laid_kids-loop-kid
invariant-laid_kids-loop-kid l = (m : MetricsValue) → Agrees m l.node l.memo → IsBacked m l.store.runs l.node l.memo → l.all ≡ map (laid_kid m) (take l.kid-index l.kid-items)
