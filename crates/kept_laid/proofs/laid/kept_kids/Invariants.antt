use Rattle.std.proofs.Common.{◌≡◌, map}
use Rattle.font_metrics.specs.Metrics.{MetricsValue}
use Rattle.kept_results.specs.Kept.{Agrees}
use Rattle.kept_laid.specs.Laid.{AreKids, laid_kid}
use Rattle.kept_laid.proofs.Reading.{asks_in, kids_until}
use Rattle.kept_laid.proofs.laid.kept_kids.Given as goal

-- the first children
abbrev pub invariant-loop-index : goal.invariant-loop-index
invariant-loop-index l =
    AreKids l.node l.memo l.kids.items × ((m : MetricsValue) → Agrees m l.node l.memo → map (laid_kid m) l.kids.items ≡ kids_until m l.node (asks_in l.entry) l.index)
