use Rattle.std.proofs.Common.{◌≡◌, ◌≤◌, None}
use Rattle.font_metrics.specs.Metrics.{MetricsValue}
use Rattle.kept_results.specs.Backed.{IsBacked}
use Rattle.kept_results.specs.Kept.{Agrees}
use Rattle.kept_laid.specs.Boxes.{box_below}
use Rattle.kept_laid.specs.Places.{shown_before}
use Rattle.kept_laid.proofs.Reading.{asks_in, kids_until}
use Rattle.kept_laid.proofs.boxes.+boxes.Given as goal

-- so many of the children before the place may be in flow, and none of them has the box
abbrev pub invariant-box_of_kids-loop-place : goal.invariant-box_of_kids-loop-place
invariant-box_of_kids-loop-place l =
    (l.index ≡ shown_before l.node l.place) × (l.index ≤ l.place)
    × ((m : MetricsValue) → Agrees m l.node l.memo → IsBacked m l.store.runs l.node l.memo → box_below l.id (kids_until m l.node (asks_in l.entry) l.index) ≡ None)
