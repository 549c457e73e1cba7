use Rattle.std.proofs.Common.{◌≡◌, ◌++◌}
use Rattle.font_metrics.specs.Listed.{lists_of_entries}
use Rattle.font_metrics.proofs.by_glyph.ByGlyph.copy.Given as goal

-- the lists so far, and behind them those that are left
abbrev pub invariant-loop-place : goal.invariant-loop-place
invariant-loop-place g l = lists_of_entries l.lists.entries ++ lists_of_entries l.place-iterator ≡ l.self
