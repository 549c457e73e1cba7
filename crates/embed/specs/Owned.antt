-- What a handle owns.
use Rattle.std.specs.Prelude.{Option, Some, None}
use mir.Syntax.{Ty}
use base.Fml.{Fml, feq}
use denote.RawPtr.{Ptr, null_ptr}
use Rattle.std.specs.Box.Ownership.{box_owns}
use Rattle.std.specs.contracts.impls.GlobalAllocator.TheImpl.{ghosts}
use Rattle.font_metrics.specs.Metrics.{MetricsValue}
use Rattle.font_metrics.specs.contracts.metrics.Metrics.{the_row as metrics_row}
use Rattle.embed.specs.Desks.{DeskValue}
use Rattle.embed.specs.contracts.desk.Desk.{the_row}

-- the right to free a block of the heap's; every `Global` is alike
abbrev pub may_free : Ty → Ptr → Fml
may_free = ghosts.dealloc_token (record { memory = record { seal = tt } })

-- what a handle owns that points there: nothing at null, and else a desk and the right to free its
-- block
abbrev pub handle_owns : Ptr → Option DeskValue → Fml
handle_owns at None = feq Ptr at null_ptr
handle_owns at (Some desk) = box_owns may_free the_row at desk

-- the same of a handle of metrics
abbrev pub font_owns : Ptr → Option MetricsValue → Fml
font_owns at None = feq Ptr at null_ptr
font_owns at (Some metrics) = box_owns may_free metrics_row at metrics
