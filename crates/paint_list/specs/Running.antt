-- The code's way along an assembly: from the start of one piece to that of the next.
use Rattle.std.specs.Prelude.{ℤ, ◌+ℤ◌, List, [], ◌∷◌}
use Rattle.font_metrics.specs.Metrics.{MetricsValue}
use Rattle.font_metrics.specs.declared.growth.Part.{Part}
use Rattle.paint_list.specs.Pieces.{piece_at, step_of}
use Rattle.paint_list.specs.declared.paints.Paint.{Paint}
use Rattle.paint_list.specs.declared.pieces.Assembly.{Assembly}

-- pieces one behind the other, from the start of the first
unfoldable pub laid_from : MetricsValue → Assembly → ℤ → List Part → List Paint
laid_from m built start [] = []
laid_from m built start (part ∷ parts) =
    piece_at m built part start ∷ laid_from m built (start +ℤ step_of m built part) parts

-- the start of what would stand behind them
unfoldable pub start_after : MetricsValue → Assembly → ℤ → List Part → ℤ
start_after m built start [] = start
start_after m built start (part ∷ parts) = start_after m built (start +ℤ step_of m built part) parts
