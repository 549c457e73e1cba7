-- The box of a cell: a row with padding round it, which the style sheet of MathML Core gives `mtd`.
use Rattle.std.specs.Prelude.{ℤ, pos, ◌+ℤ◌, ◌*ℤ◌}
use Rattle.fixed_units.specs.Numbers.{rounded, halved}
use Rattle.fixed_units.specs.declared.boxes.MathBox.{MathBox}
use Rattle.font_metrics.specs.Metrics.{MetricsValue, ex_of}

-- 0.4em at both sides
unfoldable pub cell_start_of : ℤ → ℤ
cell_start_of size = rounded (pos 2 *ℤ size) (pos 5)

-- 0.5ex above and below
unfoldable pub cell_rise_of : ℤ → ℤ
cell_rise_of ex = rounded ex (pos 2)

-- ink is the row's
unfoldable pub cell_of : MetricsValue → MathBox → ℤ → MathBox
cell_of m row size =
    let rise = cell_rise_of (ex_of m size) in
    let width = row.width +ℤ pos 2 *ℤ cell_start_of size in
    record row {
      width = width;
      ascent = row.ascent +ℤ rise;
      descent = row.descent +ℤ rise;
      italic = pos 0;
      accent = halved width;
    }
