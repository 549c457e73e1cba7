-- The box of a space (MathML Core 3.2.5).
use Rattle.std.specs.Prelude.{ℕ, ℤ, pos, List, codes, unwrap_or}
use Rattle.std.specs.Int.{int_max}
use Rattle.fixed_units.specs.Numbers.{halved}
use Rattle.fixed_units.specs.declared.boxes.MathBox.{MathBox}
use Rattle.font_metrics.specs.Metrics.{MetricsValue}
use Rattle.math_tree.specs.declared.node.Head.{Head}
use Rattle.token_boxes.specs.Lengths.{absolute_in}

-- what an attribute gives, by default 0; own choice: a percentage counts as absent, and less than
-- nothing as nothing
unfoldable pub side_of : MetricsValue → Head → List ℕ → ℤ → ℤ
side_of m head name size = int_max (unwrap_or (absolute_in m size name head.attributes) (pos 0))
    (pos 0)

-- it has no ink, and reaches as far as if it had
unfoldable pub space_of : MetricsValue → Head → ℤ → MathBox
space_of m head size =
    let width = side_of m head (codes "width") size in
    let ascent = side_of m head (codes "height") size in
    let descent = side_of m head (codes "depth") size in
    record {
      width = width;
      ascent = ascent;
      descent = descent;
      ink_ascent = ascent;
      ink_descent = descent;
      italic = pos 0;
      accent = halved width;
    }
