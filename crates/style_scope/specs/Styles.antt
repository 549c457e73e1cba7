-- The style of an element: its parent's, after one rule after another.
use Rattle.std.specs.Prelude.{Bool, false, codes, pos, List, unwrap_or}
use Rattle.std.specs.Option.{option_map}
use Rattle.fixed_units.specs.Words.{is_word}
use Rattle.font_metrics.specs.Metrics.{MetricsValue}
use Rattle.math_tree.specs.Attributes.{value_of}
use Rattle.math_tree.specs.declared.attributes.Attribute.{Attribute}
use Rattle.math_tree.specs.declared.node.Head.{Head}
use Rattle.style_scope.specs.declared.style.Place.{Place}
use Rattle.style_scope.specs.declared.style.Style.{Style}
use Rattle.style_scope.specs.Rules.{by_place, by_name, by_direction, by_display, by_level, by_size, size_written}
use Rattle.style_scope.specs.Sizes.{size_of}

-- what an element's own attributes make of a style, below a parent of this style
unfoldable pub by_attributes : MetricsValue → Style → List Attribute → Style → Style
by_attributes m parent attributes style =
    by_size m (size_of m parent) (size_written attributes)
    (by_level parent.depth attributes (by_display attributes (by_direction attributes style)))

-- 16 px at depth 0, neither in display style nor cramped, from left to right
abbrev pub initial : Style
initial = record {
  base = pos 16384;
  base_depth = 0;
  depth = 0;
  display = false;
  cramped = false;
  rtl = false;
}

-- whether the root is a formula of its own
abbrev pub is_block : List Attribute → Bool
is_block attributes = unwrap_or
    (option_map (λ value. is_word value (codes "block")) (value_of (codes "display") attributes))
    false

unfoldable pub root_style_of : MetricsValue → Head → Style
root_style_of m root = by_attributes m initial root.attributes
    (record initial { display = is_block root.attributes })

unfoldable pub child_style_of : MetricsValue → Style → Place → Head → Style
child_style_of m parent place child = by_attributes m parent child.attributes
    (by_name child.kind (by_place place parent))
