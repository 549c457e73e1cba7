-- What the maps of an `Extra` keep of its lines.
use Rattle.std.specs.Prelude.{◌≡◌, ◌&&◌, Bool, List, Some, None, if◌then◌else◌}
use Rattle.std.specs.List.{All}
use Rattle.std.specs.Map.{lookup}
use Rattle.std.specs.Option.{option_or}
use Rattle.op_dictionary.specs.declared.extra.OperatorLine.{OperatorLine}
use Rattle.op_dictionary.specs.declared.extra.Pair.{Pair}
use Rattle.op_dictionary.specs.declared.extra.Extra.TheInside.{Inside}
use Rattle.op_dictionary.specs.declared.operator.Axis.{Axis}
use Rattle.op_dictionary.specs.declared.text.OpText.{OpText}
use Rattle.op_dictionary.specs.Dictionary.{line_category, line_axis, AreDistinct}
use Rattle.op_dictionary.specs.Pairs.{same_text, same_form, IsLineText}

-- whether two keys are one pair
abbrev pub same_key : Pair → Pair → Bool
same_key pair other = same_text pair.text other.text && same_form pair.form other.form

-- the entries of the map of axes
abbrev pub Axes : Type 0
Axes = List (OpText × Axis)

-- the axes after one more line: its text gets its axis where that text is new
pub record AddsAxis (old new : Axes) (line : OperatorLine) : Type 0 where
  pub added : (text : OpText) → lookup (same_text text) new
      ≡ option_or (lookup (same_text text) old)
      (if same_text text line.text then Some line.axis else None)

-- the category of each pair is that of its line, and the axis of each text that of its first line;
-- no two lines name one pair, and each line's text is one that a line may have
pub record IsKept (extra : Inside) : Type 0 where
  pub categories : (pair : Pair) → lookup (same_key pair) extra.categories.entries
      ≡ line_category extra.lines.items pair.text pair.form
  pub axes : (text : OpText) → lookup (same_text text) extra.axes.entries
      ≡ line_axis extra.lines.items text
  pub distinct : AreDistinct extra.lines.items
  pub texts : All (λ line. IsLineText line.text) extra.lines.items
