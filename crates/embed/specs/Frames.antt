-- The box of an element as C has it.
use Rattle.fixed_units.specs.declared.boxes.MathBox.{MathBox}
use Rattle.embed.specs.declared.frame.Frame.{Frame}

abbrev pub frame_of : MathBox → Frame
frame_of b = record {
  width = b.width;
  ascent = b.ascent;
  descent = b.descent;
  ink_ascent = b.ink_ascent;
  ink_descent = b.ink_descent;
  italic = b.italic;
  accent = b.accent;
}
