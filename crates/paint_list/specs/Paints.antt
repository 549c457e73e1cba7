-- What is painted of a page.
use Rattle.std.specs.Prelude.{ℕ, List, [], ◌∷◌}
use Rattle.std.specs.List.{flat_map}
use Rattle.font_metrics.specs.Metrics.{MetricsValue}
use Rattle.font_metrics.specs.declared.mark.Mark.{Mark}
use Rattle.font_metrics.specs.declared.mark.Mark.TheVariants as mark
use Rattle.box_writer.specs.Items.{IsKnown}
use Rattle.box_writer.specs.declared.placed.PlacedItem.{PlacedItem}
use Rattle.box_writer.specs.declared.placed.PlacedItem.TheVariants.{Frame, Drawn}
use Rattle.paint_list.specs.Pieces.{IsAssembly, built_paints}
use Rattle.paint_list.specs.declared.paints.Paint.{Paint}
use Rattle.paint_list.specs.declared.paints.Paint.TheVariants.{Glyph, Rule}

-- a glyph and a rule as they are, and an assembly as its pieces
abbrev pub paints_of_mark : MetricsValue → Mark → List Paint
paints_of_mark m (mark.Glyph x y size glyph) = Glyph x y size glyph ∷ []
paints_of_mark m (mark.Rule x y width height) = Rule x y width height ∷ []
paints_of_mark m (mark.Built x y size axis glyph count overlap) =
    built_paints m record {
      x = x;
      y = y;
      size = size;
      axis = axis;
      glyph = glyph;
      count = count;
      overlap = overlap;
    }

-- nothing of a box
abbrev pub paints_of : MetricsValue → PlacedItem → List Paint
paints_of m (Frame placed) = []
paints_of m (Drawn mark) = paints_of_mark m mark

-- of all that stands on a page, in its order
unfoldable pub painted : MetricsValue → List PlacedItem → List Paint
painted m items = flat_map (paints_of m) items

-- the most glyphs and rules that are painted
abbrev pub most_paints : ℕ
most_paints = 33554432

-- what can be painted: a glyph of the font, a rule, an assembly whose numbers aren't too large
abbrev pub IsPaintableMark : MetricsValue → Mark → Type 0
IsPaintableMark m (mark.Glyph x y size glyph) = IsKnown m glyph
IsPaintableMark m (mark.Rule x y width height) = Unit {0}
IsPaintableMark m (mark.Built x y size axis glyph count overlap) =
    IsAssembly m record {
      x = x;
      y = y;
      size = size;
      axis = axis;
      glyph = glyph;
      count = count;
      overlap = overlap;
    }

abbrev pub IsPaintable : MetricsValue → PlacedItem → Type 0
IsPaintable m (Frame placed) = Unit {0}
IsPaintable m (Drawn mark) = IsPaintableMark m mark

-- the glyph that is painted, if one is, is one of the font's
abbrev pub IsOfFont : MetricsValue → Paint → Type 0
IsOfFont m (Glyph x y size glyph) = IsKnown m glyph
IsOfFont m (Rule x y width height) = Unit {0}
