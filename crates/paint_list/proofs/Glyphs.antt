-- What is painted names glyphs of the font.
use Rattle.std.proofs.Common.{◌≡◌, sym, subst, ℤ, pos, ◌+ℤ◌, List, [], ◌∷◌, ◌++◌, length}
use Rattle.std.specs.List.{All}
use Rattle.std.proofs.lemmas.List.Elements.{All-append, All-cons, All-head, All-nil, All-tail}
use Rattle.op_dictionary.specs.declared.operator.Axis.{Axis}
use Rattle.op_dictionary.specs.declared.operator.Axis.TheVariants.{Block, Inline}
use Rattle.font_metrics.proofs.Bounds.{parts_are_parts}
use Rattle.font_metrics.specs.Metrics.{MetricsValue}
use Rattle.font_metrics.specs.Taken.{IsPart, IsTaken}
use Rattle.font_metrics.specs.declared.growth.Part.{Part}
use Rattle.font_metrics.specs.declared.mark.Mark.{Mark}
use Rattle.font_metrics.specs.declared.mark.Mark.TheVariants as mark
use Rattle.box_writer.specs.declared.placed.PlacedItem.{PlacedItem}
use Rattle.box_writer.specs.declared.placed.PlacedItem.TheVariants.{Frame, Drawn}
use Rattle.paint_list.specs.Paints.{IsOfFont, IsPaintable, IsPaintableMark, painted, paints_of, paints_of_mark}
use Rattle.paint_list.specs.Pieces.{built_paints, piece_along, piece_at, pieces_in, step_of}
use Rattle.paint_list.specs.Running.{laid_from}
use Rattle.paint_list.specs.declared.paints.Paint.{Paint}
use Rattle.paint_list.specs.declared.paints.Paint.TheVariants.{Glyph, Rule}
use Rattle.paint_list.specs.declared.pieces.Assembly.{Assembly}
use Rattle.paint_list.proofs.Running.{built_is_laid, pieces_are_parts}

module _ (m : MetricsValue) where
  along_known : (axis : Axis) (built : Assembly) (part : Part) (start : ℤ) → IsPart (length m.glyphs) part → IsOfFont m (piece_along axis m built part start)
  along_known Block built part start h = h.glyph
  along_known Inline built part start h = h.glyph

  piece_known : (built : Assembly) (part : Part) (start : ℤ) → IsPart (length m.glyphs) part → IsOfFont m (piece_at m built part start)
  unfolding piece_at
  piece_known built part start h = along_known built.axis built part start h

  laid_known : (built : Assembly) (start : ℤ) (parts : List Part) → All (IsPart (length m.glyphs)) parts → All (IsOfFont m) (laid_from m built start parts)
  unfolding laid_from
  laid_known built start [] all = All-nil (IsOfFont m)
  laid_known built start (part ∷ parts) all =
      All-cons (IsOfFont m) (piece_at m built part start) (laid_from m built (start +ℤ step_of m built part) parts)
      (piece_known built part start (All-head (IsPart (length m.glyphs)) part parts all))
      (laid_known built (start +ℤ step_of m built part) parts (All-tail (IsPart (length m.glyphs)) part parts all))

  built_known : (built : Assembly) → IsTaken m → All (IsOfFont m) (built_paints m built)
  built_known built taken =
      subst (All (IsOfFont m)) (sym (built_is_laid m built))
      (laid_known built (pos 0) (pieces_in m built) (pieces_are_parts (IsPart (length m.glyphs)) built.count _ (parts_are_parts m built.glyph.0 built.axis taken)))

  mark_known : (mark : Mark) → IsTaken m → IsPaintableMark m mark → All (IsOfFont m) (paints_of_mark m mark)
  mark_known (mark.Glyph x y size glyph) taken h = All-cons (IsOfFont m) (Glyph x y size glyph) [] h (All-nil (IsOfFont m))
  mark_known (mark.Rule x y width height) taken h = All-cons (IsOfFont m) (Rule x y width height) [] tt (All-nil (IsOfFont m))
  mark_known (mark.Built x y size axis glyph count overlap) taken h =
      built_known record { x = x; y = y; size = size; axis = axis; glyph = glyph; count = count; overlap = overlap } taken

  item_known : (item : PlacedItem) → IsTaken m → IsPaintable m item → All (IsOfFont m) (paints_of m item)
  item_known (Frame placed) taken h = All-nil (IsOfFont m)
  item_known (Drawn mark) taken h = mark_known mark taken h

  pub painted_known : (items : List PlacedItem) → IsTaken m → All (IsPaintable m) items → All (IsOfFont m) (painted m items)
  unfolding painted
  painted_known [] taken all = All-nil (IsOfFont m)
  painted_known (item ∷ items) taken all =
      All-append (IsOfFont m) (paints_of m item) (painted m items)
      (item_known item taken (All-head (IsPaintable m) item items all)) (painted_known items taken (All-tail (IsPaintable m) item items all))
