-- Where the boxes and marks of a laid-out tree stand.
use Rattle.std.specs.Prelude.{ℕ, ℤ, ◌+ℤ◌, Bool, true, false, if◌then◌else◌, List, [], ◌∷◌, ◌++◌, map}
use Rattle.font_metrics.specs.declared.mark.Mark.{Mark}
use Rattle.math_tree.specs.declared.kind.Kind.{Kind}
use Rattle.math_tree.specs.declared.kind.Kind.TheVariants.{Mphantom}
use Rattle.layout_model.specs.declared.laid.Laid.{Laid}
use Rattle.layout_model.specs.declared.laid.Laid.TheFolds.{fold-Laid}
use Rattle.layout_model.specs.declared.laid.Laid.TheOpen.{Laid-F}
use Rattle.layout_model.specs.declared.outcome.Offset.{Offset}
use Rattle.box_writer.specs.Items.{box_of, moved}
use Rattle.box_writer.specs.declared.placed.PlacedItem.{PlacedItem}
use Rattle.box_writer.specs.declared.placed.PlacedItem.TheVariants.{Drawn}

-- an `mphantom` shows nothing, nor does anything inside it (MathML Core 3.3.7)
abbrev pub is_silent : Kind → Bool
is_silent Mphantom = true
is_silent other = false

-- the marks of an element that stands at a place
abbrev pub marks_at : ℤ → ℤ → List Mark → List PlacedItem
marks_at x y marks = map (λ mark. Drawn (moved x y mark)) marks

-- what there is of an element, where its baseline begins at a place
abbrev pub Shown : Type 0
Shown = ℤ → ℤ → List PlacedItem

-- the children of an element that stands at a place, each at its offset from there
abbrev pub kids_at : ℤ → ℤ → List Offset → List Shown → List PlacedItem
kids_at x y (offset ∷ offsets) (kid ∷ kids) =
    kid (x +ℤ offset.x) (y +ℤ offset.y) ++ kids_at x y offsets kids
kids_at x y offsets kids = []

-- an element's box, then its marks, then its children
abbrev pub element_at : Laid-F Shown → Shown
element_at layer x y =
    box_of layer.head x y layer.outcome.answer.frame
    ∷ marks_at x y layer.outcome.marks ++ kids_at x y layer.outcome.offsets layer.kids

abbrev pub shown : Laid-F Shown → Shown
shown layer x y = if is_silent layer.head.kind then [] else element_at layer x y

-- a laid-out element and all below it, in document order, where its baseline begins at a place
unfoldable pub placed : Laid → Shown
placed laid = fold-Laid Shown shown laid

-- no tree has as many levels; so no place lies farther from the root's than so many offsets
abbrev pub most_levels : ℕ
most_levels = 64
