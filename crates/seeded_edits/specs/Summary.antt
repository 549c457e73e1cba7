-- What is told of generated edits, in six lines.
use Rattle.std.specs.Prelude.{ℕ, List, [], ◌∷◌, ◌++◌, Bool, true, false, codes}
use Rattle.std.specs.Fmt.{decimal, signed_decimal}
use Rattle.std.specs.List.{count_by}
use Rattle.doc_io.specs.Lines.{line}
use Rattle.box_writer.specs.declared.placed.PlacedItem.{PlacedItem}
use Rattle.box_writer.specs.declared.placed.PlacedItem.TheVariants.{Frame, Drawn}
use Rattle.seeded_edits.specs.declared.summary.Summary.{Summary}

-- how many boxes there are among what stands on the page; its marks don't count
abbrev pub is_box : PlacedItem → Bool
is_box (Frame placed) = true
is_box (Drawn mark) = false

abbrev pub box_count : List PlacedItem → ℕ
box_count items = count_by is_box items

-- a word and a number each
unfoldable pub lines_of : Summary → List ℕ
lines_of told =
    line (codes "edits") (decimal told.edits ∷ [])
    ++ line (codes "ok") (decimal told.accepted ∷ [])
    ++ line (codes "width") (signed_decimal told.root.width ∷ [])
    ++ line (codes "ascent") (signed_decimal told.root.ascent ∷ [])
    ++ line (codes "descent") (signed_decimal told.root.descent ∷ [])
    ++ line (codes "boxes") (decimal told.boxes ∷ [])
