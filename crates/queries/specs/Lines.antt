-- The lines of answers.
use Rattle.std.specs.Prelude.{ℕ, List, [], ◌∷◌, codes, Option, Some, None}
use Rattle.std.specs.Fmt.{decimal}
use Rattle.std.specs.List.{flat_map}
use Rattle.doc_io.specs.Lines.{line}
use Rattle.math_tree.specs.declared.node.NodeId.{NodeId}
use Rattle.box_writer.specs.Lines.{decimals}
use Rattle.hit_test.specs.declared.areas.Area.{Area}

-- which element was hit, if one was
abbrev pub hit_line : Option NodeId → List ℕ
hit_line None = codes "hit none\n"
hit_line (Some id) = line (codes "hit") (decimal id.0 ∷ [])

-- x, y, width, height
unfoldable pub area_line : Area → List ℕ
area_line area = line (codes "area") (decimals (area.x ∷ area.y ∷ area.width ∷ area.height ∷ []))

abbrev pub lines_of_areas : List Area → List ℕ
lines_of_areas areas = flat_map area_line areas
