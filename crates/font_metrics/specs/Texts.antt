-- The texts of a choice, of a constant and of a table in a metrics file.
use Rattle.std.specs.Prelude.{ℕ, Bool, true, false, List, [], codes, slice_index_or}
use Rattle.op_dictionary.specs.declared.operator.Axis.{Axis}
use Rattle.op_dictionary.specs.declared.operator.Axis.TheVariants.{Block, Inline}
use Rattle.op_dictionary.specs.declared.operator.Category.{Category}
use Rattle.op_dictionary.specs.declared.operator.Category.TheVariants.{Default, A, B, C, D, E, F, G, H, I, J, K, L, M}
use Rattle.op_dictionary.specs.declared.operator.Form.{Form}
use Rattle.op_dictionary.specs.declared.operator.Form.TheVariants.{Prefix, Infix, Postfix}
use Rattle.font_metrics.specs.declared.corner.Corner.{Corner}
use Rattle.font_metrics.specs.declared.corner.Corner.TheVariants.{TopRight, TopLeft, BottomRight, BottomLeft}
use Rattle.font_metrics.specs.Constants.{constant_texts}

abbrev pub constant_text : ℕ → List ℕ
constant_text place = slice_index_or constant_texts place []

abbrev pub extender_text : Bool → List ℕ
extender_text false = codes "FIX"
extender_text true = codes "EXT"

abbrev pub form_text : Form → List ℕ
form_text Prefix = codes "prefix"
form_text Infix = codes "infix"
form_text Postfix = codes "postfix"

abbrev pub category_text : Category → List ℕ
category_text Default = codes "Default"
category_text A = codes "A"
category_text B = codes "B"
category_text C = codes "C"
category_text D = codes "D"
category_text E = codes "E"
category_text F = codes "F"
category_text G = codes "G"
category_text H = codes "H"
category_text I = codes "I"
category_text J = codes "J"
category_text K = codes "K"
category_text L = codes "L"
category_text M = codes "M"

abbrev pub axis_text : Axis → List ℕ
axis_text Block = codes "block"
axis_text Inline = codes "inline"

abbrev pub corner_text : Corner → List ℕ
corner_text TopRight = codes "TR"
corner_text TopLeft = codes "TL"
corner_text BottomRight = codes "BR"
corner_text BottomLeft = codes "BL"

-- the keywords of the variants and of the parts along an axis
abbrev pub variant_keyword : Axis → List ℕ
variant_keyword Block = codes "vvariant"
variant_keyword Inline = codes "hvariant"

abbrev pub part_keyword : Axis → List ℕ
part_keyword Block = codes "vassembly"
part_keyword Inline = codes "hassembly"
