-- The operator dictionary (MathML Core, Appendix B): the category of a text in a form; its axis.
use Rattle.std.specs.Prelude.{◌≡◌, ◌==◌, ◌||◌, ◌&&◌, not, Bool, true, false, List, [], ◌∷◌, Option, is_some, unwrap_or, if◌then◌else◌, map, Contains, ◌⊎◌, IsTrue}
use Rattle.std.specs.List.{find, IsDistinct}
use Rattle.std.specs.Option.{option_map}
use Rattle.op_dictionary.specs.declared.extra.OperatorLine.{OperatorLine}
use Rattle.op_dictionary.specs.declared.operator.Axis.{Axis}
use Rattle.op_dictionary.specs.declared.operator.Axis.TheVariants.{Block, Inline}
use Rattle.op_dictionary.specs.declared.operator.Category.{Category}
use Rattle.op_dictionary.specs.declared.operator.Category.TheVariants.{Default}
use Rattle.op_dictionary.specs.declared.operator.Form.{Form}
use Rattle.op_dictionary.specs.declared.operator.Form.TheVariants.{Prefix, Infix, Postfix}
use Rattle.op_dictionary.specs.declared.text.OpText.{OpText}
use Rattle.op_dictionary.specs.declared.text.OpText.TheVariants.{One}
use Rattle.op_dictionary.specs.Pairs.{same_text, same_form, is_short, base_text}
use Rattle.op_dictionary.specs.BuiltIn.{categories, is_built_in, is_inline}

-- ---- what the operator lines say

-- the line that names the pair of a text and a form
abbrev pub line_of : List OperatorLine → OpText → Form → Option OperatorLine
line_of lines text form = find (λ line. same_text text line.text && same_form form line.form) lines

-- whether a line names the pair
abbrev pub is_named : List OperatorLine → OpText → Form → Bool
is_named lines text form = is_some (line_of lines text form)

-- the category that a line gives the pair
abbrev pub line_category : List OperatorLine → OpText → Form → Option Category
line_category lines text form = option_map (λ line. line.category) (line_of lines text form)

-- the axis that the first line with the text gives it
abbrev pub line_axis : List OperatorLine → OpText → Option Axis
line_axis lines text =
    option_map (λ line. line.axis) (find (λ line. same_text text line.text) lines)

-- ---- the dictionary, a set of triples

-- a triple of a text, a form and a category: that of an operator line, or one built in whose pair
-- no line names
abbrev pub IsEntry : List OperatorLine → OpText → Form → Category → Type 0
IsEntry lines text form category =
    ((axis : Axis) × Contains lines
    (record { text = text; form = form; category = category; axis = axis }))
    ⊎ ((is_named lines text form ≡ false) × IsTrue (is_built_in text form category))

-- the category in which the built-in table has a text in a form, else Default
unfoldable pub built_in_category : OpText → Form → Category
built_in_category text form = unwrap_or (find (is_built_in text form) categories) Default

-- a pair's own category: that of its triple, else Default
unfoldable pub own_category : OpText → Form → List OperatorLine → Category
own_category text form lines =
    unwrap_or (line_category lines text form) (built_in_category text form)

-- ---- the category of an operator

abbrev pub is_default : Category → Bool
is_default Default = true
is_default _ = false

-- an infix vertical bar or tilde operator: Default, unless an operator line says otherwise
abbrev pub is_bare : OpText → Form → Bool
is_bare (One letter) Infix = letter == 0x7C || letter == 0x223C
is_bare _ _ = false

-- the first category of the list that isn't Default, else Default
abbrev pub first_listed : List Category → Category
first_listed choices = unwrap_or (find (λ category. not (is_default category)) choices) Default

-- the own category of a pair, where it is fixed or isn't Default, else that in another form
abbrev pub category_of_base : OpText → Form → Bool → List OperatorLine → Category
category_of_base text form fixed lines =
    if is_bare text form && not (is_named lines text form) then Default
    else if fixed then own_category text form lines
    else first_listed
    (map (λ other. own_category text other lines) (form ∷ Infix ∷ Postfix ∷ Prefix ∷ []))

-- the category of an operator: texts of more than two characters, and none, have Default
unfoldable pub category_of : OpText → Form → Bool → List OperatorLine → Category
category_of text form fixed lines =
    if is_short text then category_of_base (base_text text) form fixed lines else Default

-- ---- the axis of an operator

-- that of the first line with the base text, else that of the built-in list
abbrev pub axis_of_base : OpText → List OperatorLine → Axis
axis_of_base text lines = unwrap_or (line_axis lines text)
    (if is_inline text then Inline else Block)

unfoldable pub axis_of : OpText → List OperatorLine → Axis
axis_of text lines = axis_of_base (base_text text) lines

-- ---- lists of lines

-- whether two lines name one pair
abbrev pub same_pair : OperatorLine → OperatorLine → Bool
same_pair line other = same_text line.text other.text && same_form line.form other.form

-- no two lines name one pair
abbrev pub AreDistinct : List OperatorLine → Type 0
AreDistinct lines = IsDistinct same_pair lines
