-- The pairs of a text and a form by which the dictionary is looked up.
use Rattle.std.specs.Prelude.{◌==◌, ◌||◌, ◌&&◌, ◌≤◌, Bool, true, false, if◌then◌else◌, ⊤}
use Rattle.op_dictionary.specs.declared.operator.Form.{Form}
use Rattle.op_dictionary.specs.declared.operator.Form.TheVariants.{Prefix, Infix, Postfix}
use Rattle.op_dictionary.specs.declared.text.OpText.{OpText}
use Rattle.op_dictionary.specs.declared.text.OpText.TheVariants.{Empty, One, Two, Other}

-- a text of one character or two, which alone is looked up
abbrev pub is_short : OpText → Bool
is_short Empty = false
is_short (One letter) = true
is_short (Two first second) = true
is_short Other = false

-- a character with U+0338 or U+20D2 after it, which strike it out, counts as that character
abbrev pub base_text : OpText → OpText
base_text Empty = Empty
base_text (One letter) = One letter
base_text (Two letter mark) =
    if mark == 0x338 || mark == 0x20D2 then One letter else Two letter mark
base_text Other = Other

-- a text that an operator line may have: one character, or two of at most U+FFFF each
abbrev pub IsLineText : OpText → Type 0
IsLineText Empty = ⊥
IsLineText (One letter) = ⊤
IsLineText (Two first second) = (first ≤ 0xFFFF) × (second ≤ 0xFFFF)
IsLineText Other = ⊥

-- ---- when two are the same

abbrev pub same_text : OpText → OpText → Bool
same_text Empty Empty = true
same_text (One letter) (One other) = letter == other
same_text (Two first second) (Two other third) = first == other && second == third
same_text Other Other = true
same_text _ _ = false

abbrev pub same_form : Form → Form → Bool
same_form Prefix Prefix = true
same_form Infix Infix = true
same_form Postfix Postfix = true
same_form _ _ = false
