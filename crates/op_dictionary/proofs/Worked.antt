-- Worked figures: the definitions compute them, and a wrong one is refused at its line.
--
-- No operator line is given.
use Rattle.std.proofs.Common.{◌≡◌, true, false, [], refl}
use Rattle.op_dictionary.specs.declared.operator.Axis.TheVariants.{Inline}
use Rattle.op_dictionary.specs.declared.operator.Category.TheVariants.{Default, B, D, E}
use Rattle.op_dictionary.specs.declared.operator.Form.TheVariants.{Prefix, Infix, Postfix}
use Rattle.op_dictionary.specs.declared.text.OpText.TheVariants.{One, Two}
use Rattle.op_dictionary.specs.Dictionary.{built_in_category, own_category, category_of, axis_of}

minus-prefix : category_of (One 0x2D) Prefix false [] ≡ D
unfolding built_in_category own_category category_of
minus-prefix = refl

-- listed as postfix alone, which comes before prefix
factorial-infix : category_of (One 0x21) Infix false [] ≡ E
unfolding built_in_category own_category category_of
factorial-infix = refl

bar-infix : category_of (One 0x7C) Infix false [] ≡ Default
unfolding built_in_category own_category category_of
bar-infix = refl

plus-postfix : category_of (One 0x2B) Postfix false [] ≡ B
unfolding built_in_category own_category category_of
plus-postfix = refl

plus-fixed_postfix : category_of (One 0x2B) Postfix true [] ≡ Default
unfolding built_in_category own_category category_of
plus-fixed_postfix = refl

-- under U+0338, a long solidus
struck_plus-infix : category_of (Two 0x2B 0x338) Infix false [] ≡ B
unfolding built_in_category own_category category_of
struck_plus-infix = refl

right_arrow-axis : axis_of (One 0x2192) [] ≡ Inline
unfolding axis_of
right_arrow-axis = refl
