-- The refusals of an edit in words.
use Rattle.std.specs.Prelude.{ℕ, List, codes}
use Rattle.tree_edits.specs.declared.edit.EditRefusal.{EditRefusal}
use Rattle.tree_edits.specs.declared.edit.EditRefusal.TheVariants.{UnknownNode, NotText, IsText, IndexPast, RootFixed, BadName, TextLong, TooDeep, TooMany, IdsSpent, IdTaken, Memory}

abbrev pub text_of_refusal : EditRefusal → List ℕ
text_of_refusal UnknownNode = codes "no element has the id"
text_of_refusal NotText = codes "only a text element has a text"
text_of_refusal IsText = codes "a text element has no children"
text_of_refusal IndexPast = codes "the index is above the number of children"
text_of_refusal RootFixed = codes "the root is neither removed nor replaced"
text_of_refusal BadName = codes "the name of the attribute isn't in its form"
text_of_refusal TextLong = codes "the text or the value is too long"
text_of_refusal TooDeep = codes "the tree would have too many levels"
text_of_refusal TooMany = codes "the tree would have too many elements or bytes"
text_of_refusal IdsSpent = codes "no ids are left for the new elements"
text_of_refusal IdTaken = codes "an id of the element isn't free"
text_of_refusal Memory = codes "memory was refused"
