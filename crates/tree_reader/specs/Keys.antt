-- The names of the keys of an element.
use Rattle.std.specs.Prelude.{ℕ, List, Option, Some, None, codes}
use Rattle.tree_reader.specs.declared.keys.Key.{Key}
use Rattle.tree_reader.specs.declared.keys.Key.TheVariants.{Name, Attributes, Text, Children, End}

-- the end has none
abbrev pub text_of : Key → Option (List ℕ)
text_of Name = Some (codes "name")
text_of Attributes = Some (codes "attributes")
text_of Text = Some (codes "text")
text_of Children = Some (codes "children")
text_of End = None
