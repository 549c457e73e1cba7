-- What a change makes of an element's children, and of its id.
use Rattle.std.proofs.Common.{◌≡◌, ap}
use Rattle.splices.specs.Splicing.{FitsIn, spliced}
use Rattle.math_tree.specs.declared.node.Head.{Head}
use Rattle.math_tree.specs.declared.node.Node.{Node}
use Rattle.tree_edits.proofs.Frames.{children_rolled, head_rolled}
use Rattle.tree_edits.specs.Edits.{head_of, with_attribute, with_text}
use Rattle.tree_edits.specs.Paths.{Fits, changed, children_of, splice_of}
use Rattle.tree_edits.specs.declared.change.Change.{Change}
use Rattle.tree_edits.specs.declared.change.Change.TheVariants.{SetText, SetValue, Children}

-- they are spliced
pub children_changed : (change : Change) (element : Node) → children_of (changed change element) ≡ spliced (splice_of change) (children_of element)
children_changed (SetText text) element = children_rolled (with_text text (head_of element)) (children_of element)
children_changed (SetValue name value room) element = children_rolled (with_attribute name value (head_of element)) (children_of element)
children_changed (Children splice) element = children_rolled (head_of element) (spliced splice (children_of element))

-- where a change fits, so does what it does to them
pub fits_children : (change : Change) (element : Node) → Fits change element → FitsIn (splice_of change) (children_of element)
fits_children (SetText text) element fits = tt
fits_children (SetValue name value room) element fits = tt
fits_children (Children splice) element fits = fits

-- the element keeps its id
pub id_stays : (change : Change) (element : Node) → (head_of (changed change element)).id.0 ≡ (head_of element).id.0
id_stays (SetText text) element = ap (λ (h : Head). h.id.0) (head_rolled (with_text text (head_of element)) (children_of element))
id_stays (SetValue name value room) element = ap (λ (h : Head). h.id.0) (head_rolled (with_attribute name value (head_of element)) (children_of element))
id_stays (Children splice) element = ap (λ (h : Head). h.id.0) (head_rolled (head_of element) (spliced splice (children_of element)))
