-- The element over the last one on a way.
use Rattle.std.proofs.Common.{◌≡◌, ◌∙◌, ap, refl, ℕ, List, [], ◌∷◌, ◌++◌, slice_get, Option, Some, None}
use Rattle.std.proofs.lemmas.Option.{none-some}
use Rattle.std.specs.Option.{option_and_then}
use Rattle.math_tree.specs.declared.node.Node.{Node}
use Rattle.tree_edits.specs.Paths.{children_of, node_at}

-- the element over the last one stands there, and the last one at its place
pub record EndsAt (path : List ℕ) (place : ℕ) (root element : Node) : Type 0 where
  pub parent : Node
  pub at : node_at path root ≡ Some parent
  pub there : slice_get (children_of parent) place ≡ Some element

child_there : (place : ℕ) (root element : Node) (found : Option Node) → slice_get (children_of root) place ≡ found
    → option_and_then (node_at []) found ≡ Some element → EndsAt [] place root element
child_there place root element None is at = absurd (none-some element at)
child_there place root element (Some child) is at = record { parent = root; at = refl; there = is ∙ at }

further_down : (i : ℕ) (path : List ℕ) (place : ℕ) (root element : Node) (found : Option Node) → slice_get (children_of root) i ≡ found
    → option_and_then (node_at (path ++ (place ∷ []))) found ≡ Some element
    → ((child : Node) → node_at (path ++ (place ∷ [])) child ≡ Some element → EndsAt path place child element)
    → EndsAt (i ∷ path) place root element
further_down i path place root element None is at each = absurd (none-some element at)
further_down i path place root element (Some child) is at each =
    let below = each child at in
    record { parent = below.parent; at = ap (option_and_then (node_at path)) is ∙ below.at; there = below.there }

pub ends_at : (path : List ℕ) (place : ℕ) (root element : Node) → node_at (path ++ (place ∷ [])) root ≡ Some element
    → EndsAt path place root element
ends_at [] place root element at = child_there place root element (slice_get (children_of root) place) refl at
ends_at (i ∷ path) place root element at =
    further_down i path place root element (slice_get (children_of root) i) refl at (λ child is. ends_at path place child element is)
