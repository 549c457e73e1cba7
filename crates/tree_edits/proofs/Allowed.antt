-- The element that an edit names, and that nothing there is against the edit.
use Rattle.std.proofs.Common.{◌≡◌, ◌∙◌, sym, ap, subst, ℕ, ◌+◌, ◌≤◌, List, length, true, Some, None}
use Rattle.std.proofs.lemmas.Option.{same_Some}
use Rattle.math_tree.specs.Forms.{most_levels}
use Rattle.math_tree.specs.Trees.{TreeValue, IsWhole}
use Rattle.math_tree.specs.declared.node.Node.{Node}
use Rattle.tree_edits.specs.Edits.{named, has_id, head_of}
use Rattle.tree_edits.specs.Paths.{node_at, LeadsTo}
use Rattle.tree_edits.specs.Planning.{Allows}
use Rattle.tree_edits.specs.Reasons.{own_reason, shown}
use Rattle.tree_edits.specs.declared.edit.Edit.{Edit}

pub record IsNamed (edit : Edit) (tree : TreeValue) (path : List ℕ) (element : Node) : Type 0 where
  pub whole : IsWhole tree
  pub at : node_at path tree.root ≡ Some element
  pub has : has_id (named edit) (head_of element) ≡ true
  pub short : 1 + length path ≤ most_levels

-- the way that was found leads to it
pub is_named : (edit : Edit) (tree : TreeValue) (id : ℕ) (root top : Node) (path places : List ℕ) (found : Node) → IsWhole tree → root ≡ tree.root
    → id ≡ named edit → LeadsTo id 1 root path → top ≡ tree.root → places ≡ path → node_at places top ≡ Some found → IsNamed edit tree path found
is_named edit tree id root top path places found whole root_is id_is leads top_is places_are at =
    let same : leads.element ≡ found = same_Some leads.element found (sym leads.at ∙ ap (node_at path) (root_is ∙ sym top_is) ∙ ap (λ p. node_at p top) (sym places_are) ∙ at) in
    record {
      whole = whole;
      at = ap (node_at path) (sym root_is) ∙ leads.at ∙ ap Some same;
      has = subst (λ n. has_id (named edit) (head_of n) ≡ true) same (subst (λ i. has_id i (head_of leads.element) ≡ true) id_is leads.has);
      short = leads.short;
    }

pub allows_it : (edit : Edit) (tree : TreeValue) (path : List ℕ) (element : Node) → IsNamed edit tree path element
    → own_reason edit (shown (1 + length path) element) ≡ None → Allows edit tree path element
allows_it edit tree path element is own = record { whole = is.whole; at = is.at; has = is.has; short = is.short; own = own }

-- the same of an edit by its parts
pub as_is : {edit other : Edit} (tree : TreeValue) (path : List ℕ) (element : Node) → edit ≡ other → Allows edit tree path element → Allows other tree path element
as_is tree path element same allows = subst (λ (e : Edit). Allows e tree path element) same allows
