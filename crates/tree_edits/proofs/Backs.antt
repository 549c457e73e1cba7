-- What takes the change that an edit is back is the inverse of the edit.
use Rattle.std.proofs.Common.{◌≡◌, ◌∙◌, sym, ap, refl, subst, ℕ, ◌-◌, ◌^◌, ◌<◌, ◌≤◌, List, [], ◌∷◌, ◌++◌, length, min, slice_get, true, Option, Some, None, arith}
use Rattle.std.proofs.lemmas.Bool.{eqb-true}
use Rattle.std.proofs.lemmas.Option.{slice_get_within}
use Rattle.std.specs.Option.{option_and_then, option_map_or}
use Rattle.math_tree.specs.Attributes.{value_of}
use Rattle.math_tree.specs.Numbering.{renumbered}
use Rattle.math_tree.specs.Trees.{TreeValue, IsWhole}
use Rattle.math_tree.specs.declared.node.Head.{Head}
use Rattle.math_tree.specs.declared.node.Node.{Node}
use Rattle.math_tree.specs.declared.node.NodeId.{NodeId}
use Rattle.splices.specs.Splicing.{inverse as splice_back}
use Rattle.splices.specs.declared.site.Site.TheVariants.{Take as TakeAt, Swap as ExchangeAt}
use Rattle.splices.specs.declared.splice.Splice.TheVariants.{Put, Take, Swap as Exchange}
use Rattle.tree_edits.proofs.Renumbered.{head_renumbered}
use Rattle.tree_edits.proofs.WaysTo.{child_is, element_is, few_children}
use Rattle.tree_edits.specs.Edits.{has_id, head_of}
use Rattle.tree_edits.specs.Inverses.{edit_by, inverse, named_back}
use Rattle.tree_edits.specs.Paths.{children_of, node_at}
use Rattle.tree_edits.specs.Undoing.{inverse_of}
use Rattle.tree_edits.specs.declared.change.Change.{Change}
use Rattle.tree_edits.specs.declared.change.Change.TheVariants.{SetText, SetValue, Children}
use Rattle.tree_edits.specs.declared.edit.Edit.{Edit}
use Rattle.tree_edits.specs.declared.edit.Edit.TheVariants.{Text, Attr, Insert, Remove, Replace, Graft, Swap}

-- an id by its number
abbrev number_id : ℕ → NodeId
number_id n = record { 0 = n }

pub same_id : (id : NodeId) (head : Head) → has_id id.0 head ≡ true → head.id ≡ id
same_id id head has = ap number_id (eqb-true head.id.0 id.0 has)

-- the edit that takes a change of an element back
abbrev pub back_of : Change → ℕ → Node → Edit
back_of change room element = edit_by (inverse_of change room element) (named_back change element)

module _ (tree : TreeValue) (path : List ℕ) (element : Node) (whole : IsWhole tree) (at : node_at path tree.root ≡ Some element) where
  pub text_back : (id : NodeId) (text : List ℕ) (room : ℕ) → has_id id.0 (head_of element) ≡ true
      → back_of (SetText text) room element ≡ inverse tree (Text id text)
  text_back id text room has =
      ap (λ i. Text i (head_of element).text) (same_id id (head_of element) has)
      ∙ sym (ap (λ o. Text id (option_map_or (λ e. (head_of e).text) o [])) (element_is tree id.0 path element whole at has))

  pub value_back : (id : NodeId) (name : List ℕ) (value : Option (List ℕ)) (own room : ℕ) → has_id id.0 (head_of element) ≡ true
      → back_of (SetValue name value own) room element ≡ inverse tree (Attr id name value)
  value_back id name value own room has =
      ap (λ i. Attr i name (value_of name (head_of element).attributes)) (same_id id (head_of element) has)
      ∙ sym (ap (λ o. Attr id name (option_and_then (λ e. value_of name (head_of e).attributes) o)) (element_is tree id.0 path element whole at has))

  pub insert_back : (id : NodeId) (index : ℕ) (new : Node) (own room : ℕ)
      → back_of (Children (Put index (renumbered tree.next_id new) own)) room element ≡ inverse tree (Insert id index new)
  insert_back id index new own room = ap (λ (h : Head). Remove h.id) (head_renumbered tree.next_id new)

  pub graft_back : (id : NodeId) (index : ℕ) (new : Node) (own room : ℕ) → back_of (Children (Put index new own)) room element ≡ inverse tree (Graft id index new)
  graft_back id index new own room = refl

  -- ---- at a child

  module _ (front : List ℕ) (place : ℕ) (parent : Node) (is : path ≡ front ++ (place ∷ [])) (over : node_at front tree.root ≡ Some parent)
      (there : slice_get (children_of parent) place ≡ Some element) where
    pub remove_back : (id : NodeId) (room : ℕ) → has_id id.0 (head_of element) ≡ true → back_of (Children (Take place)) room parent ≡ inverse tree (Remove id)
    remove_back id room has =
        let near = slice_get_within (children_of parent) place element there in
        let few = few_children tree front parent whole over in
        let small : min place (2 ^ 32 - 1) ≡ place = omega (arith, near, few) in
        ap (λ o. edit_by (Children (splice_back (TakeAt place) o room)) (head_of parent).id) there
        ∙ ap (λ n. Graft (head_of parent).id n element) small
        ∙ sym (ap (λ o. option_map_or (λ c. Graft c.over c.place c.element) o (Remove id)) (child_is tree id.0 path front place parent element whole at has is over there))

    pub replace_back : (id : NodeId) (new : Node) (room : ℕ) → has_id id.0 (head_of element) ≡ true
        → back_of (Children (Exchange place (renumbered tree.next_id new))) room parent ≡ inverse tree (Replace id new)
    replace_back id new room has =
        let child = renumbered tree.next_id new in
        ap (λ o. edit_by (Children (splice_back (ExchangeAt place) o room)) (head_of child).id) there
        ∙ ap (λ (h : Head). Swap h.id element) (head_renumbered tree.next_id new)
        ∙ sym (ap (λ o. option_map_or (λ e. Swap (number_id tree.next_id) e) o (Remove id)) (element_is tree id.0 path element whole at has))

    pub swap_back : (id : NodeId) (new : Node) (room : ℕ) → has_id id.0 (head_of element) ≡ true
        → back_of (Children (Exchange place new)) room parent ≡ inverse tree (Swap id new)
    swap_back id new room has =
        ap (λ o. edit_by (Children (splice_back (ExchangeAt place) o room)) (head_of new).id) there
        ∙ sym (ap (λ o. option_map_or (λ e. Swap (head_of new).id e) o (Remove id)) (element_is tree id.0 path element whole at has))
