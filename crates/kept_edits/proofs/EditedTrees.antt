-- Edits that aren't refused, as changes that memos follow.
use Rattle.std.proofs.Common.{◌≡◌, ◌∙◌, refl, sym, ap, subst, ℕ, ◌+◌, arith, true, false, List, length, None, Some, slice_get}
use Rattle.std.proofs.lemmas.Bool.{ltb-false}
use Rattle.std.proofs.lemmas.Option.{slice_get_within}
use Rattle.math_tree.specs.Trees.{IsWhole, TreeValue, node}
use Rattle.math_tree.specs.declared.node.Node.{Node}
use Rattle.tree_edits.specs.Edits.{at_target, has_id, head_of, is_past, named, refusal_of}
use Rattle.tree_edits.specs.Laws.{IsOfParent, IsOwn, own_change, parent_change}
use Rattle.tree_edits.specs.Paths.{Fits, changed, changed_at, children_of, node_at}
use Rattle.tree_edits.specs.declared.change.Change.{Change}
use Rattle.splices.specs.Splicing.{spliced, with_room as splice_with_room}
use Rattle.splices.specs.declared.splice.Splice.{Splice}
use Rattle.splices.specs.declared.splice.Splice.TheVariants.{Stay, Put, Take, Swap as Exchange}
use Rattle.tree_edits.specs.declared.change.Change.TheVariants.{SetText, SetValue, Children}
use Rattle.tree_edits.specs.declared.edit.Edit.{Edit}
use Rattle.tree_edits.specs.declared.edit.Edit.TheVariants.{Text, Attr, Insert, Remove, Replace, Graft, Swap}
use Rattle.tree_edits.proofs.OneElement.{own_change_law, parent_change_law}
use Rattle.tree_edits.proofs.Refusals.{accepted}
use Rattle.tree_edits.proofs.Target.{found_at}
use Rattle.kept_edits.specs.Changed.{changed_memo}
use Rattle.kept_edits.specs.Edited.{FollowLaw, OwnEditLaw, ParentEditLaw, with_room}
use Rattle.kept_edits.specs.Laws.{IsReadyFor, KnownOn}
use Rattle.kept_edits.proofs.Changing.{change_law}

-- ---- an edit of the element that it names

-- where an insertion isn't refused, there is such a place
within : (tree : TreeValue) (edit : Edit) (path : List ℕ) (element : Node) → IsWhole tree → refusal_of tree edit ≡ None
    → node_at path tree.root ≡ Some element → has_id (named edit) (head_of element) ≡ true
    → is_past edit record { level = 1 + length path; head = head_of element; children = length (children_of element) } ≡ false
within tree edit path element whole free at has =
    ap (at_target (is_past edit)) (sym (found_at tree (named edit) path element whole at has)) ∙ (accepted tree edit free).within

own_fits : (tree : TreeValue) (edit : Edit) (path : List ℕ) (element : Node) → IsWhole tree → refusal_of tree edit ≡ None → IsOwn edit
    → node_at path tree.root ≡ Some element → has_id (named edit) (head_of element) ≡ true → Fits (with_room (own_change edit tree.next_id) element) element
own_fits tree (Text id text) path element whole free own at has = tt
own_fits tree (Attr id name value) path element whole free own at has = omega arith
own_fits tree (Insert id index new) path element whole free own at has =
    let past = ltb-false (length (children_of element)) index (within tree (Insert id index new) path element whole free at has) in
    (omega (arith, past), omega arith)
own_fits tree (Remove id) path element whole free own at has = absurd own
own_fits tree (Replace id new) path element whole free own at has = absurd own
own_fits tree (Graft id index new) path element whole free own at has =
    let past = ltb-false (length (children_of element)) index (within tree (Graft id index new) path element whole free at has) in
    (omega (arith, past), omega arith)
own_fits tree (Swap id new) path element whole free own at has = absurd own

-- room changes nothing of what a splice or a change makes
spliced_as_well : (room : ℕ) (splice : Splice Node) (nodes : List Node) → spliced (splice_with_room room splice) nodes ≡ spliced splice nodes
spliced_as_well room Stay nodes = refl
spliced_as_well room (Put index child own) nodes = refl
spliced_as_well room (Take index) nodes = refl
spliced_as_well room (Exchange index child) nodes = refl

same_made : (change : Change) (element x : Node) → changed (with_room change element) x ≡ changed change x
same_made (SetText text) element x = refl
same_made (SetValue name value room) element x = refl
same_made (Children splice) element x = ap (node (head_of x)) (spliced_as_well (length (children_of element) + 1) splice (children_of x))

pub own_edit_law : OwnEditLaw
own_edit_law tree edit path element whole free own at has = record {
  fits = record { element = element; at = at; fits = own_fits tree edit path element whole free own at has };
  gives = own_change_law tree edit path element whole own at has
      ∙ sym (ap (λ (make : Node → Node). changed_at make path tree.root) (λ i x. same_made (own_change edit tree.next_id) element x i));
}

-- ---- an edit of the element over it

parent_fits : (edit : Edit) (next place : ℕ) (element child : Node) → IsOfParent edit → slice_get (children_of element) place ≡ Some child
    → Fits (parent_change edit next place) element
parent_fits (Text id text) next place element child over at = absurd over
parent_fits (Attr id name value) next place element child over at = absurd over
parent_fits (Insert id index new) next place element child over at = absurd over
parent_fits (Remove id) next place element child over at = slice_get_within (children_of element) place child at
parent_fits (Replace id new) next place element child over at = slice_get_within (children_of element) place child at
parent_fits (Graft id index new) next place element child over at = absurd over
parent_fits (Swap id new) next place element child over at = slice_get_within (children_of element) place child at

pub parent_edit_law : ParentEditLaw
parent_edit_law tree edit path element place child whole over at there has = record {
  fits = record { element = element; at = at; fits = parent_fits edit tree.next_id place element child over there };
  gives = parent_change_law tree edit path element place child whole over at there has;
}

-- ---- memos follow

pub follow_law : FollowLaw
follow_law m tree edit change other path known memo is same ready on =
    subst (λ (n : Node). IsReadyFor m n (changed_memo other known path memo)) (sym is.gives)
    (change_law m tree.root memo change other path known ready is.fits same (subst (λ (n : Node). KnownOn known path n memo) is.gives on))
