-- What an edit of a whole tree makes of its elements: how many there are then, how many bytes they
-- hold, and whether one is too deep.
use Rattle.std.proofs.Common.{◌≡◌, ◌∙◌, sym, ap, refl, subst, ℕ, ◌+◌, ◌≤◌, List, [], ◌∷◌, length, slice_get, slice_set, true, false, nat_lt, Option, Some, arith}
use Rattle.std.proofs.lemmas.Bool.{le-ltb, or_from}
use Rattle.std.proofs.lemmas.List.Elements.{recursion_from_All}
use Rattle.std.specs.List.{AllByRecursion, flat_map, insert, remove}
use Rattle.math_tree.specs.Forms.{most_levels}
use Rattle.math_tree.specs.Numbering.{renumbered}
use Rattle.math_tree.specs.Trees.{TreeValue, Listed, listed, element_count, byte_count, bytes_of_head, IsWhole}
use Rattle.math_tree.specs.declared.node.Head.{Head}
use Rattle.math_tree.specs.declared.node.Node.{Node}
use Rattle.math_tree.specs.declared.node.NodeId.{NodeId}
use Rattle.tree_edits.proofs.Frames.{entry, flat_set}
use Rattle.tree_edits.proofs.Levels.{bytes_in, bytes_at, length_at}
use Rattle.tree_edits.proofs.OneElement.{own_change_law, parent_change_law}
use Rattle.tree_edits.proofs.Renumbered.{bytes_renumbered, count_renumbered, deep_renumbered}
use Rattle.tree_edits.proofs.Exchanges.{Exchanged, exchanged_at, ahead, behind, beyond, parted, inserted, removed, standing, count_exchanged, bytes_exchanged, deep_exchanged}
use Rattle.tree_edits.specs.Edits.{has_id, head_of, with_text, with_attribute, edited, is_deep}
use Rattle.tree_edits.specs.Paths.{children_of, node_at, changed, changed_at}
use Rattle.tree_edits.specs.Reasons.{shown}
use Rattle.splices.specs.declared.splice.Splice.TheVariants.{Put, Take, Swap as Exchange}
use Rattle.tree_edits.specs.declared.change.Change.TheVariants.{SetText, SetValue, Children}
use Rattle.tree_edits.specs.declared.edit.Edit.{Edit}
use Rattle.tree_edits.specs.declared.edit.Edit.TheVariants.{Text, Attr, Insert, Remove, Replace, Graft, Swap}

-- ---- the elements before and after

-- an edit of the element at the end of a way, or of one of its children
module _ (tree : TreeValue) (path : List ℕ) (element : Node) (whole : IsWhole tree) (at : node_at path tree.root ≡ Some element) where
  abbrev level : ℕ
  level = 1 + length path

  abbrev pub SplicedBy : Edit → Head → ℕ → List Listed → List Listed → Type 0
  SplicedBy edit head children gone new =
      Exchanged (listed 1 tree.root) (listed 1 (edited tree edit).root) (shown (1 + length path) element) (entry (1 + length path) head children) gone new

  abbrev list : Node → List Listed
  list = listed (1 + length path + 1)

  abbrev nodes : List Node
  nodes = children_of element

  pub text_exchanged : (id : NodeId) (text : List ℕ) → has_id id.0 (head_of element) ≡ true
      → SplicedBy (Text id text) (with_text text (head_of element)) (length (children_of element)) [] []
  text_exchanged id text has =
      let head = with_text text (head_of element) in
      subst (λ r. Exchanged (listed 1 tree.root) (listed 1 r) (shown level element) (entry level head (length nodes)) [] [])
      (sym (own_change_law tree (Text id text) path element whole tt at has))
      (exchanged_at tree.root path element (changed (SetText text)) head nodes [] [] [] (flat_map list nodes) at refl refl refl)

  pub attribute_exchanged : (id : NodeId) (name : List ℕ) (value : Option (List ℕ)) → has_id id.0 (head_of element) ≡ true
      → SplicedBy (Attr id name value) (with_attribute name value (head_of element)) (length (children_of element)) [] []
  attribute_exchanged id name value has =
      let head = with_attribute name value (head_of element) in
      subst (λ r. Exchanged (listed 1 tree.root) (listed 1 r) (shown level element) (entry level head (length nodes)) [] [])
      (sym (own_change_law tree (Attr id name value) path element whole tt at has))
      (exchanged_at tree.root path element (changed (SetValue name value 0)) head nodes [] [] [] (flat_map list nodes) at refl refl refl)

  -- a child is put in
  put_exchanged : (edit : Edit) (index : ℕ) (child : Node) → (edited tree edit).root ≡ changed_at (changed (Children (Put index child 0))) path tree.root
      → SplicedBy edit (head_of element) (length (insert (children_of element) index child)) [] (listed (1 + length path + 1) child)
  put_exchanged edit index child is =
      let after = insert nodes index child in
      subst (λ r. Exchanged (listed 1 tree.root) (listed 1 r) (shown level element) (entry level (head_of element) (length after)) [] (list child))
      (sym is)
      (exchanged_at tree.root path element (changed (Children (Put index child 0))) (head_of element) after
      (ahead list nodes index) [] (list child) (behind list nodes index) at refl (parted list nodes index) (inserted list nodes index child))

  pub insert_exchanged : (id : NodeId) (index : ℕ) (new : Node) → has_id id.0 (head_of element) ≡ true
      → SplicedBy (Insert id index new) (head_of element) (length (insert (children_of element) index (renumbered tree.next_id new))) []
      (listed (1 + length path + 1) (renumbered tree.next_id new))
  insert_exchanged id index new has =
      put_exchanged (Insert id index new) index (renumbered tree.next_id new) (own_change_law tree (Insert id index new) path element whole tt at has)

  pub graft_exchanged : (id : NodeId) (index : ℕ) (new : Node) → has_id id.0 (head_of element) ≡ true
      → SplicedBy (Graft id index new) (head_of element) (length (insert (children_of element) index new)) [] (listed (1 + length path + 1) new)
  graft_exchanged id index new has = put_exchanged (Graft id index new) index new (own_change_law tree (Graft id index new) path element whole tt at has)

  pub remove_exchanged : (id : NodeId) (place : ℕ) (child : Node) → slice_get (children_of element) place ≡ Some child → has_id id.0 (head_of child) ≡ true
      → SplicedBy (Remove id) (head_of element) (length (remove (children_of element) place)) (listed (1 + length path + 1) child) []
  remove_exchanged id place child there has =
      let after = remove nodes place in
      subst (λ r. Exchanged (listed 1 tree.root) (listed 1 r) (shown level element) (entry level (head_of element) (length after)) (list child) [])
      (sym (parent_change_law tree (Remove id) path element place child whole tt at there has))
      (exchanged_at tree.root path element (changed (Children (Take place))) (head_of element) after
      (ahead list nodes place) (list child) [] (beyond list nodes place) at refl (standing list nodes place child there) (removed list nodes place))

  -- a child is exchanged for another
  child_exchanged : (edit : Edit) (place : ℕ) (child other : Node) → slice_get (children_of element) place ≡ Some child
      → (edited tree edit).root ≡ changed_at (changed (Children (Exchange place other))) path tree.root
      → SplicedBy edit (head_of element) (length (slice_set (children_of element) place other)) (listed (1 + length path + 1) child) (listed (1 + length path + 1) other)
  child_exchanged edit place child other there is =
      let after = slice_set nodes place other in
      subst (λ r. Exchanged (listed 1 tree.root) (listed 1 r) (shown level element) (entry level (head_of element) (length after)) (list child) (list other))
      (sym is)
      (exchanged_at tree.root path element (changed (Children (Exchange place other))) (head_of element) after
      (ahead list nodes place) (list child) (list other) (beyond list nodes place) at refl (standing list nodes place child there)
      (flat_set list nodes place child other there))

  pub replace_exchanged : (id : NodeId) (new : Node) (place : ℕ) (child : Node) → slice_get (children_of element) place ≡ Some child → has_id id.0 (head_of child) ≡ true
      → SplicedBy (Replace id new) (head_of element) (length (slice_set (children_of element) place (renumbered tree.next_id new)))
      (listed (1 + length path + 1) child) (listed (1 + length path + 1) (renumbered tree.next_id new))
  replace_exchanged id new place child there has =
      child_exchanged (Replace id new) place child (renumbered tree.next_id new) there
      (parent_change_law tree (Replace id new) path element place child whole tt at there has)

  pub swap_exchanged : (id : NodeId) (new : Node) (place : ℕ) (child : Node) → slice_get (children_of element) place ≡ Some child → has_id id.0 (head_of child) ≡ true
      → SplicedBy (Swap id new) (head_of element) (length (slice_set (children_of element) place new))
      (listed (1 + length path + 1) child) (listed (1 + length path + 1) new)
  swap_exchanged id new place child there has =
      child_exchanged (Swap id new) place child new there (parent_change_law tree (Swap id new) path element place child whole tt at there has)

-- ---- a tree isn't too deep

shallow_elements : (elements : List Listed) → AllByRecursion (λ e. e.level ≤ most_levels) elements → is_deep elements ≡ false
shallow_elements [] h = refl
shallow_elements (e ∷ elements) h =
    or_from (nat_lt most_levels e.level) (is_deep elements) (le-ltb most_levels e.level h.0) (shallow_elements elements h.1)

pub shallow_tree : (tree : TreeValue) → IsWhole tree → is_deep (listed 1 tree.root) ≡ false
shallow_tree tree whole =
    shallow_elements (listed 1 tree.root) (recursion_from_All (λ e. e.level ≤ most_levels) (listed 1 tree.root) whole.shallow)

-- ---- an element that is changed by itself

pub record Changes (before after : Node) (was is : Head) : Type 0 where
  pub elements : element_count after ≡ element_count before
  pub bytes : byte_count after + bytes_of_head was ≡ byte_count before + bytes_of_head is
  pub shallow : is_deep (listed 1 after) ≡ false

changes : (before after : Node) (own made : Listed) → Exchanged (listed 1 before) (listed 1 after) own made [] [] → own.level ≡ made.level
    → is_deep (listed 1 before) ≡ false → Changes before after own.head made.head
changes before after own made exchange level shallow =
    let count = count_exchanged exchange in
    let bytes = bytes_exchanged exchange in
    record {
      elements = omega (arith, count);
      bytes = omega (arith, bytes);
      shallow = deep_exchanged exchange level shallow;
    }

pub text_sizes : (tree : TreeValue) (path : List ℕ) (element : Node) → IsWhole tree → node_at path tree.root ≡ Some element
    → (id : NodeId) (text : List ℕ) → has_id id.0 (head_of element) ≡ true
    → Changes tree.root (edited tree (Text id text)).root (head_of element) (with_text text (head_of element))
text_sizes tree path element whole at id text has =
    let head = with_text text (head_of element) in
    changes tree.root (edited tree (Text id text)).root (shown (1 + length path) element) (entry (1 + length path) head (length (children_of element)))
    (text_exchanged tree path element whole at id text has) refl (shallow_tree tree whole)

pub attribute_sizes : (tree : TreeValue) (path : List ℕ) (element : Node) → IsWhole tree → node_at path tree.root ≡ Some element
    → (id : NodeId) (name : List ℕ) (value : Option (List ℕ)) → has_id id.0 (head_of element) ≡ true
    → Changes tree.root (edited tree (Attr id name value)).root (head_of element) (with_attribute name value (head_of element))
attribute_sizes tree path element whole at id name value has =
    let head = with_attribute name value (head_of element) in
    changes tree.root (edited tree (Attr id name value)).root (shown (1 + length path) element) (entry (1 + length path) head (length (children_of element)))
    (attribute_exchanged tree path element whole at id name value has) refl (shallow_tree tree whole)

-- ---- a child more

pub record Gains (before after new : Node) (level : ℕ) : Type 0 where
  pub elements : element_count after ≡ element_count before + element_count new
  pub bytes : byte_count after ≡ byte_count before + byte_count new
  pub levels : is_deep (listed 1 after) ≡ is_deep (listed level new)

two_below : (path : List ℕ) → 1 + length path + 1 ≡ 2 + length path
two_below path = omega arith

new_levels : (path : List ℕ) (next : ℕ) (new : Node) → is_deep (listed (1 + length path + 1) (renumbered next new)) ≡ is_deep (listed (2 + length path) new)
new_levels path next new = deep_renumbered (1 + length path + 1) next new ∙ ap (λ l. is_deep (listed l new)) (two_below path)

new_count : (level next : ℕ) (new : Node) → length (listed level (renumbered next new)) ≡ element_count new
new_count level next new = length_at level (renumbered next new) ∙ count_renumbered next new

new_bytes : (level next : ℕ) (new : Node) → bytes_in (listed level (renumbered next new)) ≡ byte_count new
new_bytes level next new = bytes_at level (renumbered next new) ∙ bytes_renumbered next new

pub insert_sizes : (tree : TreeValue) (path : List ℕ) (element : Node) → IsWhole tree → node_at path tree.root ≡ Some element
    → (id : NodeId) (index : ℕ) (new : Node) → has_id id.0 (head_of element) ≡ true
    → Gains tree.root (edited tree (Insert id index new)).root new (2 + length path)
insert_sizes tree path element whole at id index new has =
    let level = 1 + length path + 1 in
    let next = tree.next_id in
    let exchange = insert_exchanged tree path element whole at id index new has in
    let count = count_exchanged exchange in
    let bytes = bytes_exchanged exchange in
    record {
      elements = omega (arith, count, new_count level next new);
      bytes = omega (arith, bytes, new_bytes level next new);
      levels = deep_exchanged exchange refl (shallow_tree tree whole) ∙ new_levels path next new;
    }

pub graft_sizes : (tree : TreeValue) (path : List ℕ) (element : Node) → IsWhole tree → node_at path tree.root ≡ Some element
    → (id : NodeId) (index : ℕ) (new : Node) → has_id id.0 (head_of element) ≡ true
    → Gains tree.root (edited tree (Graft id index new)).root new (2 + length path)
graft_sizes tree path element whole at id index new has =
    let level = 1 + length path + 1 in
    let exchange = graft_exchanged tree path element whole at id index new has in
    let count = count_exchanged exchange in
    let bytes = bytes_exchanged exchange in
    record {
      elements = omega (arith, count, length_at level new);
      bytes = omega (arith, bytes, bytes_at level new);
      levels = deep_exchanged exchange refl (shallow_tree tree whole) ∙ ap (λ l. is_deep (listed l new)) (two_below path);
    }

-- ---- a child less

pub record Loses (before after child : Node) : Type 0 where
  pub elements : element_count after + element_count child ≡ element_count before
  pub bytes : byte_count after + byte_count child ≡ byte_count before
  pub shallow : is_deep (listed 1 after) ≡ false

pub remove_sizes : (tree : TreeValue) (path : List ℕ) (element : Node) → IsWhole tree → node_at path tree.root ≡ Some element
    → (id : NodeId) (place : ℕ) (child : Node) → slice_get (children_of element) place ≡ Some child → has_id id.0 (head_of child) ≡ true
    → Loses tree.root (edited tree (Remove id)).root child
remove_sizes tree path element whole at id place child there has =
    let level = 1 + length path + 1 in
    let exchange = remove_exchanged tree path element whole at id place child there has in
    let count = count_exchanged exchange in
    let bytes = bytes_exchanged exchange in
    record {
      elements = omega (arith, count, length_at level child);
      bytes = omega (arith, bytes, bytes_at level child);
      shallow = deep_exchanged exchange refl (shallow_tree tree whole);
    }

-- ---- a child in place of another

pub record Exchanges (before after child new : Node) (level : ℕ) : Type 0 where
  pub elements : element_count after + element_count child ≡ element_count before + element_count new
  pub bytes : byte_count after + byte_count child ≡ byte_count before + byte_count new
  pub levels : is_deep (listed 1 after) ≡ is_deep (listed level new)

pub replace_sizes : (tree : TreeValue) (path : List ℕ) (element : Node) → IsWhole tree → node_at path tree.root ≡ Some element
    → (id : NodeId) (new : Node) (place : ℕ) (child : Node) → slice_get (children_of element) place ≡ Some child → has_id id.0 (head_of child) ≡ true
    → Exchanges tree.root (edited tree (Replace id new)).root child new (2 + length path)
replace_sizes tree path element whole at id new place child there has =
    let level = 1 + length path + 1 in
    let next = tree.next_id in
    let exchange = replace_exchanged tree path element whole at id new place child there has in
    let count = count_exchanged exchange in
    let bytes = bytes_exchanged exchange in
    record {
      elements = omega (arith, count, length_at level child, new_count level next new);
      bytes = omega (arith, bytes, bytes_at level child, new_bytes level next new);
      levels = deep_exchanged exchange refl (shallow_tree tree whole) ∙ new_levels path next new;
    }

pub swap_sizes : (tree : TreeValue) (path : List ℕ) (element : Node) → IsWhole tree → node_at path tree.root ≡ Some element
    → (id : NodeId) (new : Node) (place : ℕ) (child : Node) → slice_get (children_of element) place ≡ Some child → has_id id.0 (head_of child) ≡ true
    → Exchanges tree.root (edited tree (Swap id new)).root child new (2 + length path)
swap_sizes tree path element whole at id new place child there has =
    let level = 1 + length path + 1 in
    let exchange = swap_exchanged tree path element whole at id new place child there has in
    let count = count_exchanged exchange in
    let bytes = bytes_exchanged exchange in
    record {
      elements = omega (arith, count, length_at level child, length_at level new);
      bytes = omega (arith, bytes, bytes_at level child, bytes_at level new);
      levels = deep_exchanged exchange refl (shallow_tree tree whole) ∙ ap (λ l. is_deep (listed l new)) (two_below path);
    }
