-- How many elements and bytes there are in an element, and how deep it is, from its children.
use Rattle.std.proofs.Common.{◌≡◌, ◌∙◌, refl, sym, ap, ℕ, zero, suc, ◌+◌, ◌<◌, ◌≤◌, List, [], ◌∷◌, length, take, slice_get, Some, Bool, true, false, ◌||◌, nat_lt}
use Rattle.std.proofs.lemmas.Bool.{lt-ltb, le-ltb}
use Rattle.std.proofs.lemmas.List.{take_all}
use Rattle.std.proofs.lemmas.List.Folds.{list_any-append}
use Rattle.std.proofs.lemmas.Option.{none-some, same_Some}
use Rattle.std.specs.List.{flat_map, sum_by}
use Rattle.math_tree.proofs.Counts.{counted}
use Rattle.math_tree.proofs.Nodes.{listed_element}
use Rattle.math_tree.specs.Attributes.{bytes_of_attribute, bytes_of_attributes}
use Rattle.math_tree.specs.Forms.{most_levels}
use Rattle.math_tree.specs.Trees.{listed, byte_count, bytes_of_head, element_count}
use Rattle.math_tree.specs.declared.attributes.Attribute.{Attribute}
use Rattle.math_tree.specs.declared.node.Node.{Node}
use Rattle.tree_edits.proofs.Paths.{none_in}
use Rattle.tree_edits.specs.Edits.{head_of, is_deep}
use Rattle.tree_edits.specs.Paths.{children_of}
use Rattle.tree_edits.specs.Sizes.{capped, size_of}
use Rattle.tree_edits.specs.declared.measure.Size.{Size}

-- ---- elements and bytes

-- all of them
pub all_attributes : (attributes : List Attribute) (i bytes : ℕ) → length attributes ≤ i
    → bytes ≡ capped (sum_by bytes_of_attribute (take i attributes)) → bytes ≡ capped (bytes_of_attributes attributes)
unfolding bytes_of_attributes
all_attributes attributes i bytes past e =
    e ∙ ap (λ l. capped (sum_by bytes_of_attribute l)) (take_all i attributes past)

pub all_children : (element : Node) (i : ℕ) (size : Size) → length (children_of element) ≤ i
    → size.elements ≡ capped (1 + sum_by element_count (take i (children_of element)))
    → size.bytes ≡ capped (bytes_of_head (head_of element) + sum_by byte_count (take i (children_of element)))
    → size ≡ size_of element
all_children element i size past elements bytes =
    let all = take_all i (children_of element) past in
    let law = counted element in
    let elements_are : size.elements ≡ capped (element_count element) =
    elements ∙ ap (λ l. capped (1 + sum_by element_count l)) all ∙ ap capped (sym law.elements) in
    let bytes_are : size.bytes ≡ capped (byte_count element) =
    bytes ∙ ap (λ l. capped (bytes_of_head (head_of element) + sum_by byte_count l)) all ∙ ap capped (sym law.bytes) in
    ap (λ n. record size { elements = n }) elements_are
    ∙ ap (λ n. record { elements = capped (element_count element); bytes = n }) bytes_are

-- ---- levels

-- an element that stands too deep by itself
pub deep_here : (level : ℕ) (element : Node) → most_levels < level → is_deep (listed level element) ≡ true
deep_here level element h =
    let past : nat_lt most_levels level ≡ true = lt-ltb most_levels level h in
    rw (listed_element level element, past) refl

or_true : (a : Bool) → (a || true) ≡ true
or_true true = refl
or_true false = refl

deep_among : (level : ℕ) (nodes : List Node) (i : ℕ) (child : Node) → slice_get nodes i ≡ Some child
    → is_deep (listed level child) ≡ true → is_deep (flat_map (listed level) nodes) ≡ true
deep_among level [] i child at h = absurd (none-some child at)
deep_among level (n ∷ nodes) zero child at h =
    let own : is_deep (listed level n) ≡ true = ap (λ m. is_deep (listed level m)) (same_Some n child at) ∙ h in
    list_any-append _ (listed level n) (flat_map (listed level) nodes) ∙ rw own refl
deep_among level (n ∷ nodes) (suc i) child at h =
    let rest = deep_among level nodes i child at h in
    list_any-append _ (listed level n) (flat_map (listed level) nodes) ∙ rw rest (or_true _)

-- an element over one that stands too deep
pub deep_below : (level : ℕ) (element : Node) (i : ℕ) (child : Node) → slice_get (children_of element) i ≡ Some child
    → is_deep (listed (level + 1) child) ≡ true → is_deep (listed level element) ≡ true
deep_below level element i child at h =
    rw (listed_element level element, deep_among (level + 1) (children_of element) i child at h) (or_true _)

-- none is too deep
pub not_deep : (level : ℕ) (element : Node) (i : ℕ) → level ≤ most_levels → length (children_of element) ≤ i
    → is_deep (flat_map (listed (level + 1)) (take i (children_of element))) ≡ false → is_deep (listed level element) ≡ false
not_deep level element i within past h =
    none_in (λ e. nat_lt most_levels e.level) level element (le-ltb most_levels level within)
    (rw (← take_all i (children_of element) past) h)
