-- The tree of a value without a fault is whole, and an element without one may stand in a tree.
use Rattle.std.proofs.Common.{◌≡◌, ◌∙◌, sym, ap, refl, ℕ, ◌+◌, ◌≤◌, ◌<◌, List, [], ◌∷◌, length, All, false, nat_eq, None, Result, Ok, Err, codes, subst, arith}
use Rattle.std.proofs.lemmas.Bool.{false_from_ne_true}
use Rattle.std.proofs.lemmas.List.Elements.{All-nil, All-cons}
use Rattle.std.proofs.lemmas.List.Sums.{sum_by-cons}
use Rattle.std.proofs.lemmas.Slice.Eq.{bytes_eq-Decides}
use Rattle.std.proofs.lemmas.Bool.Decides.{Decides-eqb}
use Rattle.std.specs.List.{sum_by, AllByRecursion, IsDistinct}
use Rattle.std.specs.Result.{IfOk}
use Rattle.std.specs.Str.{bytes_eq}
use Rattle.serde_json.specs.Data.{Data}
use Rattle.tree_json.specs.Elements.{Element, elements, name_in, bytes_held}
use Rattle.tree_json.specs.Faults.{fault_of, first_fault_after}
use Rattle.math_tree.specs.Forms.{most_levels}
use Rattle.tree_json.specs.Reading.{Reads, node_of, part_of, part_without, tree_without, tree_of}
use Rattle.tree_json.specs.Parts.{AreOrdered, IsOrderedAt, ReadsPart}
use Rattle.tree_json.specs.Laws.{entry, entries}
use Rattle.math_tree.specs.Trees.{TreeValue, Listed, ids_of, bytes_of_head, IsPart, IsProper, IsWhole, IsTotalled}
use Rattle.math_tree.specs.declared.node.Node.{Node}
use Rattle.math_tree.specs.declared.node.Node.TheViews.{out-roll-Node}
use Rattle.tree_json.specs.declared.portion.Portion.{Portion}
use Rattle.tree_json.specs.declared.portion.Portion.TheVariants.{Part, Whole}
use Rattle.tree_json.specs.declared.read.Seen.{Seen}
use Rattle.tree_json.specs.declared.refusal.TreeRefusal.{TreeRefusal}
use Rattle.tree_json.specs.declared.refusal.TreeRefusal.TheVariants.{Fault, Memory}
use Rattle.tree_json.proofs.Entries.{listed_is}
use Rattle.tree_json.proofs.FirstFault.{bytes_of, no_first, no_fault, within, all_within}
use Rattle.tree_json.proofs.Listing.{elements_out, node_out}
use Rattle.tree_json.proofs.Proper.{is_not, proper}

-- ---- the elements of a list without a fault

module _ (portion : Portion) (P : Listed → Type 0)
    (each : (place bytes : ℕ) (element : Element) → fault_of portion place bytes element ≡ None → P (entry place element)) where
  all_entries : (count bytes : ℕ) (list : List Element) → first_fault_after portion count bytes list ≡ None
      → All P (entries (count + 1) list)
  all_entries count bytes [] e = All-nil P
  all_entries count bytes (element ∷ list) e =
      let held = bytes + bytes_held element.value in
      let parts = no_first _ (fault_of portion (count + 1) held element) _ e in
      All-cons P (entry (count + 1) element) (entries (count + 1 + 1) list)
      (each (count + 1) held element parts.0) (all_entries (count + 1) held list parts.1)

-- they are proper, where their attributes stand in order
all_proper : (portion : Portion) (count bytes : ℕ) (list : List Element) → first_fault_after portion count bytes list ≡ None
    → AreOrdered (entries (count + 1) list) → All IsProper (entries (count + 1) list)
all_proper portion count bytes [] e order = All-nil IsProper
all_proper portion count bytes (element ∷ list) e order =
    let held = bytes + bytes_held element.value in
    let parts = no_first _ (fault_of portion (count + 1) held element) _ e in
    All-cons IsProper (entry (count + 1) element) (entries (count + 1 + 1) list)
    (proper portion (count + 1) held (count + 1) element parts.0 order.0) (all_proper portion (count + 1) held list parts.1 order.1)

-- ---- their ids, which rise by one

ids_below : (id bound : ℕ) (list : List Element) → id + length list ≤ bound
    → All (λ n. n < bound) (ids_of (entries id list))
ids_below id bound [] h = All-nil (λ n. n < bound)
ids_below id bound (element ∷ list) h =
    All-cons (λ n. n < bound) id (ids_of (entries (id + 1) list)) (omega (arith, h)) (ids_below (id + 1) bound list (omega (arith, h)))

unequal : (a b : ℕ) → a < b → nat_eq a b ≡ false
unequal a b h = false_from_ne_true (nat_eq a b) (λ e. omega (arith, (Decides-eqb a b).0 e, h))

ids_later : (before id : ℕ) (list : List Element) → before < id
    → AllByRecursion (λ n. nat_eq before n ≡ false) (ids_of (entries id list))
ids_later before id [] h = tt
ids_later before id (element ∷ list) h = (unequal before id h, ids_later before (id + 1) list (omega (arith, h)))

ids_distinct : (id : ℕ) (list : List Element) → IsDistinct nat_eq (ids_of (entries id list))
unfolding IsDistinct
ids_distinct id [] = tt
ids_distinct id (element ∷ list) = (ids_later id (id + 1) list (omega arith), ids_distinct (id + 1) list)

-- ---- how many they are, and how many bytes they hold

count_is : (id : ℕ) (list : List Element) → length (entries id list) ≡ length list
count_is id [] = refl
count_is id (element ∷ list) = omega (arith, count_is (id + 1) list)

bytes_are : (id : ℕ) (list : List Element) → sum_by (λ e. bytes_of_head e.head) (entries id list) ≡ bytes_of list
unfolding bytes_held
bytes_are id [] = refl
bytes_are id (element ∷ list) =
    let made = sum_by-cons (λ (e : Listed). bytes_of_head e.head) (entry id element) (entries (id + 1) list) in
    let held = sum_by-cons (λ (e : Element). bytes_held e.value) element list in
    omega (arith, made, held, bytes_are (id + 1) list)

-- ---- what is read

pub sound : (portion : Portion) (value : Data) → first_fault_after portion 0 0 (elements 1 value) ≡ None → IsOrderedAt 1 (node_of 1 value)
    → IsPart (node_of 1 value)
sound portion value e order =
    let list = elements 1 value in
    let same = listed_is value 1 1 in
    let limits = all_within portion 0 0 list e (omega arith) (omega arith) in
    record {
      proper = rw same (all_proper portion 0 0 list e (subst AreOrdered same order));
      shallow = rw same (all_entries portion (λ l. l.level ≤ most_levels) (λ place bytes element none. (within portion place bytes element none).level) 0 0 list e);
      few = rw (same, count_is 1 list) (omega (arith, limits.0));
      small = rw (same, bytes_are 1 list) (omega (arith, limits.1));
    }

-- ---- a whole tree

root_name : (bytes : ℕ) (value : Data) → fault_of Whole 1 bytes (record { level = 1; value = value }) ≡ None
    → name_in value ≡ codes "math"
root_name bytes value e =
    let tests = no_fault Whole 1 bytes (record { level = 1; value = value }) e in
    (bytes_eq-Decides (name_in value) (codes "math")).0 (is_not (bytes_eq (name_in value) (codes "math")) tests.1.1.1.1.1.0)

whole : (value : Data) (next_id : ℕ) → first_fault_after Whole 0 0 (elements 1 value) ≡ None → IsOrderedAt 1 (node_of 1 value)
    → next_id ≡ 1 + length (elements 1 value) → IsWhole (record { root = node_of 1 value; next_id = next_id })
whole value next_id e order next =
    let list = elements 1 value in
    let same = listed_is value 1 1 in
    let limits = all_within Whole 0 0 list e (omega arith) (omega arith) in
    let first = no_first _ _ _ (ap (first_fault_after Whole 0 0) (sym (elements_out 1 value)) ∙ e) in
    let part = sound Whole value e order in
    record {
      name = rw (node_out 1 value, out-roll-Node) (root_name (0 + bytes_held value) value first.0);
      first = rw (node_out 1 value, out-roll-Node) refl;
      proper = part.proper;
      shallow = part.shallow;
      distinct = rw same (ids_distinct 1 list);
      given = rw same (ids_below 1 next_id list (omega (arith, next)));
      next = omega (arith, next, limits.0);
      few = part.few;
      small = part.small;
    }

-- what was seen of the elements are its totals
pub totalled : (value : Data) (next_id count held : ℕ) → first_fault_after Whole 0 0 (elements 1 value) ≡ None
    → IsOrderedAt 1 (node_of 1 value) → next_id ≡ 1 + length (elements 1 value) → count ≡ length (elements 1 value)
    → held ≡ bytes_of (elements 1 value)
    → IsTotalled (record { root = node_of 1 value; next_id = next_id }) count held
totalled value next_id count held e order next counts holds =
    let list = elements 1 value in
    let same = listed_is value 1 1 in
    record {
      whole = whole value next_id e order next;
      elements_are = counts ∙ sym (ap length same ∙ count_is 1 list);
      bytes_are = holds ∙ sym (ap (sum_by (λ (e : Listed). bytes_of_head e.head)) same ∙ bytes_are 1 list);
    }

pub tree_is : (value : Data) (next_id : ℕ) → first_fault_after Whole 0 0 (elements 1 value) ≡ None
    → next_id ≡ 1 + length (elements 1 value) → tree_of value ≡ Ok record { root = node_of 1 value; next_id = next_id }
unfolding tree_of
tree_is value next_id e next =
    ap (λ fault. tree_without fault value) e ∙ ap (λ n. Ok (record { root = node_of 1 value; next_id = n })) (sym next)

pub refused : (value : Data) (after : Seen) (refusal : TreeRefusal)
    → ReadsPart Whole (elements 1 value) (λ id. node_of id value) (record { elements = 0; bytes = 0 }) after (Err refusal)
    → Reads {A = TreeValue} (tree_of value) (Err refusal)
unfolding tree_of
refused value after (Fault fault) e = ap (λ found. tree_without found value) e
refused value after Memory e = tt

-- ---- an element that is to stand in a tree

pub part_read : (value : Data) (after : Seen) (read : Result Node TreeRefusal)
    → ReadsPart Part (elements 1 value) (λ id. node_of id value) (record { elements = 0; bytes = 0 }) after read
    → IfOk read (IsOrderedAt 1) → Reads {A = Node} (part_of value) read × IfOk read IsPart
unfolding part_of
part_read value after (Ok node) e order =
    let meant : node ≡ node_of 1 value = e.1 in
    (ap (λ fault. part_without fault value) e.0 ∙ ap Ok (sym meant), subst IsPart (sym meant) (sound Part value e.0 (subst (IsOrderedAt 1) meant order)))
part_read value after (Err (Fault fault)) e order = (ap (λ found. part_without found value) e, tt)
part_read value after (Err Memory) e order = (tt, tt)
