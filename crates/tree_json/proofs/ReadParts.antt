-- What is read of a part, from what is read of an element and of those below it, or side by side.
use Rattle.std.proofs.Common.{◌≡◌, ◌∙◌, sym, ap, refl, subst, ℕ, ◌+◌, ◌≤◌, ◌<◌, min, List, [], ◌∷◌, ◌++◌, length, map, take, drop, get_or, Option, Some, None, Result, Ok, Err, arith}
use Rattle.std.proofs.lemmas.List.{append_assoc, append-nil, map-append, take_more, drop_more, take-append-drop}
use Rattle.std.proofs.lemmas.List.Sums.{sum_by-cons}
use Rattle.std.specs.Result.{IsErr, IsErrAnd}
use Rattle.serde_json.specs.View.{view}
use Rattle.serde_json.specs.declared.value.Value.{Value}
use Rattle.std.specs.Option.{option_map, option_or}
use Rattle.serde_json.specs.Data.{Data}
use Rattle.tree_json.specs.Elements.{Element, below, elements, bytes_held}
use Rattle.tree_json.specs.Faults.{fault_of, fault_at}
use Rattle.math_tree.specs.Forms.{most_elements, most_bytes}
use Rattle.tree_json.specs.Parts.{ReadsPart, fault_behind, seen_with, nodes_of}
use Rattle.tree_json.specs.Reading.{node_of, head_of}
use Rattle.math_tree.specs.Trees.{node}
use Rattle.tree_json.specs.declared.fault.ElementFault.{ElementFault}
use Rattle.tree_json.specs.declared.fault.TreeFault.{TreeFault}
use Rattle.math_tree.specs.declared.node.Node.{Node}
use Rattle.tree_json.specs.declared.read.Seen.{Seen}
use Rattle.tree_json.specs.declared.refusal.TreeRefusal.{TreeRefusal}
use Rattle.tree_json.specs.declared.refusal.TreeRefusal.TheVariants.{Fault, Memory}
use Rattle.tree_json.proofs.FirstFault.{bytes_of, within, all_within, IsWithin, capped_fault, fault_here, fault_later, seen_append}
use Rattle.tree_json.proofs.Listing.{all_elements, elements_out, node_out, nodes_more}
use Rattle.tree_json.specs.declared.portion.Portion.{Portion}

-- ---- an element and those below it

module _ (portion : Portion) (seen : Seen) (level : ℕ) (value : Data) where
  abbrev here : Element
  here = record { level = level; value = value }

  -- what is seen once the element itself is
  abbrev pub with_one : Seen
  with_one = record { elements = seen.elements + 1; bytes = seen.bytes + bytes_held value }

  abbrev lower : List Element
  lower = all_elements (level + 1) (below value)

  -- the test of the element, which counts its bytes up to a bound far above the limit
  pub tested : (held sum : ℕ) (found : Option ElementFault) → held ≡ min (bytes_held value) 18446744073709551615
      → sum ≡ min (seen.bytes + held) 18446744073709551615 → found ≡ fault_of portion (seen.elements + 1) sum here
      → fault_of portion with_one.elements with_one.bytes here ≡ found
  tested held sum found held_is sum_is found_is =
      let counted : sum ≡ min with_one.bytes 18446744073709551615 = omega (arith, held_is, sum_is) in
      sym (found_is ∙ ap (λ n. fault_of portion (seen.elements + 1) n here) counted ∙ capped_fault portion (seen.elements + 1) with_one.bytes here)

  pub limits : fault_of portion with_one.elements with_one.bytes here ≡ None → IsWithin with_one.elements with_one.bytes here
  limits none = within portion with_one.elements with_one.bytes here none

  -- where it has no fault, they are counted exactly
  pub counted : (held sum : ℕ) → held ≡ min (bytes_held value) 18446744073709551615
      → sum ≡ min (seen.bytes + held) 18446744073709551615
      → fault_of portion with_one.elements with_one.bytes here ≡ None → sum ≡ with_one.bytes
  counted held sum held_is sum_is none =
      let small = (within portion with_one.elements with_one.bytes here none).bytes in
      omega (arith, held_is, sum_is, small)

  pub own_fault : (fault : ElementFault) → fault_of portion with_one.elements with_one.bytes here ≡ Some fault
      → fault_behind portion seen (elements level value) ≡ Some (fault_at (seen.elements + 1) fault)
  own_fault fault e =
      ap (fault_behind portion seen) (elements_out level value)
      ∙ ap (λ own. option_or (option_map (fault_at (seen.elements + 1)) own) (fault_behind portion with_one lower)) e

  pub lower_fault : (fault : Option TreeFault) → fault_of portion with_one.elements with_one.bytes here ≡ None
      → fault_behind portion with_one lower ≡ fault → fault_behind portion seen (elements level value) ≡ fault
  lower_fault fault none e =
      ap (fault_behind portion seen) (elements_out level value)
      ∙ ap (λ own. option_or (option_map (fault_at (seen.elements + 1)) own) (fault_behind portion with_one lower)) none ∙ e

  pub all_seen : seen_with with_one lower ≡ seen_with seen (elements level value)
  all_seen =
      let count : seen.elements + 1 + length lower ≡ seen.elements + length (here ∷ lower) = omega arith in
      let bytes : seen.bytes + bytes_held value + bytes_of lower ≡ seen.bytes + bytes_of (here ∷ lower) =
      omega (arith, sum_by-cons (λ (e : Element). bytes_held e.value) here lower) in
      let first : Seen = seen_with with_one lower in
      let whole : Seen = seen_with seen (here ∷ lower) in
      ap (λ n. record { elements = n; bytes = first.bytes }) count
      ∙ ap (λ n. record { elements = whole.elements; bytes = n }) bytes
      ∙ ap (seen_with seen) (sym (elements_out level value))

  -- want of memory, or a fault, among those below it
  pub lower_refused : (kids : List Data) (sum : ℕ) (after now : Seen) (refusal : TreeRefusal)
      → kids ≡ below value → sum ≡ with_one.bytes → fault_of portion with_one.elements with_one.bytes here ≡ None
      → ReadsPart portion (all_elements (level + 1) kids) (λ id. nodes_of id kids) (record { elements = seen.elements + 1; bytes = sum }) after (Err refusal)
      → ReadsPart portion (elements level value) (λ id. node_of id value) seen now (Err refusal)
  lower_refused kids sum after now (Fault fault) kids_are sum_is none e =
      lower_fault (Some fault) none (rw (← kids_are, ← sum_is) e)
  lower_refused kids sum after now Memory kids_are sum_is none e = tt

  pub whole_part : (after : Seen) (nodes : List Node) → fault_of portion with_one.elements with_one.bytes here ≡ None
      → ReadsPart portion lower (λ id. nodes_of id (below value)) with_one after (Ok nodes)
      → ReadsPart portion (elements level value) (λ id. node_of id value) seen after (Ok (node (head_of (seen.elements + 1) value) nodes))
  whole_part after nodes none read = (
    lower_fault None none read.0,
    ap (node (head_of (seen.elements + 1) value)) read.1 ∙ sym (node_out (seen.elements + 1) value),
    read.2 ∙ all_seen,
  )

-- a refusal that is handed on
pub as_refused : {A : Type 0} (r : Result A TreeRefusal) (refusal : TreeRefusal) → IsErr r
    → IsErrAnd r (λ e. e ≡ refusal) → r ≡ Err refusal
as_refused (Ok read) refusal h e = absurd e
as_refused (Err found) refusal h e = ap Err e

-- ---- elements side by side

pub side_limits : (portion : Portion) (seen : Seen) (level : ℕ) (values : List Data) (now : Seen) (nodes : List Node)
    → ReadsPart portion (all_elements level values) (λ id. nodes_of id values) seen now (Ok nodes)
    → seen.elements ≤ most_elements → seen.bytes ≤ most_bytes
    → (now.elements ≤ most_elements) × (now.bytes ≤ most_bytes)
side_limits portion seen level values now nodes read few small =
    rw (read.2) (all_within portion seen.elements seen.bytes (all_elements level values) read.0 few small)

pub taken : (values : List Value) (at : ℕ) (value : Value) → at < length values → value ≡ get_or values at value
    → map view (take (at + 1) values) ≡ map view (take at values) ++ view value ∷ []
taken values at value h is =
    ap (map view) (take_more values at value h ∙ ap (λ v. take at values ++ v ∷ []) (sym is))
    ∙ map-append view (take at values) (value ∷ [])

pub split_at : (values : List Value) (at : ℕ) (value : Value) → at < length values → value ≡ get_or values at value
    → map view values ≡ map view (take at values) ++ view value ∷ map view (drop (at + 1) values)
split_at values at value h is =
    let rest = drop_more values at value h ∙ ap (λ v. v ∷ drop (at + 1) values) (sym is) in
    ap (map view) (sym (take-append-drop at values) ∙ ap (λ back. take at values ++ back) rest)
    ∙ map-append view (take at values) (value ∷ drop (at + 1) values)

all_append : (level : ℕ) (front back : List Data) → all_elements level (front ++ back) ≡ all_elements level front ++ all_elements level back
all_append level [] back = refl
all_append level (value ∷ front) back =
    ap (λ rest. elements level value ++ rest) (all_append level front back)
    ∙ sym (append_assoc (elements level value) (all_elements level front) (all_elements level back))

one_element : (level : ℕ) (value : Data) → all_elements level (value ∷ []) ≡ elements level value
one_element level value = append-nil (elements level value)

module _ (portion : Portion) (seen : Seen) (level : ℕ) (front : List Data) (value : Data) (back : List Data) (now : Seen) where
  -- one more is read
  pub one_more : (after : Seen) (nodes : List Node) (read : Node)
      → ReadsPart portion (all_elements level front) (λ id. nodes_of id front) seen now (Ok nodes)
      → ReadsPart portion (elements level value) (λ id. node_of id value) now after (Ok read)
      → ReadsPart portion (all_elements level (front ++ value ∷ [])) (λ id. nodes_of id (front ++ value ∷ [])) seen after (Ok (nodes ++ read ∷ []))
  one_more after nodes read done more =
      let first = all_elements level front in
      let list = all_append level front (value ∷ []) ∙ ap (λ last. first ++ last) (one_element level value) in
      let count = ap (λ (s : Seen). s.elements) done.2 in
      let id : now.elements + 1 ≡ seen.elements + 1 + length first = omega (arith, count) in
      let last : read ≡ node_of (seen.elements + 1 + length first) value = more.1 ∙ ap (λ n. node_of n value) id in (
        ap (fault_behind portion seen) list
            ∙ fault_later portion seen first (elements level value) None done.0 (subst (λ s. fault_behind portion s (elements level value) ≡ None) done.2 more.0),
        rw (done.1, last) (sym (nodes_more level (seen.elements + 1) front value)),
        more.2 ∙ ap (λ s. seen_with s (elements level value)) done.2 ∙ seen_append seen first (elements level value) ∙ ap (seen_with seen) (sym list),
      )

  -- one is refused, and so all are
  pub one_refused : (all : List Data) (after last : Seen) (nodes : List Node) (refusal : TreeRefusal)
      → all ≡ front ++ value ∷ back
      → ReadsPart portion (all_elements level front) (λ id. nodes_of id front) seen now (Ok nodes)
      → ReadsPart portion (elements level value) (λ id. node_of id value) now after (Err refusal)
      → ReadsPart portion (all_elements level all) (λ id. nodes_of id all) seen last (Err refusal)
  one_refused all after last nodes (Fault fault) split done e =
      let first = all_elements level front in
      let back_list = all_elements level back in
      let next = fault_here portion (seen_with seen first) (elements level value) back_list fault
      (subst (λ s. fault_behind portion s (elements level value) ≡ Some fault) done.2 e) in
      ap (λ values. fault_behind portion seen (all_elements level values)) split
      ∙ ap (fault_behind portion seen) (all_append level front (value ∷ back))
      ∙ fault_later portion seen first (elements level value ++ back_list) (Some fault) done.0 next
  one_refused all after last nodes Memory split done e = tt
