-- The first fault of a list, and a list without one, element by element.
use Rattle.std.proofs.Common.{◌≡◌, ◌∙◌, sym, ap, refl, ℕ, zero, suc, ◌+◌, ◌<◌, List, [], ◌∷◌, length, take, slice_get, Option, Some, None, Result, Ok, Err, true≢false, arith}
use Rattle.std.proofs.lemmas.List.Sums.{sum_by-cons}
use Rattle.std.proofs.lemmas.Option.{none-some, same_Some}
use Rattle.std.specs.Option.{option_map, option_or}
use Rattle.std.specs.Result.{is_ok}
use Rattle.serde_json.specs.Data.{Data}
use Rattle.tree_json.specs.Elements.{Element, elements, bytes_held}
use Rattle.tree_json.specs.Faults.{fault_of, fault_at, first_fault_after}
use Rattle.tree_json.specs.Laws.{HasFault, FirstFaultLaw, TreeLaw}
use Rattle.tree_json.specs.Reading.{tree_of, tree_without, node_of}
use Rattle.math_tree.specs.Trees.{TreeValue, listed}
use Rattle.tree_json.specs.declared.fault.ElementFault.{ElementFault}
use Rattle.tree_json.specs.declared.fault.TreeFault.{TreeFault}
use Rattle.tree_json.proofs.Entries.{listed_is}
use Rattle.tree_json.proofs.FirstFault.{bytes_of, no_first}
use Rattle.tree_json.specs.declared.portion.Portion.TheVariants.{Whole}

-- an element's fault behind so many elements that hold so many bytes
abbrev FaultBehind : ℕ → ℕ → List Element → ℕ → Option ElementFault → Type 0
FaultBehind count bytes list index fault = (element : Element) × (slice_get list index ≡ Some element)
    × (fault_of Whole (count + (index + 1)) (bytes + bytes_of (take (index + 1) list)) element ≡ fault)

abbrev FirstBehind : ℕ → ℕ → List Element → TreeFault → Type 0
FirstBehind count bytes list found = (index : ℕ) × (fault : ElementFault)
    × FaultBehind count bytes list index (Some fault)
    × ((i : ℕ) → i < index → FaultBehind count bytes list i None)
    × (found ≡ fault_at (count + (index + 1)) fault)

same_test : (place next bytes held : ℕ) (element : Element) (fault : Option ElementFault) → place ≡ next → bytes ≡ held
    → fault_of Whole place bytes element ≡ fault → fault_of Whole next held element ≡ fault
same_test place next bytes held element fault p b e = rw (← p, ← b) e

module _ (count bytes : ℕ) (element : Element) (list : List Element) where
  abbrev held : ℕ
  held = bytes_held element.value

  more : (n : ℕ) → bytes + held + bytes_of (take n list) ≡ bytes + bytes_of (element ∷ take n list)
  more n = omega (arith, sum_by-cons (λ (e : Element). bytes_held e.value) element (take n list))

  -- the element itself
  at_first : (fault : Option ElementFault) → fault_of Whole (count + 1) (bytes + held) element ≡ fault
      → FaultBehind count bytes (element ∷ list) 0 fault
  at_first fault e =
      let sum : bytes + held ≡ bytes + bytes_of (element ∷ []) = omega (arith, more 0) in
      (element, refl, same_test (count + 1) (count + 1) (bytes + held) _ element fault refl sum e)

  -- one behind it
  at_next : (i : ℕ) (fault : Option ElementFault) → FaultBehind (count + 1) (bytes + held) list i fault
      → FaultBehind count bytes (element ∷ list) (suc i) fault
  at_next i fault (other, at, e) =
      let step : suc (i + 1) ≡ suc i + 1 = omega arith in
      let sum = more (i + 1) ∙ ap (λ n. bytes + bytes_of (take n (element ∷ list))) step in
      (other, at, same_test (count + 1 + (i + 1)) (count + (suc i + 1)) _ _ other fault (omega arith) sum e)

faultless : (count bytes : ℕ) (list : List Element) → first_fault_after Whole count bytes list ≡ None
    → (i : ℕ) → i < length list → FaultBehind count bytes list i None
faultless count bytes [] e i h = absurd (omega (arith, h))
faultless count bytes (element ∷ list) e zero h =
    at_first count bytes element list None (no_first _ (fault_of Whole (count + 1) (bytes + bytes_held element.value) element) _ e).0
faultless count bytes (element ∷ list) e (suc i) h =
    let held = bytes + bytes_held element.value in
    let rest = (no_first _ (fault_of Whole (count + 1) held element) _ e).1 in
    at_next count bytes element list i None (faultless (count + 1) held list rest i (omega (arith, h)))

none_before : (count bytes : ℕ) (element : Element) (list : List Element) (index : ℕ)
    → fault_of Whole (count + 1) (bytes + bytes_held element.value) element ≡ None
    → ((i : ℕ) → i < index → FaultBehind (count + 1) (bytes + bytes_held element.value) list i None)
    → (i : ℕ) → i < suc index → FaultBehind count bytes (element ∷ list) i None
none_before count bytes element list index is earlier zero h = at_first count bytes element list None is
none_before count bytes element list index is earlier (suc i) h =
    at_next count bytes element list i None (earlier i (omega (arith, h)))

-- the element itself has the first fault, or the elements behind it have
first_or_behind : (count bytes : ℕ) (element : Element) (list : List Element) (found : TreeFault) (own : Option ElementFault)
    → fault_of Whole (count + 1) (bytes + bytes_held element.value) element ≡ own
    → (first_fault_after Whole (count + 1) (bytes + bytes_held element.value) list ≡ Some found
    → FirstBehind (count + 1) (bytes + bytes_held element.value) list found)
    → option_or (option_map (fault_at (count + 1)) own) (first_fault_after Whole (count + 1) (bytes + bytes_held element.value) list) ≡ Some found
    → FirstBehind count bytes (element ∷ list) found
first_or_behind count bytes element list found (Some fault) is rest e = (
  0,
  fault,
  at_first count bytes element list (Some fault) is,
  λ i h. absurd (omega (arith, h)),
  sym (same_Some (fault_at (count + 1) fault) found e),
)
first_or_behind count bytes element list found None is rest e =
    let behind = rest e in
    let place : count + 1 + (behind.0 + 1) ≡ count + (suc behind.0 + 1) = omega arith in (
      suc behind.0,
      behind.1,
      at_next count bytes element list behind.0 (Some behind.1) behind.2,
      none_before count bytes element list behind.0 is behind.3,
      behind.4 ∙ ap (λ n. fault_at n behind.1) place,
    )

first_behind : (count bytes : ℕ) (list : List Element) (found : TreeFault)
    → first_fault_after Whole count bytes list ≡ Some found → FirstBehind count bytes list found
first_behind count bytes [] found e = absurd (none-some found e)
first_behind count bytes (element ∷ list) found e =
    let held = bytes + bytes_held element.value in
    first_or_behind count bytes element list found (fault_of Whole (count + 1) held element) refl
    (first_behind (count + 1) held list found) e

from_start : (list : List Element) (i : ℕ) (fault : Option ElementFault) → FaultBehind 0 0 list i fault → HasFault list i fault
from_start list i fault (element, at, e) =
    (element, at, same_test (0 + (i + 1)) (i + 1) (0 + bytes_of (take (i + 1) list)) _ element fault (omega arith) (omega arith) e)

-- ---- the laws

abbrev err_or : TreeFault → Result TreeValue TreeFault → TreeFault
err_or other (Ok tree) = other
err_or other (Err fault) = fault

told : (fault : Option TreeFault) (value : Data) (found : TreeFault) → tree_without fault value ≡ Err found → fault ≡ Some found
told (Some fault) value found e = ap (λ x. Some (err_or fault x)) e
told None value found e = absurd (true≢false (ap is_ok e))

pub first_fault : FirstFaultLaw
unfolding tree_of
first_fault value found e =
    let list = elements 1 value in
    let first = first_behind 0 0 list found (told (first_fault_after Whole 0 0 list) value found e) in
    let place : 0 + (first.0 + 1) ≡ first.0 + 1 = omega arith in
    record {
      index = first.0;
      fault = first.1;
      has = from_start list first.0 (Some first.1) first.2;
      earlier = λ i h. from_start list i None (first.3 i h);
      told = first.4 ∙ ap (λ n. fault_at n first.1) place;
    }

abbrev tree_or : TreeValue → Result TreeValue TreeFault → TreeValue
tree_or other (Ok tree) = tree
tree_or other (Err fault) = other

whole_without : (fault : Option TreeFault) (value : Data) (tree : TreeValue) → tree_without fault value ≡ Ok tree
    → (fault ≡ None) × (tree ≡ record { root = node_of 1 value; next_id = 1 + length (elements 1 value) })
whole_without (Some fault) value tree e = absurd (true≢false (sym (ap is_ok e)))
whole_without None value tree e = (refl, ap (tree_or tree) (sym e))

pub whole_tree : TreeLaw
unfolding tree_of
whole_tree value tree e =
    let list = elements 1 value in
    let parts = whole_without (first_fault_after Whole 0 0 list) value tree e in
    record {
      faultless = λ i h. from_start list i None (faultless 0 0 list parts.0 i h);
      listing = ap (λ (t : TreeValue). listed 1 t.root) parts.1 ∙ listed_is value 1 1;
      next = ap (λ (t : TreeValue). t.next_id) parts.1;
    }
