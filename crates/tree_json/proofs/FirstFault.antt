-- The first fault of a list of elements, part by part, and what holds where there is none.
use Rattle.std.proofs.Common.{◌≡◌, ◌∙◌, sym, ap, refl, ℕ, ◌+◌, ◌≤◌, min, List, [], ◌∷◌, ◌++◌, length, Bool, true, false, Option, Some, None, nat_lt, arith}
use Rattle.std.proofs.lemmas.Bool.Decides.{nat_tests}
use Rattle.std.proofs.lemmas.List.{length-append}
use Rattle.std.proofs.lemmas.List.Sums.{sum_by-cons, sum_by-append}
use Rattle.std.proofs.lemmas.Option.{none-some}
use Rattle.std.specs.List.{find, sum_by, AllByRecursion}
use Rattle.std.specs.Option.{option_map, option_or}
use Rattle.tree_json.specs.Elements.{Element, bytes_held}
use Rattle.tree_json.specs.Faults.{faults, fault_of, fault_at, first_fault_after}
use Rattle.math_tree.specs.Forms.{most_levels, most_elements, most_bytes}
use Rattle.tree_json.specs.Parts.{fault_behind, seen_with}
use Rattle.tree_json.specs.declared.fault.ElementFault.{ElementFault}
use Rattle.tree_json.specs.declared.fault.TreeFault.{TreeFault}
use Rattle.tree_json.specs.declared.read.Seen.{Seen}
use Rattle.tree_json.specs.declared.portion.Portion.{Portion}

-- the bytes of elements
abbrev pub bytes_of : List Element → ℕ
bytes_of elements = sum_by (λ e. bytes_held e.value) elements

-- ---- of one element

-- where no row is found, no test holds
none_found : (rows : List (Bool × ElementFault)) → option_map (λ row. row.1) (find (λ row. row.0) rows) ≡ None
    → AllByRecursion (λ row. row.0 ≡ false) rows
none_found [] e = tt
none_found ((true, fault) ∷ rows) e = absurd (none-some fault (sym e))
none_found ((false, fault) ∷ rows) e = (refl, none_found rows e)

pub no_fault : (portion : Portion) (place bytes : ℕ) (element : Element) → fault_of portion place bytes element ≡ None
    → AllByRecursion (λ row. row.0 ≡ false) (faults portion place bytes element)
unfolding fault_of
no_fault portion place bytes element e = none_found (faults portion place bytes element) e

not_above : (bound n : ℕ) → nat_lt bound n ≡ false → n ≤ bound
not_above bound n e = grind (arith, nat_tests)

-- an element without a fault is within the limits
pub record IsWithin (count held : ℕ) (element : Element) : Type 0 where
  pub level : element.level ≤ most_levels
  pub place : count ≤ most_elements
  pub bytes : held ≤ most_bytes

pub within : (portion : Portion) (place bytes : ℕ) (element : Element) → fault_of portion place bytes element ≡ None → IsWithin place bytes element
within portion place bytes element e =
    let tests = no_fault portion place bytes element e in
    record {
      level = not_above most_levels element.level tests.0;
      place = not_above most_elements place tests.1.0;
      bytes = not_above most_bytes bytes tests.1.1.1.1.1.1.1.1.1.0;
    }

-- a sum that stands still far above the limit gives the same fault
capped_test : (bytes : ℕ) → nat_lt 4194304 (min bytes 18446744073709551615) ≡ nat_lt 4194304 bytes
capped_test bytes = grind (arith, nat_tests)

pub capped_fault : (portion : Portion) (place bytes : ℕ) (element : Element)
    → fault_of portion place (min bytes 18446744073709551615) element ≡ fault_of portion place bytes element
unfolding fault_of
capped_fault portion place bytes element = rw (capped_test bytes) refl

-- ---- of a list

option_or-assoc : {A : Type 0} (a b c : Option A) → option_or (option_or a b) c ≡ option_or a (option_or b c)
option_or-assoc None b c = refl
option_or-assoc (Some x) b c = refl

pub fault_append : (portion : Portion) (count bytes : ℕ) (front back : List Element)
    → first_fault_after portion count bytes (front ++ back)
    ≡ option_or (first_fault_after portion count bytes front) (first_fault_after portion (count + length front) (bytes + bytes_of front) back)
fault_append portion count bytes [] back =
    let count_is : count ≡ count + 0 = omega arith in
    let bytes_are : bytes ≡ bytes + 0 = omega arith in
    ap (λ n. first_fault_after portion n bytes back) count_is ∙ ap (λ n. first_fault_after portion (count + 0) n back) bytes_are
fault_append portion count bytes (element ∷ front) back =
    let held = bytes_held element.value in
    let here = option_map (fault_at (count + 1)) (fault_of portion (count + 1) (bytes + held) element) in
    let first = first_fault_after portion (count + 1) (bytes + held) front in
    let count_is : count + 1 + length front ≡ count + length (element ∷ front) = omega arith in
    let bytes_are : bytes + held + bytes_of front ≡ bytes + bytes_of (element ∷ front) =
    omega (arith, sum_by-cons (λ (e : Element). bytes_held e.value) element front) in
    let rest = fault_append portion (count + 1) (bytes + held) front back in
    let moved = ap (λ n. first_fault_after portion n (bytes + held + bytes_of front) back) count_is
    ∙ ap (λ n. first_fault_after portion (count + length (element ∷ front)) n back) bytes_are in
    ap (option_or here) (rest ∙ ap (option_or first) moved) ∙ sym (option_or-assoc here first _)

pub no_first : {A B : Type 0} (f : A → B) (a : Option A) (b : Option B) → option_or (option_map f a) b ≡ None → (a ≡ None) × (b ≡ None)
no_first f None b e = (refl, e)
no_first f (Some x) b e = absurd (none-some (f x) (sym e))

-- where no element has a fault, all of them are within the limits
pub all_within : (portion : Portion) (count bytes : ℕ) (elements : List Element) → first_fault_after portion count bytes elements ≡ None
    → count ≤ most_elements → bytes ≤ most_bytes
    → (count + length elements ≤ most_elements) × (bytes + bytes_of elements ≤ most_bytes)
all_within portion count bytes [] e few small = (omega (arith, few), omega (arith, small))
all_within portion count bytes (element ∷ elements) e few small =
    let held = bytes_held element.value in
    let parts = no_first (fault_at (count + 1)) (fault_of portion (count + 1) (bytes + held) element) _ e in
    let here = within portion (count + 1) (bytes + held) element parts.0 in
    let rest = all_within portion (count + 1) (bytes + held) elements parts.1 here.place here.bytes in
    let bytes_are = sum_by-cons (λ (e : Element). bytes_held e.value) element elements in
    (omega (arith, rest.0), omega (arith, rest.1, bytes_are))

-- ---- of parts that are read one behind the other

pub fault_here : (portion : Portion) (seen : Seen) (front back : List Element) (fault : TreeFault)
    → fault_behind portion seen front ≡ Some fault → fault_behind portion seen (front ++ back) ≡ Some fault
fault_here portion seen front back fault e =
    fault_append portion seen.elements seen.bytes front back ∙ ap (λ first. option_or first (fault_behind portion (seen_with seen front) back)) e

pub fault_later : (portion : Portion) (seen : Seen) (front back : List Element) (fault : Option TreeFault)
    → fault_behind portion seen front ≡ None → fault_behind portion (seen_with seen front) back ≡ fault
    → fault_behind portion seen (front ++ back) ≡ fault
fault_later portion seen front back fault none e =
    fault_append portion seen.elements seen.bytes front back
    ∙ ap (λ first. option_or first (fault_behind portion (seen_with seen front) back)) none ∙ e

pub seen_append : (seen : Seen) (front back : List Element)
    → seen_with (seen_with seen front) back ≡ seen_with seen (front ++ back)
seen_append seen front back =
    let count : seen.elements + length front + length back ≡ seen.elements + length (front ++ back) =
    omega (arith, length-append front back) in
    let bytes : seen.bytes + bytes_of front + bytes_of back ≡ seen.bytes + bytes_of (front ++ back) =
    omega (arith, sum_by-append (λ (e : Element). bytes_held e.value) front back) in
    let first : Seen = seen_with (seen_with seen front) back in
    let whole : Seen = seen_with seen (front ++ back) in
    ap (λ n. record { elements = n; bytes = first.bytes }) count ∙ ap (λ n. record { elements = whole.elements; bytes = n }) bytes
