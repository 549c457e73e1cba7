-- Which reason against an edit is the first.
use Rattle.std.proofs.Common.{◌≡◌, ◌∙◌, sym, ap, refl, inl, inr, ℕ, ◌+◌, ◌-◌, ◌^◌, ◌<◌, ◌≤◌, List, [], ◌∷◌, ◌++◌, length, Bool, true, false, cond, nat_lt, Option, Some, None, add-zero, arith}
use Rattle.std.proofs.lemmas.Bool.{cases_lt, lt-ltb, le-ltb, ltb-false, or_parts}
use Rattle.std.proofs.lemmas.Option.{none-some}
use Rattle.std.specs.List.{find, list_any}
use Rattle.std.specs.Option.{option_map}
use Rattle.math_tree.specs.Forms.{most_elements, most_bytes}
use Rattle.math_tree.specs.Trees.{TreeValue, IsWhole, Listed, listed, ids_of, byte_count, element_count}
use Rattle.math_tree.specs.declared.node.Node.{Node}
use Rattle.tree_edits.proofs.Allowed.{IsNamed}
use Rattle.tree_edits.proofs.Refusals.{all_fail}
use Rattle.tree_edits.proofs.Target.{found_at, found_nowhere}
use Rattle.tree_edits.specs.Edits.{named, has_id, head_of, added, edited, are_taken, is_deep, is_taken, refusal_of}
use Rattle.tree_edits.specs.Paths.{node_at}
use Rattle.tree_edits.specs.Planning.{Allows}
use Rattle.tree_edits.specs.Reasons.{broken_limit, first_reason, limits, own_reason, own_reasons, shown}
use Rattle.tree_edits.specs.Sizes.{capped, totals_of}
use Rattle.tree_edits.specs.declared.edit.Edit.{Edit}
use Rattle.tree_edits.specs.declared.edit.Edit.TheVariants.{Text, Attr, Insert, Remove, Replace, Graft, Swap}
use Rattle.tree_edits.specs.declared.edit.EditRefusal.{EditRefusal}
use Rattle.tree_edits.specs.declared.edit.EditRefusal.TheVariants.{IdTaken, UnknownNode}
use Rattle.tree_edits.specs.declared.totals.Totals.{Totals}

-- ---- the first of two lists

reason_by : (test : Bool) (row : Bool × EditRefusal) (some more : Option (Bool × EditRefusal)) (reason : EditRefusal)
    → option_map (λ row. row.1) (cond test (Some row) some) ≡ Some reason
    → (option_map (λ row. row.1) some ≡ Some reason → option_map (λ row. row.1) more ≡ Some reason)
    → option_map (λ row. row.1) (cond test (Some row) more) ≡ Some reason
reason_by true row some more reason h each = h
reason_by false row some more reason h each = each h

pub first_of_front : (front back : List (Bool × EditRefusal)) (reason : EditRefusal) → first_reason front ≡ Some reason
    → first_reason (front ++ back) ≡ Some reason
first_of_front [] back reason h = absurd (none-some reason h)
first_of_front (row ∷ front) back reason h =
    reason_by row.0 row (find (λ (r : Bool × EditRefusal). r.0) front) (find (λ (r : Bool × EditRefusal). r.0) (front ++ back)) reason h
    (first_of_front front back reason)

none_by : (test : Bool) (row : Bool × EditRefusal) (some more : Option (Bool × EditRefusal)) (meant : Option EditRefusal)
    → option_map (λ row. row.1) (cond test (Some row) some) ≡ None
    → (option_map (λ row. row.1) some ≡ None → option_map (λ row. row.1) more ≡ meant)
    → option_map (λ row. row.1) (cond test (Some row) more) ≡ meant
none_by true row some more meant h each = absurd (none-some row.1 (sym h))
none_by false row some more meant h each = each h

pub first_of_back : (front back : List (Bool × EditRefusal)) → first_reason front ≡ None → first_reason (front ++ back) ≡ first_reason back
first_of_back [] back h = refl
first_of_back (row ∷ front) back h =
    none_by row.0 row (find (λ (r : Bool × EditRefusal). r.0) front) (find (λ (r : Bool × EditRefusal). r.0) (front ++ back)) (first_reason back) h
    (first_of_back front back)

-- ---- limits, by numbers of 64 bits

capped_lt : (bound n : ℕ) → bound < 2 ^ 64 - 1 → nat_lt bound (capped n) ≡ nat_lt bound n
capped_lt bound n small = elim (cases_lt bound n) [
  | inl more ↦ lt-ltb bound (capped n) (omega (arith, more, small)) ∙ sym (lt-ltb bound n more)
  | inr less ↦ le-ltb bound (capped n) (omega (arith, less)) ∙ sym (le-ltb bound n less)
]

pub capped_limit : (deep : Bool) (elements bytes next : ℕ) → broken_limit deep (capped elements) (capped bytes) (capped next) ≡ broken_limit deep elements bytes next
capped_limit deep elements bytes next =
    rw (capped_lt most_elements elements (omega arith), capped_lt most_bytes bytes (omega arith), capped_lt (2 ^ 32) next (omega arith)) refl

-- ---- the first reason against an edit

pub unknown_node : (tree : TreeValue) (edit : Edit) → list_any (λ e. has_id (named edit) e.head) (listed 1 tree.root) ≡ false
    → refusal_of tree edit ≡ Some UnknownNode
unfolding refusal_of
unknown_node tree edit h = rw (found_nowhere (named edit) (listed 1 tree.root) h) refl

-- the limits that the edited tree would break
abbrev edited_limits : TreeValue → Edit → List (Bool × EditRefusal)
edited_limits tree edit =
    let after = edited tree edit in
    limits (is_deep (listed 1 after.root)) (element_count after.root) (byte_count after.root) after.next_id

-- whether ids that it keeps aren't free
abbrev taken_row : TreeValue → Edit → List (Bool × EditRefusal)
taken_row tree edit = (is_taken edit (edited tree edit).next_id (listed 1 tree.root), IdTaken) ∷ []

-- the reasons that lie in the edit and its element, then the limits, and then ids that aren't free
parted : (tree : TreeValue) (edit : Edit) (path : List ℕ) (element : Node) → IsWhole tree → node_at path tree.root ≡ Some element
    → has_id (named edit) (head_of element) ≡ true
    → refusal_of tree edit ≡ first_reason (own_reasons edit (shown (1 + length path) element) ++ (edited_limits tree edit ++ taken_row tree edit))
unfolding refusal_of
parted tree edit path element whole at has = rw (found_at tree (named edit) path element whole at has) refl

pub own_first : (tree : TreeValue) (edit : Edit) (path : List ℕ) (element : Node) (reason : EditRefusal) → IsNamed edit tree path element
    → own_reason edit (shown (1 + length path) element) ≡ Some reason
    → refusal_of tree edit ≡ Some reason
own_first tree edit path element reason is own =
    parted tree edit path element is.whole is.at is.has
    ∙ first_of_front (own_reasons edit (shown (1 + length path) element)) (edited_limits tree edit ++ taken_row tree edit) reason own

-- the limits by the totals of the edited tree
by_totals : (tree : TreeValue) (edit : Edit) (totals : Totals) → totals ≡ totals_of (edited tree edit)
    → first_reason (edited_limits tree edit) ≡ broken_limit totals.deep totals.size.elements totals.size.bytes totals.next_id
by_totals tree edit totals is =
    let after = edited tree edit in
    sym (capped_limit (is_deep (listed 1 after.root)) (element_count after.root) (byte_count after.root) after.next_id)
    ∙ ap (λ (t : Totals). broken_limit t.deep t.size.elements t.size.bytes t.next_id) (sym is)

-- where no such reason lies there, the first limit that is broken
pub limit_first : (tree : TreeValue) (edit : Edit) (path : List ℕ) (element : Node) (totals : Totals) (reason : EditRefusal) → Allows edit tree path element
    → totals ≡ totals_of (edited tree edit)
    → broken_limit totals.deep totals.size.elements totals.size.bytes totals.next_id ≡ Some reason
    → refusal_of tree edit ≡ Some reason
limit_first tree edit path element totals reason allows is broken =
    parted tree edit path element allows.whole allows.at allows.has
    ∙ first_of_back (own_reasons edit (shown (1 + length path) element)) (edited_limits tree edit ++ taken_row tree edit) allows.own
    ∙ first_of_front (edited_limits tree edit) (taken_row tree edit) reason (by_totals tree edit totals is ∙ broken)

-- an edit that keeps ids leaves the next id
pub taken_by : (edit : Edit) (next : ℕ) (before : List Listed) → is_taken edit (next + added edit) before ≡ is_taken edit next before
taken_by (Text id text) next before = refl
taken_by (Attr id name value) next before = refl
taken_by (Insert id index new) next before = refl
taken_by (Remove id) next before = refl
taken_by (Replace id new) next before = refl
taken_by (Graft id index new) next before = ap (λ n. are_taken (ids_of (listed 1 new)) n (ids_of before)) (add-zero next)
taken_by (Swap id new) next before = ap (λ n. are_taken (ids_of (listed 1 new)) n (ids_of before)) (add-zero next)

one_row : (test : Bool) (answer : Bool) → test ≡ answer → first_reason ((test, IdTaken) ∷ []) ≡ cond answer (Some IdTaken) None
one_row true answer e = ap (λ b. cond b (Some IdTaken) None) e
one_row false answer e = ap (λ b. cond b (Some IdTaken) None) e

-- where no limit is broken, whether the ids are free
pub taken_last : (tree : TreeValue) (edit : Edit) (path : List ℕ) (element : Node) (totals : Totals) (taken : Bool) → Allows edit tree path element
    → totals ≡ totals_of (edited tree edit)
    → broken_limit totals.deep totals.size.elements totals.size.bytes totals.next_id ≡ None
    → is_taken edit tree.next_id (listed 1 tree.root) ≡ taken
    → refusal_of tree edit ≡ cond taken (Some IdTaken) None
taken_last tree edit path element totals taken allows is within free =
    parted tree edit path element allows.whole allows.at allows.has
    ∙ first_of_back (own_reasons edit (shown (1 + length path) element)) (edited_limits tree edit ++ taken_row tree edit) allows.own
    ∙ first_of_back (edited_limits tree edit) (taken_row tree edit) (by_totals tree edit totals is ∙ within)
    ∙ one_row (is_taken edit (edited tree edit).next_id (listed 1 tree.root)) taken (taken_by edit tree.next_id (listed 1 tree.root) ∙ free)

-- ---- what keeps the limits

pub record Keeps (elements bytes next : ℕ) : Type 0 where
  pub few : elements ≤ most_elements
  pub small : bytes ≤ most_bytes
  pub left : next ≤ 2 ^ 32

pub keeps : (deep : Bool) (elements bytes next : ℕ) → broken_limit deep elements bytes next ≡ None → Keeps elements bytes next
keeps deep elements bytes next h =
    let rows = all_fail (limits deep elements bytes next) h in
    let both = or_parts (nat_lt most_elements elements) (nat_lt most_bytes bytes) rows.1.0 in
    record {
      few = ltb-false most_elements elements both.0;
      small = ltb-false most_bytes bytes both.1;
      left = ltb-false (2 ^ 32) next rows.1.1.0;
    }
