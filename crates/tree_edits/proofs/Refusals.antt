-- An edit that isn't refused passes each test.
use Rattle.std.proofs.Common.{◌≡◌, sym, refl, ℕ, ◌^◌, List, [], ◌∷◌, Bool, true, false, not, cond, nat_lt, Option, Some, None, is_some, true≢false}
use Rattle.std.proofs.lemmas.Bool.{not-false}
use Rattle.std.proofs.lemmas.Option.{none-some}
use Rattle.std.specs.List.{AllByRecursion, find}
use Rattle.std.specs.Option.{option_map}
use Rattle.math_tree.specs.Trees.{TreeValue, Listed, listed}
use Rattle.tree_edits.specs.Edits.{edited, is_not_text, is_in_text, is_past, is_fixed, is_misnamed, is_long, is_deep, is_large, is_taken, target, at_target, refusals, first_refusal, refusal_of}
use Rattle.tree_edits.specs.Reasons.{first_reason}
use Rattle.tree_edits.specs.declared.edit.Edit.{Edit}
use Rattle.tree_edits.specs.declared.edit.EditRefusal.{EditRefusal}

-- ---- rows of which none holds

abbrev pub AllFail : List (Bool × EditRefusal) → Type 0
AllFail rows = AllByRecursion (λ row. row.0 ≡ false) rows

row_fails : (test : Bool) (row : Bool × EditRefusal) (found : Option (Bool × EditRefusal))
    → option_map (λ row. row.1) (cond test (Some row) found) ≡ None → (test ≡ false) × (option_map (λ row. row.1) found ≡ None)
row_fails true row found h = absurd (none-some row.1 (sym h))
row_fails false row found h = (refl, h)

pub all_fail : (rows : List (Bool × EditRefusal)) → first_reason rows ≡ None → AllFail rows
all_fail [] h = tt
all_fail (row ∷ rows) h =
    let parts = row_fails row.0 row (find (λ (row : Bool × EditRefusal). row.0) rows) h in
    (parts.0, all_fail rows parts.1)

-- ---- an edit that isn't refused

pub record IsAccepted (before after : List Listed) (next : ℕ) (edit : Edit) : Type 0 where
  pub known : is_some (target edit before) ≡ true
  pub on_text : at_target (is_not_text edit) (target edit before) ≡ false
  pub in_other : at_target (is_in_text edit) (target edit before) ≡ false
  pub within : at_target (is_past edit) (target edit before) ≡ false
  pub movable : at_target (is_fixed edit) (target edit before) ≡ false
  pub named : is_misnamed edit ≡ false
  pub short : is_long edit ≡ false
  pub shallow : is_deep after ≡ false
  pub small : is_large after ≡ false
  pub left : nat_lt (2 ^ 32) next ≡ false
  pub free : is_taken edit next before ≡ false

pub passed : (before after : List Listed) (next : ℕ) (edit : Edit) → first_refusal before after next edit ≡ None → IsAccepted before after next edit
passed before after next edit h =
    let rows = all_fail (refusals before after next edit) h in
    record {
      known = not-false (is_some (target edit before)) rows.0;
      on_text = rows.1.0;
      in_other = rows.1.1.0;
      within = rows.1.1.1.0;
      movable = rows.1.1.1.1.0;
      named = rows.1.1.1.1.1.0;
      short = rows.1.1.1.1.1.1.0;
      shallow = rows.1.1.1.1.1.1.1.0;
      small = rows.1.1.1.1.1.1.1.1.0;
      left = rows.1.1.1.1.1.1.1.1.1.0;
      free = rows.1.1.1.1.1.1.1.1.1.1.0;
    }

-- rows of which none holds give no reason
row_none : (test : Bool) (row : Bool × EditRefusal) (found : Option (Bool × EditRefusal)) → test ≡ false
    → option_map (λ row. row.1) found ≡ None → option_map (λ row. row.1) (cond test (Some row) found) ≡ None
row_none true row found h rest = absurd (true≢false h)
row_none false row found h rest = rest

pub none_holds : (rows : List (Bool × EditRefusal)) → AllFail rows → first_reason rows ≡ None
none_holds [] h = refl
none_holds (row ∷ rows) h = row_none row.0 row (find (λ (row : Bool × EditRefusal). row.0) rows) h.0 (none_holds rows h.1)

is_known : (found : Option Listed) → is_some found ≡ true → not (is_some found) ≡ false
is_known None h = absurd (true≢false (sym h))
is_known (Some e) h = refl

pub passes : (before after : List Listed) (next : ℕ) (edit : Edit) → IsAccepted before after next edit → first_refusal before after next edit ≡ None
passes before after next edit is =
    none_holds (refusals before after next edit)
    (is_known (target edit before) is.known, (is.on_text, (is.in_other, (is.within, (is.movable, (is.named, (is.short, (is.shallow, (is.small, (is.left, (is.free, tt)))))))))))

abbrev pub AcceptedBy : TreeValue → Edit → Type 0
AcceptedBy tree edit = IsAccepted (listed 1 tree.root) (listed 1 (edited tree edit).root) (edited tree edit).next_id edit

pub accepted : (tree : TreeValue) (edit : Edit) → refusal_of tree edit ≡ None → AcceptedBy tree edit
unfolding refusal_of
accepted tree edit h = passed (listed 1 tree.root) (listed 1 (edited tree edit).root) (edited tree edit).next_id edit h

pub accepts : (tree : TreeValue) (edit : Edit) → AcceptedBy tree edit → refusal_of tree edit ≡ None
unfolding refusal_of
accepts tree edit is = passes (listed 1 tree.root) (listed 1 (edited tree edit).root) (edited tree edit).next_id edit is
