-- The trees that kept inverses lead to.
use Rattle.std.proofs.Common.{◌≡◌, ◌∙◌, sym, ap, refl, subst, ℕ, zero, suc, ◌^◌, ◌≤◌, List, [], ◌∷◌, take, Bool, true, None, arith}
use Rattle.math_tree.specs.Trees.{TreeValue, IsWhole}
use Rattle.math_tree.specs.declared.node.Node.{Node}
use Rattle.tree_edits.proofs.Inverses.{inverse_law}
use Rattle.tree_edits.proofs.Later.{later_law}
use Rattle.tree_edits.specs.Applying.{IsProperEdit}
use Rattle.tree_edits.specs.Edits.{added, edited, refusal_of}
use Rattle.tree_edits.specs.Inverses.{inverse, with_next}
use Rattle.tree_edits.specs.declared.edit.Edit.{Edit}
use Rattle.edit_ring.specs.Rings.{IsTrail, trail}

-- an edit that draws no ids leaves the next id
pub next_stays : (before : TreeValue) (edit : Edit) → added edit ≡ 0 → (edited before edit).next_id ≡ before.next_id
next_stays before edit settled = omega (arith, settled)

-- a trail is one under a later next id too, and gives the same elements
pub record IsSameLater (is_good : Node → Bool) (tree : TreeValue) (edits : List Edit) (next : ℕ) : Type 0 where
  pub leads : IsTrail is_good (with_next next tree) edits
  pub same : trail (with_next next tree) edits ≡ trail tree edits

pub later : (is_good : Node → Bool) (tree : TreeValue) (edits : List Edit) (next : ℕ) → IsTrail is_good tree edits
    → tree.next_id ≤ next → next ≤ 2 ^ 32 → IsSameLater is_good tree edits next
later is_good tree [] next leads le fits = record { leads = tt; same = refl }
later is_good tree (e ∷ es) next leads le fits =
    let first = later_law tree e next leads.0 le fits in
    let stays : (edited tree e).next_id ≡ tree.next_id = next_stays tree e leads.0.settled in
    let rest = later is_good (edited tree e) es next leads.2 (omega (arith, stays, le)) fits in
    record {
      leads = (
        first.0,
        ap (λ t. is_good t.root) first.1 ∙ leads.1,
        subst (λ (t : TreeValue). IsTrail is_good t es) (sym first.1) rest.leads,
      );
      same = ap (λ t. t.root ∷ trail t es) first.1 ∙ ap (◌∷◌ (edited tree e).root) rest.same;
    }

-- the first few edits of a trail
pub take_leads : (is_good : Node → Bool) (tree : TreeValue) (n : ℕ) (edits : List Edit) → IsTrail is_good tree edits
    → IsTrail is_good tree (take n edits)
take_leads is_good tree zero edits leads = tt
take_leads is_good tree (suc n) [] leads = tt
take_leads is_good tree (suc n) (e ∷ es) leads = (leads.0, leads.1, take_leads is_good (edited tree e) n es leads.2)

pub trail_take : (tree : TreeValue) (n : ℕ) (edits : List Edit) → trail tree (take n edits) ≡ take n (trail tree edits)
trail_take tree zero edits = refl
trail_take tree (suc n) [] = refl
trail_take tree (suc n) (e ∷ es) = ap (◌∷◌ (edited tree e).root) (trail_take (edited tree e) n es)

-- after an edit its inverse leads back to the tree before, and from there on as before
pub record LeadsBack (is_good : Node → Bool) (tree : TreeValue) (edit : Edit) (edits : List Edit) : Type 0 where
  pub leads : IsTrail is_good (edited tree edit) (inverse tree edit ∷ edits)
  pub grown : trail (edited tree edit) (inverse tree edit ∷ edits) ≡ tree.root ∷ trail tree edits

pub leads_back : (is_good : Node → Bool) (tree : TreeValue) (edit : Edit) (edits : List Edit) → IsWhole tree
    → is_good tree.root ≡ true → IsWhole (edited tree edit) → IsProperEdit edit → refusal_of tree edit ≡ None
    → IsTrail is_good tree edits → LeadsBack is_good tree edit edits
leads_back is_good tree edit edits whole good whole_after proper accepted leads =
    let undone = inverse_law tree edit whole proper accepted in
    let rest = later is_good tree edits (edited tree edit).next_id leads (omega arith) whole_after.next in
    record {
      leads = (
        undone.0,
        ap (λ t. is_good t.root) undone.1 ∙ good,
        subst (λ (t : TreeValue). IsTrail is_good t edits) (sym undone.1) rest.leads,
      );
      grown = ap (λ t. t.root ∷ trail t edits) undone.1 ∙ ap (◌∷◌ tree.root) rest.same;
    }
