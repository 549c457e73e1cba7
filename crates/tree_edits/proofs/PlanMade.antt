-- What is found by looks at a tree is the plan of an edit.
use Rattle.std.proofs.Common.{◌≡◌, ◌∙◌, ap, ℕ, List, false, None, arith}
use Rattle.math_tree.specs.Trees.{TreeValue, listed}
use Rattle.math_tree.specs.declared.node.Node.{Node}
use Rattle.tree_edits.proofs.FirstReason.{taken_last, keeps}
use Rattle.tree_edits.proofs.StaysWhole.{stays_whole}
use Rattle.tree_edits.specs.Applying.{IsProperEdit}
use Rattle.tree_edits.specs.Edits.{edited, is_taken}
use Rattle.tree_edits.specs.Planning.{Allows, GivesBack, IsPlan, Makes, planned}
use Rattle.tree_edits.specs.Reasons.{broken_limit}
use Rattle.tree_edits.specs.Sizes.{totals_of}
use Rattle.tree_edits.specs.declared.edit.Edit.{Edit}
use Rattle.tree_edits.specs.declared.planning.EditPlan.{EditPlan}
use Rattle.tree_edits.specs.declared.totals.Totals.{Totals}

same_tree : (tree other : TreeValue) → tree.root ≡ other.root → tree.next_id ≡ other.next_id → tree ≡ other
same_tree tree other root next =
    ap (λ n. record tree { root = n }) root ∙ ap (λ (n : ℕ). record { root = other.root; next_id = n }) next

pub is_plan : (tree : TreeValue) (edit : Edit) (path : List ℕ) (element : Node) (totals : Totals) (plan : EditPlan) → IsProperEdit edit
    → Allows edit tree path element → totals ≡ totals_of (edited tree edit)
    → broken_limit totals.deep totals.size.elements totals.size.bytes totals.next_id ≡ None
    → is_taken edit tree.next_id (listed 1 tree.root) ≡ false
    → Makes tree.root (edited tree edit).root plan.step → GivesBack tree edit plan.step
    → plan.next_id ≡ totals.next_id → plan.elements ≡ totals.size.elements → plan.bytes ≡ totals.size.bytes → IsPlan tree edit plan
is_plan tree edit path element totals plan proper allows is within free step back next elements bytes =
    let after = edited tree edit in
    let kept = keeps totals.deep totals.size.elements totals.size.bytes totals.next_id within in
    let none = taken_last tree edit path element totals false allows is within free in
    let elements_is = ap (λ (t : Totals). t.size.elements) is in
    let bytes_is = ap (λ (t : Totals). t.size.bytes) is in
    let next_is = ap (λ (t : Totals). t.next_id) is in
    let same = same_tree (planned plan tree) after step.makes (omega (arith, next, next_is, kept.left)) in
    record {
      accepted = none;
      can = record {
        ready = step.ready;
        totalled = rw same (record {
          whole = stays_whole tree edit allows.whole proper none;
          elements_are = omega (arith, elements, elements_is, kept.few);
          bytes_are = omega (arith, bytes, bytes_is, kept.small);
        });
      };
      makes = same;
      back = back;
    }
