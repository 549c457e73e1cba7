use Rattle.std.proofs.Common.{◌≡◌, ◌∙◌, refl, Some, option_map}
use Rattle.math_tree.specs.Trees.{TreeValue}
use Rattle.tree_edits.proofs.StandIn.{stands_in}
use Rattle.tree_edits.proofs.ThereAndBack.{taken_back, undoes}
use Rattle.tree_edits.specs.Paths.{node_at, replaced_by}
use Rattle.tree_edits.specs.Planning.{planned}
use Rattle.tree_edits.proofs.applying.carry_out_plan.Goals as goal

pub exchange-root-requires : goal.exchange-root-requires
exchange-root-requires c = rw c.into_root.ensures stands_in

pub carry_out_at-replaced-requires : goal.carry_out_at-replaced-requires
carry_out_at-replaced-requires c = rw (c.as_slice.ensures, c.exchange-root.ensures.former) c.requires.ready.fits

pub exchange-stand_in-requires : goal.exchange-stand_in-requires
exchange-stand_in-requires c =
    rw (c.carry_out_at-replaced.ensures.element, c.as_slice.ensures, c.exchange-root.ensures.former) c.requires.totalled

pub of-requires : goal.of-requires
of-requires c = rw (c.exchange-stand_in.ensures.former, c.exchange-root.ensures.present) c.into_root.ensures

pub returns-clause-tree : goal.returns-clause-tree
returns-clause-tree c =
    c.exchange-stand_in.ensures.present ∙ rw (c.carry_out_at-replaced.ensures.element, c.as_slice.ensures, c.exchange-root.ensures.former) refl

pub returns-clause-taken : goal.returns-clause-taken
returns-clause-taken c =
    let tree : TreeValue = c.args.tree.now in
    let plan = c.args.plan in
    let made : c.exchange-stand_in.new.self ≡ planned plan tree =
    c.exchange-stand_in.ensures.present ∙ rw (c.carry_out_at-replaced.ensures.element, c.as_slice.ensures, c.exchange-root.ensures.former) refl in
    let was : option_map (replaced_by plan.step.change) (node_at plan.step.path tree.root) ≡ Some c.carry_out_at-replaced.result =
    rw (← c.as_slice.ensures, ← c.exchange-root.ensures.former) c.carry_out_at-replaced.ensures.replaced in
    rw made (undoes tree plan c.carry_out_at-replaced.result c.completed.result _ c.requires c.next_id.ensures.whole was c.completed.ensures refl refl
    c.next_id.ensures.exact c.elements.ensures c.bytes.ensures)

pub returns-clause-back : goal.returns-clause-back
returns-clause-back c =
    let tree : TreeValue = c.args.tree.now in
    let plan = c.args.plan in
    let was : option_map (replaced_by plan.step.change) (node_at plan.step.path tree.root) ≡ Some c.carry_out_at-replaced.result =
    rw (← c.as_slice.ensures, ← c.exchange-root.ensures.former) c.carry_out_at-replaced.ensures.replaced in
    λ edit gives. taken_back tree plan c.carry_out_at-replaced.result c.completed.result was c.completed.ensures edit gives
