use Rattle.std.proofs.Common.{◌+◌, arith, refl}
use Rattle.std.proofs.lemmas.Grind.{common_steps}
use Rattle.tree_edits.proofs.Noted.{fewer, noted_more}
use Rattle.tree_edits.proofs.parents.Parents.+note_below.Goals as goal

pub loop-child-init : goal.loop-child-init
loop-child-init t c = record { few = omega arith; most = refl }

pub returns-clause-few : goal.returns-clause-few
returns-clause-few t c = fewer _ _ c.as_slice-child-items.ensures c.loop-child.child-index _ _ c.loop-child.invariant.few

pub returns-in_err-insert-clause-few : goal.returns-in_err-insert-clause-few
returns-in_err-insert-clause-few t c =
    let same = (c.in_err-insert.ensures {u = tt}).err in
    fewer _ _ c.as_slice-child-items.ensures c.loop-child.child-index _ _ (grind (arith, common_steps, same, c.loop-child.invariant.few))

pub returns-in_err-note_below-clause-few : goal.returns-in_err-note_below-clause-few
returns-in_err-note_below-clause-few t c =
    let noted = (c.in_ok-insert.ensures {u = tt}).len in
    let more = noted_more _ _ _ c.loop-child-test.true c.child-item.is c.args.self.now.count _ _ _ c.loop-child.invariant.few (grind (arith, common_steps, noted)) (c.in_err-note_below.ensures {u = tt}).few in
    fewer _ _ c.as_slice-child-items.ensures (c.loop-child.child-index + 1) _ _ more
