use Rattle.std.proofs.Common.{rules, ◌∙◌, ◌<◌, length}
use Rattle.std.specs.BTreeSet.{contains}
use Rattle.std.specs.Ordering.{nat_cmp}
use Rattle.hit_test.proofs.AreaLists.{among-more}
use Rattle.hit_test.proofs.areas.set_of.Goals as goal

pub loop-id-preserved : goal.loop-id-preserved
loop-id-preserved c = λ id.
    let ids = c.args.ids.now in
    let i = c.loop-id.id-index in
    let within : i < length ids = search rules in
    (c.in_ok-insert.ensures {u = tt}).updates.0 id
    ∙ among-more ids i (record { 0 = 0 }) id (contains nat_cmp c.loop-id.set id) within (c.loop-id.invariant id)
