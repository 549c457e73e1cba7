use Rattle.std.proofs.Common.{rules}
use Rattle.tree_edits.proofs.FreeIds.{found_again, still_free}
use Rattle.tree_edits.proofs.free_ids.set_of_free.Goals as goal

-- it stands twice
pub returns-then-not-branch : goal.returns-then-not-branch
returns-then-not-branch c =
    found_again c.args.ids.now c.loop-id.id-index c.args.next _ c.loop-id.own.keys c.in_ok-insert.field-0 c.loop-id-test.true (search rules)
    c.loop-id.invariant.1 c.in_ok-insert.ensures.added (search rules)

pub loop-id-preserved : goal.loop-id-preserved
loop-id-preserved c =
    still_free c.args.ids.now c.loop-id.id-index c.args.next _ c.loop-id.own.keys c.insert.new.self.keys c.in_ok-insert.field-0 c.loop-id-test.true (search rules)
    c.loop-id.invariant.0 c.loop-id.invariant.1 (search rules) c.in_ok-insert.ensures.added (search rules) c.in_ok-insert.ensures.updates.0
