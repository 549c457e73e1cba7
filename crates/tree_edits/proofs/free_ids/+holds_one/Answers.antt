use Rattle.std.proofs.Common.{◌∙◌, rules, sym}
use Rattle.tree_edits.proofs.Gathered.{held_below, held_here, none_held}
use Rattle.tree_edits.proofs.Paths.{from_place}
use Rattle.tree_edits.specs.FreeIds.{is_among}
use Rattle.tree_edits.specs.Paths.{children_of}
use Rattle.tree_edits.proofs.free_ids.+holds_one.Goals as goal

pub returns-then-contains : goal.returns-then-contains
returns-then-contains t c = sym (held_here (is_among c.args.ids.now.keys) c.args.element.now (sym c.contains.ensures ∙ c.if-contains.true))

pub returns-then-holds_one : goal.returns-then-holds_one
returns-then-holds_one t c =
    let place = from_place (children_of c.args.element.now) c.loop-child.child-index c.child-item.result (search rules) (search rules) in
    sym (held_below (is_among c.args.ids.now.keys) c.args.element.now c.loop-child.child-index c.child-item.result place
    (sym c.holds_one.ensures ∙ c.if-holds_one.true))

pub returns : goal.returns
returns t c =
    sym (none_held (is_among c.args.ids.now.keys) c.args.element.now c.loop-child.child-index (search rules)
    (sym c.contains.ensures ∙ c.if-contains.false) c.loop-child.invariant)
