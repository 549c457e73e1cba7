use Rattle.std.proofs.Common.{arith}
use Rattle.kept_edits.proofs.EditWays.{attr_way, graft_way, insert_way, remove_way, removed_below, replace_way, replaced_below, swap_way, swapped_below, text_way}
use Rattle.kept_edits.proofs.way.end_of.Goals as goal

pub returns-in-Text : goal.returns-in-Text
returns-in-Text c = λ tree whole free leads. text_way tree c.args.edit.now _ _ c.args.path c.in-Text.is whole free leads

pub returns-in-Attr : goal.returns-in-Attr
returns-in-Attr c = λ tree whole free leads. attr_way tree c.args.edit.now _ _ _ c.args.path c.in-Attr.is whole free leads

pub returns-in-Insert : goal.returns-in-Insert
returns-in-Insert c = λ tree whole free leads. insert_way tree c.args.edit.now _ _ _ c.args.path c.in-Insert.is whole free leads

pub returns-then-level-eq1 : goal.returns-then-level-eq1
returns-then-level-eq1 c = λ tree whole free leads.
    let one = c.if-level-eq1.true in
    let level = c.level.ensures in
    removed_below tree c.args.edit.now _ c.args.path c.in-Remove.is whole free leads (omega (arith, one, level))

pub returns-then-level-eq1-2 : goal.returns-then-level-eq1-2
returns-then-level-eq1-2 c = λ tree whole free leads.
    let one = c.if-level-eq1-2.true in
    let level = c.level-in-Replace.ensures in
    replaced_below tree c.args.edit.now _ _ c.args.path c.in-Replace.is whole free leads (omega (arith, one, level))

pub returns-else-level-eq1 : goal.returns-else-level-eq1
returns-else-level-eq1 c = λ tree whole free leads.
    remove_way tree c.args.edit.now _ c.args.path c.split-path.result.0 c.split-path.result.1 c.in-Remove.is whole free leads c.split-path.ensures

pub returns-else-level-eq1-2 : goal.returns-else-level-eq1-2
returns-else-level-eq1-2 c = λ tree whole free leads.
    replace_way tree c.args.edit.now _ _ c.args.path c.split-path-in-Replace.result.0 c.split-path-in-Replace.result.1 c.in-Replace.is whole free leads c.split-path-in-Replace.ensures

pub returns-in-Graft : goal.returns-in-Graft
returns-in-Graft c = λ tree whole free leads. graft_way tree c.args.edit.now _ _ _ c.args.path c.in-Graft.is whole free leads

pub returns-then-level-eq1-3 : goal.returns-then-level-eq1-3
returns-then-level-eq1-3 c = λ tree whole free leads.
    let one = c.if-level-eq1-3.true in
    let level = c.level-in-Swap.ensures in
    swapped_below tree c.args.edit.now _ _ c.args.path c.in-Swap.is whole free leads (omega (arith, one, level))

pub returns-else-level-eq1-3 : goal.returns-else-level-eq1-3
returns-else-level-eq1-3 c = λ tree whole free leads.
    swap_way tree c.args.edit.now _ _ c.args.path c.split-path-in-Swap.result.0 c.split-path-in-Swap.result.1 c.in-Swap.is whole free leads c.split-path-in-Swap.ensures
