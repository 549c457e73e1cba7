use Rattle.std.proofs.Common.{◌∙◌}
use Rattle.tree_edits.proofs.Allowed.{as_is}
use Rattle.tree_edits.proofs.EditedTotals
use Rattle.tree_edits.proofs.totals.Totals.of_edited.Goals as goal

pub with_bytes-requires-clause-fits : goal.with_bytes-requires-clause-fits
with_bytes-requires-clause-fits c =
    let allows = as_is c.args.tree.now c.args.path.now c.args.element.now c.in-Text.is c.requires in
    let counts = EditedTotals.text_totals c.args.tree.now c.args.path.now c.args.element.now c.in-Text.field-0 c.in-Text.text allows in
    rw (c.of_tree-before.ensures, c.bytes_of.ensures) counts.fits

pub with_bytes-requires-clause-within : goal.with_bytes-requires-clause-within
with_bytes-requires-clause-within c =
    let allows = as_is c.args.tree.now c.args.path.now c.args.element.now c.in-Text.is c.requires in
    let counts = EditedTotals.text_totals c.args.tree.now c.args.path.now c.args.element.now c.in-Text.field-0 c.in-Text.text allows in
    rw (c.of_tree-before.ensures, c.bytes_of.ensures, c.bytes_of-in-Text.ensures) counts.within

pub returns-in-Text : goal.returns-in-Text
returns-in-Text c =
    let allows = as_is c.args.tree.now c.args.path.now c.args.element.now c.in-Text.is c.requires in
    let counts = EditedTotals.text_totals c.args.tree.now c.args.path.now c.args.element.now c.in-Text.field-0 c.in-Text.text allows in
    c.with_bytes.ensures ∙ rw (c.of_tree-before.ensures, c.bytes_of.ensures, c.bytes_of-in-Text.ensures, c.in-Text.is) counts.is

pub without-requires-clause-elements : goal.without-requires-clause-elements
without-requires-clause-elements c =
    let allows = as_is c.args.tree.now c.args.path.now c.args.element.now c.in-Remove.is c.requires in
    let leaves = EditedTotals.remove_totals c.args.tree.now c.args.path.now c.args.element.now c.in-Remove.field-0 allows in
    rw c.of_tree-before.ensures leaves.elements

pub without-requires-clause-bytes : goal.without-requires-clause-bytes
without-requires-clause-bytes c =
    let allows = as_is c.args.tree.now c.args.path.now c.args.element.now c.in-Remove.is c.requires in
    let leaves = EditedTotals.remove_totals c.args.tree.now c.args.path.now c.args.element.now c.in-Remove.field-0 allows in
    rw c.of_tree-before.ensures leaves.bytes

pub returns-in-Remove : goal.returns-in-Remove
returns-in-Remove c =
    let allows = as_is c.args.tree.now c.args.path.now c.args.element.now c.in-Remove.is c.requires in
    let leaves = EditedTotals.remove_totals c.args.tree.now c.args.path.now c.args.element.now c.in-Remove.field-0 allows in
    c.without.ensures ∙ rw (c.of_tree-before.ensures, c.in-Remove.is) leaves.is

pub returns-in-Insert : goal.returns-in-Insert
returns-in-Insert c =
    let allows = as_is c.args.tree.now c.args.path.now c.args.element.now c.in-Insert.is c.requires in
    rw c.in-Insert.is (EditedTotals.insert_totals c.args.tree.now c.args.path.now c.args.element.now c.in-Insert.field-0 c.in-Insert.field-1 c.in-Insert.new
    c.level.result c.of_tree-before.result c.with.result allows c.level.ensures c.of_tree-before.ensures c.with.ensures)

pub without-requires-in-Replace-clause-elements : goal.without-requires-in-Replace-clause-elements
without-requires-in-Replace-clause-elements c =
    let allows = as_is c.args.tree.now c.args.path.now c.args.element.now c.in-Replace.is c.requires in
    let leaves = EditedTotals.replace_leaves c.args.tree.now c.args.path.now c.args.element.now c.in-Replace.field-0 c.in-Replace.new allows in
    rw c.of_tree-before.ensures leaves.elements

pub without-requires-in-Replace-clause-bytes : goal.without-requires-in-Replace-clause-bytes
without-requires-in-Replace-clause-bytes c =
    let allows = as_is c.args.tree.now c.args.path.now c.args.element.now c.in-Replace.is c.requires in
    let leaves = EditedTotals.replace_leaves c.args.tree.now c.args.path.now c.args.element.now c.in-Replace.field-0 c.in-Replace.new allows in
    rw c.of_tree-before.ensures leaves.bytes

pub returns-in-Replace : goal.returns-in-Replace
returns-in-Replace c =
    let allows = as_is c.args.tree.now c.args.path.now c.args.element.now c.in-Replace.is c.requires in
    rw c.in-Replace.is (EditedTotals.replace_totals c.args.tree.now c.args.path.now c.args.element.now c.in-Replace.field-0 c.in-Replace.new c.level-in-Replace.result
    c.of_tree-before.result c.without-in-Replace.result c.with-in-Replace.result allows c.level-in-Replace.ensures c.of_tree-before.ensures
    c.without-in-Replace.ensures c.with-in-Replace.ensures)

pub with_bytes-requires-in-Attr-clause-fits : goal.with_bytes-requires-in-Attr-clause-fits
with_bytes-requires-in-Attr-clause-fits c =
    let allows = as_is c.args.tree.now c.args.path.now c.args.element.now c.in-Attr.is c.requires in
    let counts = EditedTotals.attribute_totals c.args.tree.now c.args.path.now c.args.element.now c.in-Attr.field-0 c.in-Attr.name c.in-Attr.value allows c.former_value-former.ensures.order in
    rw (c.of_tree-before.ensures, c.attribute_bytes.ensures, c.lent.ensures) counts.fits

pub with_bytes-requires-in-Attr-clause-within : goal.with_bytes-requires-in-Attr-clause-within
with_bytes-requires-in-Attr-clause-within c =
    let allows = as_is c.args.tree.now c.args.path.now c.args.element.now c.in-Attr.is c.requires in
    let counts = EditedTotals.attribute_totals c.args.tree.now c.args.path.now c.args.element.now c.in-Attr.field-0 c.in-Attr.name c.in-Attr.value allows c.former_value-former.ensures.order in
    rw (c.of_tree-before.ensures, c.attribute_bytes.ensures, c.lent.ensures, c.attribute_bytes-in-Attr.ensures, c.former_value-former.ensures.value) counts.within

pub returns-in-Attr : goal.returns-in-Attr
returns-in-Attr c =
    let allows = as_is c.args.tree.now c.args.path.now c.args.element.now c.in-Attr.is c.requires in
    let counts = EditedTotals.attribute_totals c.args.tree.now c.args.path.now c.args.element.now c.in-Attr.field-0 c.in-Attr.name c.in-Attr.value allows c.former_value-former.ensures.order in
    c.with_bytes-in-Attr.ensures
    ∙ rw (c.of_tree-before.ensures, c.attribute_bytes.ensures, c.lent.ensures, c.attribute_bytes-in-Attr.ensures, c.former_value-former.ensures.value, c.in-Attr.is) counts.is

pub returns-in-Graft : goal.returns-in-Graft
returns-in-Graft c =
    let allows = as_is c.args.tree.now c.args.path.now c.args.element.now c.in-Graft.is c.requires in
    rw c.in-Graft.is (EditedTotals.graft_totals c.args.tree.now c.args.path.now c.args.element.now c.in-Graft.field-0 c.in-Graft.field-1 c.in-Graft.new
    c.level-in-Graft.result c.of_tree-before.result c.with_own.result allows c.level-in-Graft.ensures c.of_tree-before.ensures c.with_own.ensures)

pub without-requires-in-Swap-clause-elements : goal.without-requires-in-Swap-clause-elements
without-requires-in-Swap-clause-elements c =
    let allows = as_is c.args.tree.now c.args.path.now c.args.element.now c.in-Swap.is c.requires in
    let leaves = EditedTotals.swap_leaves c.args.tree.now c.args.path.now c.args.element.now c.in-Swap.field-0 c.in-Swap.new allows in
    rw c.of_tree-before.ensures leaves.elements

pub without-requires-in-Swap-clause-bytes : goal.without-requires-in-Swap-clause-bytes
without-requires-in-Swap-clause-bytes c =
    let allows = as_is c.args.tree.now c.args.path.now c.args.element.now c.in-Swap.is c.requires in
    let leaves = EditedTotals.swap_leaves c.args.tree.now c.args.path.now c.args.element.now c.in-Swap.field-0 c.in-Swap.new allows in
    rw c.of_tree-before.ensures leaves.bytes

pub returns-in-Swap : goal.returns-in-Swap
returns-in-Swap c =
    let allows = as_is c.args.tree.now c.args.path.now c.args.element.now c.in-Swap.is c.requires in
    rw c.in-Swap.is (EditedTotals.swap_totals c.args.tree.now c.args.path.now c.args.element.now c.in-Swap.field-0 c.in-Swap.new c.level-in-Swap.result
    c.of_tree-before.result c.without-in-Swap.result c.with_own-in-Swap.result allows c.level-in-Swap.ensures c.of_tree-before.ensures
    c.without-in-Swap.ensures c.with_own-in-Swap.ensures)
