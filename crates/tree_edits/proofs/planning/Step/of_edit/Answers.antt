use Rattle.tree_edits.proofs.Allowed.{as_is}
use Rattle.tree_edits.proofs.OneStep
use Rattle.tree_edits.specs.Edits.{edited}
use Rattle.tree_edits.specs.declared.change.Change.TheVariants.{SetText, Children}
use Rattle.splices.specs.declared.splice.Splice.TheVariants.{Take, Swap as Exchange}
use Rattle.tree_edits.proofs.planning.Step.of_edit.Goals as goal

pub returns-in-Text-clause-makes : goal.returns-in-Text-clause-makes
returns-in-Text-clause-makes c =
    let tree = c.args.tree.now in
    let element = c.requires.allowed.element in
    let allows = as_is tree c.args.path element c.in-Text.is c.requires.allowed.allows in
    rw c.in-Text.is (OneStep.made_by tree.root (edited tree _).root c.args.path (SetText c.in-Text.text) c.make.result
    (OneStep.text_made tree c.args.path element c.in-Text.field-0 c.in-Text.text allows) c.make.ensures)

pub returns-in_ok-change-in-Attr-clause-makes : goal.returns-in_ok-change-in-Attr-clause-makes
returns-in_ok-change-in-Attr-clause-makes c =
    let tree = c.args.tree.now in
    let element = c.requires.allowed.element in
    let change = c.in_ok-change-in-Attr.change in
    let allows = as_is tree c.args.path element c.in-Attr.is c.requires.allowed.allows in
    rw c.in-Attr.is (OneStep.made_by tree.root (edited tree _).root c.args.path change c.make-in-Attr.result
    (OneStep.value_made tree c.args.path element c.in-Attr.field-0 c.in-Attr.name c.in-Attr.value c.element_at-element.result.now change allows
    c.in_ok-change-in-Attr.ensures) c.make-in-Attr.ensures)

pub returns-in_ok-change-in-Insert-clause-makes : goal.returns-in_ok-change-in-Insert-clause-makes
returns-in_ok-change-in-Insert-clause-makes c =
    let tree = c.args.tree.now in
    let element = c.requires.allowed.element in
    let change = c.in_ok-change-in-Insert.change in
    let allows = as_is tree c.args.path element c.in-Insert.is c.requires.allowed.allows in
    let child = rw c.next_id.ensures.exact at c.numbered-new.ensures in
    rw c.in-Insert.is (OneStep.made_by tree.root (edited tree _).root c.args.path change c.make-in-Insert.result
    (OneStep.child_made tree c.args.path element c.in-Insert.field-0 c.in-Insert.index c.in-Insert.new c.numbered-new.result
    c.element_at-element-in-Insert.result.now change allows child c.in_ok-change-in-Insert.ensures) c.make-in-Insert.ensures)

pub make-requires-in-Remove : goal.make-requires-in-Remove
make-requires-in-Remove c =
    let tree = c.args.tree.now in
    let element = c.requires.allowed.element in
    let allows = as_is tree c.args.path element c.in-Remove.is c.requires.allowed.allows in
    OneStep.taking_fits tree c.args.path element c.split-over.result.0 c.split-over.result.1 c.split-over.ensures c.in-Remove.field-0 allows

pub returns-in-Remove-clause-makes : goal.returns-in-Remove-clause-makes
returns-in-Remove-clause-makes c =
    let tree = c.args.tree.now in
    let element = c.requires.allowed.element in
    let allows = as_is tree c.args.path element c.in-Remove.is c.requires.allowed.allows in
    rw c.in-Remove.is (OneStep.made_by tree.root (edited tree _).root c.split-over.result.0 (Children (Take c.split-over.result.1)) c.make-in-Remove.result
    (OneStep.taking_made tree c.args.path element c.split-over.result.0 c.split-over.result.1 c.split-over.ensures c.in-Remove.field-0 allows)
    c.make-in-Remove.ensures)

pub make-requires-in-Replace : goal.make-requires-in-Replace
make-requires-in-Replace c =
    let tree = c.args.tree.now in
    let element = c.requires.allowed.element in
    let allows = as_is tree c.args.path element c.in-Replace.is c.requires.allowed.allows in
    OneStep.swapping_fits tree c.args.path element c.split-over-in-Replace.result.0 c.split-over-in-Replace.result.1 c.split-over-in-Replace.ensures
    c.in-Replace.field-0 c.in-Replace.new c.numbered-new-in-Replace.result allows

pub returns-in-Replace-clause-makes : goal.returns-in-Replace-clause-makes
returns-in-Replace-clause-makes c =
    let tree = c.args.tree.now in
    let element = c.requires.allowed.element in
    let child = c.numbered-new-in-Replace.result in
    let allows = as_is tree c.args.path element c.in-Replace.is c.requires.allowed.allows in
    let numbered = rw c.next_id-in-Replace.ensures.exact at c.numbered-new-in-Replace.ensures in
    rw c.in-Replace.is (OneStep.made_by tree.root (edited tree _).root c.split-over-in-Replace.result.0 (Children (Exchange c.split-over-in-Replace.result.1 child))
    c.make-in-Replace.result (OneStep.swapping_made tree c.args.path element c.split-over-in-Replace.result.0 c.split-over-in-Replace.result.1
    c.split-over-in-Replace.ensures c.in-Replace.field-0 c.in-Replace.new child allows numbered) c.make-in-Replace.ensures)

pub returns-in_ok-change-in-Graft-clause-makes : goal.returns-in_ok-change-in-Graft-clause-makes
returns-in_ok-change-in-Graft-clause-makes c =
    let tree = c.args.tree.now in
    let element = c.requires.allowed.element in
    let change = c.in_ok-change-in-Graft.change in
    let allows = as_is tree c.args.path element c.in-Graft.is c.requires.allowed.allows in
    rw c.in-Graft.is (OneStep.made_by tree.root (edited tree _).root c.args.path change c.make-in-Graft.result
    (OneStep.graft_made tree c.args.path element c.in-Graft.field-0 c.in-Graft.index c.in-Graft.new
    c.element_at-element-in-Graft.result.now change allows c.in_ok-change-in-Graft.ensures) c.make-in-Graft.ensures)

pub make-requires-in-Swap : goal.make-requires-in-Swap
make-requires-in-Swap c =
    let tree = c.args.tree.now in
    let element = c.requires.allowed.element in
    let allows = as_is tree c.args.path element c.in-Swap.is c.requires.allowed.allows in
    OneStep.trading_fits tree c.args.path element c.split-over-in-Swap.result.0 c.split-over-in-Swap.result.1 c.split-over-in-Swap.ensures
    c.in-Swap.field-0 c.in-Swap.new allows

pub returns-in-Swap-clause-makes : goal.returns-in-Swap-clause-makes
returns-in-Swap-clause-makes c =
    let tree = c.args.tree.now in
    let element = c.requires.allowed.element in
    let allows = as_is tree c.args.path element c.in-Swap.is c.requires.allowed.allows in
    rw c.in-Swap.is (OneStep.made_by tree.root (edited tree _).root c.split-over-in-Swap.result.0 (Children (Exchange c.split-over-in-Swap.result.1 c.in-Swap.new))
    c.make-in-Swap.result (OneStep.trading_made tree c.args.path element c.split-over-in-Swap.result.0 c.split-over-in-Swap.result.1
    c.split-over-in-Swap.ensures c.in-Swap.field-0 c.in-Swap.new allows) c.make-in-Swap.ensures)

-- ---- what takes it back

pub returns-in-Text-clause-back : goal.returns-in-Text-clause-back
returns-in-Text-clause-back c =
    let tree = c.args.tree.now in
    let element = c.requires.allowed.element in
    let allows = as_is tree c.args.path element c.in-Text.is c.requires.allowed.allows in
    rw c.in-Text.is (OneStep.gives_back tree _ c.args.path (SetText c.in-Text.text) element c.make.result allows.at
    (OneStep.text_given tree c.args.path element c.in-Text.field-0 c.in-Text.text allows) c.make.ensures)

pub returns-in_ok-change-in-Attr-clause-back : goal.returns-in_ok-change-in-Attr-clause-back
returns-in_ok-change-in-Attr-clause-back c =
    let tree = c.args.tree.now in
    let element = c.requires.allowed.element in
    let change = c.in_ok-change-in-Attr.change in
    let allows = as_is tree c.args.path element c.in-Attr.is c.requires.allowed.allows in
    rw c.in-Attr.is (OneStep.gives_back tree _ c.args.path change element c.make-in-Attr.result allows.at
    (OneStep.value_given tree c.args.path element c.in-Attr.field-0 c.in-Attr.name c.in-Attr.value c.element_at-element.result.now change allows
    c.in_ok-change-in-Attr.ensures) c.make-in-Attr.ensures)

pub returns-in_ok-change-in-Insert-clause-back : goal.returns-in_ok-change-in-Insert-clause-back
returns-in_ok-change-in-Insert-clause-back c =
    let tree = c.args.tree.now in
    let element = c.requires.allowed.element in
    let change = c.in_ok-change-in-Insert.change in
    let allows = as_is tree c.args.path element c.in-Insert.is c.requires.allowed.allows in
    let child = rw c.next_id.ensures.exact at c.numbered-new.ensures in
    rw c.in-Insert.is (OneStep.gives_back tree _ c.args.path change element c.make-in-Insert.result allows.at
    (OneStep.child_given tree c.args.path element c.in-Insert.field-0 c.in-Insert.index c.in-Insert.new c.numbered-new.result
    c.element_at-element-in-Insert.result.now change allows child c.in_ok-change-in-Insert.ensures) c.make-in-Insert.ensures)

pub returns-in_ok-change-in-Graft-clause-back : goal.returns-in_ok-change-in-Graft-clause-back
returns-in_ok-change-in-Graft-clause-back c =
    let tree = c.args.tree.now in
    let element = c.requires.allowed.element in
    let change = c.in_ok-change-in-Graft.change in
    let allows = as_is tree c.args.path element c.in-Graft.is c.requires.allowed.allows in
    rw c.in-Graft.is (OneStep.gives_back tree _ c.args.path change element c.make-in-Graft.result allows.at
    (OneStep.graft_given tree c.args.path element c.in-Graft.field-0 c.in-Graft.index c.in-Graft.new
    c.element_at-element-in-Graft.result.now change allows c.in_ok-change-in-Graft.ensures) c.make-in-Graft.ensures)

pub returns-in-Remove-clause-back : goal.returns-in-Remove-clause-back
returns-in-Remove-clause-back c =
    let tree = c.args.tree.now in
    let element = c.requires.allowed.element in
    let allows = as_is tree c.args.path element c.in-Remove.is c.requires.allowed.allows in
    rw c.in-Remove.is (OneStep.taking_given tree c.args.path element c.split-over.result.0 c.split-over.result.1 c.split-over.ensures c.in-Remove.field-0
    c.make-in-Remove.result allows c.make-in-Remove.ensures)

pub returns-in-Replace-clause-back : goal.returns-in-Replace-clause-back
returns-in-Replace-clause-back c =
    let tree = c.args.tree.now in
    let element = c.requires.allowed.element in
    let allows = as_is tree c.args.path element c.in-Replace.is c.requires.allowed.allows in
    let numbered = rw c.next_id-in-Replace.ensures.exact at c.numbered-new-in-Replace.ensures in
    rw c.in-Replace.is (OneStep.swapping_given tree c.args.path element c.split-over-in-Replace.result.0 c.split-over-in-Replace.result.1
    c.split-over-in-Replace.ensures c.in-Replace.field-0 c.in-Replace.new c.numbered-new-in-Replace.result c.make-in-Replace.result allows numbered c.make-in-Replace.ensures)

pub returns-in-Swap-clause-back : goal.returns-in-Swap-clause-back
returns-in-Swap-clause-back c =
    let tree = c.args.tree.now in
    let element = c.requires.allowed.element in
    let allows = as_is tree c.args.path element c.in-Swap.is c.requires.allowed.allows in
    rw c.in-Swap.is (OneStep.trading_given tree c.args.path element c.split-over-in-Swap.result.0 c.split-over-in-Swap.result.1
    c.split-over-in-Swap.ensures c.in-Swap.field-0 c.in-Swap.new c.make-in-Swap.result allows c.make-in-Swap.ensures)
