use Rattle.std.proofs.Common.{◌<◌, ◌≤◌, ◌∙◌, sym, ap, subst, arith, length, map}
use Rattle.std.proofs.lemmas.List.{take_all}
use Rattle.math_tree.specs.declared.node.Node.TheViews.{size-Node}
use Rattle.kept_results.proofs.Agreement.{agrees_child}
use Rattle.kept_results.proofs.Backed.{are_backed, backed_child}
use Rattle.kept_laid.specs.Laid.{AreKids, laid_kid}
use Rattle.kept_laid.proofs.BoxReading.{smaller}
use Rattle.kept_laid.proofs.Kids.{few_in, kid_at, laid_more}
use Rattle.kept_laid.proofs.Reading.{laid_read}
use Rattle.kept_laid.proofs.laid.+read.Goals as goal

-- ---- the children, one after another

pub laid_kids-kept_kids-requires-clause-agrees : goal.laid_kids-kept_kids-requires-clause-agrees
laid_kids-kept_kids-requires-clause-agrees t c = record { metrics = c.requires.backed.metrics; agrees = c.requires.backed.agrees }

pub laid_kids-laid_of-requires : goal.laid_kids-laid_of-requires
laid_kids-laid_of-requires t c =
    let m = c.requires.backed.metrics in
    let node = c.args.node.now in
    let memo = c.args.memo.now in
    let items = c.as_slice-kid-items.result.now in
    let kid = c.kid-item.result in
    let all = subst (AreKids node memo) (sym c.as_slice-kid-items.ensures.value) (c.in_ok-kids.ensures {u = tt}).kept in
    let is = kid_at node memo items c.loop-kid.kid-index kid all c.loop-kid-test.true c.kid-item.is in
    let falls : size-Node kid.node.now < size-Node node = smaller node kid.node.now is.place is.node_at in
    let few = few_in node kid.node.now is.place is.node_at in (
      omega arith,
      (
        record {
          metrics = m;
          agrees = agrees_child m node memo is.place kid.node.now kid.memo.now c.requires.backed.agrees is.node_at is.memo_at;
          backed = backed_child m c.args.store.now.runs node memo is.place kid.node.now kid.memo.now c.requires.backed.backed is.node_at is.memo_at;
        },
        (omega (arith, few, c.requires.few), is.kept),
      ),
    )

pub laid_kids-loop-kid-preserved : goal.laid_kids-loop-kid-preserved
laid_kids-loop-kid-preserved t c = λ m agrees backed.
    let node = c.args.node.now in
    let memo = c.args.memo.now in
    let items = c.as_slice-kid-items.result.now in
    let kid = c.kid-item.result in
    let all = subst (AreKids node memo) (sym c.as_slice-kid-items.ensures.value) (c.in_ok-kids.ensures {u = tt}).kept in
    let is = kid_at node memo items c.loop-kid.kid-index kid all c.loop-kid-test.true c.kid-item.is in
    let made = (c.in_ok-laid_of.ensures {u = tt}) m (agrees_child m node memo is.place kid.node.now kid.memo.now agrees is.node_at is.memo_at)
    (backed_child m c.args.store.now.runs node memo is.place kid.node.now kid.memo.now backed is.node_at is.memo_at) in
    laid_more m items c.loop-kid.kid-index kid c.loop-kid.all _ c.in_ok-laid_of.field-0 c.loop-kid-test.true c.kid-item.is (c.loop-kid.invariant m agrees backed) made (c.in_ok-push.ensures {u = tt}).ok

pub laid_kids-returns : goal.laid_kids-returns
laid_kids-returns t c = λ m agrees backed.
    let items = c.as_slice-kid-items.result.now in
    let all : length items ≤ c.loop-kid.kid-index = omega arith in
    c.loop-kid.invariant m agrees backed ∙ ap (map (laid_kid m)) (take_all c.loop-kid.kid-index items all ∙ c.as_slice-kid-items.ensures.value)
    ∙ (c.in_ok-kids.ensures {u = tt}).laid m agrees

-- ---- an element

pub laid_of-outcome-requires : goal.laid_of-outcome-requires
laid_of-outcome-requires t c =
    let all = are_backed c.requires.backed.metrics c.args.store.now.runs c.args.node.now c.args.memo.now c.requires.backed.backed in
    all c.kept_entry-entry.result.now c.kept_entry-entry.ensures.has

pub laid_of-returns : goal.laid_of-returns
laid_of-returns t c = λ m agrees backed.
    let found = c.kept_entry-entry.ensures in
    laid_read m c.args.node.now c.args.memo.now c.kept_entry-entry.result.now agrees found.has c.args.store.now.runs backed c.args.context.now found.in_context
    c.in_ok-copy.field-0 c.in_ok-outcome.field-0 c.in_ok-laid_kids.field-0 (c.in_ok-copy.ensures {u = tt}) (c.in_ok-outcome.ensures {u = tt})
    ((c.in_ok-laid_kids.ensures {u = tt}) m agrees backed)
