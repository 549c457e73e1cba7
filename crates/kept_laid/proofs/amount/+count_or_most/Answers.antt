use Rattle.std.proofs.Common.{◌≡◌, ◌<◌, ◌∙◌, ap, arith, take}
use Rattle.std.proofs.lemmas.List.{take_all}
use Rattle.kept_results.specs.declared.memo.Memo.TheViews.{out-Memo, size-Memo}
use Rattle.kept_results.proofs.Counts.{count_out}
use Rattle.kept_laid.proofs.Totals.{smaller, total, total_more}
use Rattle.kept_laid.proofs.amount.+count_or_most.Goals as goal

pub count_or_most-requires : goal.count_or_most-requires
count_or_most-requires t c =
    let items = c.as_slice-below-items.result.now in
    let falls : size-Memo c.below-item.result < size-Memo c.args.memo.now =
    smaller c.args.memo.now items c.loop-below.below-index c.below-item.result c.as_slice-below-items.ensures c.loop-below-test.true c.below-item.is in
    omega arith

pub loop-below-preserved : goal.loop-below-preserved
loop-below-preserved t c =
    let items = c.as_slice-below-items.result.now in
    let more = total_more items c.loop-below.below-index c.below-item.result c.loop-below-test.true c.below-item.is in
    omega (arith, more, c.loop-below.invariant, c.count_or_most.ensures, c.saturating_add-total.ensures)

pub returns : goal.returns
returns t c =
    let items = c.as_slice-below-items.result.now in
    let all : total (take c.loop-below.below-index items) ≡ total (out-Memo c.args.memo.now).below =
    ap total (take_all c.loop-below.below-index items c.loop-below-test.false ∙ c.as_slice-below-items.ensures) in
    omega (arith, all, count_out c.args.memo.now, c.loop-below.invariant)
