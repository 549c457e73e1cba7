use Rattle.std.proofs.Common.{◌<◌, ◌∙◌, ◌++◌, sym, ap, arith, List, length, length-append, take}
use Rattle.std.proofs.lemmas.List.{take_all}
use Rattle.box_pool.specs.declared.pool.RunId.{RunId}
use Rattle.kept_results.specs.Kept.{is_marked}
use Rattle.kept_results.specs.declared.memo.Memo.{Memo}
use Rattle.kept_results.specs.declared.memo.Memo.TheViews.{out-Memo, size-Memo}
use Rattle.kept_laid.proofs.Totals.{smaller}
use Rattle.kept_sweep.specs.Runs.{live_runs}
use Rattle.kept_sweep.proofs.Listing.{joined, memo_within, own_within}
use Rattle.kept_sweep.proofs.RunIds.{runs_out}
use Rattle.kept_sweep.proofs.runs.+list_runs.Goals as goal

pub list_own-requires : goal.list_own-requires
list_own-requires t c = omega (arith, own_within c.args.memo.now, c.requires.room)

pub list_runs-requires : goal.list_runs-requires
list_runs-requires t c =
    let whole = c.args.memo.now in
    let own = live_runs (is_marked (out-Memo whole)) (out-Memo whole).entries in
    let items = c.as_slice-below-items.result.now in
    let i = c.loop-below.below-index in
    let falls : size-Memo c.below-item.result < size-Memo whole =
    smaller whole items i c.below-item.result c.as_slice-below-items.ensures c.loop-below-test.true c.below-item.is in
    let more = memo_within whole items i c.below-item.result c.as_slice-below-items.ensures c.loop-below-test.true c.below-item.is in (
      omega (arith, falls),
      omega (
        arith,
        ap length c.loop-below.invariant.0,
        length-append c.args.runs.now.items (own ++ joined (take i items)),
        length-append own (joined (take i items)),
        c.loop-below.invariant.1,
        more,
        c.requires.room,
      ),
    )

pub returns-clause-listed : goal.returns-clause-listed
returns-clause-listed t c =
    let whole = c.args.memo.now in
    let own = live_runs (is_marked (out-Memo whole)) (out-Memo whole).entries in
    let items = c.as_slice-below-items.result.now in
    let all = take_all c.loop-below.below-index items c.loop-below-test.false ∙ c.as_slice-below-items.ensures in
    c.loop-below.invariant.0
    ∙ ap (λ (l : List Memo). c.args.runs.now.items ++ (own ++ joined l)) all
    ∙ ap (λ (l : List RunId). c.args.runs.now.items ++ l) (sym (runs_out whole))
