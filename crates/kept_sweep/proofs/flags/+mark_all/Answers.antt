use Rattle.std.proofs.Common.{◌≡◌, length, arith}
use Rattle.kept_results.specs.declared.memo.Memo.TheViews.{out-Memo}
use Rattle.kept_results.proofs.Renewing.{renewed_more}
use Rattle.kept_sweep.specs.Flagged.{all_marked}
use Rattle.kept_sweep.proofs.Clearing.{marked_end}
use Rattle.kept_sweep.proofs.flags.+mark_all.Goals as goal

pub loop-at-preserved : goal.loop-at-preserved
loop-at-preserved t c =
    renewed_more all_marked c.args.memo.now c.loop-at.memo c.loop-at.at c.at_mut.result.now c.mark_all.new.memo c.loop-at.invariant c.at_mut.ensures.value c.mark_all.ensures

pub returns : goal.returns
returns t c =
    let all : length (out-Memo c.args.memo.now).below ≡ c.loop-at.at = omega arith in
    marked_end c.args.memo.now c.loop-at.memo c.loop-at.at c.loop-at.invariant all
