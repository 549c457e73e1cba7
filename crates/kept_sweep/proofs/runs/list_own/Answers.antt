use Rattle.std.proofs.Common.{◌∙◌, sym, ap, arith, length, length-append, take}
use Rattle.kept_results.specs.Kept.{is_marked}
use Rattle.kept_results.specs.declared.memo.Memo.TheViews.{out-Memo}
use Rattle.kept_sweep.specs.Runs.{live_runs}
use Rattle.kept_sweep.proofs.Listing.{run_within}
use Rattle.kept_sweep.proofs.runs.list_own.Goals as goal

pub push_reserved-requires : goal.push_reserved-requires
push_reserved-requires c =
    let marked = is_marked (out-Memo c.args.memo.now) in
    let entries = c.as_slice-entry-items.result.now in
    let i = c.loop-entry.entry-index in
    let live = sym c.is_live.ensures ∙ c.if-is_live.true in
    let more = run_within marked entries i c.entry-item.result c.loop-entry-test.true c.entry-item.is live in
    let so_far = ap length c.loop-entry.invariant.0 in
    omega (
      arith,
      c.loop-entry.runs.ok.0,
      so_far,
      length-append c.args.runs.now.items (live_runs marked (take i entries)),
      c.loop-entry.invariant.1,
      more,
      c.requires.room,
      ap (λ l. length (live_runs marked l)) c.as_slice-entry-items.ensures,
    )
