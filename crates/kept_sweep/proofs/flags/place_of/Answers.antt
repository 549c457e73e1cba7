use Rattle.std.proofs.Common.{◌≡◌, ◌∙◌, ◌<◌, length, get_or, false, true, ap, arith}
use Rattle.kept_results.specs.Kept.{is_live}
use Rattle.kept_results.specs.declared.memo.Entry.{Entry}
use Rattle.kept_results.specs.declared.memo.Memo.TheViews.{out-Memo}
use Rattle.kept_results.proofs.Lists.{all_more}
use Rattle.kept_sweep.proofs.flags.place_of.Goals as goal

pub loop-at-preserved : goal.loop-at-preserved
loop-at-preserved c =
    let h : c.loop-at.at < length (out-Memo c.args.memo.now).entries = omega arith in
    let x = c.index-as_slice-at.result in
    all_more (λ (entry : Entry). is_live false entry ≡ true → entry.context ≡ c.args.context.now → ⊥)
    (out-Memo c.args.memo.now).entries c.loop-at.at x h (c.index-as_slice-at.is ∙ ap (λ l. get_or l c.loop-at.at x) c.as_slice.ensures) c.loop-at.invariant
    (λ _ is. c.is_in.ensures.no c.if-is_in.false is)
