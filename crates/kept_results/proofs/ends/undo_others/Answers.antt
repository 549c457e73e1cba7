use Rattle.std.proofs.Common.{◌≡◌, sym, subst, ◌+◌, arith, length}
use Rattle.kept_results.specs.declared.memo.Memo.{Memo}
use Rattle.kept_results.specs.declared.memo.Memo.TheViews.{out-Memo}
use Rattle.kept_results.proofs.Undoing.{Undoing, all_undoing, next_same, undoing_more, undoing_none, undoing_spared}
use Rattle.kept_results.proofs.ends.undo_others.Goals.{then-at-child, else-at-child}
use Rattle.kept_results.proofs.ends.undo_others.Goals as goal

pub loop-at-init : goal.loop-at-init
loop-at-init c = undoing_none c.args.child c.args.memo.now

pub undo_pass-requires : goal.undo_pass-requires
undo_pass-requires c = record { tidy = c.requires.tidy c.loop-at.at c.at_mut.result.now (next_same c.loop-at.invariant c.at_mut.ensures.value) }

pub loop-at-preserved : goal.loop-at-preserved
loop-at-preserved c =
    let old = c.loop-at.invariant in
    elim c.if-at-child.branch [
      | then-at-child w ↦ subst (λ (memo : Memo). Undoing c.args.child c.args.memo.now memo (c.loop-at.at + 1)) (sym w.memo-is)
          (undoing_more old w.at_mut.result.now w.undo_pass.new.memo w.if-at-child.true w.at_mut.ensures.value w.undo_pass.ensures)
      | else-at-child w ↦ subst (λ (memo : Memo). Undoing c.args.child c.args.memo.now memo (c.loop-at.at + 1)) (sym w.memo-is) (undoing_spared old w.if-at-child.false)
    ]

pub returns : goal.returns
returns c =
    let all : length (out-Memo c.args.memo.now).below ≡ c.loop-at.at = omega arith in
    all_undoing c.loop-at.invariant all
