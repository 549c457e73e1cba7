use Rattle.std.proofs.Common.{◌∙◌, sym, ap, subst, arith}
use Rattle.kept_results.specs.Ends.{kept_count}
use Rattle.kept_results.specs.Kept.{Agrees, IsKept}
use Rattle.kept_results.specs.Tidy.{IsTidy}
use Rattle.kept_results.specs.declared.memo.Memo.{Memo}
use Rattle.kept_results.specs.declared.memo.Memo.TheViews.{out-Memo}
use Rattle.kept_sweep.specs.Flagged.{IsFlagged, cleared}
use Rattle.kept_sweep.specs.Swept.{IsPartOf, KeepsNeeded}
use Rattle.kept_sweep.proofs.Clearing.{marked_tidy}
use Rattle.kept_sweep.proofs.Sweeping.{agrees_marked, cleared_before, swept, swept_part}
use Rattle.kept_sweep.proofs.Totals.{count_cleared, count_sealed}
use Rattle.kept_sweep.proofs.sweep.sweep_layouts.Goals as goal

pub flag_needed-requires-clause-agrees : goal.flag_needed-requires-clause-agrees
flag_needed-requires-clause-agrees c =
    subst (Agrees c.args.metrics.now c.args.node.now) (sym c.mark_all.ensures) (agrees_marked c.args.metrics.now c.args.node.now c.args.memo.now c.requires.agrees c.requires.plain)

pub flag_needed-requires-clause-whole : goal.flag_needed-requires-clause-whole
flag_needed-requires-clause-whole c =
    subst (Agrees c.args.metrics.now c.args.node.now) (sym (ap cleared c.mark_all.ensures ∙ cleared_before c.args.memo.now c.requires.plain c.requires.unmarked)) c.requires.agrees

pub flag_needed-requires-clause-kept : goal.flag_needed-requires-clause-kept
flag_needed-requires-clause-kept c =
    subst (λ (memo : Memo). IsKept (out-Memo memo) c.args.context.now) (sym (ap cleared c.mark_all.ensures ∙ cleared_before c.args.memo.now c.requires.plain c.requires.unmarked)) c.requires.kept

pub seal-requires : goal.seal-requires
seal-requires c = record { tidy = c.flag_needed.ensures.tidy (subst IsTidy (sym c.mark_all.ensures) (marked_tidy c.args.memo.now)) }

pub returns-clause-swept : goal.returns-clause-swept
returns-clause-swept c =
    let m = c.args.metrics.now in
    let node = c.args.node.now in
    let flagged = subst (λ (memo : Memo). IsFlagged m node c.args.context.now memo c.flag_needed.new.memo) c.mark_all.ensures c.flag_needed.ensures in
    subst (KeepsNeeded m node c.args.context.now) (sym c.seal.ensures.sealed) (swept m node c.args.context.now c.args.memo.now c.flag_needed.new.memo c.requires.plain flagged)

pub returns-clause-part : goal.returns-clause-part
returns-clause-part c =
    let m = c.args.metrics.now in
    let node = c.args.node.now in
    let flagged = subst (λ (memo : Memo). IsFlagged m node c.args.context.now memo c.flag_needed.new.memo) c.mark_all.ensures c.flag_needed.ensures in
    subst (λ (memo : Memo). IsPartOf memo c.args.memo.now) (sym c.seal.ensures.sealed) (swept_part m node c.args.context.now c.args.memo.now c.flag_needed.new.memo c.requires.plain flagged c.requires.unmarked)

pub returns-clause-fewer : goal.returns-clause-fewer
returns-clause-fewer c =
    let flagged = c.flag_needed.new.memo in
    let before = ap kept_count (c.flag_needed.ensures.same ∙ ap cleared c.mark_all.ensures ∙ cleared_before c.args.memo.now c.requires.plain c.requires.unmarked) in
    omega (arith, ap kept_count c.seal.ensures.sealed, count_sealed flagged, count_cleared flagged, before)
