use Rattle.std.proofs.Common.{◌≡◌, ◌∙◌, ◌<◌, ◌≤◌, sym, arith, length}
use Rattle.kept_results.specs.Ends.{stripped}
use Rattle.kept_results.specs.declared.memo.Memo.TheViews.{out-Memo, size-Memo}
use Rattle.kept_results.proofs.Renewing.{each_end, next_was, only_renewed, past_renewed, renewed_more, smaller, undone_end}
use Rattle.kept_results.proofs.Tidying.{calm_stripped, others_stripped, tidy_below}
use Rattle.kept_results.proofs.ends.+undo_pass.Goals as goal

pub undo_pass-returns-else-not-is_calm : goal.undo_pass-returns-else-not-is_calm
undo_pass-returns-else-not-is_calm t c = sym (calm_stripped c.args.memo.now c.requires.tidy (sym c.is_calm.ensures ∙ c.if-not-is_calm.false))

pub undo_through-returns : goal.undo_through-returns
undo_through-returns t c = undone_end c.args.memo.now c.undo_below.new.memo c.undo_entries.new.entries c.undo_below.ensures c.undo_entries.ensures

-- ---- each child

pub undo_all-undo_pass-requires : goal.undo_all-undo_pass-requires
undo_all-undo_pass-requires t c =
    let was = next_was stripped c.args.memo.now c.loop-at.memo c.loop-at.at c.at_mut.result.now c.loop-at.invariant c.at_mut.ensures.value in
    let falls : size-Memo c.at_mut.result.now < size-Memo c.args.memo.now = smaller c.args.memo.now c.loop-at.at c.at_mut.result.now was in
    (omega arith, c.requires.tidy c.loop-at.at c.at_mut.result.now was)

pub undo_all-loop-at-preserved : goal.undo_all-loop-at-preserved
undo_all-loop-at-preserved t c =
    renewed_more stripped c.args.memo.now c.loop-at.memo c.loop-at.at c.at_mut.result.now c.undo_pass.new.memo c.loop-at.invariant c.at_mut.ensures.value c.undo_pass.ensures

pub undo_all-returns : goal.undo_all-returns
undo_all-returns t c =
    let all : length (out-Memo c.args.memo.now).below ≡ c.loop-at.at = omega arith in
    each_end stripped c.args.memo.now c.loop-at.memo c.loop-at.at c.loop-at.invariant all

-- ---- one child, or each

pub undo_below-undo_all-requires : goal.undo_below-undo_all-requires
undo_below-undo_all-requires t c = (omega arith, tidy_below c.args.memo.now c.requires.tidy)

pub undo_only-undo_pass-requires : goal.undo_only-undo_pass-requires
undo_only-undo_pass-requires t c =
    let falls : size-Memo c.at_mut.result.now < size-Memo c.args.memo.now = smaller c.args.memo.now c.args.child c.at_mut.result.now c.at_mut.ensures.value in
    (omega arith, tidy_below c.args.memo.now c.requires.tidy c.args.child c.at_mut.result.now c.at_mut.ensures.value)

pub undo_only-returns-then-child-len : goal.undo_only-returns-then-child-len
undo_only-returns-then-child-len t c =
    let others = others_stripped c.args.memo.now c.args.child c.requires.tidy c.requires.only in
    only_renewed stripped c.args.memo.now c.args.child c.at_mut.result.now c.undo_pass.new.memo others c.at_mut.ensures.value c.undo_pass.ensures

pub undo_only-returns-else-child-len : goal.undo_only-returns-else-child-len
undo_only-returns-else-child-len t c =
    let past : length (out-Memo c.args.memo.now).below ≤ c.args.child = omega arith in
    past_renewed stripped c.args.memo.now c.args.child (others_stripped c.args.memo.now c.args.child c.requires.tidy c.requires.only) past
