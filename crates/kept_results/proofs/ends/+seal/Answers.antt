use Rattle.std.proofs.Common.{◌≡◌, ◌∙◌, ◌<◌, ◌≤◌, sym, ap, arith, length}
use Rattle.std.proofs.lemmas.List.{take_all}
use Rattle.kept_results.specs.Ends.{fresh_below, sealed}
use Rattle.kept_results.specs.declared.memo.Memo.TheViews.{out-Memo, size-Memo}
use Rattle.kept_results.proofs.Made.{fresh_more, none_calm, only_counted, others_same, past_counted}
use Rattle.kept_results.proofs.Renewing.{each_end, next_was, only_renewed, past_renewed, renewed_more, smaller}
use Rattle.kept_results.proofs.Tidying.{calm_sealed, tidy_below}
use Rattle.kept_results.proofs.ends.+seal.Goals as goal

pub seal-returns-then-is_calm-clause-sealed : goal.seal-returns-then-is_calm-clause-sealed
seal-returns-then-is_calm-clause-sealed t c = sym (calm_sealed c.args.memo.now c.requires.tidy (sym c.is_calm.ensures ∙ c.if-is_calm.true))

pub seal-returns-then-is_calm-clause-made : goal.seal-returns-then-is_calm-clause-made
seal-returns-then-is_calm-clause-made t c =
    let none = none_calm c.args.memo.now c.requires.tidy (sym c.is_calm.ensures ∙ c.if-is_calm.true) in
    omega (arith, none)

-- ---- each child

pub seal_all-seal-requires : goal.seal_all-seal-requires
seal_all-seal-requires t c =
    let was = next_was sealed c.args.memo.now c.loop-at.memo c.loop-at.at c.at_mut.result.now c.loop-at.invariant.renewed c.at_mut.ensures.value in
    let falls : size-Memo c.at_mut.result.now < size-Memo c.args.memo.now = smaller c.args.memo.now c.loop-at.at c.at_mut.result.now was in
    (omega arith, c.requires.tidy c.loop-at.at c.at_mut.result.now was)

pub seal_all-loop-at-preserved : goal.seal_all-loop-at-preserved
seal_all-loop-at-preserved t c =
    let was = next_was sealed c.args.memo.now c.loop-at.memo c.loop-at.at c.at_mut.result.now c.loop-at.invariant.renewed c.at_mut.ensures.value in
    let more = fresh_more (out-Memo c.args.memo.now).below c.loop-at.at c.at_mut.result.now was in
    record {
      renewed = renewed_more sealed c.args.memo.now c.loop-at.memo c.loop-at.at c.at_mut.result.now c.seal.new.memo c.loop-at.invariant.renewed c.at_mut.ensures.value c.seal.ensures.sealed;
      counted = omega (arith, more, c.loop-at.invariant.counted, c.seal.ensures.made, c.saturating_add-made.ensures);
    }

pub seal_all-returns-clause-sealed : goal.seal_all-returns-clause-sealed
seal_all-returns-clause-sealed t c =
    let all : length (out-Memo c.args.memo.now).below ≡ c.loop-at.at = omega arith in
    each_end sealed c.args.memo.now c.loop-at.memo c.loop-at.at c.loop-at.invariant.renewed all

pub seal_all-returns-clause-made : goal.seal_all-returns-clause-made
seal_all-returns-clause-made t c =
    let memos = (out-Memo c.args.memo.now).below in
    let all = ap fresh_below (take_all c.loop-at.at memos (omega arith)) in
    omega (arith, all, c.loop-at.invariant.counted)

-- ---- one child, or each

pub seal_below-seal_all-requires : goal.seal_below-seal_all-requires
seal_below-seal_all-requires t c = (omega arith, tidy_below c.args.memo.now c.requires.tidy)

pub seal_only-seal-requires : goal.seal_only-seal-requires
seal_only-seal-requires t c =
    let falls : size-Memo c.at_mut.result.now < size-Memo c.args.memo.now = smaller c.args.memo.now c.args.child c.at_mut.result.now c.at_mut.ensures.value in
    (omega arith, tidy_below c.args.memo.now c.requires.tidy c.args.child c.at_mut.result.now c.at_mut.ensures.value)

pub seal_only-returns-then-child-len-clause-sealed : goal.seal_only-returns-then-child-len-clause-sealed
seal_only-returns-then-child-len-clause-sealed t c =
    let others = others_same c.args.memo.now c.args.child c.requires.tidy c.requires.only in
    only_renewed sealed c.args.memo.now c.args.child c.at_mut.result.now c.seal.new.memo others c.at_mut.ensures.value c.seal.ensures.sealed

pub seal_only-returns-then-child-len-clause-made : goal.seal_only-returns-then-child-len-clause-made
seal_only-returns-then-child-len-clause-made t c =
    let counted = only_counted c.args.memo.now c.args.child c.at_mut.result.now c.requires.tidy c.requires.only c.at_mut.ensures.value in
    omega (arith, counted, c.seal.ensures.made)

pub seal_only-returns-else-child-len-clause-sealed : goal.seal_only-returns-else-child-len-clause-sealed
seal_only-returns-else-child-len-clause-sealed t c =
    let past : length (out-Memo c.args.memo.now).below ≤ c.args.child = omega arith in
    past_renewed sealed c.args.memo.now c.args.child (others_same c.args.memo.now c.args.child c.requires.tidy c.requires.only) past

pub seal_only-returns-else-child-len-clause-made : goal.seal_only-returns-else-child-len-clause-made
seal_only-returns-else-child-len-clause-made t c =
    let past : length (out-Memo c.args.memo.now).below ≤ c.args.child = omega arith in
    let none = past_counted c.args.memo.now c.args.child c.requires.tidy c.requires.only past in
    omega (arith, none)
