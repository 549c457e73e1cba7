-- The pass over what isn't kept. The files RelayAnew, RelayAgain and RelayAll have what is said of the
-- calls of that name, and RelayRefused what is left where an element that is asked anew is refused.
use Rattle.std.proofs.Common.{rules, ◌∙◌, ◌<◌, true, [], refl, sym, ap, subst, arith, length, map, Err}
use Rattle.std.specs.List.{AllByRecursion}
use Rattle.std.proofs.lemmas.List.{length-map}
use Rattle.math_tree.specs.declared.node.Node.{Node}
use Rattle.embellished.specs.Seen.{seen_of}
use Rattle.layout_model.specs.Answers.{questions_in}
use Rattle.layout_model.specs.Laws.{answer_of}
use Rattle.layout_model.specs.declared.outcome.Outcome.{Outcome}
use Rattle.layout_model.proofs.Replies.{answered_there, past_all, question_of}
use Rattle.layout_model.proofs.Children.{few_children}
use Rattle.layout_model.proofs.Fits.{range_is}
use Rattle.layout_model.proofs.Waves.{all_fit}
use Rattle.layout_model.proofs.Whole.{size_false}
use Rattle.kept_results.specs.Kept.{NamesKept}
use Rattle.kept_results.specs.Looking.{HasAnswer, own_facts}
use Rattle.kept_results.specs.Passes.{AnswersNeed}
use Rattle.kept_results.specs.Tidy.{AreTidy, IsTidy}
use Rattle.kept_results.specs.declared.memo.Memo.{Memo}
use Rattle.kept_results.specs.declared.memo.Memo.TheViews.{out-Memo}
use Rattle.kept_results.proofs.Again.{kept_again, near_entry, one_now, shown_by, still_regular, still_sized, tidied_again, was_near}
use Rattle.kept_results.proofs.Backed.{are_backed, grows_both, grows_partly, only_none, still_begun}
use Rattle.kept_results.proofs.Passing.{passes_both, passes_none, passes_partly}
use Rattle.kept_relay.proofs.RelayAgain.{answer_again, answers_again, child_agrees, child_backed, child_few, child_smaller, child_suits, child_there, child_unfit, fit_again, fonts_again, grown_again, grown_child, heard_of, memo_there, ones_again, passed_again, passed_child, shown_again, stepped_again, turn_of, unfit_again, unkept_again, was_read}
use Rattle.kept_relay.proofs.RelayAll.{asked_near, asks_unfit, fit_next, goes_there, grow_more, kept_next, kid_agrees, kid_backed, kid_few, kid_smaller, kid_suits, memo_near, pass_more, told_next}
use Rattle.kept_relay.proofs.RelayAnew.{answered_of, fit_anew, grown_anew, grown_waves, kept_anew, ones_known, ones_stored, ones_suit, ones_unfit, pass_first, pass_second, passed_anew, replies_all, stepped_anew, tidy_anew, told_of, twos_known, twos_suit, twos_unfit, unkept_anew, waves}
use Rattle.kept_relay.proofs.RelayCalls.{err_both, none_of, not_ok, nothing_done, ok_is_not_err, on_both, on_each, on_err, some_of, unchanged_store}
use Rattle.kept_relay.proofs.RelayRefused.{no_ok, of_err, refused, tidy_child}
use Rattle.kept_results.proofs.Tidying.{tidy_below, tidy_renewed}
use Rattle.kept_results.proofs.Turns.{facts_known, kept_answers, kept_fits, own_entries, own_mark, waves_lay, waves_unfit}
use Rattle.kept_relay.proofs.relay.+relay.Goals as goal

-- ---- one question after another

pub relay_all-loop-index-init : goal.relay_all-loop-index-init
relay_all-loop-index-init g t c =
    record {
      same = refl;
      told = refl;
      fit = refl;
      passes = passes_none c.args.metrics.now c.args.node.now (AnswersNeed c.args.metrics.now c.args.node.now (questions_in c.args.replies.now)) c.args.memo.now c.args.steps.now true c.requires.agrees;
      grows = unchanged_store c.requires.backed;
      own = refl;
      marked = refl;
      kept = tt;
      tidy = c.requires.tidy;
    }

pub relay_all-at_mut-reply-requires : goal.relay_all-at_mut-reply-requires
relay_all-at_mut-reply-requires g t c =
    let v = c.loop-index.invariant in
    let asks = length-map c.args.replies.now question_of in
    let now = length-map c.loop-index.replies question_of in
    omega (arith, c.loop-index-test.true, c.len-index-end.ensures, ap length v.same, asks, now)

pub relay_all-node_at-kid-requires : goal.relay_all-node_at-kid-requires
relay_all-node_at-kid-requires g t c = asked_near c.loop-index.replies c.loop-index.index c.requires.shown c.requires.proper c.loop-index.invariant.same c.at_mut-reply.ensures.value

pub relay_all-place-requires : goal.relay_all-place-requires
relay_all-place-requires g t c = asked_near c.loop-index.replies c.loop-index.index c.requires.shown c.requires.proper c.loop-index.invariant.same c.at_mut-reply.ensures.value

pub relay_all-at_mut-below-requires : goal.relay_all-at_mut-below-requires
relay_all-at_mut-below-requires g t c =
    let q = goes_there c.loop-index.replies c.loop-index.index c.requires.shown c.requires.proper c.loop-index.invariant.same c.at_mut-reply.ensures.value c.node_at-kid.ensures c.place.ensures in
    memo_near q c.loop-index.invariant.passes.agrees

pub relay_all-relay_element-requires : goal.relay_all-relay_element-requires
relay_all-relay_element-requires g t c κs within =
    let q = goes_there c.loop-index.replies c.loop-index.index c.requires.shown c.requires.proper c.loop-index.invariant.same c.at_mut-reply.ensures.value c.node_at-kid.ensures c.place.ensures in
    let falls = kid_smaller q in
    let v = c.loop-index.invariant in
    let at = c.at_mut-below.ensures.value in
    (omega arith, (within.0, (within.1, (still_begun v.grows.only c.requires.begun, (kid_agrees q v.passes.agrees at, (kid_backed q v.grows.backed at, (v.tidy c.place.result c.at_mut-below.result.now at, (kid_few q c.requires.few, kid_suits q))))))))

pub relay_all-returns-in_err-answer-clause-passes : goal.relay_all-returns-in_err-answer-clause-passes
relay_all-returns-in_err-answer-clause-passes g t c =
    let q = goes_there c.loop-index.replies c.loop-index.index c.requires.shown c.requires.proper c.loop-index.invariant.same c.at_mut-reply.ensures.value c.node_at-kid.ensures c.place.ensures in
    pass_more q c.loop-index.invariant.passes c.at_mut-below.ensures.value (c.in_err-answer.ensures {u = tt}).passes

pub relay_all-returns-in_err-answer-clause-grows : goal.relay_all-returns-in_err-answer-clause-grows
relay_all-returns-in_err-answer-clause-grows g t c =
    let q = goes_there c.loop-index.replies c.loop-index.index c.requires.shown c.requires.proper c.loop-index.invariant.same c.at_mut-reply.ensures.value c.node_at-kid.ensures c.place.ensures in
    let v = c.loop-index.invariant in
    grow_more q v.passes.agrees v.grows c.at_mut-below.ensures.value (c.in_err-answer.ensures {u = tt}).grows

pub relay_all-returns-in_err-answer-clause-own : goal.relay_all-returns-in_err-answer-clause-own
relay_all-returns-in_err-answer-clause-own g t c = own_entries c.loop-index.memo c.place.result c.relay_element.new.memo ∙ c.loop-index.invariant.own

pub relay_all-returns-in_err-answer-clause-marked : goal.relay_all-returns-in_err-answer-clause-marked
relay_all-returns-in_err-answer-clause-marked g t c = own_mark c.loop-index.memo c.place.result c.relay_element.new.memo ∙ c.loop-index.invariant.marked

pub relay_all-returns-in_err-answer-clause-tidy : goal.relay_all-returns-in_err-answer-clause-tidy
relay_all-returns-in_err-answer-clause-tidy g t c =
    tidy_renewed c.loop-index.memo c.place.result c.at_mut-below.result.now c.relay_element.new.memo c.at_mut-below.ensures.value c.loop-index.invariant.tidy
    (λ _. (c.in_err-answer.ensures {u = tt}).tidy)

pub relay_all-returns-in_err-answer-clause-range : goal.relay_all-returns-in_err-answer-clause-range
relay_all-returns-in_err-answer-clause-range g t c =
    λ e.
    let same = rw e at c.from_residual.ensures.1 in
    let q = goes_there c.loop-index.replies c.loop-index.index c.requires.shown c.requires.proper c.loop-index.invariant.same c.at_mut-reply.ensures.value c.node_at-kid.ensures c.place.ensures in
    asks_unfit q ((c.in_err-answer.ensures {u = tt}).range (ap Err (sym same)))

pub relay_all-loop-index-preserved : goal.relay_all-loop-index-preserved
relay_all-loop-index-preserved g t c =
    let q = goes_there c.loop-index.replies c.loop-index.index c.requires.shown c.requires.proper c.loop-index.invariant.same c.at_mut-reply.ensures.value c.node_at-kid.ensures c.place.ensures in
    let v = c.loop-index.invariant in
    let at = c.at_mut-below.ensures.value in
    let made = (c.in_ok-answer.ensures {u = tt}) in
    let next = answered_there (questions_in c.args.replies.now) c.loop-index.replies c.loop-index.index c.at_mut-reply.result.now c.in_ok-answer.answer v.same c.at_mut-reply.ensures.value in
    record {
      same = next.same;
      told = told_next q v.told made.ok next.told;
      fit = fit_next q v.fit made.fit;
      passes = pass_more q v.passes at made.passed;
      grows = grow_more q v.passes.agrees v.grows at made.grown;
      own = own_entries c.loop-index.memo c.place.result c.relay_element.new.memo ∙ v.own;
      marked = own_mark c.loop-index.memo c.place.result c.relay_element.new.memo ∙ v.marked;
      kept = kept_next q c.loop-index.memo at made.passed.keeps v.kept made.kept;
      tidy = tidy_renewed c.loop-index.memo c.place.result c.at_mut-below.result.now c.relay_element.new.memo at v.tidy (λ _. made.tidy);
    }

pub relay_all-returns-clause-passes : goal.relay_all-returns-clause-passes
relay_all-returns-clause-passes g t c = passes_partly c.args.metrics.now c.loop-index.invariant.passes

pub relay_all-returns-clause-grows : goal.relay_all-returns-clause-grows
relay_all-returns-clause-grows g t c = grows_partly c.args.metrics.now c.loop-index.invariant.grows

pub relay_all-returns-clause-ok : goal.relay_all-returns-clause-ok
relay_all-returns-clause-ok g t c =
    let past = past_all c.args.replies.now c.loop-index.replies c.loop-index.index c.loop-index.invariant.same (omega (arith, c.loop-index-test.false, c.len-index-end.ensures)) in
    sym past.told ∙ c.loop-index.invariant.told ∙ ap (map (answer_of c.args.metrics.now c.args.node.now)) past.asked

pub relay_all-returns-clause-fit : goal.relay_all-returns-clause-fit
relay_all-returns-clause-fit g t c =
    let past = past_all c.args.replies.now c.loop-index.replies c.loop-index.index c.loop-index.invariant.same (omega (arith, c.loop-index-test.false, c.len-index-end.ensures)) in
    ap (all_fit c.args.metrics.now c.args.node.now) (sym past.asked) ∙ c.loop-index.invariant.fit

pub relay_all-returns-clause-kept : goal.relay_all-returns-clause-kept
relay_all-returns-clause-kept g t c =
    let past = past_all c.args.replies.now c.loop-index.replies c.loop-index.index c.loop-index.invariant.same (omega (arith, c.loop-index-test.false, c.len-index-end.ensures)) in
    subst (AllByRecursion (NamesKept c.args.node.now (out-Memo c.loop-index.memo).below)) past.asked c.loop-index.invariant.kept

-- ---- an answer that is kept

pub relay_element-kept_answer-requires : goal.relay_element-kept_answer-requires
relay_element-kept_answer-requires g t c = record { backed = are_backed c.args.metrics.now c.args.store.now.runs c.args.node.now c.args.memo.now c.requires.backed }

pub relay_element-relay_anew-made-requires : goal.relay_element-relay_anew-made-requires
relay_element-relay_anew-made-requires g t c κs within =
    let none = none_of c.in_ok-answer.field-0 _ c.in-None.is (c.in_ok-answer.ensures {u = tt}).none in
    let below = tidy_below c.args.memo.now c.requires.tidy in
    (omega arith, (within.0, (within.1, (c.requires.begun, (c.requires.agrees, (c.requires.backed, (below, (c.requires.few, (c.requires.context, none)))))))))

-- what a refused pass left is undone beside the child that the end of a pass enters
pub relay_element-returns-then-is_err : goal.relay_element-returns-then-is_err
relay_element-returns-then-is_err g t c =
    let made = c.relay_anew-made.ensures in
    let result = c.relay_anew-made.result in
    let err = c.if-is_err.ensures.value in
    let left = refused c.requires.agrees c.requires.tidy made.passes (of_err result err made.own) (of_err result err made.below) c.undo_beside.ensures.undone c.undo_beside.ensures.unchanged in
    record {
      passes = left.passes;
      passed = no_ok result _ err;
      grows = left.grows c.args.store.now c.relay_anew-made.new.store c.requires.backed made.grows;
      grown = no_ok result _ err;
      kept = no_ok result _ err;
      tidy = left.tidy;
      ok = made.ok;
      fit = made.fit;
      range = made.range;
    }

pub relay_element-returns-in_err-answer-clause-grows : goal.relay_element-returns-in_err-answer-clause-grows
relay_element-returns-in_err-answer-clause-grows g t c = unchanged_store c.requires.backed

pub relay_element-returns-in_err-answer-clause-passes : goal.relay_element-returns-in_err-answer-clause-passes
relay_element-returns-in_err-answer-clause-passes g t c = nothing_done c.requires.agrees

pub relay_element-returns-in-Some : goal.relay_element-returns-in-Some
relay_element-returns-in-Some g t c =
    let found = some_of c.in_ok-answer.field-0 c.in-Some.answer (HasAnswer c.args.store.now.runs (out-Memo c.args.memo.now) c.args.context.now) c.in-Some.is (c.in_ok-answer.ensures {u = tt}).some in
    record {
      passes = nothing_done c.requires.agrees;
      passed = nothing_done c.requires.agrees;
      grows = unchanged_store c.requires.backed;
      grown = unchanged_store c.requires.backed;
      kept = record { entry = found.entry; has = found.has; in_context = found.in_context };
      tidy = c.requires.tidy;
      ok = kept_answers c.args.metrics.now c.args.store.now.runs c.args.node.now c.args.memo.now c.args.context.now c.in-Some.answer c.requires.agrees found c.requires.backed;
      fit = kept_fits c.args.metrics.now c.args.store.now.runs c.args.node.now c.args.memo.now c.args.context.now c.in-Some.answer c.requires.agrees found;
      range = ok_is_not_err _ _;
    }

-- ---- an element

pub relay_anew-make-requires-clause-own : goal.relay_anew-make-requires-clause-own
relay_anew-make-requires-clause-own g t c = (c.requires.agrees.at [] c.args.node.now c.args.memo.now (refl, refl)).facts_are

pub relay_anew-make-requires-clause-known : goal.relay_anew-make-requires-clause-known
relay_anew-make-requires-clause-known g t c =
    (c.in_ok-kids.ensures {u = tt}) ∙ ap (map own_facts) c.as_slice.ensures ∙ facts_known c.args.metrics.now c.args.node.now c.args.memo.now c.requires.agrees

pub relay_anew-make-requires-clause-few : goal.relay_anew-make-requires-clause-few
relay_anew-make-requires-clause-few g t c = omega (arith, few_children c.args.node.now, c.requires.few)

pub relay_anew-returns-in_err-kids-clause-grows : goal.relay_anew-returns-in_err-kids-clause-grows
relay_anew-returns-in_err-kids-clause-grows g t c = unchanged_store c.requires.backed

pub relay_anew-returns-in_err-kids-clause-passes : goal.relay_anew-returns-in_err-kids-clause-passes
relay_anew-returns-in_err-kids-clause-passes g t c = nothing_done c.requires.agrees

pub relay_anew-returns-in_err-view-clause-grows : goal.relay_anew-returns-in_err-view-clause-grows
relay_anew-returns-in_err-view-clause-grows g t c = unchanged_store c.requires.backed

pub relay_anew-returns-in_err-view-clause-passes : goal.relay_anew-returns-in_err-view-clause-passes
relay_anew-returns-in_err-view-clause-passes g t c = nothing_done c.requires.agrees

pub relay_anew-returns-in_err-one-clause-grows : goal.relay_anew-returns-in_err-one-clause-grows
relay_anew-returns-in_err-one-clause-grows g t c = unchanged_store c.requires.backed

pub relay_anew-returns-in_err-one-clause-passes : goal.relay_anew-returns-in_err-one-clause-passes
relay_anew-returns-in_err-one-clause-passes g t c = nothing_done c.requires.agrees

pub relay_anew-returns-in_err-survey-clause-grows : goal.relay_anew-returns-in_err-survey-clause-grows
relay_anew-returns-in_err-survey-clause-grows g t c = unchanged_store c.requires.backed

pub relay_anew-returns-in_err-survey-clause-passes : goal.relay_anew-returns-in_err-survey-clause-passes
relay_anew-returns-in_err-survey-clause-passes g t c = nothing_done c.requires.agrees

pub relay_anew-returns-in_err-survey-clause-range : goal.relay_anew-returns-in_err-survey-clause-range
relay_anew-returns-in_err-survey-clause-range g t c =
    λ e.
    let same = rw e at c.from_residual-in_err-survey.ensures.1 in
    range_is c.args.metrics.now c.args.node.now c.args.context.now
    ∙ size_false _ _ (size_false _ _ ((c.in_err-survey.ensures {u = tt}).range (ap Err (sym same))))

pub relay_anew-relay_all-requires : goal.relay_anew-relay_all-requires
relay_anew-relay_all-requires g t c κs within =
    let w = ones_known c.requires.few c.requires.context (c.in_ok-view.ensures {u = tt}) (c.in_ok-one.ensures {u = tt}).ok (c.in_ok-one.ensures {u = tt}).styles in
    (omega arith, (within.0, (within.1, (w.shown_is, (c.requires.begun, (c.requires.agrees, (c.requires.backed, (c.requires.tidy, (c.requires.few, ones_suit w)))))))))

pub relay_anew-returns-in_err-relay_all-clause-passes : goal.relay_anew-returns-in_err-relay_all-clause-passes
relay_anew-returns-in_err-relay_all-clause-passes g t c =
    let w = ones_known c.requires.few c.requires.context (c.in_ok-view.ensures {u = tt}) (c.in_ok-one.ensures {u = tt}).ok (c.in_ok-one.ensures {u = tt}).styles in
    pass_first w (c.in_err-relay_all.ensures {u = tt}).passes

pub relay_anew-returns-in_err-relay_all-clause-grows : goal.relay_anew-returns-in_err-relay_all-clause-grows
relay_anew-returns-in_err-relay_all-clause-grows g t c = (c.in_err-relay_all.ensures {u = tt}).grows

pub relay_anew-returns-in_err-relay_all-clause-range : goal.relay_anew-returns-in_err-relay_all-clause-range
relay_anew-returns-in_err-relay_all-clause-range g t c =
    λ e.
    let same = rw e at c.from_residual-in_err-relay_all.ensures.1 in
    let w = ones_known c.requires.few c.requires.context (c.in_ok-view.ensures {u = tt}) (c.in_ok-one.ensures {u = tt}).ok (c.in_ok-one.ensures {u = tt}).styles in
    ones_unfit w ((c.in_err-relay_all.ensures {u = tt}).range (ap Err (sym same)))

pub relay_anew-second_wave-requires-clause-answers : goal.relay_anew-second_wave-requires-clause-answers
relay_anew-second_wave-requires-clause-answers g t c =
    let w = ones_known c.requires.few c.requires.context (c.in_ok-view.ensures {u = tt}) (c.in_ok-one.ensures {u = tt}).ok (c.in_ok-one.ensures {u = tt}).styles in
    let one = (c.in_ok-relay_all.ensures {u = tt}) in
    ones_stored w one.ok one.fit

pub relay_anew-returns-in_err-two-clause-grows : goal.relay_anew-returns-in_err-two-clause-grows
relay_anew-returns-in_err-two-clause-grows g t c = grows_partly c.args.metrics.now (c.in_ok-relay_all.ensures {u = tt}).grown

pub relay_anew-returns-in_err-two-clause-passes : goal.relay_anew-returns-in_err-two-clause-passes
relay_anew-returns-in_err-two-clause-passes g t c =
    let w = ones_known c.requires.few c.requires.context (c.in_ok-view.ensures {u = tt}) (c.in_ok-one.ensures {u = tt}).ok (c.in_ok-one.ensures {u = tt}).styles in
    passes_partly c.args.metrics.now (pass_first w (c.in_ok-relay_all.ensures {u = tt}).passed)

pub relay_anew-relay_all-requires-2 : goal.relay_anew-relay_all-requires-2
relay_anew-relay_all-requires-2 g t c κs within =
    let w = ones_known c.requires.few c.requires.context (c.in_ok-view.ensures {u = tt}) (c.in_ok-one.ensures {u = tt}).ok (c.in_ok-one.ensures {u = tt}).styles in
    let one = (c.in_ok-relay_all.ensures {u = tt}) in
    let s = twos_known w one.ok one.fit (c.in_ok-two.ensures {u = tt}).value (c.in_ok-two.ensures {u = tt}).styles in
    (omega arith, (within.0, (within.1, (w.shown_is, (still_begun one.grown.only c.requires.begun, (one.passed.agrees, (one.grown.backed, (one.tidy, (c.requires.few, twos_suit s)))))))))

pub relay_anew-returns-in_err-relay_all-2-clause-passes : goal.relay_anew-returns-in_err-relay_all-2-clause-passes
relay_anew-returns-in_err-relay_all-2-clause-passes g t c =
    let w = ones_known c.requires.few c.requires.context (c.in_ok-view.ensures {u = tt}) (c.in_ok-one.ensures {u = tt}).ok (c.in_ok-one.ensures {u = tt}).styles in
    let one = (c.in_ok-relay_all.ensures {u = tt}) in
    let s = twos_known w one.ok one.fit (c.in_ok-two.ensures {u = tt}).value (c.in_ok-two.ensures {u = tt}).styles in
    passes_both c.args.metrics.now (pass_first w one.passed) (pass_second s (c.in_err-relay_all-2.ensures {u = tt}).passes)

pub relay_anew-returns-in_err-relay_all-2-clause-grows : goal.relay_anew-returns-in_err-relay_all-2-clause-grows
relay_anew-returns-in_err-relay_all-2-clause-grows g t c = grows_both c.args.metrics.now (c.in_ok-relay_all.ensures {u = tt}).grown (c.in_err-relay_all-2.ensures {u = tt}).grows

pub relay_anew-returns-in_err-relay_all-2-clause-range : goal.relay_anew-returns-in_err-relay_all-2-clause-range
relay_anew-returns-in_err-relay_all-2-clause-range g t c =
    λ e.
    let same = rw e at c.from_residual-in_err-relay_all-2.ensures.1 in
    let w = ones_known c.requires.few c.requires.context (c.in_ok-view.ensures {u = tt}) (c.in_ok-one.ensures {u = tt}).ok (c.in_ok-one.ensures {u = tt}).styles in
    let one = (c.in_ok-relay_all.ensures {u = tt}) in
    let s = twos_known w one.ok one.fit (c.in_ok-two.ensures {u = tt}).value (c.in_ok-two.ensures {u = tt}).styles in
    twos_unfit s ((c.in_err-relay_all-2.ensures {u = tt}).range (ap Err (sym same)))

pub relay_anew-finish_replies-requires-clause-replies : goal.relay_anew-finish_replies-requires-clause-replies
relay_anew-finish_replies-requires-clause-replies g t c =
    let w = ones_known c.requires.few c.requires.context (c.in_ok-view.ensures {u = tt}) (c.in_ok-one.ensures {u = tt}).ok (c.in_ok-one.ensures {u = tt}).styles in
    let one = (c.in_ok-relay_all.ensures {u = tt}) in
    let two = (c.in_ok-two.ensures {u = tt}) in
    let more = (c.in_ok-relay_all-2.ensures {u = tt}) in
    let d = answered_of w (told_of c.relay_all.new.replies one.passed one.own one.marked one.kept one.asked one.ok one.fit) two.value two.styles
    (told_of c.relay_all-2.new.replies more.passed more.own more.marked more.kept more.asked more.ok more.fit) in
    replies_all d

pub relay_anew-returns-in_err-outcome : goal.relay_anew-returns-in_err-outcome
relay_anew-returns-in_err-outcome g t c =
    let w = ones_known c.requires.few c.requires.context (c.in_ok-view.ensures {u = tt}) (c.in_ok-one.ensures {u = tt}).ok (c.in_ok-one.ensures {u = tt}).styles in
    let one = (c.in_ok-relay_all.ensures {u = tt}) in
    let two = (c.in_ok-two.ensures {u = tt}) in
    let more = (c.in_ok-relay_all-2.ensures {u = tt}) in
    let d = answered_of w (told_of c.relay_all.new.replies one.passed one.own one.marked one.kept one.asked one.ok one.fit) two.value two.styles
    (told_of c.relay_all-2.new.replies more.passed more.own more.marked more.kept more.asked more.ok more.fit) in
    record {
      passes = stepped_anew d refl c.requires.missing c.finish_replies.ensures.step;
      passed = not_ok c.from_residual-in_err-outcome.result _ c.from_residual-in_err-outcome.ensures.0;
      grows = unkept_anew one.grown more.grown refl (only_none c.relay_all-2.new.store);
      grown = not_ok c.from_residual-in_err-outcome.result _ c.from_residual-in_err-outcome.ensures.0;
      kept = not_ok c.from_residual-in_err-outcome.result _ c.from_residual-in_err-outcome.ensures.0;
      tidy = not_ok c.from_residual-in_err-outcome.result _ c.from_residual-in_err-outcome.ensures.0;
      below = on_err c.from_residual-in_err-outcome.result more.tidy;
      own = on_err c.from_residual-in_err-outcome.result (more.own ∙ one.own);
      ok = not_ok c.from_residual-in_err-outcome.result _ c.from_residual-in_err-outcome.ensures.0;
      fit = not_ok c.from_residual-in_err-outcome.result _ c.from_residual-in_err-outcome.ensures.0;
      range = λ e. let same = rw e at c.from_residual-in_err-outcome.ensures.1 in waves_unfit (waves d) ((c.in_err-outcome.ensures {u = tt}).range (ap Err (sym same)));
    }

pub relay_anew-keep-requires : goal.relay_anew-keep-requires
relay_anew-keep-requires g t c =
    let grows = grown_waves (c.in_ok-relay_all.ensures {u = tt}).grown (c.in_ok-relay_all-2.ensures {u = tt}).grown in
    record { begun = still_begun grows.only c.requires.begun }

pub relay_anew-returns-in_err-keep-clause-grows : goal.relay_anew-returns-in_err-keep-clause-grows
relay_anew-returns-in_err-keep-clause-grows g t c =
    let kept = (c.in_err-keep.ensures {u = tt}) in
    unkept_anew (c.in_ok-relay_all.ensures {u = tt}).grown (c.in_ok-relay_all-2.ensures {u = tt}).grown kept.unchanged kept.grows

pub relay_anew-returns-in_err-keep-clause-passes : goal.relay_anew-returns-in_err-keep-clause-passes
relay_anew-returns-in_err-keep-clause-passes g t c =
    let w = ones_known c.requires.few c.requires.context (c.in_ok-view.ensures {u = tt}) (c.in_ok-one.ensures {u = tt}).ok (c.in_ok-one.ensures {u = tt}).styles in
    let one = (c.in_ok-relay_all.ensures {u = tt}) in
    let two = (c.in_ok-two.ensures {u = tt}) in
    let more = (c.in_ok-relay_all-2.ensures {u = tt}) in
    let d = answered_of w (told_of c.relay_all.new.replies one.passed one.own one.marked one.kept one.asked one.ok one.fit) two.value two.styles
    (told_of c.relay_all-2.new.replies more.passed more.own more.marked more.kept more.asked more.ok more.fit) in
    stepped_anew d (c.in_err-keep.ensures {u = tt}).unchanged c.requires.missing c.finish_replies.ensures.step

pub relay_anew-returns-in_err-keep-clause-below : goal.relay_anew-returns-in_err-keep-clause-below
relay_anew-returns-in_err-keep-clause-below g t c =
    on_err c.from_residual-in_err-keep.result
    (subst (λ (memo : Memo). AreTidy (out-Memo memo).below) (sym (c.in_err-keep.ensures {u = tt}).unchanged) (c.in_ok-relay_all-2.ensures {u = tt}).tidy)

pub relay_anew-returns : goal.relay_anew-returns
relay_anew-returns g t c =
    let w = ones_known c.requires.few c.requires.context (c.in_ok-view.ensures {u = tt}) (c.in_ok-one.ensures {u = tt}).ok (c.in_ok-one.ensures {u = tt}).styles in
    let one = (c.in_ok-relay_all.ensures {u = tt}) in
    let two = (c.in_ok-two.ensures {u = tt}) in
    let more = (c.in_ok-relay_all-2.ensures {u = tt}) in
    let d = answered_of w (told_of c.relay_all.new.replies one.passed one.own one.marked one.kept one.asked one.ok one.fit) two.value two.styles
    (told_of c.relay_all-2.new.replies more.passed more.own more.marked more.kept more.asked more.ok more.fit) in
    let made = (c.in_ok-outcome.ensures {u = tt}) in
    let keep = (c.in_ok-keep.ensures {u = tt}) in
    let whole = fit_anew d (c.in_ok-survey.ensures {u = tt}).fit made.fit in
    let done = passed_anew d keep.kept made.ok whole c.is_regular-regular.ensures c.requires.missing c.finish_replies.ensures.step in
    let grown = grown_anew d keep.kept made.ok whole c.is_regular-regular.ensures (grown_waves one.grown more.grown) c.finish_replies.ensures.step in
    record {
      passes = passes_partly c.args.metrics.now done;
      passed = done;
      grows = grows_partly c.args.metrics.now grown;
      grown = grown;
      kept = kept_anew keep.kept;
      tidy = tidy_anew keep.kept more.tidy;
      below = tt;
      own = tt;
      ok = keep.answer ∙ ap (λ (outcome : Outcome). outcome.answer) (made.ok ∙ waves_lay (waves d));
      fit = whole;
      range = ok_is_not_err _ _;
    }

-- ---- an element of which layout sees the same but for one child

pub relay_again-of-view-requires : goal.relay_again-of-view-requires
relay_again-of-view-requires g t c = shown_by c.requires.agrees c.requires.before c.args.memo.now c.requires.agrees c.requires.few

pub relay_again-asked_again-requires-clause-within : goal.relay_again-asked_again-requires-clause-within
relay_again-asked_again-requires-clause-within g t c =
    let at = was_read c.requires.agrees c.requires.before c.as_slice.result.now c.index-as_slice-before.result c.as_slice-2.result.now c.index-as_slice-place.result
    c.as_slice.ensures c.index-as_slice-before.is c.as_slice-2.ensures c.index-as_slice-place.is in
    subst (λ (n : Node). c.index-as_slice-place.result.question.kid < length (seen_of n).kids) (sym c.of-view.ensures)
    (was_near c.requires.agrees c.requires.before c.index-as_slice-place.result.question at)

pub relay_again-asked_again-requires-clause-size : goal.relay_again-asked_again-requires-clause-size
relay_again-asked_again-requires-clause-size g t c =
    let sized = still_sized c.requires.agrees c.requires.before in
    search rules

pub relay_again-returns-in_err-asked-clause-grows : goal.relay_again-returns-in_err-asked-clause-grows
relay_again-returns-in_err-asked-clause-grows g t c = unchanged_store c.requires.backed

pub relay_again-returns-in_err-asked-clause-passes : goal.relay_again-returns-in_err-asked-clause-passes
relay_again-returns-in_err-asked-clause-passes g t c = nothing_done c.requires.agrees

pub relay_again-offset_bounds-as_slice-place-2 : goal.relay_again-offset_bounds-as_slice-place-2
relay_again-offset_bounds-as_slice-place-2 g t c =
    let there = child_there c.requires.agrees c.requires.before in
    omega (arith, there, few_children c.args.node.now, c.requires.few)

pub relay_again-bounds-as_slice-place-2 : goal.relay_again-bounds-as_slice-place-2
relay_again-bounds-as_slice-place-2 g t c =
    let there = child_there c.requires.agrees c.requires.before in
    omega (arith, there, ap length c.as_slice-3.ensures)

pub relay_again-at_mut-below-requires : goal.relay_again-at_mut-below-requires
relay_again-at_mut-below-requires g t c = memo_there c.requires.agrees c.requires.before

pub relay_again-relay_element-requires : goal.relay_again-relay_element-requires
relay_again-relay_element-requires g t c κs within =
    let asked = (c.in_ok-asked.ensures {u = tt}) in
    let here = turn_of c.requires.agrees c.requires.before c.requires.few c.requires.context c.as_slice.result.now c.index-as_slice-before.result c.as_slice-2.result.now c.index-as_slice-place.result c.as_slice-3.result.now _
    c.as_slice.ensures c.index-as_slice-before.is c.as_slice-2.ensures c.index-as_slice-place.is c.of-view.ensures asked.ok asked.style c.as_slice-3.ensures c.index-as_slice-place-2.is c.at_mut-below.ensures.value in
    let falls = child_smaller here in
    let child_tidy = tidy_below c.args.memo.now c.requires.tidy c.args.before.child c.at_mut-below.result.now c.at_mut-below.ensures.value in
    (omega arith, (within.0, (within.1, (c.requires.begun, (child_agrees here, (child_backed here c.requires.backed, (child_tidy, (child_few here, child_suits here))))))))

pub relay_again-returns-in_err-answer : goal.relay_again-returns-in_err-answer
relay_again-returns-in_err-answer g t c =
    let asked = (c.in_ok-asked.ensures {u = tt}) in
    let here = turn_of c.requires.agrees c.requires.before c.requires.few c.requires.context c.as_slice.result.now c.index-as_slice-before.result c.as_slice-2.result.now c.index-as_slice-place.result c.as_slice-3.result.now _
    c.as_slice.ensures c.index-as_slice-before.is c.as_slice-2.ensures c.index-as_slice-place.is c.of-view.ensures asked.ok asked.style c.as_slice-3.ensures c.index-as_slice-place-2.is c.at_mut-below.ensures.value in
    let made = (c.in_err-answer.ensures {u = tt}) in
    record {
      passes = passed_child here made.passes;
      passed = not_ok c.from_residual-in_err-answer.result _ c.from_residual-in_err-answer.ensures.0;
      grows = grown_child here c.requires.backed made.grows;
      grown = not_ok c.from_residual-in_err-answer.result _ c.from_residual-in_err-answer.ensures.0;
      kept = not_ok c.from_residual-in_err-answer.result _ c.from_residual-in_err-answer.ensures.0;
      tidy = tidy_child c.args.memo.now c.args.before.child c.relay_element.new.memo c.requires.before.alike c.requires.tidy made.tidy;
      ok = not_ok c.from_residual-in_err-answer.result _ c.from_residual-in_err-answer.ensures.0;
      fit = not_ok c.from_residual-in_err-answer.result _ c.from_residual-in_err-answer.ensures.0;
      range = λ e. let same = rw e at c.from_residual-in_err-answer.ensures.1 in child_unfit here (made.range (ap Err (sym same)));
    }

pub relay_again-make_again-requires : goal.relay_again-make_again-requires
relay_again-make_again-requires g t c =
    let asked = (c.in_ok-asked.ensures {u = tt}) in
    let here = turn_of c.requires.agrees c.requires.before c.requires.few c.requires.context c.as_slice.result.now c.index-as_slice-before.result c.as_slice-2.result.now c.index-as_slice-place.result c.as_slice-3.result.now _
    c.as_slice.ensures c.index-as_slice-before.is c.as_slice-2.ensures c.index-as_slice-place.is c.of-view.ensures asked.ok asked.style c.as_slice-3.ensures c.index-as_slice-place-2.is c.at_mut-below.ensures.value in
    let done = (c.in_ok-answer.ensures {u = tt}) in
    let d = heard_of here done.passed done.ok done.kept in
    let agrees = c.requires.agrees in
    let before = c.requires.before in
    let sized = still_sized agrees before in
    record {
      begun = still_begun done.grown.only c.requires.begun;
      entry = near_entry agrees before c.relay_element.new.memo;
      asked = omega (arith, before.serves.within, ap length (one_now agrees before c.relay_element.new.memo));
      shown = shown_again d;
      fits = record { style = c.requires.context.style; stretch = c.requires.context.stretch };
      size = search rules;
      one_wave = (still_regular agrees before).one_wave;
      ones = ones_again d;
      stored = answers_again d;
      fonts = fonts_again d;
    }

pub relay_again-returns : goal.relay_again-returns
relay_again-returns g t c =
    let asked = (c.in_ok-asked.ensures {u = tt}) in
    let here = turn_of c.requires.agrees c.requires.before c.requires.few c.requires.context c.as_slice.result.now c.index-as_slice-before.result c.as_slice-2.result.now c.index-as_slice-place.result c.as_slice-3.result.now _
    c.as_slice.ensures c.index-as_slice-before.is c.as_slice-2.ensures c.index-as_slice-place.is c.of-view.ensures asked.ok asked.style c.as_slice-3.ensures c.index-as_slice-place-2.is c.at_mut-below.ensures.value in
    let done = (c.in_ok-answer.ensures {u = tt}) in
    let d = heard_of here done.passed done.ok done.kept in
    let new = c.relay_element.new.memo in
    let result = c.make_again.result in
    let made = c.make_again.ensures in
    record {
      passes = on_each result made.made made.fit made.unchanged
          (λ again fits. passes_partly c.args.metrics.now (passed_again d again fits c.requires.missing made.step))
          (λ same. stepped_again d same c.requires.missing made.step);
      grows = on_each result made.made made.fit (err_both result _ _ made.unchanged made.same)
          (λ again fits. grows_partly c.args.metrics.now (grown_again d c.requires.backed done.grown again made.step))
          (λ same. unkept_again d c.requires.backed done.grown same.0 same.1);
      grown = on_both result made.made made.fit (λ again fits. grown_again d c.requires.backed done.grown again made.step);
      passed = on_both result made.made made.fit (λ again fits. passed_again d again fits c.requires.missing made.step);
      kept = on_both result made.made made.fit (λ again fits. kept_again c.requires.agrees c.requires.before new c.make_again.new.memo _ _ again);
      tidy = on_each result made.made made.fit made.unchanged
          (λ again fits. tidied_again c.requires.agrees c.requires.before new c.make_again.new.memo _ _ again c.requires.tidy
          (tidy_renewed c.args.memo.now c.args.before.child c.at_mut-below.result.now new c.at_mut-below.ensures.value (tidy_below c.args.memo.now c.requires.tidy) (λ _. done.tidy)))
          (λ same. subst IsTidy (sym same) (tidy_child c.args.memo.now c.args.before.child new c.requires.before.alike c.requires.tidy done.tidy));
      ok = answer_again d result made.ok;
      fit = on_both result made.made made.fit (λ again fits. fit_again d fits);
      range = λ e. unfit_again d (made.range e);
    }
