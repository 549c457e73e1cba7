use Rattle.std.proofs.Common.{rules, ◌∙◌, refl, sym, ap, subst, ◌<◌, arith, length, map, take, Err}
use Rattle.std.proofs.lemmas.List.{length-map, length-replicate}
use Rattle.math_tree.specs.declared.node.Node.{Node}
use Rattle.math_tree.specs.declared.node.Node.TheViews.{out-Node, size-Node}
use Rattle.embellished.specs.Known.{known_of}
use Rattle.embellished.specs.Seen.{seen_of}
use Rattle.embellished.specs.declared.known.Known.{Known}
use Rattle.embellished.specs.declared.known.Known.TheViews.{out-Known}
use Rattle.embellished.proofs.KnownFacts.{is_known}
use Rattle.layout_model.specs.Fits.{AreAnswers, HasStyle}
use Rattle.layout_model.specs.Laws.{answer_of}
use Rattle.layout_model.specs.Questions.{IsBelow}
use Rattle.layout_model.specs.Layout.{lay}
use Rattle.layout_model.specs.Range.{is_font_size, outcome_fits}
use Rattle.layout_core.specs.Slots.{with_laid}
use Rattle.style_scope.specs.Sizes.{size_of}
use Rattle.layout_model.proofs.Asked.{IsQuestionStored}
use Rattle.layout_model.proofs.Children.{child_of, few_below, few_children, in_flow, item_of, known_at, known_below, near, smaller}
use Rattle.layout_model.proofs.Fits.{answers_are, fonts_are, range_is}
use Rattle.layout_core.proofs.Placed.{as_many_places, kept_more, kept_none, told_more}
use Rattle.layout_model.proofs.Waves.{all_fit, broken, count_more, fit_more}
use Rattle.layout_core.proofs.LaidWaves.{laid_waves}
use Rattle.layout_model.proofs.Whole.{and_true, answers_all, fits_true, first_false, lay_waves, ones_apart, ones_below, ones_false, ones_stored, outcome_false, range_waves, size_false, twos_apart, twos_below, twos_false, twos_stored, visits_waves}
use Rattle.layout_core.proofs.fresh.+lay.Goals as goal

-- ---- one question after another

pub ask_all-loop-asked-init : goal.ask_all-loop-asked-init
ask_all-loop-asked-init g t c = record {
  told = c.in_ok-answers.ensures {u = tt};
  count = omega arith;
  kept = sym (kept_none c.args.metrics.now c.args.node.now c.args.slots.now.items);
  fit = refl;
}

pub ask_all-bounds-as_slice-place : goal.ask_all-bounds-as_slice-place
ask_all-bounds-as_slice-place g t c =
    let node = c.args.node.now in
    let n = child_of _ node _ _ c.requires.shown c.node_at-kid.ensures in
    let p = child_of _ node _ _ c.requires.shown c.place.ensures in
    let within = near node _ _ _ n p in
    omega (arith, within, ap length (c.as_slice.ensures ∙ known_below node c.args.known.now c.requires.known), length-map (out-Node node).children known_of)

pub ask_all-offset_bounds-as_slice-place : goal.ask_all-offset_bounds-as_slice-place
ask_all-offset_bounds-as_slice-place g t c =
    let node = c.args.node.now in
    let n = child_of _ node _ _ c.requires.shown c.node_at-kid.ensures in
    let p = child_of _ node _ _ c.requires.shown c.place.ensures in
    omega (arith, near node _ _ _ n p, few_children node, c.requires.few)

pub ask_all-lay_element-requires : goal.ask_all-lay_element-requires
ask_all-lay_element-requires g t c κs within =
    let node = c.args.node.now in
    let n = child_of _ node _ _ c.requires.shown c.node_at-kid.ensures in
    let p = child_of _ node _ _ c.requires.shown c.place.ensures in
    let falls : size-Node c.node_at-kid.result.now < size-Node node = smaller node _ _ _ n p in
    let known = known_at node _ _ _ n p c.as_slice.result.now c.index-as_slice-place.result
    (c.as_slice.ensures ∙ known_below node c.args.known.now c.requires.known) c.index-as_slice-place.is in
    let few = few_below node _ _ _ n p in
    let items = c.as_slice-asked-items.ensures in
    let style = item_of HasStyle _ _ c.loop-asked.asked-index c.asked-item.result c.requires.styles items c.loop-asked-test.true c.asked-item.is in
    let stretch = item_of IsQuestionStored _ _ c.loop-asked.asked-index c.asked-item.result c.requires.stretches items c.loop-asked-test.true c.asked-item.is in
    (omega arith, (within, (known, (omega (arith, few, c.requires.few), record { style = style; stretch = stretch }))))

pub ask_all-take_in-requires : goal.ask_all-take_in-requires
ask_all-take_in-requires g t c =
    let m = c.args.metrics.now in
    let node = c.args.node.now in
    let asks = take c.loop-asked.asked-index c.as_slice-asked-items.result.now in
    let below : IsBelow (length (seen_of node).kids) c.asked-item.result =
    item_of (IsBelow (length (seen_of node).kids)) _ _ c.loop-asked.asked-index c.asked-item.result c.requires.within c.as_slice-asked-items.ensures c.loop-asked-test.true c.asked-item.is in
    omega (arith, below, ap length c.loop-asked.invariant.kept, as_many_places m node asks c.args.slots.now.items, c.requires.places)

pub ask_all-returns-in_err-laid-clause-range : goal.ask_all-returns-in_err-laid-clause-range
ask_all-returns-in_err-laid-clause-range g t c = λ e.
    let node = c.args.node.now in
    let n = child_of _ node _ _ c.requires.shown c.node_at-kid.ensures in
    let p = child_of _ node _ _ c.requires.shown c.place.ensures in
    let same = rw e at c.from_residual-in_err-laid.ensures.1 in
    ap (all_fit c.args.metrics.now node) (sym c.as_slice-asked-items.ensures)
    ∙ broken c.args.metrics.now node c.as_slice-asked-items.result.now c.loop-asked.asked-index c.asked-item.result c.node_at-kid.result.now
    c.loop-asked-test.true c.asked-item.is (in_flow node _ _ _ n p) ((c.in_err-laid.ensures {u = tt}).range (ap Err (sym same)))

pub ask_all-loop-asked-preserved : goal.ask_all-loop-asked-preserved
ask_all-loop-asked-preserved g t c =
    let m = c.args.metrics.now in
    let node = c.args.node.now in
    let n = child_of _ node _ _ c.requires.shown c.node_at-kid.ensures in
    let p = child_of _ node _ _ c.requires.shown c.place.ensures in
    let at = in_flow node _ _ _ n p in
    let items = c.as_slice-asked-items.result.now in
    let i = c.loop-asked.asked-index in
    let q = c.asked-item.result in
    let kid = c.node_at-kid.result.now in
    let made = (c.in_ok-laid.ensures {u = tt}) in
    let taken = (c.in_ok-take_in.ensures {u = tt}) in
    record {
      told = told_more m node items i q kid c.loop-asked-test.true c.asked-item.is at c.loop-asked.answers c.take_in.new.answers c.in_ok-laid.laid c.loop-asked.invariant.told made.ok taken.answers;
      count = count_more m node items i q kid c.loop-asked-test.true c.asked-item.is at _ _ _ c.loop-asked.invariant.count made.steps;
      kept = kept_more m node items i q kid c.loop-asked-test.true c.asked-item.is at c.args.slots.now.items c.loop-asked.slots.items _ c.in_ok-laid.laid c.loop-asked.invariant.kept made.ok taken.slots;
      fit = fit_more m node items i q kid c.loop-asked-test.true c.asked-item.is at c.loop-asked.invariant.fit made.fit;
    }

-- ---- an element

pub lay_element-make-requires-clause-own : goal.lay_element-make-requires-clause-own
lay_element-make-requires-clause-own g t c = ap (λ (k : Known). (out-Known k).facts) c.requires.known ∙ (is_known c.args.node.now).facts_are

pub lay_element-make-requires-clause-known : goal.lay_element-make-requires-clause-known
lay_element-make-requires-clause-known g t c = ap (λ (k : Known). (out-Known k).kids) c.requires.known ∙ (is_known c.args.node.now).kids_are

pub lay_element-make-requires-clause-few : goal.lay_element-make-requires-clause-few
lay_element-make-requires-clause-few g t c = omega (arith, few_children c.args.node.now, c.requires.few)

pub lay_element-returns-in_err-ones-clause-range : goal.lay_element-returns-in_err-ones-clause-range
lay_element-returns-in_err-ones-clause-range g t c = λ e.
    let same = rw e at c.from_residual-in_err-ones.ensures.1 in
    range_is c.args.metrics.now c.args.node.now c.args.context.now
    ∙ size_false _ _ (size_false _ _ ((c.in_err-ones.ensures {u = tt}).range (ap Err (sym same))))

pub lay_element-ask_all-requires : goal.lay_element-ask_all-requires
lay_element-ask_all-requires g t c κs within =
    let m = c.args.metrics.now in
    let node = c.args.node.now in
    let shown = c.in_ok-view.ensures {u = tt} in
    let o = (c.in_ok-ones.ensures {u = tt}) in
    let places = ap length (c.in_ok-slots.ensures {u = tt}) ∙ length-replicate c.kids.result _ ∙ c.kids.ensures.count ∙ ap (λ (n : Node). length (seen_of n).kids) shown in (
      omega arith,
      (
        within,
        (
          shown,
          (
            c.requires.known,
            (
              c.requires.few,
              (
                places,
                (ones_below m node _ c.args.context.now shown _ o.ok, (o.styles, ones_stored m node _ c.args.context.now shown _ o.ok c.requires.context.stretch)),
              ),
            ),
          ),
        ),
      ),
    )

pub lay_element-returns-in_err-one-clause-range : goal.lay_element-returns-in_err-one-clause-range
lay_element-returns-in_err-one-clause-range g t c = λ e.
    let m = c.args.metrics.now in
    let node = c.args.node.now in
    let shown = c.in_ok-view.ensures {u = tt} in
    let o = (c.in_ok-ones.ensures {u = tt}).ok in
    let same = rw e at c.from_residual-in_err-one.ensures.1 in
    let whole = range_waves m node _ c.args.context.now shown c.in_ok-ones.ones o (map (answer_of m node) c.in_ok-ones.ones) refl _ refl in
    ones_false _ _ _ _ whole ((c.in_err-one.ensures {u = tt}).range (ap Err (sym same)))

pub lay_element-wave_two-requires-clause-answers : goal.lay_element-wave_two-requires-clause-answers
lay_element-wave_two-requires-clause-answers g t c =
    let one = (c.in_ok-one.ensures {u = tt}) in
    let m = c.args.metrics.now in
    let node = c.args.node.now in
    let apart = ones_apart m node _ c.args.context.now (c.in_ok-view.ensures {u = tt}) c.in_ok-ones.ones (c.in_ok-ones.ensures {u = tt}).ok in
    subst AreAnswers (sym one.ok) (answers_are m node c.requires.few c.in_ok-ones.ones apart one.fit)

pub lay_element-ask_all-requires-2 : goal.lay_element-ask_all-requires-2
lay_element-ask_all-requires-2 g t c κs within =
    let m = c.args.metrics.now in
    let node = c.args.node.now in
    let shown = c.in_ok-view.ensures {u = tt} in
    let o = (c.in_ok-ones.ensures {u = tt}) in
    let one = (c.in_ok-one.ensures {u = tt}) in
    let two = (c.in_ok-twos.ensures {u = tt}) in
    let apart = ones_apart m node _ c.args.context.now shown c.in_ok-ones.ones o.ok in
    let fits = subst AreAnswers (sym one.ok) (answers_are m node c.requires.few c.in_ok-ones.ones apart one.fit) in
    let places = ap length one.slots ∙ as_many_places m node c.in_ok-ones.ones c.in_ok-slots.slots.items
    ∙ ap length (c.in_ok-slots.ensures {u = tt}) ∙ length-replicate c.kids.result _ ∙ c.kids.ensures.count ∙ ap (λ (n : Node). length (seen_of n).kids) shown in (
      omega arith,
      (
        within,
        (
          shown,
          (
            c.requires.known,
            (
              c.requires.few,
              (
                places,
                (twos_below m node _ c.args.context.now shown _ o.ok c.in_ok-one.one one.ok _ two.value, (two.styles, twos_stored m node _ c.args.context.now shown _ o.ok c.in_ok-one.one one.ok _ two.value fits)),
              ),
            ),
          ),
        ),
      ),
    )

pub lay_element-returns-in_err-two-clause-range : goal.lay_element-returns-in_err-two-clause-range
lay_element-returns-in_err-two-clause-range g t c = λ e.
    let m = c.args.metrics.now in
    let shown = c.in_ok-view.ensures {u = tt} in
    let same = rw e at c.from_residual-in_err-two.ensures.1 in
    let whole = range_waves m c.args.node.now _ c.args.context.now shown c.in_ok-ones.ones (c.in_ok-ones.ensures {u = tt}).ok c.in_ok-one.one (c.in_ok-one.ensures {u = tt}).ok c.in_ok-twos.twos (c.in_ok-twos.ensures {u = tt}).value in
    twos_false _ _ _ _ whole ((c.in_err-two.ensures {u = tt}).range (ap Err (sym same)))

pub lay_element-finish-requires-clause-answers : goal.lay_element-finish-requires-clause-answers
lay_element-finish-requires-clause-answers g t c =
    let m = c.args.metrics.now in
    let node = c.args.node.now in
    let shown = c.in_ok-view.ensures {u = tt} in
    let one = (c.in_ok-one.ensures {u = tt}) in
    let two = (c.in_ok-two.ensures {u = tt}) in
    let o = (c.in_ok-ones.ensures {u = tt}).ok in
    let t = (c.in_ok-twos.ensures {u = tt}).value in
    let below = ones_below m node _ c.args.context.now shown c.in_ok-ones.ones o in
    let above = twos_below m node _ c.args.context.now shown c.in_ok-ones.ones o c.in_ok-one.one one.ok c.in_ok-twos.twos t in
    answers_all m node _ c.args.context.now shown c.in_ok-ones.ones o c.in_ok-one.one one.ok c.in_ok-twos.twos t c.in_ok-two.two two.ok
    (subst AreAnswers (sym one.ok)
    (answers_are m node c.requires.few c.in_ok-ones.ones (ones_apart m node _ c.args.context.now shown c.in_ok-ones.ones o) one.fit))
    (subst AreAnswers (sym two.ok)
    (answers_are m node c.requires.few c.in_ok-twos.twos
    (twos_apart m node _ c.args.context.now shown c.in_ok-ones.ones o c.in_ok-one.one one.ok c.in_ok-twos.twos t) two.fit))
    (fonts_are m node c.requires.few c.in_ok-ones.ones below one.fit)
    (fonts_are m node c.requires.few c.in_ok-twos.twos above two.fit)

pub lay_element-returns-in_err-outcome-clause-range : goal.lay_element-returns-in_err-outcome-clause-range
lay_element-returns-in_err-outcome-clause-range g t c = λ e.
    let m = c.args.metrics.now in
    let node = c.args.node.now in
    let shown = c.in_ok-view.ensures {u = tt} in
    let same = rw e at c.from_residual-in_err-outcome.ensures.1 in
    let o = (c.in_ok-ones.ensures {u = tt}).ok in
    let a = (c.in_ok-one.ensures {u = tt}).ok in
    let w = (c.in_ok-twos.ensures {u = tt}).value in
    let whole = range_waves m node _ c.args.context.now shown c.in_ok-ones.ones o c.in_ok-one.one a c.in_ok-twos.twos w in
    let laid = lay_waves m node _ c.args.context.now shown c.in_ok-ones.ones o c.in_ok-one.one a c.in_ok-twos.twos w c.in_ok-two.two (c.in_ok-two.ensures {u = tt}).ok in
    first_false _ (all_fit m node c.in_ok-ones.ones) (all_fit m node c.in_ok-twos.twos) _ whole (outcome_false (is_font_size (size_of m c.args.context.now.style)) (outcome_fits (lay m node c.args.context.now)) (ap outcome_fits (sym laid) ∙ (c.in_err-outcome.ensures {u = tt}).range (ap Err (sym same))))

pub lay_element-returns-clause-ok : goal.lay_element-returns-clause-ok
lay_element-returns-clause-ok g t c =
    let m = c.args.metrics.now in
    let node = c.args.node.now in
    let shown = c.in_ok-view.ensures {u = tt} in
    let o = (c.in_ok-ones.ensures {u = tt}).ok in
    let one = (c.in_ok-one.ensures {u = tt}) in
    let w = (c.in_ok-twos.ensures {u = tt}).value in
    let two = (c.in_ok-two.ensures {u = tt}) in
    let made = (c.in_ok-outcome.ensures {u = tt}).ok ∙ lay_waves m node _ c.args.context.now shown c.in_ok-ones.ones o c.in_ok-one.one one.ok c.in_ok-twos.twos w c.in_ok-two.two two.ok in
    let count = c.kids.ensures.count ∙ ap (λ (n : Node). length (seen_of n).kids) shown in
    let kept = two.slots ∙ ap (with_laid m node c.in_ok-twos.twos) one.slots in
    (c.in_ok-laid_over.ensures {u = tt})
    ∙ laid_waves m node _ c.args.context.now shown c.in_ok-ones.ones o c.in_ok-one.one one.ok c.in_ok-twos.twos w (out-Node node).head c.in_ok-outcome.outcome _
    c.in_ok-slots.slots.items c.kids.result refl made (c.in_ok-slots.ensures {u = tt}) count kept

pub lay_element-returns-clause-steps : goal.lay_element-returns-clause-steps
lay_element-returns-clause-steps g t c =
    let m = c.args.metrics.now in
    let shown = c.in_ok-view.ensures {u = tt} in
    let o = (c.in_ok-ones.ensures {u = tt}).ok in
    let one = (c.in_ok-one.ensures {u = tt}) in
    let two = (c.in_ok-two.ensures {u = tt}) in
    let all = visits_waves m c.args.node.now _ c.args.context.now shown c.in_ok-ones.ones o c.in_ok-one.one one.ok c.in_ok-twos.twos (c.in_ok-twos.ensures {u = tt}).value in
    omega (arith, all, one.steps, two.steps, c.finish.ensures.step)

pub lay_element-returns-clause-fit : goal.lay_element-returns-clause-fit
lay_element-returns-clause-fit g t c =
    let m = c.args.metrics.now in
    let node = c.args.node.now in
    let shown = c.in_ok-view.ensures {u = tt} in
    let o = (c.in_ok-ones.ensures {u = tt}) in
    let one = (c.in_ok-one.ensures {u = tt}) in
    let w = (c.in_ok-twos.ensures {u = tt}).value in
    let two = (c.in_ok-two.ensures {u = tt}) in
    let whole = range_waves m node _ c.args.context.now shown c.in_ok-ones.ones o.ok c.in_ok-one.one one.ok c.in_ok-twos.twos w in
    let laid = lay_waves m node _ c.args.context.now shown c.in_ok-ones.ones o.ok c.in_ok-one.one one.ok c.in_ok-twos.twos w c.in_ok-two.two two.ok in
    fits_true _ _ _ _ whole (and_true _ _ o.fit (ap outcome_fits (sym laid) ∙ (c.in_ok-outcome.ensures {u = tt}).fit)) one.fit two.fit
