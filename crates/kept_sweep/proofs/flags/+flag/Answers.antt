use Rattle.std.proofs.Common.{◌≡◌, ◌∙◌, ◌<◌, ◌++◌, sym, ap, subst, arith, List, length, map, set, take, Contains, slice_get, Some}
use Rattle.std.proofs.lemmas.List.{length-map}
use Rattle.std.proofs.lemmas.List.Elements.{All-from_recursion, Contains-append_left, Contains-append_right}
use Rattle.std.proofs.lemmas.Option.{slice_get_within}
use Rattle.std.specs.List.{AllByRecursion}
use Rattle.math_tree.specs.declared.node.Node.TheViews.{out-Node, size-Node}
use Rattle.embellished.specs.Facts.{facts}
use Rattle.embellished.specs.Seen.{flow_children}
use Rattle.embellished.proofs.InFlow.{among}
use Rattle.layout_model.specs.Answers.{questions_in}
use Rattle.layout_model.specs.declared.context.Question.{Question}
use Rattle.layout_model.proofs.Replies.{asked_at, asked_within}
use Rattle.layout_model.proofs.Children.{item_of}
use Rattle.kept_results.specs.Kept.{NamesKept}
use Rattle.kept_results.specs.Looking.{own_facts}
use Rattle.kept_results.specs.declared.memo.Memo.{Memo}
use Rattle.kept_results.specs.declared.memo.Memo.TheViews.{out-Memo}
use Rattle.kept_results.proofs.Lists.{all_more, all_then}
use Rattle.kept_sweep.specs.Flagged.{AreFlagged, BelowAgree, IsFlagged, cleared}
use Rattle.kept_sweep.proofs.Flagging.{child_read, found_smaller, known_still, named_now, place_near, entry_read, flagged_already, flagged_both, flagged_end, flagged_none, flagged_one, named_one, named_still, never_missing, place_within, ready, same_whole, whole_entries}
use Rattle.kept_sweep.proofs.flags.+flag.Goals as goal

-- ---- one entry

pub flag_needed-bounds-as_slice-at-then-not-is_fresh : goal.flag_needed-bounds-as_slice-at-then-not-is_fresh
flag_needed-bounds-as_slice-at-then-not-is_fresh t c =
    let f = (c.in-Some.ensures {u = tt}).some in
    let h = slice_get_within (out-Memo c.args.memo.now).entries c.in-Some.at f.entry f.at in
    omega (arith, h, ap length (c.as_slice-then-not-is_fresh.ensures ∙ whole_entries c.args.memo.now))

pub flag_needed-flag_asked-requires : goal.flag_needed-flag_asked-requires
flag_needed-flag_asked-requires t c =
    let x = c.index-as_slice-at-then-not-is_fresh in
    let r = entry_read c.args.memo.now c.args.context.now c.in-Some.at c.as_slice-then-not-is_fresh.result.now x.result (c.in-Some.ensures {u = tt}).some (c.as_slice-then-not-is_fresh.ensures ∙ whole_entries c.args.memo.now) x.is in
    let all = ready c.args.metrics.now c.args.node.now c.args.memo.now c.in-Some.at x.result c.requires.agrees c.requires.whole r.0 in
    (omega arith, (all.own, (all.known, (all.agrees, (all.whole, (all.ones, all.twos))))))

pub flag_needed-at_mut-requires : goal.flag_needed-at_mut-requires
flag_needed-at_mut-requires t c =
    let f = (c.in-Some.ensures {u = tt}).some in
    place_within c.args.memo.now c.flag_asked.new.below c.in-Some.at f.entry f.at

pub flag_needed-returns-then-not-is_fresh : goal.flag_needed-returns-then-not-is_fresh
flag_needed-returns-then-not-is_fresh t c =
    let x = c.index-as_slice-at-then-not-is_fresh in
    let r = entry_read c.args.memo.now c.args.context.now c.in-Some.at c.as_slice-then-not-is_fresh.result.now x.result (c.in-Some.ensures {u = tt}).some (c.as_slice-then-not-is_fresh.ensures ∙ whole_entries c.args.memo.now) x.is in
    flagged_end c.args.metrics.now c.args.node.now c.args.memo.now c.in-Some.at x.result c.requires.agrees c.requires.whole r.0 c.args.context.now c.at_mut.result.now c.flag_asked.new.below r.1 c.at_mut.ensures.value
    c.flag_asked.ensures.flagged c.flag_asked.ensures.ones c.flag_asked.ensures.twos

pub flag_needed-returns-else-not-is_fresh : goal.flag_needed-returns-else-not-is_fresh
flag_needed-returns-else-not-is_fresh t c =
    let x = c.index-as_slice-at in
    let r = entry_read c.args.memo.now c.args.context.now c.in-Some.at c.as_slice.result.now x.result (c.in-Some.ensures {u = tt}).some c.as_slice.ensures x.is in
    subst (IsFlagged c.args.metrics.now c.args.node.now c.args.context.now c.args.memo.now) (sym (same_whole c.args.memo.now))
    (flagged_already c.args.metrics.now c.args.node.now c.args.memo.now c.args.context.now c.in-Some.at x.result c.requires.agrees r.0 r.1 (sym c.is_fresh.ensures ∙ c.if-not-is_fresh.false))

pub flag_needed-returns-in_default : goal.flag_needed-returns-in_default
flag_needed-returns-in_default t c =
    absurd (never_missing c.args.metrics.now c.args.node.now c.args.memo.now c.args.context.now c.requires.kept (c.in_default.ensures {u = tt}).none)

-- ---- both waves

pub flag_asked-flag_wave-requires-2 : goal.flag_asked-flag_wave-requires-2
flag_asked-flag_wave-requires-2 t c =
    let m = c.args.metrics.now in
    let node = c.args.node.now in
    let done = c.flag_wave.ensures.flagged in
    let whole : BelowAgree m node (map cleared c.flag_wave.new.below) = subst (λ (l : List Memo). BelowAgree m node l) (sym done.same) c.requires.whole in
    let twos : AllByRecursion (NamesKept node (map cleared c.flag_wave.new.below)) (questions_in c.args.entry.now.two) =
    subst (λ (l : List Memo). AllByRecursion (NamesKept node l) (questions_in c.args.entry.now.two)) (sym done.same) c.requires.twos in
    (omega arith, (c.requires.own, (known_still done c.requires.known, (done.agrees, (whole, twos)))))

pub flag_asked-returns-clause-flagged : goal.flag_asked-returns-clause-flagged
flag_asked-returns-clause-flagged t c =
    let ones : List Question = questions_in c.args.entry.now.one in
    let twos : List Question = questions_in c.args.entry.now.two in
    flagged_both (ones ++ twos) (λ q i. Contains-append_left ones twos q i) (λ q i. Contains-append_right ones twos q i) c.flag_wave.ensures.flagged c.flag_wave-2.ensures.flagged

pub flag_asked-returns-clause-ones : goal.flag_asked-returns-clause-ones
flag_asked-returns-clause-ones t c =
    all_then (NamesKept c.args.node.now c.flag_wave.new.below) (NamesKept c.args.node.now c.flag_wave-2.new.below) (named_still c.flag_wave-2.ensures.flagged) (questions_in c.args.entry.now.one) c.flag_wave.ensures.named

pub flag_wave-returns-else-not-is_empty-clause-flagged : goal.flag_wave-returns-else-not-is_empty-clause-flagged
flag_wave-returns-else-not-is_empty-clause-flagged t c = flagged_none (questions_in c.args.replies.now) c.args.below.now c.requires.agrees

-- ---- one question after another

pub flag_all-place_from-place-requires-clause-known : goal.flag_all-place_from-place-requires-clause-known
flag_all-place_from-place-requires-clause-known t c = ap (map own_facts) c.as_slice.ensures ∙ known_still c.loop-asked.invariant.flagged c.requires.known

pub flag_all-place_from-place-requires-clause-within : goal.flag_all-place_from-place-requires-clause-within
flag_all-place_from-place-requires-clause-within t c =
    let node = c.args.node.now in
    let q = c.asked-item.result.question in
    let P : Question → Type 0 = NamesKept node (map cleared c.args.below.now) in
    let named = item_of P _ _ c.loop-asked.asked-index q (All-from_recursion P (questions_in c.args.replies.now) c.requires.named) (ap questions_in c.as_slice-asked-items.ensures) (asked_within _ _ c.loop-asked-test.true) (asked_at _ _ _ c.loop-asked-test.true c.asked-item.is) in
    slice_get_within (flow_children node) q.kid named.child named.to

pub flag_all-bounds-as_slice-place : goal.flag_all-bounds-as_slice-place
flag_all-bounds-as_slice-place t c =
    omega (arith, place_near c.args.node.now c.asked-item.result.question.kid c.place_from-place.result c.place_from-place.ensures.child, ap length c.as_slice-in-loop-asked.ensures)

pub flag_all-offset_bounds-as_slice-place : goal.flag_all-offset_bounds-as_slice-place
flag_all-offset_bounds-as_slice-place t c =
    let within = flag_all-bounds-as_slice-place t c in
    omega (arith, within, c.as_slice-in-loop-asked.type_inv.0, c.as_slice-in-loop-asked.type_inv.1)

pub flag_all-at_mut-requires : goal.flag_all-at_mut-requires
flag_all-at_mut-requires t c =
    let node = c.args.node.now in
    let near = place_near node c.asked-item.result.question.kid c.place_from-place.result c.place_from-place.ensures.child in
    let known = ap length (known_still c.loop-asked.invariant.flagged c.requires.known) in
    omega (arith, near, known, length-map c.loop-asked.below own_facts, length-map (out-Node node).children facts)

pub flag_all-flag_needed-requires : goal.flag_all-flag_needed-requires
flag_all-flag_needed-requires t c =
    let m = c.args.metrics.now in
    let node = c.args.node.now in
    let q = c.asked-item.result.question in
    let place = c.place_from-place.result in
    let kid = c.index-as_slice-place.result in
    let old = c.at_mut.result.now in
    let done = c.loop-asked.invariant.flagged in
    let P : Question → Type 0 = NamesKept node (map cleared c.args.below.now) in
    let named = item_of P _ _ c.loop-asked.asked-index q (All-from_recursion P (questions_in c.args.replies.now) c.requires.named) (ap questions_in c.as_slice-asked-items.ensures) (asked_within _ _ c.loop-asked-test.true) (asked_at _ _ _ c.loop-asked-test.true c.asked-item.is) in
    let to = child_read node kid q.kid place c.as_slice-in-loop-asked.result.now c.place_from-place.ensures.child c.as_slice-in-loop-asked.ensures c.index-as_slice-place.is in
    let at : slice_get (out-Node node).children place ≡ Some kid = among node q.kid record { place = place; node = kid } to in
    let falls : size-Node kid < size-Node node = found_smaller node kid q.kid place to in
    let now = named_now node kid place q c.args.below.now c.loop-asked.below old to done.same c.at_mut.ensures.value named in
    (omega arith, (done.agrees place kid old at c.at_mut.ensures.value, (c.requires.whole place kid (cleared old) at now.0, now.1)))

pub flag_all-loop-asked-preserved : goal.flag_all-loop-asked-preserved
flag_all-loop-asked-preserved t c =
    let m = c.args.metrics.now in
    let node = c.args.node.now in
    let asks = questions_in c.args.replies.now in
    let items = questions_in c.as_slice-asked-items.result.now in
    let i = c.loop-asked.asked-index in
    let q = c.asked-item.result.question in
    let below = c.loop-asked.below in
    let new = c.flag_needed.new.memo in
    let place = c.place_from-place.result in
    let kid = c.index-as_slice-place.result in
    let asked : Contains asks q = subst (λ (l : List Question). Contains l q) (ap questions_in c.as_slice-asked-items.ensures) (i, asked_within _ _ c.loop-asked-test.true, sym (asked_at _ _ _ c.loop-asked-test.true c.asked-item.is)) in
    let to = child_read node kid q.kid place c.as_slice-in-loop-asked.result.now c.place_from-place.ensures.child c.as_slice-in-loop-asked.ensures c.index-as_slice-place.is in
    let one : AreFlagged m node asks below (set below place new) =
    flagged_one m node kid place asks q asked to below c.at_mut.result.now new c.at_mut.ensures.value c.flag_needed.ensures c.loop-asked.invariant.flagged.agrees in
    let last : NamesKept node (set below place new) q = named_one m node kid place asks q asked to below c.at_mut.result.now new c.at_mut.ensures.value c.flag_needed.ensures in
    record {
      flagged = flagged_both asks (λ x k. k) (λ x k. k) c.loop-asked.invariant.flagged one;
      named = all_more (NamesKept node (set below place new)) items i q (asked_within _ _ c.loop-asked-test.true) (asked_at _ _ _ c.loop-asked-test.true c.asked-item.is)
          (all_then (NamesKept node below) (NamesKept node (set below place new)) (named_still one) (take i items) c.loop-asked.invariant.named) last;
      counted = c.place_from-place.ensures.spot;
    }
