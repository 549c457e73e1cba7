use Rattle.std.proofs.Common.{◌<◌, ◌∙◌, refl, sym, ap, ℕ, arith, [], length}
use Rattle.math_tree.specs.declared.node.Node.{Node}
use Rattle.math_tree.specs.declared.node.Node.TheViews.{out-Node, size-Node}
use Rattle.layout_model.specs.Layout.{last_context, lay}
use Rattle.kept_results.specs.Kept.{IsMemoOf}
use Rattle.kept_results.specs.declared.memo.Memo.{Memo}
use Rattle.kept_results.specs.declared.memo.Memo.TheViews.{out-Memo}
use Rattle.kept_results.proofs.Agreement.{agrees_child}
use Rattle.kept_results.proofs.Backed.{are_backed, backed_child}
use Rattle.kept_laid.specs.Boxes.{box_below}
use Rattle.kept_laid.proofs.BoxReading.{all_passed, at_place, box_found, box_further, box_here, box_of_kid_is, in_no_context, kid_in_flow, kid_kept, lacks, none_found, none_so_far, none_yet, not_some, smaller, told_of_child}
use Rattle.kept_laid.proofs.LastAsked.{alike, unlike}
use Rattle.kept_laid.proofs.Reading.{asks_in, keeps_layout, kids_until}
use Rattle.kept_laid.proofs.Walking.{no_more, none_before, one_more}
use Rattle.kept_laid.proofs.boxes.+boxes.Goals.{box_of_kids-then-may_show+in_default, box_of_kids-else-may_show}
use Rattle.kept_laid.proofs.boxes.+boxes.Goals as goal

-- ---- an element

pub box_of-returns-then-node-id : goal.box_of-returns-then-node-id
box_of-returns-then-node-id t c = λ m agrees backed.
    let found = c.kept_entry-entry.ensures in
    let node = c.args.node.now in
    let memo = c.args.memo.now in
    let context = c.args.context.now in
    let stored = keeps_layout m node memo c.kept_entry-entry.result.now agrees found.has c.args.store.now.runs backed context found.in_context in
    box_here c.args.id m c.args.node.now c.args.memo.now c.kept_entry-entry.result.now agrees found.has c.args.context.now found.in_context (alike _ _ c.if-node-id.true) c.parts.result.frame (c.parts.ensures (lay m node context) stored).frame

pub box_of-parts-requires : goal.box_of-parts-requires
box_of-parts-requires t c =
    let all = are_backed c.requires.backed.metrics c.args.store.now.runs c.args.node.now c.args.memo.now c.requires.backed.backed in
    all c.kept_entry-entry.result.now c.kept_entry-entry.ensures.has

pub box_of-returns : goal.box_of-returns
box_of-returns t c = λ m agrees backed.
    let found = c.kept_entry-entry.ensures in
    c.box_of_kids.ensures m agrees backed
    ∙ box_further c.args.id m c.args.node.now c.args.memo.now c.kept_entry-entry.result.now agrees found.has c.args.context.now found.in_context (unlike _ _ c.if-node-id.false)

-- ---- its children

pub box_of_kids-loop-place-init : goal.box_of_kids-loop-place-init
box_of_kids-loop-place-init t c =
    (none_before c.args.node.now, omega arith, λ m agrees backed. sym (none_yet c.args.id m c.args.node.now (asks_in c.args.entry.now)))

pub box_of_kids-bounds-as_slice-place : goal.box_of_kids-bounds-as_slice-place
box_of_kids-bounds-as_slice-place t c =
    let own = c.requires.backed.agrees.at [] c.args.node.now c.args.memo.now (refl, refl) in
    omega (arith, own.as_many, c.loop-place-test.true, ap length c.as_slice.ensures)

pub box_of_kids-offset_bounds-as_slice-place : goal.box_of_kids-offset_bounds-as_slice-place
box_of_kids-offset_bounds-as_slice-place t c =
    let within = box_of_kids-bounds-as_slice-place t c in
    omega (arith, within, c.as_slice.type_inv.0, c.as_slice.type_inv.1)

pub box_of_kids-box_of_kid-requires : goal.box_of_kids-box_of_kid-requires
box_of_kids-box_of_kid-requires t c =
    let m = c.requires.backed.metrics in
    let node = c.args.node.now in
    let memo = c.args.memo.now in
    let agrees = c.requires.backed.agrees in
    let place = c.loop-place.place in
    let child : Node = c.index-as_slice-place.result in
    let below : Memo = c.index-as_slice-place-in-loop-place.result in
    let own : IsMemoOf m node (out-Memo memo) = agrees.at [] node memo (refl, refl) in
    let within : place < length (out-Memo memo).below = omega arith in
    let at = at_place c.as_slice.result.now (out-Node node).children place child c.as_slice.ensures (omega (arith, within, own.as_many)) c.index-as_slice-place.is in
    let there = at_place c.as_slice-in-loop-place.result.now (out-Memo memo).below place below c.as_slice-in-loop-place.ensures within c.index-as_slice-place-in-loop-place.is in
    let passed = told_of_child node child place at m memo below agrees there c.may_show.result c.may_show.ensures ∙ c.if-may_show.true in
    let falls : size-Node child < size-Node node = smaller node child place at in (
      omega arith,
      (
        record {
          metrics = m;
          agrees = agrees_child m node memo place child below agrees at there;
          backed = backed_child m c.args.store.now.runs node memo place child below c.requires.backed.backed at there;
        },
        λ context asked. kid_kept node child place at m memo below agrees there c.args.entry.now c.requires.has c.loop-place.index passed c.loop-place.invariant.0 context asked,
      ),
    )

pub box_of_kids-returns-in-Some : goal.box_of_kids-returns-in-Some
box_of_kids-returns-in-Some t c = λ m agrees backed.
    let node = c.args.node.now in
    let memo = c.args.memo.now in
    let asks = asks_in c.args.entry.now in
    let index = c.loop-place.index in
    let place = c.loop-place.place in
    let child : Node = c.index-as_slice-place.result in
    let below : Memo = c.index-as_slice-place-in-loop-place.result in
    let own : IsMemoOf m node (out-Memo memo) = agrees.at [] node memo (refl, refl) in
    let within : place < length (out-Memo memo).below = omega arith in
    let at = at_place c.as_slice.result.now (out-Node node).children place child c.as_slice.ensures (omega (arith, within, own.as_many)) c.index-as_slice-place.is in
    let there = at_place c.as_slice-in-loop-place.result.now (out-Memo memo).below place below c.as_slice-in-loop-place.ensures within c.index-as_slice-place-in-loop-place.is in
    let passed = told_of_child node child place at m memo below agrees there c.may_show.result c.may_show.ensures ∙ c.if-may_show.true in
    let here = box_of_kid_is c.args.id m node asks index child
    (λ context asked. kid_in_flow node child place at m memo below agrees there c.args.entry.now c.requires.has index passed c.loop-place.invariant.0 context asked) in
    box_found c.args.id m node asks index c.in-Some.found (c.loop-place.invariant.2 m agrees backed)
    (here ∙ sym (c.box_of_kid.ensures m (agrees_child m node memo place child below agrees at there) (backed_child m c.args.store.now.runs node memo place child below backed at there)) ∙ c.in-Some.is)

pub box_of_kids-loop-place-preserved : goal.box_of_kids-loop-place-preserved
box_of_kids-loop-place-preserved t c =
    let node = c.args.node.now in
    let memo = c.args.memo.now in
    let asks = asks_in c.args.entry.now in
    let index = c.loop-place.index in
    let place = c.loop-place.place in
    let child : Node = c.index-as_slice-place.result in
    let below : Memo = c.index-as_slice-place-in-loop-place.result in
    let some = c.requires.backed.agrees in
    let own : IsMemoOf c.requires.backed.metrics node (out-Memo memo) = some.at [] node memo (refl, refl) in
    let within : place < length (out-Memo memo).below = omega arith in
    let at = at_place c.as_slice.result.now (out-Node node).children place child c.as_slice.ensures (omega (arith, within, own.as_many)) c.index-as_slice-place.is in
    let there = at_place c.as_slice-in-loop-place.result.now (out-Memo memo).below place below c.as_slice-in-loop-place.ensures within c.index-as_slice-place-in-loop-place.is in
    let told = told_of_child node child place at c.requires.backed.metrics memo below some there c.may_show.result c.may_show.ensures in
    elim c.if-may_show.branch [
      | box_of_kids-then-may_show+in_default w ↦
          let passed = told ∙ w.if-may_show.true in (
            w.index-is ∙ one_more node place child at index passed c.loop-place.invariant.0,
            omega (arith, w.index-is, c.loop-place.invariant.1),
            λ m agrees backed.
                let here = box_of_kid_is c.args.id m node asks index child
                (λ context asked. kid_in_flow node child place at m memo below agrees there c.args.entry.now c.requires.has index passed c.loop-place.invariant.0 context asked) in
                ap (λ (i : ℕ). box_below c.args.id (kids_until m node asks i)) w.index-is
                ∙ none_so_far c.args.id m node asks index (c.loop-place.invariant.2 m agrees backed)
                (here ∙ sym (w.box_of_kid.ensures m (agrees_child m node memo place child below agrees at there) (backed_child m c.args.store.now.runs node memo place child below backed at there)) ∙ not_some w.box_of_kid.result w.in_default.not-Some),
          )
      | box_of_kids-else-may_show w ↦ (
        w.index-is ∙ no_more node place child at index (told ∙ w.if-may_show.false) c.loop-place.invariant.0,
        omega (arith, w.index-is, c.loop-place.invariant.1),
        λ m agrees backed. ap (λ (i : ℕ). box_below c.args.id (kids_until m node asks i)) w.index-is ∙ c.loop-place.invariant.2 m agrees backed,
      )
    ]

pub box_of_kids-returns : goal.box_of_kids-returns
box_of_kids-returns t c = λ m agrees backed.
    let node = c.args.node.now in
    let own : IsMemoOf m node (out-Memo c.args.memo.now) = agrees.at [] node c.args.memo.now (refl, refl) in
    none_found c.args.id m node (asks_in c.args.entry.now) c.loop-place.index
    (all_passed node c.loop-place.place c.loop-place.index (omega (arith, own.as_many)) c.loop-place.invariant.0) (c.loop-place.invariant.2 m agrees backed)

-- ---- a child

pub box_of_kid-returns-then-not-has_id : goal.box_of_kid-returns-then-not-has_id
box_of_kid-returns-then-not-has_id t c = λ m agrees backed.
    sym (in_no_context c.args.id m c.args.child.now (lacks c.args.id m c.args.child.now 1 (sym (c.has_id.ensures 1) ∙ c.if-not-has_id.true)) (last_context (asks_in c.args.entry.now) c.args.index))
