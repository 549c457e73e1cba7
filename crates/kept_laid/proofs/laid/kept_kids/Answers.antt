use Rattle.std.proofs.Common.{◌≡◌, ◌<◌, ◌∙◌, refl, sym, ap, subst, arith, List, [], length, map, Some, None, slice_get, get_or, All}
use Rattle.std.proofs.lemmas.Option.{slice_get-get_or}
use Rattle.std.specs.Option.{option_map}
use Rattle.std.specs.Borrow.{Bor}
use Rattle.math_tree.specs.declared.node.Node.{Node}
use Rattle.embellished.specs.Seen.{flow_nodes, seen_of}
use Rattle.layout_model.specs.Answers.{questions_in}
use Rattle.layout_model.specs.Layout.{last_context}
use Rattle.layout_model.specs.Questions.{IsBelow}
use Rattle.layout_model.specs.declared.context.Context.{Context}
use Rattle.fixed_units.specs.Sums.{list_to}
use Rattle.layout_model.proofs.Children.{among_all, as_many_nodes, child_of, few_children, in_flow, near}
use Rattle.kept_results.specs.Kept.{IsMemoOf}
use Rattle.kept_results.specs.Looking.{own_facts}
use Rattle.kept_results.specs.declared.memo.Memo.{Memo}
use Rattle.kept_results.specs.declared.memo.Memo.TheViews.{out-Memo}
use Rattle.kept_results.proofs.Turns.{child_in_flow, facts_known}
use Rattle.kept_laid.specs.Laid.{laid_kid}
use Rattle.kept_laid.proofs.Kids.{kids_grown, laid_grown, none_yet}
use Rattle.kept_laid.proofs.Reading.{all_named, asks_in, kept_last, kid_more, kid_unasked, kids_until, last_is, none_is, ones_within, twos_within}
use Rattle.kept_laid.proofs.laid.kept_kids.Goals.{in-Some+in_ok-push, in_default}
use Rattle.kept_laid.proofs.laid.kept_kids.Goals as goal

-- ---- the children, one after another

pub make-requires-clause-own : goal.make-requires-clause-own
make-requires-clause-own c = (c.requires.agrees.agrees.at [] c.args.node.now c.args.memo.now (refl, refl)).facts_are

pub make-requires-clause-known : goal.make-requires-clause-known
make-requires-clause-known c =
    (c.in_ok-facts.ensures {u = tt}) ∙ ap (map own_facts) c.as_slice.ensures ∙ facts_known c.requires.agrees.metrics c.args.node.now c.args.memo.now c.requires.agrees.agrees

pub make-requires-clause-few : goal.make-requires-clause-few
make-requires-clause-few c = omega (arith, few_children c.args.node.now, c.requires.few)

pub last_contexts-requires-clause-ones : goal.last_contexts-requires-clause-ones
last_contexts-requires-clause-ones c =
    let count = c.kids-count.ensures.count ∙ ap (λ (n : Node). length (seen_of n).kids) (c.in_ok-view.ensures {u = tt}) in
    let within = ones_within c.requires.agrees.metrics c.args.node.now c.args.memo.now c.args.entry.now c.requires.agrees.agrees c.requires.has in
    subst (λ n. All (IsBelow n) (questions_in c.args.entry.now.one)) (sym count) within

pub last_contexts-requires-clause-twos : goal.last_contexts-requires-clause-twos
last_contexts-requires-clause-twos c =
    let count = c.kids-count.ensures.count ∙ ap (λ (n : Node). length (seen_of n).kids) (c.in_ok-view.ensures {u = tt}) in
    let within = twos_within c.requires.agrees.metrics c.args.node.now c.args.memo.now c.args.entry.now c.requires.agrees.agrees c.requires.has in
    subst (λ n. All (IsBelow n) (questions_in c.args.entry.now.two)) (sym count) within

pub loop-index-init : goal.loop-index-init
unfolding list_to
loop-index-init c =
    (none_yet c.args.node.now c.args.memo.now c.in_ok-kids.kids.items (c.in_ok-kids.ensures {u = tt}).items, λ m agrees. ap (map (laid_kid m)) (c.in_ok-kids.ensures {u = tt}).items)

pub offset_bounds-as_slice-place : goal.offset_bounds-as_slice-place
offset_bounds-as_slice-place c =
    let node = c.args.node.now in
    let shown = c.in_ok-view.ensures {u = tt} in
    let n = child_of _ node _ _ shown c.place.ensures in
    omega (arith, near node n.child.node _ _ record { child = n.child; in_flow = n.in_flow; among = n.among; shown = n.shown; holds = refl } n, few_children node, c.requires.few)

pub bounds-as_slice-place : goal.bounds-as_slice-place
bounds-as_slice-place c =
    let node = c.args.node.now in
    let shown = c.in_ok-view.ensures {u = tt} in
    let n = child_of _ node _ _ shown c.place.ensures in
    let own = c.requires.agrees.agrees.at [] node c.args.memo.now (refl, refl) in
    omega (arith, near node n.child.node _ _ record { child = n.child; in_flow = n.in_flow; among = n.among; shown = n.shown; holds = refl } n, own.as_many, ap length c.as_slice-in-Some.ensures)

pub loop-index-preserved : goal.loop-index-preserved
loop-index-preserved c =
    let node = c.args.node.now in
    let memo = c.args.memo.now in
    let asks = asks_in c.args.entry.now in
    let some = c.requires.agrees in
    let items = c.in_ok-last.last.items in
    let index = c.loop-index.index in
    let within : index < length items = omega (arith, c.loop-index-test.true, (c.in_ok-last.ensures {u = tt}).as_many) in
    let last = last_is asks items index c.index.result.now (c.in_ok-last.ensures {u = tt}).last within c.index.ensures in
    elim c.match-index.branch [
      | in-Some+in_ok-push w ↦
          let kid = w.node_at-node.result.now in
          let place = w.place.result in
          let below = w.index-as_slice-place.result in
          let shown = c.in_ok-view.ensures {u = tt} in
          let n = child_of _ node _ _ shown w.node_at-node.ensures in
          let p = child_of _ node _ _ shown w.place.ensures in
          let own : IsMemoOf some.metrics node (out-Memo memo) = some.agrees.at [] node memo (refl, refl) in
          let at : slice_get (out-Memo memo).below place ≡ Some below =
          slice_get-get_or (out-Memo memo).below place below (omega (arith, near node kid index place n p, own.as_many))
          ∙ ap (λ (b : Memo). Some b) (sym (w.index-as_slice-place.is ∙ ap (λ (list : List Memo). get_or list place below) w.as_slice-in-Some.ensures)) in
          let context = w.in-Some.context.now in
          let asked : last_context asks index ≡ Some context = last ∙ ap (option_map (λ (k : Bor Context). k.now)) w.in-Some.is in
          let kept = kept_last node kid (out-Memo memo).below below place index asks context (all_named some.metrics node memo c.args.entry.now some.agrees c.requires.has) asked
          (child_in_flow node kid index place n p) at in
          let after = w.push.new.self.items in
          let pushed = (w.in_ok-push.ensures {u = tt}).items in rw w.kids-is (
            kids_grown node memo c.loop-index.kids.items after _ c.loop-index.invariant.0
                record { place = place; node_at = among_all node kid index place n p; memo_at = at; kept = kept } pushed,
            λ m agrees.
                kid_more m node asks index kid (in_flow node kid index place n p) context (map (laid_kid m) c.loop-index.kids.items) (map (laid_kid m) after) _ asked
                (c.loop-index.invariant.1 m agrees) refl (laid_grown m c.loop-index.kids.items after _ pushed),
          )
      | in_default w ↦
          let asked : last_context asks index ≡ None = last ∙ none_is c.index.result.now w.in_default.not-Some in
          rw w.kids-is (c.loop-index.invariant.0, λ m agrees. c.loop-index.invariant.1 m agrees ∙ kid_unasked m node asks index asked)
    ]

pub returns-clause-laid : goal.returns-clause-laid
returns-clause-laid c = λ m agrees.
    let node = c.args.node.now in
    let asks = asks_in c.args.entry.now in
    let count : c.loop-index.index ≡ c.kids-count.result =
    omega (arith, c.loop-index-test.false, c.loop-index.auto.index-end) in
    let all : c.loop-index.index ≡ length (flow_nodes node) =
    count ∙ c.kids-count.ensures.count ∙ ap (λ (n : Node). length (seen_of n).kids) (c.in_ok-view.ensures {u = tt}) ∙ sym (as_many_nodes node) in
    c.loop-index.invariant.1 m agrees ∙ ap (kids_until m node asks) all
