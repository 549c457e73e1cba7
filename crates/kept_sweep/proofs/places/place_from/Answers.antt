use Rattle.std.proofs.Common.{rules, ◌≡◌, ◌∙◌, refl, ap, ℕ, ◌≤◌, Bool, not, length, length-take, take, arith}
use Rattle.std.proofs.lemmas.List.{length-map}
use Rattle.std.proofs.lemmas.List.Filters.{length-filter_both}
use Rattle.math_tree.specs.declared.node.Node.{Node}
use Rattle.math_tree.specs.declared.node.Node.TheViews.{out-Node}
use Rattle.embellished.specs.Facts.{facts}
use Rattle.embellished.specs.Flow.{may_show}
use Rattle.embellished.specs.Seen.{Child, laid_child}
use Rattle.kept_results.specs.Looking.{own_facts}
use Rattle.kept_laid.specs.Places.{all_children, shown_before}
use Rattle.kept_laid.proofs.Walking.{child_told, found, no_more, not_at_end, one_more}
use Rattle.kept_sweep.proofs.places.place_from.Goals.{then-may_show+else-index-wanted, else-may_show}
use Rattle.kept_sweep.proofs.places.place_from.Goals as goal

-- no more may be in flow than stand before a place
few_before : (node : Node) (place index : ℕ) → index ≡ shown_before node place → index ≤ place
few_before node place index is =
    let shows : Child → Bool = λ child. may_show (facts node).laid (laid_child child) in
    let both = length-filter_both shows (λ child. not (shows child)) (λ child. refl) (take place (all_children node)) in
    omega (arith, is, both, length-take place (all_children node))

pub returns-then-index-wanted-clause-child : goal.returns-then-index-wanted-clause-child
returns-then-index-wanted-clause-child c =
    let node = c.args.node.now in
    let place = c.loop-place.place in
    let told = child_told node c.args.own.now c.args.below.now place _ c.may_show.result c.requires.own c.requires.known c.loop-place-test.true c.may_show.ensures in
    let last : c.args.wanted ≡ c.loop-place.index = omega (arith, c.loop-place.invariant.1, c.if-index-wanted.true) in
    found node place told.0 told.1 c.args.wanted c.requires.within (told.2 ∙ c.if-may_show.true) (last ∙ c.loop-place.invariant.0)

pub returns-then-index-wanted-clause-spot : goal.returns-then-index-wanted-clause-spot
returns-then-index-wanted-clause-spot c =
    let node = c.args.node.now in
    let place = c.loop-place.place in
    let told = child_told node c.args.own.now c.args.below.now place _ c.may_show.result c.requires.own c.requires.known c.loop-place-test.true c.may_show.ensures in
    one_more node place told.0 told.1 c.loop-place.index (told.2 ∙ c.if-may_show.true) c.loop-place.invariant.0

pub overflow_add-index : goal.overflow_add-index
overflow_add-index c =
    let few : c.loop-place.index ≤ c.loop-place.place = few_before c.args.node.now c.loop-place.place c.loop-place.index c.loop-place.invariant.0 in
    search rules

pub loop-place-preserved : goal.loop-place-preserved
loop-place-preserved c =
    let node = c.args.node.now in
    let place = c.loop-place.place in
    let index = c.loop-place.index in
    let told = child_told node c.args.own.now c.args.below.now place _ c.may_show.result c.requires.own c.requires.known c.loop-place-test.true c.may_show.ensures in
    elim c.if-may_show.branch [
      | then-may_show+else-index-wanted w ↦ (
        w.index-is ∙ one_more node place told.0 told.1 index (told.2 ∙ w.if-may_show.true) c.loop-place.invariant.0,
        omega (arith, w.index-is, c.loop-place.invariant.1, w.if-index-wanted.false),
      )
      | else-may_show w ↦ (
        w.index-is ∙ no_more node place told.0 told.1 index (told.2 ∙ w.if-may_show.false) c.loop-place.invariant.0,
        omega (arith, w.index-is, c.loop-place.invariant.1),
      )
    ]

pub unreachable-requires : goal.unreachable-requires
unreachable-requires c =
    let node = c.args.node.now in
    not_at_end node c.loop-place.place c.args.wanted c.loop-place.index c.requires.within
    (omega (arith, c.loop-place-test.false, ap length c.requires.known, length-map (out-Node node).children facts, length-map c.args.below.now own_facts)) c.loop-place.invariant.0 c.loop-place.invariant.1
