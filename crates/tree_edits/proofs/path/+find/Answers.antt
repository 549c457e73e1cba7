use Rattle.std.proofs.Common.{◌≡◌, ◌∙◌, sym, ap, subst, ◌+◌, ◌<◌, ◌≤◌, length, get_or, Bool, false, true≢false, arith, rules}
use Rattle.std.proofs.lemmas.Bool.{false_from_ne_true}
use Rattle.std.proofs.lemmas.Bool.Decides.{Decides-eqb}
use Rattle.std.proofs.lemmas.List.{take_all}
use Rattle.std.specs.List.{flat_map, list_any}
use Rattle.math_tree.specs.Forms.{most_levels}
use Rattle.math_tree.specs.Trees.{Listed, listed}
use Rattle.math_tree.specs.declared.node.Node.{Node}
use Rattle.math_tree.specs.declared.node.Node.TheViews.{size-Node}
use Rattle.tree_edits.specs.Edits.{has_id, head_of}
use Rattle.tree_edits.specs.Paths.{children_of, LeadsTo}
use Rattle.tree_edits.proofs.Paths.{few_below, from_place, in_child, leads_further, place_fits, none_in, smaller}
use Rattle.tree_edits.proofs.path.+find.Goals as goal

pub find-requires : goal.find-requires
find-requires t c =
    let child : Node = c.child-item.result in
    let nodes = children_of c.args.node.now in
    let within : c.loop-place.place < length nodes = search rules in
    let here : child ≡ get_or nodes c.loop-place.place child = search rules in
    let at = from_place nodes c.loop-place.place child within here in
    let falls : size-Node child < size-Node c.args.node.now = smaller c.args.node.now c.loop-place.place child at in
    let shallow = in_child (λ (e : Listed). e.level ≤ most_levels) c.args.level c.args.node.now c.loop-place.place child at c.requires.shallow in
    let few = few_below c.args.node.now c.loop-place.place child at c.requires.few in
    (omega arith, (shallow, (few, (omega arith, c.loop-place.invariant.1))))

pub returns : goal.returns
returns t c =
    let nodes = children_of c.args.node.now in
    let past : length nodes ≤ c.loop-place.place = search rules in
    let test : Listed → Bool = λ e. has_id c.args.id.0 e.head in
    let below : list_any test (flat_map (listed (c.args.level + 1)) nodes) ≡ false =
    ap (λ l. list_any test (flat_map (listed (c.args.level + 1)) l)) (sym (take_all c.loop-place.place nodes past)) ∙ c.loop-place.invariant.0 in
    let mine : has_id c.args.id.0 (head_of c.args.node.now) ≡ false =
    false_from_ne_true (has_id c.args.id.0 (head_of c.args.node.now)) (λ e. c.if-node-id.false ((Decides-eqb (head_of c.args.node.now).id.0 c.args.id.0).0 e)) in
    record {
      found = λ e. absurd (true≢false (sym e));
      nowhere = λ e. none_in test c.args.level c.args.node.now mine below;
      still = λ e. c.loop-place.invariant.1;
    }

pub begin_at-requires-clause-place : goal.begin_at-requires-clause-place
begin_at-requires-clause-place t c =
    let child : Node = c.child-item.result in
    let nodes = children_of c.args.node.now in
    let within : c.loop-place.place < length nodes = search rules in
    let here : child ≡ get_or nodes c.loop-place.place child = search rules in
    place_fits c.args.node.now c.loop-place.place child (from_place nodes c.loop-place.place child within here) c.requires.few

pub returns-then-find-clause-found : goal.returns-then-find-clause-found
returns-then-find-clause-found t c =
    let child : Node = c.child-item.result in
    let nodes = children_of c.args.node.now in
    let within : c.loop-place.place < length nodes = search rules in
    let here : child ≡ get_or nodes c.loop-place.place child = search rules in
    let at = from_place nodes c.loop-place.place child within here in
    λ e. subst (LeadsTo c.args.id.0 c.args.level c.args.node.now) (sym c.begin_at.ensures)
    (leads_further c.args.id.0 c.args.level c.args.node.now c.loop-place.place child _ at (c.find.ensures.found c.if-find.true))
