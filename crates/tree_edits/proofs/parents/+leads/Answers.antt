use Rattle.std.proofs.Common.{◌≡◌, ◌∙◌, sym, ap, subst, ◌+◌, ◌<◌, ◌≤◌, length, get_or, arith, rules}
use Rattle.math_tree.specs.declared.node.Node.TheViews.{size-Node}
use Rattle.tree_edits.specs.Paths.{children_of, LeadsTo}
use Rattle.tree_edits.proofs.Paths.{few_below, from_place, leads_further, place_fits, smaller}
use Rattle.tree_edits.proofs.parents.+leads.Goals as goal

pub leads-requires : goal.leads-requires
leads-requires t c =
    let nodes = children_of c.args.node.now in
    let child = c.index-children-place.result in
    let place = c.in-Some-place_of.place in
    let within : place < length nodes = omega (arith, c.in-Some-place_of.ensures, ap length c.as_slice-children.ensures) in
    let at = from_place nodes place child within (c.index-children-place.is ∙ ap (λ list. get_or list place child) c.as_slice-children.ensures) in
    let falls : size-Node child < size-Node c.args.node.now = smaller c.args.node.now place child at in
    let rest : length c.in-Some.rest.now + 1 ≡ length c.args.ids.now = search rules in
    (omega arith, (omega (arith, rest, c.requires.short), (few_below c.args.node.now place child at c.requires.few, (omega arith, c.requires.empty))))

pub begin_at-requires-clause-place : goal.begin_at-requires-clause-place
begin_at-requires-clause-place t c =
    let nodes = children_of c.args.node.now in
    let child = c.index-children-place.result in
    let place = c.in-Some-place_of.place in
    let within : place < length nodes = omega (arith, c.in-Some-place_of.ensures, ap length c.as_slice-children.ensures) in
    let at = from_place nodes place child within (c.index-children-place.is ∙ ap (λ list. get_or list place child) c.as_slice-children.ensures) in
    place_fits c.args.node.now place child at c.requires.few

pub returns-then-leads : goal.returns-then-leads
returns-then-leads t c =
    let nodes = children_of c.args.node.now in
    let child = c.index-children-place.result in
    let place = c.in-Some-place_of.place in
    let within : place < length nodes = omega (arith, c.in-Some-place_of.ensures, ap length c.as_slice-children.ensures) in
    let at = from_place nodes place child within (c.index-children-place.is ∙ ap (λ list. get_or list place child) c.as_slice-children.ensures) in
    λ e. subst (LeadsTo c.args.id.0 c.args.level c.args.node.now) (sym c.begin_at.ensures)
    (leads_further c.args.id.0 c.args.level c.args.node.now place child _ at (c.leads.ensures c.if-leads.true))
