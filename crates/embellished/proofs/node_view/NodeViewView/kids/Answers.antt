use Rattle.std.proofs.Common.{◌∙◌, length, sym, ap, subst, arith}
use Rattle.std.proofs.lemmas.List.{length-map}
use Rattle.math_tree.specs.declared.node.Node.TheViews.{out-Node}
use Rattle.embellished.specs.Facts.{facts}
use Rattle.embellished.specs.Seen.{IsShown, children_shown, facts_kept, flow_children, known_child, shown_child}
use Rattle.embellished.proofs.Nodes.{each_count, kept_count}
use Rattle.embellished.proofs.node_view.NodeViewView.kids.Goals as goal

pub returns-in-Each-clause-count : goal.returns-in-Each-clause-count
returns-in-Each-clause-count c =
    let node = c.args.self.now.node.now in
    let view = c.args.self.now in
    let shows = subst (λ list. IsShown node view.facts list view.prescripts) (ap (children_shown node) c.in-Each.is) view.shows in
    let count = kept_count node view.facts _ view.prescripts shows ∙ each_count (out-Node node).children in
    let kept = sym (ap (facts_kept node) c.in-Each.is) ∙ view.known in
    let list = ap length kept ∙ length-map (out-Node node).children facts in
    omega (arith, c.len.ensures, count, list)

pub returns-in-Each-clause-few : goal.returns-in-Each-clause-few
returns-in-Each-clause-few c =
    let node = c.args.self.now.node.now in
    let view = c.args.self.now in
    let shows = subst (λ list. IsShown node view.facts list view.prescripts) (ap (children_shown node) c.in-Each.is) view.shows in
    let count = kept_count node view.facts _ view.prescripts shows ∙ each_count (out-Node node).children in
    let kept = sym (ap (facts_kept node) c.in-Each.is) ∙ view.known in
    let list = ap length kept ∙ length-map (out-Node node).children facts in
    omega (arith, c.len.ensures, list, sym (each_count (out-Node node).children), ap length shows.children_are, length-map (flow_children node) known_child, view.few)

pub returns-in-Listed-clause-count : goal.returns-in-Listed-clause-count
returns-in-Listed-clause-count c =
    let node = c.args.self.now.node.now in
    let view = c.args.self.now in
    let shows = subst (λ list. IsShown node view.facts list view.prescripts) (ap (children_shown node) c.in-Listed.is) view.shows in
    let count = kept_count node view.facts _ view.prescripts shows ∙ length-map c.in-Listed.kids.items shown_child in
    omega (arith, c.len-in-Listed.ensures, count)
