use Rattle.std.proofs.Common.{◌≡◌, ◌∙◌, ◌<◌, length, get_or, refl, ap, subst, arith}
use Rattle.std.proofs.lemmas.List.{get_or_default, length-map}
use Rattle.math_tree.specs.declared.node.Node.TheViews.{out-Node}
use Rattle.embellished.specs.Seen.{IsShown, children_shown, shown_child}
use Rattle.embellished.proofs.Nodes.{child_at, each_at, each_count, kept_count, listed_at}
use Rattle.embellished.proofs.node_view.NodeView.place.Goals as goal

pub index-requires : goal.index-requires
index-requires c =
    let node = c.args.self.now.node.now in
    let view = c.args.self.now in
    let shows = subst (λ list. IsShown node view.facts list view.prescripts) (ap (children_shown node) c.in-Listed.is) view.shows in
    let count = kept_count node view.facts _ view.prescripts shows ∙ length-map c.in-Listed.kids.items shown_child in
    omega (arith, c.requires, count)

pub returns-in-Each : goal.returns-in-Each
returns-in-Each c =
    let node = c.args.self.now.node.now in
    let view = c.args.self.now in
    let shows = subst (λ list. IsShown node view.facts list view.prescripts) (ap (children_shown node) c.in-Each.is) view.shows in
    let count = kept_count node view.facts _ view.prescripts shows ∙ each_count (out-Node node).children in
    let nodes = (out-Node node).children in
    let within : c.args.index < length nodes = omega (arith, c.requires, count) in
    let child = get_or nodes c.args.index node in
    child_at node view.facts _ view.prescripts c.args.index _ shows (each_at nodes c.args.index child within (get_or_default nodes c.args.index node child within)) (λ one. one.place ≡ c.args.index) refl

pub returns-in-Listed : goal.returns-in-Listed
returns-in-Listed c =
    let node = c.args.self.now.node.now in
    let view = c.args.self.now in
    let shows = subst (λ list. IsShown node view.facts list view.prescripts) (ap (children_shown node) c.in-Listed.is) view.shows in
    let count = kept_count node view.facts _ view.prescripts shows ∙ length-map c.in-Listed.kids.items shown_child in
    let kid = c.index.result.now in
    let within : c.args.index < length c.in-Listed.kids.items = omega (arith, c.requires, count) in
    child_at node view.facts _ view.prescripts c.args.index _ shows (listed_at c.in-Listed.kids.items c.args.index kid within c.index.ensures)
    (λ one. one.place ≡ kid.place) refl
