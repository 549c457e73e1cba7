use Rattle.std.proofs.Common.{◌≡◌, ◌∙◌, ◌<◌, length, get_or, refl, sym, ap, subst, false, None, arith}
use Rattle.std.proofs.lemmas.List.{get_or-map, get_or_default, length-map}
use Rattle.math_tree.specs.declared.node.Node.TheViews.{out-Node}
use Rattle.math_tree.specs.declared.kind.Kind.TheVariants.{Annotation}
use Rattle.embellished.specs.Facts.{facts}
use Rattle.embellished.specs.declared.facts.Facts.{Facts}
use Rattle.embellished.specs.Seen.{IsShown, children_shown, facts_kept, shown_child}
use Rattle.embellished.proofs.Nodes.{each_at, each_count, kept_count, kid_at, listed_at}
use Rattle.embellished.proofs.node_view.NodeViewView.kid_facts.Goals as goal

pub bounds-as_slice-index : goal.bounds-as_slice-index
bounds-as_slice-index c =
    let node = c.args.self.now.node.now in
    let view = c.args.self.now in
    let shows = subst (λ list. IsShown node view.facts list view.prescripts) (ap (children_shown node) c.in-Each.is) view.shows in
    let count = kept_count node view.facts _ view.prescripts shows ∙ each_count (out-Node node).children in
    let kept = sym (ap (facts_kept node) c.in-Each.is) ∙ view.known in
    let list = ap length kept ∙ length-map (out-Node node).children facts in
    omega (arith, c.requires, count, ap length c.as_slice.ensures, list)

pub offset_bounds-as_slice-index : goal.offset_bounds-as_slice-index
offset_bounds-as_slice-index c =
    let within = bounds-as_slice-index c in
    omega (arith, within, c.as_slice.type_inv.0, c.as_slice.type_inv.1)

pub index-requires : goal.index-requires
index-requires c =
    let node = c.args.self.now.node.now in
    let view = c.args.self.now in
    let shows = subst (λ list. IsShown node view.facts list view.prescripts) (ap (children_shown node) c.in-Listed.is) view.shows in
    let count = kept_count node view.facts _ view.prescripts shows ∙ length-map c.in-Listed.kids.items shown_child in
    omega (arith, c.requires, count)

pub returns-in-Each : goal.returns-in-Each
returns-in-Each c =
    let node = c.args.self.now.node.now in
    let view = c.args.self.now in
    let shows = subst (λ list. IsShown node view.facts list view.prescripts) (ap (children_shown node) c.in-Each.is) view.shows in
    let count = kept_count node view.facts _ view.prescripts shows ∙ each_count (out-Node node).children in
    let kept = sym (ap (facts_kept node) c.in-Each.is) ∙ view.known in
    let list = ap length kept ∙ length-map (out-Node node).children facts in
    let nodes = (out-Node node).children in
    let within : c.args.index < length nodes = omega (arith, c.requires, count) in
    let child = get_or nodes c.args.index node in
    let default : Facts = record { space_like = false; core = None; laid = Annotation } in
    kid_at node view.facts _ view.prescripts c.args.index _ shows (each_at nodes c.args.index child within (get_or_default nodes c.args.index node child within))
    _ (sym (get_or-map facts nodes c.args.index node default within) ∙ ap (λ list. get_or list c.args.index default) (sym (c.as_slice.ensures ∙ kept)))

pub returns-in-Listed : goal.returns-in-Listed
returns-in-Listed c =
    let node = c.args.self.now.node.now in
    let view = c.args.self.now in
    let shows = subst (λ list. IsShown node view.facts list view.prescripts) (ap (children_shown node) c.in-Listed.is) view.shows in
    let count = kept_count node view.facts _ view.prescripts shows ∙ length-map c.in-Listed.kids.items shown_child in
    let kid = c.index.result.now in
    let within : c.args.index < length c.in-Listed.kids.items = omega (arith, c.requires, count) in
    kid_at node view.facts _ view.prescripts c.args.index _ shows (listed_at c.in-Listed.kids.items c.args.index kid within c.index.ensures)
    (λ one. one.facts ≡ kid.facts) refl
