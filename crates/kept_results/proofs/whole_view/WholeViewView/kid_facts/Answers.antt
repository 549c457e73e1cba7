use Rattle.std.proofs.Common.{◌≡◌, ◌<◌, sym, ap, length, arith}
use Rattle.std.proofs.lemmas.List.{length-map}
use Rattle.embellished.specs.Facts.{facts}
use Rattle.math_tree.specs.declared.node.Node.TheViews.{out-Node}
use Rattle.kept_results.specs.Looking.{own_facts}
use Rattle.kept_results.specs.declared.memo.Memo.TheViews.{out-Memo}
use Rattle.kept_results.proofs.Shown.{as_many_kids, facts_at, kid_at, read_at, there_is}
use Rattle.kept_results.proofs.whole_view.WholeViewView.kid_facts.Goals as goal

pub bounds-as_slice-index : goal.bounds-as_slice-index
bounds-as_slice-index c =
    let view = c.args.self.now in
    omega (
      arith,
      c.requires,
      as_many_kids view.node.now view.shown.all,
      ap length c.as_slice.ensures,
      ap length view.shown.kids,
      length-map (out-Memo view.memo.now).below own_facts,
      length-map (out-Node view.node.now).children facts,
    )

pub offset_bounds-as_slice-index : goal.offset_bounds-as_slice-index
offset_bounds-as_slice-index c =
    let view = c.args.self.now in
    let few = view.shown.few in
    omega (arith, c.requires, as_many_kids view.node.now view.shown.all, few)

pub returns : goal.returns
returns c =
    let view = c.args.self.now in
    let within : c.args.index < length (out-Node view.node.now).children = omega (arith, c.requires, as_many_kids view.node.now view.shown.all) in
    let near : c.args.index < length (out-Memo view.memo.now).below =
    omega (arith, within, ap length view.shown.kids, length-map (out-Memo view.memo.now).below own_facts, length-map (out-Node view.node.now).children facts) in
    let child = there_is (out-Node view.node.now).children c.args.index within in
    let below = read_at _ _ c.args.index _ c.as_slice.ensures near c.index-as_slice-index.is in
    kid_at view.memo.now view.node.now view.shown c.args.index child.0 child.1 (λ kid. kid.facts ≡ own_facts c.index-as_slice-index.result)
    (sym (facts_at view.memo.now view.node.now view.shown c.args.index child.0 child.1 c.index-as_slice-index.result below))
