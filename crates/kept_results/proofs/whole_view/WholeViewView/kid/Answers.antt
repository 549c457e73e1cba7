use Rattle.std.proofs.Common.{◌≡◌, ◌<◌, refl, ap, length, arith}
use Rattle.math_tree.specs.declared.node.Node.TheViews.{out-Node}
use Rattle.kept_results.proofs.Shown.{as_many_kids, kid_at, read_at}
use Rattle.kept_results.proofs.whole_view.WholeViewView.kid.Goals as goal

pub bounds-as_slice-index : goal.bounds-as_slice-index
bounds-as_slice-index c =
    let shown = c.args.self.now.shown in
    omega (arith, c.requires, as_many_kids c.args.self.now.node.now shown.all, ap length c.as_slice.ensures)

pub offset_bounds-as_slice-index : goal.offset_bounds-as_slice-index
offset_bounds-as_slice-index c =
    let shown = c.args.self.now.shown in
    let few = shown.few in
    omega (arith, c.requires, as_many_kids c.args.self.now.node.now shown.all, few)

pub returns : goal.returns
returns c =
    let view = c.args.self.now in
    let within : c.args.index < length (out-Node view.node.now).children = omega (arith, c.requires, as_many_kids view.node.now view.shown.all) in
    kid_at view.memo.now view.node.now view.shown c.args.index c.index-as_slice-index.result (read_at _ _ c.args.index _ c.as_slice.ensures within c.index-as_slice-index.is)
    (λ kid. kid.head ≡ (out-Node c.index-as_slice-index.result).head) refl
