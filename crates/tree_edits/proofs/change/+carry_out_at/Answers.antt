use Rattle.std.proofs.Common.{◌≡◌, ◌∙◌, sym, subst, ◌-◌, ◌<◌, length, get_or, take, drop, arith}
use Rattle.std.proofs.lemmas.Option.{slice_get_within, same_Some}
use Rattle.math_tree.specs.declared.node.Node.TheViews.{size-Node}
use Rattle.tree_edits.specs.Paths.{children_of, FitsAt}
use Rattle.tree_edits.proofs.Paths.{fits_below, smaller}
use Rattle.tree_edits.proofs.change.+carry_out_at.Goals as goal

pub at_mut-requires : goal.at_mut-requires
at_mut-requires t c =
    let below = fits_below c.args.change c.args.path.now c.args.node.now c.if-path-eq0.false c.requires in
    slice_get_within (children_of c.args.node.now) (get_or c.args.path.now 0 0) below.child below.at

pub carry_out_at-requires : goal.carry_out_at-requires
carry_out_at-requires t c =
    let below = fits_below c.args.change c.args.path.now c.args.node.now c.if-path-eq0.false c.requires in
    let same : below.child ≡ c.at_mut.result.now = same_Some below.child c.at_mut.result.now (sym below.at ∙ c.at_mut.ensures.value) in
    let falls : size-Node c.at_mut.result.now < size-Node c.args.node.now =
    smaller c.args.node.now (get_or c.args.path.now 0 0) c.at_mut.result.now c.at_mut.ensures.value in
    (omega arith, subst (λ n. FitsAt c.args.change (take (length c.args.path.now - 1) (drop 1 c.args.path.now)) n) same below.fits)
