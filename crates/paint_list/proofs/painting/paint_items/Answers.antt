use Rattle.std.proofs.Common.{sym, subst}
use Rattle.std.specs.List.{All}
use Rattle.paint_list.specs.Paints.{IsOfFont}
use Rattle.paint_list.proofs.Glyphs.{painted_known}
use Rattle.paint_list.proofs.painting.paint_items.Goals as goal

pub returns-clause-glyphs : goal.returns-clause-glyphs
returns-clause-glyphs c =
    let m = c.args.metrics.now in
    subst (All (IsOfFont m)) (sym (c.in_ok-paint_all.ensures {u = tt})) (painted_known m c.args.items.now c.is_taken.ensures c.requires)
