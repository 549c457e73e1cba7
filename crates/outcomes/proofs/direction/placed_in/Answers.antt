use Rattle.std.proofs.Common.{rules, ◌^◌, subst, sym, lit≤, w64, FitsSigned}
use Rattle.fixed_units.specs.Numbers.{IsWithin}
use Rattle.fixed_units.proofs.Within.{widened}
use Rattle.outcomes.proofs.Casts.{told_wide}
use Rattle.outcomes.proofs.Reach.{placed_is}
use Rattle.outcomes.proofs.direction.placed_in.Goals as goal

pub turned-requires : goal.turned-requires
turned-requires g c =
    let own : FitsSigned w64 c.frame.result.width = search rules in
    subst (IsWithin (2 ^ 66)) (sym (told_wide c.frame.result.width c.from-part.result own c.from-part.ensures))
    (widened (2 ^ 66) c.frame.ensures.stored.width (lit≤ tt))

pub returns : goal.returns
returns g c =
    let own : FitsSigned w64 c.frame.result.width = search rules in
    let whole : FitsSigned w64 c.args.frame.now.width = search rules in
    placed_is c.args.e.now c.context.result.now c.frame.result c.args.frame.now c.args.kid c.args.x c.args.y c.from-part.result c.turned.result
    own whole c.ranges.x c.ranges.y (record { sfits = c.turned.type_inv }) c.context.ensures.value c.frame.ensures.value c.from-part.ensures c.turned.ensures
