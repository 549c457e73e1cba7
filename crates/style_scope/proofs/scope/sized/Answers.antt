use Rattle.std.proofs.Common.{◌≡◌, w64, to_z, of_z, arith}
use Rattle.std.proofs.lemmas.Int.{to_z-of_z}
use Rattle.fixed_units.proofs.Signed.{signed}
use Rattle.style_scope.specs.Sizes.{IsSize, font_size_of, size_of}
use Rattle.style_scope.proofs.Scales.{size_got, size_is}
use Rattle.style_scope.proofs.scope.sized.Goals as goal
use Rattle.style_scope.proofs.scope.sized.Goals.{After-unwrap_or-size}

size : (c : After-unwrap_or-size) → c.unwrap_or-size.result ≡ size_of c.args.metrics.now c.args.parent.now
unfolding font_size_of
size c = size_got _ _ _ c.font_size.ensures.value c.requires.size c.unwrap_or-size.ensures

within : (c : After-unwrap_or-size) → IsSize (size_of c.args.metrics.now c.args.parent.now)
unfolding font_size_of
within c = size_is _ _ c.font_size.ensures.value c.requires.size c.font_size.ensures.within

back : (c : After-unwrap_or-size) → to_z w64 (of_z w64 c.unwrap_or-size.result) ≡ size_of c.args.metrics.now c.args.parent.now
back c = let e = size c in let w = within c in omega (arith, signed, e, w.low, w.high)

pub by_size-requires-clause-size_low : goal.by_size-requires-clause-size_low
by_size-requires-clause-size_low c =
    let a = (goal.at.by_size-requires-clause-size_low c).After-unwrap_or-size in
    let e = back a in let w = within a in omega (arith, signed, e, w.low, w.high)

pub by_size-requires-clause-size_high : goal.by_size-requires-clause-size_high
by_size-requires-clause-size_high c =
    let a = (goal.at.by_size-requires-clause-size_high c).After-unwrap_or-size in
    let e = back a in let w = within a in omega (arith, signed, e, w.low, w.high)

pub returns-clause-value : goal.returns-clause-value
returns-clause-value c =
    let e = back (goal.at.returns-clause-value c).After-unwrap_or-size in
    let sized = c.by_size.ensures.value in
    grind (arith, to_z-of_z)
