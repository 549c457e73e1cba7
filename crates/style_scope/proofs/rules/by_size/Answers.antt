use Rattle.std.proofs.Common.{rules, ◌≡◌, subst, sym, pos, ◌≤ℤ◌, FitsSigned, w64, arith, IfSome}
use Rattle.std.proofs.lemmas.Int.{to_z-of_z}
use Rattle.css_lengths.specs.Lengths.{resolved}
use Rattle.fixed_units.proofs.Signed.{signed}
use Rattle.font_metrics.specs.Metrics.{ex_of}
use Rattle.style_scope.proofs.Scales.{ex_low, resolved_low}
use Rattle.style_scope.proofs.rules.by_size.Goals as goal
use Rattle.style_scope.proofs.rules.by_size.Goals.{After-ex}

ex_not_below : (c : After-ex) → pos 0 ≤ℤ c.ex.result
ex_not_below c =
    let size_fits = c.ranges.parent_size in
    let value : c.ex.result ≡ ex_of c.args.metrics.now c.args.parent_size = simp to_z-of_z at c.ex.ensures.value in
    let some = c.is_taken.ensures.upem_low in
    subst (λ z. pos 0 ≤ℤ z) (sym value) (ex_low c.args.metrics.now c.args.parent_size (omega (arith, some)) c.requires.size_low)

pub resolve-requires-clause-ex_low : goal.resolve-requires-clause-ex_low
resolve-requires-clause-ex_low c = let low = ex_not_below c in omega (arith, signed)

pub returns-in-Some-clause-style : goal.returns-in-Some-clause-style
returns-in-Some-clause-style c =
    let size_fits = c.ranges.parent_size in
    let ex_fits : FitsSigned w64 c.ex.result = search rules in
    let ex = ex_not_below (goal.at.returns-in-Some-clause-style c).After-ex in
    let length = subst (λ o. IfSome o (λ l. pos 0 ≤ℤ l.millionths)) c.in-Some.is c.requires.length_low in
    let value : c.resolve.result ≡ resolved c.in-Some.length c.args.parent_size c.ex.result c.args.parent_size = simp to_z-of_z at c.resolve.ensures.value in
    let low : pos 0 ≤ℤ c.resolve.result = subst (λ z. pos 0 ≤ℤ z) (sym value) (resolved_low c.in-Some.length c.args.parent_size c.ex.result c.args.parent_size length c.requires.size_low ex c.requires.size_low) in
    let high = c.resolve.ensures.within.high in
    record {
      base_low = omega (arith, signed, low, high);
      base_high = omega (arith, signed, low, high);
      base_depth = c.requires.style.depth;
      depth = c.requires.style.depth;
    }
