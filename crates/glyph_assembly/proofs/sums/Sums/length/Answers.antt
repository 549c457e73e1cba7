use Rattle.std.proofs.Common.{◌≡◌, ◌∙◌, ap, subst, sym, ◌*◌, ◌-◌, ◌≤◌, ◌^◌, arith, to_z, of_z, ◌-ℤ◌, w64, FitsSigned, lit<}
use Rattle.std.specs.Int.{w128}
use Rattle.std.proofs.Math.Nat.{mul-le-mul}
use Rattle.std.proofs.lemmas.Int.{ints}
use Rattle.fixed_units.proofs.Within.{fits_i64}
use Rattle.font_metrics.proofs.Scaling.{back64}
use Rattle.glyph_assembly.specs.Counts.{pieces, length_of}
use Rattle.glyph_assembly.proofs.sums.Sums.length.Goals as goal
use Rattle.glyph_assembly.proofs.sums.Sums.length.Goals.{After-whole}

length_is : (c : After-whole)
    → to_z w128 (of_z w128 (to_z w128 c.whole.result -ℤ to_z w128 (c.from.result * c.from-2.result))) ≡ length_of c.args.self.now c.args.count c.args.overlap
unfolding length_of
length_is c =
    let covered : c.from.result * c.from-2.result ≡ c.args.overlap * (pieces c.args.self.now c.args.count - 1) =
    λ i. c.from.ensures i * (c.from-2.ensures ∙ ap (λ n. n - 1) c.pieces.ensures) i in
    let all : c.args.count * c.args.self.now.extender_count ≤ 2 ^ 42 * 16 = mul-le-mul c.requires.count_in c.requires.small.extender_count in
    let joints : pieces c.args.self.now c.args.count - 1 ≤ 2 ^ 47 = omega (arith, c.requires.small.fixed_count) in
    let small : c.args.overlap * (pieces c.args.self.now c.args.count - 1) ≤ 2 ^ 32 * 2 ^ 47 = mul-le-mul c.requires.overlap_in joints in
    omega (arith, ints)

pub overflow_cast-result-3 : goal.overflow_cast-result-3
overflow_cast-result-3 c =
    subst (FitsSigned w64) (sym (length_is (goal.at.overflow_cast-result-3 c).After-whole)) (fits_i64 c.requires.within (lit< tt))

pub returns : goal.returns
returns c =
    ap (λ z. to_z w64 (of_z w64 z)) (length_is (goal.at.returns c).After-whole) ∙ back64 c.requires.within (lit< tt)
