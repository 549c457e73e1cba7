use Rattle.std.proofs.Common.{◌≡◌, ◌+◌, ◌-◌, ◌*◌, ◌≤◌, inl, inr, refl, arith, unsigned_abs, to_z, of_z, ◌-ℤ◌, ℕ, ap}
use Rattle.std.specs.Int.{w128}
use Rattle.std.proofs.lemmas.Int.{ints}
use borrow.Author.Differences.{up, down}
use Rattle.glyph_assembly.specs.Counts.{pieces}
use Rattle.glyph_assembly.proofs.LeastCount.{what_reaches}
use Rattle.glyph_assembly.proofs.GreatestOverlap.{greatest_by_quotient}
use Rattle.glyph_assembly.proofs.counts.fitting.Goals as goal
use Rattle.glyph_assembly.proofs.counts.fitting.Goals.{After-from}

-- so many repeats reach the target, so something is spare
reached : (c : After-from) → up c.args.target ≤ down c.args.target + (c.args.sums.now.fixed_length + c.args.count * c.args.sums.now.extender_length)
reached c =
    let enough = c.requires.enough in
    let r = what_reaches c.args.sums.now c.args.target c.args.count c.args.sums.now.overlap enough.some enough.reaches in
    let e : pieces c.args.sums.now c.args.count ≡ c.pieces-joints.result - 1 + 1 = omega (arith, enough.some) in
    let m = ap (λ (x : ℕ). c.args.sums.now.overlap * x) e in
    omega arith

pub overflow_cast-spare-2 : goal.overflow_cast-spare-2
overflow_cast-spare-2 c =
    let r = reached (goal.at.overflow_cast-spare-2 c).After-from in
    (omega (arith, ints), omega (arith, ints))

spare : (c : After-from)
    → up c.args.target + unsigned_abs (to_z w128 (of_z w128 (to_z w128 c.whole.result -ℤ to_z w128 (of_z w128 c.from.result))))
    ≡ down c.args.target + (c.args.sums.now.fixed_length + c.args.count * c.args.sums.now.extender_length)
spare c = let r = reached c in omega (arith, ints)

pub returns-then-most-from : goal.returns-then-most-from
returns-then-most-from c =
    let w = spare (goal.at.returns-then-most-from c).After-from in
    greatest_by_quotient c.args.sums.now c.args.target c.args.count c.args.widest c.from-2.result _ _ c.requires.enough (omega arith) (omega arith) c.requires.wide w (inl (refl, omega arith))

pub returns-else-most-from : goal.returns-else-most-from
returns-else-most-from c =
    let w = spare (goal.at.returns-else-most-from c).After-from in
    greatest_by_quotient c.args.sums.now c.args.target c.args.count c.args.widest c.from-2.result _ _ c.requires.enough (omega arith) (omega arith) c.requires.wide w (inr (refl, omega arith))
