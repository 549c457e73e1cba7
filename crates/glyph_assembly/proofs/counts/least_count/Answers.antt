use Rattle.std.proofs.Common.{◌≡◌, ◌*◌, ◌≤◌, ◌^◌, inl, inr, refl, arith, Bool, true, false, nat_eq}
use Rattle.std.proofs.Math.Nat.{mul-le-mul}
use Rattle.std.proofs.lemmas.Bool.{eqb-true, eqb-false}
use Rattle.std.proofs.lemmas.Int.{ints}
use mir.Val.{bool_byte}
use Rattle.glyph_assembly.proofs.LeastCount.{IsFirst, least_first, least_more, least_only, least_within, small_count}
use Rattle.glyph_assembly.proofs.counts.least_count.Goals as goal
use Rattle.glyph_assembly.proofs.counts.least_count.Goals.{After-from-first}

first_is : (c : After-from-first) → IsFirst c.args.sums.now c.from-first.result
first_is c = by (nat_eq c.args.sums.now.fixed_count 0) refl c.from-first.ensures
  where
    by : (v : Bool) → nat_eq c.args.sums.now.fixed_count 0 ≡ v → c.from-first.result ≡ bool_byte v → IsFirst c.args.sums.now c.from-first.result
    by true e is = inl (eqb-true _ _ e, is)
    by false e is = inr (omega (arith, eqb-false _ _ e), is)

pub overflow_mul-gain : goal.overflow_mul-gain
overflow_mul-gain c =
    let p : c.args.sums.now.overlap * c.args.sums.now.extender_count ≤ 2 ^ 32 * 16 = mul-le-mul c.requires.small.overlap c.requires.small.extender_count in
    omega arith

pub overflow_mul-missing : goal.overflow_mul-missing
overflow_mul-missing c =
    let p : c.args.sums.now.overlap * c.args.sums.now.fixed_count ≤ 2 ^ 32 * 16 = mul-le-mul c.requires.small.overlap c.requires.small.fixed_count in
    omega arith

pub overflow_cast-missing : goal.overflow_cast-missing
overflow_cast-missing c =
    let p : c.args.sums.now.overlap * c.args.sums.now.fixed_count ≤ 2 ^ 32 * 16 = mul-le-mul c.requires.small.overlap c.requires.small.fixed_count in
    omega (arith, ints)

pub overflow_add-missing : goal.overflow_add-missing
overflow_add-missing c =
    let p : c.args.sums.now.overlap * c.args.sums.now.fixed_count ≤ 2 ^ 32 * 16 = mul-le-mul c.requires.small.overlap c.requires.small.fixed_count in
    omega (arith, ints)

pub overflow_sub-missing : goal.overflow_sub-missing
overflow_sub-missing c =
    let p : c.args.sums.now.overlap * c.args.sums.now.fixed_count ≤ 2 ^ 32 * 16 = mul-le-mul c.requires.small.overlap c.requires.small.fixed_count in
    omega (arith, ints)

pub returns-then-missing-le0-clause-least : goal.returns-then-missing-le0-clause-least
returns-then-missing-le0-clause-least c =
    let i = first_is (goal.at.returns-then-missing-le0-clause-least c).After-from-first in
    let p : c.args.sums.now.overlap * c.args.sums.now.fixed_count ≤ 2 ^ 32 * 16 = mul-le-mul c.requires.small.overlap c.requires.small.fixed_count in
    least_first c.args.sums.now c.args.target _ c.requires.grows i (omega (arith, ints))

pub returns-then-missing-le0-clause-value : goal.returns-then-missing-le0-clause-value
returns-then-missing-le0-clause-value c =
    least_only c.args.sums.now c.args.target _ c.requires.grows (returns-then-missing-le0-clause-least c)

pub returns-clause-least : goal.returns-clause-least
returns-clause-least c =
    let i = first_is (goal.at.returns-clause-least c).After-from-first in
    let p : c.args.sums.now.overlap * c.args.sums.now.fixed_count ≤ 2 ^ 32 * 16 = mul-le-mul c.requires.small.overlap c.requires.small.fixed_count in
    least_more c.args.sums.now c.args.target _ _ _ c.requires.grows i (omega (arith, ints)) c.max.ensures

pub returns-clause-value : goal.returns-clause-value
returns-clause-value c =
    least_only c.args.sums.now c.args.target _ c.requires.grows (returns-clause-least c)

pub returns-clause-within : goal.returns-clause-within
returns-clause-within c =
    let l = least_within c.args.sums.now c.args.target _ c.requires.grows (returns-clause-least c) in
    let m = small_count c.args.sums.now c.args.target c.requires.small c.requires.target_in in
    omega arith
