use Rattle.std.proofs.Common.{◌≡◌, ◌∙◌, sym, subst, lit<, ◌^◌, ◌*◌, pos, ◌<ℤ◌, arith}
use Rattle.std.proofs.lemmas.Int.{to_z-of_z}
use Rattle.css_lengths.specs.Lengths.{millionths_of}
use Rattle.fixed_units.specs.Numbers.{IsWithin}
use Rattle.fixed_units.proofs.Signed.{signed}
use Rattle.css_lengths.proofs.Sizes.{divisor_positive, numerator_product, numerator_back, divisor_product, divisor_back, quotient_back, product_small, millionths_small}
use Rattle.fixed_units.proofs.Within.{widened, fits_i64}
use Rattle.css_lengths.proofs.lengths.millionths_of.Goals as goal

pub overflow_mul-from : goal.overflow_mul-from
overflow_mul-from c =
    let e : c.from.result ≡ c.args.number = omega (arith, signed, c.from.ensures) in
    rw e (numerator_product c.args.number c.args.size c.requires.number_in c.requires.size_in)

pub overflow_mul-size : goal.overflow_mul-size
overflow_mul-size c = divisor_product c.args.number c.args.size c.requires.number_in c.requires.size_in

pub round-requires-clause-positive : goal.round-requires-clause-positive
round-requires-clause-positive c =
    subst (λ z. pos 0 <ℤ z) (sym (divisor_back c.args.number c.args.size c.requires.number_in c.requires.size_in))
    (divisor_positive c.args.size c.requires.size_in)

pub round-requires-clause-num_in : goal.round-requires-clause-num_in
round-requires-clause-num_in c =
    let p = c.requires.number_in in
    let s = c.requires.size_in in
    let e : c.from.result ≡ c.args.number = omega (arith, signed, c.from.ensures) in
    rw e (subst (IsWithin _) (sym (numerator_back c.args.number c.args.size p s)) (product_small c.args.number c.args.size p s))

pub round-requires-clause-result_in : goal.round-requires-clause-result_in
round-requires-clause-result_in c =
    let p = c.requires.number_in in
    let s = c.requires.size_in in
    let e : c.from.result ≡ c.args.number = omega (arith, signed, c.from.ensures) in
    rw e (subst (IsWithin _) (sym (quotient_back c.args.number c.args.size p s))
    (widened _ (millionths_small c.args.number c.args.size p s) (omega arith)))

value : (c : goal.After-round) → c.round.result ≡ millionths_of c.args.number c.args.size
value c =
    let e : c.from.result ≡ c.args.number = omega (arith, signed, c.from.ensures) in
    rw e at c.round.ensures.value ∙ quotient_back c.args.number c.args.size c.requires.number_in c.requires.size_in

within : (c : goal.After-round) → IsWithin (10 ^ 9 * 2 ^ 32) c.round.result
within c = subst (IsWithin _) (sym (value c)) (millionths_small c.args.number c.args.size c.requires.number_in c.requires.size_in)

pub returns-clause-value : goal.returns-clause-value
returns-clause-value c = let f = fits_i64 (within c) (lit< tt) in simp to_z-of_z (value c)

pub returns-clause-within : goal.returns-clause-within
returns-clause-within c = let f = fits_i64 (within c) (lit< tt) in simp to_z-of_z (within c)
