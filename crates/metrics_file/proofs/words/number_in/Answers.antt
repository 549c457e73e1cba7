use Rattle.std.proofs.Common.{◌≡◌, ◌∙◌, ap, sym, subst, ℤ, Option, Bool, true, false, not, Ok, SFits, w32, to_z-of_z, rules}
use Rattle.std.proofs.Math.Dec.{T}
use Rattle.std.proofs.lemmas.Bool.{and_parts}
use lib.Signed.{le_z_yes}
use Rattle.font_metrics.specs.declared.fault.LineFault.TheVariants.{NotANumber, OutOfRange}
use Rattle.font_metrics.specs.Faults.{Step, ◌>>=◌, or_fault, fault_if}
use Rattle.metrics_file.specs.Words.{is_between, number_in}
use Rattle.metrics_file.proofs.words.number_in.Goals as goal

abbrev within : ℤ → Bool → Step ℤ
within number test = fault_if (not test) OutOfRange >>= λ free. Ok number

abbrev read : ℤ → ℤ → Option ℤ → Step ℤ
read low high number = or_fault NotANumber number >>= λ n. within n (is_between low high n)

pub returns-in-Some-clause-value : goal.returns-in-Some-clause-value
unfolding number_in
returns-in-Some-clause-value c =
    let fits : SFits w32 c.in-Some.number = search rules in
    let low : SFits w32 c.args.low = c.ranges.low in
    let high : SFits w32 c.args.high = c.ranges.high in
    let test : is_between c.args.low c.args.high c.in-Some.number ≡ true = simp to_z-of_z at c.if-low-number.true in
    simp to_z-of_z
    (ap (within c.in-Some.number) (sym test) ∙ ap (read c.args.low c.args.high) (sym c.in-Some.is ∙ c.number.ensures))

pub returns-in-Some-2-clause-value : goal.returns-in-Some-2-clause-value
unfolding number_in
returns-in-Some-2-clause-value c =
    let fits : SFits w32 c.in-Some.number = search rules in
    let low : SFits w32 c.args.low = c.ranges.low in
    let high : SFits w32 c.args.high = c.ranges.high in
    let test : is_between c.args.low c.args.high c.in-Some.number ≡ false = simp to_z-of_z at c.if-low-number.false in
    ap (within c.in-Some.number) (sym test) ∙ ap (read c.args.low c.args.high) (sym c.in-Some.is ∙ c.number.ensures)

pub returns-in-Some-clause-low : goal.returns-in-Some-clause-low
returns-in-Some-clause-low c =
    let fits : SFits w32 c.in-Some.number = search rules in
    let low : SFits w32 c.args.low = c.ranges.low in
    let high : SFits w32 c.args.high = c.ranges.high in
    let test : is_between c.args.low c.args.high c.in-Some.number ≡ true = simp to_z-of_z at c.if-low-number.true in
    simp to_z-of_z (le_z_yes (subst T (sym (and_parts _ _ test).0) tt))

pub returns-in-Some-clause-high : goal.returns-in-Some-clause-high
returns-in-Some-clause-high c =
    let fits : SFits w32 c.in-Some.number = search rules in
    let low : SFits w32 c.args.low = c.ranges.low in
    let high : SFits w32 c.args.high = c.ranges.high in
    let test : is_between c.args.low c.args.high c.in-Some.number ≡ true = simp to_z-of_z at c.if-low-number.true in
    simp to_z-of_z (le_z_yes (subst T (sym (and_parts _ _ test).1) tt))
