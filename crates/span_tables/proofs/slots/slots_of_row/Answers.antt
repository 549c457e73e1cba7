use Rattle.std.proofs.Common.{◌≡◌, ◌∙◌, ◌-◌, ◌^◌, sym, ap, subst, List, ℕ, ℤ, length, arith}
use Rattle.std.specs.List.{All}
use Rattle.std.proofs.lemmas.Result.{IfOk-weaker}
use Rattle.fixed_units.specs.Numbers.{IsWithin}
use Rattle.span_tables.specs.Slots.{slots_by, slots_of, AreInside}
use Rattle.span_tables.proofs.Starts.{length-starts_of, starts_in, slots_are}
use Rattle.span_tables.proofs.slots.slots_of_row.Goals as goal

pub slots_from-requires-clause-some : goal.slots_from-requires-clause-some
slots_from-requires-clause-some c =
    let long = ap length (c.in_ok-starts.ensures {u = tt}) ∙ length-starts_of c.args.widths.now in
    omega arith

pub slots_from-requires-clause-within : goal.slots_from-requires-clause-within
slots_from-requires-clause-within c =
    subst (All (IsWithin (2 ^ 58))) (sym (c.in_ok-starts.ensures {u = tt})) (starts_in c.args.widths.now c.requires.columns c.requires.few)

pub slots_from-requires-clause-inside : goal.slots_from-requires-clause-inside
slots_from-requires-clause-inside c =
    let long = ap length (c.in_ok-starts.ensures {u = tt}) ∙ length-starts_of c.args.widths.now in
    let last : length c.args.widths.now ≡ length c.in_ok-starts.starts - 1 = omega arith in
    subst (λ (n : ℕ). AreInside n c.args.cells.now c.args.firsts.now) last c.requires.inside

pub returns : goal.returns
returns c =
    let cells = c.args.cells.now in
    let firsts = c.args.firsts.now in
    let widths = c.args.widths.now in
    IfOk-weaker c.slots_from.result (λ (slots : List ℤ). slots ≡ slots_by c.in_ok-starts.starts cells firsts) (λ (slots : List ℤ). slots ≡ slots_of cells firsts widths)
    (λ slots is. is ∙ ap (λ (starts : List ℤ). slots_by starts cells firsts) (c.in_ok-starts.ensures {u = tt}) ∙ slots_are widths cells firsts c.requires.inside)
    c.slots_from.ensures
