use Rattle.std.proofs.Common.{◌≡◌, ◌∙◌, ◌<◌, ℕ, ℤ, SFits, w32, to_z-of_z, rules}
use Rattle.std.proofs.lemmas.List.Elements.{All-rest}
use Rattle.metrics_file.specs.Print.{constant_words}
use Rattle.metrics_file.proofs.Printing.{wide-back, next-of, rest-more}
use Rattle.metrics_file.proofs.print.print_constants.Goals as goal

pub text_of_place-requires : goal.text_of_place-requires
text_of_place-requires c =
    next-of (λ (constant : ℕ × ℤ). constant.0 < 56) _ _ (c.in-Some.place.now, c.in-Some.value.now)
    c.in-Some.ensures.steps c.loop-place.invariant.constants

pub loop-place-preserved : goal.loop-place-preserved
loop-place-preserved c =
    let constant : ℕ × ℤ = (c.in-Some.place.now, c.in-Some.value.now) in
    let fits : SFits w32 c.in-Some.value.now = search rules in
    let value : c.from.result ≡ c.in-Some.value.now = c.from.ensures ∙ simp to_z-of_z in
    let added = rw (value, wide-back fits, c.text_of_place.ensures) at c.in_ok-add_line.ensures in
    record {
      constants = All-rest (λ (constant : ℕ × ℤ). constant.0 < 56) constant _ _ c.in-Some.ensures.steps
          c.loop-place.invariant.constants;
      lines = rest-more constant_words c.loop-place.place-iterator c.next.new.self constant _ c.loop-place.lines
          c.add_line.new.self c.in-Some.ensures.steps c.loop-place.invariant.lines added;
    }
