use Rattle.std.proofs.Common.{◌∙◌, ◌<◌, ap, Result, Ok, Err}
use Rattle.std.proofs.lemmas.List.Elements.{All-weaker}
use Rattle.std.specs.Result.{IsErr, OnOk}
use Rattle.fixed_units.specs.declared.memory.Memory.{Memory}
use Rattle.std.proofs.lemmas.Result.{on_ok_weaker}
use Rattle.metrics_file.specs.Reading.{metrics_of}
use Rattle.font_metrics.specs.Taken.{IsConstant}
use Rattle.metrics_file.proofs.Printing.{whole-print}
use Rattle.metrics_file.proofs.ReadBack.Whole.{print_reads_back}
use Rattle.metrics_file.proofs.print.print_lines.Goals as goal

-- a refusal promises nothing
refused : (r : Result (Unit {0}) Memory) (P : Type 0) → IsErr r → OnOk r P
refused (Ok done) P h = let none : ⊥ = cc in absurd none
refused (Err e) P h = tt

pub returns-in_err-print_header-clause-print : goal.returns-in_err-print_header-clause-print
returns-in_err-print_header-clause-print c = refused c.from_residual.result _ c.from_residual.ensures.0

pub returns-in_err-print_header-clause-reads_back : goal.returns-in_err-print_header-clause-reads_back
returns-in_err-print_header-clause-reads_back c = refused c.from_residual.result _ c.from_residual.ensures.0

pub returns-in_err-print_constants-clause-print : goal.returns-in_err-print_constants-clause-print
returns-in_err-print_constants-clause-print c = refused c.from_residual-in_err-print_constants.result _ c.from_residual-in_err-print_constants.ensures.0

pub returns-in_err-print_constants-clause-reads_back : goal.returns-in_err-print_constants-clause-reads_back
returns-in_err-print_constants-clause-reads_back c = refused c.from_residual-in_err-print_constants.result _ c.from_residual-in_err-print_constants.ensures.0

pub returns-in_err-print_glyphs-clause-print : goal.returns-in_err-print_glyphs-clause-print
returns-in_err-print_glyphs-clause-print c = refused c.from_residual-in_err-print_glyphs.result _ c.from_residual-in_err-print_glyphs.ensures.0

pub returns-in_err-print_glyphs-clause-reads_back : goal.returns-in_err-print_glyphs-clause-reads_back
returns-in_err-print_glyphs-clause-reads_back c = refused c.from_residual-in_err-print_glyphs.result _ c.from_residual-in_err-print_glyphs.ensures.0

pub returns-in_err-print_characters-clause-print : goal.returns-in_err-print_characters-clause-print
returns-in_err-print_characters-clause-print c = refused c.from_residual-in_err-print_characters.result _ c.from_residual-in_err-print_characters.ensures.0

pub returns-in_err-print_characters-clause-reads_back : goal.returns-in_err-print_characters-clause-reads_back
returns-in_err-print_characters-clause-reads_back c = refused c.from_residual-in_err-print_characters.result _ c.from_residual-in_err-print_characters.ensures.0

pub returns-in_err-print_growth-clause-print : goal.returns-in_err-print_growth-clause-print
returns-in_err-print_growth-clause-print c = refused c.from_residual-in_err-print_growth.result _ c.from_residual-in_err-print_growth.ensures.0

pub returns-in_err-print_growth-clause-reads_back : goal.returns-in_err-print_growth-clause-reads_back
returns-in_err-print_growth-clause-reads_back c = refused c.from_residual-in_err-print_growth.result _ c.from_residual-in_err-print_growth.ensures.0

pub print_constants-requires : goal.print_constants-requires
print_constants-requires c =
    rw c.constants.ensures (All-weaker IsConstant (λ constant. constant.0 < 56) (λ constant is. is.0) c.args.metrics.now.constants c.is_taken.ensures.constants)

pub returns-clause-print : goal.returns-clause-print
returns-clause-print c =
    let header = rw c.requires at c.in_ok-print_header.ensures in
    let constants = rw c.constants.ensures at c.in_ok-print_constants.ensures in
    let glyphs = rw c.glyphs.ensures at c.in_ok-print_glyphs.ensures in
    on_ok_weaker c.print_operators.result
    (λ last. whole-print c.args.metrics.now _ _ _ _ _ _ header constants glyphs
    c.in_ok-print_characters.ensures c.in_ok-print_growth.ensures (rw c.extra.ensures at last))
    c.print_operators.ensures

pub returns-clause-reads_back : goal.returns-clause-reads_back
returns-clause-reads_back c =
    on_ok_weaker c.print_operators.result
    (λ is. ap metrics_of is ∙ print_reads_back c.args.metrics.now c.is_taken.ensures)
    (returns-clause-print c)
