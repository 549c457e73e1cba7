use Rattle.std.proofs.Common.{◌≡◌, ◌∙◌, ap, sym, false, Bool, Option, List, ℕ}
use Rattle.font_metrics.specs.declared.fault.LineFault.TheVariants.{ForeignByte, WrongFirstLine}
use Rattle.font_metrics.specs.Faults.{◌>>=◌, fault_if, or_fault}
use Rattle.metrics_file.specs.Lines.{lent}
use Rattle.metrics_file.specs.Reading.{is_foreign, first_in, version_in, words_of}
use Rattle.metrics_file.proofs.Cuts.{version-take}
use Rattle.metrics_file.proofs.reader.take_first.Goals as goal

-- the first line, by what is seen of it
seen : (line : List ℕ) (plain : Bool) (version found : Option ℕ) → plain ≡ is_foreign line → plain ≡ false
    → version ≡ version_in (words_of line) → version ≡ found → or_fault WrongFirstLine found ≡ first_in line
seen line plain version found f p v h =
    (λ i. fault_if (sym p i) ForeignByte >>= λ plain. or_fault WrongFirstLine (sym h i))
    ∙ (λ i. fault_if (f i) ForeignByte >>= λ plain. or_fault WrongFirstLine (v i))

pub returns-in-Some : goal.returns-in-Some
returns-in-Some c =
    let line = c.args.line.now in
    let words = ap lent c.as_slice.ensures.value ∙ c.cut.ensures in
    seen line c.is_foreign.result c.version_in.result _ c.is_foreign.ensures c.if-is_foreign.false
    (c.version_in.ensures ∙ ap version_in words ∙ version-take (words_of line)) c.in-Some.is

pub returns-in-None : goal.returns-in-None
returns-in-None c =
    let line = c.args.line.now in
    let words = ap lent c.as_slice.ensures.value ∙ c.cut.ensures in
    seen line c.is_foreign.result c.version_in.result _ c.is_foreign.ensures c.if-is_foreign.false
    (c.version_in.ensures ∙ ap version_in words ∙ version-take (words_of line)) c.in-None.is
