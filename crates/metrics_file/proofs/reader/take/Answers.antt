use Rattle.std.proofs.Common.{◌∙◌, ap, sym, subst}
use Rattle.font_metrics.specs.declared.fault.LineFault.TheVariants.{ForeignByte}
use Rattle.font_metrics.specs.Faults.{fault_if}
use Rattle.metrics_file.specs.Lines.{lent}
use Rattle.metrics_file.specs.Reading.{after_words, words_of}
use Rattle.metrics_file.specs.Reads.{Takes}
use Rattle.metrics_file.proofs.Cuts.{words-take, behind}
use Rattle.metrics_file.proofs.reader.take.Goals as goal

pub returns : goal.returns
returns c =
    let g = c.args.given.now in
    let line = c.args.line.now in
    let words = ap lent c.as_slice.ensures.value ∙ c.cut.ensures in
    subst (λ s. Takes s c.take_words.new.given c.take_words.result)
    (ap (after_words g) words ∙ words-take g (words_of line)
    ∙ sym (behind g line c.is_foreign.result c.is_comment.result tt c.is_foreign.ensures
    (ap (λ b. fault_if b ForeignByte) c.if-is_foreign.false) c.is_comment.ensures c.if-is_comment.false))
    c.take_words.ensures
