use Rattle.std.proofs.Common.{◌∙◌, ap, sym}
use Rattle.metrics_file.specs.declared.keyword.Keyword.TheVariants.{Unknown}
use Rattle.metrics_file.specs.Lines.{keyword_of}
use Rattle.metrics_file.proofs.Choosing.{or_other, with-other}
use Rattle.metrics_file.proofs.keyword.keyword_of.Goals as goal

pub returns-in-Some : goal.returns-in-Some
unfolding keyword_of
returns-in-Some c =
    ap (λ o. or_other o Unknown) (sym c.in-Some.is ∙ c.choice_of.ensures) ∙ sym (with-other _ c.args.word.now Unknown)

pub returns-in-None : goal.returns-in-None
unfolding keyword_of
returns-in-None c =
    ap (λ o. or_other o Unknown) (sym c.in-None.is ∙ c.choice_of.ensures) ∙ sym (with-other _ c.args.word.now Unknown)
