use Rattle.std.proofs.Common.{◌∙◌}
use Rattle.layout_model.proofs.FontSizes.{font_size_found}
use Rattle.child_questions.proofs.survey.has_font_size.Goals as goal

pub returns : goal.returns
returns c = c.is_some.ensures ∙ font_size_found c.args.metrics.now c.args.style.now c.font_size.result c.font_size.ensures.value c.font_size.ensures.within
