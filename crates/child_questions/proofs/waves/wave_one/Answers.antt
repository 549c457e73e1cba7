use Rattle.std.proofs.Common.{◌∙◌, ap, subst, sym}
use Rattle.std.specs.List.{All}
use Rattle.layout_model.specs.Answers.{questions_in}
use Rattle.layout_model.specs.Fits.{HasStyle}
use Rattle.child_questions.proofs.waves.wave_one.Goals as goal

pub returns-clause-ok : goal.returns-clause-ok
returns-clause-ok g c = (c.in_ok-questions_in.ensures {u = tt}) ∙ ap questions_in c.as_slice.ensures ∙ (c.in_ok-asked.ensures {u = tt}).ok

pub returns-clause-styles : goal.returns-clause-styles
returns-clause-styles g c =
    subst (All HasStyle) (sym ((c.in_ok-questions_in.ensures {u = tt}) ∙ ap questions_in c.as_slice.ensures)) (c.in_ok-asked.ensures {u = tt}).styles
