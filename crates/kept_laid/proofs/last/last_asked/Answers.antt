use Rattle.std.proofs.Common.{[], refl}
use Rattle.layout_model.specs.Answers.{questions_in}
use Rattle.kept_laid.proofs.last.last_asked.Goals as goal

pub returns : goal.returns
returns c = c.last_among.ensures (questions_in c.args.entry.now.one) (c.last_among-first.ensures [] refl)
