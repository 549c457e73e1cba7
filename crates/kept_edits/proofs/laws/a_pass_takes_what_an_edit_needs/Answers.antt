use Rattle.kept_edits.proofs.ToldById.{pass_need_law}
use Rattle.kept_edits.proofs.laws.a_pass_takes_what_an_edit_needs.Goals as goal

pub returns : goal.returns
returns c = pass_need_law
