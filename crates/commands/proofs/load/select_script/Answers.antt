use Rattle.commands.proofs.Parts.{not_selected}
use Rattle.commands.proofs.load.select_script.Goals as goal

pub returns-in-Err : goal.returns-in-Err
returns-in-Err g c = not_selected _ _ _ _ c.in-Err.ensures
