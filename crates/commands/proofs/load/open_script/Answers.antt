use Rattle.std.proofs.Common.{rules}
use Rattle.commands.proofs.Parts.{opens, opens_not, opens_nothing}
use Rattle.commands.proofs.load.open_script.Goals as goal

pub returns-in_err-select_script : goal.returns-in_err-select_script
returns-in_err-select_script g c =
    opens_not _ _ _ _ _ (search rules) c.in_err-select_script.ensures

pub returns-in_err-make : goal.returns-in_err-make
returns-in_err-make g c =
    opens_nothing _ _ _ _ _ (search rules) c.in_ok-select_script.ensures

pub returns : goal.returns
returns g c = opens _ _ _ _ _ c.in_ok-make.ensures c.in_ok-select_script.ensures
