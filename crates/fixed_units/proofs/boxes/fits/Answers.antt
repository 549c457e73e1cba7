use Rattle.std.proofs.Common.{rules}
use Rattle.fixed_units.proofs.Stored.{boxes_stored}
use Rattle.fixed_units.proofs.boxes.fits.Goals as goal

pub returns-clause-exactly : goal.returns-clause-exactly
returns-clause-exactly c = boxes_stored c.args.frame.now _ (search rules)
