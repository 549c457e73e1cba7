use Rattle.std.proofs.Common.{length}
use Rattle.kept_edits.proofs.known.+known_on.Given as goal

abbrev pub decreases-known_on : goal.decreases-known_on
decreases-known_on l = length l.path.now
