use Rattle.std.proofs.Common.{w64}
use Rattle.std.proofs.lemmas.Int.{to_z-of_z}
use Rattle.metrics_file.proofs.printed.PrintedLines.add_number.Goals as goal

pub returns : goal.returns
returns c = rw (← c.self.view_is) (rw (to_z-of_z w64 c.args.number c.ranges.number) at c.in_ok-write.ensures.bytes)
