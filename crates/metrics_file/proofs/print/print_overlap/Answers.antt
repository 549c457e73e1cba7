use Rattle.std.proofs.Common.{append-nil, sym}
use Rattle.metrics_file.proofs.print.print_overlap.Goals as goal

pub returns-in-None : goal.returns-in-None
returns-in-None c = rw c.in-None.is (sym (append-nil c.args.lines.now))

pub returns-in-Some : goal.returns-in-Some
returns-in-Some c = rw (c.in-Some.is, append-nil) c.add_line.ensures
