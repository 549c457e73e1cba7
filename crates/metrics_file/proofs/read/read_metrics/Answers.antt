use Rattle.std.proofs.Common.{sym, subst, Err}
use Rattle.std.specs.Str.Lines.{lines}
use Rattle.metrics_file.specs.declared.refusal.LineRefusal.TheVariants.{Fault as FaultyLine}
use Rattle.metrics_file.specs.Reading.{nothing, after_first, metrics_of}
use Rattle.metrics_file.specs.Reads.{Reads, Begins}
use Rattle.metrics_file.proofs.Forward.{from_first, stopped}
use Rattle.metrics_file.proofs.read.read_metrics.Goals as goal

pub returns-in-Err : goal.returns-in-Err
returns-in-Err c =
    let first = c.first_line.result.0.now in
    record {
      reads =
          subst (λ r. Reads (metrics_of c.args.bytes.now) (Err r)) (sym c.at.ensures)
          (stopped _ 1 (after_first first) (nothing 1) _ (FaultyLine c.in-Err.fault)
          (from_first c.args.bytes.now first (lines c.first_line.result.1.now) c.first_line.ensures.line)
          (sym c.in-Err.ensures));
    }

pub read_rest-requires-clause-begun : goal.read_rest-requires-clause-begun
read_rest-requires-clause-begun c =
    subst (λ ls. Begins ls c.in-Ok.given) (sym c.first_line.ensures.line) (sym c.in-Ok.ensures)
