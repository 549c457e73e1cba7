use Rattle.doc_io.proofs.SystemWrites.{writes}
use Rattle.doc_io.proofs.edge.StdSinkSink.write.Goals as goal

pub returns-clause-writes : goal.returns-clause-writes
returns-clause-writes g c =
    let counted = c.counted.ensures in
    rw (← c.self.view_is) (writes _ (record { written = g.W.Write.contents c.write-answer.new.self; faults = c.self.inside.faults }) _ _ counted.written counted.faults _ _ c.write-answer.ensures.bound c.write-answer.ensures.bytes counted.taken counted.failed counted.counts)
