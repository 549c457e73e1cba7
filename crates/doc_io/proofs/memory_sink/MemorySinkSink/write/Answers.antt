use Rattle.std.proofs.Common.{◌≡◌, ◌-◌, ◌++◌, ◌||◌, min, length, take, true, false, nat_le, rules}
use Rattle.doc_io.specs.FailingCalls.{fails_next}
use Rattle.doc_io.proofs.MemoryCalls.{writes_failing, writes_taken}
use Rattle.doc_io.proofs.memory_sink.MemorySinkSink.write.Goals as goal

pub returns-then-contains-is_full-clause-exactly :
    goal.returns-then-contains-is_full-clause-exactly
returns-then-contains-is_full-clause-exactly c =
    let fails : fails_next c.self.inside.failing c.self.inside.calls || nat_le c.self.inside.room (length c.self.inside.bytes.items) ≡ true = search rules in
    rw (← c.self.view_is, c.saturating_add-self-inside.ensures, c.saturating_add-self-inside-then-contains-is_full.ensures)
    (writes_failing _ _ _ fails)

pub returns-clause-exactly : goal.returns-clause-exactly
returns-clause-exactly c =
    let old = c.self.inside in
    let spared : fails_next old.failing old.calls || nat_le old.room (length old.bytes.items) ≡ false = search rules in
    let count : c.min-count.result ≡ min (length c.args.from.now) (old.room - length old.bytes.items) = search rules in
    let bytes : c.extend_from_slice.new.self.items ≡ old.bytes.items ++ take c.min-count.result c.args.from.now = search rules in
    rw (← c.self.view_is, c.saturating_add-self-inside.ensures, bytes, count) (writes_taken _ _ spared)
