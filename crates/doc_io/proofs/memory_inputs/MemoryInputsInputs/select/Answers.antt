use Rattle.std.proofs.Common.{◌≡◌, true, false, Some, rules}
use Rattle.std.specs.FinMap.{empty, get}
use Rattle.doc_io.specs.FailingCalls.{fails_next}
use Rattle.doc_io.specs.MemoryInputs.{bytes_at, put_in}
use Rattle.doc_io.proofs.MemoryFiles.{bytes_within}
use Rattle.doc_io.proofs.MemoryCalls.{selects_failing, selects_found, selects_told}
use Rattle.doc_io.proofs.memory_inputs.MemoryInputsInputs.select.Goals as goal

pub returns-then-contains-clause-exactly : goal.returns-then-contains-clause-exactly
returns-then-contains-clause-exactly c =
    let fails : fails_next c.self.inside.failing c.self.inside.calls ≡ true = search rules in
    let there : get (put_in empty c.self.inside.files) c.args.name.now ≡ bytes_at c.self.inside.files (Some c.in-Some.index) = cc c.in-Some.ensures.bytes in
    let some = bytes_within c.self.inside.files c.in-Some.index (search rules) in
    rw (← c.self.view_is, c.saturating_add-self-inside.ensures, c.saturating_add-self-inside-then-contains.ensures)
    (selects_failing _ _ _ _ there some fails)

pub returns-clause-selects : goal.returns-clause-selects
returns-clause-selects c =
    let there : get (put_in empty c.self.inside.files) c.args.name.now ≡ bytes_at c.self.inside.files (Some c.in-Some.index) = cc c.in-Some.ensures.bytes in
    let some = bytes_within c.self.inside.files c.in-Some.index (search rules) in
    rw (← c.self.view_is) (selects_told _ _ _ _ _ _ there some)

pub returns-clause-exactly : goal.returns-clause-exactly
returns-clause-exactly c =
    let spared : fails_next c.self.inside.failing c.self.inside.calls ≡ false = search rules in
    let there : get (put_in empty c.self.inside.files) c.args.name.now ≡ bytes_at c.self.inside.files (Some c.in-Some.index) = cc c.in-Some.ensures.bytes in
    let some = bytes_within c.self.inside.files c.in-Some.index (search rules) in
    rw (← c.self.view_is, c.saturating_add-self-inside.ensures) (selects_found _ _ _ there some spared)
