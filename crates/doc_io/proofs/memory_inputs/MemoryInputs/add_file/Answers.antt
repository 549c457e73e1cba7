use Rattle.std.proofs.Common.{◌≡◌, ◌∷◌, ◌++◌, [], refl, rules}
use Rattle.doc_io.specs.declared.memory_inputs.Named.{Named}
use Rattle.doc_io.proofs.MemoryFiles.{bytes_at-push, put_in-push}
use Rattle.doc_io.proofs.memory_inputs.MemoryInputs.add_file.Goals as goal

pub returns-clause-ok : goal.returns-clause-ok
returns-clause-ok c =
    let file : Named = record { name = c.args.name.now; bytes = c.args.bytes.now } in
    let pushed : c.push.new.self ≡ c.self.inside.files ++ file ∷ [] = search rules in
    rw (← c.self.view_is, pushed, put_in-push, bytes_at-push c.self.inside.files file c.self.inside.selected c.self.invariant) refl
