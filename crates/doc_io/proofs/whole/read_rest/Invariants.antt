use Rattle.std.proofs.Common.{◌≡◌, ◌≤◌, ◌-◌, length}
use Rattle.std.specs.Io.KnownBytes.{Consumes, IsAtEnd}
use Rattle.doc_io.proofs.whole.read_rest.Given as goal

abbrev pub invariant-loop-block : goal.invariant-loop-block
invariant-loop-block g l =
    let before = g.I.Inputs.told l.fn.inputs in
    let now = g.I.Inputs.told l.inputs in
    record {
      short : length l.bytes ≤ l.limit;
      taken : Consumes before.rest now.rest l.bytes;
      faults : before.faults ≤ now.faults;
      files : now.files ≡ before.files;
      missing : now.missing ≡ before.missing;
      ended : length l.bytes ≡ l.limit → IsAtEnd now.rest;
    }

abbrev pub decreases-loop-block : goal.decreases-loop-block
decreases-loop-block g l = l.limit - length l.bytes
