use Rattle.std.proofs.Common.{◌≡◌, ◌≤◌, length, take}
use Rattle.std.specs.FinMap.{empty, get}
use Rattle.doc_io.specs.MemoryInputs.{put_in}
use Rattle.doc_io.proofs.memory_inputs.newest.Given as goal

-- no file from the place on has the name
abbrev pub invariant-loop-place : goal.invariant-loop-place
invariant-loop-place l = record {
  within : l.place ≤ length l.files;
  before : get (put_in empty l.files) l.name ≡ get (put_in empty (take l.place l.files)) l.name;
}

abbrev pub decreases-loop-place : goal.decreases-loop-place
decreases-loop-place l = l.place
