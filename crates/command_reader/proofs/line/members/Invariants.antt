use Rattle.std.proofs.Common.{length}
use Rattle.serde_json.specs.Read.{max_depth}
use Rattle.tree_reader.specs.Said.{IsOpen}
use Rattle.command_reader.specs.Said.{members_said}
use Rattle.command_reader.proofs.line.members.Given as goal

-- an object began, which has these members so far
abbrev pub invariant-members : goal.invariant-members
invariant-members l = IsOpen max_depth l.fn.reader (members_said l.said) l.reader

abbrev pub decreases-members : goal.decreases-members
decreases-members l = length l.reader
