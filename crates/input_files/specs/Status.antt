-- The numbers of the endings, and which come before there is a tree.
use Rattle.std.specs.Prelude.{ℕ}
use Rattle.input_files.specs.declared.status.Status.{Status}
use Rattle.input_files.specs.declared.status.Status.TheVariants.{Done, Usage, Metrics, Tree, ReadFault, WriteFault, Memory, Range, ScriptLimit, Node, Paint}

-- the exit status of the program
abbrev pub number_of : Status → ℕ
number_of Done = 0
number_of Usage = 2
number_of Metrics = 3
number_of Tree = 4
number_of ReadFault = 5
number_of WriteFault = 6
number_of Memory = 7
number_of Range = 8
number_of ScriptLimit = 9
number_of Node = 10
number_of Paint = 11

-- the run ended before there was a tree
abbrev pub EndsBeforeTree : Status → Type 0
EndsBeforeTree Usage = Unit {0}
EndsBeforeTree Metrics = Unit {0}
EndsBeforeTree Tree = Unit {0}
EndsBeforeTree other = ⊥

-- the run ended before any tree was laid out
abbrev pub EndsUnlaid : Status → Type 0
EndsUnlaid ReadFault = Unit {0}
EndsUnlaid other = EndsBeforeTree other
