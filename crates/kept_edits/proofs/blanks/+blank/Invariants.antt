use Rattle.std.proofs.Common.{◌≡◌, map, take}
use Rattle.kept_results.specs.Looking.{own_facts}
use Rattle.kept_edits.specs.Blank.{blank}
use Rattle.kept_edits.proofs.blanks.+blank.Given as goal

-- the first children have their memos, and it is known what they are
abbrev pub invariant-loop-child : goal.invariant-loop-child
invariant-loop-child l = record {
  made : l.below ≡ map blank (take l.child-index l.child-items);
  known : l.kids ≡ map own_facts l.below;
}
