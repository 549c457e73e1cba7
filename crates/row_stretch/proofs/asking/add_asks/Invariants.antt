use Rattle.std.proofs.Common.{◌≡◌, ◌+◌, ◌++◌, take}
use Rattle.row_stretch.specs.Questions.{asks_from}
use Rattle.row_stretch.proofs.asking.add_asks.Given as goal

-- the children so far are asked
abbrev pub invariant-loop-kid : goal.invariant-loop-kid
invariant-loop-kid l = record {
  all : l.all ≡ l.initial.all ++ asks_from l.place l.plan (take l.kid-index l.kids);
  next : l.next ≡ l.place + l.kid-index;
}
