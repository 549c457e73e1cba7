use Rattle.token_boxes.specs.Token.{IsWord}
use Rattle.token_boxes.proofs.tokens.word_leaf.Given as goal

-- the leaf of the characters so far
abbrev pub invariant-loop-letter : goal.invariant-loop-letter
invariant-loop-letter l = IsWord l.metrics l.size l.yielded l.width l.inks l.marks
