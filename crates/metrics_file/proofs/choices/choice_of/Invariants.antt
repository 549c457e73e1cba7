use Rattle.std.proofs.Common.{◌≡◌, take, None}
use Rattle.metrics_file.specs.Words.{choice_in}
use Rattle.metrics_file.proofs.choices.choice_of.Given as goal

-- none of the choices so far has the word
abbrev pub invariant-loop-text : goal.invariant-loop-text
invariant-loop-text g l = choice_in (take l.text-index l.fn.choices) l.fn.word ≡ None
