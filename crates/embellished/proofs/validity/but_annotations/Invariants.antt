use Rattle.std.proofs.Common.{◌≡◌, take, map, filter, not}
use Rattle.embellished.specs.Kinds.{is_annotation}
use Rattle.embellished.proofs.validity.but_annotations.Given as goal

abbrev pub invariant-loop-kid : goal.invariant-loop-kid
invariant-loop-kid l =
    l.others.items ≡ filter (λ kid. not (is_annotation kid)) (map (λ kid. kid.laid) (take l.kid-index l.kids))
