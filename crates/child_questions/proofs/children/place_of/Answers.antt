use Rattle.std.proofs.Common.{ap}
use Rattle.math_tree.specs.declared.node.Head.{Head}
use Rattle.child_questions.proofs.children.place_of.Goals as goal

pub returns : goal.returns
returns g c =
    let kind = ap (λ (h : Head). h.kind) c.head.ensures in
    let accent = c.requires.accent in
    let accentunder = c.requires.accentunder in
    let subscript = c.is_subscript-subscript.ensures in
    cc
