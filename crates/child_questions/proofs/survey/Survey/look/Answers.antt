use Rattle.std.proofs.Common.{◌∙◌, ap, codes}
use Rattle.math_tree.specs.declared.node.Head.{Head}
use Rattle.layout_model.specs.Contexts.{is_true}
use Rattle.child_questions.proofs.survey.Survey.look.Goals as goal

pub returns : goal.returns
returns g c =
    let head = c.head.ensures in
    let asking = c.asking-asking.ensures in
    let fences = c.fences_of-fences.ensures in
    let pulls = c.in_ok-pulls.ensures {u = tt} in
    let accent = c.is_true.ensures ∙ ap (λ (h : Head). is_true (codes "accent") h.attributes) head in
    let accentunder = c.is_true-2.ensures ∙ ap (λ (h : Head). is_true (codes "accentunder") h.attributes) head in
    cc
