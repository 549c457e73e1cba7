use Rattle.std.proofs.Common.{◌∙◌, ap, arith}
use Rattle.std.proofs.lemmas.Option.{slice_get_within}
use Rattle.layout_model.specs.declared.context.Question.{Question}
use Rattle.layout_model.proofs.Replies.{question_was}
use Rattle.kept_results.proofs.earlier.are_in_order.Goals as goal

pub returns : goal.returns
returns c = λ e index question at.
    let was = question_was c.args.replies.now index question at in
    let near = slice_get_within c.args.replies.now index was.0 was.1 in
    ap (λ (q : Question). q.kid) was.2 ∙ c.loop-index.invariant index was.0 (omega (arith, near, c.loop-index-test.false)) was.1
