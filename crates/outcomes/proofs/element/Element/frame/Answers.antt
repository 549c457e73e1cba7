use Rattle.std.proofs.Common.{List, ap, get_or, arith, subst, sym, length}
use Rattle.std.specs.Borrow.{Bor}
use Rattle.layout_model.specs.declared.outcome.Answer.{Answer}
use Rattle.layout_model.proofs.Ranges.{IsAnswerStored}
use Rattle.outcomes.proofs.Kids.{lent_answer_in, now_of}
use Rattle.outcomes.proofs.element.Element.frame.Goals as goal

pub returns-in-Some-clause-stored : goal.returns-in-Some-clause-stored
returns-in-Some-clause-stored g c =
    let found = (c.in-Some.ensures {u = tt}).lookup.3 in
    let items = c.deref.ensures.value in
    let same = found.1 c.in-Some.answer.now in
    (subst IsAnswerStored (sym (ap now_of same)) (subst (λ (kids : List (Bor Answer)). IsAnswerStored (get_or kids c.args.index c.in-Some.answer.now).now) (sym items)
    (lent_answer_in c.self.inside.kids.items c.args.index c.in-Some.answer.now c.self.invariant.stored (omega (arith, found.0, ap length items))))).frame
