use Rattle.std.proofs.Common.{rules, ◌∙◌, ap, w64, FitsSigned, get_or, length, arith, List}
use Rattle.std.proofs.lemmas.Int.{to_z-of_z}
use Rattle.std.specs.Borrow.{Bor}
use Rattle.layout_model.specs.Elements.{Element}
use Rattle.layout_model.specs.declared.outcome.Answer.{Answer}
use Rattle.outcomes.proofs.Kids.{lead_spaces, no_spaces}
use Rattle.outcomes.proofs.element.Element.spaces.Goals as goal

pub returns-then-is_none-clause-before : goal.returns-then-is_none-clause-before
returns-then-is_none-clause-before g c =
    ap (λ (a : Answer). a.before)
    (no_spaces c.args.self.now _ c.facts.result (ap (λ (e : Element). e.seen) c.self.view_is) c.facts.ensures (c.if-is_none.ensures {u = tt}))

pub returns-in-Some-clause-before : goal.returns-in-Some-clause-before
returns-in-Some-clause-before g c =
    let found = (c.in-Some.ensures {u = tt}).lookup.3 in
    let items = c.deref.ensures.value in
    let fits : FitsSigned w64 c.in-Some.answer.now.now.before = search rules in
    to_z-of_z w64 c.in-Some.answer.now.now.before fits
    ∙ ap (λ (a : Answer). a.before)
    (lead_spaces c.args.self.now _ c.self.inside.kids.items c.facts.result c.lead_place.result c.in-Some.answer.now
    (ap (λ (e : Element). e.seen) c.self.view_is) (ap (λ (e : Element). e.kids) c.self.view_is) c.facts.ensures (c.if-is_none.ensures {u = tt}) c.lead_place.ensures
    (omega (arith, found.0, ap length items)) (found.1 c.in-Some.answer.now ∙ ap (λ (kids : List (Bor Answer)). get_or kids c.lead_place.result c.in-Some.answer.now) items))

pub returns-then-is_none-clause-after : goal.returns-then-is_none-clause-after
returns-then-is_none-clause-after g c =
    ap (λ (a : Answer). a.after)
    (no_spaces c.args.self.now _ c.facts.result (ap (λ (e : Element). e.seen) c.self.view_is) c.facts.ensures (c.if-is_none.ensures {u = tt}))

pub returns-in-Some-clause-after : goal.returns-in-Some-clause-after
returns-in-Some-clause-after g c =
    let found = (c.in-Some.ensures {u = tt}).lookup.3 in
    let items = c.deref.ensures.value in
    let fits : FitsSigned w64 c.in-Some.answer.now.now.after = search rules in
    to_z-of_z w64 c.in-Some.answer.now.now.after fits
    ∙ ap (λ (a : Answer). a.after)
    (lead_spaces c.args.self.now _ c.self.inside.kids.items c.facts.result c.lead_place.result c.in-Some.answer.now
    (ap (λ (e : Element). e.seen) c.self.view_is) (ap (λ (e : Element). e.kids) c.self.view_is) c.facts.ensures (c.if-is_none.ensures {u = tt}) c.lead_place.ensures
    (omega (arith, found.0, ap length items)) (found.1 c.in-Some.answer.now ∙ ap (λ (kids : List (Bor Answer)). get_or kids c.lead_place.result c.in-Some.answer.now) items))
