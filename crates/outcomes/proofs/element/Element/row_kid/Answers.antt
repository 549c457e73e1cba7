use Rattle.std.proofs.Common.{◌≡◌, ap, arith, lit<, subst, sym, length}
use Rattle.std.proofs.lemmas.List.{length-map}
use Rattle.font_metrics.proofs.Scaling.{within64}
use Rattle.embellished.specs.Seen.{seen_of}
use Rattle.layout_model.specs.Elements.{Element}
use Rattle.layout_model.proofs.Ranges.{IsAnswerStored}
use Rattle.outcomes.proofs.Kids.{lent_answer_in, now_of}
use Rattle.outcomes.proofs.element.Element.row_kid.Goals as goal

pub returns-clause-stored : goal.returns-clause-stored
returns-clause-stored g c =
    let kids = c.self.inside.kids.items in
    let shown : length (seen_of (g.V.View.element c.self.inside.view.now)).kids ≡ length c.args.self.now.seen.kids =
    ap (λ (e : Element). length e.seen.kids) c.self.view_is in
    let stored : IsAnswerStored c.index-answer.result.now.now =
    subst IsAnswerStored (sym (ap now_of c.index-answer.ensures))
    (lent_answer_in kids c.args.index c.index-answer.result.now c.self.invariant.stored
    (omega (arith, c.requires, c.self.invariant.each, shown, length-map kids now_of))) in
    record {
      frame = stored.frame;
      before = within64 stored.before (lit< tt);
      after = within64 stored.after (lit< tt);
    }
