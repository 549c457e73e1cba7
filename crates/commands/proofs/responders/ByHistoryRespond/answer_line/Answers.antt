use Rattle.std.proofs.Common.{◌≡◌, ◌∙◌, ap, rules, subst, sym, Ok, Err}
use Rattle.script_answers.specs.Lines.{Tells}
use Rattle.line_replies.specs.History.{told_of}
use Rattle.line_replies.specs.HistorySteps.{kept_by, ring_of}
use Rattle.line_replies.specs.Replies.{IsReplyOfFont, text_of_reply}
use Rattle.script_answers.specs.declared.stop.Stop.TheVariants as stop
use Rattle.line_replies.proofs.Histories.{history_keeps}
use Rattle.commands.proofs.Replying.{not_told, told}
use Rattle.commands.proofs.responders.ByHistoryRespond.answer_line.Goals as goal

-- the metrics with which the reply is written are those of before
pub write-requires : goal.write-requires
write-requires g c =
    let same : c.metrics.result.now ≡ (ring_of c.args.self.now.ring).told.metrics =
    c.metrics.ensures.exact ∙ ap (λ k. k.history.metrics) c.in_ok-reply.ensures.made.after ∙ history_keeps (kept_by (ring_of c.args.self.now.ring)).history c.args.line.now in
    subst (λ m. IsReplyOfFont m c.in_ok-reply.reply) (sym same) c.in_ok-reply.ensures.made.glyphs

pub returns-clause-told : goal.returns-clause-told
returns-clause-told g c =
    let same : c.metrics.result.now ≡ (ring_of c.args.self.now.ring).told.metrics =
    c.metrics.ensures.exact ∙ ap (λ k. k.history.metrics) c.in_ok-reply.ensures.made.after ∙ history_keeps (kept_by (ring_of c.args.self.now.ring)).history c.args.line.now in
    let text : text_of_reply c.metrics.result.now c.in_ok-reply.reply ≡ told_of (kept_by (ring_of c.args.self.now.ring)).history c.args.line.now =
    λ i. text_of_reply (same i) (c.in_ok-reply.ensures.made.reply i) in
    subst (λ text. Tells text (g.O.Sink.told c.args.out.now) (g.O.Sink.told c.write.new.out) (Ok tt)) text
    (told (g.O.Sink.told c.args.out.now) (g.O.Sink.told c.write.new.out) (text_of_reply c.metrics.result.now c.in_ok-reply.reply) c.in_ok-write.field-0 (c.in_ok-write.ensures {u = tt}))

pub returns-in_err-write-clause-told : goal.returns-in_err-write-clause-told
returns-in_err-write-clause-told g c =
    let same : c.metrics.result.now ≡ (ring_of c.args.self.now.ring).told.metrics =
    c.metrics.ensures.exact ∙ ap (λ k. k.history.metrics) c.in_ok-reply.ensures.made.after ∙ history_keeps (kept_by (ring_of c.args.self.now.ring)).history c.args.line.now in
    let text : text_of_reply c.metrics.result.now c.in_ok-reply.reply ≡ told_of (kept_by (ring_of c.args.self.now.ring)).history c.args.line.now =
    λ i. text_of_reply (same i) (c.in_ok-reply.ensures.made.reply i) in
    let failed : c.from_residual-in_err-write.result ≡ Err stop.WriteFault = search rules in
    subst (λ r. Tells (told_of (kept_by (ring_of c.args.self.now.ring)).history c.args.line.now) (g.O.Sink.told c.args.out.now) (g.O.Sink.told c.write.new.out) r) (sym failed)
    (subst (λ text. Tells text (g.O.Sink.told c.args.out.now) (g.O.Sink.told c.write.new.out) (Err stop.WriteFault)) text
    (not_told (g.O.Sink.told c.args.out.now) (g.O.Sink.told c.write.new.out) (text_of_reply c.metrics.result.now c.in_ok-reply.reply) c.in_err-write.field-0.0 (c.in_err-write.ensures {u = tt})))
