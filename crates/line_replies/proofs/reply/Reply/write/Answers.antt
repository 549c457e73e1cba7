use Rattle.std.proofs.Common.{◌≡◌, subst, sym}
use Rattle.doc_io.specs.Whole.{WritesAll}
use Rattle.line_replies.specs.Replies.{text_of_reply}
use Rattle.line_replies.specs.declared.reply.Reply.{Reply}
use Rattle.line_replies.specs.declared.reply.Reply.TheVariants.{Accepted, Nothing, Shown}
use Rattle.line_replies.proofs.reply.Reply.write.Goals as goal

pub returns-in-Nothing : goal.returns-in-Nothing
unfolding text_of_reply
returns-in-Nothing g c =
    let is : c.args.self.now ≡ Nothing = c.in-Nothing.is in
    let told = g.O.Sink.told in
    subst (λ (reply : Reply). WritesAll (told c.args.out.now) (told c.write_all.new.out) (text_of_reply c.args.metrics.now reply) c.write_all.result) (sym is) c.write_all.ensures

pub returns-in-Accepted : goal.returns-in-Accepted
unfolding text_of_reply
returns-in-Accepted g c =
    let is : c.args.self.now ≡ Accepted = c.in-Accepted.is in
    let told = g.O.Sink.told in
    subst (λ (reply : Reply). WritesAll (told c.args.out.now) (told c.write_all-in-Accepted.new.out) (text_of_reply c.args.metrics.now reply) c.write_all-in-Accepted.result) (sym is) c.write_all-in-Accepted.ensures

pub returns-in-Shown : goal.returns-in-Shown
unfolding text_of_reply
returns-in-Shown g c =
    let is : c.args.self.now ≡ Shown c.in-Shown.placed = c.in-Shown.is in
    let told = g.O.Sink.told in
    subst (λ (reply : Reply). WritesAll (told c.args.out.now) (told c.write_shown.new.out) (text_of_reply c.args.metrics.now reply) c.write_shown.result) (sym is) c.write_shown.ensures
