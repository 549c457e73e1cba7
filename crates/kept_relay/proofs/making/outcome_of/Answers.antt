use Rattle.std.proofs.Common.{◌∙◌, sym, ap, subst, All, List}
use Rattle.std.proofs.lemmas.List.Elements.{All-append, All-nil}
use Rattle.embellished.specs.Seen.{seen_of}
use Rattle.layout_model.specs.Answers.{answers_in, questions_in}
use Rattle.layout_model.specs.Fits.{HasFont}
use Rattle.layout_model.specs.declared.reply.Reply.{Reply}
use Rattle.child_questions.proofs.Unstretched.{one_wave}
use Rattle.kept_results.proofs.Restyling.{no_answers}
use Rattle.kept_relay.proofs.making.outcome_of.Goals as goal

pub finish_replies-requires-clause-replies : goal.finish_replies-requires-clause-replies
finish_replies-requires-clause-replies g c =
    let none = c.make-two.ensures in
    record {
      one_asked = c.requires.ones;
      two_asked = ap questions_in none
          ∙ sym (one_wave c.args.metrics.now (seen_of c.args.view.now.node.now) c.args.context.now (answers_in c.args.one.now) c.requires.one_wave);
      one_fits = c.requires.stored;
      two_fits = no_answers (answers_in c.make-two.result) (ap answers_in none);
      fonts =
          All-append (HasFont c.args.metrics.now) (questions_in c.args.one.now) (questions_in c.make-two.result) c.requires.fonts
          (subst (λ (l : List Reply). All (HasFont c.args.metrics.now) (questions_in l)) (sym none) (All-nil (HasFont c.args.metrics.now)));
    }
