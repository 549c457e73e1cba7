use Rattle.std.proofs.Common.{◌∙◌, ◌<◌, refl, subst, sym, ℕ, List, length, All}
use Rattle.std.proofs.lemmas.List.{length-set}
use Rattle.std.proofs.lemmas.List.Elements.{All-get_or}
use Rattle.layout_model.specs.Answers.{questions_in}
use Rattle.layout_model.specs.Questions.{IsBelow}
use Rattle.layout_model.specs.declared.reply.Reply.{Reply}
use Rattle.layout_model.proofs.Replies.{asked_at, asked_within}
use Rattle.kept_laid.proofs.LastAsked.{put_more}
use Rattle.kept_laid.proofs.last.put_all.Goals as goal

pub index_mut-requires : goal.index_mut-requires
index_mut-requires c =
    let n = length c.args.places.now.items in
    let replies = c.as_slice-asked-items.result.now in
    let reply = c.asked-item.result in
    let i = c.loop-asked.asked-index in
    let all = subst (λ (list : List Reply). All (IsBelow n) (questions_in list)) (sym c.as_slice-asked-items.ensures) c.requires.within in
    let below = All-get_or (IsBelow n) (questions_in replies) i reply.question (asked_within replies i c.loop-asked-test.true) all in
    let here = subst (IsBelow n) (sym (asked_at replies i reply c.loop-asked-test.true c.asked-item.is)) below in
    subst (λ (k : ℕ). reply.question.kid < k) (sym (c.loop-asked.places.ok.0 ∙ c.loop-asked.invariant.as_many)) here

pub loop-asked-preserved : goal.loop-asked-preserved
loop-asked-preserved c =
    let q = c.asked-item.result.question in
    let places = c.loop-asked.places.items in
    record {
      as_many = length-set places q.kid _ ∙ c.loop-asked.invariant.as_many;
      last = λ earlier h. put_more earlier (questions_in c.as_slice-asked-items.result.now) c.loop-asked.asked-index q places _
          (asked_within _ _ c.loop-asked-test.true) (asked_at _ _ _ c.loop-asked-test.true c.asked-item.is) refl (c.loop-asked.invariant.last earlier h);
    }
