use Rattle.std.proofs.Common.{◌∙◌, ◌<◌, ℕ, length, sym, subst}
use Rattle.std.proofs.lemmas.List.{length-set, map-set}
use Rattle.outcomes.proofs.Kids.{now_of}
use Rattle.outcomes.proofs.Lasts.{goes_below, placed_next}
use Rattle.outcomes.proofs.answers.placed.Goals as goal

pub index_mut-requires : goal.index_mut-requires
index_mut-requires c =
    let reply = c.index-replies-place.result in
    let below = goes_below (length c.args.kids.items) c.loop-place.place c.args.replies.now reply c.loop-place-test.true c.index-replies-place.is c.requires in
    subst (λ (n : ℕ). reply.question.kid < n) (sym (c.loop-place.kids.ok.0 ∙ c.loop-place.invariant.count)) below

pub loop-place-preserved : goal.loop-place-preserved
loop-place-preserved c =
    let kids = c.loop-place.kids.items in
    let n = length c.args.kids.items in
    let i = c.loop-place.place in
    let replies = c.args.replies.now in
    let reply = c.index-replies-place.result in
    let l = c.loop-place-test.true in
    record {
      count = length-set kids _ _ ∙ c.loop-place.invariant.count;
      last = λ asked given e start.
          map-set now_of kids _ _
          ∙ placed_next n i _ replies reply asked given e l c.index-replies-place.is c.requires (c.loop-place.invariant.last asked given e start);
    }
