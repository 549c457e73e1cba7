use Rattle.std.proofs.Common.{◌≡◌, ◌∙◌, refl, sym, ap, subst, ℕ, Bool, List, length, Some, slice_get, true}
use Rattle.std.proofs.lemmas.Option.{slice_get_read}
use Rattle.kept_results.specs.Kept.{HasEntry, is_live, is_marked}
use Rattle.kept_results.specs.declared.memo.Entry.{Entry}
use Rattle.kept_results.specs.declared.memo.Memo.{Memo}
use Rattle.kept_results.specs.declared.memo.Memo.TheViews.{out-Memo}
use Rattle.kept_results.proofs.Lists.{all_more}
use Rattle.kept_results.proofs.entries.kept_answer.Goals as goal

pub loop-entry-preserved : goal.loop-entry-preserved
loop-entry-preserved c =
    let entry = c.entry-item.result in
    all_more (λ (e : Entry). is_live (is_marked (out-Memo c.args.memo.now)) e ≡ true → e.context ≡ c.args.context.now → ⊥)
    c.as_slice-entry-items.result.now c.loop-entry.entry-index entry c.loop-entry-test.true c.entry-item.is c.loop-entry.invariant
    (λ live. c.serves.ensures.no c.if-serves.false (ap (λ b. is_live b entry) c.is_marked-marked.ensures ∙ live))

-- an entry that is read and serves is there, and no older one
served : (memo : Memo) (items : List Entry) (place : ℕ) (entry : Entry) (marked : Bool) → items ≡ (out-Memo memo).entries → slice_get items place ≡ Some entry
    → marked ≡ is_marked (out-Memo memo) → is_live marked entry ≡ true → HasEntry (out-Memo memo) entry
served memo items place entry marked same at is live = record {
  place = place;
  at = subst (λ (xs : List Entry). slice_get xs place ≡ Some entry) same at;
  live = ap (λ b. is_live b entry) (sym is) ∙ live;
}

pub answer-requires : goal.answer-requires
answer-requires c =
    let entry = c.entry-item.result in
    let items = c.as_slice-entry-items.result.now in
    let i = c.loop-entry.entry-index in
    c.requires.backed entry
    (served c.args.memo.now items i entry _ c.as_slice-entry-items.ensures (slice_get_read items (length items) i entry refl c.loop-entry-test.true c.entry-item.is)
    c.is_marked-marked.ensures (c.serves.ensures.yes c.if-serves.true).0)

pub returns-then-serves-clause-some : goal.returns-then-serves-clause-some
returns-then-serves-clause-some c =
    let entry = c.entry-item.result in
    let items = c.as_slice-entry-items.result.now in
    let i = c.loop-entry.entry-index in
    let yes = c.serves.ensures.yes c.if-serves.true in
    record {
      entry = entry;
      has = served c.args.memo.now items i entry _ c.as_slice-entry-items.ensures (slice_get_read items (length items) i entry refl c.loop-entry-test.true c.entry-item.is)
          c.is_marked-marked.ensures yes.0;
      in_context = yes.1;
      answers = c.in_ok-answer.ensures {u = tt};
    }
