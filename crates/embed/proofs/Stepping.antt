-- What a call of a ring makes of what its desk keeps.
use Rattle.std.proofs.Common.{◌≡◌, ◌≢◌, ◌∙◌, sym, ap, refl, subst, ℕ, List, Option, Some, None}
use Rattle.std.specs.Prelude.{Result, Ok, Err, OnOk, OnErr, IfSome}
use Rattle.std.specs.Option.{option_map}
use Rattle.std.proofs.lemmas.Option.{none-some}
use Rattle.font_metrics.specs.Metrics.{MetricsValue}
use Rattle.tree_edits.specs.declared.command.Command.TheVariants.{Show}
use Rattle.tree_edits.specs.declared.edit.Edit.{Edit}
use Rattle.line_replies.specs.Sessions.{SessionValue, TakesNeeded, page, told}
use Rattle.box_writer.specs.declared.placed.PlacedItem.{PlacedItem}
use Rattle.edit_ring.specs.Grounds.{GroundTold}
use Rattle.edit_ring.specs.Rings.{History, RingMoves, RingState, after_redo, after_undo, history_of, redone as ring_redone, undone as ring_undone}
use Rattle.edit_ring.specs.declared.ring.RingRefusal.{RingRefusal}
use Rattle.edit_ring.specs.declared.ring.RingRefusal.TheVariants.{Nothing as HoldsNone, Memory as LacksMemory}
use Rattle.queries.specs.Queries.{IsCause, answer_to, bytes_of}
use Rattle.queries.specs.declared.answers.Answer.{Answer}
use Rattle.page_queries.specs.declared.query.Query.{Query}
use Rattle.page_queries.specs.declared.query.QueryRefusal.{QueryRefusal}
use Rattle.command_reader.specs.declared.moves.Move.TheVariants.{Other}
use Rattle.line_replies.specs.History.{reply_by_move, reply_to, session_in}
use Rattle.line_replies.specs.HistoryParts.{Makes, kept_after_move}
use Rattle.line_replies.specs.HistorySteps.{kept_after, kept_by}
use Rattle.line_replies.specs.Replies.{IsReplyOfFont, text_of_reply}
use Rattle.line_replies.specs.declared.reply.Reply.{Reply}
use Rattle.line_replies.proofs.Histories.{Keeps, back_keeps, forth_keeps, history_keeps}
use Rattle.embed.specs.Desks.{DeskValue, IsAnswered, IsOfFont, after, redone, shown, text_of, undone, with_history}
use Rattle.embed.specs.declared.kept_reply.KeptReply.{KeptReply}
use Rattle.embed.specs.declared.kept_reply.KeptReply.TheVariants.{Line, Page}

-- what a desk is to callers whose ring tells this
abbrev pub desk_in : KeptReply → RingState → DeskValue
desk_in reply ring = record { kept = (kept_by ring).history; text = text_of ring.told.metrics reply }

-- ---- steps through the history

module _ (way : RingState → Option RingState) (next : History → Option History) (before after : RingState) (kept : List Edit) (s t : ℕ)
    (keeps : way before ≡ Some after → Keeps before after) (reply : KeptReply) where
  abbrev Then : Option DeskValue
  Then = option_map (with_history (desk_in reply before)) (next (history_of before))

  stepped : (result : Result (Unit {0}) RingRefusal) → RingMoves TakesNeeded way next before after kept s t result → OnOk result (Then ≡ Some (desk_in reply after))
  stepped (Ok done) m =
      let k = keeps m.state in
      ap (option_map (with_history (desk_in reply before))) m.history ∙ (λ i. Some (record {
        kept = record { history = history_of after; next_id = sym m.next_id i; metrics = sym k.metrics i; depth = sym k.depth i };
        text = text_of (sym k.metrics i) reply;
      }))
  stepped (Err e) m = tt

  no_step : (result : Result (Unit {0}) RingRefusal) → RingMoves TakesNeeded way next before after kept s t result → result ≡ Err HoldsNone → Then ≡ None
  no_step result m is = ap (option_map (with_history (desk_in reply before))) (m.nothing.0 is)

  none_there : (found : Option History) → option_map (with_history (desk_in reply before)) found ≡ None → found ≡ None
  none_there None none = refl
  none_there (Some history) none = absurd (none-some _ (sym none))

  some_step : (result : Result (Unit {0}) RingRefusal) → RingMoves TakesNeeded way next before after kept s t result → result ≡ Err LacksMemory → Then ≢ None
  some_step result m is none = absurd (let e = sym is ∙ m.nothing.1 (none_there (next (history_of before)) none) in cc)

  unmoved : (result : Result (Unit {0}) RingRefusal) → RingMoves TakesNeeded way next before after kept s t result
      → OnErr result (desk_in reply after ≡ desk_in reply before)
  unmoved (Ok done) m = tt
  unmoved (Err e) m = ap (desk_in reply) m.unchanged

  metrics_stay : (result : Result (Unit {0}) RingRefusal) → RingMoves TakesNeeded way next before after kept s t result
      → after.told.metrics ≡ before.told.metrics
  metrics_stay (Ok done) m = (keeps m.state).metrics
  metrics_stay (Err e) m = ap (λ (r : RingState). r.told.metrics) m.unchanged

-- the reply that a desk keeps is one of its font, and the bytes that it has of it are the reply's
abbrev pub IsKept : MetricsValue → KeptReply → Option (List ℕ) → Type 0
IsKept metrics reply text = IsOfFont metrics reply × IfSome text (λ t. t ≡ text_of metrics reply)

pub still_kept : (before after : RingState) (reply : KeptReply) (text : Option (List ℕ)) → after.told.metrics ≡ before.told.metrics
    → IsKept before.told.metrics reply text → IsKept after.told.metrics reply text
still_kept before after reply text same kept = subst (λ (m : MetricsValue). IsKept m reply text) (sym same) kept

module _ (before after : RingState) (s t : ℕ) (reply : KeptReply) (result : Result (Unit {0}) RingRefusal) where
  module _ (m : RingMoves TakesNeeded ring_undone after_undo before after before.past s t result) where
    keeps_back : ring_undone before ≡ Some after → Keeps before after
    keeps_back = back_keeps before after before.past

    pub undo_done : OnOk result (undone (desk_in reply before) ≡ Some (desk_in reply after))
    undo_done = stepped ring_undone after_undo before after before.past s t keeps_back reply result m

    pub undo_none : result ≡ Err HoldsNone → undone (desk_in reply before) ≡ None
    undo_none = no_step ring_undone after_undo before after before.past s t keeps_back reply result m

    pub undo_some : result ≡ Err LacksMemory → undone (desk_in reply before) ≢ None
    undo_some = some_step ring_undone after_undo before after before.past s t keeps_back reply result m

    pub undo_kept : OnErr result (desk_in reply after ≡ desk_in reply before)
    undo_kept = unmoved ring_undone after_undo before after before.past s t keeps_back reply result m

    pub undo_metrics : after.told.metrics ≡ before.told.metrics
    undo_metrics = metrics_stay ring_undone after_undo before after before.past s t keeps_back reply result m

  module _ (m : RingMoves TakesNeeded ring_redone after_redo before after before.future s t result) where
    keeps_forth : ring_redone before ≡ Some after → Keeps before after
    keeps_forth = forth_keeps before after before.future

    pub redo_done : OnOk result (redone (desk_in reply before) ≡ Some (desk_in reply after))
    redo_done = stepped ring_redone after_redo before after before.future s t keeps_forth reply result m

    pub redo_none : result ≡ Err HoldsNone → redone (desk_in reply before) ≡ None
    redo_none = no_step ring_redone after_redo before after before.future s t keeps_forth reply result m

    pub redo_some : result ≡ Err LacksMemory → redone (desk_in reply before) ≢ None
    redo_some = some_step ring_redone after_redo before after before.future s t keeps_forth reply result m

    pub redo_kept : OnErr result (desk_in reply after ≡ desk_in reply before)
    redo_kept = unmoved ring_redone after_redo before after before.future s t keeps_forth reply result m

    pub redo_metrics : after.told.metrics ≡ before.told.metrics
    redo_metrics = metrics_stay ring_redone after_redo before after before.future s t keeps_forth reply result m

-- ---- a line

module _ {E : Type 0} (before next : RingState) (line : List ℕ) (reply : Reply) (told : KeptReply)
    (m : Makes {E = E} (reply_to (kept_by before).history line) (kept_after (kept_by before) line) before next (Ok reply)) where
  line_metrics : next.told.metrics ≡ before.told.metrics
  line_metrics = ap (λ k. k.history.metrics) m.after ∙ history_keeps (kept_by before).history line

  pub line_done : desk_in (Line reply) next ≡ after (desk_in told before) line
  line_done = λ i. record { kept = (m.after i).history; text = text_of_reply (line_metrics i) (m.reply i) }

  pub line_fits : IsReplyOfFont next.told.metrics reply
  line_fits = subst (λ (metrics : MetricsValue). IsReplyOfFont metrics reply) (sym line_metrics) m.glyphs

-- ---- a look at the page

module _ {E : Type 0} (before next : RingState) (reply : Reply) (told : KeptReply)
    (m : Makes {E = E} (reply_by_move Other (kept_by before).history (Some Show)) (kept_after_move Other (kept_by before) (Some Show)) before next (Ok reply)) where
  show_metrics : next.told.metrics ≡ before.told.metrics
  show_metrics = ap (λ k. k.history.metrics) m.after

  pub show_done : desk_in (Line reply) next ≡ shown (desk_in told before)
  show_done = λ i. record { kept = (m.after i).history; text = text_of_reply (show_metrics i) (m.reply i) }

  pub show_fits : IsReplyOfFont next.told.metrics reply
  show_fits = subst (λ (metrics : MetricsValue). IsReplyOfFont metrics reply) (sym show_metrics) m.glyphs

-- ---- a question about the page

-- a page is that of the session as it stands behind the look at it
pub page_behind : (old new : SessionValue) (items : List PlacedItem) → told new ≡ told old → items ≡ (told old).boxes (told old).tree.root → items ≡ page new
page_behind old new items same is = is ∙ ap (λ (t : GroundTold). t.boxes t.tree.root) (sym same)

module _ (before next : RingState) (same : next ≡ before) (query : Query) where
  pub asked : (answer : Answer) (reply : KeptReply) → answer_to query (session_in (kept_by next).history) ≡ Ok (bytes_of next.told.metrics answer)
      → IsAnswered query (desk_in reply before) (desk_in (Page answer) next)
  asked answer reply is =
      (ap (λ (r : RingState). (kept_by r).history) same, ap (λ (r : RingState). answer_to query (session_in (kept_by r).history)) (sym same) ∙ is)

  pub not_asked : (refusal : QueryRefusal) → IsCause (answer_to query (session_in (kept_by next).history)) refusal
      → IsCause (answer_to query (session_in (kept_by before).history)) refusal
  not_asked refusal is = subst (λ (r : RingState). IsCause (answer_to query (session_in (kept_by r).history)) refusal) same is
