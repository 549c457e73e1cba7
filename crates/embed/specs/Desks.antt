-- What a handle keeps: a formula with what can be undone and redone, and its last reply.
use Rattle.std.specs.Prelude.{◌≡◌, ℕ, ℤ, List, [], Option, Ok}
use Rattle.std.specs.Option.{option_map}
use Rattle.font_metrics.specs.Metrics.{MetricsValue}
use Rattle.math_tree.specs.declared.node.NodeId.{NodeId}
use Rattle.edit_ring.specs.Rings.{History, RingValue, after_redo, after_undo}
use Rattle.line_replies.specs.Sessions.{SessionValue, Undoable, page}
use Rattle.hit_test.specs.Hits.{holding, id_of_box, last_of}
use Rattle.queries.specs.Queries.{IsWritable, answer_to, bytes_of}
use Rattle.page_queries.specs.declared.query.Query.{Query}
use Rattle.line_replies.specs.Opening.{opened, opened_over}
use Rattle.line_replies.specs.History.{Remembered, after_line, remembered, session_in, told_of}
use Rattle.line_replies.specs.HistorySteps.{kept_by, ring_of}
use Rattle.line_replies.specs.Replies.{IsReplyOfFont, text_of_reply}
use Rattle.line_replies.specs.declared.reply.Reply.TheVariants.{Shown}
use Rattle.embed.specs.declared.kept_reply.KeptReply.{KeptReply}
use Rattle.embed.specs.declared.kept_reply.KeptReply.TheVariants.{Line, Page}

pub record DeskValue : Type 0 where
  -- the tree, those that stood and those that were undone, and the metrics
  pub kept : Remembered
  -- the bytes of the last reply
  pub text : List ℕ

-- so many edits can be undone
abbrev pub depth : ℕ
depth = 1000

-- a session that was asked for nothing yet
abbrev pub fresh : SessionValue → DeskValue
fresh session = record { kept = remembered depth session; text = [] }

-- the session that the bytes of a metrics file and of a tree file give, asked for nothing yet
abbrev pub IsOpened : List ℕ → List ℕ → DeskValue → Type 0
IsOpened metrics tree desk =
    (session : SessionValue) × (opened metrics tree ≡ Ok session) × (desk ≡ fresh session)

-- the session that metrics and the bytes of a tree file give, asked for nothing yet
abbrev pub IsStarted : MetricsValue → List ℕ → DeskValue → Type 0
IsStarted metrics tree desk =
    (session : SessionValue) × (opened_over metrics tree ≡ Ok session) × (desk ≡ fresh session)

-- behind a line of a script whose edits can be undone: what is kept after it, and its reply
abbrev pub after : DeskValue → List ℕ → DeskValue
after desk line = record { kept = after_line desk.kept line; text = told_of desk.kept line }

-- behind a look at the page: its boxes and marks
abbrev pub shown : DeskValue → DeskValue
shown desk =
    record desk { text = text_of_reply desk.kept.metrics (Shown (page (session_in desk.kept))) }

-- behind a question about the page: what is answered to it
abbrev pub IsAnswered : Query → DeskValue → DeskValue → Type 0
IsAnswered query desk next =
    (next.kept ≡ desk.kept) × (answer_to query (session_in desk.kept) ≡ Ok next.text)

abbrev pub with_history : DeskValue → History → DeskValue
with_history desk history = record desk { kept = record desk.kept { history = history } }

-- the last edit is undone, or made again, where there is one
abbrev pub undone : DeskValue → Option DeskValue
undone desk = option_map (with_history desk) (after_undo desk.kept.history)

abbrev pub redone : DeskValue → Option DeskValue
redone desk = option_map (with_history desk) (after_redo desk.kept.history)

-- the element whose box is the last one on the page that holds a point
abbrev pub element_at : ℤ → ℤ → SessionValue → Option NodeId
element_at x y session = id_of_box (last_of (holding x y (page session)))

-- ---- what is kept of it

-- what a ring over a session remembers
abbrev pub kept_in : RingValue Undoable → Remembered
kept_in ring = (kept_by (ring_of ring)).history

-- the bytes of what was answered
abbrev pub text_of : MetricsValue → KeptReply → List ℕ
text_of metrics (Line reply) = text_of_reply metrics reply
text_of metrics (Page answer) = bytes_of metrics answer

-- its glyphs are those of the font
abbrev pub IsOfFont : MetricsValue → KeptReply → Type 0
IsOfFont metrics (Line reply) = IsReplyOfFont metrics reply
IsOfFont metrics (Page answer) = IsWritable metrics answer
