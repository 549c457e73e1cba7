-- How each call ends: what the answer says, and what is changed with it.
use Rattle.std.specs.Prelude.{◌≡◌, ◌≢◌, ◌<◌, ◌≤◌, ℕ, ℤ, List, length, take, drop, Option, Some, None, Result, Ok, Err}
use Rattle.doc_io.specs.LineReader.{longest_line}
use Rattle.font_metrics.specs.Metrics.{MetricsValue}
use Rattle.edit_ring.specs.declared.ring.RingRefusal.{RingRefusal}
use Rattle.edit_ring.specs.declared.ring.RingRefusal.TheVariants.{Nothing as HoldsNone, Memory as LacksMemory}
use Rattle.line_replies.specs.Sessions.{root_box}
use Rattle.queries.specs.Queries.{IsCause, answer_to}
use Rattle.page_queries.specs.declared.query.Query.{Query}
use Rattle.page_queries.specs.declared.query.QueryRefusal.{QueryRefusal}
use Rattle.input_files.specs.Files.{metrics_in}
use Rattle.line_replies.specs.Opening.{opened, opened_over}
use Rattle.line_replies.specs.History.{session_in}
use Rattle.input_files.specs.Refusals.{line_of, of_query}
use Rattle.input_files.specs.declared.refusal.Refusal.TheVariants.{NoNode, Memory as NoMemory}
use Rattle.embed.specs.Desks.{DeskValue, IsAnswered, IsOpened, IsStarted, after, element_at, shown}
use Rattle.embed.specs.Frames.{frame_of}
use Rattle.embed.specs.Kept.{Becomes, Keeps}
use Rattle.embed.specs.Status.{number_of}
use Rattle.embed.specs.declared.answer.Answer.{Answer}
use Rattle.embed.specs.declared.frame.Frame.{Frame}
use Rattle.embed.specs.declared.answer.Answer.TheVariants.{Done, Refused, LineLong, Memory, Open, Closed, Short, Nothing}

-- the number is that of an answer that the call may give, with what comes with it
abbrev pub Answers : (Answer → Type 0) → ℕ → Type 0
Answers Ends number = (answer : Answer) × (number ≡ number_of answer) × Ends answer

-- what a handle keeps, the caller's buffer, and the length that the caller is told
pub record Seen (Kept : Type 0) : Type 0 where
  pub kept : Option Kept
  pub bytes : List ℕ
  pub told : ℕ

abbrev pub seen : {Kept : Type 0} → Option Kept → List ℕ → ℕ → Seen Kept
seen kept bytes told = record { kept = kept; bytes = bytes; told = told }

-- the text stands at the front of the buffer, the rest of it is as it was, and its length is told
pub record Copies (text old new : List ℕ) (told : ℕ) : Type 0 where
  pub front : take (length text) new ≡ text
  pub rest : drop (length text) new ≡ drop (length text) old
  pub length : told ≡ length text

-- the text is copied where there is room for it, and else its length alone is told
abbrev pub Puts : List ℕ → List ℕ → List ℕ → ℕ → Answer → Type 0
Puts text old new told Done = Copies text old new told
Puts text old new told Short = (length old < length text) × (new ≡ old) × (told ≡ length text)
Puts text old new told answer = ⊥

-- the room that a caller has for the line of a refusal
abbrev pub refusal_room : ℕ
refusal_room = 160

-- the buffer of a refusal holds the line of each
abbrev pub HasRoom : {Kept : Type 0} → Seen Kept → Type 0
HasRoom old = refusal_room ≤ length old.bytes

-- a session over these bytes is opened in a closed handle, or why not; a refusal is told in a line
abbrev pub Opens : List ℕ → List ℕ → Seen DeskValue → Seen DeskValue → Answer → Type 0
Opens metrics tree old new Done =
    HasRoom old × (old.kept ≡ None) × (desk : DeskValue) × IsOpened metrics tree desk
    × (new ≡ record old { kept = Some desk })
Opens metrics tree old new (Refused refusal) =
    HasRoom old × (old.kept ≡ None) × (refusal ≢ NoMemory → opened metrics tree ≡ Err refusal)
    × (new.kept ≡ old.kept) × Copies (line_of refusal) old.bytes new.bytes new.told
Opens metrics tree old new Memory = ⊥
Opens metrics tree old new Open = HasRoom old × (old.kept ≢ None) × (new ≡ old)
Opens metrics tree old new Short = (length old.bytes < refusal_room) × (new ≡ old)
Opens metrics tree old new LineLong = ⊥
Opens metrics tree old new Closed = ⊥
Opens metrics tree old new Nothing = ⊥

-- the metrics of these bytes are kept in a closed handle, or why not; a refusal is told in a line
abbrev pub Reads : List ℕ → Seen MetricsValue → Seen MetricsValue → Answer → Type 0
Reads bytes old new Done =
    HasRoom old × (old.kept ≡ None) × (metrics : MetricsValue) × (metrics_in bytes ≡ Ok metrics)
    × (new ≡ record old { kept = Some metrics })
Reads bytes old new (Refused refusal) =
    HasRoom old × (old.kept ≡ None) × (refusal ≢ NoMemory → metrics_in bytes ≡ Err refusal)
    × (new.kept ≡ old.kept) × Copies (line_of refusal) old.bytes new.bytes new.told
Reads bytes old new Open = HasRoom old × (old.kept ≢ None) × (new ≡ old)
Reads bytes old new Short = (length old.bytes < refusal_room) × (new ≡ old)
Reads bytes old new answer = ⊥

-- a session over the bytes of a tree and the metrics of another handle is opened in a closed
-- handle, or why not; a refusal is told in a line
abbrev pub Starts : Option MetricsValue → List ℕ → Seen DeskValue → Seen DeskValue → Answer
    → Type 0
Starts font tree old new Done =
    HasRoom old × (old.kept ≡ None) × (desk : DeskValue)
    × Keeps font (λ metrics. IsStarted metrics tree desk)
    × (new ≡ record old { kept = Some desk })
Starts font tree old new (Refused refusal) =
    HasRoom old × (old.kept ≡ None)
    × Keeps font (λ metrics. refusal ≢ NoMemory → opened_over metrics tree ≡ Err refusal)
    × (new.kept ≡ old.kept) × Copies (line_of refusal) old.bytes new.bytes new.told
Starts font tree old new Open =
    (font ≢ None) × HasRoom old × (old.kept ≢ None) × (new ≡ old)
Starts font tree old new Closed = (font ≡ None) × (new ≡ old)
Starts font tree old new Short =
    (font ≢ None) × (length old.bytes < refusal_room) × (new ≡ old)
Starts font tree old new answer = ⊥

-- a line is answered, or why not; its reply is kept
abbrev pub Lines : List ℕ → Option DeskValue → Option DeskValue → Answer → Type 0
Lines line old new Done =
    (length line ≤ longest_line) × Becomes old new (λ desk next. next ≡ after desk line)
Lines line old new LineLong = (old ≢ None) × (longest_line < length line) × (new ≡ old)
Lines line old new Memory = (old ≢ None) × (length line ≤ longest_line) × (new ≡ old)
Lines line old new Closed = (old ≡ None) × (new ≡ old)
Lines line old new answer = ⊥

-- the page is kept as the reply, or why not
abbrev pub Shows : Option DeskValue → Option DeskValue → Answer → Type 0
Shows old new Done = Becomes old new (λ desk next. next ≡ shown desk)
Shows old new Memory = (old ≢ None) × (new ≡ old)
Shows old new Closed = (old ≡ None) × (new ≡ old)
Shows old new answer = ⊥

-- what is answered to a step through the history
abbrev pub answer_of_step : Result (Unit {0}) RingRefusal → Answer
answer_of_step (Ok done) = Done
answer_of_step (Err HoldsNone) = Nothing
answer_of_step (Err LacksMemory) = Memory

-- an edit is undone, or made again: `way` says what is kept then; or there is none; or there is
-- one, and why it isn't
abbrev pub Goes : (DeskValue → Option DeskValue) → Option DeskValue → Option DeskValue → Answer
    → Type 0
Goes way old new Done = Becomes old new (λ desk next. way desk ≡ Some next)
Goes way old new Nothing = Keeps old (λ desk. way desk ≡ None) × (new ≡ old)
Goes way old new Memory = Keeps old (λ desk. way desk ≢ None) × (new ≡ old)
Goes way old new Closed = (old ≡ None) × (new ≡ old)
Goes way old new answer = ⊥

-- what is answered to a question about the page
abbrev pub answer_of_query : Result (Unit {0}) QueryRefusal → Answer
answer_of_query (Ok done) = Done
answer_of_query (Err refusal) = Refused (of_query refusal)

-- what is asked for on the page is kept as the reply, or why it isn't there
abbrev pub Asks : Query → Option DeskValue → Option DeskValue → Answer → Type 0
Asks query old new Done = Becomes old new (IsAnswered query)
Asks query old new (Refused refusal) = Keeps old (λ desk.
    (cause : QueryRefusal) × (refusal ≡ of_query cause)
    × IsCause (answer_to query (session_in desk.kept)) cause) × (new ≡ old)
Asks query old new Closed = (old ≡ None) × (new ≡ old)
Asks query old new answer = ⊥

-- the number of an element that isn't there is told
abbrev pub Misses : ℕ → ℕ → Answer → Type 0
Misses old new (Refused (NoNode id)) = new ≡ id.0
Misses old new answer = new ≡ old

-- the last reply is copied, or why not; of a reply that is too long for the buffer the length is
-- told
abbrev pub Tells : Seen DeskValue → Seen DeskValue → Answer → Type 0
Tells old new Done = Keeps old.kept (λ desk. Copies desk.text old.bytes new.bytes new.told)
    × (new.kept ≡ old.kept)
Tells old new Short =
    Keeps old.kept (λ desk. (length old.bytes < length desk.text)
    × (new ≡ record old { told = length desk.text }))
Tells old new Memory = (old.kept ≢ None) × (new ≡ old)
Tells old new Closed = (old.kept ≡ None) × (new ≡ old)
Tells old new answer = ⊥

-- the box of the root is told, or there is none
abbrev pub Measures : Option DeskValue → Frame → Frame → Answer → Type 0
Measures kept old new Done = Keeps kept (λ desk. new ≡ frame_of (root_box (session_in desk.kept)))
Measures kept old new Closed = (kept ≡ None) × (new ≡ old)
Measures kept old new answer = ⊥

-- the element at a point of the page is told, or there is none
abbrev pub Hits : ℤ → ℤ → Option DeskValue → ℕ → ℕ → Answer → Type 0
Hits x y kept old new Done =
    Keeps kept (λ desk. element_at x y (session_in desk.kept) ≡ Some (record { 0 = new }))
Hits x y kept old new Nothing =
    Keeps kept (λ desk. element_at x y (session_in desk.kept) ≡ None) × (new ≡ old)
Hits x y kept old new Memory = (kept ≢ None) × (new ≡ old)
Hits x y kept old new Closed = (kept ≡ None) × (new ≡ old)
Hits x y kept old new answer = ⊥
