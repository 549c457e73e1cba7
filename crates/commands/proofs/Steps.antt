-- Which statuses come before there is a tree, or before it is laid out.
use Rattle.std.proofs.Common.{◌≡◌, ◌⊎◌, inl, inr, subst, ℕ, List, Bool, true, false}
use Rattle.std.specs.Prelude.{Err}
use Rattle.doc_io.specs.Causes.{InputsTold, SinkTold}
use Rattle.doc_io.specs.LineReader.{ReaderValue}
use Rattle.fixed_units.specs.declared.refusal.LayRefusal.{LayRefusal}
use Rattle.fixed_units.specs.declared.refusal.LayRefusal.TheVariants as layout
use Rattle.script_answers.specs.Texts.{Text, status_of_end}
use Rattle.script_answers.specs.Delivering.{Breaks, Delivers}
use Rattle.commands.specs.Ends.{IsCut}
use Rattle.input_files.specs.Status.{EndsBeforeTree, EndsUnlaid}
use Rattle.page_queries.specs.declared.query.QueryRefusal.{QueryRefusal}
use Rattle.page_queries.specs.declared.query.QueryRefusal.TheVariants as query
use Rattle.input_files.specs.Refusals.{of_layout, of_query, status_of}
use Rattle.input_files.specs.declared.refusal.Refusal.{Refusal}
use Rattle.input_files.specs.declared.refusal.Refusal.TheVariants as refusal
use Rattle.input_files.specs.declared.status.Status.{Status}
use Rattle.input_files.specs.declared.status.Status.TheVariants.{Done, Usage, Metrics, Tree, ReadFault, WriteFault, Memory, Range, ScriptLimit, Node, Paint}

-- what was delivered with a status of a tree that was laid out, or failed to be written
pub late : (text : List ℕ) (wanted s : Status) (old new : SinkTold) → ¬ EndsUnlaid wanted → Delivers text wanted old new s → ¬ EndsUnlaid s
late text wanted s old new not d unlaid = elim d.whole [
  | inl w ↦ subst EndsUnlaid w unlaid
  | inr e ↦ not (subst EndsUnlaid e.0 unlaid)
]

-- the same, with a status of a tree that there is
pub later : (text : List ℕ) (wanted s : Status) (old new : SinkTold) → ¬ EndsBeforeTree wanted → Delivers text wanted old new s → ¬ EndsBeforeTree s
later text wanted s old new not d unread = elim d.whole [
  | inl w ↦ subst EndsBeforeTree w unread
  | inr e ↦ not (subst EndsBeforeTree e.0 unread)
]

not_before : (whole : Bool) → ¬ EndsBeforeTree (status_of_end whole)
not_before true e = e
not_before false e = e

-- replies to a script
pub replied_later : (text : Text) (before after : InputsTold) (old new : SinkTold) (s : Status)
    → Delivers text.bytes (status_of_end text.whole) old new s ⊎ Breaks text.bytes text.parts before after old new s → ¬ EndsBeforeTree s
replied_later text before after old new s (inl d) = later text.bytes (status_of_end text.whole) s old new (not_before text.whole) d
replied_later text before after old new s (inr out) = λ unread. elim out.cause [
  | inl memory ↦ subst EndsBeforeTree memory unread
  | inr read ↦ subst EndsBeforeTree read.0 unread
]

-- a script that wasn't opened
pub script_late : (r : Refusal) → IsCut {V = ReaderValue} (Err r) → ¬ EndsBeforeTree (status_of r)
script_late r (inl fault) unread = let e : r ≡ refusal.ReadFault = (let f = fault in cc) in subst (λ r. EndsBeforeTree (status_of r)) e unread
script_late r (inr memory) unread = let e : r ≡ refusal.Memory = (let f = memory in cc) in subst (λ r. EndsBeforeTree (status_of r)) e unread

-- what comes before there is a tree comes before it is laid out
pub before_unlaid : (s : Status) → EndsBeforeTree s → EndsUnlaid s
before_unlaid Done e = e
before_unlaid Usage e = e
before_unlaid Metrics e = e
before_unlaid Tree e = e
before_unlaid ReadFault e = absurd e
before_unlaid WriteFault e = e
before_unlaid Memory e = e
before_unlaid Range e = e
before_unlaid ScriptLimit e = e
before_unlaid Node e = e
before_unlaid Paint e = e

pub layout_late : (refused : LayRefusal) → ¬ EndsUnlaid (status_of (of_layout refused))
layout_late layout.Range e = e
layout_late layout.Memory e = e

pub query_late : (refused : QueryRefusal) → ¬ EndsUnlaid (status_of (of_query refused))
query_late (query.NoNode id) e = e
query_late query.TooMany e = e
query_late query.Memory e = e
