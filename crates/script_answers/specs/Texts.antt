-- The text of an answer, and the replies to the lines of a script as one.
use Rattle.std.specs.Prelude.{ℕ, Bool, true, false, List, []}
use Rattle.doc_io.specs.LineReader.{most_lines, lines_of}
use Rattle.input_files.specs.declared.status.Status.{Status}
use Rattle.input_files.specs.declared.status.Status.TheVariants.{Done, ScriptLimit}
use Rattle.script_answers.specs.Responders.{Responder, all_replies, each_reply}
use Rattle.script_answers.specs.Script.{within, is_within}

pub record Text : Type 0 where
  pub bytes : List ℕ
  -- the parts in which it is written, one behind the other; none, where it is written at once
  pub parts : List (List ℕ)
  -- whether it is all that was asked for: not, where a script passes a limit
  pub whole : Bool

abbrev pub whole_text : List ℕ → Text
whole_text bytes = record { bytes = bytes; parts = []; whole = true }

-- the replies to lines, or to those before the first line that passes a limit, where at most so
-- many are answered
abbrev pub replies_within : (R : Responder) → ℕ → R.Known → List (List ℕ) → Text
replies_within R most known lines = record {
  bytes = all_replies R known (within most lines);
  parts = each_reply R known (within most lines);
  whole = is_within most lines;
}

-- the replies to the lines of a script
abbrev pub answers_to : (R : Responder) → R.Known → List ℕ → Text
answers_to R known script = replies_within R most_lines known (lines_of script)

-- how the run ends, by whether it is all that was asked for
abbrev pub status_of_end : Bool → Status
status_of_end true = Done
status_of_end false = ScriptLimit
