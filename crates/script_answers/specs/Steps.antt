-- How many steps the lines of a script take, whatever answers them.
use Rattle.std.specs.Prelude.{◌≡◌, ◌⊎◌, ℕ, ◌-◌, Bool, true, false, List, take, Option, IfSome, Result, Ok, IfErr}
use Rattle.std.specs.Option.{option_map}
use Rattle.doc_io.specs.Causes.{InputsTold}
use Rattle.doc_io.specs.LineReader.{GivesLine, ReaderValue, left_of, lines_of, most_lines}
use Rattle.doc_io.specs.declared.line_reader.Line.TheVariants.{Whole}
use Rattle.script_answers.specs.Responders.{LineSteps, Responder, TakesForLines}
use Rattle.script_answers.specs.Script.{within}
use Rattle.script_answers.specs.declared.stop.Stop.{Stop}

-- the steps of the next line that a reader gives, if it gives one
pub record TakesForNext (R : Responder) (Takes : LineSteps R) (known : R.Known)
    (reader reader' : ReaderValue) (before after : InputsTold) (from to : ℕ)
    (result : Result Bool Stop) : Type 0 where
  pub line : result ≡ Ok true → Takes known reader'.line from to
  pub end : result ≡ Ok false → to ≡ from
  pub stop : IfErr result (λ why.
      (to ≡ from)
      ⊎ (GivesLine reader reader' before after (Ok Whole) × Takes known reader'.line from to))

-- the steps of some lines: where the script is told, of a front of its lines
pub record TakesForScript (R : Responder) (Takes : LineSteps R) (known : R.Known)
    (script : Option (List (List ℕ))) (from to : ℕ) : Type 0 where
  pub lines : List (List ℕ)
  pub front : IfSome script (λ all. (n : ℕ) × (lines ≡ take n all))
  pub steps : TakesForLines R Takes known lines from to

-- the lines within their limits that are left to a reader, where they are told
abbrev pub lines_left : ReaderValue → InputsTold → Option (List (List ℕ))
lines_left reader inputs =
    option_map (λ bytes. within (most_lines - reader.given) (lines_of bytes))
    (left_of reader inputs)
