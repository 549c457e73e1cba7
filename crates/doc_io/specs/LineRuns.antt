-- What a run of a reader of lines gives.
use Rattle.std.specs.Prelude.{◌≡◌, ℕ, List, [], ◌∷◌, length, take, Ok, Some, map}
use Rattle.doc_io.specs.Causes.{InputsTold}
use Rattle.doc_io.specs.LineReader.{GivesLine, ReaderValue, left_of, lines_of}
use Rattle.doc_io.specs.declared.line_reader.Line.TheVariants.{Whole, End}

-- a reader, and what its inputs tell
pub record Moment : Type 0 where
  pub reader : ReaderValue
  pub inputs : InputsTold

-- one call gives a line, then the next one, until there is none
abbrev pub GivesLines : Moment → List Moment → Type 0
GivesLines now [] =
    (after : Moment) × GivesLine now.reader after.reader now.inputs after.inputs (Ok End)
GivesLines now (next ∷ later) =
    GivesLine now.reader next.reader now.inputs next.inputs (Ok Whole) × GivesLines next later

-- a run to the end gives the lines of what was left, however the reads cut it
abbrev pub RunLaw : Type 0
RunLaw = (start : Moment) (bytes : List ℕ) (later : List Moment)
    → left_of start.reader start.inputs ≡ Some bytes → GivesLines start later
    → map (λ moment. moment.reader.line) later ≡ lines_of bytes

-- one call gives a line, then the next one, as far as the list goes
abbrev pub GivesFirst : Moment → List Moment → Type 0
GivesFirst now [] = Unit {0}
GivesFirst now (next ∷ later) =
    GivesLine now.reader next.reader now.inputs next.inputs (Ok Whole) × GivesFirst next later

-- lines that were given so far are the first ones of what was left, whatever comes behind them
abbrev pub FrontLaw : Type 0
FrontLaw = (start : Moment) (bytes : List ℕ) (later : List Moment)
    → left_of start.reader start.inputs ≡ Some bytes → GivesFirst start later
    → map (λ moment. moment.reader.line) later ≡ take (length later) (lines_of bytes)
