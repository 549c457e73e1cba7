-- Lines, and what a reader gives that reads a file line by line.
use Rattle.std.specs.Prelude.{◌≡◌, ◌⊎◌, ℕ, ◌+◌, ◌<◌, ◌≤◌, nat_eq, nat_le, nat_lt, Bool, if◌then◌else◌, List, [], ◌∷◌, length, Result, Ok, Err, Option, Some, None, IfSome, IsErrOf}
use Rattle.std.specs.Io.KnownBytes.{IsAtEnd, prepend_known}
use Rattle.std.specs.List.{after_first, before_first, position_or_len, slice_split}
use Rattle.doc_io.specs.Causes.{InputsTold, Rose}
use Rattle.doc_io.specs.declared.line_reader.Line.{Line}
use Rattle.doc_io.specs.declared.line_reader.Line.TheVariants.{Whole, End}
use Rattle.doc_io.specs.declared.line_reader.LineRefusal.{LineRefusal}
use Rattle.doc_io.specs.declared.line_reader.LineRefusal.TheVariants.{ReadFault, LineLong, LinesSpent}

-- the most bytes that a line may have: 1 MiB
abbrev pub longest_line : ℕ
longest_line = 1048576

-- the most lines that are given
abbrev pub most_lines : ℕ
most_lines = 65536

-- ---- lines

abbrev pub is_feed : ℕ → Bool
is_feed b = nat_eq b 10

-- a last piece is a line where it has bytes
abbrev pub last_lines : List ℕ → List (List ℕ)
last_lines [] = []
last_lines (b ∷ bs) = (b ∷ bs) ∷ []

abbrev pub lines_of_pieces : List (List ℕ) → List (List ℕ)
lines_of_pieces [] = []
lines_of_pieces (piece ∷ []) = last_lines piece
lines_of_pieces (piece ∷ next ∷ pieces) = piece ∷ lines_of_pieces (next ∷ pieces)

-- the lines of a text: the pieces between line feeds
unfoldable pub lines_of : List ℕ → List (List ℕ)
lines_of bytes = lines_of_pieces (slice_split is_feed bytes)

-- the first line, without its line feed, and what comes behind that
abbrev pub first_line : List ℕ → List ℕ
first_line bytes = before_first is_feed bytes

abbrev pub behind_line : List ℕ → List ℕ
behind_line bytes = after_first is_feed bytes

-- a line that isn't too long
unfoldable pub is_short : List ℕ → Bool
is_short line = nat_le (length line) longest_line

-- ---- a reader

-- what is seen of a reader of lines
pub record ReaderValue : Type 0 where
  -- the bytes that it took and hasn't given
  pub held : List ℕ
  -- the line that its last call gave; none, where that call gave none
  pub line : List ℕ
  -- how many lines it gave
  pub given : ℕ

-- the next line is held to its end: its line feed is among the bytes
abbrev pub HoldsLine : List ℕ → Type 0
HoldsLine held = position_or_len is_feed held < length held

-- what is left of the file, where the inputs tell their rest
abbrev pub left_of : ReaderValue → InputsTold → Option (List ℕ)
left_of reader inputs = prepend_known reader.held inputs.rest

-- the answer to bytes that are left, after so many lines
unfoldable pub answer_of : ℕ → List ℕ → Result Line LineRefusal
answer_of given [] = Ok End
answer_of given (b ∷ bs) =
    if nat_lt given most_lines
    then (if is_short (first_line (b ∷ bs)) then Ok Whole else Err LineLong)
    else Err LinesSpent

-- only a line that is given is taken from what is left, with its line feed
abbrev pub left_after : Result Line LineRefusal → List ℕ → List ℕ
left_after (Ok Whole) bytes = behind_line bytes
left_after other bytes = bytes

abbrev pub given_after : Result Line LineRefusal → ℕ → ℕ
given_after (Ok Whole) given = given + 1
given_after other given = given

-- the next line, or why there is none
pub record GivesLine (before after : ReaderValue) (old new : InputsTold)
    (result : Result Line LineRefusal) : Type 0 where
  pub files : new.files ≡ old.files
  pub faults : old.faults ≤ new.faults
  pub missing : new.missing ≡ old.missing
  -- what is left decides, unless a read failed
  pub answer : IfSome (left_of before old) (λ bytes.
      IsErrOf result ReadFault ⊎ (result ≡ answer_of before.given bytes))
  pub fault : IsErrOf result ReadFault → Rose old.faults new.faults
  pub end : result ≡ Ok End → IsAtEnd new.rest
  -- a line that is given is the first one
  pub line : result ≡ Ok Whole → IfSome (left_of before old) (λ bytes.
      after.line ≡ first_line bytes)
  -- where none is given, none is lent
  pub none : ¬ (result ≡ Ok Whole) → after.line ≡ []
  -- a line that is held to its end is given, or refused, without a read
  pub unread : HoldsLine before.held → new ≡ old
  -- a line that is given is within its limits, also where the inputs tell nothing
  pub short : result ≡ Ok Whole → length after.line ≤ longest_line
  pub few : result ≡ Ok Whole → before.given < most_lines
  pub left : IfSome (left_of before old) (λ bytes.
      left_of after new ≡ Some (left_after result bytes))
  pub given : after.given ≡ given_after result before.given
