-- Worked cases: the definitions compute them, and a wrong one is refused at its line.
use Rattle.std.proofs.Common.{◌≡◌, ◌-◌, ◌^◌, [], ◌∷◌, true, false, Some, Ok, Err, codes, refl, lit≤, arith}
use Rattle.std.specs.FinMap.{empty, get}
use Rattle.doc_io.specs.Causes.{Rose, raised}
use Rattle.doc_io.specs.FailingCalls.{fails_next}
use Rattle.doc_io.specs.MemoryInputs.{IsUncut, put_in}
use Rattle.doc_io.specs.LineReader.{answer_of, behind_line, first_line, is_short, lines_of}
use Rattle.doc_io.specs.declared.line_reader.Line.TheVariants.{Whole, End}
use Rattle.doc_io.specs.declared.line_reader.LineRefusal.TheVariants.{LinesSpent}
use Rattle.doc_io.specs.MemorySink.{fitting, write_fails}
use Rattle.doc_io.specs.declared.memory_inputs.Named.{Named}
use Rattle.doc_io.proofs.MemoryFiles.{get-put_in-push}

-- a count rises by one, and stops at its last value
pub raised-first : raised 0 ≡ 1
raised-first = refl

pub raised-last : raised (2 ^ 64 - 1) ≡ 2 ^ 64 - 1
raised-last = refl

-- a count that stands still has risen at its last value alone
pub Rose-last : Rose (2 ^ 64 - 1) (2 ^ 64 - 1)
Rose-last = lit≤ tt

pub Rose-still : Rose 7 7 → ⊥
Rose-still rose = omega arith

-- calls are counted from 1
pub fails_next-first : fails_next (1 ∷ []) 0 ≡ true
fails_next-first = refl

pub fails_next-second : fails_next (1 ∷ []) 1 ≡ false
fails_next-second = refl

-- a cut at 4 lets 4 bytes through from the front, and no fifth
pub IsUncut-up_to : IsUncut (4 ∷ []) 0 4
IsUncut-up_to = (λ ahead. lit≤ tt, tt)

pub IsUncut-across : IsUncut (4 ∷ []) 0 5 → ⊥
IsUncut-across uncut = omega (arith, uncut.0 (lit≤ tt))

-- and it doesn't stop a read that begins there
pub IsUncut-from : IsUncut (4 ∷ []) 4 100
IsUncut-from = (λ ahead. omega arith, tt)

-- of two files of one name the later one is found
abbrev old_file : Named
old_file = record { name = codes "a"; bytes = codes "old" }

abbrev new_file : Named
new_file = record { name = codes "a"; bytes = codes "new" }

pub get-replaced : get (put_in empty (old_file ∷ new_file ∷ [])) (codes "a") ≡ Some (codes "new")
get-replaced = get-put_in-push empty (old_file ∷ []) new_file (codes "a")

-- a sink with room for three bytes takes three of five, and then fails
pub fitting-three : fitting (record { bytes = []; room = 3; failing = []; calls = 0; faults = 0 }) (codes "hello") ≡ 3
fitting-three = refl

pub write_fails-full : write_fails (record { bytes = codes "hel"; room = 3; failing = []; calls = 1; faults = 0 }) ≡ true
write_fails-full = refl

-- ---- lines

three_lines : lines_of (codes "a\n\nb") ≡ codes "a" ∷ [] ∷ codes "b" ∷ []
unfolding lines_of
three_lines = refl

-- behind the last line feed there is no line
ended_line : lines_of (codes "a\n") ≡ codes "a" ∷ []
unfolding lines_of
ended_line = refl

no_line : lines_of [] ≡ []
unfolding lines_of
no_line = refl

-- a line feed alone is a line
empty_line : lines_of (codes "\n") ≡ [] ∷ []
unfolding lines_of
empty_line = refl

first_of_two : first_line (codes "ab\nc\n") ≡ codes "ab"
first_of_two = refl

behind_first : behind_line (codes "ab\nc\n") ≡ codes "c\n"
behind_first = refl

behind_last : behind_line (codes "ab") ≡ []
behind_last = refl

-- the answers to what is left
answer_at_end : answer_of 65536 [] ≡ Ok End
unfolding answer_of
answer_at_end = refl

answer_to_line : answer_of 65535 (codes "a\nb") ≡ Ok Whole
unfolding answer_of is_short
answer_to_line = refl

answer_to_one_more : answer_of 65536 (codes "\n") ≡ Err LinesSpent
unfolding answer_of
answer_to_one_more = refl
