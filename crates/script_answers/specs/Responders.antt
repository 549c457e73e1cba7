-- The replies to lines, one after another, whatever answers them.
use Rattle.std.specs.Prelude.{◌≡◌, ℕ, List, [], ◌∷◌, ◌++◌}

-- what answers lines: what it knows, what it tells of a line, and what it knows then
pub record Responder : Type 1 where
  pub Known : Type 0
  pub told_of : Known → List ℕ → List ℕ
  pub after_line : Known → List ℕ → Known

-- the replies to lines, each by what is known by then
abbrev pub all_replies : (R : Responder) → R.Known → List (List ℕ) → List ℕ
all_replies R known [] = []
all_replies R known (line ∷ lines) =
    R.told_of known line ++ all_replies R (R.after_line known line) lines

-- the same replies, one by one
abbrev pub each_reply : (R : Responder) → R.Known → List (List ℕ) → List (List ℕ)
each_reply R known [] = []
each_reply R known (line ∷ lines) =
    R.told_of known line ∷ each_reply R (R.after_line known line) lines

-- what is known behind all lines
abbrev pub after_all : (R : Responder) → R.Known → List (List ℕ) → R.Known
after_all R known [] = known
after_all R known (line ∷ lines) = after_all R (R.after_line known line) lines

-- which counts of steps, before and after, a line may have
abbrev pub LineSteps : Responder → Type 1
LineSteps R = R.Known → List ℕ → ℕ → ℕ → Type 0

-- the steps of lines, one line after another
abbrev pub TakesForLines : (R : Responder) → LineSteps R → R.Known → List (List ℕ) → ℕ → ℕ → Type 0
TakesForLines R Takes known [] from to = to ≡ from
TakesForLines R Takes known (line ∷ lines) from to =
    (between : ℕ) × Takes known line from between
    × TakesForLines R Takes (R.after_line known line) lines between to
