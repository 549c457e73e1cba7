-- In which contexts an element may be laid out, and over which answers.
use Rattle.std.specs.Prelude.{◌≡◌, ℕ, ◌^◌, ◌≤◌, ◌⊎◌, ⊤, true, List, [], ◌∷◌, ◌++◌, length}
use Rattle.std.specs.List.{All, AllPass, sum_by}
use Rattle.fixed_units.specs.Boxes.{farthest}
use Rattle.fixed_units.specs.Numbers.{IsWithin}
use Rattle.font_metrics.specs.Metrics.{MetricsValue}
use Rattle.embellished.specs.Seen.{Seen}
use Rattle.span_tables.specs.Bounds.{IsSpan}
use Rattle.style_scope.specs.Sizes.{IsStyle, size_of}
use Rattle.layout_model.specs.Answers.{answers_in, questions_in}
use Rattle.layout_model.specs.Questions.{first, second}
use Rattle.layout_model.specs.Range.{answer_fits, is_font_size}
use Rattle.layout_model.specs.declared.context.Context.{Context}
use Rattle.layout_model.specs.declared.context.Question.{Question}
use Rattle.layout_model.specs.declared.context.Stretch.{Stretch}
use Rattle.layout_model.specs.declared.context.Stretch.TheVariants.{None as Unstretched, Block, Inline, Columns, Slots}
use Rattle.layout_model.specs.declared.outcome.Answer.{Answer}
use Rattle.layout_model.specs.declared.reply.Reply.{Reply}

-- what stretches can be stored; of columns, the width of each (the width of all may be too large,
-- and then the row that is asked with it can't be stored); slots reach as far as the widths of all
-- columns of a table may
abbrev pub IsStretch : Stretch → Type 0
IsStretch Unstretched = ⊤
IsStretch (Block ascent descent) = IsWithin farthest ascent × IsWithin farthest descent
IsStretch (Inline width) = IsWithin farthest width
IsStretch (Columns []) = ⊤
IsStretch (Columns (total ∷ widths)) = All (IsWithin farthest) widths
IsStretch (Slots numbers) = All (IsWithin (2 ^ 60)) numbers

-- the style keeps its bounds, and so does what stretches
pub record IsContext (context : Context) : Type 0 where
  pub style : IsStyle context.style
  pub stretch : IsStretch context.stretch

-- a question whose style keeps its bounds
abbrev pub HasStyle : Question → Type 0
HasStyle question = IsStyle question.context.style

-- a question in whose context the font size is in range
abbrev pub HasFont : MetricsValue → Question → Type 0
HasFont m question = is_font_size (size_of m question.context.style) ≡ true

-- how many cells there are in all
abbrev pub cell_count : List Answer → ℕ
cell_count answers = sum_by (λ answer. length answer.cells) answers

-- what cells span is told of all cells of a row or of none, each within the limits
pub record AreSpans (answer : Answer) : Type 0 where
  pub each : (answer.spans ≡ []) ⊎ (length answer.spans ≡ length answer.cells)
  pub limits : All IsSpan answer.spans

-- answers can be stored, and there are no more of them, and of no more cells, than a tree has
-- elements
pub record AreAnswers (answers : List Answer) : Type 0 where
  pub fit : AllPass answer_fits answers
  pub count : length answers ≤ 65_536
  pub few : cell_count answers ≤ 65_536
  pub spans : All AreSpans answers

-- the answers to exactly what an element asks in both waves, each in a context whose font size is
-- in range
pub record AnswersAll (m : MetricsValue) (seen : Seen) (context : Context) (one two : List Answer) :
    Type 0 where
  pub ones : length one ≡ length (first m seen context)
  pub twos : length two ≡ length (second m seen context one)
  pub one_fits : AreAnswers one
  pub two_fits : AreAnswers two
  pub fonts : All (HasFont m) (first m seen context ++ second m seen context one)

-- replies to exactly what an element asks in both waves, of which all answers can be stored, each
-- in a context whose font size is in range
pub record RepliesAll (m : MetricsValue) (seen : Seen) (context : Context) (one two : List Reply) :
    Type 0 where
  pub one_asked : questions_in one ≡ first m seen context
  pub two_asked : questions_in two ≡ second m seen context (answers_in one)
  pub one_fits : AreAnswers (answers_in one)
  pub two_fits : AreAnswers (answers_in two)
  pub fonts : All (HasFont m) (questions_in one ++ questions_in two)
