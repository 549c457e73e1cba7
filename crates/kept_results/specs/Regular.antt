-- Elements that ask all their children alike, and what stays of that where only one child is
-- another.
use Rattle.std.specs.Prelude.{◌≡◌, ◌≤◌, ℕ, nat_eq, true, if◌then◌else◌, List, map, length, Some, slice_get}
use Rattle.font_metrics.specs.Metrics.{MetricsValue}
use Rattle.math_tree.specs.declared.node.Node.{Node}
use Rattle.math_tree.specs.declared.node.Node.TheViews.{out-Node}
use Rattle.embellished.specs.Facts.{facts}
use Rattle.embellished.specs.Seen.{Seen, children_from, flow_children, seen_of}
use Rattle.layout_model.specs.Contexts.{kid_style}
use Rattle.layout_model.specs.declared.context.Context.{Context}
use Rattle.layout_model.specs.declared.context.Question.{Question}
use Rattle.child_questions.specs.Surveys.{has_one_wave, survey_of}
use Rattle.kept_results.specs.declared.memo.Memo.{Memo}
use Rattle.kept_results.specs.declared.memo.Memo.TheViews.{out-Memo}

-- all children of an element are in flow
abbrev pub AllInFlow : Node → Type 0
AllInFlow node = flow_children node ≡ children_from 0 (out-Node node).children

-- each question goes to the child in flow of its own place
abbrev pub AreInOrder : List Question → Type 0
AreInOrder asks = (index : ℕ) (question : Question) → slice_get asks index ≡ Some question
    → question.kid ≡ index

-- an element in a context that has all its children in flow, and no prescripts, and of which these
-- are all questions, whatever is answered, to one child after the other. That every child is asked
-- by its first wave is a law of those
pub record IsRegular (m : MetricsValue) (node : Node) (context : Context) (asks : List Question)
    : Type 0 where
  pub all : AllInFlow node
  pub behind : (seen_of node).prescripts ≡ length (out-Node node).children
  pub one_wave : has_one_wave (survey_of m (seen_of node) context) ≡ true
  pub in_order : AreInOrder asks

-- a memo is that of an element with all its children in flow, no prescripts and not too many
-- children: it says what they are
pub record IsShownBy (memo : Memo) (node : Node) : Type 0 where
  pub own : (out-Memo memo).facts ≡ facts node
  pub kids : map (λ below. (out-Memo below).facts) (out-Memo memo).below
      ≡ map facts (out-Node node).children
  pub few : length (out-Node node).children ≤ 65_535
  pub all : AllInFlow node
  pub behind : (seen_of node).prescripts ≡ length (out-Node node).children

-- ---- asked again

-- a question with the style that the child to which it goes has now
abbrev pub restyled : MetricsValue → Seen → Context → Question → Question
restyled m seen context question = record {
  kid = question.kid;
  context = record {
    style = kid_style m seen context.style question.kid;
    form = question.context.form;
    stretch = question.context.stretch;
  };
}

-- so is one to the child at a place; others stay
abbrev pub restyled_at : MetricsValue → Seen → Context → ℕ → Question → Question
restyled_at m seen context place question =
    if nat_eq question.kid place then restyled m seen context question else question
