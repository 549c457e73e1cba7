-- What an element asks its children, in two waves (MathML Core 3).
use Rattle.std.specs.Prelude.{ℕ, ◌<◌, Bool, true, false, not, ◌&&◌, List, [], ◌∷◌, length, map, Option, option_map, slice_get}
use Rattle.std.specs.Option.{option_and_then, option_map_or}
use Rattle.fixed_units.specs.Sums.{list_to}
use Rattle.fixed_units.specs.declared.boxes.MathBox.{MathBox}
use Rattle.fixed_units.specs.declared.pull.Pull.{Pull}
use Rattle.fixed_units.specs.declared.pull.Pull.TheVariants.{Free}
use Rattle.font_metrics.specs.Metrics.{MetricsValue}
use Rattle.math_tree.specs.declared.kind.Kind.{Kind}
use Rattle.math_tree.specs.declared.kind.Kind.TheVariants.{Annotation, AnnotationXml, Mfrac, Mi, Mmultiscripts, Mn, Mo, Mover, Mroot, Ms, Mspace, Msub, Msubsup, Msup, Mtable, Mtext, Mtr, Munder, Munderover}
use Rattle.op_dictionary.specs.declared.operator.Axis.TheVariants.{Block}
use Rattle.op_dictionary.specs.declared.operator.Properties.{Properties}
use Rattle.embellished.specs.Forms.{form_at, properties_at}
use Rattle.embellished.specs.Seen.{Seen}
use Rattle.row_stretch.specs.Questions.{asks_from, under, first_asks_of, second_asks_of}
use Rattle.row_stretch.specs.declared.asking.Plan.{Plan}
use Rattle.row_stretch.specs.declared.parts.Ask.{Ask}
use Rattle.row_stretch.specs.declared.parts.KidPull.{KidPull}
use Rattle.scripts.specs.Questions.{first_limit_asks_of, second_limit_asks_of}
use Rattle.layout_model.specs.Contexts.{kid_context, kid_pull, pull_of, stretch_of}
use Rattle.layout_model.specs.Tables.{stretch_at}
use Rattle.layout_model.specs.declared.asking.Asking.{Asking}
use Rattle.layout_model.specs.declared.asking.Asking.TheVariants.{Nothing, Plainly, ForTheBase, AsRow, AsLimits, AsTable}
use Rattle.layout_model.specs.declared.context.Context.{Context}
use Rattle.layout_model.specs.declared.context.Question.{Question}
use Rattle.layout_model.specs.declared.outcome.Answer.{Answer}

-- ---- how an element asks

unfoldable pub asking_of : Kind → Asking
asking_of Annotation = Nothing
asking_of AnnotationXml = Nothing
asking_of Mi = Nothing
asking_of Mn = Nothing
asking_of Mo = Nothing
asking_of Ms = Nothing
asking_of Mspace = Nothing
asking_of Mtext = Nothing
asking_of Mfrac = ForTheBase
asking_of Msub = ForTheBase
asking_of Msup = ForTheBase
asking_of Msubsup = ForTheBase
asking_of Mmultiscripts = ForTheBase
asking_of Munder = AsLimits
asking_of Mover = AsLimits
asking_of Munderover = AsLimits
asking_of Mroot = Plainly
asking_of Mtr = Plainly
asking_of Mtable = AsTable
asking_of other = AsRow

-- the properties of the first child's core in the form in which that child is asked, where it is an
-- embellished operator
unfoldable pub base_properties : MetricsValue → Seen → Context → Option Properties
base_properties m seen context = option_and_then
    (λ kid. option_map (λ core. properties_at core (form_at seen 0 context.form) m.operators)
    kid.facts.core) (slice_get seen.kids 0)

-- limits of a base with `movablelimits` stand beside it as scripts, unless the element is in
-- display style (MathML Core 3.4.2)
abbrev pub has_moved_limits : MetricsValue → Seen → Context → Bool
has_moved_limits m seen context =
    not context.style.display
    && option_map_or (λ base. base.movablelimits) (base_properties m seen context) false

abbrev pub asked_as : Asking → Bool → Asking
asked_as AsLimits true = ForTheBase
asked_as asking moved = asking

unfoldable pub asking : MetricsValue → Seen → Context → Asking
asking m seen context = asked_as (asking_of seen.facts.laid) (has_moved_limits m seen context)

-- ---- with what pull

-- all children, none of them stretched
abbrev pub unstretched : Plan
unstretched = under Block Free

-- the base with what stretches the element, and the others unstretched
abbrev pub base_asks_of : List KidPull → Pull → List Ask
base_asks_of [] own = []
base_asks_of (base ∷ others) own = record { kid = 0; pull = own } ∷ asks_from 1 unstretched others

unfoldable pub first_asks : Asking → List KidPull → Pull → List Ask
first_asks Nothing kids own = []
first_asks Plainly kids own = asks_from 0 unstretched kids
first_asks ForTheBase kids own = base_asks_of kids own
first_asks AsRow kids own = first_asks_of kids own
first_asks AsLimits kids own = first_limit_asks_of kids own
first_asks AsTable kids own = asks_from 0 unstretched kids

unfoldable pub second_asks : Asking → List KidPull → Pull → List MathBox → List Ask
second_asks AsRow kids own first = second_asks_of kids own first
second_asks AsLimits kids own first = second_limit_asks_of kids own first
second_asks asking kids own first = []

-- a question goes to one of so many children
abbrev pub IsAskBelow : ℕ → Ask → Type 0
IsAskBelow n ask = ask.kid < n

abbrev pub IsBelow : ℕ → Question → Type 0
IsBelow n question = question.kid < n

-- ---- the questions

-- what is known of the children before they are laid out
unfoldable pub kid_pulls : MetricsValue → Seen → Context → List KidPull
kid_pulls m seen context = list_to (length seen.kids) (kid_pull m seen context.form)

abbrev pub asked : MetricsValue → Seen → Context → Ask → Question
asked m seen context ask = record {
  kid = ask.kid;
  context = kid_context m seen context ask.kid (stretch_of ask.pull);
}

abbrev pub asked_all : MetricsValue → Seen → Context → List Ask → List Question
asked_all m seen context asks = map (asked m seen context) asks

-- the questions of wave one
unfoldable pub first : MetricsValue → Seen → Context → List Question
first m seen context =
    asked_all m seen context (first_asks (asking m seen context) (kid_pulls m seen context)
    (pull_of context.stretch))

-- a row of a table is asked with its columns or slots, over the answers of all rows
abbrev pub row_asked : MetricsValue → Seen → Context → List Answer → ℕ → Question
row_asked m seen context rows index = record {
  kid = index;
  context = kid_context m seen context index (stretch_at rows index);
}

abbrev pub rows_asked : MetricsValue → Seen → Context → List Answer → List Question
rows_asked m seen context rows = list_to (length seen.kids) (row_asked m seen context rows)

abbrev pub second_as : Asking → MetricsValue → Seen → Context → List Answer → List Question
second_as AsTable m seen context answers = rows_asked m seen context answers
second_as asking m seen context answers =
    asked_all m seen context (second_asks asking (kid_pulls m seen context)
    (pull_of context.stretch) (map (λ answer. answer.frame) answers))

-- the questions of wave two, over the answers to those of wave one
unfoldable pub second : MetricsValue → Seen → Context → List Answer → List Question
second m seen context answers = second_as (asking m seen context) m seen context answers
