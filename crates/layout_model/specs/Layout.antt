-- The layout of a tree: one element over the layouts of its children, from the leaves up.
use Rattle.std.specs.Prelude.{ℕ, nat_eq, Bool, ◌&&◌, List, [], ◌∷◌, ◌++◌, length, map, filter, Option, option_map, slice_get}
use Rattle.std.specs.List.{filter_map, flat_map, list_all}
use Rattle.std.specs.Option.{option_and_then, option_map_or}
use Rattle.fixed_units.specs.Sums.{list_to}
use Rattle.font_metrics.specs.Metrics.{MetricsValue}
use Rattle.math_tree.specs.Trees.{TreeValue}
use Rattle.math_tree.specs.declared.kind.Kind.{Kind}
use Rattle.math_tree.specs.declared.node.Head.{Head}
use Rattle.math_tree.specs.declared.node.Node.{Node}
use Rattle.math_tree.specs.declared.node.Node.TheFolds.{fold-Node}
use Rattle.math_tree.specs.declared.node.Node.TheViews.{out-Node}
use Rattle.math_tree.specs.declared.node.NodeId.{NodeId}
use Rattle.op_dictionary.specs.declared.operator.Form.TheVariants.{Infix}
use Rattle.embellished.specs.Facts.{facts_over}
use Rattle.embellished.specs.Flow.{flow_by}
use Rattle.embellished.specs.Seen.{Kid, Seen, seen_over}
use Rattle.embellished.specs.declared.facts.Facts.{Facts}
use Rattle.style_scope.specs.Sizes.{size_of}
use Rattle.style_scope.specs.Styles.{root_style_of}
use Rattle.layout_model.specs.Answers.{last_answer, last_some, no_answer}
use Rattle.layout_model.specs.Equations.{outcome_of}
use Rattle.layout_model.specs.Questions.{first, second}
use Rattle.layout_model.specs.Range.{is_font_size, outcome_fits}
use Rattle.layout_model.specs.declared.context.Context.{Context}
use Rattle.layout_model.specs.declared.context.Question.{Question}
use Rattle.layout_model.specs.declared.context.Stretch.TheVariants.{None as Unstretched}
use Rattle.layout_model.specs.declared.laid.Laid.{Laid}
use Rattle.layout_model.specs.declared.laid.Laid.TheViews.{roll-Laid}
use Rattle.layout_model.specs.declared.outcome.Answer.{Answer}
use Rattle.layout_model.specs.declared.outcome.Outcome.{Outcome}

-- ---- one element, over the answers of its children

-- the answer that counts of each child in flow, from those to both waves
unfoldable pub last_answers : MetricsValue → Seen → Context → List Answer → List Answer
    → List Answer
last_answers m seen context one two =
    list_to (length seen.kids)
    (last_answer (first m seen context ++ second m seen context one) (one ++ two))

unfoldable pub equation : MetricsValue → Seen → Context → List Answer → List Answer → Outcome
equation m seen context one two =
    outcome_of record {
      metrics = m;
      seen = seen;
      context = context;
      kids = last_answers m seen context one two;
    }

-- all that an element asks, where `ask` answers it
unfoldable pub questions : MetricsValue → Seen → Context → (Question → Answer) → List Question
questions m seen context ask = first m seen context
    ++ second m seen context (map ask (first m seen context))

-- an element, where `ask` answers its questions
unfoldable pub lay_by : MetricsValue → Seen → Context → (Question → Answer) → Outcome
lay_by m seen context ask =
    let one = map ask (first m seen context) in
    equation m seen context one (map ask (second m seen context one))

-- ---- a tree

-- a layout that is made on the way to another
pub record Visit : Type 0 where
  pub id : NodeId
  pub context : Context
  pub outcome : Outcome

-- what an element of a tree is; in each context how it is laid out, which layouts are made for
-- that, and the same with all elements in flow below it
pub record Subtree : Type 0 where
  pub head : Head
  pub facts : Facts
  pub lay : Context → Outcome
  pub visits : Context → List Visit
  pub laid : Context → Laid

abbrev pub laid_subtree : Subtree → Kind
laid_subtree kid = kid.facts.laid

abbrev pub shown_subtree : Subtree → Kid
shown_subtree kid = record { head = kid.head; facts = kid.facts }

-- the answer of the child that a question names
abbrev pub ask : List Subtree → Question → Answer
ask flow question = option_map_or (λ kid. (kid.lay question.context).answer)
    (slice_get flow question.kid) no_answer

-- the layouts that are made for it
abbrev pub visits_for : List Subtree → Question → List Visit
visits_for flow question = option_map_or (λ kid. kid.visits question.context)
    (slice_get flow question.kid) []

-- the context of the last question to a child, where there is one
abbrev pub last_context : List Question → ℕ → Option Context
last_context asks kid = last_some
    (map (λ question. question.context) (filter (λ question. nat_eq question.kid kid) asks))

-- the child in flow at a place, as the last question to it has it
abbrev pub laid_kid : List Subtree → List Question → ℕ → Option Laid
laid_kid flow asks place = option_and_then (λ kid. option_map kid.laid (last_context asks place))
    (slice_get flow place)

-- what there is of what may be there
abbrev pub somes : {A : Type 0} → List (Option A) → List A
somes options = filter_map (λ option. option) options

-- an element over all its children, of which those in flow are asked
abbrev pub over : MetricsValue → Head → List Subtree → Subtree
over m head kids =
    let facts = facts_over head (map (λ kid. kid.facts) kids) in
    let seen = seen_over head facts (map shown_subtree kids) in
    let flow = flow_by laid_subtree facts.laid kids in
    record {
      head = head;
      facts = facts;
      lay = λ context. lay_by m seen context (ask flow);
      visits = λ context.
          record { id = head.id; context = context; outcome = lay_by m seen context (ask flow) }
          ∷ flat_map (visits_for flow) (questions m seen context (ask flow));
      laid = λ context. roll-Laid record {
        head = head;
        outcome = lay_by m seen context (ask flow);
        kids = somes (list_to (length flow) (laid_kid flow (questions m seen context (ask flow))));
      };
    }

unfoldable pub subtree : MetricsValue → Node → Subtree
subtree m node = fold-Node Subtree (λ layer. over m layer.head layer.children) node

-- an element of a tree, laid out in a context
unfoldable pub lay : MetricsValue → Node → Context → Outcome
lay m node context = (subtree m node).lay context

-- every layout that is made for that, its own first; one may stand there twice
unfoldable pub visits : MetricsValue → Node → Context → List Visit
visits m node context = (subtree m node).visits context

-- the same with all elements in flow below it, each in the context of the last question to it
unfoldable pub laid : MetricsValue → Node → Context → Laid
laid m node context = (subtree m node).laid context

-- ---- in range

abbrev pub visit_fits : MetricsValue → Visit → Bool
visit_fits m visit = is_font_size (size_of m visit.context.style) && outcome_fits visit.outcome

-- every layout that is made for an element in a context can be stored
unfoldable pub in_range : MetricsValue → Node → Context → Bool
in_range m node context = list_all (visit_fits m) (visits m node context)

-- ---- a whole tree

-- the root is infix, and nothing stretches it
unfoldable pub root_context : MetricsValue → Head → Context
root_context m root = record { style = root_style_of m root; form = Infix; stretch = Unstretched }

abbrev pub lay_tree : MetricsValue → TreeValue → Outcome
lay_tree m tree = lay m tree.root (root_context m (out-Node tree.root).head)

-- a tree with all its elements in flow
abbrev pub laid_tree : MetricsValue → TreeValue → Laid
laid_tree m tree = laid m tree.root (root_context m (out-Node tree.root).head)

abbrev pub is_tree_in_range : MetricsValue → TreeValue → Bool
is_tree_in_range m tree = in_range m tree.root (root_context m (out-Node tree.root).head)
