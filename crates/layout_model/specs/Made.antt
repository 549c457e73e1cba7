-- Which layouts of which elements are made for the layout of a tree.
use Rattle.std.specs.Prelude.{◌≡◌, ℕ, ◌⊎◌, ◌↔◌, List, [], ◌∷◌, map, Some, slice_get}
use Rattle.std.specs.List.{Contains}
use Rattle.font_metrics.specs.Metrics.{MetricsValue}
use Rattle.math_tree.specs.declared.node.Node.{Node}
use Rattle.math_tree.specs.declared.node.Node.TheViews.{out-Node}
use Rattle.embellished.specs.Seen.{Child, flow_children, kid_of, seen_of}
use Rattle.layout_model.specs.Laws.{answer_of}
use Rattle.layout_model.specs.Layout.{Visit, lay, questions, visits}
use Rattle.layout_model.specs.Waves.{MayBeAsked}
use Rattle.layout_model.specs.declared.context.Context.{Context}
use Rattle.layout_model.specs.declared.context.Question.{Question}

-- what an element of a tree asks in both waves
abbrev pub asks_of : MetricsValue → Node → Context → List Question
asks_of m node context = questions m (seen_of node) context (answer_of m node)

-- a question of an element goes to this child
pub record Asks (m : MetricsValue) (node : Node) (context : Context) (question : Question)
    (child : Child) : Type 0 where
  pub asked : Contains (asks_of m node context) question
  pub to : slice_get (flow_children node) question.kid ≡ Some child

-- the layouts that are made for that of a node in a context, by the places of children down to an
-- element: its own is, and with a layout those of all that it asks
abbrev pub IsMade : MetricsValue → List ℕ → Node → Context → Node → Context → Type 0
IsMade m [] node context element made = (element ≡ node) × (made ≡ context)
IsMade m (place ∷ path) node context element made =
    (question : Question) × (child : Child) × Asks m node context question child
    × (child.place ≡ place)
    × IsMade m path child.node question.context element made

-- the layout of an element, as it is listed
abbrev pub visit_of : MetricsValue → Node → Context → Visit
visit_of m element made = record {
  id = (out-Node element).head.id;
  context = made;
  outcome = lay m element made;
}

-- what is listed for a layout is what is made for it: its own, and with a layout those of all that
-- it asks
abbrev pub MadeLaw : Type 0
MadeLaw = (m : MetricsValue) (node : Node) (context : Context) (visit : Visit) →
    Contains (visits m node context) visit
    ↔ ((path : List ℕ) × (element : Node) × (made : Context)
    × IsMade m path node context element made × (visit ≡ visit_of m element made))

-- no element is laid out in more than two contexts
abbrev pub TwoContextsLaw : Type 0
TwoContextsLaw = (m : MetricsValue) (node : Node) (context : Context) → MayBeAsked m node context →
    (path : List ℕ) (x y z : Node) (a b c : Context) →
    IsMade m path node context x a → IsMade m path node context y b
    → IsMade m path node context z c →
    (a ≡ b) ⊎ ((a ≡ c) ⊎ (b ≡ c))

-- layout reads nothing of a child but its head, its facts and its answers to what it is asked
abbrev pub ReadsLaw : Type 0
ReadsLaw = (m : MetricsValue) (node other : Node) (context : Context) →
    (out-Node other).head ≡ (out-Node node).head →
    map kid_of (out-Node other).children ≡ map kid_of (out-Node node).children →
    ((question : Question) → Contains (asks_of m node context) question
    → answer_of m other question ≡ answer_of m node question) →
    lay m other context ≡ lay m node context
