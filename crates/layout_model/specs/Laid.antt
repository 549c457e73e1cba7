-- What holds of all elements of a laid-out tree, and how many levels it has.
use Rattle.std.specs.Prelude.{◌≡◌, ℕ, ◌+◌, ◌≤◌, max, nat_lt, Bool, true, ◌&&◌, length, fold, map}
use Rattle.std.specs.List.{All, list_all}
use Rattle.fixed_units.specs.Sums.{list_to}
use Rattle.font_metrics.specs.Metrics.{MetricsValue}
use Rattle.font_metrics.specs.declared.mark.Mark.{Mark}
use Rattle.font_metrics.specs.declared.mark.Mark.TheVariants.{Glyph, Rule, Built}
use Rattle.font_metrics.specs.Taken.{IsTaken}
use Rattle.math_tree.specs.Trees.{listed}
use Rattle.math_tree.specs.declared.node.Node.{Node}
use Rattle.math_tree.specs.declared.node.Node.TheViews.{out-Node}
use Rattle.embellished.specs.Seen.{flow_nodes}
use Rattle.layout_model.specs.Layout.{in_range, laid, lay}
use Rattle.layout_model.specs.Range.{outcome_fits}
use Rattle.layout_model.specs.declared.context.Context.{Context}
use Rattle.layout_model.specs.declared.laid.Laid.{Laid}
use Rattle.layout_model.specs.declared.laid.Laid.TheFolds.{fold-Laid}
use Rattle.layout_model.specs.declared.laid.Laid.TheOpen.{Laid-F}
use Rattle.layout_model.specs.declared.laid.Laid.TheViews.{out-Laid}
use Rattle.layout_model.specs.declared.outcome.Outcome.{Outcome}

-- ---- each outcome in it

abbrev pub passes : (Outcome → Bool) → Laid-F Bool → Bool
passes test layer = test layer.outcome && list_all (λ kid. kid) layer.kids

-- the outcome of each element passes a test
unfoldable pub all_outcomes : (Outcome → Bool) → Laid → Bool
all_outcomes test laid = fold-Laid Bool (passes test) laid

-- ---- levels

abbrev pub one_level_more : Laid-F ℕ → ℕ
one_level_more layer = fold max 0 layer.kids + 1

unfoldable pub levels : Laid → ℕ
levels laid = fold-Laid ℕ one_level_more laid

-- ---- glyphs

-- the glyph that a mark names, if it names one, is one of the font's
abbrev pub is_of_font : MetricsValue → Mark → Bool
is_of_font m (Glyph x y size glyph) = nat_lt glyph.0 (length m.glyphs)
is_of_font m (Rule x y width height) = true
is_of_font m (Built x y size axis glyph count overlap) = nat_lt glyph.0 (length m.glyphs)

-- each mark of an outcome
unfoldable pub draws_of_font : MetricsValue → Outcome → Bool
draws_of_font m outcome = list_all (is_of_font m) outcome.marks

-- ---- laws

-- where all layouts that are made for an element can be stored, each outcome in its laid-out tree
-- can
abbrev pub StoredLaw : Type 0
StoredLaw = (m : MetricsValue) (node : Node) (context : Context) → in_range m node context ≡ true
    → all_outcomes outcome_fits (laid m node context) ≡ true

-- and each mark in it names a glyph of the font
abbrev pub DrawnLaw : Type 0
DrawnLaw = (m : MetricsValue) (node : Node) (context : Context) → IsTaken m
    → in_range m node context ≡ true
    → all_outcomes (draws_of_font m) (laid m node context) ≡ true

-- an element has no more levels as it is laid out than it has
abbrev pub LevelsLaw : Type 0
LevelsLaw = (m : MetricsValue) (node : Node) (context : Context) (most : ℕ)
    → All (λ e. e.level ≤ most) (listed 1 node)
    → levels (laid m node context) ≤ most

-- ---- each child in flow

-- an outcome has one offset for each child in flow, in order
abbrev pub OffsetsLaw : Type 0
OffsetsLaw = (m : MetricsValue) (node : Node) (context : Context) →
    map (λ offset. offset.kid) (lay m node context).offsets
    ≡ list_to (length (flow_nodes node)) (λ place. place)

-- a laid-out element has its children in flow, in order
abbrev pub LaidKidsLaw : Type 0
LaidKidsLaw = (m : MetricsValue) (node : Node) (context : Context) →
    map (λ kid. (out-Laid kid).head) (out-Laid (laid m node context)).kids
    ≡ map (λ kid. (out-Node kid).head) (flow_nodes node)
