-- An element has no more cells than children in flow.
use Rattle.std.proofs.Common.{◌≡◌, refl, ap, ℕ, ◌≤◌, arith, Bool, true, false, cond, List, ◌++◌, length, map, Option, Some, None}
use Rattle.std.proofs.lemmas.List.{length-map}
use Rattle.fixed_units.proofs.Sums.{length-list_to}
use Rattle.fixed_units.specs.declared.boxes.MathBox.{MathBox}
use Rattle.font_metrics.specs.Metrics.{MetricsValue}
use Rattle.math_tree.specs.declared.kind.Kind.{Kind}
use Rattle.math_tree.specs.declared.kind.Kind.TheVariants.{Mo, Mover, Mtr, Munder, Munderover}
use Rattle.math_tree.specs.declared.node.Node.{Node}
use Rattle.std.specs.Option.{option_map_or}
use Rattle.embellished.specs.Seen.{Seen, seen_of}
use Rattle.embellished.specs.declared.facts.Core.{Core}
use Rattle.layout_model.specs.Answers.{last_answer}
use Rattle.layout_model.specs.Elements.{Element, frames_of, outcome_with}
use Rattle.layout_model.specs.Equations.{multi_outcome, operator_outcome, operator_with, outcome_by, over_outcome, sub_outcome, sub_sup_outcome, space_outcome, sup_outcome, token_outcome, under_outcome, under_over_outcome, unless_moved}
use Rattle.layout_model.specs.Layout.{equation, last_answers, lay, lay_by}
use Rattle.layout_model.specs.Laws.{answer_of}
use Rattle.layout_model.specs.Questions.{first, has_moved_limits, second}
use Rattle.layout_model.specs.declared.context.Context.{Context}
use Rattle.layout_model.specs.declared.outcome.Answer.{Answer}
use Rattle.layout_model.specs.declared.outcome.Outcome.{Outcome}
use Rattle.layout_model.proofs.Trees.{lay_is}

abbrev cells_in : Outcome → ℕ
cells_in outcome = length outcome.answer.cells

-- limits have none, moved or not
none_moved : (e : Element) (limits scripts : Outcome) → cells_in limits ≡ 0 → cells_in scripts ≡ 0 → cells_in (unless_moved e limits scripts) ≤ length e.kids
none_moved e limits scripts l s = by (has_moved_limits e.metrics e.seen e.context)
  where
    by : (b : Bool) → cells_in (cond b scripts limits) ≤ length e.kids
    by true = omega (arith, s)
    by false = omega (arith, l)

-- an operator has none, whatever its core
none_in_operator : (e : Element) (core : Option Core) → cells_in (option_map_or (operator_with e) core (token_outcome e)) ≤ length e.kids
unfolding token_outcome
none_in_operator e None = omega arith
none_in_operator e (Some core) = omega arith

cells_few : (kind : Kind) (e : Element) → cells_in (outcome_by kind e) ≤ length e.kids
unfolding outcome_by outcome_with token_outcome operator_outcome space_outcome multi_outcome
cells_few Mo e = none_in_operator e e.seen.facts.core
cells_few Mtr e =
    omega (arith, length-map (frames_of e) (λ (frame : MathBox). frame.width), length-map e.kids (λ (answer : Answer). answer.frame))
cells_few Munder e = none_moved e (under_outcome e) (sub_outcome e) refl refl
cells_few Mover e = none_moved e (over_outcome e) (sup_outcome e) refl refl
cells_few Munderover e = none_moved e (under_over_outcome e) (sub_sup_outcome e) refl refl
cells_few other e = omega arith

pub equation_cells : (m : MetricsValue) (seen : Seen) (context : Context) (one two : List Answer)
    → length (equation m seen context one two).answer.cells ≤ length seen.kids
unfolding equation last_answers
equation_cells m seen context one two =
    omega (
      arith,
      cells_few seen.facts.laid (record { metrics = m; seen = seen; context = context; kids = last_answers m seen context one two }),
      length-list_to (length seen.kids) (last_answer (first m seen context ++ second m seen context one) (one ++ two)),
    )

pub lay_cells : (m : MetricsValue) (node : Node) (context : Context) → length (lay m node context).answer.cells ≤ length (seen_of node).kids
unfolding lay_by
lay_cells m node context =
    let one = map (answer_of m node) (first m (seen_of node) context) in
    omega (arith, ap cells_in (lay_is m node context), equation_cells m (seen_of node) context one (map (answer_of m node) (second m (seen_of node) context one)))
