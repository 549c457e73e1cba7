-- An outcome has one offset for each child in flow, in order.
use Rattle.std.proofs.Common.{◌≡◌, ◌∙◌, refl, sym, ap, subst, ℕ, zero, suc, Bool, true, false, cond, List, [], ◌∷◌, ◌++◌, length, map, Option, Some, None, ℤ}
use Rattle.std.proofs.lemmas.List.{length-map, map-append}
use Rattle.std.specs.Option.{IfSome, option_map_or}
use Rattle.embellished.proofs.ElementLaws.{children_counted}
use Rattle.embellished.proofs.InFlow.{kids_are_nodes}
use Rattle.embellished.specs.Facts.{facts}
use Rattle.embellished.specs.Flow.{flow_by}
use Rattle.embellished.specs.Kinds.{shows_none}
use Rattle.embellished.specs.Laws.{children_of}
use Rattle.embellished.specs.Seen.{Kid, Seen, flow_nodes, kid_of, laid_kid, seen_of}
use Rattle.embellished.specs.declared.facts.Core.{Core}
use Rattle.fixed_units.specs.Sums.{list_to}
use Rattle.fixed_units.specs.declared.boxes.MathBox.{MathBox}
use Rattle.font_metrics.specs.declared.mark.Mark.{Mark}
use Rattle.math_tree.specs.declared.kind.Kind.{Kind}
use Rattle.math_tree.specs.declared.kind.Kind.TheVariants.{Merror, Mfrac, Mi, Mmultiscripts, Mn, Mo, Mover, Mpadded, Mroot, Ms, Mspace, Msqrt, Msub, Msubsup, Msup, Mtable, Mtd, Mtext, Mtr, Munder, Munderover}
use Rattle.math_tree.specs.declared.node.Node.{Node}
use Rattle.math_tree.specs.declared.node.Node.TheViews.{out-Node}
use Rattle.span_tables.specs.declared.cells.CellSpan.{CellSpan}
use Rattle.layout_model.specs.Elements.{Element, outcome_with}
use Rattle.layout_model.specs.Equations.{multi_outcome, operator_outcome, operator_with, outcome_by, over_outcome, space_outcome, sub_outcome, sub_sup_outcome, sup_outcome, token_outcome, under_outcome, under_over_outcome}
use Rattle.layout_model.specs.Laid.{OffsetsLaw}
use Rattle.layout_model.specs.Laws.{answer_of}
use Rattle.layout_model.specs.Layout.{equation, last_answers, lay_by}
use Rattle.layout_model.specs.Questions.{first, has_moved_limits, second}
use Rattle.layout_model.specs.declared.outcome.Offset.{Offset}
use Rattle.layout_model.specs.declared.outcome.Outcome.{Outcome}
use Rattle.layout_model.proofs.Trees.{lay_is}

abbrev kids_of : Outcome → List ℕ
kids_of o = map (λ offset. offset.kid) o.offsets

-- the first places
abbrev places : ℕ → List ℕ
places n = list_to n (λ place. place)

listed_places : (n : ℕ) (f : ℕ → Offset) → ((i : ℕ) → (f i).kid ≡ i) → map (λ offset. offset.kid) (list_to n f) ≡ places n
unfolding list_to
listed_places zero f h = refl
listed_places (suc n) f h =
    map-append (λ (offset : Offset). offset.kid) (list_to n f) (f n ∷ [])
    ∙ ap (λ (front : List ℕ). front ++ (f n).kid ∷ []) (listed_places n f h) ∙ ap (λ (last : ℕ). places n ++ last ∷ []) (h n)

no_places : [] ≡ places 0
unfolding list_to
no_places = refl

two_places : 0 ∷ 1 ∷ [] ≡ places 2
unfolding list_to
two_places = refl

three_places : 0 ∷ 1 ∷ 2 ∷ [] ≡ places 3
unfolding list_to
three_places = refl

-- what an element of a kind has in flow
pub record IsCounted (kind : Kind) (seen : Seen) : Type 0 where
  pub counted : IfSome (children_of kind) (λ n. length seen.kids ≡ n)
  pub childless : shows_none kind ≡ true → length seen.kids ≡ 0

module _ (e : Element) where
  abbrev AreAll : Outcome → Type 0
  AreAll o = kids_of o ≡ places (length e.seen.kids)

  none_are : (o : Outcome) → kids_of o ≡ [] → length e.seen.kids ≡ 0 → AreAll o
  none_are o h n = h ∙ no_places ∙ ap places (sym n)

  two_are : (frame : MathBox) (cells : List ℤ) (spans : List CellSpan) (f g : Offset) (marks : List Mark) → f.kid ≡ 0 → g.kid ≡ 1 → length e.seen.kids ≡ 2
      → AreAll (outcome_with e frame cells spans (f ∷ g ∷ []) marks)
  unfolding outcome_with
  two_are frame cells spans f g marks p q n = ap (λ (a : ℕ). a ∷ g.kid ∷ []) p ∙ ap (λ (b : ℕ). 0 ∷ b ∷ []) q ∙ two_places ∙ ap places (sym n)

  three_are : (frame : MathBox) (cells : List ℤ) (spans : List CellSpan) (f g h : Offset) (marks : List Mark) → f.kid ≡ 0 → g.kid ≡ 1 → h.kid ≡ 2 → length e.seen.kids ≡ 3
      → AreAll (outcome_with e frame cells spans (f ∷ g ∷ h ∷ []) marks)
  unfolding outcome_with
  three_are frame cells spans f g h marks p q r n =
      ap (λ (a : ℕ). a ∷ g.kid ∷ h.kid ∷ []) p ∙ ap (λ (b : ℕ). 0 ∷ b ∷ h.kid ∷ []) q ∙ ap (λ (c : ℕ). 0 ∷ 1 ∷ c ∷ []) r ∙ three_places ∙ ap places (sym n)

  all_are : (frame : MathBox) (cells : List ℤ) (spans : List CellSpan) (f : ℕ → Offset) (marks : List Mark) → ((i : ℕ) → (f i).kid ≡ i)
      → AreAll (outcome_with e frame cells spans (list_to (length e.seen.kids) f) marks)
  unfolding outcome_with
  all_are frame cells spans f marks h = listed_places (length e.seen.kids) f h

  one_of : (b : Bool) (one two : Outcome) → AreAll one → AreAll two → AreAll (cond b one two)
  one_of true one two h k = h
  one_of false one two h k = k

  leaf_are : length e.seen.kids ≡ 0 → AreAll (token_outcome e)
  unfolding token_outcome
  leaf_are n = none_are (token_outcome e) refl n

  operator_are : length e.seen.kids ≡ 0 → AreAll (operator_outcome e)
  unfolding operator_outcome token_outcome
  operator_are n = by e.seen.facts.core
    where
      by : (core : Option Core) → AreAll (option_map_or (operator_with e) core (token_outcome e))
      by None = none_are (token_outcome e) refl n
      by (Some core) = none_are (operator_with e core) refl n

  space_are : length e.seen.kids ≡ 0 → AreAll (space_outcome e)
  unfolding space_outcome
  space_are n = none_are (space_outcome e) refl n

  scripts_are : AreAll (multi_outcome e)
  unfolding multi_outcome
  scripts_are = all_are _ _ _ _ _ (λ i. refl)

  pub offsets_are : (kind : Kind) → IsCounted kind e.seen → AreAll (outcome_by kind e)
  unfolding outcome_by
  offsets_are Merror c = all_are _ _ _ _ _ (λ i. refl)
  offsets_are Mfrac c = two_are _ _ _ _ _ _ refl refl c.counted
  offsets_are Mi c = leaf_are (c.childless refl)
  offsets_are Mmultiscripts c = scripts_are
  offsets_are Mn c = leaf_are (c.childless refl)
  offsets_are Mo c = operator_are (c.childless refl)
  offsets_are Mover c = one_of (has_moved_limits e.metrics e.seen e.context) (sup_outcome e) (over_outcome e) (two_are _ _ _ _ _ _ refl refl c.counted) (two_are _ _ _ _ _ _ refl refl c.counted)
  offsets_are Mpadded c = all_are _ _ _ _ _ (λ i. refl)
  offsets_are Mroot c = two_are _ _ _ _ _ _ refl refl c.counted
  offsets_are Ms c = leaf_are (c.childless refl)
  offsets_are Mspace c = space_are (c.childless refl)
  offsets_are Msqrt c = all_are _ _ _ _ _ (λ i. refl)
  offsets_are Msub c = two_are _ _ _ _ _ _ refl refl c.counted
  offsets_are Msubsup c = three_are _ _ _ _ _ _ _ refl refl refl c.counted
  offsets_are Msup c = two_are _ _ _ _ _ _ refl refl c.counted
  offsets_are Mtable c = all_are _ _ _ _ _ (λ i. refl)
  offsets_are Mtd c = all_are _ _ _ _ _ (λ i. refl)
  offsets_are Mtext c = leaf_are (c.childless refl)
  offsets_are Mtr c = all_are _ _ _ _ _ (λ i. refl)
  offsets_are Munder c = one_of (has_moved_limits e.metrics e.seen e.context) (sub_outcome e) (under_outcome e) (two_are _ _ _ _ _ _ refl refl c.counted) (two_are _ _ _ _ _ _ refl refl c.counted)
  offsets_are Munderover c = one_of (has_moved_limits e.metrics e.seen e.context) (sub_sup_outcome e) (under_over_outcome e) (three_are _ _ _ _ _ _ _ refl refl refl c.counted) (three_are _ _ _ _ _ _ _ refl refl refl c.counted)
  offsets_are other c = all_are _ _ _ _ _ (λ i. refl)

-- ---- of a tree

none_in_flow : (laid : Kind) (kids : List Kid) → shows_none laid ≡ true → flow_by laid_kid laid kids ≡ []
unfolding flow_by
none_in_flow laid kids e = rw e refl

pub counted_of : (node : Node) → IsCounted (facts node).laid (seen_of node)
unfolding seen_of
counted_of node = record {
  counted = children_counted node;
  childless = λ none. ap length (none_in_flow (facts node).laid (map kid_of (out-Node node).children) none);
}

pub as_many_in_flow : (node : Node) → length (seen_of node).kids ≡ length (flow_nodes node)
as_many_in_flow node = ap length (kids_are_nodes node) ∙ length-map (flow_nodes node) kid_of

laid_is_own : (node : Node) → (seen_of node).facts.laid ≡ (facts node).laid
unfolding seen_of
laid_is_own node = refl

pub offsets_law : OffsetsLaw
unfolding lay_by equation
offsets_law m node context =
    let seen = seen_of node in
    let one = map (answer_of m node) (first m seen context) in
    let two = map (answer_of m node) (second m seen context one) in
    let e : Element = record { metrics = m; seen = seen; context = context; kids = last_answers m seen context one two } in
    ap kids_of (lay_is m node context)
    ∙ offsets_are e seen.facts.laid (subst (λ (kind : Kind). IsCounted kind seen) (sym (laid_is_own node)) (counted_of node))
    ∙ ap places (as_many_in_flow node)
