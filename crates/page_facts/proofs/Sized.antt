-- What holds of each outcome in a laid-out tree, where its font size is known to be one.
use Rattle.std.proofs.Common.{◌≡◌, ◌∙◌, refl, sym, ap, ℕ, Bool, true, false, ◌&&◌, cond, nat_eq, arith, List, [], ◌∷◌, length, map, filter, Option, Some, None, slice_get}
use Rattle.std.specs.Prelude.{unwrap_or}
use Rattle.std.proofs.lemmas.Bool.{and_parts}
use Rattle.std.proofs.lemmas.Bool.Decides.{nat_tests}
use Rattle.std.proofs.lemmas.List.Folds.{list_all-append}
use Rattle.std.proofs.lemmas.Option.{same_Some}
use Rattle.std.specs.List.{AllByRecursion, flat_map, list_all}
use Rattle.std.specs.Option.{option_and_then, option_map, option_map_or}
use Rattle.fixed_units.specs.Sums.{list_to}
use Rattle.font_metrics.specs.Metrics.{MetricsValue}
use Rattle.math_tree.proofs.Nodes.{by_children}
use Rattle.math_tree.specs.declared.node.Node.{Node}
use Rattle.math_tree.specs.declared.node.Node.TheViews.{out-Node}
use Rattle.embellished.specs.Seen.{flow_nodes, seen_of}
use Rattle.layout_model.specs.Answers.{last_some}
use Rattle.layout_model.specs.Laid.{all_outcomes}
use Rattle.layout_model.specs.Laws.{answer_of, laid_below, visits_below}
use Rattle.layout_model.specs.Layout.{in_range, laid, last_context, lay, questions, somes, visit_fits, visits}
use Rattle.layout_model.specs.Range.{is_font_size, outcome_fits}
use Rattle.layout_model.specs.declared.context.Context.{Context}
use Rattle.layout_model.specs.declared.context.Question.{Question}
use Rattle.layout_model.specs.declared.laid.Laid.{Laid}
use Rattle.layout_model.specs.declared.laid.Laid.TheOpen.{Laid-F}
use Rattle.layout_model.specs.declared.laid.Laid.TheViews.{out-roll-Laid, roll-Laid}
use Rattle.layout_model.specs.declared.outcome.Outcome.{Outcome}
use Rattle.layout_model.proofs.Drawn.{both_true, listed_pass}
use Rattle.layout_model.proofs.LaidTrees.{below_holds, last_behind, outcomes_out}
use Rattle.layout_model.proofs.Trees.{laid_is, visits_are}
use Rattle.style_scope.specs.Sizes.{size_of}

-- ---- the last question to a child is one of them

record Asked (asks : List Question) (i : ℕ) (context : Context) (test : Question → Bool) : Type 0 where
  question : Question
  kid_is : question.kid ≡ i
  context_is : question.context ≡ context
  passed : test question ≡ true

asked_last : (asks : List Question) (i : ℕ) (context : Context) (test : Question → Bool) → last_context asks i ≡ Some context → list_all test asks ≡ true
    → Asked asks i context test
asked_last [] i context test e all = absurd cc
asked_last (q ∷ asks) i context test e all =
    let parts = and_parts (test q) (list_all test asks) all in
    by parts.0 (λ is. asked_last asks i context test is parts.1) (nat_eq q.kid i) refl e
  where
    again : Asked asks i context test → Asked (q ∷ asks) i context test
    again a = record { question = a.question; kid_is = a.kid_is; context_is = a.context_is; passed = a.passed }

    over : test q ≡ true → (last_context asks i ≡ Some context → Asked asks i context test) → (found : Option Context) → last_context asks i ≡ found
        → nat_eq q.kid i ≡ true → Some (unwrap_or found q.context) ≡ Some context → Asked (q ∷ asks) i context test
    over own rest None at k is = record { question = q; kid_is = grind (arith, nat_tests); context_is = same_Some q.context context is; passed = own }
    over own rest (Some other) at k is = again (rest (at ∙ is))

    by : test q ≡ true → (last_context asks i ≡ Some context → Asked asks i context test) → (b : Bool) → nat_eq q.kid i ≡ b
        → last_some (map (λ question. question.context) (cond b (q ∷ filter (λ question. nat_eq question.kid i) asks) (filter (λ question. nat_eq question.kid i) asks))) ≡ Some context
        → Asked (q ∷ asks) i context test
    by own rest false k is = again (rest is)
    by own rest true k is =
        over own rest (last_context asks i) refl k (sym (last_behind q.context (map (λ question. question.context) (filter (λ question. nat_eq question.kid i) asks))) ∙ is)

flat_pass : {A B : Type 0} (test : B → Bool) (f : A → List B) (xs : List A) → list_all test (flat_map f xs) ≡ list_all (λ x. list_all test (f x)) xs
flat_pass test f [] = refl
flat_pass test f (x ∷ xs) = list_all-append test (f x) (flat_map f xs) ∙ ap (λ (b : Bool). list_all test (f x) && b) (flat_pass test f xs)

-- ---- children

abbrev passes_if : {A : Type 0} → (A → Bool) → Option A → Bool
passes_if test found = option_map_or test found true

somes_pass : {A : Type 0} (test : A → Bool) (xs : List (Option A)) → list_all (λ kid. kid) (map test (somes xs)) ≡ list_all (passes_if test) xs
somes_pass test [] = refl
somes_pass test (None ∷ xs) = somes_pass test xs
somes_pass test (Some x ∷ xs) = ap (λ (b : Bool). test x && b) (somes_pass test xs)

module _ (m : MetricsValue) where
  abbrev asks_of : Node → Context → List Question
  asks_of node context = questions m (seen_of node) context (answer_of m node)

  -- an element in range, and those below it as they are asked
  pub record IsRanged (node : Node) (context : Context) : Type 0 where
    pub sized : is_font_size (size_of m context.style) ≡ true
    pub own : outcome_fits (lay m node context) ≡ true
    pub below : (i : ℕ) (kid : Node) (asked : Context) → slice_get (flow_nodes node) i ≡ Some kid → last_context (asks_of node context) i ≡ Some asked
        → in_range m kid asked ≡ true

  pub ranged : (node : Node) (context : Context) → in_range m node context ≡ true → IsRanged node context
  unfolding in_range visits_below
  ranged node context e =
      let all = sym (ap (list_all (visit_fits m)) (visits_are m node context)) ∙ e in
      let parts = and_parts (is_font_size (size_of m context.style) && outcome_fits (lay m node context)) (list_all (visit_fits m) (flat_map (visits_below m node) (asks_of node context))) all in
      let own = and_parts (is_font_size (size_of m context.style)) (outcome_fits (lay m node context)) parts.0 in
      record {
        sized = own.0;
        own = own.1;
        below = λ i kid asked at last.
            let found = asked_last (asks_of node context) i asked (λ q. list_all (visit_fits m) (visits_below m node q)) last
            (sym (flat_pass (visit_fits m) (visits_below m node) (asks_of node context)) ∙ parts.1) in
            let here : slice_get (flow_nodes node) found.question.kid ≡ Some kid = ap (slice_get (flow_nodes node)) found.kid_is ∙ at in
            ap (λ (c : Context). list_all (visit_fits m) (visits m kid c)) (sym found.context_is)
            ∙ ap (λ (o : Option Node). list_all (visit_fits m) (option_map_or (λ k. visits m k found.question.context) o [])) (sym here) ∙ found.passed;
      }

  -- ---- each outcome passes a test

  module _ (test : Outcome → Bool) (each : (node : Node) (context : Context) → is_font_size (size_of m context.style) ≡ true → test (lay m node context) ≡ true) where
    abbrev AllPass : Node → Type 0
    AllPass node = (context : Context) → in_range m node context ≡ true → all_outcomes test (laid m node context) ≡ true

    kid_passes : (node : Node) (context : Context) → AllByRecursion AllPass (out-Node node).children → IsRanged node context
        → (i : ℕ) → passes_if (all_outcomes test) (laid_below m node (asks_of node context) i) ≡ true
    kid_passes node context below here i = by (slice_get (flow_nodes node) i) (last_context (asks_of node context) i) refl refl
      where
        by : (found : Option Node) (last : Option Context) → slice_get (flow_nodes node) i ≡ found → last_context (asks_of node context) i ≡ last
            → passes_if (all_outcomes test) (option_and_then (λ kid. option_map (laid m kid) last) found) ≡ true
        by None last at was = refl
        by (Some kid) None at was = refl
        by (Some kid) (Some asked) at was = below_holds AllPass node kid i below at asked (here.below i kid asked at was)

    pub sized_pass : (node : Node) → AllPass node
    sized_pass = by_children AllPass (λ node below context e.
        let here = ranged node context e in
        let slots = list_to (length (flow_nodes node)) (laid_below m node (asks_of node context)) in
        let made : Laid-F Laid = record { head = (out-Node node).head; outcome = lay m node context; kids = somes slots } in
        ap (all_outcomes test) (laid_is m node context)
        ∙ outcomes_out test (roll-Laid made)
        ∙ ap (λ (l : Laid-F Laid). test l.outcome && list_all (λ kid. kid) (map (all_outcomes test) l.kids)) (out-roll-Laid made)
        ∙ both_true (test (lay m node context)) _ (each node context here.sized)
        (somes_pass (all_outcomes test) slots ∙ listed_pass (passes_if (all_outcomes test)) (length (flow_nodes node)) (laid_below m node (asks_of node context)) (kid_passes node context below here)))
