-- What holds of each element of a laid-out tree, and how deep it is.
use Rattle.std.proofs.Common.{◌≡◌, ◌∙◌, refl, sym, ap, subst, ℕ, zero, suc, ◌+◌, ◌-◌, ◌≤◌, max, arith, Bool, true, false, ◌&&◌, cond, nat_eq, List, [], ◌∷◌, ◌++◌, length, map, filter, fold, All, Option, Some, None, slice_get}
use Rattle.std.specs.Prelude.{unwrap_or}
use Rattle.std.proofs.lemmas.Bool.{and_parts}
use Rattle.std.proofs.lemmas.Bool.Decides.{nat_tests}
use Rattle.std.proofs.lemmas.List.Folds.{list_all-append}
use Rattle.std.proofs.lemmas.List.Elements.{All-head, All-tail}
use Rattle.std.proofs.lemmas.Option.{same_Some, slice_get-map}
use Rattle.std.specs.List.{AllByRecursion, flat_map, list_all}
use Rattle.std.specs.Option.{IfSome, option_and_then, option_map, option_map_or}
use Rattle.fixed_units.specs.Sums.{list_to}
use Rattle.font_metrics.specs.Metrics.{MetricsValue}
use Rattle.font_metrics.specs.Taken.{IsTaken}
use Rattle.math_tree.proofs.Nodes.{all_parts, by_children, listed_element}
use Rattle.math_tree.specs.Trees.{Listed, listed}
use Rattle.math_tree.specs.declared.node.Node.{Node}
use Rattle.math_tree.specs.declared.node.Node.TheViews.{out-Node}
use Rattle.embellished.proofs.InFlow.{among}
use Rattle.embellished.specs.Seen.{Child, flow_children, flow_nodes, seen_of}
use Rattle.layout_model.specs.Answers.{last_some}
use Rattle.layout_model.specs.Elements.{Element}
use Rattle.layout_model.specs.Laid.{DrawnLaw, LevelsLaw, StoredLaw, all_outcomes, draws_of_font, levels, one_level_more, passes}
use Rattle.layout_model.specs.Laws.{answer_of, laid_below, visits_below}
use Rattle.layout_model.specs.Layout.{equation, in_range, laid, last_answers, last_context, lay, lay_by, questions, somes, visit_fits, visits}
use Rattle.layout_model.specs.Questions.{first, second}
use Rattle.layout_model.specs.Range.{is_font_size, outcome_fits}
use Rattle.layout_model.specs.declared.context.Context.{Context}
use Rattle.layout_model.specs.declared.context.Question.{Question}
use Rattle.layout_model.specs.declared.laid.Laid.{Laid}
use Rattle.layout_model.specs.declared.laid.Laid.TheFolds.{fold_out-Laid}
use Rattle.layout_model.specs.declared.laid.Laid.TheOpen.{Laid-F}
use Rattle.layout_model.specs.declared.laid.Laid.TheViews.{out-Laid, out-roll-Laid, roll-Laid}
use Rattle.layout_model.specs.declared.outcome.Outcome.{Outcome}
use Rattle.layout_model.proofs.Drawn.{both_true, drawn, listed_pass}
use Rattle.layout_model.proofs.Trees.{laid_is, lay_is, visits_are}
use Rattle.style_scope.specs.Sizes.{size_of}

-- ---- one layer

abbrev layer : Laid → Laid-F Laid
layer laid = out-Laid laid

pub outcomes_out : (test : Outcome → Bool) (l : Laid)
    → all_outcomes test l ≡ (test (out-Laid l).outcome && list_all (λ kid. kid) (map (all_outcomes test) (out-Laid l).kids))
unfolding all_outcomes
outcomes_out test l = fold_out-Laid Bool (passes test) l

pub levels_out : (l : Laid) → levels l ≡ fold max 0 (map levels (out-Laid l).kids) + 1
unfolding levels
levels_out l = fold_out-Laid ℕ one_level_more l

-- ---- the nodes in flow are among all children

pub at_place : {A : Type 0} (P : A → Type 0) (xs : List A) (i : ℕ) (x : A) → AllByRecursion P xs → slice_get xs i ≡ Some x → P x
at_place P [] i x all e = absurd cc
at_place P (y ∷ xs) zero x all e = subst P (same_Some y x e) all.0
at_place P (y ∷ xs) (suc i) x all e = at_place P xs i x all.1 e

pub below_holds : (P : Node → Type 0) (node kid : Node) (i : ℕ) → AllByRecursion P (out-Node node).children → slice_get (flow_nodes node) i ≡ Some kid → P kid
below_holds P node kid i all e = by (slice_get (flow_children node) i) refl
  where
    by : (found : Option Child) → slice_get (flow_children node) i ≡ found → P kid
    by None at = absurd (let n = sym e ∙ slice_get-map (λ (child : Child). child.node) (flow_children node) i ∙ ap (option_map (λ (child : Child). child.node)) at in cc)
    by (Some child) at =
        let same : Some kid ≡ Some child.node = sym e ∙ slice_get-map (λ (c : Child). c.node) (flow_children node) i ∙ ap (option_map (λ (c : Child). c.node)) at in
        at_place P (out-Node node).children child.place kid all (among node i child at ∙ sym same)

-- ---- the children that are laid out

abbrev passes_if : {A : Type 0} → (A → Bool) → Option A → Bool
passes_if test found = option_map_or test found true

somes_pass : {A : Type 0} (test : A → Bool) (xs : List (Option A)) → list_all (λ kid. kid) (map test (somes xs)) ≡ list_all (passes_if test) xs
somes_pass test [] = refl
somes_pass test (None ∷ xs) = somes_pass test xs
somes_pass test (Some x ∷ xs) = ap (λ (b : Bool). test x && b) (somes_pass test xs)

-- the last question to a child is one of them
record Asked (asks : List Question) (i : ℕ) (context : Context) (test : Question → Bool) : Type 0 where
  question : Question
  kid_is : question.kid ≡ i
  context_is : question.context ≡ context
  passed : test question ≡ true

pub last_behind : {A : Type 0} (x : A) (xs : List A) → last_some (x ∷ xs) ≡ Some (unwrap_or (last_some xs) x)
last_behind x [] = refl
last_behind x (y ∷ xs) = last_behind y xs ∙ ap (λ (o : Option _). Some (unwrap_or o x)) (sym (last_behind y xs))

asked_last : (asks : List Question) (i : ℕ) (context : Context) (test : Question → Bool) → last_context asks i ≡ Some context → list_all test asks ≡ true
    → Asked asks i context test
asked_last [] i context test e all = absurd cc
asked_last (q ∷ asks) i context test e all =
    let parts = and_parts (test q) (list_all test asks) all in
    by parts.0 (λ is. asked_last asks i context test is parts.1) (nat_eq q.kid i) refl e
  where
    again : Asked asks i context test → Asked (q ∷ asks) i context test
    again a = record { question = a.question; kid_is = a.kid_is; context_is = a.context_is; passed = a.passed }

    over : test q ≡ true → (last_context asks i ≡ Some context → Asked asks i context test) → (found : Option Context) → last_context asks i ≡ found
        → nat_eq q.kid i ≡ true → Some (unwrap_or found q.context) ≡ Some context → Asked (q ∷ asks) i context test
    over own rest None at k is = record { question = q; kid_is = grind (arith, nat_tests); context_is = same_Some q.context context is; passed = own }
    over own rest (Some other) at k is = again (rest (at ∙ is))

    by : test q ≡ true → (last_context asks i ≡ Some context → Asked asks i context test) → (b : Bool) → nat_eq q.kid i ≡ b
        → last_some (map (λ question. question.context) (cond b (q ∷ filter (λ question. nat_eq question.kid i) asks) (filter (λ question. nat_eq question.kid i) asks))) ≡ Some context
        → Asked (q ∷ asks) i context test
    by own rest false k is = again (rest is)
    by own rest true k is =
        over own rest (last_context asks i) refl k (sym (last_behind q.context (map (λ question. question.context) (filter (λ question. nat_eq question.kid i) asks))) ∙ is)

flat_pass : {A B : Type 0} (test : B → Bool) (f : A → List B) (xs : List A) → list_all test (flat_map f xs) ≡ list_all (λ x. list_all test (f x)) xs
flat_pass test f [] = refl
flat_pass test f (x ∷ xs) = list_all-append test (f x) (flat_map f xs) ∙ ap (λ (b : Bool). list_all test (f x) && b) (flat_pass test f xs)

module _ (m : MetricsValue) where
  abbrev asks_of : Node → Context → List Question
  asks_of node context = questions m (seen_of node) context (answer_of m node)

  -- an element in range, and those below it as they are asked
  record IsRanged (node : Node) (context : Context) : Type 0 where
    own : outcome_fits (lay m node context) ≡ true
    below : (i : ℕ) (kid : Node) (asked : Context) → slice_get (flow_nodes node) i ≡ Some kid → last_context (asks_of node context) i ≡ Some asked
        → in_range m kid asked ≡ true

  ranged : (node : Node) (context : Context) → in_range m node context ≡ true → IsRanged node context
  unfolding in_range visits_below
  ranged node context e =
      let all = sym (ap (list_all (visit_fits m)) (visits_are m node context)) ∙ e in
      let parts = and_parts (is_font_size (size_of m context.style) && outcome_fits (lay m node context)) (list_all (visit_fits m) (flat_map (visits_below m node) (asks_of node context))) all in
      record {
        own = (and_parts (is_font_size (size_of m context.style)) (outcome_fits (lay m node context)) parts.0).1;
        below = λ i kid asked at last.
            let found = asked_last (asks_of node context) i asked (λ q. list_all (visit_fits m) (visits_below m node q)) last
            (sym (flat_pass (visit_fits m) (visits_below m node) (asks_of node context)) ∙ parts.1) in
            let here : slice_get (flow_nodes node) found.question.kid ≡ Some kid = ap (slice_get (flow_nodes node)) found.kid_is ∙ at in
            ap (λ (c : Context). list_all (visit_fits m) (visits m kid c)) (sym found.context_is)
            ∙ ap (λ (o : Option Node). list_all (visit_fits m) (option_map_or (λ k. visits m k found.question.context) o [])) (sym here) ∙ found.passed;
      }

  -- ---- each outcome passes a test

  module _ (test : Outcome → Bool) (each : (node : Node) (context : Context) → outcome_fits (lay m node context) ≡ true → test (lay m node context) ≡ true) where
    abbrev AllPass : Node → Type 0
    AllPass node = (context : Context) → in_range m node context ≡ true → all_outcomes test (laid m node context) ≡ true

    kid_passes : (node : Node) (context : Context) → AllByRecursion AllPass (out-Node node).children → IsRanged node context
        → (i : ℕ) → passes_if (all_outcomes test) (laid_below m node (asks_of node context) i) ≡ true
    kid_passes node context below here i = by (slice_get (flow_nodes node) i) (last_context (asks_of node context) i) refl refl
      where
        by : (found : Option Node) (last : Option Context) → slice_get (flow_nodes node) i ≡ found → last_context (asks_of node context) i ≡ last
            → passes_if (all_outcomes test) (option_and_then (λ kid. option_map (laid m kid) last) found) ≡ true
        by None last at was = refl
        by (Some kid) None at was = refl
        by (Some kid) (Some asked) at was = below_holds AllPass node kid i below at asked (here.below i kid asked at was)

    pub all_pass : (node : Node) → AllPass node
    all_pass = by_children AllPass (λ node below context e.
        let here = ranged node context e in
        let slots = list_to (length (flow_nodes node)) (laid_below m node (asks_of node context)) in
        let made : Laid-F Laid = record { head = (out-Node node).head; outcome = lay m node context; kids = somes slots } in
        ap (all_outcomes test) (laid_is m node context)
        ∙ outcomes_out test (roll-Laid made)
        ∙ ap (λ (l : Laid-F Laid). test l.outcome && list_all (λ kid. kid) (map (all_outcomes test) l.kids)) (out-roll-Laid made)
        ∙ both_true (test (lay m node context)) _ (each node context here.own)
        (somes_pass (all_outcomes test) slots ∙ listed_pass (passes_if (all_outcomes test)) (length (flow_nodes node)) (laid_below m node (asks_of node context)) (kid_passes node context below here)))

pub stored_law : StoredLaw
stored_law m node context e = all_pass m outcome_fits (λ n c fits. fits) node context e

draws : (m : MetricsValue) → IsTaken m → (node : Node) (context : Context) → draws_of_font m (lay m node context) ≡ true
unfolding lay_by equation
draws m taken node context =
    let one = map (answer_of m node) (first m (seen_of node) context) in
    let two = map (answer_of m node) (second m (seen_of node) context one) in
    let e : Element = record { metrics = m; seen = seen_of node; context = context; kids = last_answers m (seen_of node) context one two } in
    ap (draws_of_font m) (lay_is m node context) ∙ drawn e taken (seen_of node).facts.laid

pub drawn_law : DrawnLaw
drawn_law m node context taken e = all_pass m (draws_of_font m) (λ n c fits. draws m taken n c) node context e

-- ---- levels

most_folded : (xs : List ℕ) (first bound : ℕ) → first ≤ bound → AllByRecursion (λ x. x ≤ bound) xs → fold max first xs ≤ bound
most_folded [] first bound h all = h
most_folded (x ∷ xs) first bound h all = most_folded xs (max first x) bound (omega (arith, h, all.0)) all.1

somes_hold : {A : Type 0} (f : A → ℕ) (bound : ℕ) (xs : List (Option A)) → AllByRecursion (λ x. IfSome x (λ a. f a ≤ bound)) xs
    → AllByRecursion (λ n. n ≤ bound) (map f (somes xs))
somes_hold f bound [] all = tt
somes_hold f bound (None ∷ xs) all = somes_hold f bound xs all.1
somes_hold f bound (Some x ∷ xs) all = (all.0, somes_hold f bound xs all.1)

joined_hold : {A : Type 0} (P : A → Type 0) (xs ys : List A) → AllByRecursion P xs → AllByRecursion P ys → AllByRecursion P (xs ++ ys)
joined_hold P [] ys h k = k
joined_hold P (x ∷ xs) ys h k = (h.0, joined_hold P xs ys h.1 k)

listed_hold : {A : Type 0} (P : A → Type 0) (n : ℕ) (f : ℕ → A) → ((i : ℕ) → P (f i)) → AllByRecursion P (list_to n f)
unfolding list_to
listed_hold P zero f h = tt
listed_hold P (suc n) f h = joined_hold P (list_to n f) (f n ∷ []) (listed_hold P n f h) (h n, tt)

pub by_recursion : {A : Type 0} (P : A → Type 0) (xs : List A) → All P xs → AllByRecursion P xs
by_recursion P [] all = tt
by_recursion P (x ∷ xs) all = (All-head P x xs all, by_recursion P xs (All-tail P x xs all))

module _ (most : ℕ) where
  abbrev IsShallow : Listed → Type 0
  IsShallow e = e.level ≤ most

  kids_shallow : (level : ℕ) (nodes : List Node) → AllByRecursion IsShallow (flat_map (listed level) nodes)
      → AllByRecursion (λ n. AllByRecursion IsShallow (listed level n)) nodes
  kids_shallow level [] all = tt
  kids_shallow level (node ∷ nodes) all =
      let parts = all_parts IsShallow (listed level node) (flat_map (listed level) nodes) all in (parts.0, kids_shallow level nodes parts.1)

module _ (m : MetricsValue) (most : ℕ) where
  abbrev Shallow : Node → Type 0
  Shallow node = (level : ℕ) (context : Context) → AllByRecursion (IsShallow most) (listed level node) → level + levels (laid m node context) ≤ most + 1

  kid_levels : (node : Node) → AllByRecursion Shallow (out-Node node).children → (level : ℕ) (context : Context)
      → AllByRecursion (IsShallow most) (flat_map (listed (level + 1)) (out-Node node).children)
      → (i : ℕ) → IfSome (laid_below m node (asks_of m node context) i) (λ l. levels l ≤ most - level)
  kid_levels node below level context all i = by (slice_get (flow_nodes node) i) (last_context (asks_of m node context) i) refl
    where
      by : (found : Option Node) (last : Option Context) → slice_get (flow_nodes node) i ≡ found
          → IfSome (option_and_then (λ kid. option_map (laid m kid) last) found) (λ l. levels l ≤ most - level)
      by None last at = tt
      by (Some kid) None at = tt
      by (Some kid) (Some asked) at =
          let own = below_holds (λ n. AllByRecursion (IsShallow most) (listed (level + 1) n)) node kid i (kids_shallow most (level + 1) (out-Node node).children all) at in
          let deep = below_holds Shallow node kid i below at (level + 1) asked own in
          omega (arith, deep)

  shallow : (node : Node) → Shallow node
  shallow = by_children Shallow (λ node below level context all.
      let whole = subst (AllByRecursion (IsShallow most)) (listed_element level node) all in
      let slots = list_to (length (flow_nodes node)) (laid_below m node (asks_of m node context)) in
      let made : Laid-F Laid = record { head = (out-Node node).head; outcome = lay m node context; kids = somes slots } in
      let each = listed_hold (λ (kid : Option Laid). IfSome kid (λ l. levels l ≤ most - level)) (length (flow_nodes node)) (laid_below m node (asks_of m node context))
      (kid_levels node below level context whole.1) in
      let deepest = most_folded (map levels (somes slots)) 0 (most - level) (omega arith) (somes_hold levels (most - level) slots each) in
      let is = ap levels (laid_is m node context) ∙ levels_out (roll-Laid made) ∙ ap (λ (l : Laid-F Laid). fold max 0 (map levels l.kids) + 1) (out-roll-Laid made) in
      omega (arith, whole.0, deepest, is))

pub levels_law : LevelsLaw
levels_law m node context most all = let whole = shallow m most node 1 context (by_recursion (IsShallow most) (listed 1 node) all) in omega (arith, whole)
