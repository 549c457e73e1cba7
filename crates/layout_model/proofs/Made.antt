-- Which layouts are made for that of a tree, and what a layout reads of the nodes below.
use Rattle.std.proofs.Common.{◌≡◌, ◌∙◌, refl, sym, ap, subst, ℕ, zero, suc, ◌<◌, arith, ◌&&◌, List, [], ◌∷◌, map, get_or, inl, inr, ◌⊎◌, Option, Some, None, slice_get}
use Rattle.std.proofs.lemmas.List.Elements.{All-from_recursion, Contains-append_cases, Contains-append_left, Contains-append_right}
use Rattle.std.proofs.lemmas.Option.{get_or_from_slice_get, slice_get-map, slice_get_within}
use Rattle.std.specs.List.{AllByRecursion, Contains, flat_map, list_all}
use Rattle.std.specs.Option.{option_map, option_map_or}
use Rattle.font_metrics.specs.Metrics.{MetricsValue}
use Rattle.math_tree.specs.declared.node.Node.{Node}
use Rattle.math_tree.specs.declared.node.Node.TheViews.{out-Node}
use Rattle.math_tree.proofs.Nodes.{by_children}
use Rattle.embellished.specs.Facts.{facts, facts_over}
use Rattle.embellished.specs.Seen.{Child, Kid, Seen, flow_children, flow_nodes, kid_of, seen_of, seen_over}
use Rattle.embellished.specs.declared.facts.Facts.{Facts}
use Rattle.embellished.proofs.InFlow.{among}
use Rattle.embellished.proofs.Nodes.{facts_out}
use Rattle.layout_model.specs.Answers.{no_answer}
use Rattle.layout_model.specs.Laws.{answer_of, visits_below}
use Rattle.layout_model.specs.Layout.{Visit, equation, in_range, lay, lay_by, questions, visit_fits, visits}
use Rattle.layout_model.specs.Made.{IsMade, MadeLaw, ReadsLaw, asks_of, visit_of}
use Rattle.layout_model.specs.Questions.{first, second}
use Rattle.layout_model.specs.declared.context.Context.{Context}
use Rattle.layout_model.specs.declared.context.Question.{Question}
use Rattle.layout_model.specs.declared.outcome.Answer.{Answer}
use Rattle.layout_model.proofs.Trees.{lay_is, visits_are}

-- ---- what lists contain

module _ {X : Type 0} where
  first_in : (x : X) (xs : List X) → Contains (x ∷ xs) x
  first_in x xs = (0, omega arith, refl)

  none_in : (x : X) (k : ℕ) → k < 0 → ⊥
  none_in x k l = omega (arith, l)

  only_in : (y x : X) (k : ℕ) → k < 1 → get_or (y ∷ []) k x ≡ x → y ≡ x
  only_in y x zero l e = e
  only_in y x (suc k) l e = absurd (omega (arith, l))

  pub in_cases : (y : X) (ys : List X) (x : X) → Contains (y ∷ ys) x → (y ≡ x) ⊎ Contains ys x
  in_cases y ys x c =
      elim (Contains-append_cases (y ∷ []) ys x c) [
        | inl here ↦ inl (only_in y x here.0 here.1 here.2)
        | inr there ↦ inr there
      ]

record HasSource {X Y : Type 0} (f : X → List Y) (xs : List X) (y : Y) : Type 0 where
  source : X
  among_all : Contains xs source
  gives : Contains (f source) y

module _ {X Y : Type 0} (f : X → List Y) where
  source_of : (xs : List X) (y : Y) → Contains (flat_map f xs) y → HasSource f xs y
  source_of [] y c = absurd (none_in y c.0 c.1)
  source_of (x ∷ xs) y c =
      elim (Contains-append_cases (f x) (flat_map f xs) y c) [
        | inl here ↦ record { source = x; among_all = first_in x xs; gives = here }
        | inr there ↦
            let found = source_of xs y there in
            record { source = found.source; among_all = Contains-append_right (x ∷ []) xs found.source found.among_all; gives = found.gives }
      ]

  pub gives_all : (xs : List X) (x : X) (y : Y) → Contains xs x → Contains (f x) y → Contains (flat_map f xs) y
  gives_all [] x y c g = absurd (none_in x c.0 c.1)
  gives_all (z ∷ xs) x y c g =
      elim (in_cases z xs x c) [
        | inl same ↦ Contains-append_left (f z) (flat_map f xs) y (subst (λ (w : X). Contains (f w) y) (sym same) g)
        | inr there ↦ Contains-append_right (f z) (flat_map f xs) y (gives_all xs x y there g)
      ]

-- functions that agree on all of a list
map_agree : {A B : Type 0} (f g : A → B) (xs : List A) → ((x : A) → Contains xs x → f x ≡ g x) → map f xs ≡ map g xs
map_agree f g [] same = refl
map_agree f g (x ∷ xs) same =
    ap (λ y. y ∷ map f xs) (same x (first_in x xs))
    ∙ ap (λ ys. g x ∷ ys) (map_agree f g xs (λ y c. same y (Contains-append_right (x ∷ []) xs y c)))

-- ---- a question that goes to a child

module _ (m : MetricsValue) (node : Node) (question : Question) (child : Child) (to : slice_get (flow_children node) question.kid ≡ Some child) where
  node_at : slice_get (flow_nodes node) question.kid ≡ Some child.node
  node_at =
      slice_get-map (λ (c : Child). c.node) (flow_children node) question.kid ∙ ap (option_map (λ (c : Child). c.node)) to

  -- its answer is that of the child's layout
  pub answer_of_child : answer_of m node question ≡ (lay m child.node question.context).answer
  unfolding answer_of
  answer_of_child = ap (λ (found : Option Node). option_map_or (λ k. (lay m k question.context).answer) found no_answer) node_at

  -- what is made for it is what is made for the child's layout
  pub visits_of_child : visits_below m node question ≡ visits m child.node question.context
  unfolding visits_below
  visits_of_child = ap (λ (found : Option Node). option_map_or (λ k. visits m k question.context) found []) node_at

-- ---- what is listed is what is made

module _ (m : MetricsValue) where
  pub record IsListed (node : Node) (context : Context) (visit : Visit) : Type 0 where
    path : List ℕ
    element : Node
    made : Context
    is_made : IsMade m path node context element made
    is_visit : visit ≡ visit_of m element made

  abbrev AllListed : Node → Type 0
  AllListed node = (context : Context) (visit : Visit) → Contains (visits m node context) visit → IsListed node context visit

  module _ (node : Node) (below : AllByRecursion AllListed (out-Node node).children) where
    child_listed : (child : Child) (index : ℕ) → slice_get (flow_children node) index ≡ Some child → AllListed child.node
    child_listed child index at =
        let place = among node index child at in
        let nodes = (out-Node node).children in
        subst AllListed (get_or_from_slice_get nodes child.place child.node child.node place)
        (All-from_recursion AllListed nodes below child.place child.node (slice_get_within nodes child.place child.node place))

    of_question : (context : Context) (visit : Visit) (question : Question) → Contains (asks_of m node context) question
        → Contains (visits_below m node question) visit → IsListed node context visit
    unfolding visits_below
    of_question context visit question asked c = by (slice_get (flow_children node) question.kid) refl
      where
        by : (found : Option Child) → slice_get (flow_children node) question.kid ≡ found → IsListed node context visit
        by None e =
            let nowhere : slice_get (flow_nodes node) question.kid ≡ None =
            slice_get-map (λ (k : Child). k.node) (flow_children node) question.kid ∙ ap (option_map (λ (k : Child). k.node)) e in
            let empty = subst (λ (found : Option Node). Contains (option_map_or (λ k. visits m k question.context) found []) visit) nowhere c in
            absurd (none_in visit empty.0 empty.1)
        by (Some child) e =
            let there = subst (λ (list : List Visit). Contains list visit) (visits_of_child m node question child e) c in
            let found = child_listed child question.kid e question.context visit there in
            record {
              path = child.place ∷ found.path;
              element = found.element;
              made = found.made;
              is_made = (question, child, record { asked = asked; to = e }, refl, found.is_made);
              is_visit = found.is_visit;
            }

    listed_here : AllListed node
    listed_here context visit c =
        let whole = subst (λ (list : List Visit). Contains list visit) (visits_are m node context) c in
        elim (in_cases (visit_of m node context) (flat_map (visits_below m node) (asks_of m node context)) visit whole) [
          | inl own ↦ record { path = []; element = node; made = context; is_made = (refl, refl); is_visit = sym own }
          | inr further ↦
              let found = source_of (visits_below m node) (asks_of m node context) visit further in
              of_question context visit found.source found.among_all found.gives
        ]

  all_listed : (node : Node) → AllListed node
  all_listed = by_children AllListed listed_here

  made_listed : (path : List ℕ) (node : Node) (context : Context) (element : Node) (made : Context) → IsMade m path node context element made
      → Contains (visits m node context) (visit_of m element made)
  made_listed [] node context element made h =
      let all = first_in (visit_of m node context) (flat_map (visits_below m node) (asks_of m node context)) in
      let listed = subst (λ (list : List Visit). Contains list (visit_of m node context)) (sym (visits_are m node context)) all in
      subst (Contains (visits m node context)) (λ i. visit_of m (sym h.0 i) (sym h.1 i)) listed
  made_listed (place ∷ path) node context element made (question, child, asks, at, rest) =
      let there = made_listed path child.node question.context element made rest in
      let below = subst (λ (list : List Visit). Contains list (visit_of m element made)) (sym (visits_of_child m node question child asks.to)) there in
      let further = gives_all (visits_below m node) (asks_of m node context) question (visit_of m element made) asks.asked below in
      subst (λ (list : List Visit). Contains list (visit_of m element made)) (sym (visits_are m node context))
      (Contains-append_right (visit_of m node context ∷ []) (flat_map (visits_below m node) (asks_of m node context)) (visit_of m element made) further)

pub made : MadeLaw
made m node context visit = (
  λ c. let found = all_listed m node context visit c in (found.path, found.element, found.made, found.is_made, found.is_visit),
  λ h. subst (Contains (visits m node context)) (sym h.4) (made_listed m h.0 node context h.1 h.2 h.3),
)

-- ---- range, of a whole and of its parts

pub range_parts : (m : MetricsValue) (node : Node) (context : Context)
    → in_range m node context
    ≡ (visit_fits m (visit_of m node context) && list_all (visit_fits m) (flat_map (visits_below m node) (asks_of m node context)))
unfolding in_range
range_parts m node context = ap (list_all (visit_fits m)) (visits_are m node context)

-- ---- what a layout reads

module _ (m : MetricsValue) (seen : Seen) (context : Context) (f g : Question → Answer)
    (same : (question : Question) → Contains (questions m seen context g) question → f question ≡ g question) where
  ones_agree : map f (first m seen context) ≡ map g (first m seen context)
  unfolding questions
  ones_agree =
      map_agree f g (first m seen context)
      (λ q c. same q (Contains-append_left (first m seen context) (second m seen context (map g (first m seen context))) q c))

  twos_agree : map f (second m seen context (map g (first m seen context))) ≡ map g (second m seen context (map g (first m seen context)))
  unfolding questions
  twos_agree =
      map_agree f g (second m seen context (map g (first m seen context)))
      (λ q c. same q (Contains-append_right (first m seen context) (second m seen context (map g (first m seen context))) q c))

  laid_agree : lay_by m seen context f ≡ lay_by m seen context g
  unfolding lay_by
  laid_agree =
      ap (λ (one : List Answer). equation m seen context one (map f (second m seen context one))) ones_agree
      ∙ ap (equation m seen context (map g (first m seen context))) twos_agree

kid_facts : (nodes : List Node) → map (λ (kid : Kid). kid.facts) (map kid_of nodes) ≡ map facts nodes
kid_facts [] = refl
kid_facts (node ∷ nodes) = ap (λ (rest : List Facts). facts node ∷ rest) (kid_facts nodes)

module _ (node other : Node) (head : (out-Node other).head ≡ (out-Node node).head) (kids : map kid_of (out-Node other).children ≡ map kid_of (out-Node node).children) where
  same_facts : facts other ≡ facts node
  same_facts =
      facts_out other ∙ ap (facts_over (out-Node other).head) (sym (kid_facts (out-Node other).children))
      ∙ (λ i. facts_over (head i) (map (λ (kid : Kid). kid.facts) (kids i)))
      ∙ ap (facts_over (out-Node node).head) (kid_facts (out-Node node).children) ∙ sym (facts_out node)

  same_seen : seen_of other ≡ seen_of node
  unfolding seen_of
  same_seen = λ i. seen_over (head i) (same_facts i) (kids i)

pub reads : ReadsLaw
reads m node other context head kids same =
    lay_is m other context
    ∙ ap (λ (seen : Seen). lay_by m seen context (answer_of m other)) (same_seen node other head kids)
    ∙ laid_agree m (seen_of node) context (answer_of m other) (answer_of m node) same
    ∙ sym (lay_is m node context)
