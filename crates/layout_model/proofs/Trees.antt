-- The layout of an element of a tree, in terms of the nodes in flow below it.
use Rattle.std.proofs.Common.{◌≡◌, ◌∙◌, refl, sym, ap, ℕ, zero, suc, ◌+◌, cond, List, [], ◌∷◌, ◌++◌, length, map, take, Option, Some, None, slice_get}
use Rattle.std.proofs.lemmas.List.{length-map}
use Rattle.std.proofs.lemmas.Option.{slice_get-map}
use Rattle.fixed_units.specs.Sums.{list_to}
use Rattle.std.specs.List.{AllByRecursion, flat_map}
use Rattle.std.specs.Option.{option_and_then, option_map, option_map_or}
use Rattle.font_metrics.specs.Metrics.{MetricsValue}
use Rattle.math_tree.specs.declared.kind.Kind.{Kind}
use Rattle.math_tree.specs.declared.node.Head.{Head}
use Rattle.math_tree.specs.declared.node.Node.{Node}
use Rattle.math_tree.specs.declared.node.Node.TheFolds.{fold_out-Node}
use Rattle.math_tree.specs.declared.node.Node.TheViews.{out-Node}
use Rattle.math_tree.proofs.Nodes.{by_children}
use Rattle.embellished.specs.Facts.{facts, facts_over}
use Rattle.embellished.specs.Flow.{flow_by, may_show, shown_by}
use Rattle.embellished.specs.Kinds.{shows_its_first, shows_none}
use Rattle.embellished.specs.Seen.{Child, Seen, children_from, flow_children, flow_nodes, kid_of, laid_child, seen_of, seen_over}
use Rattle.embellished.specs.declared.facts.Facts.{Facts}
use Rattle.embellished.proofs.InFlow.{flow_map}
use Rattle.embellished.proofs.Nodes.{facts_out}
use Rattle.layout_model.specs.Answers.{no_answer}
use Rattle.layout_model.specs.Laws.{LaidLaw, LayoutLaw, VisitsLaw, answer_of, laid_below, visits_below}
use Rattle.layout_model.specs.Layout.{Subtree, Visit, ask, laid, laid_kid, laid_subtree, last_context, lay, lay_by, equation, over, questions, shown_subtree, somes, subtree, visits, visits_for}
use Rattle.layout_model.specs.Questions.{first, second}
use Rattle.layout_model.specs.declared.context.Context.{Context}
use Rattle.layout_model.specs.declared.context.Question.{Question}
use Rattle.layout_model.specs.declared.laid.Laid.{Laid}
use Rattle.layout_model.specs.declared.laid.Laid.TheViews.{roll-Laid}
use Rattle.layout_model.specs.declared.outcome.Answer.{Answer}
use Rattle.layout_model.specs.declared.outcome.Outcome.{Outcome}

abbrev children : Node → List Node
children node = (out-Node node).children

-- ---- which children are in flow is a matter of their kinds alone

module _ {A : Type 0} (f g : A → Kind) (same : (x : A) → f x ≡ g x) where
  shown_same : (laid : Kind) (xs : List A) → shown_by f laid xs ≡ shown_by g laid xs
  shown_same laid [] = refl
  shown_same laid (x ∷ xs) =
      ap (λ (k : Kind). cond (may_show laid k) (x ∷ shown_by f laid xs) (shown_by f laid xs)) (same x)
      ∙ ap (λ (rest : List A). cond (may_show laid (g x)) (x ∷ rest) rest) (shown_same laid xs)

  flow_same : (laid : Kind) (xs : List A) → flow_by f laid xs ≡ flow_by g laid xs
  unfolding flow_by
  flow_same laid xs =
      ap (λ (some : List A). cond (shows_none laid) [] (cond (shows_its_first laid) some (shown_by f laid xs))) (shown_same laid (take 1 xs))
      ∙ ap (λ (all : List A). cond (shows_none laid) [] (cond (shows_its_first laid) (shown_by g laid (take 1 xs)) all)) (shown_same laid xs)

-- ---- what a subtree says of itself

module _ (m : MetricsValue) where
  subtree_out : (node : Node) → subtree m node ≡ over m (out-Node node).head (map (subtree m) (children node))
  unfolding subtree
  subtree_out = fold_out-Node Subtree (λ layer. over m layer.head layer.children)

  head_is : (node : Node) → (subtree m node).head ≡ (out-Node node).head
  head_is node = ap (λ (s : Subtree). s.head) (subtree_out node)

  abbrev facts_in : Subtree → Facts
  facts_in s = s.facts

  abbrev HasFacts : Node → Type 0
  HasFacts node = facts_in (subtree m node) ≡ facts node

  all_facts : (nodes : List Node) → AllByRecursion HasFacts nodes → map facts_in (map (subtree m) nodes) ≡ map facts nodes
  all_facts [] h = refl
  all_facts (node ∷ nodes) h =
      ap (λ f. f ∷ map facts_in (map (subtree m) nodes)) h.0 ∙ ap (λ rest. facts node ∷ rest) (all_facts nodes h.1)

  pub facts_are : (node : Node) → HasFacts node
  facts_are = by_children HasFacts (λ node h.
      ap facts_in (subtree_out node) ∙ ap (facts_over (out-Node node).head) (all_facts (children node) h) ∙ sym (facts_out node))

  each_facts : (nodes : List Node) → AllByRecursion HasFacts nodes
  each_facts [] = tt
  each_facts (node ∷ nodes) = (facts_are node, each_facts nodes)

  -- the facts of a node over those of its subtrees
  facts_over_subtrees : (node : Node) → facts_over (out-Node node).head (map facts_in (map (subtree m) (children node))) ≡ facts node
  facts_over_subtrees node = ap (facts_over (out-Node node).head) (all_facts (children node) (each_facts (children node))) ∙ sym (facts_out node)

  kid_is : (node : Node) → shown_subtree (subtree m node) ≡ kid_of node
  kid_is node =
      ap (λ (h : Head). record { head = h; facts = (subtree m node).facts }) (head_is node)
      ∙ ap (λ (f : Facts). record { head = (out-Node node).head; facts = f }) (facts_are node)

  kids_are : (nodes : List Node) → map shown_subtree (map (subtree m) nodes) ≡ map kid_of nodes
  kids_are [] = refl
  kids_are (node ∷ nodes) =
      ap (λ k. k ∷ map shown_subtree (map (subtree m) nodes)) (kid_is node) ∙ ap (λ rest. kid_of node ∷ rest) (kids_are nodes)

  seen_is : (node : Node) → seen_over (out-Node node).head (facts node) (map shown_subtree (map (subtree m) (children node))) ≡ seen_of node
  unfolding seen_of
  seen_is node = ap (seen_over (out-Node node).head (facts node)) (kids_are (children node))

  -- ---- the subtrees in flow

  subtrees_from : (place : ℕ) (nodes : List Node) → map (λ (child : Child). subtree m child.node) (children_from place nodes) ≡ map (subtree m) nodes
  subtrees_from place [] = refl
  subtrees_from place (node ∷ nodes) = ap (λ rest. subtree m node ∷ rest) (subtrees_from (place + 1) nodes)

  map_twice : (kids : List Child) → map (subtree m) (map (λ child. child.node) kids) ≡ map (λ (child : Child). subtree m child.node) kids
  map_twice [] = refl
  map_twice (child ∷ kids) = ap (λ rest. subtree m child.node ∷ rest) (map_twice kids)

  flow_are : (node : Node) → flow_by laid_subtree (facts node).laid (map (subtree m) (children node)) ≡ map (subtree m) (flow_nodes node)
  unfolding flow_children
  flow_are node =
      let laid = (facts node).laid in
      let kids = children_from 0 (children node) in
      let f : Child → Subtree = λ child. subtree m child.node in
      ap (flow_by laid_subtree laid) (sym (subtrees_from 0 (children node)))
      ∙ sym (flow_map f laid_subtree laid kids)
      ∙ ap (map f) (flow_same (λ child. laid_subtree (f child)) laid_child (λ child. ap (λ (g : Facts). g.laid) (facts_are child.node)) laid kids)
      ∙ sym (map_twice (flow_children node))

  -- ---- the layout

  -- an element over subtrees in flow, of which its facts and what is seen of it are given
  abbrev laid_over : Seen → List Subtree → Context → Outcome
  laid_over seen flow context = lay_by m seen context (ask flow)

  layout_over : (node : Node) (own : Facts) (seen : Seen) (flow : List Subtree) (context : Context)
      → facts_over (out-Node node).head (map facts_in (map (subtree m) (children node))) ≡ own
      → seen_over (out-Node node).head own (map shown_subtree (map (subtree m) (children node))) ≡ seen
      → flow_by laid_subtree own.laid (map (subtree m) (children node)) ≡ flow
      → (over m (out-Node node).head (map (subtree m) (children node))).lay context ≡ laid_over seen flow context
  layout_over node own seen flow context f s w =
      let head = (out-Node node).head in
      let kids = map (subtree m) (children node) in
      ap (λ (given : Facts). laid_over (seen_over head given (map shown_subtree kids)) (flow_by laid_subtree given.laid kids) context) f
      ∙ ap (λ (shown : Seen). laid_over shown (flow_by laid_subtree own.laid kids) context) s
      ∙ ap (λ (asked : List Subtree). laid_over seen asked context) w

  abbrev visited_over : Node → Seen → List Subtree → Context → List Visit
  visited_over node seen flow context =
      record { id = (out-Node node).head.id; context = context; outcome = laid_over seen flow context }
      ∷ flat_map (visits_for flow) (questions m seen context (ask flow))

  visits_over : (node : Node) (own : Facts) (seen : Seen) (flow : List Subtree) (context : Context)
      → facts_over (out-Node node).head (map facts_in (map (subtree m) (children node))) ≡ own
      → seen_over (out-Node node).head own (map shown_subtree (map (subtree m) (children node))) ≡ seen
      → flow_by laid_subtree own.laid (map (subtree m) (children node)) ≡ flow
      → (over m (out-Node node).head (map (subtree m) (children node))).visits context ≡ visited_over node seen flow context
  visits_over node own seen flow context f s w =
      let head = (out-Node node).head in
      let kids = map (subtree m) (children node) in
      ap (λ (given : Facts). visited_over node (seen_over head given (map shown_subtree kids)) (flow_by laid_subtree given.laid kids) context) f
      ∙ ap (λ (shown : Seen). visited_over node shown (flow_by laid_subtree own.laid kids) context) s
      ∙ ap (λ (asked : List Subtree). visited_over node seen asked context) w

  -- ---- in terms of nodes

  answer_at : Context → Subtree → Answer
  answer_at context kid = (kid.lay context).answer

  asked_same : (node : Node) (question : Question) → ask (map (subtree m) (flow_nodes node)) question ≡ answer_of m node question
  unfolding answer_of lay
  asked_same node question =
      ap (λ (kid : Option Subtree). option_map_or (λ k. (k.lay question.context).answer) kid no_answer) (slice_get-map (subtree m) (flow_nodes node) question.kid)
      ∙ through (slice_get (flow_nodes node) question.kid)
    where
      through : (kid : Option Node) → option_map_or (λ (k : Subtree). (k.lay question.context).answer) (option_map (subtree m) kid) no_answer
          ≡ option_map_or (λ (k : Node). ((subtree m k).lay question.context).answer) kid no_answer
      through None = refl
      through (Some k) = refl

  visited_same : (node : Node) (question : Question) → visits_for (map (subtree m) (flow_nodes node)) question ≡ visits_below m node question
  unfolding visits_below visits
  visited_same node question =
      ap (λ (kid : Option Subtree). option_map_or (λ k. k.visits question.context) kid []) (slice_get-map (subtree m) (flow_nodes node) question.kid)
      ∙ through (slice_get (flow_nodes node) question.kid)
    where
      through : (kid : Option Node) → option_map_or (λ (k : Subtree). k.visits question.context) (option_map (subtree m) kid) []
          ≡ option_map_or (λ (k : Node). (subtree m k).visits question.context) kid []
      through None = refl
      through (Some k) = refl

  map_same : {A B : Type 0} (f g : A → B) → ((x : A) → f x ≡ g x) → (xs : List A) → map f xs ≡ map g xs
  map_same f g same [] = refl
  map_same f g same (x ∷ xs) = ap (λ y. y ∷ map f xs) (same x) ∙ ap (λ ys. g x ∷ ys) (map_same f g same xs)

  flat_map_same : {A B : Type 0} (f g : A → List B) → ((x : A) → f x ≡ g x) → (xs : List A) → flat_map f xs ≡ flat_map g xs
  flat_map_same f g same [] = refl
  flat_map_same f g same (x ∷ xs) = ap (λ y. y ++ flat_map f xs) (same x) ∙ ap (λ ys. g x ++ ys) (flat_map_same f g same xs)

  module _ (seen : Seen) (context : Context) (f g : Question → Answer) (same : (q : Question) → f q ≡ g q) where
    lay_by_same : lay_by m seen context f ≡ lay_by m seen context g
    unfolding lay_by
    lay_by_same =
        ap (λ one. equation m seen context one (map f (second m seen context one))) (map_same f g same (first m seen context))
        ∙ ap (λ two. equation m seen context (map g (first m seen context)) two) (map_same f g same (second m seen context (map g (first m seen context))))

    questions_same : questions m seen context f ≡ questions m seen context g
    unfolding questions
    questions_same = ap (λ one. first m seen context ++ second m seen context one) (map_same f g same (first m seen context))

  pub lay_is : (node : Node) (context : Context) → lay m node context ≡ lay_by m (seen_of node) context (answer_of m node)
  unfolding lay
  lay_is node context =
      ap (λ (s : Subtree). s.lay context) (subtree_out node)
      ∙ layout_over node (facts node) (seen_of node) (map (subtree m) (flow_nodes node)) context (facts_over_subtrees node) (seen_is node) (flow_are node)
      ∙ lay_by_same (seen_of node) context (ask (map (subtree m) (flow_nodes node))) (answer_of m node) (asked_same node)

  pub visits_are : (node : Node) (context : Context)
      → visits m node context ≡ record { id = (out-Node node).head.id; context = context; outcome = lay m node context }
      ∷ flat_map (visits_below m node) (questions m (seen_of node) context (answer_of m node))
  unfolding visits
  visits_are node context =
      let flow = map (subtree m) (flow_nodes node) in
      let own : lay_by m (seen_of node) context (ask flow) ≡ lay m node context =
      lay_by_same (seen_of node) context (ask flow) (answer_of m node) (asked_same node) ∙ sym (lay_is node context) in
      ap (λ (s : Subtree). s.visits context) (subtree_out node)
      ∙ visits_over node (facts node) (seen_of node) flow context (facts_over_subtrees node) (seen_is node) (flow_are node)
      ∙ ap (λ (o : Outcome). record { id = (out-Node node).head.id; context = context; outcome = o }
      ∷ flat_map (visits_for flow) (questions m (seen_of node) context (ask flow))) own
      ∙ ap (λ (asks : List Question). record { id = (out-Node node).head.id; context = context; outcome = lay m node context } ∷ flat_map (visits_for flow) asks)
      (questions_same (seen_of node) context (ask flow) (answer_of m node) (asked_same node))
      ∙ ap (λ (below : List Visit). record { id = (out-Node node).head.id; context = context; outcome = lay m node context } ∷ below)
      (flat_map_same (visits_for flow) (visits_below m node) (visited_same node) (questions m (seen_of node) context (answer_of m node)))

  -- ---- with all elements below

  abbrev made_of : Node → Outcome → List Laid → Laid
  made_of node made kids = roll-Laid record { head = (out-Node node).head; outcome = made; kids = kids }

  abbrev laid_from : Node → Seen → List Subtree → Context → Laid
  laid_from node seen flow context =
      made_of node (laid_over seen flow context) (somes (list_to (length flow) (laid_kid flow (questions m seen context (ask flow)))))

  all_laid_over : (node : Node) (own : Facts) (seen : Seen) (flow : List Subtree) (context : Context)
      → facts_over (out-Node node).head (map facts_in (map (subtree m) (children node))) ≡ own
      → seen_over (out-Node node).head own (map shown_subtree (map (subtree m) (children node))) ≡ seen
      → flow_by laid_subtree own.laid (map (subtree m) (children node)) ≡ flow
      → (over m (out-Node node).head (map (subtree m) (children node))).laid context ≡ laid_from node seen flow context
  all_laid_over node own seen flow context f s w =
      let head = (out-Node node).head in
      let kids = map (subtree m) (children node) in
      ap (λ (given : Facts). laid_from node (seen_over head given (map shown_subtree kids)) (flow_by laid_subtree given.laid kids) context) f
      ∙ ap (λ (shown : Seen). laid_from node shown (flow_by laid_subtree own.laid kids) context) s
      ∙ ap (λ (asked : List Subtree). laid_from node seen asked context) w

  -- lists over places that agree at each
  listed_same : {A : Type 0} (n : ℕ) (f g : ℕ → A) → ((i : ℕ) → f i ≡ g i) → list_to n f ≡ list_to n g
  unfolding list_to
  listed_same zero f g same = refl
  listed_same (suc n) f g same =
      ap (λ (xs : List _). xs ++ f n ∷ []) (listed_same n f g same) ∙ ap (λ x. list_to n g ++ x ∷ []) (same n)

  kid_laid : (node : Node) (asks : List Question) (place : ℕ) → laid_kid (map (subtree m) (flow_nodes node)) asks place ≡ laid_below m node asks place
  unfolding laid
  kid_laid node asks place =
      ap (λ (kid : Option Subtree). option_and_then (λ k. option_map k.laid (last_context asks place)) kid) (slice_get-map (subtree m) (flow_nodes node) place)
      ∙ through (slice_get (flow_nodes node) place)
    where
      through : (kid : Option Node) → option_and_then (λ (k : Subtree). option_map k.laid (last_context asks place)) (option_map (subtree m) kid)
          ≡ option_and_then (λ (k : Node). option_map (subtree m k).laid (last_context asks place)) kid
      through None = refl
      through (Some k) = refl

  kids_laid : (node : Node) (asks : List Question)
      → somes (list_to (length (map (subtree m) (flow_nodes node))) (laid_kid (map (subtree m) (flow_nodes node)) asks))
      ≡ somes (list_to (length (flow_nodes node)) (laid_below m node asks))
  kids_laid node asks =
      ap (λ (n : ℕ). somes (list_to n (laid_kid (map (subtree m) (flow_nodes node)) asks))) (length-map (flow_nodes node) (subtree m))
      ∙ ap (λ (kids : List (Option Laid)). somes kids) (listed_same (length (flow_nodes node)) _ _ (kid_laid node asks))

  pub laid_is : (node : Node) (context : Context)
      → laid m node context
      ≡ made_of node (lay m node context) (somes (list_to (length (flow_nodes node)) (laid_below m node (questions m (seen_of node) context (answer_of m node)))))
  unfolding laid
  laid_is node context =
      let flow = map (subtree m) (flow_nodes node) in
      let seen = seen_of node in
      let same = asked_same node in
      ap (λ (s : Subtree). s.laid context) (subtree_out node)
      ∙ all_laid_over node (facts node) seen flow context (facts_over_subtrees node) (seen_is node) (flow_are node)
      ∙ ap (λ (o : Outcome). made_of node o (somes (list_to (length flow) (laid_kid flow (questions m seen context (ask flow))))))
      (lay_by_same seen context (ask flow) (answer_of m node) same ∙ sym (lay_is node context))
      ∙ ap (λ (asks : List Question). made_of node (lay m node context) (somes (list_to (length flow) (laid_kid flow asks))))
      (questions_same seen context (ask flow) (answer_of m node) same)
      ∙ ap (λ (kids : List Laid). made_of node (lay m node context) kids)
      (kids_laid node (questions m seen context (answer_of m node)))

pub laid_law : LaidLaw
laid_law m node context = laid_is m node context

pub layout_law : LayoutLaw
layout_law m node context = lay_is m node context

pub visits_law : VisitsLaw
visits_law m node context = visits_are m node context
