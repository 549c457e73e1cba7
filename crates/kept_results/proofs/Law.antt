-- Closed entries keep the layouts of their elements.
use Rattle.std.proofs.Common.{◌≡◌, ◌∙◌, refl, sym, ap, subst, ℕ, arith, List, [], ◌∷◌, ◌++◌, map, Some, slice_get}
use Rattle.std.proofs.lemmas.List.Elements.{All-from_recursion, Contains-append_left, Contains-append_right}
use Rattle.std.proofs.lemmas.Option.{get_or_from_slice_get, slice_get_within}
use Rattle.std.specs.List.{AllByRecursion, AllZip, Contains}
use Rattle.font_metrics.specs.Metrics.{MetricsValue}
use Rattle.math_tree.specs.declared.node.Node.{Node}
use Rattle.math_tree.specs.declared.node.Node.TheViews.{out-Node}
use Rattle.math_tree.proofs.Nodes.{by_children}
use Rattle.embellished.specs.Seen.{Child, flow_children}
use Rattle.embellished.proofs.InFlow.{among}
use Rattle.layout_model.specs.Answers.{questions_in}
use Rattle.layout_model.specs.Laws.{answer_of}
use Rattle.layout_model.specs.Layout.{lay}
use Rattle.layout_model.specs.declared.context.Context.{Context}
use Rattle.layout_model.specs.declared.context.Question.{Question}
use Rattle.layout_model.specs.declared.outcome.Answer.{Answer}
use Rattle.layout_model.specs.declared.outcome.Outcome.{Outcome}
use Rattle.layout_model.proofs.Made.{answer_of_child}
use Rattle.layout_model.proofs.Whole.{lay_waves}
use Rattle.kept_results.specs.Closed.{ClosedLaw, IsClosed, IsReached, NamesAnswer}
use Rattle.outcome_cells.specs.Store.{HasOutcome, Runs}
use Rattle.outcome_cells.proofs.Found.{one_for_run}
use Rattle.kept_results.specs.declared.memo.Entry.{Entry}
use Rattle.kept_results.specs.declared.memo.Memo.{Memo}
use Rattle.kept_results.specs.declared.memo.Memo.TheViews.{out-Memo}

first_in : {X : Type 0} (x : X) (xs : List X) → Contains (x ∷ xs) x
first_in x xs = (0, omega arith, refl)

later_in : {X : Type 0} (x : X) (xs : List X) (y : X) → Contains xs y → Contains (x ∷ xs) y
later_in x xs y c = Contains-append_right (x ∷ []) xs y c

module _ (m : MetricsValue) (runs : Runs) where
  abbrev AllClosed : Node → Memo → Entry → Type 0
  AllClosed node memo entry = (path : List ℕ) (element : Node) (kept : Memo) (other : Entry) → IsReached path node memo entry element kept other → IsClosed m runs element (out-Memo kept).below other

  abbrev KeepsLayouts : Node → Type 0
  KeepsLayouts node = (memo : Memo) (entry : Entry) → AllClosed node memo entry → HasOutcome runs entry.run.0 (lay m node entry.context)

  module _ (node : Node) (below : AllByRecursion KeepsLayouts (out-Node node).children) where
    of_child : (child : Child) (index : ℕ) → slice_get (flow_children node) index ≡ Some child → KeepsLayouts child.node
    of_child child index at =
        let place = among node index child at in
        let nodes = (out-Node node).children in
        subst KeepsLayouts (get_or_from_slice_get nodes child.place child.node child.node place)
        (All-from_recursion KeepsLayouts nodes below child.place child.node (slice_get_within nodes child.place child.node place))

    module _ (memo : Memo) (entry : Entry) (closed : AllClosed node memo entry) where
      -- the answer of a question is that of the child's layout
      answer_is : (question : Question) (answer : Answer) → Contains (questions_in entry.one ++ questions_in entry.two) question → NamesAnswer runs node (out-Memo memo).below question answer
          → answer ≡ answer_of m node question
      answer_is question answer asked h =
          let next = of_child h.child question.kid h.names.to h.memo h.entry
          (λ path element kept other reached. closed (h.child.place ∷ path) element kept other (question, h.child, h.memo, h.entry, asked, h.names, refl, reached)) in
          let same : h.outcome ≡ lay m h.child.node h.entry.context = one_for_run runs h.entry.run.0 h.outcome (lay m h.child.node h.entry.context) h.stores next in
          sym h.answers ∙ ap (λ (o : Outcome). o.answer) same
          ∙ ap (λ (c : Context). (lay m h.child.node c).answer) h.names.in_context
          ∙ sym (answer_of_child m node question h.child h.names.to)

      answers_are : (asks : List Question) (answers : List Answer) → ((question : Question) → Contains asks question → Contains (questions_in entry.one ++ questions_in entry.two) question)
          → AllZip (NamesAnswer runs node (out-Memo memo).below) asks answers → answers ≡ map (answer_of m node) asks
      answers_are [] [] within h = refl
      answers_are [] (answer ∷ answers) within h = absurd h
      answers_are (question ∷ asks) [] within h = absurd h
      answers_are (question ∷ asks) (answer ∷ answers) within h =
          ap (λ (a : Answer). a ∷ answers) (answer_is question answer (within question (first_in question asks)) h.0)
          ∙ ap (λ (rest : List Answer). answer_of m node question ∷ rest)
          (answers_are asks answers (λ q c. within q (later_in question asks q c)) h.1)

      keeps_layout : HasOutcome runs entry.run.0 (lay m node entry.context)
      keeps_layout =
          let own = closed [] node memo entry (refl, refl, refl) in
          let ones = answers_are (questions_in entry.one) own.one (λ q c. Contains-append_left (questions_in entry.one) (questions_in entry.two) q c) own.one_named in
          let twos = answers_are (questions_in entry.two) own.two (λ q c. Contains-append_right (questions_in entry.one) (questions_in entry.two) q c) own.two_named in
          subst (HasOutcome runs entry.run.0) (lay_waves m node node entry.context refl (questions_in entry.one) own.ones own.one ones (questions_in entry.two) own.twos own.two twos) own.stores

  all_keep : (node : Node) → KeepsLayouts node
  all_keep = by_children KeepsLayouts keeps_layout

pub closed_law : ClosedLaw
closed_law m runs node memo entry closed = all_keep m runs node memo entry closed
