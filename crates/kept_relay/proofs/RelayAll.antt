-- The call that has the children that an element asks answer, one after another: what holds of one
-- of the questions and the child to which it goes.
use Rattle.std.proofs.Common.{◌≡◌, refl, sym, subst, ℕ, ◌+◌, ◌<◌, ◌≤◌, arith, Bool, true, false, List, [], ◌∷◌, ◌++◌, length, get_or, map, take, All, Some, slice_get}
use Rattle.std.specs.List.{AllByRecursion}
use Rattle.font_metrics.specs.Metrics.{MetricsValue}
use Rattle.math_tree.specs.Trees.{element_count}
use Rattle.math_tree.specs.declared.node.Node.{Node}
use Rattle.math_tree.specs.declared.node.Node.TheViews.{size-Node}
use Rattle.embellished.specs.Seen.{HasChild, flow_children, seen_of}
use Rattle.layout_model.specs.Answers.{questions_in}
use Rattle.layout_model.specs.Laws.{answer_of}
use Rattle.layout_model.specs.Layout.{in_range, lay}
use Rattle.layout_model.specs.declared.context.Question.{Question}
use Rattle.layout_model.specs.declared.outcome.Answer.{Answer}
use Rattle.layout_model.specs.declared.reply.Reply.{Reply}
use Rattle.layout_model.proofs.Children.{among_all, child_of, few_below, in_flow, item_of, near, smaller}
use Rattle.layout_model.proofs.Replies.{asked_there}
use Rattle.layout_model.proofs.Waves.{all_fit, broken, fit_more}
use Rattle.outcome_cells.specs.Store.{Runs, StoreValue}
use Rattle.kept_results.specs.Backed.{Grows, IsBacked}
use Rattle.kept_results.specs.Contexts.{IsProper, Suits}
use Rattle.kept_results.specs.Kept.{Agrees, IsKept, Keeps, NamesKept}
use Rattle.kept_results.specs.Passes.{AnswersNeed, Needs, Passes}
use Rattle.kept_results.specs.declared.memo.Memo.{Memo}
use Rattle.kept_results.specs.declared.memo.Memo.TheViews.{out-Memo, roll-Memo}
use Rattle.kept_results.proofs.Agreement.{agrees_child, renewed}
use Rattle.kept_results.proofs.Backed.{backed_child, grows_both, grows_under}
use Rattle.kept_results.proofs.Passing.{passes_both, passes_under}
use Rattle.kept_results.proofs.Turns.{child_in_flow, kept_more, needed_below, suits_child, told_more}

-- one of the questions that the element asks, and the child to which it goes
pub record Goes (m : MetricsValue) (node : Node) (asks : List Question) (index : ℕ) (question : Question) (kid : Node) (place : ℕ) : Type 0 where
  pub within : index < length asks
  pub is : question ≡ get_or asks index question
  pub proper : IsProper m node question
  pub node_is : HasChild node question.kid (λ child. child.node ≡ kid)
  pub place_is : HasChild node question.kid (λ child. child.place ≡ place)

-- the question of a reply goes to a child in flow, as a view of the element shows them
module _ {m : MetricsValue} {shown node : Node} {asks : List Question} (replies : List Reply) (index : ℕ) {reply : Reply}
    (is : shown ≡ node) (proper : All (IsProper m node) asks) (same : questions_in replies ≡ asks) (at : slice_get replies index ≡ Some reply) where
  own_proper : IsProper m node reply.question
  own_proper =
      let there = asked_there asks replies index reply same at in
      item_of (IsProper m node) asks asks index reply.question proper refl there.0 there.1

  pub asked_near : reply.question.kid < length (seen_of shown).kids
  asked_near = subst (λ (n : Node). reply.question.kid < length (seen_of n).kids) (sym is) own_proper.within

  pub goes_there : {kid : Node} {place : ℕ} → HasChild shown reply.question.kid (λ child. child.node ≡ kid) → HasChild shown reply.question.kid (λ child. child.place ≡ place)
      → Goes m node asks index reply.question kid place
  goes_there {kid} {place} n p =
      let there = asked_there asks replies index reply same at in
      record {
        within = there.0;
        is = there.1;
        proper = own_proper;
        node_is = child_of shown node reply.question.kid (λ child. child.node ≡ kid) is n;
        place_is = child_of shown node reply.question.kid (λ child. child.place ≡ place) is p;
      }

module _ {m : MetricsValue} {node : Node} {asks : List Question} {index : ℕ} {question : Question} {kid : Node} {place : ℕ} (q : Goes m node asks index question kid place) where
  to : slice_get (flow_children node) question.kid ≡ Some record { place = place; node = kid }
  to = child_in_flow node kid question.kid place q.node_is q.place_is

  -- ---- the child is asked

  pub kid_smaller : size-Node kid < size-Node node
  kid_smaller = smaller node kid question.kid place q.node_is q.place_is

  pub kid_few : element_count node ≤ 65_536 → element_count kid ≤ 65_536
  kid_few few = let below = few_below node kid question.kid place q.node_is q.place_is in omega (arith, below, few)

  pub kid_suits : Suits m kid question.context
  kid_suits = suits_child node kid question.kid place q.node_is q.place_is m question refl q.proper

  pub kid_agrees : {memo old : Memo} → Agrees m node memo → slice_get (out-Memo memo).below place ≡ Some old → Agrees m kid old
  kid_agrees {memo} {old} agrees at = agrees_child m node memo place kid old agrees (among_all node kid question.kid place q.node_is q.place_is) at

  pub kid_backed : {runs : Runs} {memo old : Memo} → IsBacked m runs node memo → slice_get (out-Memo memo).below place ≡ Some old → IsBacked m runs kid old
  kid_backed {runs} {memo} {old} backed at = backed_child m runs node memo place kid old backed (among_all node kid question.kid place q.node_is q.place_is) at

  -- it is refused: so are all answers
  pub asks_unfit : in_range m kid question.context ≡ false → all_fit m node asks ≡ false
  asks_unfit bad = broken m node asks index question kid q.within q.is (in_flow node kid question.kid place q.node_is q.place_is) bad

  -- ---- a pass over it

  module _ {before memo old new : Memo} {from mid end : ℕ} {done : Bool} (pass : Passes m node (AnswersNeed m node asks) before memo from mid true)
      (at : slice_get (out-Memo memo).below place ≡ Some old) where
    pub pass_more : Passes m kid (Needs m kid question.context) old new mid end done
        → Passes m node (AnswersNeed m node asks) before (roll-Memo (renewed memo place new)) from end done
    pass_more below =
        passes_both m pass
        (passes_under m node memo place (AnswersNeed m node asks) pass.agrees (among_all node kid question.kid place q.node_is q.place_is) at
        (needed_below m node kid place asks index question q.within q.is to) below)

  pub grow_more : {before memo old new : Memo} {held middle holds : StoreValue} {from mid end : ℕ} {done : Bool} → Agrees m node memo → Grows m node before memo held middle from mid true
      → slice_get (out-Memo memo).below place ≡ Some old → Grows m kid old new middle holds mid end done
      → Grows m node before (roll-Memo (renewed memo place new)) held holds from end done
  grow_more {before} {memo} agrees grows at below =
      grows_both m grows (grows_under m node memo place agrees grows.backed (among_all node kid question.kid place q.node_is q.place_is) at below)

  -- ---- and it has answered

  pub told_next : {before after : List Answer} {answer : Answer} → before ≡ map (answer_of m node) (take index asks) → answer ≡ (lay m kid question.context).answer
      → after ≡ before ++ answer ∷ [] → after ≡ map (answer_of m node) (take (index + 1) asks)
  told_next {before} {after} {answer} told is pushed = told_more m node kid place asks index question q.within q.is to before after answer told is pushed

  pub fit_next : all_fit m node (take index asks) ≡ true → in_range m kid question.context ≡ true → all_fit m node (take (index + 1) asks) ≡ true
  fit_next before here = fit_more m node asks index question kid q.within q.is (in_flow node kid question.kid place q.node_is q.place_is) before here

  pub kept_next : (memo : Memo) {old new : Memo} → slice_get (out-Memo memo).below place ≡ Some old → Keeps old new
      → AllByRecursion (NamesKept node (out-Memo memo).below) (take index asks) → IsKept (out-Memo new) question.context
      → AllByRecursion (NamesKept node (out-Memo (roll-Memo (renewed memo place new))).below) (take (index + 1) asks)
  kept_next memo {old} {new} at keeps before here =
      kept_more m node kid place asks index question q.within q.is to memo old new at keeps before here

  pub memo_near : {memo : Memo} → Agrees m node memo → place < length (out-Memo memo).below
  memo_near {memo} agrees =
      let there = near node kid question.kid place q.node_is q.place_is in
      let many = (agrees.at [] node memo (refl, refl)).as_many in
      omega (arith, there, many)
