-- Each child in flow is asked, so that a laid-out element has them all.
use Rattle.std.proofs.Common.{◌≡◌, ◌∙◌, refl, sym, ap, subst, ℕ, zero, suc, ◌+◌, ◌<◌, ◌≤◌, ◌==◌, arith, Bool, true, false, cond, nat_eq, List, [], ◌∷◌, ◌++◌, length, map, filter, get_or, Option, Some, pos, slice_get}
use Rattle.std.specs.Prelude.{unwrap_or}
use Rattle.std.proofs.lemmas.List.Sums.{AllPass-from_list_all, length-filter, sum_by-append}
use Rattle.std.proofs.lemmas.Option.{slice_get_within}
use Rattle.std.specs.List.{list_all}
use Rattle.std.specs.Option.{option_and_then, option_map}
use Rattle.fixed_units.specs.Sums.{list_to}
use Rattle.fixed_units.specs.declared.boxes.MathBox.{MathBox}
use Rattle.fixed_units.specs.declared.pull.Pull.{Pull}
use Rattle.fixed_units.specs.declared.pull.Pull.TheVariants.{Free, Block, Inline}
use Rattle.font_metrics.specs.Metrics.{MetricsValue}
use Rattle.math_tree.specs.declared.node.Head.{Head}
use Rattle.math_tree.specs.declared.node.Node.{Node}
use Rattle.math_tree.specs.declared.node.Node.TheViews.{out-Node}
use Rattle.op_dictionary.specs.declared.operator.Axis.{Axis}
use Rattle.op_dictionary.specs.declared.operator.Axis.TheVariants.{Block as Upwards, Inline as Along}
use Rattle.embellished.specs.Seen.{Kid, Seen, flow_nodes, seen_of}
use Rattle.row_stretch.specs.Laws.{asked as times}
use Rattle.row_stretch.specs.Questions.{asks_from, first_of_two, planned, second_of_two, stretches, target_of}
use Rattle.row_stretch.specs.declared.parts.KidPull.{KidPull}
use Rattle.row_stretch.proofs.Counts.{asked_once, counted, either_asks, no_kid, questions as counted_asks, under_asks}
use Rattle.scripts.specs.Questions.{widest_of}
use Rattle.layout_model.specs.Answers.{last_some}
use Rattle.layout_model.specs.Contexts.{pull_of}
use Rattle.layout_model.specs.Laid.{LaidKidsLaw}
use Rattle.layout_model.specs.Laws.{answer_of, laid_below}
use Rattle.layout_model.specs.Layout.{laid, last_context, lay, questions, somes}
use Rattle.layout_model.specs.Questions.{asked_all, asking, first, first_asks, kid_pulls, second_as, second_asks, unstretched}
use Rattle.layout_model.specs.Waves.{AskedLaw, times_asked}
use Rattle.layout_model.specs.declared.asking.Asking.{Asking}
use Rattle.layout_model.specs.declared.asking.Asking.TheVariants.{Nothing, Plainly, ForTheBase, AsRow, AsLimits, AsTable}
use Rattle.layout_model.specs.declared.context.Context.{Context}
use Rattle.layout_model.specs.declared.context.Question.{Question}
use Rattle.layout_model.specs.declared.laid.Laid.{Laid}
use Rattle.layout_model.specs.declared.laid.Laid.TheOpen.{Laid-F}
use Rattle.layout_model.specs.declared.laid.Laid.TheViews.{out-Laid, out-roll-Laid}
use Rattle.layout_model.specs.declared.outcome.Answer.{Answer}
use Rattle.layout_model.proofs.Asked.{first_plan, plan_is}
use Rattle.layout_model.proofs.Counted.{asked_by, base_once, both_are, both_by, frames, limits_once, nothing_in_flow, plainly_once, times_all}
use Rattle.layout_model.proofs.LaidTrees.{last_behind}
use Rattle.layout_model.proofs.Offsets.{as_many_in_flow}
use Rattle.layout_model.proofs.Places.{as_many_pulls}
use Rattle.layout_model.proofs.Trees.{laid_is}

-- ---- asks

stretching_asks : (axis : Axis) (pull : Pull) (kid : KidPull) → stretches axis kid ≡ true → counted_asks (planned (second_of_two axis pull) kid) ≡ 1
unfolding counted_asks planned
stretching_asks axis pull kid e = rw e refl

-- of two waves, one at the least asks it
in_two_waves : (axis : Axis) (least pull : Pull) (kids : List KidPull) (kid : ℕ) → kid < length kids
    → 1 ≤ times kid (asks_from 0 (first_of_two kids axis least) kids) + times kid (asks_from 0 (second_of_two axis pull) kids)
in_two_waves axis least pull kids kid l = by (list_all (stretches axis) kids) refl
  where
    by : (b : Bool) → list_all (stretches axis) kids ≡ b
        → 1 ≤ times kid (asks_from 0 (first_of_two kids axis least) kids) + times kid (asks_from 0 (second_of_two axis pull) kids)
    by true e =
        let all = AllPass-from_list_all (stretches axis) kids e kid no_kid l in
        omega (arith, counted (second_of_two axis pull) kids kid l, stretching_asks axis pull (get_or kids kid no_kid) all)
    by false e =
        let plain = ap (λ plan. times kid (asks_from 0 plan kids)) (plan_is axis least kids false e) in
        omega (
          arith,
          plain,
          counted (first_plan axis least false) kids kid l,
          counted (second_of_two axis pull) kids kid l,
          either_asks axis pull (get_or kids kid no_kid),
        )

abbrev IsInEither : Asking → List KidPull → Pull → List MathBox → ℕ → Type 0
IsInEither how kids own frames kid = 1 ≤ times kid (first_asks how kids own) + times kid (second_asks how kids own frames)

in_row : (kids : List KidPull) (own : Pull) (frames : List MathBox) (kid : ℕ) → kid < length kids → IsInEither AsRow kids own frames kid
unfolding first_asks second_asks
in_row kids Free frames kid l = in_two_waves Upwards (Block (pos 0) (pos 0)) (target_of frames) kids kid l
in_row kids (Block ascent descent) frames kid l = omega (arith, asked_once kids (Block ascent descent) frames kid l tt)
in_row kids (Inline width) frames kid l = omega (arith, asked_once kids (Inline width) frames kid l tt)

in_limits : (kids : List KidPull) (own : Pull) (frames : List MathBox) (kid : ℕ) → kid < length kids → IsInEither AsLimits kids own frames kid
unfolding first_asks second_asks
in_limits kids Free frames kid l = in_two_waves Along (Inline (pos 0)) (Inline (widest_of frames)) kids kid l
in_limits kids (Block ascent descent) frames kid l = let one = limits_once kids (Block ascent descent) frames kid l tt in omega (arith, one)
in_limits kids (Inline width) frames kid l = let one = limits_once kids (Inline width) frames kid l tt in omega (arith, one)

in_table : (kids : List KidPull) (own : Pull) (kid : ℕ) → kid < length kids → times kid (first_asks AsTable kids own) ≡ 1
unfolding first_asks
in_table kids own kid l = counted unstretched kids kid l ∙ under_asks Upwards Free (get_or kids kid no_kid)

-- ---- questions

module _ (m : MetricsValue) (seen : Seen) (context : Context) (rows : List Answer) (kid : ℕ) (l : kid < length seen.kids) where
  within : kid < length (kid_pulls m seen context)
  within = omega (arith, l, as_many_pulls m seen context)

  asked_as_one : (how : Asking) → (how ≡ Nothing → ⊥) → 1 ≤ times_asked kid (asked_by m seen context rows how)
  asked_as_one Nothing none = absurd (none refl)
  asked_as_one Plainly none =
      let one = both_are m seen context rows Plainly kid ∙ plainly_once (kid_pulls m seen context) (pull_of context.stretch) (frames m seen context rows) kid within in
      omega (arith, one)
  asked_as_one ForTheBase none =
      let one = both_are m seen context rows ForTheBase kid ∙ base_once (kid_pulls m seen context) (pull_of context.stretch) (frames m seen context rows) kid within in
      omega (arith, one)
  asked_as_one AsRow none =
      omega (arith, both_are m seen context rows AsRow kid, in_row (kid_pulls m seen context) (pull_of context.stretch) (frames m seen context rows) kid within)
  asked_as_one AsLimits none =
      omega (arith, both_are m seen context rows AsLimits kid, in_limits (kid_pulls m seen context) (pull_of context.stretch) (frames m seen context rows) kid within)
  asked_as_one AsTable none =
      let ones = first_asks AsTable (kid_pulls m seen context) (pull_of context.stretch) in
      omega (
        arith,
        sum_by-append (λ (question : Question). cond (question.kid == kid) 1 0) (asked_all m seen context ones) (second_as AsTable m seen context rows),
        times_all m seen context kid ones,
        in_table (kid_pulls m seen context) (pull_of context.stretch) kid within,
      )

pub all_asked : AskedLaw
all_asked m node context one kid l =
    let seen = seen_of node in
    subst (λ (asks : List Question). 1 ≤ times_asked kid asks) (sym (both_by m seen context one))
    (asked_as_one m seen context one kid l (asking m seen context)
    (λ none. omega (arith, l, ap (λ (kids : List Kid). length kids) (nothing_in_flow m node context none))))

-- ---- the children that are laid out

-- there is a last one where there is any
last_of_some : {A B : Type 0} (f : A → B) (xs : List A) → 1 ≤ length xs → (y : B) × (last_some (map f xs) ≡ Some y)
last_of_some f [] l = absurd (omega (arith, l))
last_of_some f (x ∷ xs) l = (unwrap_or (last_some (map f xs)) (f x), last_behind (f x) (map f xs))

has_context : (asks : List Question) (kid : ℕ) → 1 ≤ times_asked kid asks → (context : Context) × (last_context asks kid ≡ Some context)
has_context asks kid l =
    last_of_some (λ (question : Question). question.context) (filter (λ (question : Question). nat_eq question.kid kid) asks)
    (omega (arith, l, length-filter (λ (question : Question). nat_eq question.kid kid) asks))

-- a list over places, from its first place on
from_first : {A : Type 0} (n : ℕ) (f : ℕ → A) → list_to (suc n) f ≡ f 0 ∷ list_to n (λ i. f (suc i))
unfolding list_to
from_first zero f = refl
from_first (suc n) f = ap (λ (front : List _). front ++ f (suc n) ∷ []) (from_first n f)

-- what there is at each place of a list, in order
all_there : {A B C : Type 0} (g : B → C) (h : A → C) (xs : List A) (f : ℕ → Option B)
    → ((i : ℕ) (x : A) → slice_get xs i ≡ Some x → (y : B) × (f i ≡ Some y) × (g y ≡ h x))
    → map g (somes (list_to (length xs) f)) ≡ map h xs
unfolding list_to
all_there g h [] f each = refl
all_there g h (x ∷ xs) f each =
    let here = each 0 x refl in
    ap (λ (options : List (Option _)). map g (somes options)) (from_first (length xs) f)
    ∙ ap (λ (option : Option _). map g (somes (option ∷ list_to (length xs) (λ i. f (suc i))))) here.1
    ∙ ap (λ (y : _). y ∷ map g (somes (list_to (length xs) (λ i. f (suc i))))) here.2
    ∙ ap (λ (ys : List _). h x ∷ ys) (all_there g h xs (λ i. f (suc i)) (λ i y at. each (suc i) y at))

abbrev head_of : Laid → Head
head_of laid = (out-Laid laid).head

module _ (m : MetricsValue) where
  laid_head : (node : Node) (context : Context) → head_of (laid m node context) ≡ (out-Node node).head
  laid_head node context =
      let below = somes (list_to (length (flow_nodes node)) (laid_below m node (questions m (seen_of node) context (answer_of m node)))) in
      let made : Laid-F Laid = record { head = (out-Node node).head; outcome = lay m node context; kids = below } in
      ap head_of (laid_is m node context) ∙ ap (λ (l : Laid-F Laid). l.head) (out-roll-Laid made)

  kid_is_there : (node : Node) (context : Context) (i : ℕ) (kid : Node) → slice_get (flow_nodes node) i ≡ Some kid
      → (there : Laid) × (laid_below m node (questions m (seen_of node) context (answer_of m node)) i ≡ Some there) × (head_of there ≡ (out-Node kid).head)
  unfolding questions
  kid_is_there node context i kid at =
      let seen = seen_of node in
      let asks = questions m seen context (answer_of m node) in
      let l = slice_get_within (flow_nodes node) i kid at in
      let last = has_context asks i (all_asked m node context (map (answer_of m node) (first m seen context)) i (omega (arith, l, as_many_in_flow node))) in (
        laid m kid last.0,
        ap (λ (found : Option Node). option_and_then (λ k. option_map (laid m k) (last_context asks i)) found) at ∙ ap (option_map (laid m kid)) last.1,
        laid_head kid last.0,
      )

pub laid_kids : LaidKidsLaw
laid_kids m node context =
    let slots = laid_below m node (questions m (seen_of node) context (answer_of m node)) in
    let made : Laid-F Laid = record { head = (out-Node node).head; outcome = lay m node context; kids = somes (list_to (length (flow_nodes node)) slots) } in
    ap (λ (l : Laid). map head_of (out-Laid l).kids) (laid_is m node context)
    ∙ ap (λ (l : Laid-F Laid). map head_of l.kids) (out-roll-Laid made)
    ∙ all_there head_of (λ (kid : Node). (out-Node kid).head) (flow_nodes node) slots (kid_is_there m node context)
