-- The font sizes of children: they are in range where those of all questions are.
use Rattle.std.proofs.Common.{◌≡◌, ◌∙◌, refl, ap, sym, ℕ, zero, suc, ◌+◌, ◌<◌, ◌≤◌, ◌==◌, arith, Bool, true, false, cond, List, [], ◌∷◌, length, All}
use Rattle.std.proofs.lemmas.Bool.Decides.{nat_tests}
use Rattle.std.proofs.lemmas.List.Elements.{All-append, All-cons, All-head, All-nil, All-tail}
use Rattle.fixed_units.specs.Sums.{list_to}
use Rattle.font_metrics.specs.Metrics.{MetricsValue}
use Rattle.math_tree.specs.declared.node.Node.{Node}
use Rattle.embellished.specs.Seen.{Seen, seen_of}
use Rattle.row_stretch.specs.declared.parts.Ask.{Ask}
use Rattle.style_scope.specs.Sizes.{size_of}
use Rattle.layout_model.specs.Contexts.{kid_context, kid_style}
use Rattle.layout_model.specs.Fits.{HasFont}
use Rattle.layout_model.specs.Questions.{asked, asked_all, asking, first, row_asked, second, second_as}
use Rattle.layout_model.specs.Range.{is_font_size}
use Rattle.layout_model.specs.Waves.{both_waves, times_asked}
use Rattle.layout_model.specs.declared.asking.Asking.{Asking}
use Rattle.layout_model.specs.declared.asking.Asking.TheVariants.{Nothing, Plainly, ForTheBase, AsRow, AsLimits, AsTable}
use Rattle.layout_model.specs.declared.context.Context.{Context}
use Rattle.layout_model.specs.declared.context.Question.{Question}
use Rattle.layout_model.specs.declared.outcome.Answer.{Answer}
use Rattle.layout_model.proofs.AllAsked.{all_asked}
use Rattle.layout_model.proofs.Counted.{counted_one}

-- ---- a question has the style of the child that it goes to

abbrev InPlace : MetricsValue → Seen → Context → Question → Type 0
InPlace m seen context question = question.context.style ≡ kid_style m seen context.style question.kid

each_listed : {A : Type 0} (P : A → Type 0) (n : ℕ) (f : ℕ → A) → ((i : ℕ) → P (f i)) → All P (list_to n f)
unfolding list_to
each_listed P zero f h = All-nil P
each_listed P (suc n) f h = All-append P (list_to n f) (f n ∷ []) (each_listed P n f h) (All-cons P (f n) [] (h n) (All-nil P))

module _ (m : MetricsValue) (seen : Seen) (context : Context) where
  asked_in : (asks : List Ask) → All (InPlace m seen context) (asked_all m seen context asks)
  unfolding kid_context
  asked_in [] = All-nil (InPlace m seen context)
  asked_in (ask ∷ asks) =
      All-cons (InPlace m seen context) (asked m seen context ask) (asked_all m seen context asks) refl (asked_in asks)

  row_in : (rows : List Answer) (index : ℕ) → InPlace m seen context (row_asked m seen context rows index)
  unfolding kid_context
  row_in rows index = refl

  second_in : (how : Asking) (rows : List Answer) → All (InPlace m seen context) (second_as how m seen context rows)
  second_in AsTable rows = each_listed (InPlace m seen context) (length seen.kids) (row_asked m seen context rows) (row_in rows)
  second_in Nothing rows = asked_in _
  second_in Plainly rows = asked_in _
  second_in ForTheBase rows = asked_in _
  second_in AsRow rows = asked_in _
  second_in AsLimits rows = asked_in _

  pub both_in : (one : List Answer) → All (InPlace m seen context) (both_waves m seen context one)
  unfolding first second
  both_in one =
      All-append (InPlace m seen context) (first m seen context) (second m seen context one) (asked_in _)
      (second_in (asking m seen context) one)

-- ---- a question that goes to a child

record GoesTo (kid : ℕ) (P : Question → Type 0) : Type 0 where
  question : Question
  to : question.kid ≡ kid
  holds : P question

-- the first of the questions, or one behind it
first_goes : (P : Question → Type 0) (kid : ℕ) (question : Question) (asks : List Question) → 1 ≤ times_asked kid (question ∷ asks)
    → All P (question ∷ asks) → (1 ≤ times_asked kid asks → GoesTo kid P) → GoesTo kid P
first_goes P kid question asks some all more =
    by (question.kid == kid) refl (counted_one (λ (q : Question). q.kid == kid) question asks)
  where
    by : (b : Bool) → (question.kid == kid) ≡ b
        → times_asked kid (question ∷ asks) ≡ cond (question.kid == kid) 1 0 + times_asked kid asks → GoesTo kid P
    by true e count = record { question = question; to = grind (arith, nat_tests); holds = All-head P question asks all }
    by false e count =
        let none = ap (λ (b : Bool). cond b 1 0 + times_asked kid asks) e in
        more (omega (arith, some, count, none))

one_goes : (P : Question → Type 0) (kid : ℕ) (asks : List Question) → 1 ≤ times_asked kid asks → All P asks → GoesTo kid P
one_goes P kid [] some all = absurd (let none : ⊥ = omega (arith, some) in none)
one_goes P kid (question ∷ asks) some all =
    first_goes P kid question asks some all (λ rest. one_goes P kid asks rest (All-tail P question asks all))

-- each child's font size is in range where all that is asked has one that is
pub kid_font : (m : MetricsValue) (node : Node) (context : Context) (one : List Answer)
    → All (HasFont m) (both_waves m (seen_of node) context one) → (index : ℕ) → index < length (seen_of node).kids
    → is_font_size (size_of m (kid_style m (seen_of node) context.style index)) ≡ true
kid_font m node context one fonts index l =
    let seen = seen_of node in
    let asks = both_waves m seen context one in
    let both : All (λ (q : Question). HasFont m q × InPlace m seen context q) asks = λ i d below. (fonts i d below, both_in m seen context one i d below) in
    let to = one_goes (λ (q : Question). HasFont m q × InPlace m seen context q) index asks (all_asked m node context one index l) both in
    ap (λ style. is_font_size (size_of m style))
    (ap (λ (kid : ℕ). kid_style m seen context.style kid) (sym to.to) ∙ sym to.holds.1)
    ∙ to.holds.0
