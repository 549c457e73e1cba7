-- An element over both waves: its layout, and what is made for it.
use Rattle.std.proofs.Common.{◌≡◌, ◌∙◌, refl, sym, ap, subst, ℕ, ◌+◌, ◌≤◌, arith, Bool, true, false, ◌&&◌, List, [], ◌++◌, length, map, All}
use Rattle.std.proofs.lemmas.Grind.{flat_map-append}
use Rattle.std.proofs.lemmas.List.{length-append, length-map}
use Rattle.std.proofs.lemmas.List.Elements.{All-append}
use Rattle.std.proofs.lemmas.List.Folds.{list_all-append}
use Rattle.std.specs.List.{flat_map, list_all}
use Rattle.font_metrics.specs.Metrics.{MetricsValue}
use Rattle.math_tree.specs.declared.node.Node.{Node}
use Rattle.embellished.specs.Seen.{seen_of}
use Rattle.style_scope.specs.Sizes.{size_of}
use Rattle.layout_model.specs.Fits.{AnswersAll, AreAnswers, HasFont, IsStretch}
use Rattle.layout_model.specs.Laws.{answer_of, visits_below}
use Rattle.layout_model.specs.Layout.{equation, in_range, lay, lay_by, questions, visit_fits, visits}
use Rattle.layout_model.specs.Questions.{IsBelow, first, second}
use Rattle.layout_model.specs.Range.{is_font_size, outcome_fits}
use Rattle.layout_model.specs.declared.context.Context.{Context}
use Rattle.layout_model.specs.declared.context.Question.{Question}
use Rattle.layout_model.specs.declared.outcome.Answer.{Answer}
use Rattle.layout_model.proofs.Asked.{IsQuestionStored, first_stored, second_stored}
use Rattle.layout_model.proofs.Places.{first_below, second_below}
use Rattle.layout_model.proofs.Trees.{lay_is, visits_are}
use Rattle.layout_model.specs.Waves.{times_asked}
use Rattle.layout_model.proofs.Counted.{each_wave}
use Rattle.layout_model.proofs.Fits.{range_is}
use Rattle.layout_model.proofs.Together.{AreApart}
use Rattle.layout_model.proofs.Waves.{all_fit, count_below}

module _ (m : MetricsValue) (node shown : Node) (context : Context) (e : shown ≡ node) (ones : List Question) (o : ones ≡ first m (seen_of shown) context) where
  ones_are : ones ≡ first m (seen_of node) context
  ones_are = o ∙ ap (λ (n : Node). first m (seen_of n) context) e

  pub ones_below : All (IsBelow (length (seen_of node).kids)) ones
  ones_below = subst (All (IsBelow (length (seen_of node).kids))) (sym ones_are) (first_below m (seen_of node) context)

  ones_once : (kid : ℕ) → times_asked kid ones ≤ 1
  ones_once kid =
      subst (λ (asks : List Question). times_asked kid asks ≤ 1) (sym ones_are) (each_wave m (seen_of node) context [] kid).0

  pub ones_apart : AreApart (length (seen_of node).kids) ones
  ones_apart = record { below = ones_below; once = ones_once }

  pub ones_stored : IsStretch context.stretch → All IsQuestionStored ones
  ones_stored h = subst (All IsQuestionStored) (sym ones_are) (first_stored m (seen_of node) context h)

  abbrev own_fits : Bool
  own_fits = is_font_size (size_of m context.style) && outcome_fits (lay m node context)

  module _ (one : List Answer) (a : one ≡ map (answer_of m node) ones) (twos : List Question) (t : twos ≡ second m (seen_of shown) context one) where
    one_is : one ≡ map (answer_of m node) (first m (seen_of node) context)
    one_is = a ∙ ap (map (answer_of m node)) ones_are

    twos_are : twos ≡ second m (seen_of node) context (map (answer_of m node) (first m (seen_of node) context))
    twos_are = t ∙ ap (λ (n : Node). second m (seen_of n) context one) e ∙ ap (second m (seen_of node) context) one_is

    pub twos_below : All (IsBelow (length (seen_of node).kids)) twos
    twos_below = subst (All (IsBelow (length (seen_of node).kids))) (sym (t ∙ ap (λ (n : Node). second m (seen_of n) context one) e)) (second_below m (seen_of node) context one)

    twos_once : (kid : ℕ) → times_asked kid twos ≤ 1
    twos_once kid =
        subst (λ (asks : List Question). times_asked kid asks ≤ 1) (sym (t ∙ ap (λ (n : Node). second m (seen_of n) context one) e))
        (each_wave m (seen_of node) context one kid).1

    pub twos_apart : AreApart (length (seen_of node).kids) twos
    twos_apart = record { below = twos_below; once = twos_once }

    pub twos_stored : AreAnswers one → All IsQuestionStored twos
    twos_stored h = subst (All IsQuestionStored) (sym (t ∙ ap (λ (n : Node). second m (seen_of n) context one) e)) (second_stored m (seen_of node) context one h)

    pub questions_are : questions m (seen_of node) context (answer_of m node) ≡ ones ++ twos
    unfolding questions
    questions_are =
        ap (λ (asks : List Question). asks ++ second m (seen_of node) context (map (answer_of m node) (first m (seen_of node) context))) (sym ones_are)
        ∙ ap (λ (asks : List Question). ones ++ asks) (sym twos_are)

    pub range_waves : in_range m node context ≡ (own_fits && (all_fit m node ones && all_fit m node twos))
    range_waves =
        range_is m node context
        ∙ ap (λ (asks : List Question). own_fits && all_fit m node asks) questions_are
        ∙ ap (λ (made : List _). own_fits && list_all (visit_fits m) made) (flat_map-append (visits_below m node) ones twos)
        ∙ ap (λ (b : Bool). own_fits && b) (list_all-append (visit_fits m) (flat_map (visits_below m node) ones) (flat_map (visits_below m node) twos))

    -- its own layout is made, and those for both waves
    pub visits_waves : length (visits m node context) ≡ 1 + count_below m node ones + count_below m node twos
    visits_waves =
        let f = visits_below m node in
        let own = ap length (visits_are m node context) in
        let asked = ap (count_below m node) questions_are in
        let both : count_below m node (ones ++ twos) ≡ count_below m node ones + count_below m node twos =
        ap length (flat_map-append f ones twos) ∙ length-append (flat_map f ones) (flat_map f twos) in
        omega (arith, own, asked, both)

    module _ (two : List Answer) (b : two ≡ map (answer_of m node) twos) where
      pub lay_waves : equation m (seen_of shown) context one two ≡ lay m node context
      unfolding lay_by
      lay_waves =
          ap (λ (n : Node). equation m (seen_of n) context one two) e
          ∙ ap (λ (answers : List Answer). equation m (seen_of node) context answers two) one_is
          ∙ ap (equation m (seen_of node) context (map (answer_of m node) (first m (seen_of node) context))) (b ∙ ap (map (answer_of m node)) twos_are)
          ∙ sym (lay_is m node context)

      pub answers_all : AreAnswers one → AreAnswers two → All (HasFont m) ones → All (HasFont m) twos
          → AnswersAll m (seen_of shown) context one two
      answers_all h k f g = record {
        ones = ap length a ∙ length-map ones (answer_of m node) ∙ ap length o;
        twos = ap length b ∙ length-map twos (answer_of m node) ∙ ap length t;
        one_fits = h;
        two_fits = k;
        fonts =
            All-append (HasFont m) (first m (seen_of shown) context) (second m (seen_of shown) context one)
            (subst (All (HasFont m)) o f) (subst (All (HasFont m)) t g);
      }

all_true : (a b c : Bool) → a ≡ true → b ≡ true → c ≡ true → (a && (b && c)) ≡ true
all_true a b c h k l = rw (h, k, l) refl

pub first_false : (a b c d : Bool) → d ≡ (a && (b && c)) → a ≡ false → d ≡ false
first_false a b c d e h = e ∙ ap (λ (x : Bool). x && (b && c)) h

pub ones_false : (a b c d : Bool) → d ≡ (a && (b && c)) → b ≡ false → d ≡ false
ones_false true b c d e h = e ∙ ap (λ (x : Bool). x && c) h
ones_false false b c d e h = e

pub twos_false : (a b c d : Bool) → d ≡ (a && (b && c)) → c ≡ false → d ≡ false
twos_false true true c d e h = e ∙ h
twos_false true false c d e h = e
twos_false false b c d e h = e

pub fits_true : (a b c d : Bool) → d ≡ (a && (b && c)) → a ≡ true → b ≡ true → c ≡ true → d ≡ true
fits_true a b c d e h k l = e ∙ all_true a b c h k l

pub and_true : (a b : Bool) → a ≡ true → b ≡ true → (a && b) ≡ true
and_true a b h k = rw (h, k) refl

pub size_false : (a b : Bool) → a ≡ false → (a && b) ≡ false
size_false a b h = ap (λ (x : Bool). x && b) h

pub outcome_false : (a b : Bool) → b ≡ false → (a && b) ≡ false
outcome_false true b h = h
outcome_false false b h = refl
