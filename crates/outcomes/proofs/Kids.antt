-- What holds of the answers of an element's children.
use Rattle.std.proofs.Common.{◌≡◌, ◌∙◌, refl, sym, ap, inl, subst, ℕ, ◌^◌, ◌<◌, ◌≤◌, ◌≤ℤ◌, arith, Bool, true, false, cond, List, ◌++◌, length, map, get_or, All, Option, Some, None, unwrap_or, ℤ, pos}
use Rattle.std.specs.Prelude.{int_le, is_some}
use borrow.Author.Differences.{le-false}
use Rattle.std.specs.Borrow.{Bor}
use Rattle.std.specs.List.{AllPass}
use Rattle.std.proofs.lemmas.List.{get_or-map, length-map}
use Rattle.std.proofs.lemmas.List.Elements.{All-append, All-get_or, All-nil}
use Rattle.std.proofs.lemmas.Option.{get_or_from_slice_get}
use Rattle.fixed_units.specs.Boxes.{is_stored}
use Rattle.fixed_units.specs.Sums.{list_to}
use Rattle.fixed_units.proofs.Signed.{signed}
use Rattle.fixed_units.proofs.Sums.{length-list_to, slice_get-list_to}
use Rattle.font_metrics.specs.Metrics.{MetricsValue}
use Rattle.embellished.specs.Seen.{Seen}
use Rattle.embellished.specs.declared.facts.Facts.{Facts}
use Rattle.row_stretch.specs.Equation.{IsKidStored, kid_at, no_kid}
use Rattle.style_scope.specs.Sizes.{IsSize, font_size_of, in_range_of, size_of}
use Rattle.style_scope.specs.declared.style.Style.{Style}
use Rattle.layout_model.specs.Answers.{last_answer, no_answer}
use Rattle.layout_model.specs.Elements.{Element, answer_at, lead_place, row_kid, row_kids, spaces_of}
use Rattle.span_tables.specs.Bounds.{IsSpan}
use Rattle.layout_model.specs.Fits.{AreAnswers, AreSpans, IsContext, cell_count}
use Rattle.layout_model.specs.Layout.{last_answers}
use Rattle.layout_model.specs.Questions.{first, second}
use Rattle.layout_model.specs.Contexts.{kid_style}
use Rattle.layout_model.specs.Range.{answer_fits, is_font_size}
use Rattle.layout_model.specs.declared.context.Context.{Context}
use Rattle.layout_model.specs.declared.context.Question.{Question}
use Rattle.layout_model.specs.declared.outcome.Answer.{Answer}
use Rattle.layout_model.proofs.Ranges.{IsAnswerStored, answers_stored}
use Rattle.outcomes.specs.Elements.{IsWhole, answered}
use Rattle.layout_model.proofs.TableCells.{each_few}
use Rattle.outcomes.proofs.LastOfTable.{table_answers}
use Rattle.outcomes.proofs.Lasts.{last_answer-holds}
use Rattle.outcomes.proofs.Lists.{All-list_to}

abbrev pub now_of : Bor Answer → Answer
now_of answer = answer.now

pub answer_in : (kids : List Answer) (index : ℕ) (other : Answer) → AllPass answer_fits kids → index < length kids → IsAnswerStored (get_or kids index other)
answer_in kids index other fit l = All-get_or IsAnswerStored kids index other l (answers_stored kids fit)

pub lent_answer_in : (kids : List (Bor Answer)) (index : ℕ) (other : Bor Answer) → AllPass answer_fits (map now_of kids) → index < length kids
    → IsAnswerStored (get_or kids index other).now
lent_answer_in kids index other fit l =
    subst IsAnswerStored (get_or-map now_of kids index other other.now l)
    (answer_in (map now_of kids) index other.now fit (omega (arith, l, length-map kids now_of)))

-- ---- the spaces round an element

pub no_spaces : (e : Element) (seen : Seen) (facts : Facts) → seen ≡ e.seen → facts ≡ seen.facts → is_some facts.core ≡ false → no_answer ≡ spaces_of e
no_spaces e seen facts same facts_are none =
    let found : is_some e.seen.facts.core ≡ false = ap (λ (s : Seen). is_some s.facts.core) (sym same) ∙ ap (λ (f : Facts). is_some f.core) (sym facts_are) ∙ none in
    ap (λ (found : Bool). cond found (answer_at e (lead_place e.seen)) no_answer) (sym found)

pub lead_spaces : (e : Element) (seen : Seen) (kids : List (Bor Answer)) (facts : Facts) (place : ℕ) (answer : Bor Answer) → seen ≡ e.seen → map now_of kids ≡ e.kids
    → facts ≡ seen.facts → is_some facts.core ≡ true → place ≡ lead_place e.seen → place < length kids → answer ≡ get_or kids place answer
    → answer.now ≡ spaces_of e
lead_spaces e seen kids facts place answer same kids_are facts_are some leads within is =
    let found : is_some e.seen.facts.core ≡ true = ap (λ (s : Seen). is_some s.facts.core) (sym same) ∙ ap (λ (f : Facts). is_some f.core) (sym facts_are) ∙ some in
    ap now_of is
    ∙ sym (get_or-map now_of kids place answer no_answer within)
    ∙ (λ i. get_or (kids_are i) (leads i) no_answer)
    ∙ ap (λ (found : Bool). cond found (answer_at e (lead_place e.seen)) no_answer) (sym found)

-- ---- a row of the children

stored_at : (e : Element) (size : ℤ) (index : ℕ) → IsWhole e size → index < length e.seen.kids → IsKidStored (row_kid e index)
stored_at e size index whole l =
    let stored = answer_in e.kids index no_answer whole.stored (omega (arith, l, whole.each)) in
    record { frame = stored.frame; before = stored.before; after = stored.after }

pub kids_stored : (e : Element) (size : ℤ) → IsWhole e size → All IsKidStored (row_kids e)
kids_stored e size whole = All-list_to IsKidStored (length e.seen.kids) (row_kid e) (λ index l. stored_at e size index whole l)

pub row_kid_is : (e : Element) (index : ℕ) → index < length e.seen.kids → kid_at (row_kids e) index ≡ row_kid e index
row_kid_is e index l =
    get_or_from_slice_get (row_kids e) index (row_kid e index) no_kid (slice_get-list_to (length e.seen.kids) index (row_kid e) l)

-- ---- the answers that count

no_answer_fits : answer_fits no_answer ≡ true
unfolding answer_fits is_stored
no_answer_fits = refl

abbrev pub cells_few : Answer → Type 0
cells_few answer = length answer.cells ≤ 65536

all_last : (P : Answer → Type 0) → P no_answer → (n : ℕ) (asks : List Question) (one two : List Answer) → All P one → All P two
    → All P (list_to n (last_answer asks (one ++ two)))
all_last P none n asks one two a b = All-list_to P n (last_answer asks (one ++ two)) (λ i l. last_answer-holds P none asks (one ++ two) i (All-append P one two a b))

pub whole : (m : MetricsValue) (seen : Seen) (context : Context) (one two : List Answer) (size : ℤ) → IsContext context
    → AreAnswers one → AreAnswers two → length one ≡ length (first m seen context) → length two ≡ length (second m seen context one)
    → size ≡ size_of m context.style → IsSize size → length seen.kids ≤ 65535
    → ((index : ℕ) → index < length seen.kids → is_font_size (size_of m (kid_style m seen context.style index)) ≡ true)
    → IsWhole (answered m seen context one two) size
unfolding last_answers
whole m seen context one two size fits one_fits two_fits ones twos e s few fonts =
    let n = length seen.kids in
    let asks = first m seen context ++ second m seen context one in
    let count = length-list_to n (last_answer asks (one ++ two)) in
    record {
      fits = fits;
      is_font = e;
      low = s.low;
      high = s.high;
      fonts = fonts;
      each = count;
      few = omega (arith, count, few);
      stored = all_last (λ answer. answer_fits answer ≡ true) no_answer_fits n asks one two one_fits.fit two_fits.fit;
      cells = all_last cells_few (omega arith) n asks one two (each_few 65536 one one_fits.few) (each_few 65536 two two_fits.few);
      spans = all_last AreSpans (record { each = inl refl; limits = All-nil IsSpan }) n asks one two one_fits.spans two_fits.spans;
      table = λ h. subst (λ (kids : List Answer). cell_count kids ≤ 65536) (sym (table_answers m seen context one two h ones twos)) two_fits.few;
    }

-- the answers that count, where the questions are at hand
pub last_are : (m : MetricsValue) (seen : Seen) (context : Context) (ones twos : List Question) (one two kids : List Answer) (n : ℕ)
    → ones ≡ first m seen context → twos ≡ second m seen context one → n ≡ length seen.kids
    → kids ≡ list_to n (last_answer (ones ++ twos) (one ++ two)) → kids ≡ last_answers m seen context one two
unfolding last_answers
last_are m seen context ones twos one two kids n o t count e =
    e ∙ (λ i. list_to (count i) (last_answer (o i ++ t i) (one ++ two)))

pub size_found : (m : MetricsValue) (style : Style) (size : ℤ) → Some size ≡ font_size_of m style → size ≡ size_of m style
unfolding font_size_of in_range_of
size_found m style size e = by (int_le (size_of m style) (pos (2 ^ 20))) e
  where
    by : (v : Bool) → Some size ≡ cond v (Some (size_of m style)) None → size ≡ size_of m style
    by true h = ap (λ (found : Option ℤ). unwrap_or found (size_of m style)) h
    by false h = ap (λ (found : Option ℤ). unwrap_or found (size_of m style)) h

-- a font size that isn't too large is found
pub small_is_found : (m : MetricsValue) (style : Style) (found : Option ℤ) → found ≡ font_size_of m style → size_of m style ≤ℤ pos (2 ^ 20)
    → is_some found ≡ true
unfolding font_size_of in_range_of
small_is_found m style found e h = ap (λ (f : Option ℤ). is_some f) e ∙ by (int_le (size_of m style) (pos (2 ^ 20))) refl
  where
    by : (low : Bool) → int_le (size_of m style) (pos (2 ^ 20)) ≡ low → is_some (cond low (Some (size_of m style)) None) ≡ true
    by true e = refl
    by false e = absurd (omega (arith, signed, h, le-false (size_of m style) (pos (2 ^ 20)) e))
