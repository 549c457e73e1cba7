-- The kerns at a corner.
use Rattle.std.proofs.Common.{◌≡◌, ◌∙◌, refl, ap, subst, ℕ, ◌<◌, ◌≤◌, ◌*◌, ◌%◌, List, [], ◌∷◌, length, flat_map, nat_eq, nat_le, Bool, true, false, not, if◌then◌else◌, All, Ok, arith}
use Rattle.std.specs.Fmt.{signed_decimal}
use Rattle.std.specs.List.{list_all}
use Rattle.std.proofs.lemmas.Bool.{and_from, and_parts}
use Rattle.std.proofs.lemmas.Bool.Decides.{nat_tests}
use Rattle.std.proofs.lemmas.List.Elements.{All-nil, All-cons, All-head, All-tail}
use Rattle.font_metrics.specs.declared.corner.Corner.{Corner}
use Rattle.font_metrics.specs.declared.corner.Corner.TheVariants.{TopRight, TopLeft, BottomRight, BottomLeft}
use Rattle.font_metrics.specs.declared.fault.LineFault.TheVariants.{FieldCount}
use Rattle.font_metrics.specs.declared.kern.Kern.{Kern}
use Rattle.font_metrics.specs.declared.kern.KernStep.{KernStep}
use Rattle.metrics_file.specs.declared.keyword.Keyword.TheVariants.{Kern as KernOf, Unknown}
use Rattle.font_metrics.specs.declared.table.Table.TheVariants.{Kerns}
use Rattle.font_metrics.specs.Faults.{step_map, fault_if}
use Rattle.font_metrics.specs.Slot.{Words}
use Rattle.metrics_file.specs.Lines.{says_kern, keyword_of, known_in, named_in, reach_in, steps_in, are_pairs, kern_in}
use Rattle.font_metrics.specs.Metrics.{NamedGlyph, name_in_list}
use Rattle.font_metrics.specs.Texts.{corner_text}
use Rattle.font_metrics.specs.Ranges.{IsKern, IsKernStep, most_steps}
use Rattle.font_metrics.specs.Tables.{step_words}
use Rattle.metrics_file.specs.Words.{corner_in}
use Rattle.metrics_file.proofs.EachKind.{named_range, reach_range}
use Rattle.metrics_file.proofs.TableKinds.Kind.{Stands, IsKeyword, IsKind}
use Rattle.metrics_file.proofs.ReadBack.Choices.{corner_in-text}
use Rattle.metrics_file.proofs.ReadBack.Fields.{AreNamed, named, reach_in-signed}
use Rattle.metrics_file.proofs.ReadBack.FieldWords.{reach-word}
use Rattle.metrics_file.proofs.ReadBack.Joined.{is_word}
use Rattle.metrics_file.proofs.ReadBack.Printed.{corner-word}
use Rattle.font_metrics.proofs.Steps.{same_Ok, no_value, had, holds}

-- ---- what a line gives

record AreSteps (words : Words) (steps : List KernStep) : Type 0 where
  all : All IsKernStep steps
  pairs : length words ≡ 2 * length steps

steps_range : (words : Words) (steps : List KernStep) → steps_in words ≡ Ok steps → AreSteps words steps
steps_range [] steps h = subst (AreSteps []) (same_Ok [] steps h) (record { all = All-nil IsKernStep; pairs = refl })
steps_range (a ∷ []) steps h = no_value FieldCount steps h
steps_range (a ∷ b ∷ more) steps h =
    let height = had (reach_in a) _ steps h in
    let value = had (reach_in b) _ steps height.2 in
    let above = had (steps_in more) _ steps value.2 in
    let rest = steps_range more above.0 above.1 in
    let step : KernStep = record { height = height.0; value = value.0 } in
    subst (AreSteps (a ∷ b ∷ more)) (same_Ok (step ∷ above.0) steps above.2) (record {
      all = All-cons IsKernStep step above.0 (record { height = reach_range a height.0 height.1; value = reach_range b value.0 value.1 }) rest.all;
      pairs = let pairs = rest.pairs in omega (arith, pairs);
    })

few_pairs : (words : Words) → are_pairs words ≡ true → length words ≤ 32
few_pairs words h = let few = (and_parts (nat_eq (length words % 2) 0) _ h).1 in grind (arith, nat_tests)

pub kern_range : (glyphs : List NamedGlyph) (fields : Words) (k : Corner × (ℕ × Kern)) → kern_in glyphs fields ≡ Ok k
    → (k.1.0 < length glyphs) × IsKern k.1.1
kern_range glyphs [] k h = no_value FieldCount k h
kern_range glyphs (a ∷ []) k h = no_value FieldCount k h
kern_range glyphs (a ∷ b ∷ []) k h = no_value FieldCount k h
kern_range glyphs (a ∷ b ∷ c ∷ more) k h =
    let whole = had (fault_if (not (are_pairs more)) FieldCount) _ k h in
    let place = had (named_in glyphs a) _ k whole.2 in
    let corner = had (corner_in b) _ k place.2 in
    let lowest = had (reach_in c) _ k corner.2 in
    let steps = had (steps_in more) _ k lowest.2 in
    let are = steps_range more steps.0 steps.1 in
    let small = few_pairs more (holds (are_pairs more) FieldCount whole.0 whole.1) in
    let pairs = are.pairs in
    subst (λ k. (k.1.0 < length glyphs) × IsKern k.1.1) (same_Ok _ k steps.2) (
      named_range glyphs a place.0 place.1,
      record { lowest = reach_range c lowest.0 lowest.1; few = omega (arith, small, pairs); steps = are.all },
    )

-- ---- what is printed

printed-steps : (steps : List KernStep) → All IsKernStep steps → steps_in (flat_map step_words steps) ≡ Ok steps
printed-steps [] h = refl
printed-steps (step ∷ steps) h =
    let one = All-head IsKernStep step steps h in
    rw (
      reach_in-signed step.height one.height,
      reach_in-signed step.value one.value,
      printed-steps steps (All-tail IsKernStep step steps h),
    ) refl

printed-length : (steps : List KernStep) → length (flat_map step_words steps) ≡ 2 * length steps
printed-length [] = refl
printed-length (step ∷ steps) = let more = printed-length steps in omega (arith, more)

even : (n : ℕ) → (2 * n) % 2 ≡ 0
even n = omega arith

printed-pairs : (steps : List KernStep) → length steps ≤ most_steps → are_pairs (flat_map step_words steps) ≡ true
printed-pairs steps few =
    let size = printed-length steps in
    let rest : length (flat_map step_words steps) % 2 ≡ 0 = ap (λ n. n % 2) size ∙ even (length steps) in
    let small : length (flat_map step_words steps) ≤ 32 = omega (arith, size, few) in
    and_from (nat_eq (length (flat_map step_words steps) % 2) 0) (nat_le (length (flat_map step_words steps)) 32)
    (grind (arith, nat_tests)) (grind (arith, nat_tests))

kern_in-printed : (corner : Corner) (glyphs : List NamedGlyph) (place : ℕ) (k : Kern) → AreNamed glyphs
    → place < length glyphs → IsKern k
    → kern_in glyphs (name_in_list glyphs place ∷ corner_text corner ∷ signed_decimal k.lowest ∷ flat_map step_words k.steps)
    ≡ Ok (corner, (place, k))
kern_in-printed corner glyphs place k n low h =
    rw (
      printed-pairs k.steps h.few,
      named glyphs place n low,
      corner_in-text corner,
      reach_in-signed k.lowest h.lowest,
      printed-steps k.steps h.steps,
    ) refl

step-words : (steps : List KernStep) → All IsKernStep steps → list_all is_word (flat_map step_words steps) ≡ true
step-words [] h = refl
step-words (step ∷ steps) h =
    let one = All-head IsKernStep step steps h in
    rw (reach-word step.height one.height, reach-word step.value one.value, step-words steps (All-tail IsKernStep step steps h)) refl

kern-words : (corner : Corner) (k : Kern) → IsKern k
    → list_all is_word (corner_text corner ∷ signed_decimal k.lowest ∷ flat_map step_words k.steps) ≡ true
kern-words corner k h = rw (corner-word corner, reach-word k.lowest h.lowest, step-words k.steps h.steps) refl

-- ---- the kind

known : (version : ℕ) → 2 ≤ version → known_in version KernOf ≡ KernOf
known version more = by (nat_le 2 version) (grind (arith, nat_tests))
  where
    by : (b : Bool) → b ≡ true → (if b then KernOf else Unknown) ≡ KernOf
    by true h = refl
    by false h = cc

unfoldable keyword : (corner : Corner) → IsKeyword (Kerns corner)
unfolding keyword_of
keyword corner = record { of = KernOf; word = refl; names = refl; known = known; other = λ word words. refl }

stands : (corner : Corner) → Stands (Kerns corner)
stands TopRight = record { at-put = λ tables table. refl; put-at = λ tables. refl; entry-at-put = λ tables table place x. refl; none = refl; own = λ xs. refl }
stands TopLeft = record { at-put = λ tables table. refl; put-at = λ tables. refl; entry-at-put = λ tables table place x. refl; none = refl; own = λ xs. refl }
stands BottomRight = record { at-put = λ tables table. refl; put-at = λ tables. refl; entry-at-put = λ tables table place x. refl; none = refl; own = λ xs. refl }
stands BottomLeft = record { at-put = λ tables table. refl; put-at = λ tables. refl; entry-at-put = λ tables table place x. refl; none = refl; own = λ xs. refl }

pub kerns_kind : (corner : Corner) → IsKind (Kerns corner)
unfolding keyword
kerns_kind corner = record {
  stands = stands corner;
  keyword = keyword corner;
  wider = λ old new more k is. is;
  words = λ glyphs k n is. kern-words corner k is;
  printed = λ glyphs place k n low is. ap (step_map says_kern) (kern_in-printed corner glyphs place k n low is);
}
