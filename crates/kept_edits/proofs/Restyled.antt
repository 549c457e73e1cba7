-- What an element asks, where its children are what they were but for the head of one.
use Rattle.std.proofs.Common.{◌≡◌, ◌∙◌, ◌⊎◌, inl, inr, refl, sym, ap, ℕ, ◌+◌, Bool, false, cond, not, ◌&&◌, List, [], ◌∷◌, drop, length, map, take, Option, Some, None, is_some, slice_get, nat_lt, unwrap_or}
use Rattle.std.proofs.lemmas.Bool.{ne_eqb, eq-eqb}
use Rattle.std.proofs.lemmas.Bool.Decides.{eqb_tells}
use Rattle.std.proofs.lemmas.List.{drop-map, length-map, take-map}
use Rattle.std.proofs.lemmas.List.Folds.{list_all-map}
use Rattle.std.proofs.lemmas.Option.{slice_get-map}
use Rattle.std.specs.List.{list_all}
use Rattle.std.specs.Option.{option_and_then, option_map, option_map_or}
use Rattle.fixed_units.specs.Sums.{list_to}
use Rattle.font_metrics.specs.Metrics.{MetricsValue}
use Rattle.math_tree.specs.declared.kind.Kind.{Kind}
use Rattle.math_tree.specs.declared.node.Head.{Head}
use Rattle.op_dictionary.specs.declared.operator.Form.{Form}
use Rattle.op_dictionary.specs.declared.operator.Form.TheVariants.{Prefix, Infix, Postfix}
use Rattle.op_dictionary.specs.declared.operator.Properties.{Properties}
use Rattle.embellished.specs.Fences.{fences_in}
use Rattle.embellished.specs.Forms.{fence_form, form_at, form_by_place, leads, properties_at, stretch_axis}
use Rattle.math_tree.specs.Kinds.{is_scripted}
use Rattle.embellished.specs.Kinds.{has_fences}
use Rattle.embellished.specs.Seen.{Kid, Seen}
use Rattle.embellished.specs.declared.facts.Core.{Core}
use Rattle.embellished.specs.declared.facts.Facts.{Facts}
use Rattle.row_stretch.specs.declared.parts.Ask.{Ask}
use Rattle.row_stretch.specs.declared.parts.KidPull.{KidPull}
use Rattle.layout_model.specs.Contexts.{kid_axis, kid_pull, kid_style, place_of, pull_of, stretch_of}
use Rattle.layout_model.specs.Questions.{asked, asked_all, asked_as, asking, asking_of, base_properties, first, first_asks, kid_pulls}
use Rattle.layout_model.specs.declared.asking.Asking.{Asking}
use Rattle.layout_model.specs.declared.context.Context.{Context}
use Rattle.layout_model.specs.declared.context.Question.{Question}
use Rattle.style_scope.specs.Styles.{child_style_of}
use Rattle.style_scope.specs.declared.style.Style.{Style}
use Rattle.child_questions.specs.Surveys.{has_one_wave, survey_of}
use Rattle.kept_results.specs.Regular.{restyled, restyled_at}

-- ---- by facts alone

abbrev pub facts_of_kid : Kid → Facts
facts_of_kid kid = kid.facts

abbrev pub kinds_of : List Kid → List Facts
kinds_of kids = map facts_of_kid kids

abbrev are_blank : List Facts → Bool
are_blank kids = list_all (λ kid. kid.space_like) kids

abbrev fence_in : List Facts → ℕ → Form
fence_in kids index =
    let first = are_blank (take index kids) in
    let last = are_blank (drop (index + 1) kids) in
    cond (first && not last) Prefix (cond (last && not first) Postfix Infix)

abbrev place_form : Kind → List Facts → ℕ → Form
place_form laid kids index = cond (has_fences laid) (fence_in kids index) (cond (is_scripted laid && nat_lt 0 index) Postfix Infix)

abbrev form_in : Facts → List Facts → ℕ → Form → Form
form_in own kids index form =
    option_map_or (λ kid. option_map_or (λ core. unwrap_or core.form (cond (is_some own.core && leads own.laid kid index) form (place_form own.laid kids index))) kid.core Infix)
    (slice_get kids index) Infix

blank_kids : (kids : List Kid) → list_all (λ kid. kid.facts.space_like) kids ≡ are_blank (kinds_of kids)
blank_kids kids = sym (list_all-map (λ (f : Facts). f.space_like) facts_of_kid kids)

fence_is : (kids : List Kid) (index : ℕ) → fence_form kids index ≡ fence_in (kinds_of kids) index
unfolding fence_form
fence_is kids index =
    let first : list_all (λ kid. kid.facts.space_like) (take index kids) ≡ are_blank (take index (kinds_of kids)) =
    blank_kids (take index kids) ∙ ap are_blank (sym (take-map facts_of_kid index kids)) in
    let last : list_all (λ kid. kid.facts.space_like) (drop (index + 1) kids) ≡ are_blank (drop (index + 1) (kinds_of kids)) =
    blank_kids (drop (index + 1) kids) ∙ ap are_blank (sym (drop-map facts_of_kid (index + 1) kids)) in
    λ i. cond (first i && not (last i)) Prefix (cond (last i && not (first i)) Postfix Infix)

place_is : (laid : Kind) (kids : List Kid) (index : ℕ) → form_by_place laid kids index ≡ place_form laid (kinds_of kids) index
unfolding form_by_place
place_is laid kids index = ap (λ (f : Form). cond (has_fences laid) f (cond (is_scripted laid && nat_lt 0 index) Postfix Infix)) (fence_is kids index)

form_is : (seen : Seen) (index : ℕ) (form : Form) → form_at seen index form ≡ form_in seen.facts (kinds_of seen.kids) index form
unfolding form_at
form_is seen index form = by (slice_get seen.kids index) ∙ ap (λ (found : Option Facts). option_map_or here found Infix) (sym (slice_get-map facts_of_kid seen.kids index))
  where
    here : Facts → Form
    here kid = option_map_or (λ core. unwrap_or core.form (cond (is_some seen.facts.core && leads seen.facts.laid kid index) form (place_form seen.facts.laid (kinds_of seen.kids) index))) kid.core Infix

    of_core : (kid : Facts) (core : Option Core)
        → option_map_or (λ core. unwrap_or core.form (cond (is_some seen.facts.core && leads seen.facts.laid kid index) form (form_by_place seen.facts.laid seen.kids index))) core Infix
        ≡ option_map_or (λ core. unwrap_or core.form (cond (is_some seen.facts.core && leads seen.facts.laid kid index) form (place_form seen.facts.laid (kinds_of seen.kids) index))) core Infix
    of_core kid None = refl
    of_core kid (Some core) = ap (λ (f : Form). unwrap_or core.form (cond (is_some seen.facts.core && leads seen.facts.laid kid index) form f)) (place_is seen.facts.laid seen.kids index)

    by : (found : Option Kid) → option_map_or (λ kid. option_map_or (λ core. unwrap_or core.form (cond (is_some seen.facts.core && leads seen.facts.laid kid.facts index) form (form_by_place seen.facts.laid seen.kids index))) kid.facts.core Infix) found Infix
        ≡ option_map_or here (option_map facts_of_kid found) Infix
    by None = refl
    by (Some kid) = of_core kid.facts kid.facts.core

-- ---- the same facts

module _ (m : MetricsValue) (seen other : Seen) (own : other.facts ≡ seen.facts) (kids : kinds_of other.kids ≡ kinds_of seen.kids) where
  pub same_form : (index : ℕ) (form : Form) → form_at other index form ≡ form_at seen index form
  same_form index form =
      form_is other index form ∙ ap (λ (f : Facts). form_in f (kinds_of other.kids) index form) own
      ∙ ap (λ (l : List Facts). form_in seen.facts l index form) kids ∙ sym (form_is seen index form)

  pub as_many : length other.kids ≡ length seen.kids
  as_many = sym (length-map other.kids facts_of_kid) ∙ ap length kids ∙ length-map seen.kids facts_of_kid

  same_at : (index : ℕ) → option_map facts_of_kid (slice_get other.kids index) ≡ option_map facts_of_kid (slice_get seen.kids index)
  same_at index = sym (slice_get-map facts_of_kid other.kids index) ∙ ap (λ (l : List Facts). slice_get l index) kids ∙ slice_get-map facts_of_kid seen.kids index

  axis_by : (form : Form) (found : Option Kid) → option_and_then (λ kid. stretch_axis kid.facts form m.operators) found ≡ option_and_then (λ f. stretch_axis f form m.operators) (option_map facts_of_kid found)
  axis_by form None = refl
  axis_by form (Some kid) = refl

  same_axis : (form : Form) (index : ℕ) → kid_axis m other form index ≡ kid_axis m seen form index
  unfolding kid_axis
  same_axis form index =
      ap (λ (f : Form). option_and_then (λ kid. stretch_axis kid.facts f m.operators) (slice_get other.kids index)) (same_form index form)
      ∙ axis_by (form_at seen index form) (slice_get other.kids index)
      ∙ ap (λ (found : Option Facts). option_and_then (λ f. stretch_axis f (form_at seen index form) m.operators) found) (same_at index)
      ∙ sym (axis_by (form_at seen index form) (slice_get seen.kids index))

  pub same_pulls : (context : Context) → kid_pulls m other context ≡ kid_pulls m seen context
  unfolding kid_pulls
  same_pulls context =
      let each : kid_pull m other context.form ≡ kid_pull m seen context.form = λ i index. record { axis = same_axis context.form index i } in
      ap (λ n. list_to n (kid_pull m other context.form)) as_many ∙ ap (list_to (length seen.kids)) each

  base_by : (form : Form) (found : Option Kid) → option_and_then (λ kid. option_map (λ core. properties_at core form m.operators) kid.facts.core) found
      ≡ option_and_then (λ f. option_map (λ core. properties_at core form m.operators) f.core) (option_map facts_of_kid found)
  base_by form None = refl
  base_by form (Some kid) = refl

  same_base : (context : Context) → base_properties m other context ≡ base_properties m seen context
  unfolding base_properties
  same_base context =
      let form = form_at seen 0 context.form in
      ap (λ (f : Form). option_and_then (λ kid. option_map (λ core. properties_at core f m.operators) kid.facts.core) (slice_get other.kids 0)) (same_form 0 context.form)
      ∙ base_by form (slice_get other.kids 0)
      ∙ ap (λ (found : Option Facts). option_and_then (λ f. option_map (λ core. properties_at core form m.operators) f.core) found) (same_at 0)
      ∙ sym (base_by form (slice_get seen.kids 0))

  pub same_asking : (context : Context) → asking m other context ≡ asking m seen context
  unfolding asking
  same_asking context =
      ap (λ (f : Facts). asked_as (asking_of f.laid) (not context.style.display && option_map_or (λ base. base.movablelimits) (base_properties m other context) false)) own
      ∙ ap (λ (base : Option Properties). asked_as (asking_of seen.facts.laid) (not context.style.display && option_map_or (λ base. base.movablelimits) base false)) (same_base context)

  pub same_wave : (context : Context) → has_one_wave (survey_of m other context) ≡ has_one_wave (survey_of m seen context)
  same_wave context =
      λ i. has_one_wave record {
        asking = same_asking context i;
        fences = fences_in seen.kids;
        pulls = same_pulls context i;
        accent = false;
        accentunder = false;
      }

  -- ---- and the same heads but for one
  module _ (place : ℕ) (head : other.head ≡ seen.head) (others : (index : ℕ) → (index ≡ place → ⊥) → slice_get other.kids index ≡ slice_get seen.kids index) where
    same_place : (index : ℕ) → place_of other index ≡ place_of seen index
    same_place index = ap (λ (h : Head). place_of record { head = h; facts = other.facts; kids = other.kids; prescripts = other.prescripts } index) head ∙ ap (λ (f : Facts). place_of record { head = seen.head; facts = f; kids = other.kids; prescripts = other.prescripts } index) own

    same_style : (style : Style) (index : ℕ) → (index ≡ place → ⊥) → kid_style m other style index ≡ kid_style m seen style index
    unfolding kid_style
    same_style style index apart =
        ap (λ p. option_map_or (λ kid. child_style_of m style p kid.head) (slice_get other.kids index) style) (same_place index)
        ∙ ap (λ (found : Option Kid). option_map_or (λ kid. child_style_of m style (place_of seen index) kid.head) found style) (others index apart)

    asked_by : (context : Context) (ask : Ask) → (ask.kid ≡ place) ⊎ (ask.kid ≡ place → ⊥) → asked m other context ask ≡ restyled_at m other context place (asked m seen context ask)
    asked_by context ask (inl e) =
        let again : asked m other context ask ≡ restyled m other context (asked m seen context ask) =
        λ i. record { kid = ask.kid; context = record { style = kid_style m other context.style ask.kid; form = same_form ask.kid context.form i; stretch = stretch_of ask.pull } } in
        again ∙ ap (λ (b : Bool). cond b (restyled m other context (asked m seen context ask)) (asked m seen context ask)) (sym (eq-eqb ask.kid place e))
    asked_by context ask (inr apart) =
        let still : asked m other context ask ≡ asked m seen context ask =
        λ i. record { kid = ask.kid; context = record { style = same_style context.style ask.kid apart i; form = same_form ask.kid context.form i; stretch = stretch_of ask.pull } } in
        still ∙ ap (λ (b : Bool). cond b (restyled m other context (asked m seen context ask)) (asked m seen context ask)) (sym (ne_eqb ask.kid place apart))

    told : (context : Context) (ask : Ask) → (ask.kid ≡ place) ⊎ (ask.kid ≡ place → ⊥)
    told context ask = elim (eqb_tells ask.kid place) [ inl p ↦ inl p.1 | inr q ↦ inr q.1 ]

    all_again : (context : Context) (asks : List Ask) → asked_all m other context asks ≡ map (restyled_at m other context place) (asked_all m seen context asks)
    all_again context [] = refl
    all_again context (ask ∷ asks) =
        ap (λ (q : Question). q ∷ asked_all m other context asks) (asked_by context ask (told context ask))
        ∙ ap (λ (l : List Question). restyled_at m other context place (asked m seen context ask) ∷ l) (all_again context asks)

    -- what is asked first is what was asked, but for the style of one child
    pub first_again : (context : Context) → first m other context ≡ map (restyled_at m other context place) (first m seen context)
    unfolding first
    first_again context =
        ap (λ (a : Asking). asked_all m other context (first_asks a (kid_pulls m other context) (pull_of context.stretch))) (same_asking context)
        ∙ ap (λ (pulls : List KidPull). asked_all m other context (first_asks (asking m seen context) pulls (pull_of context.stretch))) (same_pulls context)
        ∙ all_again context (first_asks (asking m seen context) (kid_pulls m seen context) (pull_of context.stretch))
