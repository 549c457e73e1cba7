-- What stays of an element of which layout sees the same but for one child: of lists, of what is kept, and of what it asks.
use Rattle.std.proofs.Common.{◌≡◌, ◌∙◌, refl, sym, ap, subst, ℕ, zero, suc, arith, Bool, true, false, cond, ◌&&◌, List, [], ◌∷◌, length, map, Some, slice_get, nat_eq}
use Rattle.std.proofs.lemmas.Bool.{ne_eqb}
use Rattle.std.proofs.lemmas.List.Elements.{All-nil}
use Rattle.std.proofs.lemmas.List.Folds.{list_all-append}
use Rattle.std.proofs.lemmas.Option.{none-some, same_Some, slice_get-map}
use Rattle.std.specs.List.{AllByRecursion, flat_map, list_all}
use Rattle.std.specs.Option.{option_map}
use Rattle.font_metrics.specs.Metrics.{MetricsValue}
use Rattle.math_tree.specs.declared.node.Node.{Node}
use Rattle.embellished.specs.Seen.{Child, Seen, flow_children, flow_nodes}
use Rattle.embellished.proofs.InFlow.{among}
use Rattle.layout_model.specs.Laws.{visits_below}
use Rattle.layout_model.specs.Fits.{AreAnswers}
use Rattle.layout_model.specs.Layout.{in_range, visit_fits}
use Rattle.layout_model.specs.declared.context.Context.{Context}
use Rattle.layout_model.specs.declared.context.Question.{Question}
use Rattle.layout_model.specs.declared.outcome.Answer.{Answer}
use Rattle.layout_model.proofs.Waves.{all_fit, fits_below}
use Rattle.kept_results.specs.Kept.{Agrees, NamesKept}
use Rattle.kept_results.specs.Regular.{restyled, restyled_at}
use Rattle.kept_results.specs.declared.memo.Memo.{Memo}
use Rattle.kept_results.specs.declared.memo.Memo.TheViews.{out-Memo}
use Rattle.kept_results.proofs.Agreement.{agrees_child}

-- ---- lists by their places

pub map_was : {A B : Type 0} (f : A → B) (xs : List A) (i : ℕ) (y : B) → slice_get (map f xs) i ≡ Some y → (x : A) × (slice_get xs i ≡ Some x) × (y ≡ f x)
map_was f [] i y h = absurd (none-some y h)
map_was f (x ∷ xs) zero y h = (x, refl, sym (same_Some (f x) y h))
map_was f (x ∷ xs) (suc i) y h = map_was f xs i y h

pub mapped_at : {A B : Type 0} (f : A → B) (ys : List B) (xs : List A) → length ys ≡ length xs
    → ((i : ℕ) (y : B) (x : A) → slice_get ys i ≡ Some y → slice_get xs i ≡ Some x → y ≡ f x) → ys ≡ map f xs
mapped_at f [] [] l h = refl
mapped_at f [] (x ∷ xs) l h = absurd (omega (arith, l))
mapped_at f (y ∷ ys) [] l h = absurd (omega (arith, l))
mapped_at {A} {B} f (y ∷ ys) (x ∷ xs) l h =
    ap (λ (z : B). z ∷ ys) (h 0 y x refl refl) ∙ ap (λ (rest : List B). f x ∷ rest) (mapped_at f ys xs (omega (arith, l)) (λ i. h (suc i)))

pub all_at : {A : Type 0} (P : A → Type 0) (xs : List A) → ((i : ℕ) (x : A) → slice_get xs i ≡ Some x → P x) → AllByRecursion P xs
all_at P [] h = tt
all_at P (x ∷ xs) h = (h 0 x refl, all_at P xs (λ i. h (suc i)))

pub no_answers : (answers : List Answer) → answers ≡ [] → AreAnswers answers
no_answers answers e =
    let none : AreAnswers [] = record { fit = All-nil _; count = omega arith; few = omega arith; spans = All-nil _ } in
    subst AreAnswers (sym e) none

-- ---- what is kept is in range

module _ (m : MetricsValue) (node : Node) where
  named_fits : (memo : Memo) (question : Question) → Agrees m node memo → NamesKept node (out-Memo memo).below question
      → list_all (visit_fits m) (visits_below m node question) ≡ true
  named_fits memo question h n =
      let child : Child = n.child in
      let node_at : slice_get (flow_nodes node) question.kid ≡ Some child.node =
      slice_get-map (λ (c : Child). c.node) (flow_children node) question.kid ∙ ap (option_map (λ (c : Child). c.node)) n.to in
      let below = agrees_child m node memo child.place child.node n.memo h (among node question.kid child n.to) n.at in
      let sound = (below.at [] child.node n.memo (refl, refl)).sound n.kept.entry n.kept.has in
      fits_below m node question child.node node_at ∙ ap (in_range m child.node) (sym n.kept.in_context) ∙ sound.fits

  pub all_named_fit : (memo : Memo) (asks : List Question) → Agrees m node memo → AllByRecursion (NamesKept node (out-Memo memo).below) asks → all_fit m node asks ≡ true
  all_named_fit memo [] h k = refl
  all_named_fit memo (question ∷ asks) h k =
      list_all-append (visit_fits m) (visits_below m node question) (flat_map (visits_below m node) asks)
      ∙ ap (λ (b : Bool). b && all_fit m node asks) (named_fits memo question h k.0) ∙ all_named_fit memo asks h k.1

-- ---- what the element asks

pub kid_stays : (m : MetricsValue) (seen : Seen) (context : Context) (place : ℕ) (question : Question) → (restyled_at m seen context place question).kid ≡ question.kid
kid_stays m seen context place question = by (nat_eq question.kid place)
  where
    by : (b : Bool) → (cond b (restyled m seen context question) question).kid ≡ question.kid
    by true = refl
    by false = refl

pub other_stays : (m : MetricsValue) (seen : Seen) (context : Context) (place : ℕ) (question : Question) → (question.kid ≡ place → ⊥) → restyled_at m seen context place question ≡ question
other_stays m seen context place question other = ap (λ (b : Bool). cond b (restyled m seen context question) question) (ne_eqb question.kid place other)
