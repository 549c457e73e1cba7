-- The children of an element that is kept, one after another.
use Rattle.std.proofs.Common.{◌≡◌, ◌∙◌, sym, ap, subst, ℕ, zero, suc, ◌+◌, ◌<◌, ◌≤◌, arith, List, [], ◌∷◌, ◌++◌, get_or, length, map, take, Some, slice_get}
use Rattle.std.proofs.lemmas.List.{map-append, take_more}
use Rattle.std.proofs.lemmas.Option.{none-some, same_Some, slice_get-get_or}
use Rattle.font_metrics.specs.Metrics.{MetricsValue}
use Rattle.math_tree.specs.Trees.{element_count}
use Rattle.math_tree.specs.declared.node.Node.{Node}
use Rattle.math_tree.specs.declared.node.Node.TheViews.{out-Node}
use Rattle.math_tree.proofs.Counts.{elements_are, one_of}
use Rattle.layout_model.specs.declared.laid.Laid.{Laid}
use Rattle.kept_results.specs.declared.memo.Memo.{Memo}
use Rattle.kept_laid.specs.Laid.{AreKids, IsKid, laid_kid}
use Rattle.kept_laid.specs.declared.laid.KeptLayout.{KeptLayout}

one_pushed : (P : KeptLayout → Type 0) (kids : List KeptLayout) (kid : KeptLayout) → ((i : ℕ) (x : KeptLayout) → slice_get kids i ≡ Some x → P x) → P kid
    → (i : ℕ) (x : KeptLayout) → slice_get (kids ++ kid ∷ []) i ≡ Some x → P x
one_pushed P [] kid h p zero x at = subst P (same_Some kid x at) p
one_pushed P [] kid h p (suc i) x at = absurd (none-some x at)
one_pushed P (k ∷ kids) kid h p zero x at = h 0 x at
one_pushed P (k ∷ kids) kid h p (suc i) x at = one_pushed P kids kid (λ j. h (suc j)) p i x at

pub none_yet : (node : Node) (memo : Memo) (kids : List KeptLayout) → kids ≡ [] → AreKids node memo kids
none_yet node memo kids none index kid at =
    let empty : slice_get {X = KeptLayout} [] index ≡ Some kid = sym (ap (λ (l : List KeptLayout). slice_get l index) none) ∙ at in
    absurd (none-some kid empty)

-- one child more
pub kids_grown : (node : Node) (memo : Memo) (before after : List KeptLayout) (kid : KeptLayout) → AreKids node memo before → IsKid node memo kid → after ≡ before ++ kid ∷ []
    → AreKids node memo after
kids_grown node memo before after kid h is pushed index x at =
    one_pushed (IsKid node memo) before kid h is index x (sym (ap (λ (l : List KeptLayout). slice_get l index) pushed) ∙ at)

module _ (m : MetricsValue) where
  pub laid_grown : (before after : List KeptLayout) (kid : KeptLayout) → after ≡ before ++ kid ∷ [] → map (laid_kid m) after ≡ map (laid_kid m) before ++ laid_kid m kid ∷ []
  laid_grown before after kid pushed = ap (map (laid_kid m)) pushed ∙ map-append (laid_kid m) before (kid ∷ [])

  -- those up to a place, laid out, and one more
  pub laid_more : (kids : List KeptLayout) (i : ℕ) (kid : KeptLayout) (before after : List Laid) (made : Laid) → i < length kids → kid ≡ get_or kids i kid
      → before ≡ map (laid_kid m) (take i kids) → made ≡ laid_kid m kid → after ≡ before ++ made ∷ [] → after ≡ map (laid_kid m) (take (i + 1) kids)
  laid_more kids i kid before after made within is b e pushed =
      pushed ∙ ap (λ (front : List Laid). front ++ made ∷ []) b ∙ ap (λ (x : Laid). map (laid_kid m) (take i kids) ++ x ∷ []) (e ∙ ap (laid_kid m) is)
      ∙ sym (ap (map (laid_kid m)) (take_more kids i kid within) ∙ map-append (laid_kid m) (take i kids) (get_or kids i kid ∷ []))

-- the child at a place
pub kid_at : (node : Node) (memo : Memo) (kids : List KeptLayout) (i : ℕ) (kid : KeptLayout) → AreKids node memo kids → i < length kids → kid ≡ get_or kids i kid → IsKid node memo kid
kid_at node memo kids i kid all within is = all i kid (slice_get-get_or kids i kid within ∙ ap (λ (k : KeptLayout). Some k) (sym is))

pub few_in : (node child : Node) (place : ℕ) → slice_get (out-Node node).children place ≡ Some child → element_count child ≤ element_count node
few_in node child place at = omega (arith, elements_are node, one_of (out-Node node).children place child at)
