-- Entries that stay over a sweep and over an edit.
use Rattle.std.proofs.Common.{◌≡◌, ◌∙◌, ◌⊎◌, inl, inr, refl, sym, ap, subst, ℕ, zero, suc, arith, Bool, true, false, not, ◌&&◌, List, [], ◌∷◌, length, Some, slice_get}
use Rattle.std.proofs.lemmas.Bool.{false≢true}
use Rattle.std.proofs.lemmas.Option.{none-some, same_Some, slice_get_within}
use Rattle.font_metrics.specs.Metrics.{MetricsValue}
use Rattle.math_tree.specs.declared.node.Node.{Node}
use Rattle.math_tree.specs.declared.node.Node.TheViews.{out-Node}
use Rattle.layout_model.specs.declared.context.Context.{Context}
use Rattle.kept_results.specs.Ends.{settled}
use Rattle.kept_results.specs.Kept.{Agrees, AreApart, HasEntry, Holds, is_fresh, is_live, is_marked}
use Rattle.kept_results.specs.Tidy.{has_none_fresh}
use Rattle.kept_results.specs.declared.memo.Entry.{Entry}
use Rattle.kept_results.specs.declared.memo.Memo.{Memo}
use Rattle.kept_results.specs.declared.memo.Memo.TheOpen.{Memo-F}
use Rattle.kept_results.specs.declared.memo.Memo.TheViews.{out-Memo}
use Rattle.kept_results.proofs.Agreement.{agrees_child, missing_kept}
use Rattle.kept_results.proofs.Shown.{there_is}
use Rattle.kept_results.proofs.Tidying.{IsClean, clean_below, clean_calm, not_fresh_at, settled_same}

-- ---- one entry in a context

module _ (marked : Bool) where
  one_entry : (entries : List Entry) (i j : ℕ) (a b : Entry) → AreApart marked entries → slice_get entries i ≡ Some a → slice_get entries j ≡ Some b
      → is_live marked a ≡ true → is_live marked b ≡ true → a.context ≡ b.context → a ≡ b
  one_entry [] i j a b apart at to x y same = absurd (none-some a at)
  one_entry (e ∷ entries) zero zero a b apart at to x y same = same_Some a b (sym at ∙ to)
  one_entry (e ∷ entries) zero (suc j) a b apart at to x y same =
      let is : e ≡ a = same_Some e a at in
      absurd (missing_kept marked e.context entries j b (apart.0 (ap (is_live marked) is ∙ x)) to y (sym same ∙ ap (λ (z : Entry). z.context) (sym is)))
  one_entry (e ∷ entries) (suc i) zero a b apart at to x y same =
      let is : e ≡ b = same_Some e b to in
      absurd (missing_kept marked e.context entries i a (apart.0 (ap (is_live marked) is ∙ y)) at x (same ∙ ap (λ (z : Entry). z.context) (sym is)))
  one_entry (e ∷ entries) (suc i) (suc j) a b apart at to x y same = one_entry entries i j a b apart.1 at to x y same

-- an element has no two entries in one context
pub one_held : (m : MetricsValue) (path : List ℕ) (node : Node) (memo : Memo) (a b : Entry) → Agrees m node memo → Holds path memo a → Holds path memo b
    → a.context ≡ b.context → a ≡ b
one_held m [] node memo a b agrees h k same =
    let layer : Memo-F Memo = out-Memo memo in
    one_entry (is_marked layer) layer.entries h.place k.place a b (agrees.at [] node memo (refl, refl)).apart h.at k.at h.live k.live same
one_held m (place ∷ path) node memo a b agrees h k same =
    let many = (agrees.at [] node memo (refl, refl)).as_many in
    let within = slice_get_within (out-Memo memo).below place h.0 h.1 in
    let child = there_is (out-Node node).children place (omega (arith, many, within)) in
    let below : k.0 ≡ h.0 = same_Some k.0 h.0 (sym k.1 ∙ h.1) in
    one_held m path child.0 h.0 a b (agrees_child m node memo place child.0 h.0 agrees child.1 h.1) h.2 (subst (λ (z : Memo). Holds path z b) below k.2) same

-- ---- entries that stood before

second_holds : (a b : Bool) → (a && b) ≡ true → b ≡ true
second_holds true b h = h
second_holds false b h = absurd (false≢true h)

none_fresh : (memo : Memo) → IsClean memo → has_none_fresh (out-Memo memo).entries ≡ true
none_fresh memo clean = second_holds (not (is_marked (out-Memo memo))) (has_none_fresh (out-Memo memo).entries) (clean_calm memo clean)

-- where no pass is under way, an entry is as the seal leaves it
pub held_settled : (path : List ℕ) (memo : Memo) (entry : Entry) → IsClean memo → Holds path memo entry → settled entry ≡ entry
held_settled [] memo entry clean h = settled_same entry (not_fresh_at (out-Memo memo).entries h.place entry (none_fresh memo clean) h.at)
held_settled (place ∷ path) memo entry clean h = held_settled path h.0 entry (clean_below memo clean place h.0 h.1) h.2
