-- The lines are the same, and both maps have the entries of those that they are clones of.
use Rattle.std.proofs.Common.{◌≡◌, ◌∙◌, ap}
use Rattle.std.specs.Map.{lookup}
use Rattle.std.proofs.lemmas.List.Elements.{same_from_all_zip}
use Rattle.std.proofs.lemmas.Map.Entries.{entries_from_clone}
use Rattle.op_dictionary.specs.Kept.{same_key}
use Rattle.op_dictionary.proofs.Lines.{kept-same}
use Rattle.op_dictionary.proofs.extra.Extra.copy.Goals as goal

abbrev lines-same : (c : goal.In_ok-clone-3) → c.in_ok-clone.field-0.items ≡ c.self.inside.lines.items
lines-same c = same_from_all_zip (λ x y. y ≡ x) _ _ c.in_ok-clone.ensures.cases.0 (λ x y e. e)

abbrev categories-same : (c : goal.In_ok-clone-3) → c.in_ok-clone-2.field-0.entries ≡ c.self.inside.categories.entries
categories-same c =
    entries_from_clone (λ x y. y ≡ x) (λ v w. w ≡ v) (λ x y e. e) (λ v w e. e) _ _ c.in_ok-clone-2.ensures.cases

abbrev axes-same : (c : goal.In_ok-clone-3) → c.in_ok-clone-3.field-0.entries ≡ c.self.inside.axes.entries
axes-same c =
    entries_from_clone (λ x y. y ≡ x) (λ v w. w ≡ v) (λ x y e. e) (λ v w e. e) _ _ c.in_ok-clone-3.ensures.cases

pub invariant_of-result : goal.invariant_of-result
invariant_of-result c =
    kept-same _ _ c.self.invariant (lines-same c) (λ pair. ap (lookup (same_key pair)) (categories-same c)) (axes-same c)

pub returns : goal.returns
returns c = lines-same c ∙ c.self.view_is
