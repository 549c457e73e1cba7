use Rattle.std.proofs.Common.{◌≡◌, refl, ◌∙◌, sym, ap, subst, ◌<◌, length}
use Rattle.std.proofs.lemmas.Option.{slice_get_read}
use Rattle.std.specs.List.{remove, slice_get}
use Rattle.std.specs.Prelude.{Some}
use Rattle.fixed_units.proofs.list.List.remove.Goals as goal

pub returns-clause-value : goal.returns-clause-value
returns-clause-value c d =
    subst (λ items. slice_get items d.args.index ≡ Some d.remove.result) d.self.view_is
    (slice_get_read d.self.inside.items.items (length d.self.inside.items.items) d.args.index d.remove.result refl
    (subst (λ items. d.args.index < length items) (sym d.self.view_is) d.requires) d.remove.ensures.value)

pub returns-clause-others : goal.returns-clause-others
returns-clause-others c d = d.remove.ensures.items ∙ ap (λ items. remove items d.args.index) d.self.view_is
