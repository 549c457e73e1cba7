use Rattle.std.proofs.Common.{◌∙◌, ap}
use Rattle.std.specs.Map.{lookup}
use Rattle.op_dictionary.specs.declared.extra.Pair.{Pair}
use Rattle.op_dictionary.specs.Dictionary.{line_category}
use Rattle.op_dictionary.proofs.Keys.{pair_eq}
use Rattle.op_dictionary.proofs.extra.Extra.category.Goals as goal

pub returns : goal.returns
returns c =
    let pair : Pair = record { text = c.args.text; form = c.args.form } in
    c.copied.ensures ∙ c.get.ensures.value
    ∙ ap (λ eq. lookup (eq pair) c.self.inside.categories.entries) pair_eq
    ∙ c.self.invariant.categories pair
    ∙ ap (λ lines. line_category lines c.args.text c.args.form) c.self.view_is
