use Rattle.std.proofs.Common.{◌∙◌, ap, is_some}
use Rattle.std.specs.Map.{lookup}
use Rattle.op_dictionary.specs.declared.extra.Pair.{Pair}
use Rattle.op_dictionary.specs.Dictionary.{is_named, line_of}
use Rattle.op_dictionary.proofs.Found.{is_some-option_map}
use Rattle.op_dictionary.proofs.Keys.{pair_eq}
use Rattle.op_dictionary.proofs.extra.Extra.has.Goals as goal

pub returns : goal.returns
returns c =
    let pair : Pair = record { text = c.args.text; form = c.args.form } in
    c.contains_key.ensures
    ∙ ap (λ eq. is_some (lookup (eq pair) c.self.inside.categories.entries)) pair_eq
    ∙ ap is_some (c.self.invariant.categories pair)
    ∙ is_some-option_map (λ line. line.category) (line_of c.self.inside.lines.items c.args.text c.args.form)
    ∙ ap (λ lines. is_named lines c.args.text c.args.form) c.self.view_is
