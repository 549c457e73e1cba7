use Rattle.std.proofs.Common.{◌≡◌, ◌∙◌, ap, subst, [], ◌∷◌, ◌++◌, cond, Some}
use Rattle.std.specs.Map.{lookup}
use Rattle.op_dictionary.specs.declared.extra.Pair.{Pair}
use Rattle.op_dictionary.specs.Dictionary.{is_named}
use Rattle.op_dictionary.proofs.Keys.{pair_eq}
use Rattle.op_dictionary.proofs.Lines.{kept-same, kept-more}
use Rattle.op_dictionary.proofs.extra.Extra.add.Goals as goal

pub invariant_of-self-in_err-add_axis : goal.invariant_of-self-in_err-add_axis
invariant_of-self-in_err-add_axis c =
    let before = c.self.inside.categories.entries in
    let after = c.reserve-2.new.self.entries in
    kept-same _ _ c.self.invariant c.in_ok-reserve.ensures.items
    (subst (λ eq. (pair : Pair) → lookup (eq pair) after ≡ lookup (eq pair) before) pair_eq c.in_ok-reserve-2.ensures.entries.2)
    c.in_err-add_axis.ensures.err

pub invariant_of-self-2 : goal.invariant_of-self-2
invariant_of-self-2 c =
    let line = c.args.line in
    let key : Pair = record { text = line.text; form = line.form } in
    let before = c.self.inside.categories.entries in
    let after = c.insert.new.self.entries in
    kept-more _ _ line c.self.invariant c.requires.text
    (ap (λ lines. is_named lines line.text line.form) c.self.view_is ∙ c.requires.pair)
    (c.in_ok-push.ensures.items ∙ ap (λ lines. lines ++ line ∷ []) c.in_ok-reserve.ensures.items)
    (subst (λ eq. (pair : Pair) → lookup (eq pair) after ≡ cond (eq key pair) (Some line.category) (lookup (eq pair) before))
    pair_eq
    (λ pair. c.in_ok-insert.ensures.updates.0 pair ∙ ap (cond _ (Some line.category)) (c.in_ok-reserve-2.ensures.entries.2 pair)))
    c.in_ok-add_axis.ensures.ok
