use Rattle.std.proofs.Common.{◌≡◌, ◌∙◌, sym, subst, cond, false, is_some, Some}
use Rattle.std.specs.Map.{lookup}
use Rattle.op_dictionary.specs.declared.text.OpText.{OpText}
use Rattle.op_dictionary.proofs.Keys.{text_eq}
use Rattle.op_dictionary.proofs.Lines.{put-new}
use Rattle.op_dictionary.proofs.Same.{same_texts}
use Rattle.op_dictionary.proofs.extra.add_axis.Goals as goal

pub returns-in_ok-insert-clause-ok : goal.returns-in_ok-insert-clause-ok
returns-in_ok-insert-clause-ok c =
    let line = c.args.line in
    let before = c.args.axes.now.entries in
    let after = c.insert.new.self.entries in
    record {
      added = put-new same_texts before line.text line.axis after
          (subst (λ eq. is_some (lookup (eq line.text) before) ≡ false) text_eq
          (sym c.contains_key.ensures ∙ c.if-not-contains_key.true))
          (subst (λ eq. (text : OpText) → lookup (eq text) after ≡ cond (eq line.text text) (Some line.axis) (lookup (eq text) before))
          text_eq c.in_ok-insert.ensures.updates.0);
    }
