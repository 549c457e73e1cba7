use Rattle.std.proofs.Common.{◌∙◌, sym, ap}
use Rattle.embellished.specs.Texts.{op_text}
use Rattle.embellished.proofs.Letters.{one_letter, two_letters, more_letters}
use Rattle.embellished.proofs.texts.op_text.Goals as goal

pub returns-in-Some-None-default : goal.returns-in-Some-None-default
unfolding op_text
returns-in-Some-None-default c =
    let start = sym c.chars-letters.ensures.rest in
    let first = (c.in-Some-None-default.ensures {u = tt}).steps.0 in
    let ends = rw c.in-Some-None-default.is-1 at c.next-2.ensures.steps.0 in
    ap op_text (sym (one_letter c.args.text.now _ _ c.utf8.text (start ∙ first) ends.0))

pub returns-in-Some-Some-None : goal.returns-in-Some-Some-None
unfolding op_text
returns-in-Some-Some-None c =
    let start = sym c.chars-letters.ensures.rest in
    let first = (c.in-Some-Some-None.ensures {u = tt}).steps.0 in
    let second = (c.in-Some-Some-None.ensures' {u = tt}).steps.0 in
    let ends = (c.in-Some-Some-None.ensures'' {u = tt}).steps.0 in
    c.two.ensures ∙ ap op_text (sym (two_letters c.args.text.now _ _ c.utf8.text (start ∙ first) _ _ second ends.0))

pub returns-in-Some-Some-Some : goal.returns-in-Some-Some-Some
unfolding op_text
returns-in-Some-Some-Some c =
    let start = sym c.chars-letters.ensures.rest in
    let first = (c.in-Some-Some-Some.ensures {u = tt}).steps.0 in
    let second = (c.in-Some-Some-Some.ensures' {u = tt}).steps.0 in
    let third = (c.in-Some-Some-Some.ensures'' {u = tt}).steps.0 in
    ap op_text (sym (more_letters c.args.text.now _ _ c.utf8.text (start ∙ first) _ _ second _ _ third))
