use Rattle.std.proofs.Common.{◌∙◌, sym, ap}
use Rattle.token_boxes.specs.Letters.{lone}
use Rattle.token_boxes.proofs.Spelling.{only_one, two_or_more}
use Rattle.token_boxes.proofs.tokens.lone.Goals as goal

pub returns-in-Some : goal.returns-in-Some
returns-in-Some c =
    let start = sym c.chars-letters.ensures.rest in
    let first = c.in_ok-first.ensures.steps.0 in
    let second = (c.in-Some.ensures {u = tt}).steps.0 in
    ap lone (sym (two_or_more c.args.text.now _ _ c.utf8.text (start ∙ first) _ _ second))

pub returns-in-None : goal.returns-in-None
returns-in-None c =
    let start = sym c.chars-letters.ensures.rest in
    let first = c.in_ok-first.ensures.steps.0 in
    let ends = (c.in-None.ensures {u = tt}).steps.0.0 in
    ap lone (sym (only_one c.args.text.now _ _ c.utf8.text (start ∙ first) ends))
