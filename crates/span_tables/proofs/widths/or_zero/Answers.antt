use Rattle.std.proofs.Common.{rules, ◌∙◌, ◌++◌, ◌∷◌, [], sym, ap, get_or, None, List, ℤ}
use Rattle.std.proofs.lemmas.List.{map_more}
use Rattle.span_tables.specs.Largest.{or_zero_of}
use Rattle.span_tables.proofs.widths.or_zero.Goals as goal

pub loop-width-preserved : goal.loop-width-preserved
loop-width-preserved c =
    let largest = c.args.largest.now in
    let i = c.loop-width.width-index in
    (c.in_ok-push.ensures {u = tt}).items
    ∙ ap (λ (w : ℤ). c.loop-width.widths.items ++ w ∷ []) (search rules)
    ∙ ap (λ (ws : List ℤ). ws ++ or_zero_of (get_or largest i None) ∷ []) c.loop-width.invariant
    ∙ sym (map_more or_zero_of largest i None c.loop-width-test.true)
