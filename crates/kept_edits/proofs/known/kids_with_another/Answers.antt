use Rattle.std.proofs.Common.{◌∙◌, sym, ap, List, insert}
use Rattle.embellished.specs.declared.facts.Facts.{Facts}
use Rattle.kept_results.specs.Looking.{own_facts}
use Rattle.kept_edits.proofs.Lists.{map-inserted}
use Rattle.kept_edits.proofs.known.kids_with_another.Goals as goal

pub returns : goal.returns
returns c =
    c.insert.ensures
    ∙ ap (λ (kids : List Facts). insert kids c.args.place (own_facts c.args.memo.now)) (c.in_ok-kids.ensures {u = tt})
    ∙ sym (map-inserted own_facts c.args.below.now c.args.place c.args.memo.now)
