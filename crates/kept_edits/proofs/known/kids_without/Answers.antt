use Rattle.std.proofs.Common.{◌∙◌, sym, ap, List, remove}
use Rattle.embellished.specs.declared.facts.Facts.{Facts}
use Rattle.kept_results.specs.Looking.{own_facts}
use Rattle.kept_edits.proofs.Lists.{map-removed}
use Rattle.kept_edits.proofs.known.kids_without.Goals as goal

pub returns : goal.returns
returns c =
    c.remove.ensures.others
    ∙ ap (λ (kids : List Facts). remove kids c.args.place) (c.in_ok-kids.ensures {u = tt})
    ∙ sym (map-removed own_facts c.args.below.now c.args.place)
