use Rattle.std.proofs.Common.{◌≡◌, ◌∙◌, sym, ap, subst, map, List, IfOk}
use Rattle.std.proofs.lemmas.List.{map-set}
use Rattle.embellished.specs.declared.facts.Facts.{Facts}
use Rattle.kept_results.specs.Looking.{own_facts}
use Rattle.splices.specs.Splicing.{spliced}
use Rattle.splices.specs.declared.splice.Splice.{Splice}
use Rattle.kept_results.specs.declared.memo.Memo.{Memo}
use Rattle.kept_edits.proofs.known.kids_after.Goals as goal

pub returns-in-Swap : goal.returns-in-Swap
returns-in-Swap c =
    subst (λ (l : List Facts). IfOk c.kids_with.result (λ kids. kids ≡ l))
    (sym (map-set own_facts c.args.below.now c.in-Swap.index c.in-Swap.memo)
    ∙ ap (λ (splice : Splice Memo). map own_facts (spliced splice c.args.below.now)) (sym c.in-Swap.is)) c.kids_with.ensures
