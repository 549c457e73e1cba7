use Rattle.std.proofs.Common.{◌∙◌, sym, subst, List, [], length}
use Rattle.fixed_units.specs.Sums.{list_to}
use Rattle.multiscripts.specs.declared.parts.Multi.{Multi}
use Rattle.layout_model.specs.Elements.{outcome}
use Rattle.layout_model.specs.Equations.{multi_outcome, offset_in, with_pairs}
use Rattle.layout_model.specs.declared.outcome.Offset.{Offset}
use Rattle.outcomes.specs.Outcomes.{IsOutcome}
use Rattle.outcomes.specs.Reach.{offset_reached}
use Rattle.outcomes.proofs.Lists.{map_list_to}
use Rattle.outcomes.proofs.Reach.{told}
use Rattle.outcomes.proofs.pairs.multi_outcome.Goals as goal

pub returns : goal.returns
unfolding multi_outcome
returns g c =
    let e = c.args.e.now in
    let multi = c.in_ok-multi.multi in
    let n = length e.seen.kids in
    let exact : List Offset = list_to n (offset_in e multi) in
    let placed = c.in_ok-offsets.ensures {u = tt} ∙ sym (map_list_to offset_reached n (offset_in e multi)) in
    let made = c.outcome.ensures ∙ (λ i. outcome e multi.frame (placed i) (c.make.ensures i)) in
    let known = subst (IsOutcome (with_pairs e multi)) (sym made) (told e multi.frame exact []) in
    subst (λ (m : Multi). IsOutcome (with_pairs e m) c.outcome.result) (c.in_ok-multi.ensures {u = tt}) known
