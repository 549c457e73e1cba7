use Rattle.std.proofs.Common.{◌∙◌, sym, ap, subst, arith, length, [], ◌∷◌, All}
use Rattle.std.proofs.lemmas.List.Elements.{All-append, All-cons, All-nil}
use Rattle.fixed_units.proofs.Sums.{length-list_to, list_to-zero, list_to-add_one}
use Rattle.layout_model.specs.Equations.{pair_at}
use Rattle.multiscripts.specs.Along.{IsPairStored}
use Rattle.outcomes.proofs.pairs.pairs_of.Goals as goal

pub loop-index-init : goal.loop-index-init
loop-index-init g c = record {
  value = c.make-pairs.ensures ∙ sym (list_to-zero (pair_at c.args.e.now));
  stored = subst (All IsPairStored) (sym c.make-pairs.ensures) (All-nil IsPairStored);
}

pub loop-index-preserved : goal.loop-index-preserved
loop-index-preserved g c =
    let pushed = (c.in_ok-push.ensures {u = tt}).ok in
    let made = c.pair_at.ensures.value in
    let before = c.loop-index.invariant.value in
    let more = list_to-add_one c.loop-index.index (pair_at c.args.e.now) in
    record {
      value = cc;
      stored = subst (All IsPairStored) (sym pushed)
          (All-append IsPairStored c.loop-index.pairs (c.pair_at.result ∷ []) c.loop-index.invariant.stored
          (All-cons IsPairStored c.pair_at.result [] c.pair_at.ensures.stored (All-nil IsPairStored)));
    }

pub returns-clause-few : goal.returns-clause-few
returns-clause-few g c =
    let all = ap length c.loop-index.invariant.value ∙ length-list_to c.loop-index.index (pair_at c.args.e.now) in
    omega (arith, all, c.count.ensures.few, c.saturating_sub-count.ensures, c.loop-index.auto.index-end)
