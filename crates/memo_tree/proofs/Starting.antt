-- What a first layout keeps, when it is sealed: the layouts that were made, and they are the ones that are needed.
use Rattle.std.proofs.Common.{◌≡◌, ◌∙◌, sym, ap, refl, true, ℕ, ◌+◌, length, [], arith}
use Rattle.font_metrics.specs.Metrics.{MetricsValue}
use Rattle.math_tree.specs.declared.node.Node.{Node}
use Rattle.layout_model.specs.declared.context.Context.{Context}
use Rattle.kept_results.specs.Ends.{kept_count, sealed, settled}
use Rattle.kept_results.specs.Kept.{HoldsOne, IsKept}
use Rattle.kept_results.specs.Passes.{Needs, Passes}
use Rattle.kept_results.specs.declared.memo.Entry.{Entry}
use Rattle.kept_results.specs.declared.memo.Memo.{Memo}
use Rattle.kept_results.specs.declared.memo.Memo.TheViews.{out-Memo}
use Rattle.kept_results.proofs.Sealing.{seal_law}
use Rattle.kept_results.proofs.Whole.{kept_law}
use Rattle.kept_edits.specs.Blank.{blank}
use Rattle.kept_sweep.specs.Swept.{KeepsNeeded}
use Rattle.kept_edits.proofs.Counting.{count_blank}
use Rattle.kept_sweep.proofs.Totals.{count_sealed, each_of, kept_among}

module _ (m : MetricsValue) (node : Node) (context : Context) (memo made : Memo) (from to : ℕ) (nothing : memo ≡ blank node)
    (passed : Passes m node (Needs m node context) memo made from to true) (kept : IsKept (out-Memo made) context) where
  none_before : kept_count memo ≡ 0
  none_before = ap kept_count nothing ∙ count_blank node

  -- each entry is one that the pass made
  as_many : kept_count made ≡ length passed.pairs
  as_many = omega (arith, none_before, passed.grown refl)

  -- so nothing is to be swept
  pub start_law : KeepsNeeded m node context (sealed made)
  start_law =
      let seals = seal_law m node made passed.agrees in
      let one : HoldsOne [] made context = record { entry = kept.entry; held = kept.has; in_context = kept.in_context } in
      record {
        agrees = seals.agrees;
        unmarked = seals.unmarked;
        plain = seals.plain;
        all = λ pair need.
            let k = kept_law m node made context passed.agrees one pair need in
            record { entry = settled k.entry; held = seals.stays pair.path k.entry k.held; in_context = k.in_context };
        no_other = λ pair k.
            let was = seals.was pair.path k.entry k.held in
            let former : HoldsOne pair.path made pair.context =
            record { entry = was.former; held = was.held; in_context = ap (λ (e : Entry). e.context) (sym was.is) ∙ k.in_context } in
            let at = kept_among made passed.pairs passed.apart (passed.kept refl) as_many pair former in
            each_of (Needs m node context) passed.pairs passed.needed_all at.0 pair at.1;
      }

  -- and there were as many steps as there are entries
  pub start_steps : to ≡ from + kept_count (sealed made)
  start_steps = omega (arith, as_many, passed.steps, count_sealed made)
