use Rattle.std.proofs.Common.{subst}
use Rattle.layout_model.specs.Layout.{lay}
use Rattle.layout_model.specs.declared.context.Context.{Context}
use Rattle.outcome_cells.specs.Store.{HasOutcome}
use Rattle.kept_results.proofs.Backed.{own_backed}
use Rattle.kept_laid.proofs.lookup.root_box.Goals as goal

pub parts-requires : goal.parts-requires
parts-requires c = c.requires.backed c.kept_entry-entry.result.now c.kept_entry-entry.ensures.has

pub returns : goal.returns
returns c = λ m node backed.
    let found = c.kept_entry-entry.ensures in
    let entry = c.kept_entry-entry.result.now in
    let runs = c.args.store.now.runs in
    (c.parts.ensures (lay m node c.args.context.now)
    (subst (λ (x : Context). HasOutcome runs entry.run.0 (lay m node x)) found.in_context (own_backed m runs node c.args.memo.now backed entry found.has))).frame
