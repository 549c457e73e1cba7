-- What a session is after an edit, told by the calls that carry it out.
use Rattle.std.proofs.Common.{◌≡◌, sym, ap, subst, ℕ, ◌+◌, ◌*◌, ◌≤◌, arith}
use Rattle.std.specs.List.{AllByRecursion, sum_by}
use Rattle.font_metrics.specs.Metrics.{MetricsValue}
use Rattle.math_tree.specs.Trees.{IsWhole, TreeValue}
use Rattle.tree_edits.specs.declared.edit.Edit.{Edit}
use Rattle.box_pool.specs.Runs.{cell_count}
use Rattle.outcome_cells.specs.Store.{Runs}
use Rattle.kept_results.specs.Ends.{kept_count, sealed, settled}
use Rattle.kept_results.specs.Grown.{GrownByPairs, pair_cells}
use Rattle.kept_results.specs.Kept.{Holds, Keeps}
use Rattle.kept_results.specs.Passes.{Needs}
use Rattle.kept_results.specs.declared.memo.Memo.{Memo}
use Rattle.kept_results.proofs.Sealing.{seal_law}
use Rattle.memo_tree.specs.Kept.{TakesMissing}
use Rattle.memo_tree.proofs.Kept.{count_sealed}
use Rattle.memo_tree.specs.Counted.{EntriesStay}
use Rattle.memo_tree.specs.States.{IsPassed}
use Rattle.memo_tree.specs.Trees.{IsLaidOut, MemoTreeValue, context_of}
use Rattle.edit_session.specs.Session.{session_of}
use Rattle.edit_session.specs.Sweeping.{HasFewCells}
use Rattle.edit_session.proofs.Pairs.{few_of_tree}
use Rattle.edit_session.proofs.Staying.{held_settled}

-- entries that stay over the change stay over the pass and the seal
pub entries_stay : (old changed passed new : MemoTreeValue) (edit : Edit) → IsLaidOut old → EntriesStay old edit changed → Keeps changed.memo passed.memo → IsPassed passed
    → new.memo ≡ sealed passed.memo → EntriesStay old edit new
entries_stay old changed passed new edit laid h keeps pass is = record {
  path = h.path;
  change = h.change;
  is = h.is;
  stays = λ before behind entry came held.
      let there = keeps.at behind entry (h.stays before behind entry came held) in
      let after = (seal_law passed.metrics passed.tree.root passed.memo pass.stopped.agrees).stays behind entry there in
      let same = held_settled before old.memo entry record { unmarked = laid.sealed.unmarked; plain = laid.sealed.ready.plain } held in
      subst (λ (memo : Memo). Holds behind memo entry) (sym is) (subst (Holds behind (sealed passed.memo)) same after);
}

-- a pass makes no more layouts than the tree needs
pub few_after : (m : MetricsValue) (tree : TreeValue) (before after : Memo) (from to : ℕ) → IsWhole tree → TakesMissing m tree.root (context_of m tree) before from to
    → to + kept_count before ≡ from + kept_count after → kept_count before ≤ 131_072 → kept_count (sealed after) ≤ 262_144
few_after m tree before after from to whole takes all few =
    omega (arith, takes.steps, all, few, few_of_tree m tree takes.pairs whole takes.apart takes.needed, count_sealed after)

-- what comes to the runs of a tree with its kept layouts
abbrev GrownIn : MetricsValue → TreeValue → Runs → Runs → Type 0
GrownIn m tree before after = GrownByPairs m tree.root (Needs m tree.root (context_of m tree)) before after

-- over the seal, and from before the change
pub grown_from : (changed new : MemoTreeValue) (before runs : Runs) → GrownIn changed.metrics changed.tree changed.store.runs runs → new.tree ≡ changed.tree
    → new.metrics ≡ changed.metrics → new.store.runs ≡ runs → changed.store.runs ≡ before → GrownIn new.metrics new.tree before new.store.runs
grown_from changed new before runs h tree metrics stored same =
    subst (λ (m : MetricsValue). GrownIn m new.tree before new.store.runs) (sym metrics)
    (subst (λ (t : TreeValue). GrownIn changed.metrics t before new.store.runs) (sym tree)
    (subst (GrownIn changed.metrics changed.tree before) (sym stored) (subst (λ (r : Runs). GrownIn changed.metrics changed.tree r runs) same h)))

-- what comes to the store are the cells of layouts that the tree needs
pub few_cells : (changed new : MemoTreeValue) (runs : Runs) (swept_cells : ℕ)
    → GrownByPairs changed.metrics changed.tree.root (Needs changed.metrics changed.tree.root (context_of changed.metrics changed.tree)) changed.store.runs runs
    → new.tree ≡ changed.tree → new.metrics ≡ changed.metrics → new.store.runs ≡ runs → cell_count changed.store.runs ≤ 2 * swept_cells
    → HasFewCells (session_of new swept_cells)
few_cells changed new runs swept_cells h tree metrics stored few =
    let Has : MetricsValue → TreeValue → Runs → Type 0 =
    λ m t r. AllByRecursion (Needs m t.root (context_of m t)) h.pairs × (cell_count r ≤ 2 * swept_cells + sum_by (pair_cells m t.root) h.pairs) in
    let there : Has changed.metrics changed.tree runs = (h.needed_all, omega (arith, h.cells, few)) in
    let moved : Has new.metrics new.tree new.store.runs =
    subst (λ (m : MetricsValue). Has m new.tree new.store.runs) (sym metrics)
    (subst (λ (t : TreeValue). Has changed.metrics t new.store.runs) (sym tree) (subst (Has changed.metrics changed.tree) (sym stored) there)) in
    record { pairs = h.pairs; needed = moved.0; apart = h.apart; bound = moved.1 }
