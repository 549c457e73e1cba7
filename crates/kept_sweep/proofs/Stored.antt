-- The runs of a store beside kept layouts: as many as entries, or more.
use Rattle.std.proofs.Common.{◌≡◌, ◌∙◌, sym, ap, subst, ℕ, ◌≤◌, arith, true, List, length, eqb, is_some}
use Rattle.std.proofs.lemmas.List.Elements.{All-from_recursion}
use Rattle.std.proofs.lemmas.Map.Entries.{length-keys_of}
use Rattle.std.proofs.lemmas.Map.Made.{is_some-lookup}
use Rattle.std.proofs.lemmas.Map.Steps.{length-le_from_keys}
use Rattle.std.specs.Cmp.{nat_eq_equiv}
use Rattle.std.specs.List.{All, IsDistinct}
use Rattle.std.specs.Map.{keys_of}
use Rattle.std.specs.Option.{IsSome}
use Rattle.font_metrics.specs.Metrics.{MetricsValue}
use Rattle.math_tree.specs.declared.node.Node.{Node}
use Rattle.box_pool.specs.Region.{cells_in, kept_of}
use Rattle.box_pool.specs.declared.pool.RunId.{RunId}
use Rattle.box_pool.proofs.Lookups.{swept_count}
use Rattle.layout_model.specs.Layout.{lay}
use Rattle.outcome_cells.specs.Store.{Runs}
use Rattle.outcome_cells.proofs.Found.{swept_found}
use Rattle.kept_results.specs.Backed.{HaveOwnRuns, IsBacked}
use Rattle.kept_results.specs.Ends.{kept_count}
use Rattle.kept_results.specs.Kept.{Agrees, Holds}
use Rattle.kept_results.specs.declared.memo.Entry.{Entry}
use Rattle.kept_results.specs.declared.memo.Memo.{Memo}
use Rattle.kept_sweep.specs.RunLaws.{EnoughRunsLaw, OneRunEachLaw}
use Rattle.kept_sweep.specs.Runs.{HaveOneRunEach, runs_of}
use Rattle.kept_sweep.proofs.AllOf.{all_of, has}
use Rattle.kept_sweep.proofs.Backed.{held_at}
use Rattle.kept_sweep.proofs.RunIds.{all_by_ids, count_ids, count_runs, entry_has, ids_distinct, ids_of, listed_in_ids, of_entry, stands}

module _ (m : MetricsValue) (runs : Runs) (node : Node) (memo : Memo) (agrees : Agrees m node memo) (backed : IsBacked m runs node memo) where
  -- the run of each entry is live
  entry_live : (path : List ℕ) (entry : Entry) → Holds path memo entry → IsSome (cells_in runs entry.run.0)
  entry_live path entry held =
      let s = stands m path node memo entry agrees held in
      ap is_some (backed.at path s.0 s.1 entry s.2 s.3).cells_are

  id_live : (q : ℕ) → has (ids_of memo) q ≡ true → IsSome (cells_in runs q)
  id_live q there =
      let e = of_entry memo q there in
      subst (λ (id : ℕ). IsSome (cells_in runs id)) e.is (entry_live e.path e.entry e.held)

  -- what is listed is live
  pub all_live : All (λ (run : RunId). IsSome (cells_in runs run.0)) (runs_of memo)
  all_live =
      All-from_recursion (λ (run : RunId). IsSome (cells_in runs run.0)) (runs_of memo)
      (all_by_ids (λ (q : ℕ). IsSome (cells_in runs q)) (runs_of memo) id_live)

  module _ (own : HaveOwnRuns memo) where
    distinct : IsDistinct eqb (ids_of memo)
    distinct = ids_distinct m memo node agrees own

    enough : kept_count memo ≤ length runs
    enough = omega (arith, count_ids memo, length-le_from_keys nat_eq_equiv (ids_of memo) runs distinct id_live)

    one_each : length runs ≡ kept_count memo → HaveOneRunEach runs memo
    one_each many = record {
      as_many = many;
      live = entry_live;
      no_other = λ id some.
          of_entry memo id
          (all_of (ids_of memo) (keys_of runs) distinct
          (λ q there. sym (is_some-lookup (eqb q) runs) ∙ id_live q there)
          (omega (arith, many, count_ids memo, length-keys_of runs))
          id
          (sym (is_some-lookup (eqb id) runs) ∙ some));
      own = own;
    }

    -- where all runs but those are dropped, as many are left as there are entries
    swept_many : IsDistinct eqb (keys_of runs) → length (kept_of (runs_of memo) runs) ≡ kept_count memo
    swept_many apart = swept_count runs (runs_of memo) apart distinct all_live ∙ count_runs memo

  -- and each has what it had
  pub swept_backed : IsBacked m (kept_of (runs_of memo) runs) node memo
  swept_backed = record {
    at = λ path element kept entry s has_entry.
        let held = held_at path node memo element kept entry s has_entry in
        swept_found runs (runs_of memo) entry.run.0 (lay m element entry.context) (listed_in_ids (runs_of memo) entry.run.0 ∙ entry_has path memo entry held)
        (backed.at path element kept entry s has_entry);
  }

pub enough_runs_law : EnoughRunsLaw
enough_runs_law m runs node memo agrees backed own = enough m runs node memo agrees backed own

pub one_run_each_law : OneRunEachLaw
one_run_each_law m runs node memo agrees backed own many = one_each m runs node memo agrees backed own many

-- a store of which all other runs are dropped has one run for each entry
pub swept_one_each : (m : MetricsValue) (runs : Runs) (node : Node) (memo : Memo) → Agrees m node memo → IsBacked m runs node memo → HaveOwnRuns memo
    → IsDistinct eqb (keys_of runs) → HaveOneRunEach (kept_of (runs_of memo) runs) memo
swept_one_each m runs node memo agrees backed own apart =
    one_each m (kept_of (runs_of memo) runs) node memo agrees (swept_backed m runs node memo agrees backed) own
    (swept_many m runs node memo agrees backed own apart)
