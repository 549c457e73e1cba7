-- The runs of kept layouts: which those are, and when a store has one for each and no other.
use Rattle.std.specs.Prelude.{◌≡◌, ℕ, Bool, List, ◌++◌, filter, length, map}
use Rattle.std.specs.List.{flat_map}
use Rattle.std.specs.Option.{IsSome}
use Rattle.box_pool.specs.Region.{cells_in}
use Rattle.box_pool.specs.declared.pool.RunId.{RunId}
use Rattle.outcome_cells.specs.Store.{Runs}
use Rattle.kept_results.specs.Backed.{HaveOwnRuns}
use Rattle.kept_results.specs.Ends.{kept_count}
use Rattle.kept_results.specs.Kept.{Holds, is_live, is_marked}
use Rattle.kept_results.specs.declared.memo.Entry.{Entry}
use Rattle.kept_results.specs.declared.memo.Memo.{Memo}
use Rattle.kept_results.specs.declared.memo.Memo.TheFolds.{fold-Memo}
use Rattle.kept_results.specs.declared.memo.Memo.TheOpen.{Memo-F}

-- ---- listed

-- those of the entries of an element, marked or not, that are no older ones
abbrev pub live_runs : Bool → List Entry → List RunId
live_runs marked entries = map (λ (entry : Entry). entry.run) (filter (is_live marked) entries)

abbrev pub runs_in : Memo-F (List RunId) → List RunId
runs_in layer = live_runs (is_marked layer) layer.entries ++ flat_map (λ below. below) layer.below

-- the runs of all entries that are no older ones, an element's own before those below it
abbrev pub runs_of : Memo → List RunId
runs_of memo = fold-Memo (List RunId) runs_in memo

-- ---- one each

-- an entry that is no older one has this run
pub record IsRunOfEntry (memo : Memo) (id : ℕ) : Type 0 where
  pub path : List ℕ
  pub entry : Entry
  pub held : Holds path memo entry
  pub is : entry.run.0 ≡ id

-- there is exactly one run for each entry that is no older one, and no other run
pub record HaveOneRunEach (runs : Runs) (memo : Memo) : Type 0 where
  pub as_many : length runs ≡ kept_count memo
  pub live : (path : List ℕ) (entry : Entry) → Holds path memo entry
      → IsSome (cells_in runs entry.run.0)
  pub no_other : (id : ℕ) → IsSome (cells_in runs id) → IsRunOfEntry memo id
  pub own : HaveOwnRuns memo
