-- What contracts see of a pool: a finite map from ids to lists of cells, with one checkpoint.
use Rattle.std.specs.Prelude.{ℕ, ◌+◌, ◌<◌, ◌≤◌, Bool, if◌then◌else◌, List, length, take, eqb, Option, Some, None}
use Rattle.std.specs.List.{All, IsDistinct, filter}
use Rattle.std.specs.Map.{lookup}
use Rattle.std.specs.Option.{IsSome}
use Rattle.box_pool.specs.declared.cell.Cell.{Cell}
use Rattle.box_pool.specs.declared.place.Place.{Place}
use Rattle.box_pool.specs.declared.place.Extent.{Extent}
use Rattle.box_pool.specs.declared.pool.RunId.{RunId}
use Rattle.box_pool.specs.Runs.{Follows, cell_count, is_listed}

-- the live runs, each under its id with its cells, in the order in which they were put; those at
-- `begin`, while an epoch is begun; for how many cells and runs there is room in all
pub record Region : Type 0 where
  pub runs : List (ℕ × List Cell)
  pub checkpoint : Option (List (ℕ × List Cell))
  pub cell_room : ℕ
  pub run_room : ℕ

-- the cells of a run, where it is one of these
abbrev pub cells_in : List (ℕ × List Cell) → ℕ → Option (List Cell)
cells_in runs id = lookup (eqb id) runs

-- the cells of a live run
abbrev pub cells_at : Region → ℕ → Option (List Cell)
cells_at region id = cells_in region.runs id

-- these are ids of live runs
abbrev pub AllLive : Region → List RunId → Type 0
AllLive region ids = All (λ run. IsSome (cells_at region run.0)) ids

-- there is room for so many more cells and runs
abbrev pub HasSpare : Region → ℕ → ℕ → Type 0
HasSpare region cells runs =
    (cell_count region.runs + cells ≤ region.cell_room)
    × (length region.runs + runs ≤ region.run_room)

-- the runs whose ids are listed, in their order
abbrev pub kept_of : List RunId → List (ℕ × List Cell) → List (ℕ × List Cell)
kept_of keep runs = filter (λ run. is_listed keep run.0) runs

-- ---- the fields of a pool

-- the runs at `begin`, while an epoch is begun
abbrev pub checkpoint_of : Bool → List (ℕ × List Cell) → Option (List (ℕ × List Cell))
checkpoint_of begun runs = if begun then Some runs else None

-- they fit each other: the live runs, and those at the checkpoint, stand at the front of the block
-- one after another, their ids at the front of an order of all ids
pub record IsWhole (cells : List Cell) (places : List Place) (order : List ℕ) (marks : List Bool)
    (held checkpoint : Extent) (cell_room run_room : ℕ) : Type 0 where
  pub distinct : IsDistinct eqb order
  pub below : All (λ id. id < length order) order
  pub placed : length order ≤ length places
  pub marked : length order ≤ length marks
  pub live : held.live ≤ run_room
  pub used : held.used ≤ cell_room
  pub runs_fit : run_room ≤ length order
  pub cells_fit : cell_room ≤ length cells
  pub follows : Follows places 0 (take held.live order) held.used
  pub checkpoint_live : checkpoint.live ≤ held.live
  pub checkpoint_used : checkpoint.used ≤ held.used
  pub checkpoint_follows : Follows places 0 (take checkpoint.live order) checkpoint.used
