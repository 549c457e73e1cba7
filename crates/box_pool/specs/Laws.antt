-- What is found in a pool after a call.
use Rattle.std.specs.Prelude.{◌≡◌, ◌≢◌, ℕ, List, [], ◌∷◌, ◌++◌, length, map, eqb, if◌then◌else◌, Some, None}
use Rattle.std.specs.List.{All, IsDistinct}
use Rattle.std.specs.Map.{keys_of}
use Rattle.std.specs.Option.{IsSome}
use Rattle.box_pool.specs.declared.cell.Cell.{Cell}
use Rattle.box_pool.specs.declared.pool.RunId.{RunId}
use Rattle.box_pool.specs.Region.{cells_in, kept_of}
use Rattle.box_pool.specs.Runs.{is_listed}

-- under the new id the piece is found, and under each other id what was found before
pub record PutsOne (before after : List (ℕ × List Cell)) (id : ℕ) (piece : List Cell) : Type 0 where
  pub new : cells_in after id ≡ Some piece
  pub others : (other : ℕ) → other ≢ id → cells_in after other ≡ cells_in before other

abbrev pub PutLaw : Type 0
PutLaw = (runs : List (ℕ × List Cell)) (id : ℕ) (piece : List Cell) → cells_in runs id ≡ None →
    PutsOne runs (runs ++ (id, piece) ∷ []) id piece

-- under a listed id is found what was found before, and nothing under any other
abbrev pub SweepLaw : Type 0
SweepLaw = (runs : List (ℕ × List Cell)) (keep : List RunId) (id : ℕ) →
    cells_in (kept_of keep runs) id ≡ (if is_listed keep id then cells_in runs id else None)

-- as many runs are kept as are listed, where each listed one is live and none is listed twice
abbrev pub SweptCountLaw : Type 0
SweptCountLaw = (runs : List (ℕ × List Cell)) (keep : List RunId) → IsDistinct eqb (keys_of runs) →
    IsDistinct eqb (map (λ run. run.0) keep) → All (λ run. IsSome (cells_in runs run.0)) keep →
    length (kept_of keep runs) ≡ length keep
