-- What holds of all rows.
use Rattle.std.specs.Prelude.{◌≡◌, ℕ, ◌+◌, ◌<◌, ◌==◌, Bool, List, length, count_by, slice_get, Some, ℤ, ◌+ℤ◌}
use Rattle.std.specs.List.{AllPass}
use Rattle.fixed_units.specs.Sums.{sum_to}
use Rattle.fixed_units.specs.declared.pull.Pull.{Pull}
use Rattle.fixed_units.specs.declared.pull.Pull.TheVariants.{Free, Block, Inline}
use Rattle.op_dictionary.specs.declared.operator.Axis.TheVariants.{Block as Upright}
use Rattle.row_stretch.specs.declared.parts.Ask.{Ask}
use Rattle.row_stretch.specs.declared.parts.KidPull.{KidPull}
use Rattle.row_stretch.specs.declared.parts.Row.{Row}
use Rattle.row_stretch.specs.declared.parts.RowKid.{RowKid}
use Rattle.row_stretch.specs.Equation.{ahead_at, advance_at}
use Rattle.row_stretch.specs.Questions.{stretches}

-- ---- questions

-- how often the child at a place is asked
abbrev pub asked : ℕ → List Ask → ℕ
asked place asks = count_by (λ ask. ask.kid == place) asks

abbrev pub IsPulled : Pull → Type 0
IsPulled Free = ⊥
IsPulled (Block ascent descent) = Unit {0}
IsPulled (Inline width) = Unit {0}

-- each child stretches upward and downward
abbrev pub AllStretch : List KidPull → Type 0
AllStretch kids = AllPass (stretches Upright) kids

-- ---- places

-- the first child begins behind what stands ahead of it; each next one begins behind the end of the
-- one before and what stands ahead; the last one ends where the row does
pub record StandSideBySide (spaces : Bool) (kids : List RowKid) (row : Row) : Type 0 where
  pub count : length row.offsets ≡ length kids
  pub first : 0 < length kids → slice_get row.offsets 0 ≡ Some (ahead_at spaces kids 0)
  pub next : (place : ℕ) (x : ℤ) → place + 1 < length kids → slice_get row.offsets place ≡ Some x →
      slice_get row.offsets (place + 1)
      ≡ Some (x +ℤ advance_at spaces kids place +ℤ ahead_at spaces kids (place + 1))
  pub last : (place : ℕ) (x : ℤ) → place + 1 ≡ length kids → slice_get row.offsets place ≡ Some x →
      row.frame.width ≡ x +ℤ advance_at spaces kids place
  pub width : row.frame.width
      ≡ sum_to (length kids) (λ place. ahead_at spaces kids place)
      +ℤ sum_to (length kids) (λ place. advance_at spaces kids place)
