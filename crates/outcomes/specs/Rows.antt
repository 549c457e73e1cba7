-- What holds of a row of children that can be stored.
use Rattle.std.specs.Prelude.{◌^◌}
use Rattle.std.specs.List.{All}
use Rattle.fixed_units.specs.Boxes.{IsBoxWithin}
use Rattle.fixed_units.specs.Numbers.{IsWithin}
use Rattle.radicals.specs.Equation.{IsRow}
use Rattle.row_stretch.specs.declared.parts.Row.{Row}

-- how far a row of at most 65,535 children that can be stored reaches; cells in slots may stand
-- farther from its start than other children
pub record IsRowWithin (row : Row) : Type 0 where
  pub frame : IsBoxWithin (2 ^ 50) row.frame
  pub heights : IsRow row.frame
  pub offsets : All (IsWithin (2 ^ 61)) row.offsets
