-- How a list lends one of its items.
use Rattle.std.specs.Prelude.{ℕ, List, slice_set}
use Rattle.std.specs.Borrow.{Lends, MutBor, Fml}
use denote.RattleType.{RattleType}
use Rattle.fixed_units.specs.contracts.list.List.{the_row}

-- the list ends as it began, but for the item at the index, which is as the borrower left it
abbrev pub LendsItem : (T : RattleType) → MutBor (List T.Denot) → ℕ → MutBor T.Denot → Fml
LendsItem T list index item = Lends (the_row T) T list item (slice_set list.now index)
