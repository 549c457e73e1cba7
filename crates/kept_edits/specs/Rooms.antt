-- Room for one memo more at the end of a way.
use Rattle.std.specs.Prelude.{◌≡◌, ℕ, ◌<◌, List, [], ◌∷◌, length, Some, slice_get}
use Rattle.kept_results.specs.declared.memo.Memo.{Memo}
use Rattle.kept_results.specs.declared.memo.Memo.TheViews.{out-Memo}

-- there are fewer memos of children at the end of a way than this
abbrev pub HasRoom : ℕ → List ℕ → Memo → Type 0
HasRoom room [] memo = length (out-Memo memo).below < room
HasRoom room (place ∷ path) memo =
    (kept : Memo) × (slice_get (out-Memo memo).below place ≡ Some kept) × HasRoom room path kept
