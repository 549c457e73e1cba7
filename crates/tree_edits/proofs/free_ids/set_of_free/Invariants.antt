use Rattle.std.proofs.Common.{◌≡◌, ℕ, take, false}
use Rattle.tree_edits.proofs.FreeIds.{is_bad}
use Rattle.tree_edits.specs.FreeIds.{is_among}
use Rattle.tree_edits.proofs.free_ids.set_of_free.Given as goal

-- those so far differ and lie below the next id, and the set has them and no other
abbrev pub invariant-loop-id : goal.invariant-loop-id
invariant-loop-id l = (is_bad (take l.id-index l.ids) l.next ≡ false) × ((id : ℕ) → is_among l.own.keys id ≡ is_among (take l.id-index l.ids) id)
