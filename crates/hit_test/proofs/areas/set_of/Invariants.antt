use Rattle.std.proofs.Common.{◌≡◌, ℕ, take, map, nat_eq}
use Rattle.std.specs.BTreeSet.{contains}
use Rattle.std.specs.List.{list_any}
use Rattle.std.specs.Ordering.{nat_cmp}
use Rattle.hit_test.proofs.areas.set_of.Given as goal

-- the ids so far
abbrev pub invariant-loop-id : goal.invariant-loop-id
invariant-loop-id l = (id : ℕ) → contains nat_cmp l.set id ≡ list_any (nat_eq id) (map (λ i. i.0) (take l.id-index l.ids))
