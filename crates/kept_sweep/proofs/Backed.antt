-- The runs of what a sweep leaves, and of a first layout.
use Rattle.std.proofs.Common.{◌≡◌, refl, sym, subst, ℕ, List, [], ◌∷◌, None}
use Rattle.math_tree.specs.declared.node.Node.{Node}
use Rattle.outcome_cells.specs.Store.{StoreValue}
use Rattle.kept_results.specs.Kept.{HasEntry, Holds, StandAt}
use Rattle.kept_results.specs.declared.memo.Entry.{Entry}
use Rattle.kept_results.specs.declared.memo.Memo.{Memo}
use Rattle.kept_results.specs.declared.memo.Memo.TheViews.{out-Memo}
use Rattle.kept_sweep.specs.Laws.{PartBackedLaw, PartOwnRunsLaw}

-- an entry of an element is held at its path
pub held_at : (path : List ℕ) (node : Node) (memo : Memo) (element : Node) (kept : Memo) (entry : Entry) → StandAt path node memo element kept → HasEntry (out-Memo kept) entry
    → Holds path memo entry
held_at [] node memo element kept entry s has = subst (λ (z : Memo). HasEntry (out-Memo z) entry) s.1 has
held_at (place ∷ path) node memo element kept entry s has = (s.1, s.3, held_at path s.0 s.1 element kept entry s.4 has)

-- an entry that is held at the path of an element is one of that element
stands_at : (path : List ℕ) (node : Node) (part whole : Memo) (element : Node) (kept : Memo) (entry : Entry) → StandAt path node part element kept → Holds path whole entry
    → (other : Memo) × StandAt path node whole element other × HasEntry (out-Memo other) entry
stands_at [] node part whole element kept entry s held = (whole, (s.0, refl), held)
stands_at (place ∷ path) node part whole element kept entry s held =
    let r = stands_at path s.0 s.1 held.0 element kept entry s.4 held.2 in
    (r.0, (s.0, held.0, s.2, held.1, r.1), r.2)

pub part_backed_law : PartBackedLaw
part_backed_law m runs node part whole h is = record {
  at = λ path element kept entry s has.
      let held = is path entry (held_at path node part element kept entry s has) in
      let r = stands_at path node part whole element kept entry s held in
      h.at path element r.0 entry r.1 r.2;
}

pub part_own_runs_law : PartOwnRunsLaw
part_own_runs_law part whole h is = record {
  at = λ path other a b x y same. h.at path other a b (is path a x) (is other b y) same;
}

-- ---- a store without a checkpoint

-- one that was rolled back is as before
pub idle_again : (store : StoreValue) → store.checkpoint ≡ None → (let s : StoreValue = record { runs = store.runs; checkpoint = None } in s) ≡ store
idle_again store idle = λ i. record { runs = store.runs; checkpoint = sym idle i }
