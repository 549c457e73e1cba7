-- Runs that have outcomes.
use Rattle.std.proofs.Common.{◌≡◌, ℕ, List, [], ◌∷◌, ◌++◌, None, Some, cond, sym, ap, ◌∙◌, subst}
use Rattle.box_pool.specs.Region.{Region, cells_at, cells_in}
use Rattle.box_pool.specs.declared.cell.Cell.{Cell}
use Rattle.box_pool.proofs.Lookups.{lookup_put_other, lookup_put_same, lookup_swept}
use Rattle.layout_model.specs.declared.outcome.Outcome.{Outcome}
use Rattle.outcome_cells.specs.Cells.{AreOfOutcome, IsHeld, outcome_cells}
use Rattle.outcome_cells.specs.Laws.{OneForRunLaw, PutOutcomeLaw, SweepOutcomeLaw}
use Rattle.outcome_cells.specs.Store.{HasOutcome, HasSomeOutcome, PutsOutcome, Runs, StoreValue, store_of}
use Rattle.outcome_cells.proofs.OneOutcome.{one_outcome}

some_same : {X : Type 0} (x y : X) → Some x ≡ Some y → x ≡ y
some_same x y same = cc

not_none : {X : Type 0} (found : _) (x : X) → found ≡ None → found ≡ Some x → ⊥
not_none found x none some = cc

-- the cells that are found under the id of a run
pub found_cells : (runs : Runs) (id : ℕ) (o : Outcome) (cells : List Cell) → HasOutcome runs id o → cells_in runs id ≡ Some cells → cells ≡ outcome_cells o
found_cells runs id o cells has found = some_same cells (outcome_cells o) (sym found ∙ has.cells_are)

pub found_some : (runs : Runs) (id : ℕ) (cells : List Cell) → HasSomeOutcome runs id → cells_in runs id ≡ Some cells → AreOfOutcome cells
found_some runs id cells some found = record {
  outcome = some.outcome;
  held = some.has.held;
  cells_are = found_cells runs id some.outcome cells some.has found;
}

-- the outcome that is read from the cells of a run
pub found_again : (runs : Runs) (id : ℕ) (cells : List Cell) (read : Outcome) → HasSomeOutcome runs id → cells_in runs id ≡ Some cells
    → cells ≡ outcome_cells read → HasOutcome runs id read
found_again runs id cells read some found is =
    let same : some.outcome ≡ read = one_outcome some.outcome read (sym (found_cells runs id some.outcome cells some.has found) ∙ is) in
    record { held = subst IsHeld same some.has.held; cells_are = found ∙ ap Some is }

pub one_for_run : OneForRunLaw
one_for_run runs id a b has_a has_b = one_outcome a b (found_cells runs id b (outcome_cells a) has_b has_a.cells_are)

pub put_found : PutOutcomeLaw
put_found runs id o none held = record {
  new = record { held = held; cells_are = lookup_put_same runs id (outcome_cells o) none };
  others = λ other x has. record {
    held = has.held;
    cells_are =
        lookup_put_other runs id other (outcome_cells o) (λ same. not_none (cells_in runs other) (outcome_cells x) (ap (cells_in runs) same ∙ none) has.cells_are)
        ∙ has.cells_are;
  };
}

pub swept_found : SweepOutcomeLaw
swept_found runs keep id o listed has = record {
  held = has.held;
  cells_are = lookup_swept runs keep id ∙ ap (λ b. cond b (cells_in runs id) None) listed ∙ has.cells_are;
}

-- ---- in a store

-- one run more
abbrev pub added : StoreValue → ℕ → List Cell → StoreValue
added store id cells = record store { runs = store.runs ++ (id, cells) ∷ [] }

-- the cells of an outcome are put into a pool, once there is room for them
pub puts_from : (before : StoreValue) (inside roomy after : Region) (id : ℕ) (o : Outcome) (cells : List Cell) → store_of inside ≡ before
    → store_of roomy ≡ store_of inside → cells_at roomy id ≡ None → store_of after ≡ added (store_of roomy) id cells → IsHeld o → cells ≡ outcome_cells o
    → PutsOutcome before (store_of after) id o
puts_from before inside roomy after id o cells shown same none put held is = record {
  new = ap (λ (store : StoreValue). cells_in store.runs id) (sym (same ∙ shown)) ∙ none;
  held = held;
  put = put ∙ ap (λ (store : StoreValue). added store id cells) (same ∙ shown) ∙ ap (added before id) is;
}
