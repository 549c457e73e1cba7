-- The runs that a pass adds to a store are those of its pairs, in some order.
use Rattle.std.proofs.Common.{◌≡◌, ◌∙◌, ◌⊎◌, inl, inr, refl, sym, ap, subst, ℕ, arith, Bool, true, false, cond, eqb, eqb-true, List, [], ◌∷◌, ◌++◌, length, length-append, Option, Some}
use Rattle.std.proofs.lemmas.List.Sums.{sum_by-append, sum_by-cons}
use Rattle.std.proofs.lemmas.Map.Entries.{place_from_lookup}
use Rattle.std.proofs.lemmas.Option.{slice_get_within}
use Rattle.std.specs.List.{AllByRecursion, sum_by}
use Rattle.std.specs.Option.{option_and_then, option_map_or}
use Rattle.font_metrics.specs.Metrics.{MetricsValue}
use Rattle.math_tree.specs.declared.node.Node.{Node}
use Rattle.math_tree.specs.declared.node.Node.TheViews.{out-Node}
use Rattle.tree_edits.specs.Paths.{node_at}
use Rattle.layout_model.specs.Layout.{lay}
use Rattle.layout_model.specs.declared.context.Context.{Context}
use Rattle.layout_model.specs.declared.outcome.Outcome.{Outcome}
use Rattle.box_pool.specs.Region.{cells_in}
use Rattle.box_pool.specs.Runs.{cell_count}
use Rattle.box_pool.specs.declared.cell.Cell.{Cell}
use Rattle.box_pool.specs.declared.pool.RunId.{RunId}
use Rattle.outcome_cells.specs.Cells.{outcome_cells}
use Rattle.outcome_cells.specs.Store.{HasOutcome, HasSomeOutcome, Runs, StoreValue}
use Rattle.kept_results.specs.Backed.{Grows, HaveOwnRuns, IsBacked}
use Rattle.kept_results.specs.Grown.{GrownByPairs, GrownCellsLaw, pair_cells}
use Rattle.kept_results.specs.Kept.{Agrees, Holds}
use Rattle.kept_results.specs.Passes.{HasNoRepeat, IsPairKept, IsPairMissing, Pair, Passes}
use Rattle.kept_results.specs.declared.memo.Entry.{Entry}
use Rattle.kept_results.specs.declared.memo.Memo.{Memo}
use Rattle.kept_results.specs.declared.memo.Memo.TheViews.{out-Memo}
use Rattle.kept_results.proofs.Agreement.{agrees_child}
use Rattle.kept_results.proofs.Backed.{backed_child, own_backed}
use Rattle.kept_results.proofs.SameItems.{AllApart, IsAmong, same_sum}
use Rattle.kept_results.proofs.Shown.{there_is}

-- ---- runs one behind the other

found_step : (b : Bool) (own first both second : Option (List Cell)) → (first ≡ both) ⊎ (second ≡ both) → (cond b own first ≡ cond b own both) ⊎ (second ≡ cond b own both)
found_step true own first both second h = inl refl
found_step false own first both second h = h

found_in_one : (xs ys : Runs) (id : ℕ) → (cells_in xs id ≡ cells_in (xs ++ ys) id) ⊎ (cells_in ys id ≡ cells_in (xs ++ ys) id)
found_in_one [] ys id = inr refl
found_in_one ((other, own) ∷ xs) ys id = found_step (eqb id other) (Some own) (cells_in xs id) (cells_in (xs ++ ys) id) (cells_in ys id) (found_in_one xs ys id)

-- a run that had no outcome before is one of those that came
came_with : (before added : Runs) (id : ℕ) (o : Outcome) → (HasSomeOutcome before id → ⊥) → HasOutcome (before ++ added) id o → cells_in added id ≡ Some (outcome_cells o)
came_with before added id o none has =
    elim (found_in_one before added id) [
      | inl e ↦ absurd (none record { outcome = o; has = record { held = has.held; cells_are = e ∙ has.cells_are } })
      | inr e ↦ e ∙ has.cells_are
    ]

same_id : (a b : RunId) → a.0 ≡ b.0 → a ≡ b
same_id a b e = ap (λ (n : ℕ). let id : RunId = record { 0 = n } in id) e

-- how many cells a run has
abbrev size : ℕ × List Cell → ℕ
size run = length run.1

module _ (m : MetricsValue) where
  -- ---- an entry at a path

  -- the element there
  record HasElement (runs : Runs) (path : List ℕ) (node : Node) (entry : Entry) : Type 0 where
    element : Node
    at : node_at path node ≡ Some element
    has : HasOutcome runs entry.run.0 (lay m element entry.context)

  has_element : (path : List ℕ) (runs : Runs) (node : Node) (memo : Memo) (entry : Entry) → Agrees m node memo → IsBacked m runs node memo → Holds path memo entry
      → HasElement runs path node entry
  has_element [] runs node memo entry h backed held = record { element = node; at = refl; has = own_backed m runs node memo backed entry held }
  has_element (place ∷ path) runs node memo entry h backed held =
      let many = (h.at [] node memo (refl, refl)).as_many in
      let within = slice_get_within (out-Memo memo).below place held.0 held.1 in
      let child = there_is (out-Node node).children place (omega (arith, many, within)) in
      let rest = has_element path runs child.0 held.0 entry (agrees_child m node memo place child.0 held.0 h child.1 held.1)
      (backed_child m runs node memo place child.0 held.0 backed child.1 held.1) held.2 in
      record { element = rest.element; at = ap (option_and_then (node_at path)) child.1 ∙ rest.at; has = rest.has }

  -- ---- the run of a pair

  module _ (node : Node) (after : Memo) (added : Runs) where
    -- one of the runs that came is that of the pair's entry, and has its cells
    record Brought (pair : Pair) : Type 0 where
      entry : Entry
      held : Holds pair.path after entry
      in_context : entry.context ≡ pair.context
      run : ℕ × List Cell
      among : IsAmong added run
      of_entry : run.0 ≡ entry.run.0
      as_many : size run ≡ pair_cells m node pair

    one_pair : HaveOwnRuns after → (p q : Pair) (a : Brought p) (b : Brought q) → a.run ≡ b.run → p ≡ q
    one_pair own p q a b e =
        let same = own.at p.path q.path a.entry b.entry a.held b.held
        (same_id a.entry.run b.entry.run (sym a.of_entry ∙ ap (λ (run : ℕ × List Cell). run.0) e ∙ b.of_entry)) in
        let context : p.context ≡ q.context = sym a.in_context ∙ same.1 ∙ b.in_context in
        let path : p.path ≡ q.path = same.0 in
        λ i. record { path = path i; context = context i }

    runs_of : (pairs : List Pair) → AllByRecursion Brought pairs → Runs
    runs_of [] h = []
    runs_of (p ∷ pairs) h = h.0.run ∷ runs_of pairs h.1

    as_many_runs : (pairs : List Pair) (h : AllByRecursion Brought pairs) → length (runs_of pairs h) ≡ length pairs
    unfolding runs_of
    as_many_runs [] h = refl
    as_many_runs (p ∷ pairs) h = omega (arith, as_many_runs pairs h.1)

    all_among : (pairs : List Pair) (h : AllByRecursion Brought pairs) → AllByRecursion (IsAmong added) (runs_of pairs h)
    unfolding runs_of
    all_among [] h = tt
    all_among (p ∷ pairs) h = (h.0.among, all_among pairs h.1)

    other_runs : HaveOwnRuns after → (p : Pair) (a : Brought p) (pairs : List Pair) (h : AllByRecursion Brought pairs) → AllByRecursion (λ q. p ≡ q → ⊥) pairs
        → AllByRecursion (λ run. a.run ≡ run → ⊥) (runs_of pairs h)
    unfolding runs_of
    other_runs own p a [] h k = tt
    other_runs own p a (q ∷ pairs) h k = (λ e. k.0 (one_pair own p q a h.0 e), other_runs own p a pairs h.1 k.1)

    runs_apart : HaveOwnRuns after → (pairs : List Pair) (h : AllByRecursion Brought pairs) → HasNoRepeat pairs → AllApart (runs_of pairs h)
    unfolding runs_of
    runs_apart own [] h k = tt
    runs_apart own (p ∷ pairs) h k = (other_runs own p h.0 pairs h.1 k.0, runs_apart own pairs h.1 k.1)

    sizes_are : (pairs : List Pair) (h : AllByRecursion Brought pairs) → sum_by size (runs_of pairs h) ≡ sum_by (pair_cells m node) pairs
    unfolding runs_of
    sizes_are [] h = refl
    sizes_are (p ∷ pairs) h =
        omega (arith, sizes_are pairs h.1, sum_by-cons size h.0.run (runs_of pairs h.1), sum_by-cons (pair_cells m node) p pairs, h.0.as_many)

    -- as many runs that came as pairs have the cells of the pairs
    cells_of_pairs : HaveOwnRuns after → (pairs : List Pair) → AllByRecursion Brought pairs → HasNoRepeat pairs → length added ≡ length pairs
        → cell_count added ≡ sum_by (pair_cells m node) pairs
    cells_of_pairs own pairs h apart count =
        same_sum size (runs_of pairs h) added (runs_apart own pairs h apart) (all_among pairs h) (count ∙ sym (as_many_runs pairs h)) ∙ sizes_are pairs h

  -- ---- a pass that is done

  module _ {node : Node} {needed : Pair → Type 0} {before after : Memo} {held holds : StoreValue} {from to : ℕ} (passes : Passes m node needed before after from to true)
      (grows : Grows m node before after held holds from to true) where
    abbrev added : Runs
    added = grows.only.added

    brought : (pair : Pair) → IsPairKept after pair → IsPairMissing before pair → Brought node after added pair
    brought pair one missing =
        let entry = one.entry in
        let there = has_element pair.path holds.runs node after entry passes.agrees grows.backed one.held in
        let o : Outcome = lay m there.element entry.context in
        let none : HasSomeOutcome held.runs entry.run.0 → ⊥ =
        elim (grows.came pair.path entry one.held) [
          | inl was ↦ λ some. missing record { entry = entry; held = was; in_context = one.in_context }
          | inr new ↦ new
        ] in
        let has : HasOutcome (held.runs ++ added) entry.run.0 o = subst (λ (r : Runs). HasOutcome r entry.run.0 o) grows.only.grown there.has in
        let found = place_from_lookup (eqb entry.run.0) added (outcome_cells o) (came_with held.runs added entry.run.0 o none has) in
        record {
          entry = entry;
          held = one.held;
          in_context = one.in_context;
          run = (found.1, outcome_cells o);
          among = (found.0, found.2);
          of_entry = sym (eqb-true entry.run.0 found.1 found.3);
          as_many = ap (λ (context : Context). length (outcome_cells (lay m there.element context))) one.in_context
              ∙ sym (ap (λ (n : Option Node). option_map_or (λ element. length (outcome_cells (lay m element pair.context))) n 0) there.at);
        }

    all_brought : (pairs : List Pair) → AllByRecursion (IsPairKept after) pairs → AllByRecursion (IsPairMissing before) pairs → AllByRecursion (Brought node after added) pairs
    all_brought [] h k = tt
    all_brought (p ∷ pairs) h k = (brought p h.0 k.0, all_brought pairs h.1 k.1)

    pub grown_by_pairs : HaveOwnRuns before → GrownByPairs m node needed held.runs holds.runs
    grown_by_pairs own =
        let runs = ap length grows.only.grown ∙ length-append held.runs added in
        let count : length added ≡ length passes.pairs = omega (arith, runs, grows.counted refl, passes.steps) in
        let cells = ap cell_count grows.only.grown ∙ sum_by-append size held.runs added in
        let sums = cells_of_pairs node after added (grows.own own) passes.pairs (all_brought passes.pairs (passes.kept refl) passes.missing) passes.apart count in
        record {
          pairs = passes.pairs;
          needed_all = passes.needed_all;
          apart = passes.apart;
          runs = omega (arith, runs, count);
          cells = omega (arith, cells, sums);
        }

pub grown_cells_law : GrownCellsLaw
grown_cells_law m node context before after held holds from to own passes grows = grown_by_pairs m passes grows own
