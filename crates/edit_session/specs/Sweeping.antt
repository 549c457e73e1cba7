-- When a session drops layouts that nothing needs, and how much it keeps at most.
use Rattle.std.specs.Prelude.{◌≡◌, ◌⊎◌, ℕ, ◌+◌, ◌*◌, ◌≤◌, Bool, true, false, ◌||◌, nat_lt, List, length}
use Rattle.std.specs.List.{AllByRecursion, sum_by}
use Rattle.box_pool.specs.Runs.{cell_count}
use Rattle.tree_edits.specs.declared.change.Change.{Change}
use Rattle.tree_edits.specs.declared.edit.Edit.{Edit}
use Rattle.kept_results.specs.Ends.{kept_count}
use Rattle.kept_results.specs.Grown.{GrownByPairs, pair_cells}
use Rattle.kept_results.specs.Kept.{Holds}
use Rattle.kept_results.specs.Passes.{HasNoRepeat, Needs, Pair}
use Rattle.kept_results.specs.declared.memo.Entry.{Entry}
use Rattle.memo_tree.specs.Kept.{CameFrom, IsEditAt, IsPartOf}
use Rattle.memo_tree.specs.Counted.{EntriesStay}
use Rattle.memo_tree.specs.States.{IsIn, Sealed}
use Rattle.memo_tree.specs.Trees.{IsSwept as AreSwept, MemoTreeValue, context_of}
use Rattle.edit_session.specs.Session.{KeptSession, layouts_of}
use Rattle.edit_session.specs.declared.refusal.SessionRefusal.{SessionRefusal}
use Rattle.edit_session.specs.declared.refusal.SessionRefusal.TheVariants.{Memory}

-- ---- when

-- an edit first drops what isn't needed where more layouts are kept than this
abbrev pub most_unswept : ℕ
most_unswept = 131_072

-- or where there are more than twice the cells that the last sweep left
abbrev pub is_due : KeptSession → Bool
is_due session =
    nat_lt most_unswept (kept_count session.memo)
    || nat_lt (2 * session.swept_cells) (cell_count session.store.runs)

-- ---- what a sweep leaves

-- exactly the layouts are kept that the tree needs, with one run for each
abbrev pub IsSwept : KeptSession → Type 0
IsSwept session = AreSwept (layouts_of session)

-- each layout that the tree needs is kept in the run in which it was
abbrev pub NeededStay : KeptSession → KeptSession → Type 0
NeededStay old new = (path : List ℕ) (entry : Entry)
    → Needs old.held.metrics old.held.tree.root (context_of old.held.metrics old.held.tree)
    record { path = path; context = entry.context }
    → Holds path old.memo entry → Holds path new.memo entry

-- a session after a sweep: it holds the same; its runs have what is kept; what is kept now was kept
-- before, in the same runs, and what is needed stays; and it is noted how many cells are left
pub record IsSweptFrom (old new : KeptSession) : Type 0 where
  pub held : new.held ≡ old.held
  pub sealed : IsIn Sealed (layouts_of new)
  pub swept : IsSwept new
  pub part : IsPartOf new.memo old.memo
  pub stays : NeededStay old new
  pub cells : new.swept_cells ≡ cell_count new.store.runs

-- what an edit finds of a session: it is swept where that is due, and else as it was
pub record IsFound (old found : KeptSession) : Type 0 where
  pub due : is_due old ≡ true → IsSweptFrom old found
  pub not_due : is_due old ≡ false → found ≡ old

-- what a refused edit leaves: what it found; or just what there was, where memory was refused to
-- the sweep
abbrev pub IsLeft : KeptSession → SessionRefusal → KeptSession → Type 0
IsLeft old Memory new = IsFound old new ⊎ (new ≡ old)
IsLeft old refusal new = IsFound old new

-- what came to the runs of a session from its runs before an edit: cells of layouts that its tree
-- needs, none of them twice
abbrev pub HasGrownFrom : KeptSession → KeptSession → Type 0
HasGrownFrom before new =
    GrownByPairs new.held.metrics new.held.tree.root
    (Needs new.held.metrics new.held.tree.root (context_of new.held.metrics new.held.tree))
    before.store.runs new.store.runs

-- what an accepted edit makes of what it finds, with the steps that were counted before it and
-- after it: entries of elements that it leaves alone stay, needed layouts or not; a run comes with
-- each step, and no run goes; and nothing is noted anew
pub record IsCarriedOut (old : KeptSession) (edit : Edit) (new : KeptSession) (from to : ℕ)
    : Type 0 where
  pub found : KeptSession
  pub is : IsFound old found
  pub stays : EntriesStay (layouts_of found) edit (layouts_of new)
  pub grown : HasGrownFrom found new
  pub runs : length new.store.runs + from ≡ length found.store.runs + to
  pub noted : new.swept_cells ≡ found.swept_cells

-- ---- what stays

-- each layout that the tree needed, of an element that the edit leaves alone, is kept in the run in
-- which it was
pub record RunsStay (old : KeptSession) (edit : Edit) (new : KeptSession) : Type 0 where
  pub path : List ℕ
  pub change : Change
  pub is : IsEditAt old.held.tree edit change path
  pub stays : (before behind : List ℕ) (entry : Entry) → CameFrom path change before behind →
      Needs old.held.metrics old.held.tree.root (context_of old.held.metrics old.held.tree)
      record { path = before; context = entry.context } →
      Holds before old.memo entry → Holds behind new.memo entry

-- ---- how much

-- at most twice the cells that the last sweep left, and those of layouts that the tree needs, none
-- counted twice
pub record HasFewCells (session : KeptSession) : Type 0 where
  pub pairs : List Pair
  pub needed : AllByRecursion
      (Needs session.held.metrics session.held.tree.root
      (context_of session.held.metrics session.held.tree)) pairs
  pub apart : HasNoRepeat pairs
  pub bound : cell_count session.store.runs ≤
      2 * session.swept_cells
      + sum_by (pair_cells session.held.metrics session.held.tree.root) pairs

-- a tree with its kept layouts as a session has it: no edit is under way, and no more is kept than
-- this, which is known up to a bound
pub record IsKeptWithin (laid : MemoTreeValue) (most : ℕ) : Type 0 where
  pub sealed : IsIn Sealed laid
  pub few : kept_count laid.memo ≤ 262_144
  pub no_more : kept_count laid.memo ≤ most
