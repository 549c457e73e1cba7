-- What an edit finds of a session, and what stays from before it.
use Rattle.std.proofs.Common.{◌≡◌, refl, sym, ap, subst, ℕ, length, ◌+◌, Bool, true, false, List, Result, Ok, Err, OnOk}
use Rattle.tree_edits.specs.declared.edit.Edit.{Edit}
use Rattle.kept_results.specs.Kept.{Holds}
use Rattle.kept_results.specs.Passes.{Needs}
use Rattle.kept_results.specs.declared.memo.Entry.{Entry}
use Rattle.kept_results.proofs.Passing.{pair_at}
use Rattle.memo_tree.specs.Kept.{IsEditAt, IsPartOf}
use Rattle.memo_tree.specs.Counted.{EntriesStay}
use Rattle.memo_tree.specs.Trees.{IsLaidOut, context_of}
use Rattle.edit_session.specs.Session.{KeptSession, SessionValue, layouts_of}
use Rattle.edit_session.specs.Sweeping.{HasGrownFrom, IsCarriedOut, IsFound, IsSwept, NeededStay, RunsStay, is_due}
use Rattle.edit_session.proofs.Staying.{one_held}

-- ---- what is found

pub found_holds : (old found : KeptSession) → IsFound old found → found.held ≡ old.held
found_holds old found is = by (is_due old) refl
  where
    by : (b : Bool) → is_due old ≡ b → found.held ≡ old.held
    by true due = (is.due due).held
    by false not_due = ap (λ (s : KeptSession). s.held) (is.not_due not_due)

-- ---- what stays

abbrev IsNeededThere : List ℕ → Entry → SessionValue → Type 0
IsNeededThere path entry held = Needs held.metrics held.tree.root (context_of held.metrics held.tree) (pair_at path entry.context)

-- a sweep keeps what is needed, and an element has no two entries in one context
pub needed_stay : (old new : KeptSession) → IsLaidOut (layouts_of old) → new.held ≡ old.held → IsSwept new → IsPartOf new.memo old.memo → NeededStay old new
needed_stay old new laid holds swept part path entry needs held =
    let one = swept.needed.all (pair_at path entry.context) (subst (IsNeededThere path entry) (sym holds) needs) in
    let same = one_held old.held.metrics path old.held.tree.root old.memo one.entry entry laid.sealed.ready.agrees (part path one.entry one.held) held one.in_context in
    subst (Holds path new.memo) same one.held

found_keeps : (old found : KeptSession) → IsFound old found → NeededStay old found
found_keeps old found is path entry needs held = by (is_due old) refl
  where
    by : (b : Bool) → is_due old ≡ b → Holds path found.memo entry
    by true due = (is.due due).stays path entry needs held
    by false not_due = subst (λ (s : KeptSession). Holds path s.memo entry) (sym (is.not_due not_due)) held

pub runs_stay : (old found new : KeptSession) (edit : Edit) → IsFound old found → EntriesStay (layouts_of found) edit (layouts_of new) → RunsStay old edit new
runs_stay old found new edit is h = record {
  path = h.path;
  change = h.change;
  is = subst (λ (s : SessionValue). IsEditAt s.tree edit h.change h.path) (found_holds old found is) h.is;
  stays = λ before behind entry came needs held. h.stays before behind entry came (found_keeps old found is before entry needs held);
}

-- ---- what is carried out

pub done_from : {T E : Type 0} (result : Result T E) (old found new : KeptSession) (edit : Edit) (from to : ℕ) → IsFound old found
    → OnOk result (EntriesStay (layouts_of found) edit (layouts_of new)) → OnOk result (HasGrownFrom found new)
    → OnOk result (length new.store.runs + from ≡ length found.store.runs + to) → new.swept_cells ≡ found.swept_cells
    → OnOk result (IsCarriedOut old edit new from to)
done_from (Ok value) old found new edit from to is stays grown runs noted =
    record { found = found; is = is; stays = stays; grown = grown; runs = runs; noted = noted }
done_from (Err refusal) old found new edit from to is stays grown runs noted = tt
