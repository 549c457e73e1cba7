use Rattle.std.proofs.Common.{◌≡◌, ◌∙◌, ◌≤◌, ◌+◌, ◌*◌, refl, ap, arith, ℕ, length, [], Err, sym, subst}
use Rattle.math_tree.specs.Trees.{IsWhole}
use Rattle.fixed_units.specs.declared.refusal.LayRefusal.TheVariants.{Range}
use Rattle.box_pool.specs.Runs.{cell_count}
use Rattle.outcome_cells.specs.Store.{Runs, StoreValue}
use Rattle.tree_edits.specs.Edits.{edited, refusal_of}
use Rattle.tree_edits.specs.Inverses.{inverse}
use Rattle.kept_results.specs.Ends.{fresh_count, kept_count, stripped}
use Rattle.kept_results.specs.declared.memo.Memo.{Memo}
use Rattle.memo_tree.specs.Kept.{TakesNeeded}
use Rattle.memo_tree.specs.Counted.{EntriesStay}
use Rattle.memo_tree.specs.Reversing.{CanReverse, reversed}
use Rattle.memo_tree.specs.Trees.{MemoTreeValue}
use Rattle.memo_tree.proofs.Changes.{steps_law}
use Rattle.edit_session.specs.Session.{IsCause, KeptSession, edited_session, layouts_of, session_of}
use Rattle.edit_session.specs.Sweeping.{HasGrownFrom, IsKeptWithin}
use Rattle.edit_session.proofs.Carrying.{entries_stay, few_after, few_cells, grown_from}
use Rattle.edit_session.proofs.Counting.{at_most_noted, sealed_by_fresh}
use Rattle.edit_session.proofs.Refused.{cause_of_layout, on_err, unfit}
use Rattle.edit_session.proofs.session.Session.edit_found.Goals as goal

pub returns-in-Ok-clause-few : goal.returns-in-Ok-clause-few
returns-in-Ok-clause-few g c =
    let changed = c.change.new.self in
    let passed = c.relay.new.self in
    let edited = c.in_ok-reversal.ensures in
    let few = subst (λ (s : KeptSession). kept_count s.memo ≤ 131_072) (sym c.self.view_is) c.requires.few in
    let whole = subst IsWhole (sym edited.tree) edited.counted.is.whole_after in
    subst (λ (memo : Memo). kept_count memo ≤ 262_144) (sym c.seal-made.ensures.memo)
    (few_after changed.metrics changed.tree changed.memo passed.memo c.args.steps.now c.relay.new.steps whole c.relay.ensures.steps c.in-Ok.ensures.all (omega (arith, few, edited.fewer)))

pub invariant_of-self-in-Ok : goal.invariant_of-self-in-Ok
invariant_of-self-in-Ok g c =
    let passed = c.relay.new.self in
    let edited = c.in_ok-reversal.ensures in
    let few = returns-in-Ok-clause-few g c in
    let fresh = subst (λ (memo : Memo). kept_count memo ≤ kept_count (stripped passed.memo) + fresh_count passed.memo) (sym c.seal-made.ensures.memo) (sealed_by_fresh passed.memo) in
    let before : kept_count (stripped passed.memo) ≡ kept_count c.change.new.self.memo = ap (λ (laid : MemoTreeValue). kept_count laid.memo) c.relay.ensures.before in
    record {
      sealed = c.seal-made.ensures.sealed;
      few = few;
      no_more = subst (λ (most : ℕ). kept_count c.seal-made.new.self.memo ≤ most) (sym c.saturating_add-self-inside.ensures)
          (at_most_noted _ _ _ _ _ fresh few (omega (arith, before, edited.fewer, c.self.invariant.no_more)) c.seal-made.ensures.made);
    }

pub returns-in-Ok-clause-stays : goal.returns-in-Ok-clause-stays
returns-in-Ok-clause-stays g c =
    let old = c.self.inside.layouts in
    let edited = c.in_ok-reversal.ensures in
    let new = c.seal-made.new.self in
    subst (λ (s : KeptSession). EntriesStay (layouts_of s) c.args.edit new) c.self.view_is
    (entries_stay old c.change.new.self c.relay.new.self new c.args.edit c.self.invariant.sealed edited.stays c.relay.ensures.keeps c.in-Ok.ensures.passed c.seal-made.ensures.memo)

pub returns-in-Ok-clause-grown : goal.returns-in-Ok-clause-grown
returns-in-Ok-clause-grown g c =
    let old = c.self.inside.layouts in
    let new = c.seal-made.new.self in
    subst (λ (s : KeptSession). HasGrownFrom s (session_of new c.self.inside.swept_cells)) c.self.view_is
    (grown_from c.change.new.self new old.store.runs c.relay.new.self.store.runs c.in-Ok.ensures.cells (c.seal-made.ensures.tree ∙ c.relay.ensures.tree)
    (c.seal-made.ensures.metrics ∙ c.relay.ensures.metrics) c.seal-made.ensures.runs (ap (λ (s : StoreValue). s.runs) c.in_ok-reversal.ensures.store))

pub returns-in-Ok-clause-runs : goal.returns-in-Ok-clause-runs
returns-in-Ok-clause-runs g c =
    let from = c.args.steps.now in
    let to = c.relay.new.steps in
    let new = c.seal-made.new.self in
    let passed = subst (λ (r : Runs). length r + from ≡ length c.change.new.self.store.runs + to) (sym c.seal-made.ensures.runs) c.in-Ok.ensures.runs in
    let changed = subst (λ (s : StoreValue). length new.store.runs + from ≡ length s.runs + to) c.in_ok-reversal.ensures.store passed in
    subst (λ (s : KeptSession). length new.store.runs + from ≡ length s.store.runs + to) c.self.view_is changed

pub returns-in-Ok-clause-cells : goal.returns-in-Ok-clause-cells
returns-in-Ok-clause-cells g c =
    let swept_cells = c.self.inside.swept_cells in
    let few = subst (λ (s : KeptSession). cell_count s.store.runs ≤ 2 * s.swept_cells) (sym c.self.view_is) c.requires.cells in
    few_cells c.change.new.self c.seal-made.new.self c.relay.new.self.store.runs swept_cells c.in-Ok.ensures.cells
    (c.seal-made.ensures.tree ∙ c.relay.ensures.tree) (c.seal-made.ensures.metrics ∙ c.relay.ensures.metrics) c.seal-made.ensures.runs
    (subst (λ (s : StoreValue). cell_count s.runs ≤ 2 * swept_cells) (sym c.in_ok-reversal.ensures.store) few)

pub returns-in-Ok-clause-steps : goal.returns-in-Ok-clause-steps
returns-in-Ok-clause-steps g c = λ free.
    let from = c.args.steps.now in
    let to = c.relay.new.steps in
    let edited = c.in_ok-reversal.ensures in
    let needed = steps_law c.self.inside.layouts c.change.new.self c.args.edit from to edited.counted edited.tree c.change.ensures.metrics c.relay.ensures.steps in
    subst (λ (s : KeptSession). TakesNeeded s.held.metrics s.held.tree c.args.edit from to) c.self.view_is needed

pub returns-in-Err-clause-steps : goal.returns-in-Err-clause-steps
returns-in-Err-clause-steps g c = λ free.
    let from = c.args.steps.now in
    let to = c.relay.new.steps in
    let edited = c.in_ok-reversal.ensures in
    let needed = steps_law c.self.inside.layouts c.change.new.self c.args.edit from to edited.counted edited.tree c.change.ensures.metrics c.relay.ensures.steps in
    subst (λ (s : KeptSession). TakesNeeded s.held.metrics s.held.tree c.args.edit from to) c.self.view_is needed

pub relay-requires : goal.relay-requires
relay-requires g c = record { changed = c.in_ok-reversal.ensures.changed }

pub seal-made-requires : goal.seal-made-requires
seal-made-requires g c = record { passed = c.in-Ok.ensures.passed }

pub undo_pass-requires : goal.undo_pass-requires
undo_pass-requires g c = record { stopped = c.relay.ensures.stopped }

pub undo_change-requires-clause-fits : goal.undo_change-requires-clause-fits
undo_change-requires-clause-fits g c =
    subst (CanReverse c.in_ok-reversal.reversal) (sym (c.undo_pass.ensures.before ∙ c.relay.ensures.before)) c.in_ok-reversal.ensures.reversal.can

pub invariant_of-self : goal.invariant_of-self
invariant_of-self g c =
    subst (λ (laid : MemoTreeValue). IsKeptWithin laid c.self.inside.most_kept) (sym c.in_err-reversal.ensures.unchanged) c.self.invariant

pub returns-in_err-reversal-clause-unchanged : goal.returns-in_err-reversal-clause-unchanged
returns-in_err-reversal-clause-unchanged g c =
    on_err c.from_residual.result (ap (λ (laid : MemoTreeValue). session_of laid c.self.inside.swept_cells) c.in_err-reversal.ensures.unchanged ∙ c.self.view_is)

pub returns-in_err-reversal-clause-noted : goal.returns-in_err-reversal-clause-noted
returns-in_err-reversal-clause-noted g c = ap (λ (s : KeptSession). s.swept_cells) c.self.view_is

pub returns-in_err-reversal-clause-few : goal.returns-in_err-reversal-clause-few
returns-in_err-reversal-clause-few g c =
    subst (λ (laid : MemoTreeValue). kept_count laid.memo ≤ 262_144) (sym c.in_err-reversal.ensures.unchanged) c.self.invariant.few

pub returns-in-Ok-clause-accepted : goal.returns-in-Ok-clause-accepted
returns-in-Ok-clause-accepted g c = ap (λ (s : KeptSession). refusal_of s.held.tree c.args.edit) (sym c.self.view_is) ∙ c.in_ok-reversal.ensures.accepted

pub returns-in-Ok-clause-edited : goal.returns-in-Ok-clause-edited
returns-in-Ok-clause-edited g c =
    let tree = c.seal-made.ensures.tree ∙ c.relay.ensures.tree ∙ c.in_ok-reversal.ensures.tree in
    let metrics = c.seal-made.ensures.metrics ∙ c.relay.ensures.metrics ∙ c.change.ensures.metrics in
    let held : (session_of c.seal-made.new.self c.self.inside.swept_cells).held ≡ edited_session (session_of c.self.inside.layouts c.self.inside.swept_cells).held c.args.edit =
    λ i. record { tree = tree i; metrics = metrics i } in
    held ∙ ap (λ (s : KeptSession). edited_session s.held c.args.edit) c.self.view_is

pub returns-in-Ok-clause-fit : goal.returns-in-Ok-clause-fit
returns-in-Ok-clause-fit g c = c.seal-made.ensures.sealed.fit

pub returns-in-Ok-clause-back : goal.returns-in-Ok-clause-back
returns-in-Ok-clause-back g c = c.in_ok-reversal.ensures.back ∙ ap (λ (s : KeptSession). inverse s.held.tree c.args.edit) c.self.view_is

pub returns-in-Ok-clause-noted : goal.returns-in-Ok-clause-noted
returns-in-Ok-clause-noted g c = ap (λ (s : KeptSession). s.swept_cells) c.self.view_is

pub returns-in-Ok-clause-unlaid : goal.returns-in-Ok-clause-unlaid
returns-in-Ok-clause-unlaid g c = λ refused. absurd (refused (returns-in-Ok-clause-accepted g c))

pub invariant_of-self-in-Err : goal.invariant_of-self-in-Err
invariant_of-self-in-Err g c =
    let undone = c.undo_pass.ensures.before ∙ c.relay.ensures.before in
    let same = c.undo_change.ensures ∙ ap (reversed c.in_ok-reversal.reversal) undone ∙ c.in_ok-reversal.ensures.reversal.gives in
    subst (λ (laid : MemoTreeValue). IsKeptWithin laid c.self.inside.most_kept) (sym same) c.self.invariant

pub returns-in-Err-clause-unchanged : goal.returns-in-Err-clause-unchanged
returns-in-Err-clause-unchanged g c =
    let undone = c.undo_pass.ensures.before ∙ c.relay.ensures.before in
    let same = c.undo_change.ensures ∙ ap (reversed c.in_ok-reversal.reversal) undone ∙ c.in_ok-reversal.ensures.reversal.gives in
    ap (λ (laid : MemoTreeValue). session_of laid c.self.inside.swept_cells) same ∙ c.self.view_is

pub returns-in-Err-clause-noted : goal.returns-in-Err-clause-noted
returns-in-Err-clause-noted g c = ap (λ (s : KeptSession). s.swept_cells) c.self.view_is

pub returns-in-Err-clause-few : goal.returns-in-Err-clause-few
returns-in-Err-clause-few g c = (invariant_of-self-in-Err g c).few

pub returns-in-Err-clause-unlaid : goal.returns-in-Err-clause-unlaid
returns-in-Err-clause-unlaid g c = λ refused. absurd (refused (ap (λ (s : KeptSession). refusal_of s.held.tree c.args.edit) (sym c.self.view_is) ∙ c.in_ok-reversal.ensures.accepted))

pub returns-in_err-reversal-clause-unlaid : goal.returns-in_err-reversal-clause-unlaid
returns-in_err-reversal-clause-unlaid g c = λ refused. refl

pub returns-in_err-reversal-clause-steps : goal.returns-in_err-reversal-clause-steps
returns-in_err-reversal-clause-steps g c = λ accepted. record { pairs = []; steps = omega arith; needed = tt; apart = tt }

pub returns-in-Err-clause-refused : goal.returns-in-Err-clause-refused
returns-in-Err-clause-refused g c =
    let old = (session_of c.self.inside.layouts c.self.inside.swept_cells).held in
    let cause = cause_of_layout old c.args.edit c.in-Err.refusal c.in_ok-reversal.ensures.accepted
    (λ (is : c.in-Err.refusal ≡ Range). unfit c.change.new.self.metrics old.metrics c.change.new.self.tree (edited old.tree c.args.edit) c.change.ensures.metrics c.in_ok-reversal.ensures.tree (c.in-Err.ensures.range (ap Err is))) in
    subst (λ (s : KeptSession). IsCause s.held c.args.edit c.into.result) c.self.view_is (subst (IsCause old c.args.edit) (sym c.into.ensures) cause)
