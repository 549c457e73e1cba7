use Rattle.std.proofs.Common.{◌≡◌, ◌∙◌, sym, subst, ◌≤◌, true, false}
use Rattle.math_tree.specs.Trees.{IsWhole, TreeValue}
use Rattle.tree_edits.specs.Paths.{Finds}
use Rattle.kept_results.specs.Ends.{kept_count}
use Rattle.memo_tree.specs.Counted.{EntriesStay, MissingIsCounted}
use Rattle.memo_tree.specs.Marked.{EachStays, MarksPath, NewIsBlank}
use Rattle.memo_tree.specs.Reversing.{ReversalValue, Reverses}
use Rattle.memo_tree.specs.Trees.{IsHeld, IsLaidOut, MemoTreeValue}
use Rattle.memo_tree.proofs.Changes.{before, changed_now, counted, each_stays, marks_path, new_blank, reverses, stays}
use Rattle.kept_edits.proofs.Undone.{fewer_then}
use Rattle.memo_tree.proofs.tree.MemoTree.change.Goals as goal

never : {A : Type 0} → false ≡ true → A
never h = cc

pub returns-in-Ok-follow-clause-changed : goal.returns-in-Ok-follow-clause-changed
returns-in-Ok-follow-clause-changed c =
    let old : MemoTreeValue = record { tree = c.self.inside.tree; metrics = c.self.inside.metrics; memo = c.self.inside.memo; store = c.self.inside.store } in
    let laid = subst IsLaidOut (sym c.self.view_is) c.requires.sealed in
    let done = c.in_ok-taken.ensures {u = tt} in
    let way = c.in-Some.way in
    let is = c.in-Some.ensures done.accepted in
    let root = c.root.result.now in
    changed_now old c.args.edit way c.apply_at.new.tree root laid is done.tree c.root.ensures.exact c.follow.new.memo c.in-Ok-follow.back
    ((c.in-Ok-follow.ensures {u = tt}).followed (before old c.args.edit way c.apply_at.new.tree root laid is done.tree c.root.ensures.exact))

pub returns-in-Ok-follow-clause-stays : goal.returns-in-Ok-follow-clause-stays
returns-in-Ok-follow-clause-stays c =
    let old : MemoTreeValue = record { tree = c.self.inside.tree; metrics = c.self.inside.metrics; memo = c.self.inside.memo; store = c.self.inside.store } in
    let new : MemoTreeValue = record { tree = c.apply_at.new.tree; metrics = c.self.inside.metrics; memo = c.follow.new.memo; store = c.self.inside.store } in
    let laid = subst IsLaidOut (sym c.self.view_is) c.requires.sealed in
    let done = c.in_ok-taken.ensures {u = tt} in
    let way = c.in-Some.way in
    let is = c.in-Some.ensures done.accepted in
    let root = c.root.result.now in
    subst (λ (o : MemoTreeValue). EntriesStay o c.args.edit new) c.self.view_is
    (stays old c.args.edit way c.apply_at.new.tree root laid is done.tree c.root.ensures.exact c.follow.new.memo c.in-Ok-follow.back
    ((c.in-Ok-follow.ensures {u = tt}).followed (before old c.args.edit way c.apply_at.new.tree root laid is done.tree c.root.ensures.exact)) c.self.invariant.whole c.root.ensures.whole)

pub returns-in-Ok-follow-clause-counted : goal.returns-in-Ok-follow-clause-counted
returns-in-Ok-follow-clause-counted c =
    let old : MemoTreeValue = record { tree = c.self.inside.tree; metrics = c.self.inside.metrics; memo = c.self.inside.memo; store = c.self.inside.store } in
    let new : MemoTreeValue = record { tree = c.apply_at.new.tree; metrics = c.self.inside.metrics; memo = c.follow.new.memo; store = c.self.inside.store } in
    let laid = subst IsLaidOut (sym c.self.view_is) c.requires.sealed in
    let done = c.in_ok-taken.ensures {u = tt} in
    let way = c.in-Some.way in
    let is = c.in-Some.ensures done.accepted in
    let root = c.root.result.now in
    subst (λ (o : MemoTreeValue). MissingIsCounted o c.args.edit new) c.self.view_is
    (counted old c.args.edit way c.apply_at.new.tree root laid is done.tree c.root.ensures.exact c.follow.new.memo c.in-Ok-follow.back
    ((c.in-Ok-follow.ensures {u = tt}).followed (before old c.args.edit way c.apply_at.new.tree root laid is done.tree c.root.ensures.exact)) c.self.invariant.whole c.root.ensures.whole)

pub returns-in-Ok-follow-clause-reversal : goal.returns-in-Ok-follow-clause-reversal
returns-in-Ok-follow-clause-reversal c =
    let old : MemoTreeValue = record { tree = c.self.inside.tree; metrics = c.self.inside.metrics; memo = c.self.inside.memo; store = c.self.inside.store } in
    let new : MemoTreeValue = record { tree = c.apply_at.new.tree; metrics = c.self.inside.metrics; memo = c.follow.new.memo; store = c.self.inside.store } in
    let laid = subst IsLaidOut (sym c.self.view_is) c.requires.sealed in
    let done = c.in_ok-taken.ensures {u = tt} in
    let way = c.in-Some.way in
    let is = c.in-Some.ensures done.accepted in
    let root = c.root.result.now in
    subst (λ (o : MemoTreeValue). Reverses c.of.result new o) c.self.view_is
    (subst (λ (r : ReversalValue). Reverses r new old) (sym c.of.ensures)
    (reverses old c.args.edit way c.apply_at.new.tree root laid is done.tree c.root.ensures.exact c.follow.new.memo c.in-Ok-follow.back
    ((c.in-Ok-follow.ensures {u = tt}).followed (before old c.args.edit way c.apply_at.new.tree root laid is done.tree c.root.ensures.exact)) c.in_ok-taken.taken done.taken))

pub returns-in-Ok-follow-clause-new : goal.returns-in-Ok-follow-clause-new
returns-in-Ok-follow-clause-new c =
    let old : MemoTreeValue = record { tree = c.self.inside.tree; metrics = c.self.inside.metrics; memo = c.self.inside.memo; store = c.self.inside.store } in
    let new : MemoTreeValue = record { tree = c.apply_at.new.tree; metrics = c.self.inside.metrics; memo = c.follow.new.memo; store = c.self.inside.store } in
    let laid = subst IsLaidOut (sym c.self.view_is) c.requires.sealed in
    let done = c.in_ok-taken.ensures {u = tt} in
    let way = c.in-Some.way in
    let is = c.in-Some.ensures done.accepted in
    let root = c.root.result.now in
    subst (λ (o : MemoTreeValue). NewIsBlank o c.args.edit new) c.self.view_is
    (new_blank old c.args.edit way c.apply_at.new.tree root laid is done.tree c.root.ensures.exact c.follow.new.memo c.in-Ok-follow.back
    ((c.in-Ok-follow.ensures {u = tt}).followed (before old c.args.edit way c.apply_at.new.tree root laid is done.tree c.root.ensures.exact)) c.self.invariant.whole c.root.ensures.whole)

pub returns-in-Ok-follow-clause-marked : goal.returns-in-Ok-follow-clause-marked
returns-in-Ok-follow-clause-marked c =
    let old : MemoTreeValue = record { tree = c.self.inside.tree; metrics = c.self.inside.metrics; memo = c.self.inside.memo; store = c.self.inside.store } in
    let new : MemoTreeValue = record { tree = c.apply_at.new.tree; metrics = c.self.inside.metrics; memo = c.follow.new.memo; store = c.self.inside.store } in
    let laid = subst IsLaidOut (sym c.self.view_is) c.requires.sealed in
    let done = c.in_ok-taken.ensures {u = tt} in
    let way = c.in-Some.way in
    let is = c.in-Some.ensures done.accepted in
    let root = c.root.result.now in
    subst (λ (o : MemoTreeValue). MarksPath o c.args.edit new) c.self.view_is
    (marks_path old c.args.edit way c.apply_at.new.tree root laid is done.tree c.root.ensures.exact c.follow.new.memo c.in-Ok-follow.back
    ((c.in-Ok-follow.ensures {u = tt}).followed (before old c.args.edit way c.apply_at.new.tree root laid is done.tree c.root.ensures.exact)))

pub returns-in-Ok-follow-clause-kept : goal.returns-in-Ok-follow-clause-kept
returns-in-Ok-follow-clause-kept c =
    let old : MemoTreeValue = record { tree = c.self.inside.tree; metrics = c.self.inside.metrics; memo = c.self.inside.memo; store = c.self.inside.store } in
    let new : MemoTreeValue = record { tree = c.apply_at.new.tree; metrics = c.self.inside.metrics; memo = c.follow.new.memo; store = c.self.inside.store } in
    let laid = subst IsLaidOut (sym c.self.view_is) c.requires.sealed in
    let done = c.in_ok-taken.ensures {u = tt} in
    let way = c.in-Some.way in
    let is = c.in-Some.ensures done.accepted in
    let root = c.root.result.now in
    subst (λ (o : MemoTreeValue). EachStays o c.args.edit new) c.self.view_is
    (each_stays old c.args.edit way c.apply_at.new.tree root laid is done.tree c.root.ensures.exact c.follow.new.memo c.in-Ok-follow.back
    ((c.in-Ok-follow.ensures {u = tt}).followed (before old c.args.edit way c.apply_at.new.tree root laid is done.tree c.root.ensures.exact)) c.self.invariant.whole c.root.ensures.whole)

pub returns-in-Ok-follow-clause-fewer : goal.returns-in-Ok-follow-clause-fewer
returns-in-Ok-follow-clause-fewer c =
    let old : MemoTreeValue = record { tree = c.self.inside.tree; metrics = c.self.inside.metrics; memo = c.self.inside.memo; store = c.self.inside.store } in
    let laid = subst IsLaidOut (sym c.self.view_is) c.requires.sealed in
    let done = c.in_ok-taken.ensures {u = tt} in
    let way = c.in-Some.way in
    let is = c.in-Some.ensures done.accepted in
    let root = c.root.result.now in
    let was = before old c.args.edit way c.apply_at.new.tree root laid is done.tree c.root.ensures.exact in
    subst (λ (o : MemoTreeValue). kept_count c.follow.new.memo ≤ kept_count o.memo) c.self.view_is
    (fewer_then root old.memo c.follow.new.memo way was ((c.in-Ok-follow.ensures {u = tt}).followed was).spliced)

pub way_along-found-requires-clause-found : goal.way_along-found-requires-clause-found
way_along-found-requires-clause-found c = subst (λ n. Finds n 1 c.self.inside.tree.root c.in-Ok.path) c.named.ensures (c.in-Ok.ensures {u = tt})

pub way_along-found-requires-clause-whole : goal.way_along-found-requires-clause-whole
way_along-found-requires-clause-whole c = c.self.invariant.whole

pub apply_at-requires-clause-found : goal.apply_at-requires-clause-found
apply_at-requires-clause-found c = subst (λ n. Finds n 1 c.self.inside.tree.root c.in-Ok.path) c.named.ensures (c.in-Ok.ensures {u = tt})

pub follow-requires : goal.follow-requires
follow-requires c =
    let old : MemoTreeValue = record { tree = c.self.inside.tree; metrics = c.self.inside.metrics; memo = c.self.inside.memo; store = c.self.inside.store } in
    let laid = subst IsLaidOut (sym c.self.view_is) c.requires.sealed in
    let done = c.in_ok-taken.ensures {u = tt} in
    let way = c.in-Some.way in
    record { before = before old c.args.edit way c.apply_at.new.tree c.root.result.now laid (c.in-Some.ensures done.accepted) done.tree c.root.ensures.exact }

pub invariant_of-self-in-Ok-follow : goal.invariant_of-self-in-Ok-follow
invariant_of-self-in-Ok-follow c = record { whole = c.root.ensures.whole; swept_are = λ h. never h }

pub invariant_of-self-in-Err-follow : goal.invariant_of-self-in-Err-follow
invariant_of-self-in-Err-follow c =
    let undoes = (c.in_ok-taken.ensures {u = tt}).taken in
    record { whole = subst IsWhole (sym (c.restore.ensures ∙ undoes.gives)) c.self.invariant.whole; swept_are = λ h. never h }

pub invariant_of-self-in_err-taken : goal.invariant_of-self-in_err-taken
invariant_of-self-in_err-taken c =
    subst (λ (t : TreeValue). IsHeld (record { tree = t; metrics = c.self.inside.metrics; memo = c.self.inside.memo; store = c.self.inside.store }) c.self.inside.swept)
    (sym (c.in_err-taken.ensures {u = tt}).unchanged) c.self.invariant
