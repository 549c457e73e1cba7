use Rattle.std.proofs.Common.{◌∙◌, sym, ap, subst, ℕ, List}
use Rattle.kept_edits.specs.Changed.{FitsMemo, changed_memo, taken_from}
use Rattle.kept_edits.specs.Known.{IsKnownOn}
use Rattle.kept_edits.specs.declared.change.Renewal.{Renewal}
use Rattle.kept_edits.proofs.Followed.{fits_change}
use Rattle.kept_edits.proofs.Undone.{followed}
use Rattle.kept_edits.proofs.following.follow_way.Goals as goal

pub change_memo-taken-requires-clause-fits : goal.change_memo-taken-requires-clause-fits
change_memo-taken-requires-clause-fits c =
    let splice = c.in_ok-splice.field-0.splice in
    subst (λ (p : List ℕ). FitsMemo splice p c.args.memo.now) (sym c.as_slice.ensures)
    (fits_change c.args.root.now c.args.memo.now c.args.way.now c.requires.before splice (c.in_ok-splice.ensures {u = tt}).splice)

pub returns-clause-followed : goal.returns-clause-followed
returns-clause-followed c before =
    let root = c.args.root.now in
    let memo = c.args.memo.now in
    let way = c.args.way.now in
    let made = c.in_ok-splice.ensures {u = tt} in
    let splice = c.in_ok-splice.field-0.splice in
    let known : List Renewal = c.as_slice-2.result.now in
    followed root memo c.change_memo-taken.new.memo way before splice c.inverse.result known c.change_memo-taken.result c.in_ok-splice.field-0.room made.splice
    (subst (IsKnownOn way.path root memo) (sym c.as_slice-2.ensures) made.known) made.room
    (c.change_memo-taken.ensures.memo ∙ ap (λ (p : List ℕ). changed_memo splice known p memo) c.as_slice.ensures)
    (c.change_memo-taken.ensures.taken ∙ ap (λ (p : List ℕ). taken_from splice p memo) c.as_slice.ensures) c.inverse.ensures
