use Rattle.std.proofs.Common.{◌≡◌, sym, subst, arith, ℕ, ◌+◌, ◌-◌, ◌≤◌, List, cond}
use Rattle.tree_edits.specs.declared.edit.Edit.{Edit}
use Rattle.edit_session.specs.Session.{SessionValue}
use Rattle.seeded_edits.specs.Edits.{after_draws, drawn_edit, drawn_edits}
use Rattle.generator.proofs.Counting.{Continues, as_many, ends_counted, ends_taken, ends_with, first_left, goes_on, none_left, one_more, stops}
use Rattle.generator.proofs.run.make_edits.Goals as goal
use Rattle.generator.proofs.run.make_edits.Goals.{then-branch, else-branch}

pub returns-in_err-make_edit-clause-steps : goal.returns-in_err-make_edit-clause-steps
returns-in_err-make_edit-clause-steps g c =
    let l = c.loop in
    let first = c.args.session.now.held in
    let all = drawn_edits c.args.count c.args.seed in
    let left = drawn_edits (c.args.count - (l.counter + 1)) (after_draws l.draws) in
    let here = subst (λ (edits : List Edit). Continues first all c.args.steps.now l.session.held edits l.accepted l.steps)
    (first_left c.args.count l.counter l.draws c.loop-test.true) l.invariant.left in
    stops first all c.args.steps.now l.session.held (drawn_edit l.draws) left l.accepted l.steps c.make_edit.new.steps here c.make_edit.ensures.steps

pub loop-preserved : goal.loop-preserved
loop-preserved g c =
    let l = c.loop in
    let first = c.args.session.now.held in
    let all = drawn_edits c.args.count c.args.seed in
    let left = drawn_edits (c.args.count - (l.counter + 1)) (after_draws l.draws) in
    let here = subst (λ (edits : List Edit). Continues first all c.args.steps.now l.session.held edits l.accepted l.steps)
    (first_left c.args.count l.counter l.draws c.loop-test.true) l.invariant.left in
    let now = c.if-branch.accepted in
    let made = c.in_ok-make_edit.field-0 in
    let one : now ≡ l.accepted + cond made 1 0 = elim c.if-branch.branch [
      | then-branch w ↦ one_more made l.accepted now w.if-branch.true w.accepted-is
      | else-branch w ↦ as_many made l.accepted now w.if-branch.false w.accepted-is
    ] in
    let few : now ≤ l.counter + 1 = elim c.if-branch.branch [
      | then-branch w ↦ omega (arith, w.accepted-is, l.invariant.few)
      | else-branch w ↦ omega (arith, w.accepted-is, l.invariant.few)
    ] in
    let next = goes_on first all c.args.steps.now l.session.held (drawn_edit l.draws) left l.accepted now l.steps c.make_edit.new.steps made
    here (sym c.in_ok-make_edit.ensures.accepted) one c.make_edit.ensures.steps in
    let moved = subst (λ (s : SessionValue). Continues first all c.args.steps.now s left now c.make_edit.new.steps) (sym c.in_ok-make_edit.ensures.session) next in
    record {
      left = subst (λ (state : ℕ). Continues first all c.args.steps.now c.make_edit.new.session.held (drawn_edits (c.args.count - (l.counter + 1)) state) now c.make_edit.new.steps) (sym c.in_ok-make_edit.ensures.draws) moved;
      few = few;
    }

pub returns-clause-accepted : goal.returns-clause-accepted
returns-clause-accepted g c =
    let l = c.loop in
    let first = c.args.session.now.held in
    let all = drawn_edits c.args.count c.args.seed in
    ends_counted first all c.args.steps.now l.session.held l.accepted l.steps
    (subst (λ (edits : List Edit). Continues first all c.args.steps.now l.session.held edits l.accepted l.steps)
    (none_left c.args.count l.counter l.draws c.loop-test.false) l.invariant.left)

pub returns-clause-session : goal.returns-clause-session
returns-clause-session g c =
    let l = c.loop in
    let first = c.args.session.now.held in
    let all = drawn_edits c.args.count c.args.seed in
    ends_with first all c.args.steps.now l.session.held l.accepted l.steps
    (subst (λ (edits : List Edit). Continues first all c.args.steps.now l.session.held edits l.accepted l.steps)
    (none_left c.args.count l.counter l.draws c.loop-test.false) l.invariant.left)

pub returns-clause-steps : goal.returns-clause-steps
returns-clause-steps g c =
    let l = c.loop in
    ends_taken c.args.session.now.held (drawn_edits c.args.count c.args.seed) c.args.steps.now l.session.held
    (drawn_edits (c.args.count - l.counter) l.draws) l.accepted l.steps l.invariant.left
