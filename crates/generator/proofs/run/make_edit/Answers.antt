use Rattle.std.proofs.Common.{◌≢◌, ◌∙◌, sym, ap, subst}
use Rattle.tree_edits.specs.Applying.{IsProperEdit}
use Rattle.edit_session.specs.declared.refusal.SessionRefusal.TheVariants.{Memory}
use Rattle.generator.specs.Folded.{after_edit, is_accepted}
use Rattle.generator.proofs.Accepting.{after_made, after_unmade, made, unmade}
use Rattle.seeded_edits.proofs.Proper.{drawn_proper}
use Rattle.generator.proofs.run.make_edit.Goals as goal

pub edit-requires : goal.edit-requires
edit-requires g c = record { proper = subst IsProperEdit (sym c.in_ok-edit.ensures.edit) (drawn_proper c.args.draws.now) }

pub returns-in-Ok-clause-accepted : goal.returns-in-Ok-clause-accepted
returns-in-Ok-clause-accepted g c =
    let held = c.args.session.now.held in
    let yes = made held c.in_ok-edit.edit c.edit.new.self.held c.in-Ok.ensures.accepted c.in-Ok.ensures.edited c.in-Ok.ensures.fit in
    sym yes ∙ ap (is_accepted held) c.in_ok-edit.ensures.edit

pub returns-in-Ok-clause-session : goal.returns-in-Ok-clause-session
returns-in-Ok-clause-session g c =
    let held = c.args.session.now.held in
    let accepted = made held c.in_ok-edit.edit c.edit.new.self.held c.in-Ok.ensures.accepted c.in-Ok.ensures.edited c.in-Ok.ensures.fit in
    c.in-Ok.ensures.edited ∙ sym (after_made held c.in_ok-edit.edit accepted) ∙ ap (after_edit held) c.in_ok-edit.ensures.edit

pub returns-in-Err-Edit-clause-accepted : goal.returns-in-Err-Edit-clause-accepted
returns-in-Err-Edit-clause-accepted g c =
    let held = c.args.session.now.held in
    let other : c.in-Err-Edit.field-0 ≢ Memory = λ same. let is = c.in-Err-Edit.field-0-is in cc in
    let rejected = unmade held c.in_ok-edit.edit c.in-Err-Edit.field-0 other c.in-Err-Edit.ensures.refused in
    sym rejected ∙ ap (is_accepted held) c.in_ok-edit.ensures.edit

pub returns-in-Err-Edit-clause-session : goal.returns-in-Err-Edit-clause-session
returns-in-Err-Edit-clause-session g c =
    let held = c.args.session.now.held in
    let other : c.in-Err-Edit.field-0 ≢ Memory = λ same. let is = c.in-Err-Edit.field-0-is in cc in
    let rejected = unmade held c.in_ok-edit.edit c.in-Err-Edit.field-0 other c.in-Err-Edit.ensures.refused in
    c.in-Err-Edit.ensures.held
    ∙ sym (after_unmade held c.in_ok-edit.edit rejected) ∙ ap (after_edit held) c.in_ok-edit.ensures.edit

pub returns-in-Err-Range-clause-accepted : goal.returns-in-Err-Range-clause-accepted
returns-in-Err-Range-clause-accepted g c =
    let held = c.args.session.now.held in
    let other : c.in-Err-Range.field-0 ≢ Memory = λ same. let is = c.in-Err-Range.field-0-is in cc in
    let rejected = unmade held c.in_ok-edit.edit c.in-Err-Range.field-0 other c.in-Err-Range.ensures.refused in
    sym rejected ∙ ap (is_accepted held) c.in_ok-edit.ensures.edit

pub returns-in-Err-Range-clause-session : goal.returns-in-Err-Range-clause-session
returns-in-Err-Range-clause-session g c =
    let held = c.args.session.now.held in
    let other : c.in-Err-Range.field-0 ≢ Memory = λ same. let is = c.in-Err-Range.field-0-is in cc in
    let rejected = unmade held c.in_ok-edit.edit c.in-Err-Range.field-0 other c.in-Err-Range.ensures.refused in
    c.in-Err-Range.ensures.held
    ∙ sym (after_unmade held c.in_ok-edit.edit rejected) ∙ ap (after_edit held) c.in_ok-edit.ensures.edit
