-- Which edits are accepted, and what they leave.
use Rattle.std.proofs.Common.{◌≡◌, ◌≢◌, refl, ap, subst, true, false, Some, None, Bool, cond, ◌&&◌, Option}
use Rattle.std.specs.Option.{is_none}
use Rattle.tree_edits.specs.Edits.{edited, refusal_of}
use Rattle.tree_edits.specs.declared.edit.Edit.{Edit}
use Rattle.tree_edits.specs.declared.edit.EditRefusal.{EditRefusal}
use Rattle.layout_model.specs.Layout.{is_tree_in_range}
use Rattle.edit_session.specs.Session.{IsCause, IsInRange, SessionValue, edited_session}
use Rattle.edit_session.specs.declared.refusal.SessionRefusal.{SessionRefusal}
use Rattle.edit_session.specs.declared.refusal.SessionRefusal.TheVariants.{Edit as Refused, Range, Memory}
use Rattle.generator.specs.Folded.{after_edit, is_accepted}

module _ (session : SessionValue) (edit : Edit) where
  both : refusal_of session.tree edit ≡ None → (b : Bool) → is_tree_in_range session.metrics (edited session.tree edit) ≡ b
      → is_accepted session edit ≡ b
  unfolding is_accepted
  both free b fit = λ i. is_none (free i) && fit i

  refused : (reason : EditRefusal) → refusal_of session.tree edit ≡ Some reason → is_accepted session edit ≡ false
  unfolding is_accepted
  refused reason has =
      ap (λ (o : Option EditRefusal). is_none o && is_tree_in_range session.metrics (edited session.tree edit)) has

  -- an edit that was made is accepted
  pub made : (new : SessionValue) → refusal_of session.tree edit ≡ None → new ≡ edited_session session edit → IsInRange new
      → is_accepted session edit ≡ true
  made new free is fit = both free true (subst IsInRange is fit)

  -- one that has a cause not to be made isn't
  pub unmade : (refusal : SessionRefusal) → refusal ≢ Memory → IsCause session edit refusal → is_accepted session edit ≡ false
  unmade (Refused reason) other cause = refused reason cause.0
  unmade Range other cause = both cause.0 false cause.1
  unmade Memory other cause = absurd (other refl)

  -- what each leaves
  pub after_made : is_accepted session edit ≡ true → after_edit session edit ≡ edited_session session edit
  after_made accepted = ap (λ (b : Bool). cond b (edited_session session edit) session) accepted

  pub after_unmade : is_accepted session edit ≡ false → after_edit session edit ≡ session
  after_unmade rejected = ap (λ (b : Bool). cond b (edited_session session edit) session) rejected
