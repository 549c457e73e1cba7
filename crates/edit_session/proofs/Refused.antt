-- What a refused edit leaves, and for which cause it is refused.
use Rattle.std.proofs.Common.{◌≡◌, ◌∙◌, inl, refl, sym, subst, false, None, Result, Ok, Err, IfErr, OnErr}
use Rattle.std.specs.Result.{IsErrAnd}
use Rattle.fixed_units.specs.declared.refusal.LayRefusal.{LayRefusal}
use Rattle.fixed_units.specs.declared.refusal.LayRefusal.TheVariants.{Range, Memory}
use Rattle.font_metrics.specs.Metrics.{MetricsValue}
use Rattle.math_tree.specs.Trees.{TreeValue}
use Rattle.tree_edits.specs.Edits.{edited, refusal_of}
use Rattle.tree_edits.specs.declared.edit.Edit.{Edit}
use Rattle.layout_model.specs.Layout.{is_tree_in_range}
use Rattle.edit_session.specs.Refusals.{of_layout}
use Rattle.edit_session.specs.Session.{IsCause, KeptSession, SessionValue}
use Rattle.edit_session.specs.Sweeping.{IsFound, IsLeft}
use Rattle.edit_session.specs.declared.refusal.SessionRefusal.{SessionRefusal}
use Rattle.edit_session.specs.declared.refusal.SessionRefusal.TheVariants.{Edit as Refused, Range as TooLarge, Memory as Unmade}

-- what holds is left where there is an error
pub on_err : {T E P : Type 0} (result : Result T E) → P → OnErr result P
on_err (Ok value) is = tt
on_err (Err refusal) is = is

-- a call that hands a refusal on is refused for what that one was refused for
pub refused_so : {T : Type 0} (result : Result T SessionRefusal) (P : SessionRefusal → Type 0) (refusal : SessionRefusal) → IsErrAnd result (λ same. same ≡ refusal) → P refusal
    → IfErr result P
refused_so (Ok value) P refusal is h = tt
refused_so (Err same) P refusal is h = subst P (sym is) h

-- where what was found is left, it is left as it is to be
pub left_as_found : {T : Type 0} (result : Result T SessionRefusal) (old found new : KeptSession) → IsFound old found → OnErr result (new ≡ found)
    → IfErr result (λ refusal. IsLeft old refusal new)
left_as_found (Ok value) old found new is same = tt
left_as_found (Err (Refused reason)) old found new is same = subst (IsFound old) (sym same) is
left_as_found (Err TooLarge) old found new is same = subst (IsFound old) (sym same) is
left_as_found (Err Unmade) old found new is same = inl (subst (IsFound old) (sym same) is)

-- ---- for which cause

pub unfit : (m n : MetricsValue) (tree other : TreeValue) → m ≡ n → tree ≡ other → is_tree_in_range m tree ≡ false → is_tree_in_range n other ≡ false
unfit m n tree other numbers same h = (λ i. is_tree_in_range (sym numbers i) (sym same i)) ∙ h

pub cause_of_layout : (session : SessionValue) (edit : Edit) (refusal : LayRefusal) → refusal_of session.tree edit ≡ None
    → (refusal ≡ Range → is_tree_in_range session.metrics (edited session.tree edit) ≡ false) → IsCause session edit (of_layout refusal)
cause_of_layout session edit Range accepted range = (accepted, range refl)
cause_of_layout session edit Memory accepted range = tt
