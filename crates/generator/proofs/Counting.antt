-- What edits leave, how many are accepted and which steps they take, one after another.
use Rattle.std.proofs.Common.{◌≡◌, refl, ap, subst, arith, ℕ, suc, ◌+◌, ◌-◌, ◌<◌, ◌≤◌, List, [], ◌∷◌, Bool, true, false, cond}
use Rattle.tree_edits.specs.declared.edit.Edit.{Edit}
use Rattle.edit_session.specs.Session.{SessionValue}
use Rattle.seeded_edits.specs.Edits.{after_draws, drawn_edit, drawn_edits}
use Rattle.generator.specs.Folded.{accepted_count, after_edit, after_edits, is_accepted}
use Rattle.generator.specs.Steps.{TakesForEdit, TakesForEdits, TakesForSome}

-- ---- steps

-- none, where no edit is reached
pub none_taken : (session : SessionValue) (edits : List Edit) (steps : ℕ) → TakesForSome session edits steps steps
unfolding TakesForEdits
none_taken session edits steps = (0, refl)

-- those of the first, and of some that follow
taken_more : (session : SessionValue) (edit : Edit) (edits : List Edit) (from between to : ℕ)
    → TakesForEdit session edit from between → TakesForSome (after_edit session edit) edits between to
    → TakesForSome session (edit ∷ edits) from to
unfolding TakesForEdits
taken_more session edit edits from between to first rest = (suc rest.0, (between, first, rest.1))

-- ---- the edits that are left

pub first_left : (count counter state : ℕ) → counter < count
    → drawn_edits (count - counter) state ≡ drawn_edit state ∷ drawn_edits (count - (counter + 1)) (after_draws state)
unfolding drawn_edits
first_left count counter state more =
    let one : count - counter ≡ suc (count - (counter + 1)) = omega (arith, more) in
    ap (λ (n : ℕ). drawn_edits n state) one

pub none_left : (count counter state : ℕ) → count ≤ counter → drawn_edits (count - counter) state ≡ []
unfolding drawn_edits
none_left count counter state done =
    let none : count - counter ≡ 0 = omega (arith, done) in
    ap (λ (n : ℕ). drawn_edits n state) none

-- what comes of the edits that are left, over what came of those before, is what comes of all
pub record Continues (first : SessionValue) (all : List Edit) (from : ℕ) (session : SessionValue) (left : List Edit) (accepted steps : ℕ) : Type 0 where
  pub session_is : after_edits session left ≡ after_edits first all
  pub accepted_is : accepted + accepted_count session left ≡ accepted_count first all
  pub steps_are : (to : ℕ) → TakesForSome session left steps to → TakesForSome first all from to

pub begins : (first : SessionValue) (all : List Edit) (from : ℕ) → Continues first all from first all 0 from
begins first all from = record { session_is = refl; accepted_is = omega arith; steps_are = λ to taken. taken }

pub one_more : (accepted : Bool) (was now : ℕ) → accepted ≡ true → now ≡ was + 1 → now ≡ was + cond accepted 1 0
one_more accepted was now is next =
    let one : ◌≡◌ {A = ℕ} (cond accepted 1 0) 1 = ap (λ (b : Bool). cond {A = ℕ} b 1 0) is in omega (arith, next, one)

pub as_many : (accepted : Bool) (was now : ℕ) → accepted ≡ false → now ≡ was → now ≡ was + cond accepted 1 0
as_many accepted was now is same =
    let none : ◌≡◌ {A = ℕ} (cond accepted 1 0) 0 = ap (λ (b : Bool). cond {A = ℕ} b 1 0) is in omega (arith, same, none)

counted : (session : SessionValue) (edit : Edit) (left : List Edit) (was now total : ℕ) (accepted : Bool)
    → is_accepted session edit ≡ accepted → now ≡ was + cond accepted 1 0
    → was + accepted_count session (edit ∷ left) ≡ total → now + accepted_count (after_edit session edit) left ≡ total
unfolding accepted_count
counted session edit left was now total accepted is one all =
    let rest = accepted_count (after_edit session edit) left in
    let own : was + (cond accepted 1 0 + rest) ≡ total = subst (λ (b : Bool). was + (cond b 1 0 + rest) ≡ total) is all in
    omega (arith, one, own)

pub goes_on : (first : SessionValue) (all : List Edit) (from : ℕ) (session : SessionValue) (edit : Edit) (left : List Edit) (was now steps more : ℕ) (accepted : Bool)
    → Continues first all from session (edit ∷ left) was steps
    → is_accepted session edit ≡ accepted → now ≡ was + cond accepted 1 0 → TakesForEdit session edit steps more
    → Continues first all from (after_edit session edit) left now more
unfolding after_edits
goes_on first all from session edit left was now steps more accepted so_far is one takes = record {
  session_is = so_far.session_is;
  accepted_is = counted session edit left was now (accepted_count first all) accepted is one so_far.accepted_is;
  steps_are = λ to taken. so_far.steps_are to (taken_more session edit left steps more to takes taken);
}

-- an edit at which it stops
pub stops : (first : SessionValue) (all : List Edit) (from : ℕ) (session : SessionValue) (edit : Edit) (left : List Edit) (accepted steps to : ℕ)
    → Continues first all from session (edit ∷ left) accepted steps → TakesForEdit session edit steps to
    → TakesForSome first all from to
stops first all from session edit left accepted steps to so_far takes =
    so_far.steps_are to (taken_more session edit left steps to to takes (none_taken (after_edit session edit) left to))

pub ends_with : (first : SessionValue) (all : List Edit) (from : ℕ) (session : SessionValue) (accepted steps : ℕ)
    → Continues first all from session [] accepted steps → session ≡ after_edits first all
unfolding after_edits
ends_with first all from session accepted steps so_far = so_far.session_is

pub ends_counted : (first : SessionValue) (all : List Edit) (from : ℕ) (session : SessionValue) (accepted steps : ℕ)
    → Continues first all from session [] accepted steps → accepted ≡ accepted_count first all
unfolding accepted_count
ends_counted first all from session accepted steps so_far = let all_are = so_far.accepted_is in omega (arith, all_are)

pub ends_taken : (first : SessionValue) (all : List Edit) (from : ℕ) (session : SessionValue) (left : List Edit) (accepted steps : ℕ)
    → Continues first all from session left accepted steps → TakesForSome first all from steps
ends_taken first all from session left accepted steps so_far =
    so_far.steps_are steps (none_taken session left steps)
