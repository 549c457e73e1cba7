-- How often a wave asks a child: once, where the plan has a pull for it.
use Rattle.std.proofs.Common.{◌≡◌, ◌≢◌, ◌∙◌, refl, ap, ℕ, zero, suc, ◌+◌, ◌<◌, ◌≤◌, ◌==◌, inl, inr, arith, Bool, true, false, cond, List, [], ◌∷◌, ◌++◌, length, get_or, Option, Some, None, pos}
use Rattle.std.proofs.lemmas.Bool.{true≢false, false≢true}
use Rattle.std.proofs.lemmas.Bool.Decides.{eqb_tells, nat_tests}
use Rattle.std.proofs.lemmas.List.Sums.{sum_by-append, list_all-from_AllPass, AllPass-from_list_all}
use Rattle.std.proofs.lemmas.Bool.{and_parts}
use Rattle.std.specs.List.{list_all}
use Rattle.fixed_units.specs.declared.boxes.MathBox.{MathBox}
use Rattle.fixed_units.specs.declared.pull.Pull.{Pull}
use Rattle.fixed_units.specs.declared.pull.Pull.TheVariants.{Free, Block, Inline}
use Rattle.op_dictionary.specs.declared.operator.Axis.{Axis}
use Rattle.op_dictionary.specs.declared.operator.Axis.TheVariants.{Block as Upright, Inline as Sideways}
use Rattle.row_stretch.specs.declared.asking.Plan.{Plan}
use Rattle.row_stretch.specs.declared.parts.Ask.{Ask}
use Rattle.row_stretch.specs.declared.parts.KidPull.{KidPull}
use Rattle.row_stretch.specs.Laws.{asked, IsPulled, AllStretch}
use Rattle.row_stretch.specs.Questions.{stretches, planned, ask_of, asks_from, under, second_of_two, row_second, target_of, first_asks_of, second_asks_of}

-- one question or none
unfoldable pub questions : Option Pull → ℕ
questions None = 0
questions (Some pull) = 1

asked-ask_of : (q p : ℕ) (pull : Option Pull) (rest : List Ask) → asked q (ask_of p pull ++ rest) ≡ asked q (ask_of p pull) + asked q rest
asked-ask_of q p pull rest = sum_by-append (λ ask. cond (ask.kid == q) 1 0) (ask_of p pull) rest

asked-same : (p : ℕ) (pull : Option Pull) → asked p (ask_of p pull) ≡ questions pull
unfolding questions
asked-same p None = refl
asked-same p (Some pull) = grind (arith, nat_tests)

asked-other : (q p : ℕ) (pull : Option Pull) → p ≢ q → asked q (ask_of p pull) ≡ 0
asked-other q p None other = refl
asked-other q p (Some pull) other = grind (arith, nat_tests)

-- a child before the first is not asked
pub asked-before : (q p : ℕ) (plan : Plan) (kids : List KidPull) → q < p → asked q (asks_from p plan kids) ≡ 0
unfolding asks_from
asked-before q p plan [] h = refl
asked-before q p plan (kid ∷ kids) h =
    let other : p ≢ q = omega arith in
    let here = asked-other q p (planned plan kid) other in
    let rest = asked-before q (p + 1) plan kids (omega arith) in
    omega (arith, asked-ask_of q p (planned plan kid) (asks_from (p + 1) plan kids))

-- no plan asks a child twice
ask_of-few : (q p : ℕ) (pull : Option Pull) → asked q (ask_of p pull) ≤ 1
ask_of-few q p None = omega arith
ask_of-few q p (Some pull) = grind (arith, nat_tests)

pub asked-few : (q p : ℕ) (plan : Plan) (kids : List KidPull) → asked q (asks_from p plan kids) ≤ 1
unfolding asks_from
asked-few q p plan [] = omega arith
asked-few q p plan (kid ∷ kids) =
    let rest = asked-few q (p + 1) plan kids in
    let few = ask_of-few q p (planned plan kid) in
    let both = asked-ask_of q p (planned plan kid) (asks_from (p + 1) plan kids) in
    elim (eqb_tells p q) [
      | inl same ↦ omega (arith, same.1, few, both, asked-before q (p + 1) plan kids (omega (arith, same.1)))
      | inr apart ↦ omega (arith, rest, both, asked-other q p (planned plan kid) apart.1)
    ]

pub asked-asks_from : (p i : ℕ) (plan : Plan) (kids : List KidPull) (d : KidPull) → i < length kids
    → asked (p + i) (asks_from p plan kids) ≡ questions (planned plan (get_or kids i d))
unfolding asks_from
asked-asks_from p i plan [] d h = absurd (omega arith)
asked-asks_from p zero plan (kid ∷ kids) d h =
    let here = asked-same p (planned plan kid) in
    let rest = asked-before p (p + 1) plan kids (omega arith) in
    let both = asked-ask_of p p (planned plan kid) (asks_from (p + 1) plan kids) in
    let e : p + 0 ≡ p = omega arith in
    ap (λ (q : ℕ). asked q (ask_of p (planned plan kid) ++ asks_from (p + 1) plan kids)) e ∙ omega (arith, here, rest, both)
asked-asks_from p (suc i) plan (kid ∷ kids) d h =
    let q = p + suc i in
    let other : p ≢ q = omega arith in
    let here = asked-other q p (planned plan kid) other in
    let e : q ≡ p + 1 + i = omega arith in
    let rest = ap (λ (k : ℕ). asked k (asks_from (p + 1) plan kids)) e ∙ asked-asks_from (p + 1) i plan kids d (omega arith) in
    omega (arith, here, rest, asked-ask_of q p (planned plan kid) (asks_from (p + 1) plan kids))

abbrev pub no_kid : KidPull
no_kid = record { axis = None }

-- the plan of the row's first child at place 0
pub counted : (plan : Plan) (kids : List KidPull) (place : ℕ) → place < length kids
    → asked place (asks_from 0 plan kids) ≡ questions (planned plan (get_or kids place no_kid))
counted plan kids place h =
    let e : place ≡ 0 + place = omega arith in
    ap (λ (k : ℕ). asked k (asks_from 0 plan kids)) e ∙ asked-asks_from 0 place plan kids no_kid h

-- ---- under a pull
pub under_asks : (axis : Axis) (pull : Pull) (kid : KidPull) → questions (planned (under axis pull) kid) ≡ 1
unfolding questions planned
under_asks axis pull kid = by (stretches axis kid)
  where
    by : (t : Bool) → questions (cond t (Some pull) (Some Free)) ≡ 1
    by true = refl
    by false = refl

pub asked_once : (kids : List KidPull) (own : Pull) (first : List MathBox) (place : ℕ) → place < length kids → IsPulled own
    → asked place (first_asks_of kids own) + asked place (second_asks_of kids own first) ≡ 1
asked_once kids Free first place h pulled = absurd pulled
asked_once kids (Block a d) first place h pulled =
    omega (arith, counted (under Upright (Block a d)) kids place h, under_asks Upright (Block a d) (get_or kids place no_kid))
asked_once kids (Inline w) first place h pulled =
    omega (arith, counted (under Sideways (Inline w)) kids place h, under_asks Sideways (Inline w) (get_or kids place no_kid))

-- ---- under none
-- those that don't stretch, then those that do
pub either_asks : (axis : Axis) (pull : Pull) (kid : KidPull)
    → questions (planned (record { axis = axis; stretching = None; others = Some Free }) kid) + questions (planned (second_of_two axis pull) kid) ≡ 1
unfolding questions planned
either_asks axis pull kid = by (stretches axis kid)
  where
    by : (t : Bool) → questions (cond t None (Some Free)) + questions (cond t (Some pull) None) ≡ 1
    by true = refl
    by false = refl

stretching_asks : (axis : Axis) (pull : Pull) (kid : KidPull) → stretches axis kid ≡ true
    → questions (planned (record { axis = axis; stretching = Some pull; others = None }) kid) ≡ 1
unfolding questions planned
stretching_asks axis pull kid e = rw e refl

abbrev least : Pull
least = Block (pos 0) (pos 0)

module _ (first : List MathBox) (place : ℕ) where
  some_plan : (kids : List KidPull) (t : Bool) → place < length kids → t ≡ false
      → asked place (asks_from 0 (cond t (record { axis = Upright; stretching = Some least; others = None }) (record { axis = Upright; stretching = None; others = Some Free })) kids)
      + asked place (second_asks_of kids Free first) ≡ 1
  some_plan kids true h e = absurd (true≢false e)
  some_plan kids false h e =
      omega (
        arith,
        counted (record { axis = Upright; stretching = None; others = Some Free }) kids place h,
        counted (row_second first) kids place h,
        either_asks Upright (target_of first) (get_or kids place no_kid),
      )

  pub asked_in_either : (kids : List KidPull) → place < length kids → ¬ (AllStretch kids)
      → asked place (first_asks_of kids Free) + asked place (second_asks_of kids Free first) ≡ 1
  asked_in_either kids h some = by (list_all (stretches Upright) kids) refl
    where
      by : (t : Bool) → list_all (stretches Upright) kids ≡ t → asked place (first_asks_of kids Free) + asked place (second_asks_of kids Free first) ≡ 1
      by true e = absurd (some (AllPass-from_list_all (stretches Upright) kids e))
      by false e = some_plan kids (list_all (stretches Upright) kids) h e

  all_at : (kids : List KidPull) (i : ℕ) → i < length kids → list_all (stretches Upright) kids ≡ true → stretches Upright (get_or kids i no_kid) ≡ true
  all_at [] i h e = absurd (omega arith)
  all_at (kid ∷ kids) zero h e = (and_parts (stretches Upright kid) (list_all (stretches Upright) kids) e).0
  all_at (kid ∷ kids) (suc i) h e = all_at kids i (omega arith) (and_parts (stretches Upright kid) (list_all (stretches Upright) kids) e).1

  all_plan : (kids : List KidPull) (t : Bool) → place < length kids → stretches Upright (get_or kids place no_kid) ≡ true → t ≡ true
      → asked place (asks_from 0 (cond t (record { axis = Upright; stretching = Some least; others = None }) (record { axis = Upright; stretching = None; others = Some Free })) kids) ≡ 1
  all_plan kids true h is e =
      counted (record { axis = Upright; stretching = Some least; others = None }) kids place h ∙ stretching_asks Upright least (get_or kids place no_kid) is
  all_plan kids false h is e = absurd (false≢true e)

  pub asked_in_both : (kids : List KidPull) → place < length kids → AllStretch kids
      → (asked place (first_asks_of kids Free) ≡ 1) × (asked place (second_asks_of kids Free first) ≡ 1)
  asked_in_both kids h all =
      let e = list_all-from_AllPass (stretches Upright) kids all in
      let is = all_at kids place h e in (
        all_plan kids (list_all (stretches Upright) kids) h is e,
        counted (row_second first) kids place h ∙ stretching_asks Upright (target_of first) (get_or kids place no_kid) is,
      )
