-- Which questions to children carry a pull: those to children that stretch, and those that hand an element's own to its
-- base.
use Rattle.std.proofs.Common.{◌≡◌, ◌∙◌, refl, sym, ap, subst, ℕ, suc, ◌+◌, ◌<◌, ◌≤◌, ◌==◌, arith, zero-add, Bool, true, false, cond, ◌&&◌, ◌||◌, List, [], ◌∷◌, length, get_or, inl, inr, ◌⊎◌, All, Option, Some, None, is_some, pos}
use Rattle.std.proofs.lemmas.Bool.{false≢true, ne_eqb}
use Rattle.std.proofs.lemmas.List.Elements.{All-append, All-cons, All-nil}
use Rattle.std.proofs.lemmas.Option.{none-some, same_Some}
use Rattle.std.specs.List.{list_all}
use Rattle.std.specs.Prelude.{⊤}
use Rattle.fixed_units.specs.declared.boxes.MathBox.{MathBox}
use Rattle.fixed_units.specs.declared.pull.Pull.{Pull}
use Rattle.fixed_units.specs.declared.pull.Pull.TheVariants.{Free, Block, Inline}
use Rattle.op_dictionary.specs.declared.operator.Axis.{Axis}
use Rattle.op_dictionary.specs.declared.operator.Axis.TheVariants.{Block as Upwards, Inline as Along}
use Rattle.row_stretch.specs.Questions.{ask_of, asks_from, first_of_two, is_along, planned, row_second, second_of_two, stretches, target_of, under}
use Rattle.row_stretch.specs.declared.asking.Plan.{Plan}
use Rattle.row_stretch.specs.declared.parts.Ask.{Ask}
use Rattle.row_stretch.specs.declared.parts.KidPull.{KidPull}
use Rattle.row_stretch.proofs.Counts.{no_kid}
use Rattle.scripts.specs.Questions.{rest, widest_of}
use Rattle.layout_model.specs.Questions.{first_asks, second_asks, unstretched}
use Rattle.layout_model.specs.declared.asking.Asking.{Asking}
use Rattle.layout_model.specs.declared.asking.Asking.TheVariants.{Nothing, Plainly, ForTheBase, AsRow, AsLimits, AsTable}
use Rattle.layout_model.proofs.Asked.{first_plan, plan_is}

-- ---- pulls

abbrev pub is_pulled : Pull → Bool
is_pulled Free = false
is_pulled other = true

abbrev pub axis_of : Pull → Option Axis
axis_of Free = None
axis_of (Block ascent descent) = Some Upwards
axis_of (Inline width) = Some Along

-- a pull that a child may take which stretches along its own axis
abbrev pub IsFor : KidPull → Pull → Type 0
IsFor kid Free = ⊤
IsFor kid (Block ascent descent) = kid.axis ≡ Some Upwards
IsFor kid (Inline width) = kid.axis ≡ Some Along

abbrev IsAlong : Axis → Pull → Type 0
IsAlong Upwards (Block ascent descent) = ⊤
IsAlong Along (Inline width) = ⊤
IsAlong axis pull = ⊥

along_is : (axis : Axis) (pull : Pull) → IsAlong axis pull → is_pulled pull ≡ true
along_is Upwards (Block ascent descent) h = refl
along_is Along (Inline width) h = refl
along_is Upwards Free h = absurd h
along_is Upwards (Inline width) h = absurd h
along_is Along Free h = absurd h
along_is Along (Block ascent descent) h = absurd h

axis_is : (axis : Axis) (found : Option Axis) → is_along axis found ≡ true → found ≡ Some axis
axis_is Upwards (Some Upwards) e = refl
axis_is Along (Some Along) e = refl
axis_is Upwards (Some Along) e = absurd (false≢true e)
axis_is Along (Some Upwards) e = absurd (false≢true e)
axis_is Upwards None e = absurd (false≢true e)
axis_is Along None e = absurd (false≢true e)

for_it : (axis : Axis) (pull : Pull) (kid : KidPull) → IsAlong axis pull → stretches axis kid ≡ true → IsFor kid pull
for_it Upwards (Block ascent descent) kid h e = axis_is Upwards kid.axis e
for_it Along (Inline width) kid h e = axis_is Along kid.axis e
for_it Upwards Free kid h e = absurd h
for_it Upwards (Inline width) kid h e = absurd h
for_it Along Free kid h e = absurd h
for_it Along (Block ascent descent) kid h e = absurd h

-- ---- plans

-- a plan by which those that stretch are pulled along its axis, and no others
record IsSorted (plan : Plan) : Type 0 where
  stretching : (pull : Pull) → plan.stretching ≡ Some pull → IsAlong plan.axis pull
  others : (pull : Pull) → plan.others ≡ Some pull → pull ≡ Free

record IsPlanned (axis : Axis) (kid : KidPull) (pull : Pull) : Type 0 where
  carries : is_pulled pull ≡ stretches axis kid
  fits : IsFor kid pull

by_plan : (plan : Plan) → IsSorted plan → (kid : KidPull) (pull : Pull) → planned plan kid ≡ Some pull → IsPlanned plan.axis kid pull
unfolding planned
by_plan plan s kid pull e = by (stretches plan.axis kid) refl e
  where
    by : (b : Bool) → stretches plan.axis kid ≡ b → cond b plan.stretching plan.others ≡ Some pull → IsPlanned plan.axis kid pull
    by true is h = let along = s.stretching pull h in record {
      carries = along_is plan.axis pull along ∙ sym is;
      fits = for_it plan.axis pull kid along is;
    }
    by false is h = let free = s.others pull h in record {
      carries = ap is_pulled free ∙ sym is;
      fits = subst (IsFor kid) (sym free) tt;
    }

under_sorted : (axis : Axis) (pull : Pull) → IsAlong axis pull → IsSorted (under axis pull)
under_sorted axis pull h = record {
  stretching = λ found e. subst (IsAlong axis) (same_Some pull found e) h;
  others = λ found e. sym (same_Some Free found e);
}

first_sorted : (axis : Axis) (least : Pull) → IsAlong axis least → (b : Bool) → IsSorted (first_plan axis least b)
first_sorted axis least h true = record {
  stretching = λ found e. subst (IsAlong axis) (same_Some least found e) h;
  others = λ found e. absurd (none-some found e);
}
first_sorted axis least h false = record {
  stretching = λ found e. absurd (none-some found e);
  others = λ found e. sym (same_Some Free found e);
}

second_sorted : (axis : Axis) (pull : Pull) → IsAlong axis pull → IsSorted (second_of_two axis pull)
second_sorted axis pull h = record {
  stretching = λ found e. subst (IsAlong axis) (same_Some pull found e) h;
  others = λ found e. absurd (none-some found e);
}

rest_sorted : IsSorted rest
rest_sorted = record {
  stretching = λ found e. absurd (none-some found e);
  others = λ found e. sym (same_Some Free found e);
}

-- ---- what holds of all asks of a plan

module _ (at : ℕ → KidPull) (start : ℕ) (plan : Plan) (P : ℕ → KidPull → Pull → Type 0)
    (each : (place : ℕ) (kid : KidPull) (pull : Pull) → start ≤ place → planned plan kid ≡ Some pull → P place kid pull) where
  abbrev AskHolds : Ask → Type 0
  AskHolds ask = P ask.kid (at ask.kid) ask.pull

  ask_holds : (place : ℕ) (pull : Option Pull) → start ≤ place → planned plan (at place) ≡ pull → All AskHolds (ask_of place pull)
  ask_holds place None l e = All-nil AskHolds
  ask_holds place (Some pull) l e = All-cons AskHolds (record { kid = place; pull = pull }) [] (each place (at place) pull l e) (All-nil AskHolds)

  asks_hold : (place : ℕ) (kids : List KidPull) → start ≤ place → ((i : ℕ) → i < length kids → at (place + i) ≡ get_or kids i no_kid)
      → All AskHolds (asks_from place plan kids)
  unfolding asks_from
  asks_hold place [] l h = All-nil AskHolds
  asks_hold place (kid ∷ kids) l h =
      let none : place ≡ place + 0 = omega arith in
      let here : at place ≡ kid = ap at none ∙ h 0 (omega arith) in
      All-append AskHolds (ask_of place (planned plan kid)) (asks_from (place + 1) plan kids)
      (ask_holds place (planned plan kid) l (ap (planned plan) here))
      (asks_hold (place + 1) kids (omega (arith, l)) (λ i k. ap at (further i) ∙ h (suc i) (omega (arith, k))))
    where
      further : (i : ℕ) → place + 1 + i ≡ place + suc i
      further i = omega arith

-- ---- how elements ask

-- whether the question to the child at a place carries a pull, where the element's own is along this axis
abbrev pub carries : Asking → Option Axis → ℕ → KidPull → Bool
carries Nothing own place kid = false
carries Plainly own place kid = false
carries AsTable own place kid = false
carries ForTheBase own place kid = (place == 0) && is_some own
carries AsRow (Some Along) place kid = stretches Along kid
carries AsRow other place kid = stretches Upwards kid
carries AsLimits (Some Upwards) place kid = (place == 0) || stretches Along kid
carries AsLimits other place kid = stretches Along kid

abbrev pub hands_down : Asking → Bool
hands_down ForTheBase = true
hands_down AsLimits = true
hands_down other = false

-- the element's own pull goes to its base
pub record IsHanded (how : Asking) (own : Pull) (place : ℕ) (pull : Pull) : Type 0 where
  pub base : place ≡ 0
  pub own_pull : pull ≡ own
  pub by_its_base : hands_down how ≡ true

pub record IsCarried (how : Asking) (own : Pull) (place : ℕ) (kid : KidPull) (pull : Pull) : Type 0 where
  pub flag : is_pulled pull ≡ carries how (axis_of own) place kid
  pub fits : IsFor kid pull ⊎ IsHanded how own place pull

-- as many as the children in flow
abbrev pub kid_at : List KidPull → ℕ → KidPull
kid_at kids place = get_or kids place no_kid

abbrev pub AskCarried : Asking → List KidPull → Pull → Ask → Type 0
AskCarried how kids own ask = IsCarried how own ask.kid (kid_at kids ask.kid) ask.pull

from_zero : (kids : List KidPull) (i : ℕ) → i < length kids → kid_at kids (0 + i) ≡ get_or kids i no_kid
from_zero kids i l = ap (kid_at kids) (zero-add i)

from_one : (base : KidPull) (others : List KidPull) (i : ℕ) → i < length others → kid_at (base ∷ others) (1 + i) ≡ get_or others i no_kid
from_one base others i l = let e : 1 + i ≡ suc i = omega arith in ap (kid_at (base ∷ others)) e

-- no child is pulled
free_one : (kid : KidPull) (pull : Pull) → planned unstretched kid ≡ Some pull → pull ≡ Free
unfolding planned
free_one kid pull e = by (stretches Upwards kid) e
  where
    by : (b : Bool) → cond b (Some Free) (Some Free) ≡ Some pull → pull ≡ Free
    by true h = sym (same_Some Free pull h)
    by false h = sym (same_Some Free pull h)

free_for : (kid : KidPull) (pull : Pull) → pull ≡ Free → IsFor kid pull
free_for kid pull e = subst (IsFor kid) (sym e) tt

plainly_carried : (kids : List KidPull) (own : Pull) (how : Asking) → ((place : ℕ) (kid : KidPull) → carries how (axis_of own) place kid ≡ false)
    → All (AskCarried how kids own) (asks_from 0 unstretched kids)
plainly_carried kids own how none =
    asks_hold (kid_at kids) 0 unstretched (IsCarried how own)
    (λ place kid pull l e. record { flag = ap is_pulled (free_one kid pull e) ∙ sym (none place kid); fits = inl (free_for kid pull (free_one kid pull e)) })
    0 kids (omega arith) (from_zero kids)

own_is : (own : Pull) → is_pulled own ≡ is_some (axis_of own)
own_is Free = refl
own_is (Block ascent descent) = refl
own_is (Inline width) = refl

behind_base : (place : ℕ) → 1 ≤ place → (place == 0) ≡ false
behind_base place l = ne_eqb place 0 (λ e. omega (arith, l, e))

base_carried : (kids : List KidPull) (own : Pull) → All (AskCarried ForTheBase kids own) (first_asks ForTheBase kids own)
unfolding first_asks
base_carried [] own = All-nil (AskCarried ForTheBase [] own)
base_carried (base ∷ others) own =
    All-cons (AskCarried ForTheBase (base ∷ others) own) (record { kid = 0; pull = own }) (asks_from 1 unstretched others)
    (record { flag = own_is own; fits = inr (record { base = refl; own_pull = refl; by_its_base = refl }) })
    (asks_hold (kid_at (base ∷ others)) 1 unstretched (IsCarried ForTheBase own)
    (λ place kid pull l e. record {
      flag = ap is_pulled (free_one kid pull e) ∙ sym (ap (λ (b : Bool). b && is_some (axis_of own)) (behind_base place l));
      fits = inl (free_for kid pull (free_one kid pull e));
    })
    1 others (omega arith) (from_one base others))

-- by a sorted plan, where a child carries a pull just if it stretches along the plan's axis
module _ (how : Asking) (own : Pull) (plan : Plan) (s : IsSorted plan) where
  sorted_one : (place : ℕ) (kid : KidPull) (pull : Pull) → carries how (axis_of own) place kid ≡ stretches plan.axis kid
      → planned plan kid ≡ Some pull → IsCarried how own place kid pull
  sorted_one place kid pull c e =
      let found = by_plan plan s kid pull e in
      record { flag = found.carries ∙ sym c; fits = inl found.fits }

  sorted_carried : (kids : List KidPull) → ((place : ℕ) (kid : KidPull) → carries how (axis_of own) place kid ≡ stretches plan.axis kid)
      → All (AskCarried how kids own) (asks_from 0 plan kids)
  sorted_carried kids c =
      asks_hold (kid_at kids) 0 plan (IsCarried how own) (λ place kid pull l e. sorted_one place kid pull (c place kid) e)
      0 kids (omega arith) (from_zero kids)

  sorted_behind : (base : KidPull) (others : List KidPull)
      → ((place : ℕ) (kid : KidPull) → 1 ≤ place → carries how (axis_of own) place kid ≡ stretches plan.axis kid)
      → All (AskCarried how (base ∷ others) own) (asks_from 1 plan others)
  sorted_behind base others c =
      asks_hold (kid_at (base ∷ others)) 1 plan (IsCarried how own) (λ place kid pull l e. sorted_one place kid pull (c place kid l) e)
      1 others (omega arith) (from_one base others)

two_carried : (how : Asking) (own : Pull) (axis : Axis) (least : Pull) (kids : List KidPull) → IsAlong axis least
    → ((place : ℕ) (kid : KidPull) → carries how (axis_of own) place kid ≡ stretches axis kid)
    → All (AskCarried how kids own) (asks_from 0 (first_of_two kids axis least) kids)
two_carried how own axis least kids h c = by (list_all (stretches axis) kids) refl
  where
    by : (b : Bool) → list_all (stretches axis) kids ≡ b → All (AskCarried how kids own) (asks_from 0 (first_of_two kids axis least) kids)
    by true e = subst (λ (plan : Plan). All (AskCarried how kids own) (asks_from 0 plan kids)) (sym (plan_is axis least kids true e)) (sorted_carried how own (first_plan axis least true) (first_sorted axis least h true) kids c)
    by false e = subst (λ (plan : Plan). All (AskCarried how kids own) (asks_from 0 plan kids)) (sym (plan_is axis least kids false e)) (sorted_carried how own (first_plan axis least false) (first_sorted axis least h false) kids c)

row_carried : (kids : List KidPull) (own : Pull) → All (AskCarried AsRow kids own) (first_asks AsRow kids own)
unfolding first_asks
row_carried kids Free = two_carried AsRow Free Upwards (Block (pos 0) (pos 0)) kids tt (λ place kid. refl)
row_carried kids (Block a d) = sorted_carried AsRow (Block a d) (under Upwards (Block a d)) (under_sorted Upwards (Block a d) tt) kids (λ place kid. refl)
row_carried kids (Inline w) = sorted_carried AsRow (Inline w) (under Along (Inline w)) (under_sorted Along (Inline w) tt) kids (λ place kid. refl)

limit_behind : (a d : _) (place : ℕ) (kid : KidPull) → 1 ≤ place → carries AsLimits (axis_of (Block a d)) place kid ≡ stretches Along kid
limit_behind a d place kid l = ap (λ (b : Bool). b || stretches Along kid) (behind_base place l)

limits_carried : (kids : List KidPull) (own : Pull) → All (AskCarried AsLimits kids own) (first_asks AsLimits kids own)
unfolding first_asks
limits_carried kids Free = two_carried AsLimits Free Along (Inline (pos 0)) kids tt (λ place kid. refl)
limits_carried kids (Inline w) = sorted_carried AsLimits (Inline w) (under Along (Inline w)) (under_sorted Along (Inline w) tt) kids (λ place kid. refl)
limits_carried [] (Block a d) = All-nil (AskCarried AsLimits [] (Block a d))
limits_carried (base ∷ others) (Block a d) =
    All-cons (AskCarried AsLimits (base ∷ others) (Block a d)) (record { kid = 0; pull = Block a d }) (asks_from 1 rest others)
    (record { flag = refl; fits = inr (record { base = refl; own_pull = refl; by_its_base = refl }) })
    (sorted_behind AsLimits (Block a d) rest rest_sorted base others (limit_behind a d))

pub first_carried : (how : Asking) (kids : List KidPull) (own : Pull) → All (AskCarried how kids own) (first_asks how kids own)
unfolding first_asks
first_carried Nothing kids own = All-nil (AskCarried Nothing kids own)
first_carried Plainly kids own = plainly_carried kids own Plainly (λ place kid. refl)
first_carried ForTheBase kids own = base_carried kids own
first_carried AsRow kids own = row_carried kids own
first_carried AsLimits kids own = limits_carried kids own
first_carried AsTable kids own = plainly_carried kids own AsTable (λ place kid. refl)

second_row_carried : (kids : List KidPull) (own : Pull) (frames : List MathBox) → All (AskCarried AsRow kids own) (second_asks AsRow kids own frames)
unfolding second_asks
second_row_carried kids Free frames = sorted_carried AsRow Free (row_second frames) (second_sorted Upwards (target_of frames) tt) kids (λ place kid. refl)
second_row_carried kids (Block a d) frames = All-nil (AskCarried AsRow kids (Block a d))
second_row_carried kids (Inline w) frames = All-nil (AskCarried AsRow kids (Inline w))

second_limits_carried : (kids : List KidPull) (own : Pull) (frames : List MathBox) → All (AskCarried AsLimits kids own) (second_asks AsLimits kids own frames)
unfolding second_asks
second_limits_carried kids Free frames =
    sorted_carried AsLimits Free (second_of_two Along (Inline (widest_of frames))) (second_sorted Along (Inline (widest_of frames)) tt) kids (λ place kid. refl)
second_limits_carried kids (Inline w) frames = All-nil (AskCarried AsLimits kids (Inline w))
second_limits_carried [] (Block a d) frames = All-nil (AskCarried AsLimits [] (Block a d))
second_limits_carried (base ∷ others) (Block a d) frames =
    let pull = Inline (widest_of frames) in
    sorted_behind AsLimits (Block a d) (second_of_two Along pull) (second_sorted Along pull tt) base others (limit_behind a d)

pub second_carried : (how : Asking) (kids : List KidPull) (own : Pull) (frames : List MathBox) → All (AskCarried how kids own) (second_asks how kids own frames)
unfolding second_asks
second_carried AsRow kids own frames = second_row_carried kids own frames
second_carried AsLimits kids own frames = second_limits_carried kids own frames
second_carried Nothing kids own frames = All-nil (AskCarried Nothing kids own)
second_carried Plainly kids own frames = All-nil (AskCarried Plainly kids own)
second_carried ForTheBase kids own frames = All-nil (AskCarried ForTheBase kids own)
second_carried AsTable kids own frames = All-nil (AskCarried AsTable kids own)
