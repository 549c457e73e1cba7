-- Reading a word of a choice gives what was chosen.
use Rattle.std.proofs.Common.{◌≡◌, ap, refl, ℕ, ◌<◌, ◌≤◌, ◌+◌, zero, suc, nat_eq, Bool, true, false, ◌&&◌, Option, Some, None, Ok, arith, inl, inr}
use Rattle.std.specs.List.{list_all, range_with_len}
use Rattle.std.proofs.lemmas.Bool.{and_parts, eqb-true, cases_order}
use Rattle.op_dictionary.specs.declared.operator.Axis.{Axis}
use Rattle.op_dictionary.specs.declared.operator.Axis.TheVariants.{Block, Inline}
use Rattle.op_dictionary.specs.declared.operator.Category.{Category}
use Rattle.op_dictionary.specs.declared.operator.Category.TheVariants.{Default, A, B, C, D, E, F, G, H, I, J, K, L, M}
use Rattle.op_dictionary.specs.declared.operator.Form.{Form}
use Rattle.op_dictionary.specs.declared.operator.Form.TheVariants.{Prefix, Infix, Postfix}
use Rattle.font_metrics.specs.declared.corner.Corner.{Corner}
use Rattle.font_metrics.specs.declared.corner.Corner.TheVariants.{TopRight, TopLeft, BottomRight, BottomLeft}
use Rattle.font_metrics.specs.Constants.{place_of_text}
use Rattle.metrics_file.specs.Words.{extender_in, corner_in, form_in, category_in, axis_in}
use Rattle.font_metrics.specs.Texts.{constant_text, extender_text, corner_text, form_text, category_text, axis_text}
use Rattle.metrics_file.proofs.ReadBack.Joined.{is_word}

-- ---- a test of each place of a table

tested-at : (test : ℕ → Bool) (from count place : ℕ) → list_all test (range_with_len from count) ≡ true
    → from ≤ place → place < from + count
    → test place ≡ true
tested-at test from zero place h low high = absurd (omega arith)
tested-at test from (suc count) place h low high =
    let p = and_parts (test from) (list_all test (range_with_len (from + 1) count)) h in
    elim (cases_order from place) [
      | inl same ↦ (let e : test place ≡ true = rw (← same) p.0 in e)
      | inr (inl less) ↦ tested-at test (from + 1) count place p.1 (omega arith) (omega arith)
      | inr (inr more) ↦ absurd (omega arith)
    ]

-- ---- constants

is_at : ℕ → Option ℕ → Bool
is_at place None = false
is_at place (Some other) = nat_eq other place

at-Some : (place : ℕ) (found : Option ℕ) → is_at place found ≡ true → found ≡ Some place
unfolding is_at
at-Some place None h = cc
at-Some place (Some other) h = ap Some (eqb-true other place h)

-- the whole table: each name is a word that is read as its place
is_read : ℕ → Bool
is_read place = is_at place (place_of_text (constant_text place)) && is_word (constant_text place)

all-read : list_all is_read (range_with_len 0 56) ≡ true
unfolding is_read is_at place_of_text
all-read = refl

constant-read : (place : ℕ) → place < 56 → is_read place ≡ true
constant-read place small = tested-at is_read 0 56 place all-read (omega arith) (omega arith)

pub place_of_text-constant : (place : ℕ) → place < 56 → place_of_text (constant_text place) ≡ Some place
unfolding is_read
place_of_text-constant place small =
    at-Some place _ (and_parts _ (is_word (constant_text place)) (constant-read place small)).0

pub constant-word : (place : ℕ) → place < 56 → is_word (constant_text place) ≡ true
unfolding is_read
constant-word place small =
    (and_parts (is_at place (place_of_text (constant_text place))) _ (constant-read place small)).1

-- ---- words of a small choice

pub extender_in-text : (extender : Bool) → extender_in (extender_text extender) ≡ Ok extender
unfolding extender_in
extender_in-text false = refl
extender_in-text true = refl

pub corner_in-text : (corner : Corner) → corner_in (corner_text corner) ≡ Ok corner
unfolding corner_in
corner_in-text TopRight = refl
corner_in-text TopLeft = refl
corner_in-text BottomRight = refl
corner_in-text BottomLeft = refl

pub form_in-text : (form : Form) → form_in (form_text form) ≡ Ok form
unfolding form_in
form_in-text Prefix = refl
form_in-text Infix = refl
form_in-text Postfix = refl

pub axis_in-text : (axis : Axis) → axis_in (axis_text axis) ≡ Ok axis
unfolding axis_in
axis_in-text Block = refl
axis_in-text Inline = refl

pub category_in-text : (category : Category) → category_in (category_text category) ≡ Ok category
unfolding category_in
category_in-text Default = refl
category_in-text A = refl
category_in-text B = refl
category_in-text C = refl
category_in-text D = refl
category_in-text E = refl
category_in-text F = refl
category_in-text G = refl
category_in-text H = refl
category_in-text I = refl
category_in-text J = refl
category_in-text K = refl
category_in-text L = refl
category_in-text M = refl
