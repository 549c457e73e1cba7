-- The children of a valid `mmultiscripts`: a base, pairs of scripts, and behind a mark pairs of prescripts.
use Rattle.std.proofs.Common.{◌≡◌, ◌∙◌, ◌⊎◌, inl, inr, refl, sym, ap, subst, ℕ, suc, ◌+◌, ◌*◌, ◌/◌, ◌%◌, ◌≤◌, Bool, true, false, true≢false, cond, ◌&&◌, not, List, [], ◌∷◌, ◌++◌, length, filter, All, nat_eq, nat_le, arith}
use Rattle.std.proofs.lemmas.Bool.{and_parts, eqb-true}
use Rattle.std.proofs.lemmas.Bool.Decides.{nat_tests}
use Rattle.std.proofs.lemmas.List.{length-append}
use Rattle.std.proofs.lemmas.List.Elements.{All-nil, All-cons, filter-append}
use Rattle.std.proofs.lemmas.List.Splits.{slice_split_at, slice_split_none}
use Rattle.std.proofs.lemmas.List.Sums.{sum_by-append, sum_by-cons}
use Rattle.std.specs.List.{count_by, list_all, position_or_len, slice_split}
use Rattle.math_tree.specs.declared.kind.Kind.{Kind}
use Rattle.embellished.specs.Kinds.{is_prescripts_mark}
use Rattle.embellished.specs.Validity.{are_base_and_scripts, are_scripts, is_even}

abbrev mark : Kind → Bool
mark kind = is_prescripts_mark kind

-- those that aren't marks
abbrev pub unmarked : List Kind → List Kind
unmarked kinds = filter (λ kind. not (is_prescripts_mark kind)) kinds

abbrev ArePlain : List Kind → Type 0
ArePlain kinds = All (λ kind. is_prescripts_mark kind ≡ false) kinds

-- ---- a list without a mark, or one cut at its first mark

record IsCut (kinds : List Kind) : Type 0 where
  front : List Kind
  at : Kind
  back : List Kind
  whole : kinds ≡ front ++ at ∷ back
  plain : ArePlain front
  is : is_prescripts_mark at ≡ true

cut_more : (kind : Kind) (kinds : List Kind) → is_prescripts_mark kind ≡ false → ArePlain kinds ⊎ IsCut kinds
    → ArePlain (kind ∷ kinds) ⊎ IsCut (kind ∷ kinds)
cut_more kind kinds e (inl plain) = inl (All-cons (λ k. is_prescripts_mark k ≡ false) kind kinds e plain)
cut_more kind kinds e (inr cut) = inr record {
  front = kind ∷ cut.front;
  at = cut.at;
  back = cut.back;
  whole = ap (λ rest. kind ∷ rest) cut.whole;
  plain = All-cons (λ k. is_prescripts_mark k ≡ false) kind cut.front e cut.plain;
  is = cut.is;
}

cut_here : (b : Bool) (kind : Kind) (kinds : List Kind) → is_prescripts_mark kind ≡ b → ArePlain kinds ⊎ IsCut kinds
    → ArePlain (kind ∷ kinds) ⊎ IsCut (kind ∷ kinds)
cut_here true kind kinds e rest = inr record {
  front = [];
  at = kind;
  back = kinds;
  whole = refl;
  plain = All-nil (λ k. is_prescripts_mark k ≡ false);
  is = e;
}
cut_here false kind kinds e rest = cut_more kind kinds e rest

cut : (kinds : List Kind) → ArePlain kinds ⊎ IsCut kinds
cut [] = inl (All-nil (λ k. is_prescripts_mark k ≡ false))
cut (kind ∷ kinds) = cut_here (is_prescripts_mark kind) kind kinds refl (cut kinds)

-- ---- what a cut tells

unmarked_here : (b : Bool) (kind : Kind) (rest kinds : List Kind) → b ≡ false → rest ≡ kinds → cond (not b) (kind ∷ rest) rest ≡ kind ∷ kinds
unmarked_here true kind rest kinds e r = absurd (true≢false e)
unmarked_here false kind rest kinds e r = ap (λ ks. kind ∷ ks) r

rest_plain : (kind : Kind) (kinds : List Kind) → ArePlain (kind ∷ kinds) → ArePlain kinds
rest_plain kind kinds plain i d within = plain (suc i) d (omega (arith, within))

unmarked_plain : (kinds : List Kind) → ArePlain kinds → unmarked kinds ≡ kinds
unmarked_plain [] plain = refl
unmarked_plain (kind ∷ kinds) plain =
    unmarked_here (is_prescripts_mark kind) kind (unmarked kinds) kinds (plain 0 kind (omega arith)) (unmarked_plain kinds (rest_plain kind kinds plain))

place_here : (b : Bool) (n m : ℕ) → b ≡ false → n ≡ m → cond (not b) (1 + n) 0 ≡ 1 + m
place_here true n m e r = absurd (true≢false e)
place_here false n m e r = ap (λ k. 1 + k) r

place_plain : (kinds : List Kind) → ArePlain kinds → position_or_len mark kinds ≡ length kinds
place_plain [] plain = refl
place_plain (kind ∷ kinds) plain =
    place_here (is_prescripts_mark kind) (position_or_len mark kinds) (length kinds) (plain 0 kind (omega arith)) (place_plain kinds (rest_plain kind kinds plain))
    ∙ omega arith

-- a mark itself
place_mark : (b : Bool) (n : ℕ) → b ≡ true → cond (not b) (1 + n) 0 ≡ 0
place_mark true n e = refl
place_mark false n e = absurd (true≢false (sym e))

place_cut : (front : List Kind) (at : Kind) (back : List Kind) → ArePlain front → is_prescripts_mark at ≡ true
    → position_or_len mark (front ++ at ∷ back) ≡ length front
place_cut [] at back plain is = place_mark (is_prescripts_mark at) (position_or_len mark back) is
place_cut (kind ∷ front) at back plain is =
    place_here (is_prescripts_mark kind) (position_or_len mark (front ++ at ∷ back)) (length front) (plain 0 kind (omega arith))
    (place_cut front at back (rest_plain kind front plain) is)
    ∙ omega arith

dropped : (b : Bool) (kind : Kind) (rest : List Kind) → b ≡ true → cond (not b) (kind ∷ rest) rest ≡ rest
dropped true kind rest e = refl
dropped false kind rest e = absurd (true≢false (sym e))

unmarked_cut : (front : List Kind) (at : Kind) (back : List Kind) → ArePlain front → is_prescripts_mark at ≡ true → ArePlain back
    → unmarked (front ++ at ∷ back) ≡ front ++ back
unmarked_cut front at back plain is rest =
    filter-append (λ k. not (is_prescripts_mark k)) front (at ∷ back)
    ∙ ap (λ ks. ks ++ unmarked (at ∷ back)) (unmarked_plain front plain)
    ∙ ap (λ ks. front ++ ks) (dropped (is_prescripts_mark at) at (unmarked back) is ∙ unmarked_plain back rest)

-- where none is counted, none is a mark
uncounted_here : (b : Bool) (n : ℕ) → cond b 1 0 + n ≡ 0 → (b ≡ false) × (n ≡ 0)
uncounted_here true n e = absurd (omega (arith, e))
uncounted_here false n e = (refl, omega (arith, e))

uncounted : (kinds : List Kind) → count_by mark kinds ≡ 0 → ArePlain kinds
uncounted [] e = All-nil (λ k. is_prescripts_mark k ≡ false)
uncounted (kind ∷ kinds) e =
    let parts = uncounted_here (is_prescripts_mark kind) (count_by mark kinds) (sym (sum_by-cons (λ k. cond (mark k) 1 0) kind kinds) ∙ e) in
    All-cons (λ k. is_prescripts_mark k ≡ false) kind kinds parts.0 (uncounted kinds parts.1)

marked_count : (b : Bool) (n : ℕ) → b ≡ true → cond b 1 0 + n ≡ 1 + n
marked_count true n e = refl
marked_count false n e = absurd (true≢false (sym e))

-- behind the only mark there is none
one_mark : (front : List Kind) (at : Kind) (back : List Kind) → is_prescripts_mark at ≡ true
    → count_by mark (front ++ at ∷ back) ≤ 1 → ArePlain back
one_mark front at back is most =
    let count : Kind → ℕ = λ k. cond (mark k) 1 0 in
    let whole = sum_by-append count front (at ∷ back) in
    let behind = sum_by-cons count at back ∙ marked_count (is_prescripts_mark at) (count_by mark back) is in
    uncounted back (omega (arith, most, whole, behind))

-- ---- pairs

record ArePairs (kinds : List Kind) : Type 0 where
  pairs : ℕ
  behind : ℕ
  place : position_or_len mark kinds ≡ 2 * pairs
  count : length (unmarked kinds) ≡ 2 * pairs + 2 * behind

half : (n : ℕ) → nat_eq (n % 2) 0 ≡ true → n ≡ 2 * (n / 2)
half n e = omega (arith, eqb-true (n % 2) 0 e)

paired : (kinds : List Kind) → count_by mark kinds ≤ 1 → list_all is_even (slice_split mark kinds) ≡ true
    → ArePlain kinds ⊎ IsCut kinds → ArePairs kinds
paired kinds most even (inl plain) =
    let parts : slice_split mark kinds ≡ kinds ∷ [] = slice_split_none mark kinds plain in
    let own = and_parts (is_even kinds) true (sym (ap (list_all is_even) parts) ∙ even) in
    let n = half (length kinds) own.0 in
    record {
      pairs = length kinds / 2;
      behind = 0;
      place = place_plain kinds plain ∙ n;
      count = ap length (unmarked_plain kinds plain) ∙ n ∙ omega arith;
    }
paired kinds most even (inr cut) =
    let is = cut.whole in
    let whole : List Kind = cut.front ++ cut.at ∷ cut.back in
    let rest = one_mark cut.front cut.at cut.back cut.is (subst (λ ks. count_by mark ks ≤ 1) is most) in
    let parts : slice_split mark whole ≡ cut.front ∷ cut.back ∷ [] =
    slice_split_at mark cut.front cut.at cut.back cut.plain cut.is ∙ ap (λ ps. cut.front ∷ ps) (slice_split_none mark cut.back rest) in
    let all = sym (ap (list_all is_even) parts) ∙ subst (λ ks. list_all is_even (slice_split mark ks) ≡ true) is even in
    let first = and_parts (is_even cut.front) (is_even cut.back && true) all in
    let second = and_parts (is_even cut.back) true first.1 in
    let n = half (length cut.front) first.0 in
    let m = half (length cut.back) second.0 in
    let count = ap (λ ks. length (unmarked ks)) is ∙ ap length (unmarked_cut cut.front cut.at cut.back cut.plain cut.is rest) ∙ length-append cut.front cut.back in
    record {
      pairs = length cut.front / 2;
      behind = length cut.back / 2;
      place = ap (position_or_len mark) is ∙ place_cut cut.front cut.at cut.back cut.plain cut.is ∙ n;
      count = count ∙ omega (arith, n, m);
    }

-- ---- a base and scripts

pub record HasBase (kinds : List Kind) : Type 0 where
  pub pairs : ℕ
  pub behind : ℕ
  pub place : position_or_len is_prescripts_mark kinds ≡ 1 + 2 * pairs
  pub count : length (unmarked kinds) ≡ 1 + 2 * pairs + 2 * behind

at_most : (n : ℕ) → nat_le n 1 ≡ true → n ≤ 1
at_most n e = grind (arith, nat_tests)

not_mark : (b : Bool) → not b ≡ true → b ≡ false
not_mark true e = absurd (true≢false (sym e))
not_mark false e = refl

kept : (b : Bool) (kind : Kind) (rest : List Kind) → b ≡ false → length (cond (not b) (kind ∷ rest) rest) ≡ 1 + length rest
kept true kind rest e = absurd (true≢false e)
kept false kind rest e = omega arith

pub based : (kinds : List Kind) → are_base_and_scripts kinds ≡ true → HasBase kinds
unfolding are_base_and_scripts are_scripts
based [] e = absurd (true≢false (sym e))
based (base ∷ scripts) e =
    let parts = and_parts (not (mark base)) (nat_le (count_by mark scripts) 1 && list_all is_even (slice_split mark scripts)) e in
    let both = and_parts (nat_le (count_by mark scripts) 1) (list_all is_even (slice_split mark scripts)) parts.1 in
    let pairs = paired scripts (at_most (count_by mark scripts) both.0) both.1 (cut scripts) in
    let plain = not_mark (mark base) parts.0 in
    record {
      pairs = pairs.pairs;
      behind = pairs.behind;
      place = place_here (mark base) (position_or_len mark scripts) (2 * pairs.pairs) plain pairs.place;
      count = kept (mark base) base (unmarked scripts) plain ∙ omega (arith, pairs.count);
    }
