-- The dictionary as a set of triples.
use Rattle.std.proofs.Common.{inl, inr, subst, ◌≡◌, ℕ, ◌&&◌, Bool, true, false, List, [], ◌∷◌, Contains, Option, Some, None, is_some, refl, ap, sym, ◌∙◌, arith, lit<, not}
use Rattle.std.specs.Option.{option_map, unwrap_or}
use Rattle.std.specs.List.{find, list_any, list_all, IsDistinct, AllByRecursion}
use Rattle.std.proofs.lemmas.Bool.{and_parts, and_from, not-true}
use Rattle.std.proofs.lemmas.Bool.Decides.{nat_tests}
use Rattle.op_dictionary.specs.declared.operator.Category.{Category}
use Rattle.op_dictionary.specs.declared.operator.Category.TheVariants.{Default, A, B, C, D, E, F, G, H, I, J, K, L, M}
use Rattle.op_dictionary.specs.declared.operator.Form.{Form}
use Rattle.op_dictionary.specs.declared.operator.Form.TheVariants.{Prefix, Infix, Postfix}
use Rattle.op_dictionary.specs.declared.text.OpText.{OpText}
use Rattle.op_dictionary.specs.declared.text.OpText.TheVariants.{Empty, One, Two, Other}
use Rattle.op_dictionary.specs.BuiltIn.{categories, runs_of, in_run, in_form, is_built_in, overlap, share}
use Rattle.op_dictionary.specs.declared.extra.OperatorLine.{OperatorLine}
use Rattle.op_dictionary.specs.Pairs.{same_text, same_form}
use Rattle.op_dictionary.specs.Dictionary.{line_of, built_in_category, own_category, IsEntry, same_pair, AreDistinct}
use Rattle.op_dictionary.proofs.Same.{same-parts, same-from_parts}
use Rattle.op_dictionary.proofs.Found.{find-distinct, find-Some, any-meet}

-- ---- the built-in table

distinct_test : (Category → Category → Bool) → List Category → Bool
distinct_test e [] = true
distinct_test e (x ∷ xs) = list_all (λ y. not (e x y)) xs && distinct_test e xs

all-apart : (e : Category → Bool) (xs : List Category) → list_all (λ y. not (e y)) xs ≡ true
    → AllByRecursion (λ y. e y ≡ false) xs
all-apart e [] h = tt
all-apart e (x ∷ xs) h =
    let p = and_parts (not (e x)) (list_all (λ y. not (e y)) xs) h in
    (not-true (e x) p.0, all-apart e xs p.1)

distinct-tested : (e : Category → Category → Bool) (xs : List Category) → distinct_test e xs ≡ true
    → IsDistinct e xs
unfolding IsDistinct distinct_test
distinct-tested e [] h = tt
distinct-tested e (x ∷ xs) h =
    let p = and_parts (list_all (λ y. not (e x y)) xs) (distinct_test e xs) h in
    (all-apart (e x) xs p.0, distinct-tested e xs p.1)

-- the rule over the whole table: in no form do two categories list one character
pub categories_distinct : (form : Form) → IsDistinct (share form) categories
unfolding distinct_test
categories_distinct Prefix = distinct-tested (share Prefix) categories refl
categories_distinct Infix = distinct-tested (share Infix) categories refl
categories_distinct Postfix = distinct-tested (share Postfix) categories refl

-- two runs that have a code point in common overlap
runs-overlap : (code : ℕ) (run other : ℕ × ℕ) → in_run code run ≡ true → in_run code other ≡ true
    → overlap run other ≡ true
runs-overlap code (first, last) (begin, end) h k = grind (arith, nat_tests)

-- a category that the built-in table gives is one of the list
among : (text : OpText) (form : Form) (category : Category) → is_built_in text form category ≡ true
    → Contains categories category
among (One letter) form Default h = cc
among (One letter) form A h = (0, lit< tt, refl)
among (One letter) form B h = (1, lit< tt, refl)
among (One letter) form C h = (2, lit< tt, refl)
among (One letter) form D h = (3, lit< tt, refl)
among (One letter) form E h = (4, lit< tt, refl)
among (One letter) form F h = (5, lit< tt, refl)
among (One letter) form G h = (6, lit< tt, refl)
among (One letter) form H h = (7, lit< tt, refl)
among (One letter) form I h = (8, lit< tt, refl)
among (One letter) form J h = (9, lit< tt, refl)
among (One letter) form K h = (10, lit< tt, refl)
among (One letter) form L h = (11, lit< tt, refl)
among (One letter) form M h = (12, lit< tt, refl)
among Empty form category h = cc
among (Two first second) form category h = cc
among Other form category h = cc

-- two categories in which the table has one text share its character
shares : (text : OpText) (form : Form) (category other : Category) → is_built_in text form category ≡ true
    → is_built_in text form other ≡ true
    → share form category other ≡ true
shares (One letter) form category other h k =
    let p = and_parts (in_form form category) (list_any (in_run letter) (runs_of category)) h in
    let q = and_parts (in_form form other) (list_any (in_run letter) (runs_of other)) k in
    and_from (in_form form category && in_form form other) _
    (and_from (in_form form category) (in_form form other) p.0 q.0)
    (any-meet (in_run letter) overlap (runs-overlap letter) (runs_of category) (runs_of other) p.1 q.1)
shares Empty form category other h k = cc
shares (Two first second) form category other h k = cc
shares Other form category other h k = cc

-- a built-in triple is the one that is found
pub found_built_in : (text : OpText) (form : Form) (category : Category) → is_built_in text form category ≡ true
    → find (is_built_in text form) categories ≡ Some category
found_built_in text form category h =
    find-distinct (share form) (is_built_in text form) categories category (categories_distinct form)
    (among text form category h)
    h (λ other k. shares text form other category k h)

-- so a text in a form has one built-in category
pub one_built_in : (text : OpText) (form : Form) (category other : Category)
    → is_built_in text form category ≡ true
    → is_built_in text form other ≡ true → category ≡ other
one_built_in text form category other h k =
    let found = found_built_in text form category h in
    let both : Some category ≡ Some other = sym found ∙ found_built_in text form other k in cc

-- ---- the operator lines

-- the line of a pair is found by it
found_line : (lines : List OperatorLine) (line : OperatorLine) → AreDistinct lines → Contains lines line
    → line_of lines line.text line.form ≡ Some line
found_line lines line distinct at =
    find-distinct same_pair (λ l. same_text line.text l.text && same_form line.form l.form) lines line distinct at
    (same-from_parts line.text line.text line.form line.form refl refl)
    (λ l h.
    let p = same-parts line.text l.text line.form l.form h in
    same-from_parts l.text line.text l.form line.form (sym p.0) (sym p.1))

-- and what is found is a line with the pair
line_is_entry : (lines : List OperatorLine) (text : OpText) (form : Form) (line : OperatorLine)
    → line_of lines text form ≡ Some line
    → IsEntry lines text form line.category
line_is_entry lines text form line h =
    let found = find-Some (λ l. same_text text l.text && same_form form l.form) lines line h in
    let p = same-parts text line.text form line.form found.0 in
    inl (
      line.axis,
      subst (Contains lines)
          (λ i. record { text = sym p.0 i; form = sym p.1 i; category = line.category; axis = line.axis })
          found.1,
    )

-- ---- the dictionary

none-from_is_some : (o : Option OperatorLine) → is_some o ≡ false → o ≡ None
none-from_is_some None h = refl
none-from_is_some (Some line) h = cc

-- a pair's own category is that of its triple
pub own_category-entry : (lines : List OperatorLine) (text : OpText) (form : Form) (category : Category)
    → AreDistinct lines → IsEntry lines text form category → own_category text form lines ≡ category
unfolding own_category built_in_category
own_category-entry lines text form category distinct (inl (axis, at)) =
    ap (λ o. unwrap_or (option_map (λ l. l.category) o) (built_in_category text form))
    (found_line lines (record { text = text; form = form; category = category; axis = axis }) distinct at)
own_category-entry lines text form category distinct (inr (free, built_in)) =
    ap (λ o. unwrap_or (option_map (λ l. l.category) o) (built_in_category text form))
    (none-from_is_some (line_of lines text form) free)
    ∙ ap (λ o. unwrap_or o Default) (found_built_in text form category built_in)

-- and Default where the pair has none
pub own_category-none : (lines : List OperatorLine) (text : OpText) (form : Form)
    → ((category : Category) → ¬ IsEntry lines text form category) → own_category text form lines ≡ Default
unfolding own_category built_in_category
own_category-none lines text form none = by (line_of lines text form) refl (find (is_built_in text form) categories) refl
  where
    by : (o : Option OperatorLine) → line_of lines text form ≡ o → (b : Option Category)
        → find (is_built_in text form) categories ≡ b
        → unwrap_or (option_map (λ l. l.category) o) (unwrap_or b Default) ≡ Default
    by (Some line) h b k = absurd (none line.category (line_is_entry lines text form line h))
    by None h None k = refl
    by None h (Some category) k =
        absurd (none category (inr (ap is_some h, (find-Some (is_built_in text form) categories category k).0)))
