-- Worked words: what they ask for, computed from the bytes of each.
use Rattle.std.proofs.Common.{◌≡◌, ℕ, pos, negsuc, List, [], ◌∷◌, codes, Option, Some, None, refl}
use Rattle.page_queries.specs.declared.query.Query.TheVariants.{Hit, Select}
use Rattle.command_words.specs.Numerals.{coordinate_in, number_in as numeral_in}
use Rattle.command_words.specs.Command.{asked_by, Asked, OverTree, Generates, Edits, Checks, Asks}

-- ---- a job, and the numbers of a generation

two_words : asked_by (codes "layout" ∷ codes "m" ∷ []) ≡ None
two_words = refl

edit_without_script : asked_by (codes "edit" ∷ codes "m" ∷ codes "t" ∷ []) ≡ None
edit_without_script = refl

four_words : asked_by (codes "edit" ∷ codes "m" ∷ codes "t" ∷ codes "s" ∷ [])
    ≡ Some record { job = OverTree (Edits (codes "s")) (codes "t"); metrics = codes "m" }
four_words = refl

three_words : asked_by (codes "check" ∷ codes "m" ∷ codes "t" ∷ []) ≡ Some record { job = OverTree Checks (codes "t"); metrics = codes "m" }
three_words = refl

abbrev generating : List ℕ → List ℕ → Option Asked
generating seed count = asked_by (codes "gen" ∷ codes "m" ∷ seed ∷ count ∷ [])

abbrev generation : ℕ → ℕ → Option Asked
generation seed count = Some record { job = Generates seed count; metrics = codes "m" }

seed_and_count : generating (codes "1") (codes "20000") ≡ generation 1 20000
unfolding numeral_in
seed_and_count = refl

-- zeros may stand in front
zeros_in_front : generating (codes "00000000000000000000") (codes "00001") ≡ generation 0 1
unfolding numeral_in
zeros_in_front = refl

-- the greatest seed, and what is greater
greatest_seed : generating (codes "18446744073709551615") (codes "1") ≡ generation 18446744073709551615 1
unfolding numeral_in
greatest_seed = refl

past_seed : generating (codes "18446744073709551616") (codes "1") ≡ None
unfolding numeral_in
past_seed = refl

no_edit : generating (codes "1") (codes "0") ≡ None
unfolding numeral_in
no_edit = refl

past_count : generating (codes "1") (codes "20001") ≡ None
unfolding numeral_in
past_count = refl

six_digits : generating (codes "1") (codes "000001") ≡ None
unfolding numeral_in
six_digits = refl

signed_seed : generating (codes "+1") (codes "1") ≡ None
unfolding numeral_in
signed_seed = refl

gen_without_count : asked_by (codes "gen" ∷ codes "m" ∷ codes "1" ∷ []) ≡ None
gen_without_count = refl

-- ---- a point, and two ids

abbrev pointing : List ℕ → List ℕ → Option Asked
pointing x y = asked_by (codes "hit" ∷ codes "m" ∷ codes "t" ∷ x ∷ y ∷ [])

minus_and_zeros : pointing (codes "-5") (codes "007") ≡ Some record { job = OverTree (Asks (Hit (negsuc 4) (pos 7))) (codes "t"); metrics = codes "m" }
unfolding numeral_in coordinate_in
minus_and_zeros = refl

twelve_digits : pointing (codes "123456789012") (codes "1") ≡ None
unfolding numeral_in coordinate_in
twelve_digits = refl

minus_alone : pointing (codes "1") (codes "-") ≡ None
unfolding numeral_in coordinate_in
minus_alone = refl

abbrev selecting : List ℕ → List ℕ → Option Asked
selecting first second = asked_by (codes "select" ∷ codes "m" ∷ codes "t" ∷ first ∷ second ∷ [])

greatest_id : selecting (codes "3") (codes "4294967295")
    ≡ Some record { job = OverTree (Asks (Select record { 0 = 3 } record { 0 = 4294967295 })) (codes "t"); metrics = codes "m" }
unfolding numeral_in
greatest_id = refl

past_id : selecting (codes "4294967296") (codes "3") ≡ None
unfolding numeral_in
past_id = refl

eleven_digits : selecting (codes "3") (codes "00000000003") ≡ None
unfolding numeral_in
eleven_digits = refl
