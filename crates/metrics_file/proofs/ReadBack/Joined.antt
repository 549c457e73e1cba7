-- Cutting a line that was joined from words gives the words.
use Rattle.std.proofs.Common.{◌≡◌, ◌∙◌, ap, refl, ℕ, nat_le, Bool, true, false, ◌&&◌, not, List, [], ◌∷◌, ◌++◌, length, filter, All, arith}
use Rattle.std.specs.List.{list_all, list_any, slice_split, join_with_byte, AllByRecursion}
use Rattle.std.proofs.lemmas.Bool.{and_from, and_parts, and_right}
use Rattle.std.proofs.lemmas.Bool.Decides.{nat_tests}
use Rattle.std.proofs.lemmas.List.Elements.{All-from_recursion}
use Rattle.std.proofs.lemmas.List.Splits.{slice_split_none, slice_split_at}
use Rattle.font_metrics.specs.Slot.{Words}
use Rattle.metrics_file.specs.Lines.{keyword_of, known_in}
use Rattle.font_metrics.specs.Whole.{Given}
use Rattle.metrics_file.specs.Reading.{is_blank, is_empty, words_of, is_comment, is_plain, is_foreign, after_fields, after}

-- ---- what printed words are made of

-- a byte from `!` to tilde, which is no blank
abbrev pub is_ink : ℕ → Bool
is_ink b = nat_le 33 b && nat_le b 126

-- one such byte or more
abbrev pub is_word : List ℕ → Bool
is_word word = nat_le 1 (length word) && list_all is_ink word

-- a byte from space to tilde
abbrev pub is_printable : ℕ → Bool
is_printable b = nat_le 32 b && nat_le b 126

-- ---- the words of a joined line

ink-no_blank : (b : ℕ) → is_ink b ≡ true → is_blank b ≡ false
ink-no_blank b h = grind (arith, nat_tests)

no-blanks : (word : List ℕ) → list_all is_ink word ≡ true → AllByRecursion (λ b. is_blank b ≡ false) word
no-blanks [] h = tt
no-blanks (b ∷ bs) h =
    let p = and_parts (is_ink b) (list_all is_ink bs) h in
    (ink-no_blank b p.0, no-blanks bs p.1)

word-no_blanks : (word : List ℕ) → is_word word ≡ true → All (λ b. is_blank b ≡ false) word
word-no_blanks word h = All-from_recursion _ word (no-blanks word (and_parts _ _ h).1)

split-joined : (word : List ℕ) (words : Words) → list_all is_word (word ∷ words) ≡ true
    → slice_split is_blank (join_with_byte 32 (word ∷ words)) ≡ word ∷ words
split-joined word [] h = slice_split_none is_blank word (word-no_blanks word (and_parts _ _ h).0)
split-joined word (next ∷ words) h =
    let p = and_parts (is_word word) (list_all is_word (next ∷ words)) h in
    slice_split_at is_blank word 32 (join_with_byte 32 (next ∷ words)) (word-no_blanks word p.0) refl
    ∙ ap (λ rest. word ∷ rest) (split-joined next words p.1)

filter-words : (words : Words) → list_all is_word words ≡ true
    → filter (λ word. not (is_empty word)) words ≡ words
filter-words [] h = refl
filter-words ([] ∷ words) h = cc
filter-words ((b ∷ bs) ∷ words) h =
    ap (λ rest. (b ∷ bs) ∷ rest) (filter-words words (and_parts (is_word (b ∷ bs)) (list_all is_word words) h).1)

pub words_of-joined : (word : List ℕ) (words : Words) → list_all is_word (word ∷ words) ≡ true
    → words_of (join_with_byte 32 (word ∷ words)) ≡ word ∷ words
unfolding words_of
words_of-joined word words h =
    rw (split-joined word words h) (filter-words (word ∷ words) h)

-- ---- its bytes

ink-printable : (b : ℕ) → is_ink b ≡ true → is_printable b ≡ true
ink-printable b h = grind (arith, nat_tests)

printable-word : (word : List ℕ) → list_all is_ink word ≡ true → list_all is_printable word ≡ true
printable-word [] h = refl
printable-word (b ∷ bs) h =
    let p = and_parts (is_ink b) (list_all is_ink bs) h in
    and_from _ _ (ink-printable b p.0) (printable-word bs p.1)

pub list_all-append : (test : ℕ → Bool) (xs ys : List ℕ) → list_all test xs ≡ true → list_all test ys ≡ true
    → list_all test (xs ++ ys) ≡ true
list_all-append test [] ys h k = k
list_all-append test (x ∷ xs) ys h k =
    let p = and_parts (test x) (list_all test xs) h in
    and_from _ _ p.0 (list_all-append test xs ys p.1 k)

pub printable-joined : (words : Words) → list_all is_word words ≡ true
    → list_all is_printable (join_with_byte 32 words) ≡ true
printable-joined [] h = refl
printable-joined (word ∷ []) h =
    printable-word word (and_parts (nat_le 1 (length word)) _ (and_parts (is_word word) true h).0).1
printable-joined (word ∷ next ∷ words) h =
    let p = and_parts (is_word word) (list_all is_word (next ∷ words)) h in
    list_all-append is_printable word (32 ∷ join_with_byte 32 (next ∷ words))
    (printable-word word (and_parts (nat_le 1 (length word)) _ p.0).1)
    (and_from _ _ refl (printable-joined (next ∷ words) p.1))

printable-plain : (b : ℕ) → is_printable b ≡ true → is_plain b ≡ true
printable-plain b h = grind (arith, nat_tests)

no-foreign_byte : (line : List ℕ) → list_all is_printable line ≡ true
    → list_any (λ b. not (is_plain b)) line ≡ false
no-foreign_byte [] h = refl
no-foreign_byte (b ∷ bs) h =
    let p = and_parts (is_printable b) (list_all is_printable bs) h in
    rw (printable-plain b p.0, no-foreign_byte bs p.1) refl

pub is_foreign-joined : (words : Words) → list_all is_word words ≡ true
    → is_foreign (join_with_byte 32 words) ≡ false
unfolding is_foreign
is_foreign-joined words h =
    and_right _ _ (no-foreign_byte (join_with_byte 32 words) (printable-joined words h))

-- ---- a joined line

-- what is given after a joined line is what its first word makes of the others
pub after-joined : (given : Given) (word : List ℕ) (fields : Words) → list_all is_word (word ∷ fields) ≡ true
    → is_comment (join_with_byte 32 (word ∷ fields)) ≡ false
    → after given (join_with_byte 32 (word ∷ fields)) ≡ after_fields given (known_in given.version (keyword_of word)) fields
unfolding after
after-joined given word fields h other =
    rw (is_foreign-joined (word ∷ fields) h, other, words_of-joined word fields h) refl
