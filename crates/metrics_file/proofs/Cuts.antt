-- Lines of a text, and words of a line, cut off at the front.
use Rattle.std.proofs.Common.{subst, lit<, ◌≡◌, ◌<◌, ◌≤◌, ◌&&◌, nat_le, length-drop, Ok, Err, ℕ, suc, ◌==◌, if◌then◌else◌, ◌+◌, ◌-◌, ◌%◌, Bool, true, false, cond, not, nat_eq, nat_lt, List, [], ◌∷◌, length, take, drop, position, Option, Some, None, refl, ap, sym, ◌∙◌, arith}
use Rattle.std.proofs.lemmas.Bool.Decides.{nat_tests, Decides-ltb}
use Rattle.std.proofs.lemmas.List.Splits.{slice_split-cons_no, slice_split_first}
use Rattle.std.proofs.lemmas.Option.{none-some, same_Some}
use Rattle.std.specs.List.{list_all, slice_split, onto_first, position_or_len}
use Rattle.std.specs.Str.Lines.{lines, lines_of_parts, strip_carriage_return}
use Rattle.metrics_file.specs.declared.keyword.Keyword.{Keyword}
use Rattle.metrics_file.specs.declared.keyword.Keyword.TheVariants.{Kern as KernOf, Unknown}
use Rattle.font_metrics.specs.Whole.{Given}
use Rattle.font_metrics.specs.Slot.{Words}
use Rattle.metrics_file.specs.Lines.{Item, says_kern, are_pairs, kern_with, keyword_of, known_in, item_in}
use Rattle.font_metrics.specs.Metrics.{NamedGlyph}
use Rattle.metrics_file.specs.Reading.{lines_of, words_of, is_foreign, is_comment, allowed, put, after, after_fields, after_words, version_in, most_words}
use Rattle.std.specs.Char.{is_digit}
use Rattle.std.specs.Str.Parse.{digits_value}
use Rattle.std.proofs.lemmas.List.{take_all, length-take-le}
use Rattle.op_dictionary.specs.declared.text.OpText.TheVariants.{Two}
use Rattle.font_metrics.specs.declared.fault.LineFault.TheVariants.{ForeignByte, UnknownWord, FieldCount, NotANumber}
use Rattle.font_metrics.specs.Faults.{Step, ◌>>=◌, or_fault, fault_if, step_map}
use Rattle.metrics_file.specs.Words.{plus, value_of_digits, numeral_of, code_of, in_pair, pair_in, text_of_codes}
use Rattle.font_metrics.proofs.Steps.{free}

-- ---- the first part

module _ {X : Type 0} (p : X → Bool) where
  -- where no item passes, the list is the one part
  pub one_part : (xs : List X) → nat_lt (position_or_len p xs) (length xs) ≡ false → slice_split p xs ≡ xs ∷ []
  one_part [] h = refl
  one_part (x ∷ xs) h = by (p x) refl h (one_part xs)
    where
      by : (b : Bool) → p x ≡ b → nat_lt (cond (not b) (1 + position_or_len p xs) 0) (length (x ∷ xs)) ≡ false
          → (nat_lt (position_or_len p xs) (length xs) ≡ false → slice_split p xs ≡ xs ∷ [])
          → slice_split p (x ∷ xs) ≡ (x ∷ xs) ∷ []
      by true e k more = let none : ⊥ = grind (arith, nat_tests) in absurd none
      by false e k more =
          let rest : nat_lt (position_or_len p xs) (length xs) ≡ false = grind (arith, nat_tests) in
          slice_split-cons_no p x xs e ∙ ap (onto_first x) (more rest)

  pub none_passes : (xs : List X) → position p xs ≡ None → slice_split p xs ≡ xs ∷ []
  none_passes xs h = by (nat_lt (position_or_len p xs) (length xs)) refl h
    where
      by : (b : Bool) → nat_lt (position_or_len p xs) (length xs) ≡ b
          → cond b (Some (position_or_len p xs)) None ≡ None → slice_split p xs ≡ xs ∷ []
      by true e k = absurd (none-some _ (sym k))
      by false e k = one_part xs e

  pub one_passes : (xs : List X) (d : X) (i : ℕ) → position p xs ≡ Some i
      → slice_split p xs ≡ take i xs ∷ slice_split p (drop (i + 1) xs)
  one_passes xs d i h = by (nat_lt (position_or_len p xs) (length xs)) refl h
    where
      by : (b : Bool) → nat_lt (position_or_len p xs) (length xs) ≡ b
          → cond b (Some (position_or_len p xs)) None ≡ Some i
          → slice_split p xs ≡ take i xs ∷ slice_split p (drop (i + 1) xs)
      by false e k = absurd (none-some i k)
      by true e k =
          slice_split_first p xs d ((Decides-ltb _ (length xs)).0 e)
          ∙ ap (λ n. take n xs ∷ slice_split p (drop (n + 1) xs)) (same_Some _ i k)

-- ---- lines

abbrev pub is_feed : ℕ → Bool
is_feed b = nat_eq b 10

no_zero : (n : ℕ) → (suc n == 0) ≡ false
no_zero n = grind (arith, nat_tests)

-- a text without a line feed is one line
pub last_line : (bytes : List ℕ) → position is_feed bytes ≡ None → lines_of bytes ≡ bytes ∷ lines []
last_line [] h = refl
last_line (b ∷ bs) h =
    ap lines_of_parts (none_passes is_feed (b ∷ bs) h)
    ∙ ap (λ t. if t then [] else (b ∷ bs) ∷ []) (no_zero (length bs))

more_parts : (line : List ℕ) (bytes : List ℕ)
    → lines_of_parts (line ∷ slice_split is_feed bytes) ≡ strip_carriage_return line ∷ lines bytes
more_parts line [] = refl
more_parts line (b ∷ bs) = by (is_feed b) (slice_split is_feed bs)
  where
    by : (feed : Bool) (parts : List (List ℕ))
        → lines_of_parts (line ∷ cond feed ([] ∷ parts) (onto_first b parts))
        ≡ strip_carriage_return line ∷ lines_of_parts (cond feed ([] ∷ parts) (onto_first b parts))
    by true parts = refl
    by false [] = refl
    by false (part ∷ parts) = refl

-- else the first line ends at the first line feed
pub next_line : (bytes : List ℕ) (i : ℕ) → position is_feed bytes ≡ Some i
    → lines_of bytes ≡ strip_carriage_return (take i bytes) ∷ lines (drop (i + 1) bytes)
next_line [] i h = absurd (none-some i h)
next_line (b ∷ bs) i h =
    ap lines_of_parts (one_passes is_feed (b ∷ bs) 0 i h) ∙ more_parts (take i (b ∷ bs)) (drop (i + 1) (b ∷ bs))

-- ---- words behind more than any line has make no difference

-- the most fields of a kind of line
abbrev pub most_fields : ℕ
most_fields = 36

refused : Keyword → Step Item
refused Unknown = Err UnknownWord
refused keyword = Err FieldCount

no_pairs : (words : Words) → 32 < length words → are_pairs words ≡ false
no_pairs words more = by (nat_eq (length words % 2) 0) (nat_le (length words) 32) (grind (arith, nat_tests))
  where
    by : (a b : Bool) → b ≡ false → (a && b) ≡ false
    by true b h = h
    by false b h = refl

too_many_fields : (glyphs : List NamedGlyph) (keyword : Keyword) (fields : Words) → most_fields < length fields
    → item_in glyphs keyword fields ≡ refused keyword
unfolding refused
too_many_fields glyphs keyword [] more = absurd (omega arith)
too_many_fields glyphs keyword (a ∷ []) more = absurd (omega arith)
too_many_fields glyphs keyword (a ∷ b ∷ []) more = absurd (omega arith)
too_many_fields glyphs keyword (a ∷ b ∷ c ∷ []) more = absurd (omega arith)
too_many_fields glyphs keyword (a ∷ b ∷ c ∷ d ∷ []) more = absurd (omega arith)
too_many_fields glyphs keyword (a ∷ b ∷ c ∷ d ∷ e ∷ []) more = absurd (omega arith)
too_many_fields glyphs keyword (a ∷ b ∷ c ∷ d ∷ e ∷ f ∷ []) more = absurd (omega arith)
too_many_fields glyphs Unknown (a ∷ b ∷ c ∷ d ∷ e ∷ f ∷ g ∷ fields) more = refl
too_many_fields glyphs KernOf (a ∷ b ∷ c ∷ d ∷ e ∷ f ∷ g ∷ fields) more =
    ap (λ t. step_map says_kern (fault_if (not t) FieldCount >>= λ whole. kern_with glyphs a b c (d ∷ e ∷ f ∷ g ∷ fields)))
    (no_pairs (d ∷ e ∷ f ∷ g ∷ fields) (omega (arith, more)))
too_many_fields glyphs keyword (a ∷ b ∷ c ∷ d ∷ e ∷ f ∷ g ∷ fields) more = refl

fields-take : (g : Given) (keyword : Keyword) (count : ℕ) (fields : Words) → most_fields < count
    → after_fields g keyword (take count fields) ≡ after_fields g keyword fields
fields-take g keyword count fields most = by (nat_le (length fields) count) refl
  where
    by : (b : Bool) → nat_le (length fields) count ≡ b
        → after_fields g keyword (take count fields) ≡ after_fields g keyword fields
    by true e =
        let few : length fields ≤ count = grind (arith, nat_tests) in
        ap (after_fields g keyword) (take_all count fields few)
    by false e =
        let many : count < length fields = grind (arith, nat_tests) in
        let size : length (take count fields) ≡ count = length-take-le count fields (omega (arith, many)) in
        ap (λ step. step >>= λ item. allowed g item >>= λ free. Ok (put g item))
        (too_many_fields g.glyphs keyword (take count fields) (omega (arith, most, size))
        ∙ sym (too_many_fields g.glyphs keyword fields (omega (arith, most, many))))

pub most_words_are : most_words ≡ 38
unfolding most_words
most_words_are = refl

by_count : (P : ℕ → Type 0) → P 38 → P most_words
by_count P h = subst P (sym most_words_are) h

words-take_of : (g : Given) (count : ℕ) (words : Words) → most_fields < count
    → after_words g (take (suc count) words) ≡ after_words g words
words-take_of g count [] most = refl
words-take_of g count (word ∷ fields) most = fields-take g (known_in g.version (keyword_of word)) count fields most

pub words-take : (g : Given) (words : Words) → after_words g (take most_words words) ≡ after_words g words
words-take g words =
    by_count (λ n. after_words g (take n words) ≡ after_words g words) (words-take_of g 37 words (lit< tt))

version-take_of : (count : ℕ) (words : Words) → version_in (take (suc (suc (suc count))) words) ≡ version_in words
version-take_of count [] = refl
version-take_of count (w ∷ []) = refl
version-take_of count (w ∷ a ∷ []) = refl
version-take_of count (w ∷ a ∷ b ∷ more) = refl

pub version-take : (words : Words) → version_in (take most_words words) ≡ version_in words
version-take words = by_count (λ n. version_in (take n words) ≡ version_in words) (version-take_of 35 words)

-- a slice to the end is all that is left
pub rest_all : {X : Type 0} (xs : List X) (i : ℕ) → take (length xs - i) (drop i xs) ≡ drop i xs
rest_all xs i = let size = length-drop i xs in take_all (length xs - i) (drop i xs) (omega (arith, size))

-- ---- two codes that a plus joins

abbrev pub is_plus : ℕ → Bool
is_plus b = nat_eq b plus

some_cond : {X : Type 0} (b : Bool) (x y : X) → cond b (Some x) None ≡ Some y → b ≡ true
some_cond true x y h = refl
some_cond false x y h = absurd (none-some y h)

-- a word with a plus is no code
no_digits : (word : List ℕ) → nat_lt (position_or_len is_plus word) (length word) ≡ true
    → list_all (λ b. is_digit b 16) word ≡ false
no_digits [] h = let none : ⊥ = grind (arith, nat_tests) in absurd none
no_digits (b ∷ bs) h = by (is_plus b) refl h (no_digits bs)
  where
    rest : (d e : Bool) → e ≡ false → (d && e) ≡ false
    rest true e k = k
    rest false e k = refl

    first : (n : ℕ) → nat_eq n 43 ≡ true → is_digit n 16 ≡ false
    first n h = let same : n ≡ 43 = grind (arith, nat_tests) in ap (λ n. is_digit n 16) same

    by : (p : Bool) → is_plus b ≡ p
        → nat_lt (cond (not p) (1 + position_or_len is_plus bs) 0) (length (b ∷ bs)) ≡ true
        → (nat_lt (position_or_len is_plus bs) (length bs) ≡ true → list_all (λ b. is_digit b 16) bs ≡ false)
        → (is_digit b 16 && list_all (λ b. is_digit b 16) bs) ≡ false
    by true e k more = ap (λ d. d && list_all (λ b. is_digit b 16) bs) (first b e)
    by false e k more =
        let later : nat_lt (position_or_len is_plus bs) (length bs) ≡ true = grind (arith, nat_tests) in
        rest (is_digit b 16) _ (more later)

no_code : (word : List ℕ) (i : ℕ) → position is_plus word ≡ Some i → code_of word ≡ None
unfolding code_of numeral_of value_of_digits
no_code word i h =
    let none = no_digits word (some_cond (nat_lt (position_or_len is_plus word) (length word)) _ i h) in
    by (nat_le 4 (length word) && nat_le (length word) 6) none
  where
    by : (b : Bool) → list_all (λ b. is_digit b 16) word ≡ false
        → (if b then (if list_all (λ b. is_digit b 16) word then Some (digits_value 16 word) else None) else None) ≡ None
    by true k = ap (λ a. if a then Some (digits_value 16 word) else None) k
    by false k = refl

no_pair : (first second : List ℕ) → code_of second ≡ None → pair_in first second ≡ Err NotANumber
no_pair first second h = by (code_of first) (code_of second) h
  where
    by : (a b : Option ℕ) → b ≡ None
        → (or_fault NotANumber a >>= λ one. or_fault NotANumber b >>= λ two.
        in_pair one >>= λ before. in_pair two >>= λ behind. Ok (Two before behind)) ≡ Err NotANumber
    by None b k = refl
    by (Some a) None k = refl
    by (Some a) (Some b) k = absurd (none-some b (sym k))

too_many : (first second third : List ℕ) (word : List ℕ)
    → text_of_codes (first ∷ second ∷ slice_split is_plus word) ≡ Err NotANumber
too_many first second third [] = refl
too_many first second third (b ∷ bs) = by (is_plus b) (slice_split is_plus bs)
  where
    by : (p : Bool) (parts : List (List ℕ))
        → text_of_codes (first ∷ second ∷ cond p ([] ∷ parts) (onto_first b parts)) ≡ Err NotANumber
    by true parts = refl
    by false [] = refl
    by false (part ∷ parts) = refl

pub joined : (word : List ℕ) (i : ℕ) → position is_plus word ≡ Some i
    → text_of_codes (slice_split is_plus word) ≡ pair_in (take i word) (drop (i + 1) word)
joined word i h =
    ap text_of_codes (one_passes is_plus word 0 i h) ∙ by (position is_plus (drop (i + 1) word)) refl
  where
    by : (o : Option ℕ) → position is_plus (drop (i + 1) word) ≡ o
        → text_of_codes (take i word ∷ slice_split is_plus (drop (i + 1) word)) ≡ pair_in (take i word) (drop (i + 1) word)
    by None e = ap (λ parts. text_of_codes (take i word ∷ parts)) (none_passes is_plus (drop (i + 1) word) e)
    by (Some n) e =
        ap (λ parts. text_of_codes (take i word ∷ parts)) (one_passes is_plus (drop (i + 1) word) 0 n e)
        ∙ too_many (take i word) (take n (drop (i + 1) word)) [] (drop (n + 1) (drop (i + 1) word))
        ∙ sym (no_pair (take i word) (drop (i + 1) word) (no_code (drop (i + 1) word) n e))

-- ---- a line behind the first

pub behind : (g : Given) (line : List ℕ) (foreign comment : Bool) (u : Unit {0}) → foreign ≡ is_foreign line
    → fault_if foreign ForeignByte ≡ Ok u → comment ≡ is_comment line → comment ≡ false
    → after g line ≡ after_words g (words_of line)
unfolding after
behind g line foreign comment u f e k isnt =
    let plain : is_foreign line ≡ false = sym f ∙ free foreign ForeignByte u e in
    let other : is_comment line ≡ false = sym k ∙ isnt in
    λ i. fault_if (plain i) ForeignByte >>= λ done. if other i then Ok g else after_words g (words_of line)
