-- Loops that print: the lines of a list, one after another.
use Rattle.std.proofs.Common.{◌≡◌, ◌∙◌, ap, refl, sym, ℕ, ◌+◌, ◌<◌, zero, suc, ℤ, List, [], ◌∷◌, ◌++◌, length, map, flat_map, take, slice_get, Some, append_assoc, append-nil, add-one, add-zero, zero-add, arith, All, to_z, of_z, w32, w64, SFits, get_or}
use Rattle.std.specs.List.{range_with_len, join_with_byte}
use Rattle.std.proofs.lemmas.Int.{to_z-of_z}
use Rattle.std.proofs.lemmas.List.{map_push}
use Rattle.std.proofs.lemmas.List.Elements.{All-head, All-same, All-get_or}
use Rattle.std.proofs.lemmas.List.Concat.{flat_map-append}
use Rattle.fixed_units.proofs.Signed.{signed}
use Rattle.font_metrics.specs.Slot.{Words}
use Rattle.font_metrics.specs.Metrics.{MetricsValue}
use Rattle.metrics_file.specs.Print.{constant_words, glyph_words, character_words, growth_lines, operator_words, header_lines, line_text, print_of}
use Rattle.font_metrics.specs.Ranges.{IsLength}

-- the bytes of lines
abbrev texts : List Words → List ℕ
texts ws = flat_map line_text ws

-- what holds of all that is left holds of the next
pub next-of : {X : Type 0} (P : X → Type 0) (left rest : List X) (x : X) → left ≡ x ∷ rest → All P left → P x
next-of P left rest x e h = All-head P x rest (All-same P (x ∷ rest) left (sym e) h)

-- what is left gives the rest: one item is printed, the others are left
pub rest-more : {X : Type 0} (words : X → Words) (left rest : List X) (x : X) (all now new : List ℕ)
    → left ≡ x ∷ rest → now ++ texts (map words left) ≡ all → new ≡ now ++ line_text (words x)
    → new ++ texts (map words rest) ≡ all
rest-more words left rest x all now new e h k =
    rw (k, append_assoc) (ap (λ items. now ++ texts (map words items)) (sym e) ∙ h)

take-more : {X : Type 0} (xs : List X) (i : ℕ) (x : X) → slice_get xs i ≡ Some x
    → take (suc i) xs ≡ take i xs ++ x ∷ []
take-more [] i x h = cc
take-more (y ∷ ys) zero x h = cc
take-more (y ∷ ys) (suc i) x h = ap (λ rest. y ∷ rest) (take-more ys i x h)

-- a length is as it was written
pub length-back : {z : ℤ} → IsLength z → to_z w64 (of_z w64 z) ≡ z
length-back h = to_z-of_z w64 _ (omega (arith, signed, h.0, h.1))

-- so is that of an item, where each item has one
pub field-back : {X : Type 0} (Is : X → Type 0) (field : X → ℤ) → ((x : X) → Is x → IsLength (field x))
    → (xs : List X) (i : ℕ) → i < length xs → All Is xs → (d : X)
    → to_z w64 (of_z w64 (field (get_or xs i d))) ≡ field (get_or xs i d)
field-back Is field has xs i below all d = length-back (has (get_or xs i d) (All-get_or Is xs i d below all))

-- a number of 32 bits is as it was written at 64
pub wide-back : {z : ℤ} → SFits w32 z → to_z w64 (of_z w64 z) ≡ z
wide-back h = to_z-of_z w64 _ (omega (arith, signed, h))

-- the front is printed: one item more
pub front-more : {X : Type 0} (words : X → Words) (xs : List X) (i : ℕ) (x : X) (old now new : List ℕ)
    → slice_get xs i ≡ Some x → now ≡ old ++ texts (map words (take i xs)) → new ≡ now ++ line_text (words x)
    → new ≡ old ++ texts (map words (take (i + 1) xs))
front-more words xs i x old now new at h k =
    let front : take (i + 1) xs ≡ take i xs ++ x ∷ [] = rw add-one (take-more xs i x at) in
    rw (front, map_push, flat_map-append, append-nil)
    (k ∙ ap (λ t. t ++ line_text (words x)) h
    ∙ append_assoc old (texts (map words (take i xs))) (line_text (words x)))

range-more : (from count : ℕ) → range_with_len from (suc count) ≡ range_with_len from count ++ (from + count) ∷ []
range-more from zero = rw (add-zero from) refl
range-more from (suc count) =
    let same : from + 1 + count ≡ from + suc count = omega arith in
    ap (λ more. from ∷ more)
    (range-more (from + 1) count ∙ ap (λ n. range_with_len (from + 1) count ++ n ∷ []) same)

-- the lines of the front are printed: those of one item more
pub lines-more : {X : Type 0} (lines : X → List Words) (xs : List X) (i : ℕ) (x : X) (old now new : List ℕ)
    → slice_get xs i ≡ Some x → now ≡ old ++ texts (flat_map lines (take i xs)) → new ≡ now ++ texts (lines x)
    → new ≡ old ++ texts (flat_map lines (take (i + 1) xs))
lines-more lines xs i x old now new at h k =
    let front : take (i + 1) xs ≡ take i xs ++ x ∷ [] = rw add-one (take-more xs i x at) in
    rw (front, flat_map-append, append-nil (lines x), flat_map-append)
    (k ∙ ap (λ t. t ++ texts (lines x)) h ∙ append_assoc old (texts (flat_map lines (take i xs))) (texts (lines x)))

-- the places before are printed: one place more
pub growth-more : (m : MetricsValue) (place : ℕ) (old now new : List ℕ)
    → now ≡ old ++ texts (flat_map (growth_lines m) (range_with_len 0 place))
    → new ≡ now ++ texts (growth_lines m place)
    → new ≡ old ++ texts (flat_map (growth_lines m) (range_with_len 0 (place + 1)))
growth-more m place old now new h k =
    let range : range_with_len 0 (place + 1) ≡ range_with_len 0 place ++ place ∷ [] =
    rw add-one (range-more 0 place ∙ ap (λ n. range_with_len 0 place ++ n ∷ []) (zero-add place)) in
    rw (range, flat_map-append, append-nil (growth_lines m place), flat_map-append)
    (k ∙ ap (λ t. t ++ texts (growth_lines m place)) h
    ∙ append_assoc old (texts (flat_map (growth_lines m) (range_with_len 0 place))) (texts (growth_lines m place)))

texts-six : (a b c d e f : List Words)
    → texts (a ++ b ++ c ++ d ++ e ++ f) ≡ texts a ++ texts b ++ texts c ++ texts d ++ texts e ++ texts f
texts-six a b c d e f = simp flat_map-append

-- the parts of a print in turn are the print
pub whole-print : (m : MetricsValue) (one two three four five six : List ℕ)
    → one ≡ [] ++ texts (header_lines m) → two ≡ one ++ texts (map constant_words m.constants)
    → three ≡ two ++ texts (map glyph_words m.glyphs)
    → four ≡ three ++ texts (map (character_words m.glyphs) m.characters)
    → five ≡ four ++ texts (flat_map (growth_lines m) (range_with_len 0 (length m.glyphs)))
    → six ≡ five ++ texts (map operator_words m.operators)
    → six ≡ print_of m
unfolding print_of
whole-print m one two three four five six a b c d e f =
    f ∙ rw (e, d, c, b, a)
    (sym (texts-six (header_lines m) (map constant_words m.constants) (map glyph_words m.glyphs)
    (map (character_words m.glyphs) m.characters)
    (flat_map (growth_lines m) (range_with_len 0 (length m.glyphs))) (map operator_words m.operators)))

-- ---- the words of one line in turn

-- the words of a line, one space apart
abbrev joined : List ℕ → Words → List ℕ
joined word ws = join_with_byte 32 (word ∷ ws)

joined-more : (word : List ℕ) (ws : Words) (w : List ℕ) → joined word (ws ++ w ∷ []) ≡ joined word ws ++ 32 ∷ w
joined-more word [] w = refl
joined-more word (x ∷ ws) w =
    ap (λ t. word ++ 32 ∷ t) (joined-more x ws w) ∙ sym (append_assoc word (32 ∷ joined x ws) (32 ∷ w))

-- the front is printed behind the first word: one word more
pub word-more : {X : Type 0} (text : X → List ℕ) (old first : List ℕ) (xs : List X) (i : ℕ) (x : X)
    (now space new : List ℕ) → slice_get xs i ≡ Some x → now ≡ old ++ joined first (map text (take i xs))
    → space ≡ now ++ 32 ∷ [] → new ≡ space ++ text x → new ≡ old ++ joined first (map text (take (i + 1) xs))
word-more text old first xs i x now space new at h s k =
    let front : take (i + 1) xs ≡ take i xs ++ x ∷ [] = rw add-one (take-more xs i x at) in
    let ws = map text (take i xs) in
    rw (front, map_push)
    (k ∙ ap (λ t. t ++ text x) (s ∙ ap (λ t. t ++ 32 ∷ []) h)
    ∙ append_assoc (old ++ joined first ws) (32 ∷ []) (text x) ∙ append_assoc old (joined first ws) (32 ∷ text x)
    ∙ ap (λ t. old ++ t) (sym (joined-more first ws (text x))))

-- all words are printed: the line feed
pub line-end : (old first : List ℕ) (ws : Words) (now new : List ℕ) → now ≡ old ++ joined first ws
    → new ≡ now ++ 10 ∷ [] → new ≡ old ++ line_text (first ∷ ws)
line-end old first ws now new h k = k ∙ ap (λ t. t ++ 10 ∷ []) h ∙ append_assoc old (joined first ws) (10 ∷ [])
