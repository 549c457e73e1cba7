-- Cutting a print into lines gives the lines that were printed.
use Rattle.std.proofs.Common.{◌≡◌, ◌∙◌, ap, refl, ℕ, ◌-◌, ◌==◌, zero, suc, Bool, true, false, List, [], ◌∷◌, ◌++◌, length, get_or, map, flat_map, append_assoc, arith}
use Rattle.std.specs.List.{list_all, slice_split, join_with_byte, AllByRecursion}
use Rattle.std.specs.Str.Lines.{lines, lines_of_parts, strip_carriage_return}
use Rattle.std.proofs.lemmas.Bool.{and_parts}
use Rattle.std.proofs.lemmas.Bool.Decides.{nat_tests}
use Rattle.std.proofs.lemmas.List.Elements.{All-from_recursion}
use Rattle.std.proofs.lemmas.List.Splits.{slice_split_at}
use Rattle.font_metrics.specs.Slot.{Words}
use Rattle.metrics_file.specs.Print.{line_text}
use Rattle.metrics_file.proofs.ReadBack.Joined.{is_word, is_printable, printable-joined}

-- ---- printable bytes end no line

printable-no_feed : (b : ℕ) → is_printable b ≡ true → (b == 10) ≡ false
printable-no_feed b h = grind (arith, nat_tests)

no-feeds : (line : List ℕ) → list_all is_printable line ≡ true → AllByRecursion (λ b. (b == 10) ≡ false) line
no-feeds [] h = tt
no-feeds (b ∷ bs) h =
    let p = and_parts (is_printable b) (list_all is_printable bs) h in
    (printable-no_feed b p.0, no-feeds bs p.1)

printable-no_return : (b : ℕ) → is_printable b ≡ true → (b == 13) ≡ false
printable-no_return b h = grind (arith, nat_tests)

no-return_at : (line : List ℕ) (i : ℕ) → list_all is_printable line ≡ true → (get_or line i 0 == 13) ≡ false
no-return_at [] i h = refl
no-return_at (b ∷ bs) zero h = printable-no_return b (and_parts (is_printable b) (list_all is_printable bs) h).0
no-return_at (b ∷ bs) (suc i) h = no-return_at bs i (and_parts (is_printable b) (list_all is_printable bs) h).1

no-return_stripped : (line : List ℕ) → list_all is_printable line ≡ true → strip_carriage_return line ≡ line
no-return_stripped line h = rw (no-return_at line (length line - 1) h) refl

-- ---- the lines

-- lines of words
abbrev pub are_words : List Words → Bool
are_words ws = list_all (λ words. list_all is_word words) ws

parts-printed : (ws : List Words) → are_words ws ≡ true
    → slice_split (λ b. b == 10) (flat_map line_text ws) ≡ map (join_with_byte 32) ws ++ [] ∷ []
parts-printed [] h = refl
parts-printed (words ∷ ws) h =
    let p = and_parts (list_all is_word words) (are_words ws) h in
    let line = join_with_byte 32 words in
    ap (slice_split (λ b. b == 10)) (append_assoc line (10 ∷ []) (flat_map line_text ws))
    ∙ slice_split_at (λ b. b == 10) line 10 (flat_map line_text ws)
    (All-from_recursion _ line (no-feeds line (printable-joined words p.0))) refl
    ∙ ap (λ rest. line ∷ rest) (parts-printed ws p.1)

lines_of_parts-printed : (ws : List Words) → are_words ws ≡ true
    → lines_of_parts (map (join_with_byte 32) ws ++ [] ∷ []) ≡ map (join_with_byte 32) ws
lines_of_parts-printed [] h = refl
lines_of_parts-printed (words ∷ []) h =
    let p = and_parts (list_all is_word words) true h in
    ap (λ line. line ∷ []) (no-return_stripped (join_with_byte 32 words) (printable-joined words p.0))
lines_of_parts-printed (words ∷ next ∷ ws) h =
    let p = and_parts (list_all is_word words) (are_words (next ∷ ws)) h in
    let line = no-return_stripped (join_with_byte 32 words) (printable-joined words p.0) in
    rw (line, lines_of_parts-printed (next ∷ ws) p.1) refl

pub lines-printed : (ws : List Words) → are_words ws ≡ true
    → lines (flat_map line_text ws) ≡ map (join_with_byte 32) ws
lines-printed ws h = ap lines_of_parts (parts-printed ws h) ∙ lines_of_parts-printed ws h
