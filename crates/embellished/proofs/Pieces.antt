-- The pieces of a text between white space, taken one after another and joined.
use Rattle.std.proofs.Common.{◌≡◌, ◌∙◌, refl, sym, ap, ℕ, ◌<◌, Bool, true, false, true≢false, cond, List, [], ◌∷◌, ◌++◌, length, get_or, append_assoc, filter, arith, nat_lt}
use Rattle.std.proofs.lemmas.Bool.{ltb-true}
use Rattle.std.proofs.lemmas.Bool.Decides.{nat_tests}
use Rattle.std.proofs.lemmas.Grind.{get_or_default_zero}
use Rattle.std.proofs.lemmas.List.{append-nil}
use Rattle.std.proofs.lemmas.List.Elements.{recursion_from_All}
use Rattle.std.proofs.lemmas.List.Splits.{slice_split-cons_yes, slice_split_none, slice_split_at}
use Rattle.std.proofs.lemmas.Str.{NoCharPasses-byte}
use Rattle.std.specs.Char.{is_ascii_whitespace}
use Rattle.std.specs.List.{All, AllByRecursion, AllPass, slice_split, join_with_byte}
use Rattle.std.specs.Str.{NoCharPasses}
use Rattle.std.specs.Str.Iter.{IsAsciiSeparator}
use Rattle.embellished.specs.Texts.{has_bytes, pieces_of, space, with_piece}

-- ---- joining

abbrev pub with_pieces : List ℕ → List (List ℕ) → List ℕ
with_pieces made [] = made
with_pieces made (piece ∷ pieces) = with_pieces (with_piece made piece) pieces

abbrev HaveBytes : List (List ℕ) → Type 0
HaveBytes pieces = AllByRecursion (λ piece. has_bytes piece ≡ true) pieces

front_joined : (made piece : List ℕ) (pieces : List (List ℕ))
    → join_with_byte space ((made ++ space ∷ piece) ∷ pieces) ≡ made ++ space ∷ join_with_byte space (piece ∷ pieces)
front_joined made piece [] = refl
front_joined made piece (next ∷ pieces) = append_assoc made (space ∷ piece) (space ∷ join_with_byte space (next ∷ pieces))

longer_has_bytes : (made more : List ℕ) → has_bytes made ≡ true → has_bytes (made ++ more) ≡ true
longer_has_bytes [] more e = absurd (true≢false (sym e))
longer_has_bytes (b ∷ made) more e = refl

joined_behind : (made : List ℕ) (pieces : List (List ℕ)) → has_bytes made ≡ true
    → with_pieces made pieces ≡ join_with_byte space (made ∷ pieces)
joined_behind made [] e = refl
joined_behind made (piece ∷ pieces) e =
    ap (λ b. with_pieces (cond b (made ++ space ∷ piece) piece) pieces) e
    ∙ joined_behind (made ++ space ∷ piece) pieces (longer_has_bytes made (space ∷ piece) e)
    ∙ front_joined made piece pieces

pub joined_from_nothing : (pieces : List (List ℕ)) → HaveBytes pieces → with_pieces [] pieces ≡ join_with_byte space pieces
joined_from_nothing [] h = refl
joined_from_nothing (piece ∷ pieces) h = joined_behind piece pieces h.0

-- ---- the pieces

filtered_have_bytes : (parts : List (List ℕ)) → HaveBytes (filter has_bytes parts)
filtered_have_bytes [] = tt
filtered_have_bytes ([] ∷ parts) = filtered_have_bytes parts
filtered_have_bytes ((b ∷ bs) ∷ parts) = (refl, filtered_have_bytes parts)

pub pieces_have_bytes : (text : List ℕ) → HaveBytes (pieces_of text)
unfolding pieces_of
pieces_have_bytes text = filtered_have_bytes (slice_split is_ascii_whitespace text)

-- white space in front gives none
behind_white : (gap text : List ℕ) → AllByRecursion (λ b. is_ascii_whitespace b ≡ true) gap
    → pieces_of (gap ++ text) ≡ pieces_of text
unfolding pieces_of
behind_white [] text h = refl
behind_white (b ∷ gap) text h =
    ap (filter has_bytes) (slice_split-cons_yes is_ascii_whitespace b (gap ++ text) h.0) ∙ behind_white gap text h.1

pub white_alone : (text : List ℕ) → AllPass is_ascii_whitespace text → pieces_of text ≡ []
unfolding pieces_of
white_alone text h =
    ap pieces_of (sym (append-nil text)) ∙ behind_white text [] (recursion_from_All (λ b. is_ascii_whitespace b ≡ true) text h)

no_white : (piece : List ℕ) → NoCharPasses is_ascii_whitespace piece → All (λ b. is_ascii_whitespace b ≡ false) piece
no_white piece h k d l =
    let zero = get_or_default_zero piece k d l in
    ap is_ascii_whitespace zero ∙ by_size (get_or piece k 0) refl
  where
    by_size : (b : ℕ) → get_or piece k 0 ≡ b → is_ascii_whitespace (get_or piece k 0) ≡ false
    by_size b e = by (nat_lt b 128) refl
      where
        by : (small : Bool) → nat_lt b 128 ≡ small → is_ascii_whitespace (get_or piece k 0) ≡ false
        by true s = NoCharPasses-byte is_ascii_whitespace piece k h l (omega (arith, e, ltb-true b 128 s))
        by false s = rw e (grind (arith, nat_tests))

kept : (piece : List ℕ) (parts : List (List ℕ)) → 0 < length piece → filter has_bytes (piece ∷ parts) ≡ piece ∷ filter has_bytes parts
kept [] parts h = absurd (omega (arith, h))
kept (b ∷ bs) parts h = refl

cut_off : (piece sep rest : List ℕ) → 0 < length piece → All (λ b. is_ascii_whitespace b ≡ false) piece
    → IsAsciiSeparator sep rest → pieces_of (piece ++ (sep ++ rest)) ≡ piece ∷ pieces_of rest
unfolding pieces_of
cut_off piece [] [] n none s =
    ap pieces_of (append-nil piece) ∙ ap (filter has_bytes) (slice_split_none is_ascii_whitespace piece none) ∙ kept piece [] n
cut_off piece [] (r ∷ rest) n none s = absurd (omega (arith, s.2 refl))
cut_off piece (w ∷ []) rest n none s =
    ap (filter has_bytes) (slice_split_at is_ascii_whitespace piece w rest none (s.0 0 0 (omega arith)))
    ∙ kept piece (slice_split is_ascii_whitespace rest) n
cut_off piece (w ∷ v ∷ sep) rest n none s = absurd (omega (arith, s.1))

-- a text from which a piece was cut off
pub piece_cut_off : (text gap piece sep rest : List ℕ) → text ≡ gap ++ (piece ++ (sep ++ rest)) → AllPass is_ascii_whitespace gap
    → 0 < length piece → NoCharPasses is_ascii_whitespace piece → IsAsciiSeparator sep rest
    → pieces_of text ≡ piece ∷ pieces_of rest
piece_cut_off text gap piece sep rest e white n none s =
    ap pieces_of e
    ∙ behind_white gap (piece ++ (sep ++ rest)) (recursion_from_All (λ b. is_ascii_whitespace b ≡ true) gap white)
    ∙ cut_off piece sep rest n (no_white piece none) s
