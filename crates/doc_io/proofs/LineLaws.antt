-- The lines of some bytes, one after another.
use Rattle.std.proofs.Common.{◌≡◌, ◌⊎◌, inl, inr, ◌∙◌, ap, refl, sym, subst, ℕ, ◌+◌, ◌<◌, ◌≤◌, Bool, true, false, cond, not, nat_lt, List, [], ◌∷◌, length, take, drop, Option, Some, None, IfSome, arith}
use Rattle.std.specs.Prelude.{Result, Ok, Err, IsErrOf, map}
use Rattle.std.proofs.lemmas.Bool.Decides.{Decides-ltb, nat_tests}
use Rattle.std.proofs.lemmas.List.{drop_all, take_all}
use Rattle.std.proofs.lemmas.List.Splits.{slice_split-cons_no, slice_split_first}
use Rattle.std.specs.List.{onto_first, position_or_len, slice_split}
use Rattle.doc_io.specs.LineReader.{GivesLine, answer_of, behind_line, first_line, is_feed, left_of, lines_of, lines_of_pieces, longest_line, most_lines, is_short}
use Rattle.doc_io.specs.LineRuns.{FrontLaw, GivesLines, Moment, RunLaw}
use Rattle.doc_io.specs.declared.line_reader.Line.{Line}
use Rattle.doc_io.specs.declared.line_reader.Line.TheVariants.{Whole, End}
use Rattle.doc_io.specs.declared.line_reader.LineRefusal.{LineRefusal}
use Rattle.doc_io.specs.declared.line_reader.LineRefusal.TheVariants.{ReadFault, LineLong, LinesSpent}
use Rattle.doc_io.proofs.FirstLines.{line_within}

-- bytes without a line feed are one piece
whole_piece : (bytes : List ℕ) → position_or_len is_feed bytes ≡ length bytes → slice_split is_feed bytes ≡ bytes ∷ []
whole_piece [] h = refl
whole_piece (b ∷ bs) h = by (is_feed b) refl (whole_piece bs) h
  where
    by : (feed : Bool) → is_feed b ≡ feed → (position_or_len is_feed bs ≡ length bs → slice_split is_feed bs ≡ bs ∷ []) → cond (not feed) (1 + position_or_len is_feed bs) 0 ≡ length (b ∷ bs)
        → slice_split is_feed (b ∷ bs) ≡ (b ∷ bs) ∷ []
    by true e more k = absurd (omega (arith, k))
    by false e more k = slice_split-cons_no is_feed b bs e ∙ ap (onto_first b) (more (omega (arith, k)))

more_pieces : (line : List ℕ) (bytes : List ℕ)
    → lines_of_pieces (line ∷ slice_split is_feed bytes) ≡ line ∷ lines_of_pieces (slice_split is_feed bytes)
more_pieces line [] = refl
more_pieces line (b ∷ bs) = by (is_feed b) (slice_split is_feed bs)
  where
    by : (feed : Bool) (pieces : List (List ℕ))
        → lines_of_pieces (line ∷ cond feed ([] ∷ pieces) (onto_first b pieces))
        ≡ line ∷ lines_of_pieces (cond feed ([] ∷ pieces) (onto_first b pieces))
    by true pieces = refl
    by false [] = refl
    by false (piece ∷ pieces) = refl

-- no bytes have no line
pub no_lines : lines_of [] ≡ []
unfolding lines_of
no_lines = refl

-- others have a first one, and those behind it
pub first_of_lines : (b : ℕ) (bs : List ℕ) → lines_of (b ∷ bs) ≡ first_line (b ∷ bs) ∷ lines_of (behind_line (b ∷ bs))
unfolding lines_of
first_of_lines b bs = by (nat_lt (position_or_len is_feed (b ∷ bs)) (length (b ∷ bs))) refl
  where
    by : (ends : Bool) → nat_lt (position_or_len is_feed (b ∷ bs)) (length (b ∷ bs)) ≡ ends
        → lines_of_pieces (slice_split is_feed (b ∷ bs)) ≡ first_line (b ∷ bs) ∷ lines_of_pieces (slice_split is_feed (behind_line (b ∷ bs)))
    by true e =
        ap lines_of_pieces (slice_split_first is_feed (b ∷ bs) 0 ((Decides-ltb _ (length (b ∷ bs))).0 e))
        ∙ more_pieces (first_line (b ∷ bs)) (behind_line (b ∷ bs))
    by false e =
        let past : length (b ∷ bs) ≤ position_or_len is_feed (b ∷ bs) = grind (arith, nat_tests) in
        let all : position_or_len is_feed (b ∷ bs) ≡ length (b ∷ bs) = omega (arith, past, line_within is_feed (b ∷ bs)) in
        ap lines_of_pieces (whole_piece (b ∷ bs) all)
        ∙ (λ i. sym (take_all (position_or_len is_feed (b ∷ bs)) (b ∷ bs) past) i ∷ lines_of_pieces (slice_split is_feed (sym (drop_all (position_or_len is_feed (b ∷ bs) + 1) (b ∷ bs) (omega (arith, past))) i)))

-- a line within its limit
pub short_line : (line : List ℕ) → length line ≤ longest_line → is_short line ≡ true
unfolding is_short
short_line line short = grind (arith, nat_tests)

-- ---- a run of a reader

ended : (given : ℕ) (bytes : List ℕ) → Ok End ≡ answer_of given bytes → bytes ≡ []
unfolding answer_of
ended given [] h = refl
ended given (b ∷ bs) h = by (nat_lt given most_lines) (is_short (first_line (b ∷ bs))) h
  where
    by : (few short : Bool) → Ok End ≡ cond few (cond short (Ok Whole) (Err LineLong)) (Err LinesSpent) → b ∷ bs ≡ []
    by true true k = absurd cc
    by true false k = absurd cc
    by false short k = absurd cc

begun : (given : ℕ) (bytes : List ℕ) → Ok Whole ≡ answer_of given bytes → lines_of bytes ≡ first_line bytes ∷ lines_of (behind_line bytes)
unfolding answer_of
begun given [] h = absurd cc
begun given (b ∷ bs) h = first_of_lines b bs

answered : (line : Line) (r : Result Line LineRefusal) → (IsErrOf {T = Line} (Ok line) ReadFault) ⊎ (Ok line ≡ r) → Ok line ≡ r
answered line r (inl e) = absurd cc
answered line r (inr e) = e

at_some : (P : List ℕ → Type 0) (o : Option (List ℕ)) (bytes : List ℕ) → o ≡ Some bytes → IfSome o P → P bytes
at_some P o bytes is h = subst (λ o. IfSome o P) is h

-- the line that a call gave is the first of those that were left
pub given_line : (now next : Moment) (bytes : List ℕ) → left_of now.reader now.inputs ≡ Some bytes
    → GivesLine now.reader next.reader now.inputs next.inputs (Ok Whole)
    → (lines_of bytes ≡ next.reader.line ∷ lines_of (behind_line bytes)) × (left_of next.reader next.inputs ≡ Some (behind_line bytes))
given_line now next bytes is g =
    let whole = answered Whole (answer_of now.reader.given bytes) (at_some _ (left_of now.reader now.inputs) bytes is g.answer) in
    let line : next.reader.line ≡ first_line bytes = at_some _ (left_of now.reader now.inputs) bytes is (g.line refl) in (
      begun now.reader.given bytes whole ∙ ap (λ l. l ∷ lines_of (behind_line bytes)) (sym line),
      at_some _ (left_of now.reader now.inputs) bytes is g.left,
    )

-- at the end no line was left
pub given_end : (now next : Moment) (bytes : List ℕ) → left_of now.reader now.inputs ≡ Some bytes
    → GivesLine now.reader next.reader now.inputs next.inputs (Ok End) → bytes ≡ []
given_end now next bytes is g =
    ended now.reader.given bytes (answered End (answer_of now.reader.given bytes) (at_some _ (left_of now.reader now.inputs) bytes is g.answer))

refused_of : (e : LineRefusal) (given : ℕ) (bytes : List ℕ) → Err e ≡ answer_of given bytes
    → (lines_of bytes ≡ first_line bytes ∷ lines_of (behind_line bytes)) × ((most_lines ≤ given) ⊎ (is_short (first_line bytes) ≡ false))
unfolding answer_of
refused_of e given [] h = absurd cc
refused_of e given (b ∷ bs) h = by (nat_lt given most_lines) refl (is_short (first_line (b ∷ bs))) refl h
  where
    by : (few : Bool) → nat_lt given most_lines ≡ few → (short : Bool) → is_short (first_line (b ∷ bs)) ≡ short
        → Err e ≡ cond few (cond short (Ok Whole) (Err LineLong)) (Err LinesSpent)
        → (lines_of (b ∷ bs) ≡ first_line (b ∷ bs) ∷ lines_of (behind_line (b ∷ bs))) × ((most_lines ≤ given) ⊎ (is_short (first_line (b ∷ bs)) ≡ false))
    by true f true k h = absurd cc
    by true f false k h = (first_of_lines b bs, inr k)
    by false f short k h = let most : most_lines ≤ given = grind (arith, nat_tests) in (first_of_lines b bs, inl most)

refused_as : (e : LineRefusal) (r : Result Line LineRefusal) → ¬ (e ≡ ReadFault) → (IsErrOf {T = Line} (Err e) ReadFault) ⊎ (Err e ≡ r)
    → Err e ≡ r
refused_as e r own (inl fault) = absurd (own (let f = fault in cc))
refused_as e r own (inr h) = h

-- a line that isn't given is too long, or one too many
pub refused_line : (now next : Moment) (bytes : List ℕ) (e : LineRefusal) → left_of now.reader now.inputs ≡ Some bytes → ¬ (e ≡ ReadFault)
    → GivesLine now.reader next.reader now.inputs next.inputs (Err e)
    → (lines_of bytes ≡ first_line bytes ∷ lines_of (behind_line bytes))
    × ((most_lines ≤ now.reader.given) ⊎ (is_short (first_line bytes) ≡ false))
refused_line now next bytes e is own g =
    refused_of e now.reader.given bytes (refused_as e (answer_of now.reader.given bytes) own (at_some _ (left_of now.reader now.inputs) bytes is g.answer))

pub gives_lines : RunLaw
gives_lines start bytes [] is (after, g) = sym (ap lines_of (given_end start after bytes is g) ∙ no_lines)
gives_lines start bytes (next ∷ later) is (g, others) =
    let line = given_line start next bytes is g in
    ap (λ l. next.reader.line ∷ l) (gives_lines next (behind_line bytes) later line.1 others) ∙ sym line.0

pub gives_first : FrontLaw
gives_first start bytes [] is none = refl
gives_first start bytes (next ∷ later) is (g, others) =
    let line = given_line start next bytes is g in
    ap (λ l. next.reader.line ∷ l) (gives_first next (behind_line bytes) later line.1 others)
    ∙ sym (ap (take (length (next ∷ later))) line.0)
