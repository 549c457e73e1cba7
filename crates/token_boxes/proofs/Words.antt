-- The leaf of a text, as the code makes it of one character after another.
use Rattle.std.proofs.Common.{lit≤, subst, ◌≡◌, ◌∙◌, refl, sym, ap, inl, inr, ℕ, zero, suc, ◌+◌, ◌*◌, ◌^◌, ◌<◌, ◌≤◌, arith, List, [], ◌∷◌, ◌++◌, length, length-append, map, fold, Some, None, ℤ, pos, ◌+ℤ◌, ◌≤ℤ◌}
use Rattle.std.proofs.Math.Seq.{take-append_seam}
use Rattle.std.proofs.lemmas.Int.{by_lt_z}
use Rattle.std.proofs.lemmas.List.{take-append-le, get_or_append_left, get_or_push, get_or_past}
use Rattle.std.proofs.lemmas.List.Sums.{fold-append}
use Rattle.std.specs.Int.{int_min}
use Rattle.fixed_units.specs.Boxes.{empty_box, joined}
use Rattle.fixed_units.specs.Numbers.{IsWithin}
use Rattle.fixed_units.specs.Sums.{list_to}
use Rattle.fixed_units.specs.declared.boxes.MathBox.{MathBox}
use Rattle.fixed_units.proofs.Signed.{signed}
use Rattle.fixed_units.proofs.Within.{natural_in, widened}
use Rattle.fixed_units.proofs.Sums.{list_to-zero, list_to-add_one}
use Rattle.font_metrics.specs.Metrics.{MetricsValue, NamedGlyph, nameless, glyph_at, place_of_letter}
use Rattle.font_metrics.specs.Taken.{IsTaken}
use Rattle.font_metrics.proofs.Bounds.{glyph_measured, glyph_in_design, scale_not_negative, scale_within}
use Rattle.glyph_assembly.specs.Glyphs.{glyph_frame}
use Rattle.font_metrics.specs.declared.mark.Mark.{Mark}
use Rattle.font_metrics.specs.declared.mark.Mark.TheVariants.{Glyph}
use Rattle.std.specs.Prelude.{Option}
use Rattle.token_boxes.specs.Token.{leaf, glyph_of, letter_frame, width_of, inks_of, mark_at, marks_of, word_frame_of, word_leaf, far, further, also_inked, IsLeaf, IsWord}

-- what is the same at each place makes the same list
list_to_same : {A : Type 0} (n : ℕ) (f g : ℕ → A) → ((i : ℕ) → i < n → f i ≡ g i) → list_to n f ≡ list_to n g
unfolding list_to
list_to_same zero f g same = refl
list_to_same (suc n) f g same =
    let before = list_to_same n f g (λ i h. same i (omega arith)) in
    let last = same n (omega arith) in
    λ k. before k ++ last k ∷ []

module _ (m : MetricsValue) (size : ℤ) where
  -- ---- one character more
  width_of-append : (letters : List ℕ) (letter : ℕ)
      → width_of m size (letters ++ letter ∷ []) ≡ width_of m size letters +ℤ (letter_frame m size letter).width
  unfolding width_of
  width_of-append letters letter = fold-append _ _ letters (letter ∷ [])

  inks_of-append : (letters : List ℕ) (letter : ℕ)
      → inks_of m size (letters ++ letter ∷ []) ≡ Some (also_inked (inks_of m size letters) (letter_frame m size letter))
  unfolding inks_of
  inks_of-append [] letter = refl
  inks_of-append (first ∷ letters) letter = ap Some (along (letter_frame m size first) letters)
    where
      along : (all : MathBox) (letters : List ℕ)
          → fold joined all (map (letter_frame m size) (letters ++ letter ∷ []))
          ≡ joined (fold joined all (map (letter_frame m size) letters)) (letter_frame m size letter)
      along all [] = refl
      along all (next ∷ letters) = along (joined all (letter_frame m size next)) letters

  marks_of-append : (letters : List ℕ) (letter : ℕ)
      → marks_of m size (letters ++ letter ∷ [])
      ≡ marks_of m size letters ++ Glyph (width_of m size letters) (pos 0) size (glyph_of m letter) ∷ []
  unfolding marks_of
  marks_of-append letters letter =
      let more = letters ++ letter ∷ [] in
      let long : length more ≡ length letters + 1 = length-append letters (letter ∷ []) in
      let before : list_to (length letters) (mark_at m size more) ≡ list_to (length letters) (mark_at m size letters) =
      list_to_same (length letters) (mark_at m size more) (mark_at m size letters)
      (λ i h k. Glyph (width_of m size (take-append-le i letters (letter ∷ []) (omega arith) k)) (pos 0) size
      (glyph_of m (get_or_append_left letters (letter ∷ []) 0 i h k))) in
      let last : mark_at m size more (length letters) ≡ Glyph (width_of m size letters) (pos 0) size (glyph_of m letter) =
      λ k. Glyph (width_of m size (take-append_seam letters (letter ∷ []) k)) (pos 0) size
      (glyph_of m (get_or_push letters letter 0 (length letters) refl k)) in
      ap (λ n. list_to n (mark_at m size more)) long ∙ list_to-add_one (length letters) (mark_at m size more)
      ∙ (λ k. before k ++ last k ∷ [])

  -- ---- the code's steps
  pub word_begins : IsWord m size [] (pos 0) None []
  unfolding width_of inks_of marks_of
  word_begins = record {
    wide = omega (arith, signed);
    width_is = refl;
    inks_are = refl;
    marks_are = λ _. sym (list_to-zero (mark_at m size []));
  }

  -- how far it reaches by then
  pub width_in : (letters : List ℕ) (width : ℤ) (inks : Option MathBox) (marks : List Mark)
      → IsWord m size letters width inks marks → IsWithin (2 ^ 60 + 1) width
  width_in letters width inks marks word =
      let wide = word.wide in
      let is = word.width_is in
      record { low = omega (arith, signed, wide, is); high = omega (arith, signed, wide, is) }

  -- no advance goes back
  pub advance_low : (letter : ℕ) → IsTaken m → pos 0 ≤ℤ size → place_of_letter m letter < length m.glyphs
      → pos 0 ≤ℤ (letter_frame m size letter).width
  unfolding glyph_frame
  advance_low letter taken low there =
      let glyph = glyph_at m (place_of_letter m letter) in
      scale_not_negative m glyph.advance size taken (glyph_measured m (place_of_letter m letter) taken there).advance.0 low

  kept_width : (width all : ℤ) → width ≡ int_min all (far +ℤ pos 1) → all ≤ℤ far → width ≡ all
  kept_width width all is h = omega (arith, signed, is, h)

  next_width : (width all advance : ℤ) → width ≡ int_min all (far +ℤ pos 1) → pos 0 ≤ℤ advance
      → further width advance ≡ int_min (all +ℤ advance) (far +ℤ pos 1)
  unfolding further
  next_width width all advance is h = omega (arith, signed, is, h)

  pub word_goes_on : (letters : List ℕ) (letter : ℕ) (width : ℤ) (inks : Option MathBox) (marks : List Mark)
      → pos 0 ≤ℤ (letter_frame m size letter).width → IsWord m size letters width inks marks
      → IsWord m size (letters ++ letter ∷ []) (further width (letter_frame m size letter).width)
      (Some (also_inked inks (letter_frame m size letter)))
      (marks ++ Glyph width (pos 0) size (glyph_of m letter) ∷ [])
  word_goes_on letters letter width inks marks low word =
      let advance = (letter_frame m size letter).width in
      let all = width_of m size letters in
      let sum = width_of-append letters letter in
      let wide = word.wide in
      record {
        wide = omega (arith, signed, sum, low, wide);
        width_is = next_width width all advance word.width_is low ∙ ap (λ z. int_min z (far +ℤ pos 1)) (sym sum);
        inks_are =
            ap (λ o. Some (also_inked o (letter_frame m size letter))) word.inks_are
            ∙ sym (inks_of-append letters letter);
        marks_are = λ h.
            let short : all ≤ℤ far = omega (arith, signed, sum, low, h) in
            let same = kept_width width all word.width_is short in
            (λ k. word.marks_are short k ++ Glyph (same k) (pos 0) size (glyph_of m letter) ∷ [])
            ∙ sym (marks_of-append letters letter);
      }

  -- ---- the end of it
  pub word_is : (letters : List ℕ) (width : ℤ) (inks : MathBox) (marks : List Mark)
      → IsWord m size letters width (Some inks) marks
      → IsLeaf (word_leaf m size letters) (leaf (word_frame_of m size inks width) marks)
  unfolding word_leaf word_frame_of
  word_is letters width inks marks word =
      let all = width_of m size letters in
      rw (sym word.inks_are)
      (by_lt_z far all
      (λ far_off. inr (far_off, let is = word.width_is in omega (arith, signed, is, far_off)))
      (λ short.
      let same = kept_width width all word.width_is short in
      inl (λ k. leaf (word_frame_of m size inks (same k)) (word.marks_are short k))))

  pub nothing_is : (letters : List ℕ) (width : ℤ) (marks : List Mark) → IsWord m size letters width None marks
      → word_leaf m size letters ≡ leaf empty_box []
  unfolding word_leaf
  nothing_is letters width marks word = rw (sym word.inks_are) refl

  -- ---- how wide a text can be
  advance_in : (place : ℕ) → IsTaken m → IsWithin (2 ^ 16) (glyph_at m place).advance
  unfolding glyph_at
  advance_in place taken =
      by_lt_z (pos place) (pos (length m.glyphs))
      (λ there. (glyph_in_design m place taken (omega (arith, signed, there))).advance)
      (λ past.
      subst (λ (g : NamedGlyph). IsWithin (2 ^ 16) g.glyph.advance)
      (sym (get_or_past m.glyphs place nameless (omega (arith, signed, past)))) (widened (2 ^ 16) (natural_in 0) (lit≤ tt)))

  advance_high : (letter : ℕ) → IsTaken m → pos 0 ≤ℤ size → size ≤ℤ pos (2 ^ 20)
      → (letter_frame m size letter).width ≤ℤ pos (2 ^ 32)
  unfolding glyph_frame
  advance_high letter taken low high =
      let place = place_of_letter m letter in
      (scale_within m (glyph_at m place).advance size taken (advance_in place taken) low high).high

  along : (letters : List ℕ) (start : ℤ) → ((letter : ℕ) → (letter_frame m size letter).width ≤ℤ pos (2 ^ 32))
      → fold (λ width letter. width +ℤ (letter_frame m size letter).width) start letters
      ≤ℤ (start +ℤ pos (length letters * 2 ^ 32))
  along [] start steps = omega (arith, signed)
  along (letter ∷ letters) start steps =
      let rest = along letters (start +ℤ (letter_frame m size letter).width) steps in
      let step = steps letter in
      omega (arith, signed, rest, step)

  pub width_at_most : (letters : List ℕ) → IsTaken m → pos 0 ≤ℤ size → size ≤ℤ pos (2 ^ 20)
      → length letters ≤ 2 ^ 28 → width_of m size letters ≤ℤ far
  unfolding width_of
  width_at_most letters taken low high few =
      let h = along letters (pos 0) (λ letter. advance_high letter taken low high) in
      omega (arith, signed, h, few)
