use Rattle.std.proofs.Common.{◌≡◌, ◌∙◌, sym, ap, subst, inl, map-id, ◌≤ℤ◌, ℕ, ℤ, ◌<◌, List, ◌∷◌, ◌++◌, [], length, chars, lit<, to_z, of_z, w64, FitsSigned, rules, pos, Some, None}
use Rattle.std.proofs.lemmas.Int.{to_z-of_z}
use Rattle.std.proofs.lemmas.Iterator.{YieldsList-from_chars}
use Rattle.std.proofs.lemmas.Iterator.Consumers.{YieldsList-end}
use Rattle.std.specs.Prelude.{Option}
use Rattle.fixed_units.specs.declared.boxes.MathBox.{MathBox}
use Rattle.font_metrics.specs.declared.mark.Mark.{Mark}
use Rattle.font_metrics.specs.declared.mark.Mark.TheVariants.{Glyph}
use Rattle.font_metrics.proofs.Scaling.{back64, size_in}
use Rattle.glyph_assembly.specs.Glyphs.{frame_at}
use Rattle.token_boxes.specs.Token.{IsLeaf, IsWord, leaf, word_leaf, word_frame_of, letter_frame, further, also_inked}
use Rattle.token_boxes.proofs.Leaves.{glyph_is}
use Rattle.token_boxes.proofs.Words.{word_begins, word_goes_on, word_is, nothing_is, width_in, advance_low}
use Rattle.token_boxes.proofs.tokens.word_leaf.Goals as goal

abbrev back : ℤ → ℤ
back z = to_z w64 (of_z w64 z)

pub loop-letter-init : goal.loop-letter-init
loop-letter-init c =
    subst (λ (marks : List Mark). IsWord c.args.metrics.now (back c.args.size) [] (pos 0) None marks) (sym c.make-marks.ensures)
    (word_begins c.args.metrics.now (back c.args.size))

pub further-width-requires-clause-width_in : goal.further-width-requires-clause-width_in
further-width-requires-clause-width_in c =
    width_in c.args.metrics.now (back c.args.size) c.loop-letter.yielded _ c.loop-letter.inks c.loop-letter.marks c.loop-letter.invariant

pub loop-letter-preserved : goal.loop-letter-preserved
loop-letter-preserved c =
    let m = c.args.metrics.now in
    let size = back c.args.size in
    let letter = c.in-Some.letter in
    let letters = c.loop-letter.yielded in
    let width = to_z w64 c.loop-letter.width-bits in
    let place = c.glyph_of-glyph.ensures.value in
    let low = advance_low m size letter c.is_taken.ensures
    (subst (λ z. pos 0 ≤ℤ z) (sym (back64 (size_in c.args.size c.requires.size_low c.requires.size_high) (lit< tt))) c.requires.size_low)
    (subst (λ (n : ℕ). n < length m.glyphs) place c.glyph_of-glyph.ensures.within) in
    let frame : c.glyph_frame-frame.result ≡ letter_frame m size letter =
    c.glyph_frame-frame.ensures.value ∙ (λ i. frame_at m (place i) size) in
    let fits : FitsSigned w64 c.further-width.result = search rules in
    let advance = back64 c.glyph_frame-frame.ensures.within.width (lit< tt) ∙ (λ i. (frame i).width) in
    let wide : back c.further-width.result ≡ further width (letter_frame m size letter).width =
    to_z-of_z w64 c.further-width.result fits ∙ c.further-width.ensures.value ∙ ap (further width) advance in
    let inked = c.also_inked.ensures ∙ ap (also_inked c.loop-letter.inks) frame in
    let marks = (c.in_ok-push.ensures {u = tt}).ok
    ∙ (λ i. c.loop-letter.marks ++ Glyph width (pos 0) size (glyph_is c.glyph_of-glyph.result _ place i) ∷ []) in
    let next = word_goes_on m size letters letter width c.loop-letter.inks c.loop-letter.marks low c.loop-letter.invariant in
    let more = letters ++ letter ∷ [] in
    let far = further width (letter_frame m size letter).width in
    subst (λ (w : ℤ). IsWord m size more w (Some c.also_inked.result) c.push.new.self) (sym wide)
    (subst (λ (o : MathBox). IsWord m size more far (Some o) c.push.new.self) (sym inked)
    (subst (λ (l : List Mark). IsWord m size more far (Some (also_inked c.loop-letter.inks (letter_frame m size letter))) l) (sym marks) next))

pub returns-in-Some-inks : goal.returns-in-Some-inks
returns-in-Some-inks c =
    let m = c.args.metrics.now in
    let size = back64 (size_in c.args.size c.requires.size_low c.requires.size_high) (lit< tt) in
    let end = YieldsList-end (YieldsList-from_chars c.args.text.now c.utf8.text cc) c.loop-letter.yielded _ c.loop-letter.yielded_by _ _ c.in-None.is c.next.ensures.steps in
    let all : c.loop-letter.yielded ≡ chars c.args.text.now = sym (map-id c.loop-letter.yielded) ∙ end.0 in
    let width = to_z w64 c.loop-letter.width-bits in
    let word = subst (λ (o : Option MathBox). IsWord m (back c.args.size) c.loop-letter.yielded width o c.loop-letter.marks) c.in-Some-inks.is c.loop-letter.invariant in
    let is = word_is m (back c.args.size) c.loop-letter.yielded width c.in-Some-inks.inks c.loop-letter.marks word in
    let frame = c.word_frame.ensures in
    let made = c.unspaced.ensures ∙ ap (λ (f : MathBox). leaf f c.loop-letter.marks) frame in
    subst (λ l. IsLeaf (word_leaf m c.args.size (chars c.args.text.now)) l) (sym made)
    (subst (λ (s : ℤ). IsLeaf (word_leaf m s (chars c.args.text.now)) (leaf (word_frame_of m (back c.args.size) c.in-Some-inks.inks width) c.loop-letter.marks)) size
    (subst (λ (ls : List ℕ). IsLeaf (word_leaf m (back c.args.size) ls) (leaf (word_frame_of m (back c.args.size) c.in-Some-inks.inks width) c.loop-letter.marks)) all is))

pub returns-in-None-inks : goal.returns-in-None-inks
returns-in-None-inks c =
    let m = c.args.metrics.now in
    let size = back64 (size_in c.args.size c.requires.size_low c.requires.size_high) (lit< tt) in
    let end = YieldsList-end (YieldsList-from_chars c.args.text.now c.utf8.text cc) c.loop-letter.yielded _ c.loop-letter.yielded_by _ _ c.in-None.is c.next.ensures.steps in
    let all : c.loop-letter.yielded ≡ chars c.args.text.now = sym (map-id c.loop-letter.yielded) ∙ end.0 in
    let word = subst (λ (o : Option MathBox). IsWord m (back c.args.size) c.loop-letter.yielded (to_z w64 c.loop-letter.width-bits) o c.loop-letter.marks) c.in-None-inks.is c.loop-letter.invariant in
    let is = nothing_is m (back c.args.size) c.loop-letter.yielded _ c.loop-letter.marks word in
    inl (c.empty.ensures ∙ sym is ∙ (λ i. word_leaf m (size i) (all i)))
