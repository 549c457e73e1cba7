use Rattle.std.proofs.Common.{◌≡◌, ◌∙◌, ap, sym, refl, pos, unwrap_or, Ok, Err, SFits, w32, to_z-of_z, rules, ℕ, ℤ, List, Option, Bor}
use Rattle.font_metrics.specs.Faults.{Step, ◌>>=◌, step_map, both}
use Rattle.font_metrics.specs.Kept.{named_glyph}
use Rattle.font_metrics.specs.Metrics.{NamedGlyph}
use Rattle.metrics_file.specs.Said.{item_of}
use Rattle.metrics_file.specs.Lines.{Item, SaysGlyph, glyph_with, length_in, reach_in, reach_if_given}
use Rattle.metrics_file.specs.Words.{name_in}
use Rattle.font_metrics.proofs.Steps.{failed}
use Rattle.metrics_file.proofs.lines.glyph_with.Goals as goal

-- all fields of a glyph
abbrev Fields : Type 0
Fields = (Bor (List ℕ) × ℕ) × ((ℤ × ℤ) × (Option ℤ × Option ℤ))

abbrev glyph_of : Fields → Item
glyph_of g = SaysGlyph (named_glyph g.0.0.now record {
  advance = g.0.1;
  ink_ascent = g.1.0.0;
  ink_descent = g.1.0.1;
  italic = unwrap_or g.1.1.0 (pos 0);
  accent = g.1.1.1;
})

abbrev chain : Step (List ℕ) → Step ℕ → Step ℤ → Step ℤ → Step (Option ℤ) → Step (Option ℤ) → Step NamedGlyph
chain name advance ascent descent italic accent = do
  spelled ← name
  width ← advance
  up ← ascent
  down ← descent
  slant ← italic
  attachment ← accent
  Ok (record {
    name = spelled;
    glyph = record {
      advance = pos width;
      ink_ascent = up;
      ink_descent = down;
      italic = unwrap_or slant (pos 0);
      accent = attachment;
    };
  })

-- one behind another, or by pairs
by_pairs : (n : Step (Bor (List ℕ))) (l : Step ℕ) (u d : Step ℤ) (s a : Step (Option ℤ))
    → step_map glyph_of (both (both n l) (both (both u d) (both s a)))
    ≡ step_map SaysGlyph (chain (step_map (λ w. w.now) n) l u d s a)
by_pairs (Ok n) (Ok l) (Ok u) (Ok d) (Ok s) (Ok a) = refl
by_pairs (Ok n) (Ok l) (Ok u) (Ok d) (Ok s) (Err fault) = refl
by_pairs (Ok n) (Ok l) (Ok u) (Ok d) (Err fault) a = refl
by_pairs (Ok n) (Ok l) (Ok u) (Err fault) s a = refl
by_pairs (Ok n) (Ok l) (Err fault) d s a = refl
by_pairs (Ok n) (Err fault) u d s a = refl
by_pairs (Err fault) l u d s a = refl

said : (n : Step (Bor (List ℕ))) (l : Step ℕ) (u d : Step ℤ) (s a : Step (Option ℤ)) (all : Step Fields)
    (name advance ascent descent : List ℕ) (italic accent : Option (List ℕ)) → step_map (λ w. w.now) n ≡ name_in name
    → l ≡ length_in advance → u ≡ reach_in ascent → d ≡ reach_in descent → s ≡ reach_if_given italic
    → a ≡ reach_if_given accent → all ≡ both (both n l) (both (both u d) (both s a))
    → step_map glyph_of all ≡ step_map SaysGlyph (glyph_with name advance ascent descent italic accent)
said n l u d s a all name advance ascent descent italic accent hn hl hu hd hs ha h =
    ap (step_map glyph_of) h ∙ by_pairs n l u d s a
    ∙ (λ i. step_map SaysGlyph (chain (hn i) (hl i) (hu i) (hd i) (hs i) (ha i)))

pub returns-in_err-name : goal.returns-in_err-name
returns-in_err-name c =
    ap (step_map item_of) (failed c.from_residual.result c.in_err-name.field-0.0 c.from_residual.ensures.1)
    ∙ ap (step_map glyph_of) (sym c.in_err-name.was)
    ∙ said c.glyph_name.result c.length.result c.reach.result c.reach-2.result c.reach_at.result c.reach_at-2.result _ _ _ _ _ _ _
    c.glyph_name.ensures c.length.ensures c.reach.ensures c.reach-2.ensures c.reach_at.ensures c.reach_at-2.ensures
    (c.both-2.ensures ∙ (λ i. both (c.both-named.ensures i) ((c.both.ensures ∙ (λ j. both (c.both-ink.ensures j) (c.both-attached.ensures j))) i)))

pub returns : goal.returns
returns c =
    let up : SFits w32 c.in_ok-name.ink_ascent = search rules in
    let down : SFits w32 c.in_ok-name.ink_descent = search rules in
    let slant : SFits w32 c.unwrap_or.result = search rules in
    simp to_z-of_z
    (ap (λ z. Ok (SaysGlyph (named_glyph c.in_ok-name.name.now record {
      advance = c.in_ok-name.advance;
      ink_ascent = c.in_ok-name.ink_ascent;
      ink_descent = c.in_ok-name.ink_descent;
      italic = z;
      accent = c.in_ok-name.accent;
    }))) c.unwrap_or.ensures
    ∙ ap (step_map glyph_of) (sym c.in_ok-name.was)
    ∙ said c.glyph_name.result c.length.result c.reach.result c.reach-2.result c.reach_at.result c.reach_at-2.result _ _ _ _ _ _ _
    c.glyph_name.ensures c.length.ensures c.reach.ensures c.reach-2.ensures c.reach_at.ensures c.reach_at-2.ensures
    (c.both-2.ensures ∙ (λ i. both (c.both-named.ensures i) ((c.both.ensures ∙ (λ j. both (c.both-ink.ensures j) (c.both-attached.ensures j))) i))))
