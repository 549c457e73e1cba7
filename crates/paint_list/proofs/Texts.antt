-- The text of some of what is painted, one more at a time.
use Rattle.std.proofs.Common.{◌≡◌, ◌≢◌, ◌∙◌, sym, ap, refl, arith, append_assoc, Option, Some, None, Ok, pos, ℕ, ◌+◌, ◌<◌, List, [], ◌∷◌, ◌++◌, length, take, drop, get_or, append-nil}
use Rattle.std.specs.Io.KnownBytes.{Appends}
use Rattle.std.specs.List.{flat_map}
use Rattle.std.proofs.lemmas.List.{take_more, take-append-drop}
use Rattle.std.proofs.lemmas.List.Concat.{flat_map-append}
use Rattle.doc_io.specs.Causes.{SinkTold}
use Rattle.doc_io.specs.Pieces.{Puts}
use Rattle.fixed_units.specs.declared.boxes.MathBox.{MathBox}
use Rattle.font_metrics.specs.Metrics.{MetricsValue}
use Rattle.paint_list.specs.Svg.{end_line, head_line, paint_text, svg_of}
use Rattle.paint_list.specs.declared.paints.Paint.{Paint}
use Rattle.paint_list.specs.declared.paints.Paint.TheVariants.{Glyph}

-- what stands for a glyph or a rule that isn't there
abbrev pub no_paint : Paint
no_paint = Glyph (pos 0) (pos 0) (pos 0) record { 0 = 0 }

pub texts-more : (m : MetricsValue) (paints : List Paint) (i : ℕ) (d paint : Paint) → i < length paints → paint ≡ get_or paints i d
    → flat_map (paint_text m) (take i paints) ++ paint_text m paint ≡ flat_map (paint_text m) (take (i + 1) paints)
texts-more m paints i d paint within is =
    ap (λ x. flat_map (paint_text m) (take i paints) ++ paint_text m x) is
    ∙ ap (λ l. flat_map (paint_text m) (take i paints) ++ l) (sym (append-nil (paint_text m (get_or paints i d))))
    ∙ sym (flat_map-append (paint_text m) (take i paints) (get_or paints i d ∷ []))
    ∙ ap (flat_map (paint_text m)) (sym (take_more paints i d within))

pub texts-split : (m : MetricsValue) (paints : List Paint) (i : ℕ)
    → flat_map (paint_text m) (take i paints) ++ flat_map (paint_text m) (drop i paints) ≡ flat_map (paint_text m) paints
texts-split m paints i =
    sym (flat_map-append (paint_text m) (take i paints) (drop i paints)) ∙ ap (flat_map (paint_text m)) (take-append-drop i paints)

-- nothing is put, behind what is held back
pub puts_none : {E : Type 0} (a : SinkTold) (held : List ℕ) → Puts {E = E} a a held held [] (Ok tt)
puts_none {E} a held = record {
  faults = omega arith;
  whole = ([], sym (append-nil held), appends_nothing a.written);
  part = (0, omega arith, appends_nothing a.written);
  failed = tt;
  kept = λ short. (refl, refl, sym (append-nil held));
}
  where
    appends_nothing : (known : Option (List ℕ)) → Appends known known []
    appends_nothing None = tt
    appends_nothing (Some bytes) = sym (append-nil bytes)

-- the lines of what is painted stand between the first line and the last
pub svg_parts : (m : MetricsValue) (frame : MathBox) (paints : List Paint)
    → head_line frame ++ (flat_map (paint_text m) paints ++ end_line) ≡ svg_of m frame paints
unfolding svg_of
svg_parts m frame paints = sym (append_assoc (head_line frame) (flat_map (paint_text m) paints) end_line)

-- an SVG isn't empty
pub svg_some : (m : MetricsValue) (frame : MathBox) (paints : List Paint) → svg_of m frame paints ≢ []
unfolding svg_of head_line
svg_some m frame paints none = cc
