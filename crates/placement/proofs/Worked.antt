-- Worked places: two laid-out trees at the sample metrics, and what they show at (0, 0).
use Rattle.std.proofs.Common.{◌≡◌, ◌∙◌, ap, ℕ, ℤ, pos, negsuc, ◌+ℤ◌, List, [], ◌∷◌, ◌++◌, map, codes}
use Rattle.fixed_units.specs.declared.boxes.MathBox.{MathBox}
use Rattle.font_metrics.specs.declared.mark.Mark.{Mark}
use Rattle.font_metrics.specs.declared.mark.Mark.TheVariants.{Glyph, Rule}
use Rattle.math_tree.specs.declared.kind.Kind.{Kind}
use Rattle.math_tree.specs.declared.kind.Kind.TheVariants.{Math, Mfrac, Mn, Mphantom}
use Rattle.layout_model.specs.declared.laid.Laid.{Laid}
use Rattle.layout_model.specs.declared.laid.Laid.TheOpen.{Laid-F}
use Rattle.layout_model.specs.declared.laid.Laid.TheViews.{roll-Laid}
use Rattle.layout_model.specs.declared.outcome.Offset.{Offset}
use Rattle.box_writer.specs.declared.placed.PlacedItem.{PlacedItem}
use Rattle.box_writer.specs.declared.placed.PlacedItem.TheVariants.{Frame, Drawn}
use Rattle.placement.specs.Placing.{kids_at, placed}
use Rattle.placement.proofs.Showing.{placed_made}

abbrev frame : ℕ → ℕ → ℕ → ℕ → ℕ → MathBox
frame width ascent descent ink_ascent ink_descent = record {
  width = pos width;
  ascent = pos ascent;
  descent = pos descent;
  ink_ascent = pos ink_ascent;
  ink_descent = pos ink_descent;
  italic = pos 0;
  accent = pos 0;
}

abbrev at : ℕ → ℤ → ℤ → Offset
at kid x y = record { kid = kid; x = x; y = y }

abbrev layer : ℕ → List ℕ → Kind → MathBox → List Offset → List Mark → List Laid → Laid-F Laid
layer id name kind frame offsets marks kids = record {
  head = record { id = record { 0 = id }; name = name; kind = kind; attributes = []; text = [] };
  outcome = record { answer = record { frame = frame; before = pos 0; after = pos 0; cells = []; spans = [] }; offsets = offsets; marks = marks };
  kids = kids;
}

abbrev box : ℕ → List ℕ → ℤ → ℤ → MathBox → PlacedItem
box id name x y frame = Frame (record { id = record { 0 = id }; name = name; x = x; y = y; frame = frame })

-- the glyph `one` of the sample, at a size
abbrev one : ℤ → ℤ → ℕ → Mark
one x y size = Glyph x y (pos size) record { 0 = 1 }

-- what one child shows, two children, and three
one_kid : (x y : ℤ) (o : Offset) (kid : Laid) (items : List PlacedItem) → placed kid (x +ℤ o.x) (y +ℤ o.y) ≡ items
    → kids_at x y (o ∷ []) (map placed (kid ∷ [])) ≡ items ++ []
one_kid x y o kid items e = ap (λ (shown : List PlacedItem). shown ++ []) e

two_kids : (x y : ℤ) (o p : Offset) (kid next : Laid) (items more : List PlacedItem) → placed kid (x +ℤ o.x) (y +ℤ o.y) ≡ items
    → placed next (x +ℤ p.x) (y +ℤ p.y) ≡ more → kids_at x y (o ∷ p ∷ []) (map placed (kid ∷ next ∷ [])) ≡ items ++ (more ++ [])
two_kids x y o p kid next items more e f =
    ap (λ (shown : List PlacedItem). shown ++ kids_at x y (p ∷ []) (map placed (next ∷ []))) e
    ∙ ap (λ (shown : List PlacedItem). items ++ shown) (one_kid x y p next more f)

three_kids : (x y : ℤ) (o p q : Offset) (kid next last : Laid) (items more rest : List PlacedItem) → placed kid (x +ℤ o.x) (y +ℤ o.y) ≡ items
    → placed next (x +ℤ p.x) (y +ℤ p.y) ≡ more → placed last (x +ℤ q.x) (y +ℤ q.y) ≡ rest
    → kids_at x y (o ∷ p ∷ q ∷ []) (map placed (kid ∷ next ∷ last ∷ [])) ≡ items ++ (more ++ (rest ++ []))
three_kids x y o p q kid next last items more rest e f g =
    ap (λ (shown : List PlacedItem). shown ++ kids_at x y (p ∷ q ∷ []) (map placed (next ∷ last ∷ []))) e
    ∙ ap (λ (shown : List PlacedItem). items ++ shown) (two_kids x y p q next last more rest f g)

-- ---- one over one: each number stands at the sum of its own offset and its parent's

abbrev number : ℕ → ℕ → Laid-F Laid
number id size = layer id (codes "mn") Mn (frame 6144 10800 3600 8160 0) [] (one (pos 0) (pos 0) size ∷ []) []

abbrev fraction : Laid-F Laid
fraction = layer 2 (codes "mfrac") Mfrac (frame 8192 17200 9200 14560 5600)
    (at 0 (pos 1024) (negsuc 6399) ∷ at 1 (pos 1024) (pos 5600) ∷ []) (Rule (pos 1024) (negsuc 4415) (pos 6144) (pos 640) ∷ [])
    (roll-Laid (number 3 12288) ∷ roll-Laid (number 4 12288) ∷ [])

abbrev one_over_one : Laid-F Laid
one_over_one = layer 1 (codes "math") Math (frame 24576 17200 9200 14560 5600) (at 0 (pos 16384) (pos 0) ∷ []) [] (roll-Laid fraction ∷ [])

abbrev fraction_shown : List PlacedItem
fraction_shown =
    box 2 (codes "mfrac") (pos 16384) (pos 0) (frame 8192 17200 9200 14560 5600)
    ∷ Drawn (Rule (pos 17408) (negsuc 4415) (pos 6144) (pos 640))
    ∷ box 3 (codes "mn") (pos 17408) (negsuc 6399) (frame 6144 10800 3600 8160 0) ∷ Drawn (one (pos 17408) (negsuc 6399) 12288)
    ∷ box 4 (codes "mn") (pos 17408) (pos 5600) (frame 6144 10800 3600 8160 0) ∷ Drawn (one (pos 17408) (pos 5600) 12288) ∷ []

fraction_at : placed (roll-Laid fraction) (pos 16384) (pos 0) ≡ fraction_shown
fraction_at =
    placed_made fraction (pos 16384) (pos 0)
    ∙ ap (λ (kids : List PlacedItem). box 2 (codes "mfrac") (pos 16384) (pos 0) (frame 8192 17200 9200 14560 5600) ∷ Drawn (Rule (pos 17408) (negsuc 4415) (pos 6144) (pos 640)) ∷ kids)
    (two_kids (pos 16384) (pos 0) (at 0 (pos 1024) (negsuc 6399)) (at 1 (pos 1024) (pos 5600)) _ _ _ _ (placed_made (number 3 12288) (pos 17408) (negsuc 6399)) (placed_made (number 4 12288) (pos 17408) (pos 5600)))

one_over_one_shown : placed (roll-Laid one_over_one) (pos 0) (pos 0) ≡ box 1 (codes "math") (pos 0) (pos 0) (frame 24576 17200 9200 14560 5600) ∷ fraction_shown
one_over_one_shown =
    placed_made one_over_one (pos 0) (pos 0)
    ∙ ap (λ (kids : List PlacedItem). box 1 (codes "math") (pos 0) (pos 0) (frame 24576 17200 9200 14560 5600) ∷ kids)
    (one_kid (pos 0) (pos 0) (at 0 (pos 16384) (pos 0)) _ _ fraction_at)

-- ---- a phantom between two numbers: neither it nor the number inside it is shown

abbrev digit : ℕ → Laid-F Laid
digit id = layer id (codes "mn") Mn (frame 8192 14400 4800 10880 0) [] (one (pos 0) (pos 0) 16384 ∷ []) []

abbrev phantom : Laid-F Laid
phantom = layer 3 (codes "mphantom") Mphantom (frame 8192 14400 4800 10880 0) (at 0 (pos 0) (pos 0) ∷ []) [] (roll-Laid (digit 4) ∷ [])

abbrev with_phantom : Laid-F Laid
with_phantom = layer 1 (codes "math") Math (frame 24576 14400 4800 10880 0)
    (at 0 (pos 0) (pos 0) ∷ at 1 (pos 8192) (pos 0) ∷ at 2 (pos 16384) (pos 0) ∷ []) []
    (roll-Laid (digit 2) ∷ roll-Laid phantom ∷ roll-Laid (digit 5) ∷ [])

with_phantom_shown : placed (roll-Laid with_phantom) (pos 0) (pos 0)
    ≡ box 1 (codes "math") (pos 0) (pos 0) (frame 24576 14400 4800 10880 0)
    ∷ box 2 (codes "mn") (pos 0) (pos 0) (frame 8192 14400 4800 10880 0) ∷ Drawn (one (pos 0) (pos 0) 16384)
    ∷ box 5 (codes "mn") (pos 16384) (pos 0) (frame 8192 14400 4800 10880 0) ∷ Drawn (one (pos 16384) (pos 0) 16384) ∷ []
with_phantom_shown =
    placed_made with_phantom (pos 0) (pos 0)
    ∙ ap (λ (kids : List PlacedItem). box 1 (codes "math") (pos 0) (pos 0) (frame 24576 14400 4800 10880 0) ∷ kids)
    (three_kids (pos 0) (pos 0) (at 0 (pos 0) (pos 0)) (at 1 (pos 8192) (pos 0)) (at 2 (pos 16384) (pos 0)) _ _ _ _ _ _ (placed_made (digit 2) (pos 0) (pos 0)) (placed_made phantom (pos 8192) (pos 0)) (placed_made (digit 5) (pos 16384) (pos 0)))
