-- A line as it is put: what comes ahead of a name, the name, and what comes behind it.
use Rattle.std.proofs.Common.{◌≡◌, ◌∙◌, ap, ℕ, ℤ, List, [], ◌∷◌, ◌++◌, codes, refl, append_assoc, append-nil}
use Rattle.std.specs.Fmt.{decimal, signed_decimal}
use Rattle.doc_io.specs.Lines.{spaced, spaced_numbers}
use Rattle.op_dictionary.specs.declared.operator.Axis.{Axis}
use Rattle.font_metrics.specs.Texts.{axis_text}
use Rattle.box_writer.specs.declared.placed.PlacedBox.{PlacedBox}
use Rattle.box_writer.specs.Lines.{box_line, box_numbers, glyph_line, built_line}

-- what three texts are that are put one after another
put_together : (ahead ahead' name name' behind behind' : List ℕ) → ahead ≡ ahead' → name ≡ name' → behind ≡ behind'
    → ahead ++ (name ++ behind) ≡ ahead' ++ (name' ++ behind')
put_together ahead ahead' name name' behind behind' e f g =
    ap (λ l. l ++ (name ++ behind)) e ∙ ap (λ l. ahead' ++ (l ++ behind)) f ∙ ap (λ l. ahead' ++ (name' ++ l)) g

-- one word ahead of the name, which has a space before it
one_ahead : (first a space name rest last : List ℕ)
    → (first ++ a ++ space) ++ (name ++ (rest ++ last)) ≡ (first ++ (a ++ ((space ++ name) ++ rest))) ++ last
one_ahead first a space name rest last = simp append_assoc refl

-- three words
three_ahead : (first a b c space name last : List ℕ)
    → (first ++ (a ++ (b ++ (c ++ []))) ++ space) ++ (name ++ last)
    ≡ (first ++ (a ++ (b ++ (c ++ ((space ++ name) ++ []))))) ++ last
three_ahead first a b c space name last = simp (append_assoc, append-nil) refl

-- three words and one more
four_ahead : (first a b c d space name rest last : List ℕ)
    → (first ++ (a ++ (b ++ (c ++ []))) ++ d ++ space) ++ (name ++ (rest ++ last))
    ≡ (first ++ (a ++ (b ++ (c ++ (d ++ ((space ++ name) ++ rest)))))) ++ last
four_ahead first a b c d space name rest last = simp (append_assoc, append-nil) refl

pub box_joined : (box : PlacedBox) (ahead name behind : List ℕ)
    → ahead ≡ codes "box" ++ spaced (decimal box.id.0) ++ 32 ∷ [] → name ≡ box.name
    → behind ≡ spaced_numbers (box_numbers box) ++ 10 ∷ []
    → ahead ++ (name ++ behind) ≡ box_line box
unfolding box_line
box_joined box ahead name behind e f g =
    put_together ahead _ name _ behind _ e f g
    ∙ one_ahead (codes "box") (spaced (decimal box.id.0)) (32 ∷ []) box.name (spaced_numbers (box_numbers box)) (10 ∷ [])

pub glyph_joined : (x y size : ℤ) (ahead name name' : List ℕ)
    → ahead ≡ codes "glyph" ++ spaced_numbers (x ∷ y ∷ size ∷ []) ++ 32 ∷ [] → name ≡ name'
    → ahead ++ (name ++ 10 ∷ []) ≡ glyph_line x y size name'
unfolding glyph_line
glyph_joined x y size ahead name name' e f =
    put_together ahead _ name _ (10 ∷ []) _ e f refl
    ∙ three_ahead (codes "glyph") (spaced (signed_decimal x)) (spaced (signed_decimal y)) (spaced (signed_decimal size)) (32 ∷ []) name' (10 ∷ [])

pub built_joined : (x y size : ℤ) (axis : Axis) (count overlap : ℤ) (ahead name name' behind : List ℕ)
    → ahead ≡ codes "built" ++ spaced_numbers (x ∷ y ∷ size ∷ []) ++ spaced (axis_text axis) ++ 32 ∷ [] → name ≡ name'
    → behind ≡ spaced_numbers (count ∷ overlap ∷ []) ++ 10 ∷ []
    → ahead ++ (name ++ behind) ≡ built_line x y size axis name' count overlap
unfolding built_line
built_joined x y size axis count overlap ahead name name' behind e f g =
    put_together ahead _ name _ behind _ e f g
    ∙ four_ahead (codes "built") (spaced (signed_decimal x)) (spaced (signed_decimal y)) (spaced (signed_decimal size)) (spaced (axis_text axis))
    (32 ∷ []) name' (spaced_numbers (count ∷ overlap ∷ [])) (10 ∷ [])

-- lines of the same numbers
pub glyph_same : (x x' y y' size size' : ℤ) (name : List ℕ) → x ≡ x' → y ≡ y' → size ≡ size'
    → glyph_line x y size name ≡ glyph_line x' y' size' name
glyph_same x x' y y' size size' name e f g = cc

pub built_same : (x x' y y' size size' : ℤ) (axis : Axis) (name : List ℕ) (count count' overlap overlap' : ℤ)
    → x ≡ x' → y ≡ y' → size ≡ size' → count ≡ count' → overlap ≡ overlap'
    → built_line x y size axis name count overlap ≡ built_line x' y' size' axis name count' overlap'
built_same x x' y y' size size' axis name count count' overlap overlap' e f g h k = cc
