-- What is read from the front of cells is the value that they begin with.
use Rattle.std.proofs.Common.{◌≡◌, ℕ, pos, ◌+◌, ◌-◌, ◌*◌, List, ◌∷◌, ◌++◌, length, take, drop, refl, sym, ap, ◌∙◌, arith, of_z, w64, length-append}
use Rattle.std.proofs.lemmas.List.{drop_at, length-map, take_all, take_at}
use Rattle.op_dictionary.specs.declared.operator.Axis.{Axis}
use Rattle.op_dictionary.specs.declared.operator.Axis.TheVariants.{Block, Inline}
use Rattle.font_metrics.specs.declared.mark.Mark.{Mark}
use Rattle.font_metrics.specs.declared.mark.Mark.TheVariants.{Built, Glyph, Rule}
use Rattle.box_pool.specs.declared.cell.Cell.{Cell}
use Rattle.outcome_cells.specs.Cells.{axis_number, in_cells, mark_numbers}
use Rattle.outcome_cells.specs.Reading.{IsFirst, IsFirstList, axis_of, built_in, glyph_in, number_in, rule_in}

-- the cells behind some others
pub rest_is : (cells first rest : List Cell) (n : ℕ) → cells ≡ first ++ rest → length first ≡ n → take (length cells - n) (drop n cells) ≡ rest
rest_is cells first rest n is size =
    let all : length cells ≡ length first + length rest = ap length is ∙ length-append first rest in
    ap (λ (cs : List Cell). take (length cells - n) (drop n cs)) is ∙ ap (take (length cells - n)) (drop_at first rest n size) ∙ take_all (length cells - n) rest (omega (arith, all, size))

-- ---- marks

abbrev kind_of : Mark → ℕ
kind_of (Glyph x y size glyph) = 0
kind_of (Rule x y width height) = 1
kind_of (Built x y size axis glyph count overlap) = 2

-- the kind of a mark is the first of its numbers
kind_first : (mark : Mark) (rest : List Cell) → of_z w64 (number_in (in_cells (mark_numbers mark) ++ rest) 0) ≡ kind_of mark
kind_first (Glyph x y size glyph) rest = refl
kind_first (Rule x y width height) rest = refl
kind_first (Built x y size axis glyph count overlap) rest = refl

kind_read : (cells : List Cell) (mark : Mark) (rest : List Cell) → cells ≡ in_cells (mark_numbers mark) ++ rest → of_z w64 (number_in cells 0) ≡ kind_of mark
kind_read cells mark rest is = ap (λ (cs : List Cell). of_z w64 (number_in cs 0)) is ∙ kind_first mark rest

axis_again : (axis : Axis) → axis_of (pos (axis_number axis)) ≡ axis
axis_again Block = refl
axis_again Inline = refl

glyph_again : (cells : List Cell) (mark : Mark) (rest : List Cell) → cells ≡ in_cells (mark_numbers mark) ++ rest → kind_of mark ≡ 0 → (glyph_in cells ≡ mark) × (take (length cells - 5) (drop 5 cells) ≡ rest)
glyph_again cells (Glyph x y size glyph) rest is kind = (ap glyph_in is, rest_is cells (in_cells (mark_numbers (Glyph x y size glyph))) rest 5 is refl)
glyph_again cells (Rule x y width height) rest is kind = absurd (omega (arith, kind))
glyph_again cells (Built x y size axis glyph count overlap) rest is kind = absurd (omega (arith, kind))

rule_again : (cells : List Cell) (mark : Mark) (rest : List Cell) → cells ≡ in_cells (mark_numbers mark) ++ rest → kind_of mark ≡ 1 → (rule_in cells ≡ mark) × (take (length cells - 5) (drop 5 cells) ≡ rest)
rule_again cells (Glyph x y size glyph) rest is kind = absurd (omega (arith, kind))
rule_again cells (Rule x y width height) rest is kind = (ap rule_in is, rest_is cells (in_cells (mark_numbers (Rule x y width height))) rest 5 is refl)
rule_again cells (Built x y size axis glyph count overlap) rest is kind = absurd (omega (arith, kind))

built_again : (cells : List Cell) (mark : Mark) (rest : List Cell) → cells ≡ in_cells (mark_numbers mark) ++ rest → (kind_of mark ≡ 0 → ⊥) → (kind_of mark ≡ 1 → ⊥) → (built_in cells ≡ mark) × (take (length cells - 8) (drop 8 cells) ≡ rest)
built_again cells (Glyph x y size glyph) rest is zero one = absurd (zero refl)
built_again cells (Rule x y width height) rest is zero one = absurd (one refl)
built_again cells (Built x y size axis glyph count overlap) rest is zero one = (
  ap built_in is ∙ ap (λ (along : Axis). Built x y size along glyph count overlap) (axis_again axis),
  rest_is cells (in_cells (mark_numbers (Built x y size axis glyph count overlap))) rest 8 is refl,
)

pub glyph_first : (cells : List Cell) → of_z w64 (number_in cells 0) ≡ 0 → IsFirst mark_numbers cells (glyph_in cells) (take (length cells - 5) (drop 5 cells))
glyph_first cells kind x rest is = glyph_again cells x rest is (sym (kind_read cells x rest is) ∙ kind)

pub rule_first : (cells : List Cell) → of_z w64 (number_in cells 0) ≡ 1 → IsFirst mark_numbers cells (rule_in cells) (take (length cells - 5) (drop 5 cells))
rule_first cells kind x rest is = rule_again cells x rest is (sym (kind_read cells x rest is) ∙ kind)

pub built_first : (cells : List Cell) → (of_z w64 (number_in cells 0) ≡ 0 → ⊥) → (of_z w64 (number_in cells 0) ≡ 1 → ⊥) → IsFirst mark_numbers cells (built_in cells) (take (length cells - 8) (drop 8 cells))
built_first cells zero one x rest is =
    built_again cells x rest is (λ kind. zero (kind_read cells x rest is ∙ kind)) (λ kind. one (kind_read cells x rest is ∙ kind))

-- ---- lists

pub list_first : (cells : List Cell) (size end : ℕ) → end ≡ 1 + of_z w64 (number_in cells 0) * size → IsFirstList size cells (take (end - 1) (drop 1 cells)) (take (length cells - end) (drop end cells))
list_first cells size end ends count numbers rest length_is is =
    let counted : of_z w64 (number_in cells 0) ≡ count = ap (λ (cs : List Cell). of_z w64 (number_in cs 0)) is in
    let here : end ≡ 1 + count * size = ends ∙ ap (λ (n : ℕ). 1 + n * size) counted in
    let width : length (in_cells numbers) ≡ end - 1 = length-map numbers _ ∙ (length_is ∙ omega (arith, here)) in
    let all : length (in_cells (pos count ∷ numbers)) ≡ end = length-map (pos count ∷ numbers) _ ∙ omega (arith, length_is, here) in
    (ap (λ (cs : List Cell). take (end - 1) (drop 1 cs)) is ∙ take_at (in_cells numbers) rest (end - 1) width, rest_is cells (in_cells (pos count ∷ numbers)) rest end is all)
