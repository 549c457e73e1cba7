-- No list of cells stands for two outcomes.
use Rattle.std.proofs.Common.{◌≡◌, ℕ, ℤ, pos, List, [], ◌∷◌, ◌++◌, length, refl, sym, ap, ◌∙◌, append_assoc, arith, append-nil, map}
use Rattle.std.specs.List.{flat_map}
use Rattle.fixed_units.specs.declared.boxes.MathBox.{MathBox}
use Rattle.op_dictionary.specs.declared.operator.Axis.{Axis}
use Rattle.op_dictionary.specs.declared.operator.Axis.TheVariants.{Block, Inline}
use Rattle.font_metrics.specs.declared.glyph.GlyphId.{GlyphId}
use Rattle.font_metrics.specs.declared.mark.Mark.{Mark}
use Rattle.font_metrics.specs.declared.mark.Mark.TheVariants.{Built, Glyph, Rule}
use Rattle.span_tables.specs.declared.cells.CellSpan.{CellSpan}
use Rattle.box_pool.specs.declared.cell.Cell.{Cell}
use Rattle.layout_model.specs.declared.outcome.Offset.{Offset}
use Rattle.layout_model.specs.declared.outcome.Outcome.{Outcome}
use Rattle.outcome_cells.specs.Cells.{axis_number, frame_numbers, in_cells, list_numbers, listed_numbers, mark_numbers, offset_numbers, outcome_numbers, own_number, span_numbers}
use Rattle.outcome_cells.specs.Laws.{OneOutcomeLaw}

-- numbers that begin with those of one value begin with those of no other
abbrev pub Separates : {X : Type 0} → (X → List ℤ) → Type 0
Separates {X} of = (x y : X) (r s : List ℤ) → of x ++ r ≡ of y ++ s → (x ≡ y) × (r ≡ s)

count_same : (a b : ℕ) → pos a ≡ pos b → a ≡ b
count_same a b same = cc

-- ---- each kind of part

frame_same : (a b c d e f g a' b' c' d' e' f' g' : ℤ) → a ≡ a' → b ≡ b' → c ≡ c' → d ≡ d' → e ≡ e' → f ≡ f' → g ≡ g'
    → (let x : MathBox = record { width = a; ascent = b; descent = c; ink_ascent = d; ink_descent = e; italic = f; accent = g } in x)
    ≡ (let y : MathBox = record { width = a'; ascent = b'; descent = c'; ink_ascent = d'; ink_descent = e'; italic = f'; accent = g' } in y)
frame_same a b c d e f g a' b' c' d' e' f' g' p q r s t u v = cc

frames_separate : Separates frame_numbers
frames_separate x y r s same = (frame_same _ _ _ _ _ _ _ _ _ _ _ _ _ _ (cc) (cc) (cc) (cc) (cc) (cc) (cc), cc)

numbers_separate : Separates own_number
numbers_separate x y r s same = (cc, cc)

span_same : (columns columns' rows rows' : ℕ) (ascent ascent' descent descent' : ℤ) → columns ≡ columns' → rows ≡ rows' → ascent ≡ ascent' → descent ≡ descent'
    → (let a : CellSpan = record { columns = columns; rows = rows; ascent = ascent; descent = descent } in a)
    ≡ (let b : CellSpan = record { columns = columns'; rows = rows'; ascent = ascent'; descent = descent' } in b)
span_same columns columns' rows rows' ascent ascent' descent descent' p q r s = cc

spans_separate : Separates span_numbers
spans_separate x y r s same = (span_same _ _ _ _ _ _ _ _ (count_same x.columns y.columns cc) (count_same x.rows y.rows cc) (cc) (cc), cc)

offset_same : (kid kid' : ℕ) (x x' y y' : ℤ) → kid ≡ kid' → x ≡ x' → y ≡ y'
    → (let a : Offset = record { kid = kid; x = x; y = y } in a) ≡ (let b : Offset = record { kid = kid'; x = x'; y = y' } in b)
offset_same kid kid' x x' y y' p q r = cc

offsets_separate : Separates offset_numbers
offsets_separate x y r s same = (offset_same _ _ _ _ _ _ (count_same x.kid y.kid cc) (cc) (cc), cc)

axis_same : (x y : Axis) → axis_number x ≡ axis_number y → x ≡ y
axis_same Block Block same = refl
axis_same Block Inline same = absurd (omega (arith, same))
axis_same Inline Block same = absurd (omega (arith, same))
axis_same Inline Inline same = refl

glyph_same : (g h : GlyphId) → pos g.0 ≡ pos h.0 → g ≡ h
glyph_same g h same = ap (λ (n : ℕ). let id : GlyphId = record { 0 = n } in id) (count_same g.0 h.0 same)

drawn_same : (x x' y y' size size' : ℤ) (glyph glyph' : GlyphId) → x ≡ x' → y ≡ y' → size ≡ size' → glyph ≡ glyph' → Glyph x y size glyph ≡ Glyph x' y' size' glyph'
drawn_same x x' y y' size size' glyph glyph' a b c g = cc

built_same : (x x' y y' size size' : ℤ) (axis axis' : Axis) (glyph glyph' : GlyphId) (count count' overlap overlap' : ℤ)
    → x ≡ x' → y ≡ y' → size ≡ size' → axis ≡ axis' → glyph ≡ glyph' → count ≡ count' → overlap ≡ overlap'
    → Built x y size axis glyph count overlap ≡ Built x' y' size' axis' glyph' count' overlap'
built_same x x' y y' size size' axis axis' glyph glyph' count count' overlap overlap' a b c d g n o = cc

marks_separate : Separates mark_numbers
marks_separate (Glyph x y size glyph) (Glyph x' y' size' glyph') r s same =
    (drawn_same x x' y y' size size' glyph glyph' (cc) (cc) (cc) (glyph_same glyph glyph' cc), cc)
marks_separate (Glyph x y size glyph) (Rule x' y' width' height') r s same = cc
marks_separate (Glyph x y size glyph) (Built x' y' size' axis' glyph' count' overlap') r s same = cc
marks_separate (Rule x y width height) (Glyph x' y' size' glyph') r s same = cc
marks_separate (Rule x y width height) (Rule x' y' width' height') r s same = (cc, cc)
marks_separate (Rule x y width height) (Built x' y' size' axis' glyph' count' overlap') r s same = cc
marks_separate (Built x y size axis glyph count overlap) (Glyph x' y' size' glyph') r s same = cc
marks_separate (Built x y size axis glyph count overlap) (Rule x' y' width' height') r s same = cc
marks_separate (Built x y size axis glyph count overlap) (Built x' y' size' axis' glyph' count' overlap') r s same =
    let a : axis ≡ axis' = axis_same axis axis' (count_same (axis_number axis) (axis_number axis') cc) in
    (built_same x x' y y' size size' axis axis' glyph glyph' count count' overlap overlap' (cc) (cc) (cc) a (glyph_same glyph glyph' cc) (cc) (cc), cc)

-- ---- lists

-- lists of as many items
items_separate : {X : Type 0} (of : X → List ℤ) → Separates of → (xs ys : List X) (r s : List ℤ) → length xs ≡ length ys
    → flat_map of xs ++ r ≡ flat_map of ys ++ s → (xs ≡ ys) × (r ≡ s)
items_separate of apart [] [] r s size same = (refl, same)
items_separate of apart [] (y ∷ ys) r s size same = absurd (omega (arith, size))
items_separate of apart (x ∷ xs) [] r s size same = absurd (omega (arith, size))
items_separate of apart (x ∷ xs) (y ∷ ys) r s size same =
    let head = apart x y (flat_map of xs ++ r) (flat_map of ys ++ s) (sym (append_assoc (of x) (flat_map of xs) r) ∙ (same ∙ append_assoc (of y) (flat_map of ys) s)) in
    let rest = items_separate of apart xs ys r s (omega (arith, size)) head.1 in
    (cc (head.0, rest.0), rest.1)

lists_separate : {X : Type 0} (of : X → List ℤ) → Separates of → Separates (list_numbers of)
lists_separate of apart xs ys r s same =
    let size : length xs ≡ length ys = count_same (length xs) (length ys) cc in
    let rest : flat_map of xs ++ r ≡ flat_map of ys ++ s = cc in
    items_separate of apart xs ys r s size rest

-- ---- outcomes

outcome_same : (frame frame' : MathBox) (before before' after after' : ℤ) (cells cells' : List ℤ) (spans spans' : List CellSpan) (offsets offsets' : List Offset) (marks marks' : List Mark)
    → frame ≡ frame' → before ≡ before' → after ≡ after' → cells ≡ cells' → spans ≡ spans' → offsets ≡ offsets' → marks ≡ marks'
    → (let a : Outcome = record { answer = record { frame = frame; before = before; after = after; cells = cells; spans = spans }; offsets = offsets; marks = marks } in a)
    ≡ (let b : Outcome = record { answer = record { frame = frame'; before = before'; after = after'; cells = cells'; spans = spans' }; offsets = offsets'; marks = marks' } in b)
outcome_same frame frame' before before' after after' cells cells' spans spans' offsets offsets' marks marks' p q r s t u v = cc

outcomes_separate : (a b : Outcome) → outcome_numbers a ≡ outcome_numbers b → a ≡ b
outcomes_separate a b same =
    let frame = frames_separate a.answer.frame b.answer.frame (a.answer.before ∷ a.answer.after ∷ listed_numbers a) (b.answer.before ∷ b.answer.after ∷ listed_numbers b) same in
    let follows = frame.1 in
    let before : a.answer.before ≡ b.answer.before = cc (follows) in
    let after : a.answer.after ≡ b.answer.after = cc (follows) in
    let lists : listed_numbers a ≡ listed_numbers b = cc (follows) in
    let cells = lists_separate own_number numbers_separate a.answer.cells b.answer.cells _ _ lists in
    let spans = lists_separate span_numbers spans_separate a.answer.spans b.answer.spans _ _ cells.1 in
    let offsets = lists_separate offset_numbers offsets_separate a.offsets b.offsets _ _ spans.1 in
    let marks = lists_separate mark_numbers marks_separate a.marks b.marks [] [] (append-nil _ ∙ (offsets.1 ∙ sym (append-nil _))) in
    outcome_same _ _ _ _ _ _ _ _ _ _ _ _ _ _ frame.0 before after cells.0 spans.0 offsets.0 marks.0

-- the numbers in cells
numbers_of : (numbers : List ℤ) → map (λ (c : Cell). c.0) (in_cells numbers) ≡ numbers
numbers_of [] = refl
numbers_of (n ∷ numbers) = ap (λ (ns : List ℤ). n ∷ ns) (numbers_of numbers)

pub one_outcome : OneOutcomeLaw
one_outcome a b same =
    outcomes_separate a b (sym (numbers_of (outcome_numbers a)) ∙ (ap (map (λ (c : Cell). c.0)) same ∙ numbers_of (outcome_numbers b)))
