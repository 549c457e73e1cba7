-- The fields of each kind of line of a metrics file, from left to right.
use Rattle.std.specs.Prelude.{ℕ, ◌%◌, ℤ, pos, negsuc, Bool, not, ◌&&◌, nat_eq, nat_le, List, [], ◌∷◌, map, length, Option, Some, None, unwrap_or, slice_get, Ok, Err}
use Rattle.std.specs.Borrow.{Bor}
use Rattle.op_dictionary.specs.declared.extra.OperatorLine.{OperatorLine}
use Rattle.font_metrics.specs.declared.fault.LineFault.TheVariants.{FieldCount, NotNamed}
use Rattle.font_metrics.specs.declared.corner.Corner.{Corner}
use Rattle.font_metrics.specs.declared.kern.Kern.{Kern}
use Rattle.font_metrics.specs.declared.kern.KernStep.{KernStep}
use Rattle.font_metrics.specs.declared.growth.Variant.{Variant}
use Rattle.font_metrics.specs.declared.growth.Part.{Part}
use Rattle.font_metrics.specs.Constants.{place_of_text, lowest_of, highest_of}
use Rattle.font_metrics.specs.Faults.{Step, ◌>>=◌, or_fault, fault_if}
use Rattle.font_metrics.specs.Metrics.{NamedGlyph, place_of_name}
use Rattle.font_metrics.specs.Slot.{Words}
use Rattle.metrics_file.specs.Words.{number_in, natural_in, letter_in, name_in, operator_text_in, extender_in, corner_in, form_in, category_in, axis_in}

-- words that are lent out of a line
abbrev pub lent : List (Bor (List ℕ)) → Words
lent words = map (λ w. w.now) words

-- the word at a place, where there are so many
abbrev pub word_at : ℕ → Words → Option (List ℕ)
word_at place words = slice_get words place

-- ---- fields

-- design units that aren't negative, and those to either side
abbrev pub length_in : List ℕ → Step ℕ
length_in word = natural_in 0 65535 word

abbrev pub reach_in : List ℕ → Step ℤ
reach_in word = number_in (negsuc 32767) (pos 65535) word

-- a field that may be absent
abbrev pub reach_if_given : Option (List ℕ) → Step (Option ℤ)
reach_if_given None = Ok None
reach_if_given (Some word) = do
  reach ← reach_in word
  Ok (Some reach)

-- the place of a glyph that a line before has named
abbrev pub named_in : List NamedGlyph → List ℕ → Step ℕ
named_in glyphs word = do
  name ← name_in word
  or_fault NotNamed (place_of_name glyphs name)

-- ---- the fields of each kind of line

-- the design units of an em
abbrev pub upem_in : Words → Step ℕ
upem_in (units ∷ []) = natural_in 16 16384 units
upem_in fields = Err FieldCount

-- the ascent and the descent of a line of text
abbrev pub line_with : List ℕ → List ℕ → Step (ℕ × ℕ)
line_with ascent descent = do
  up ← length_in ascent
  down ← length_in descent
  Ok (up, down)

abbrev pub line_in : Words → Step (ℕ × ℕ)
line_in (ascent ∷ descent ∷ []) = line_with ascent descent
line_in fields = Err FieldCount

-- the height of an x, or the least connector overlap
abbrev pub one_length_in : Words → Step ℕ
one_length_in (height ∷ []) = length_in height
one_length_in fields = Err FieldCount

-- the place of a constant and its value
abbrev pub constant_with : List ℕ → List ℕ → Step (ℕ × ℤ)
constant_with name value = do
  place ← or_fault NotNamed (place_of_text name)
  number ← number_in (lowest_of place) (highest_of place) value
  Ok (place, number)

abbrev pub constant_in : Words → Step (ℕ × ℤ)
constant_in (name ∷ value ∷ []) = constant_with name value
constant_in fields = Err FieldCount

-- a glyph: its name, its advance, how far its ink reaches above and below the baseline, and perhaps
-- its italics correction and its accent's place
abbrev pub glyph_with : List ℕ → List ℕ → List ℕ → List ℕ → Option (List ℕ) → Option (List ℕ)
    → Step NamedGlyph
glyph_with name advance ink_ascent ink_descent italic accent = do
  spelled ← name_in name
  width ← length_in advance
  up ← reach_in ink_ascent
  down ← reach_in ink_descent
  slant ← reach_if_given italic
  attachment ← reach_if_given accent
  Ok (record {
    name = spelled;
    glyph = record {
      advance = pos width;
      ink_ascent = up;
      ink_descent = down;
      italic = unwrap_or slant (pos 0);
      accent = attachment;
    };
  })

abbrev pub glyph_in : Words → Step NamedGlyph
glyph_in (name ∷ advance ∷ ink_ascent ∷ ink_descent ∷ []) =
    glyph_with name advance ink_ascent ink_descent None None
glyph_in (name ∷ advance ∷ ink_ascent ∷ ink_descent ∷ italic ∷ []) =
    glyph_with name advance ink_ascent ink_descent (Some italic) None
glyph_in (name ∷ advance ∷ ink_ascent ∷ ink_descent ∷ italic ∷ accent ∷ []) =
    glyph_with name advance ink_ascent ink_descent (Some italic) (Some accent)
glyph_in fields = Err FieldCount

-- a character's code and the place of its glyph
abbrev pub character_with : List NamedGlyph → List ℕ → List ℕ → Step (ℕ × ℕ)
character_with glyphs code name = do
  letter ← letter_in code
  place ← named_in glyphs name
  Ok (letter, place)

abbrev pub character_in : List NamedGlyph → Words → Step (ℕ × ℕ)
character_in glyphs (code ∷ name ∷ []) = character_with glyphs code name
character_in glyphs fields = Err FieldCount

-- the place of a base glyph, and one of its variants with its measure
abbrev pub variant_with : List NamedGlyph → List ℕ → List ℕ → List ℕ → Step (ℕ × Variant)
variant_with glyphs base variant measure = do
  place ← named_in glyphs base
  glyph ← named_in glyphs variant
  size ← length_in measure
  Ok (place, record { glyph = record { 0 = glyph }; measure = pos size })

abbrev pub variant_in : List NamedGlyph → Words → Step (ℕ × Variant)
variant_in glyphs (base ∷ variant ∷ measure ∷ []) = variant_with glyphs base variant measure
variant_in glyphs fields = Err FieldCount

-- a part: its glyph, its role, its connectors and its length
abbrev pub part_with : List NamedGlyph → List ℕ → List ℕ → List ℕ → List ℕ → List ℕ → Step Part
part_with glyphs name role start end full = do
  glyph ← named_in glyphs name
  extender ← extender_in role
  before ← length_in start
  after ← length_in end
  whole ← length_in full
  Ok (record {
    glyph = record { 0 = glyph };
    extender = extender;
    start = pos before;
    end = pos after;
    full = pos whole;
  })

-- the place of a base glyph, and one part of its assembly
abbrev pub based_on : {X : Type 0} → List NamedGlyph → List ℕ → Step X → Step (ℕ × X)
based_on glyphs base item = do
  place ← named_in glyphs base
  part ← item
  Ok (place, part)

abbrev pub part_in : List NamedGlyph → Words → Step (ℕ × Part)
part_in glyphs (base ∷ part ∷ role ∷ start ∷ end ∷ full ∷ []) =
    based_on glyphs base (part_with glyphs part role start end full)
part_in glyphs fields = Err FieldCount

-- heights, each with the value from there on
abbrev pub steps_in : Words → Step (List KernStep)
steps_in [] = Ok []
steps_in (height ∷ []) = Err FieldCount
steps_in (height ∷ value ∷ more) = do
  at ← reach_in height
  amount ← reach_in value
  above ← steps_in more
  Ok (record { height = at; value = amount } ∷ above)

-- up to 16 pairs of words
abbrev pub are_pairs : Words → Bool
are_pairs words = nat_eq (length words % 2) 0 && nat_le (length words) 32

-- the corner and the place of a glyph, and its kern there
abbrev pub kern_with : List NamedGlyph → List ℕ → List ℕ → List ℕ → Words
    → Step (Corner × (ℕ × Kern))
kern_with glyphs base corner lowest more = do
  place ← named_in glyphs base
  at ← corner_in corner
  value ← reach_in lowest
  steps ← steps_in more
  Ok (at, (place, record { lowest = value; steps = steps }))

abbrev pub kern_in : List NamedGlyph → Words → Step (Corner × (ℕ × Kern))
kern_in glyphs (base ∷ corner ∷ lowest ∷ more) = do
  whole ← fault_if (not (are_pairs more)) FieldCount
  kern_with glyphs base corner lowest more
kern_in glyphs fields = Err FieldCount

-- an operator's text and form, and what the dictionary is to say of them
abbrev pub operator_with : List ℕ → List ℕ → List ℕ → List ℕ → Step OperatorLine
operator_with text form category axis = do
  spelled ← operator_text_in text
  place ← form_in form
  properties ← category_in category
  direction ← axis_in axis
  Ok (record { text = spelled; form = place; category = properties; axis = direction })

abbrev pub operator_in : Words → Step OperatorLine
operator_in (text ∷ form ∷ category ∷ axis ∷ []) = operator_with text form category axis
operator_in fields = Err FieldCount
