-- Reading the printed fields of a line gives what was printed.
use Rattle.std.proofs.Common.{◌≡◌, refl, ℕ, ◌<◌, ℤ, pos, negsuc, unsigned_abs, ◌≤ℤ◌, if◌then◌else◌, Bool, true, false, List, [], ◌∷◌, length, Option, Some, None, Ok, IfSome, bytes_eq, arith}
use Rattle.std.specs.Fmt.{signed_decimal}
use Rattle.std.specs.List.{IsDistinct}
use Rattle.std.proofs.lemmas.Int.{ints}
use Rattle.op_dictionary.specs.declared.extra.OperatorLine.{OperatorLine}
use Rattle.font_metrics.specs.Constants.{is_scale_down, lowest_of, highest_of}
use Rattle.metrics_file.specs.Lines.{length_in, reach_in, reach_if_given, named_in, constant_in, glyph_in, character_in, operator_in}
use Rattle.font_metrics.specs.Metrics.{NamedGlyph, name_in_list}
use Rattle.metrics_file.specs.Print.{code_text, operator_text, accent_words}
use Rattle.font_metrics.specs.Texts.{constant_text, form_text, category_text, axis_text}
use Rattle.font_metrics.specs.Taken.{IsLength, IsReach, IsGlyph, IsConstant, IsOperatorText, names_of}
use Rattle.metrics_file.specs.Words.{natural_in}
use Rattle.font_metrics.specs.Names.{is_name, is_scalar}
use Rattle.metrics_file.proofs.ReadBack.Choices.{place_of_text-constant, form_in-text, category_in-text, axis_in-text}
use Rattle.metrics_file.proofs.ReadBack.Codes.{letter_in-text, operator_text_in-text}
use Rattle.metrics_file.proofs.ReadBack.Decimal.{number_in-signed}
use Rattle.metrics_file.proofs.ReadBack.Names.{name_in-name, named_in-place}

-- glyphs whose names have their form and are distinct
pub record AreNamed (glyphs : List NamedGlyph) : Type 0 where
  pub distinct : IsDistinct bytes_eq (names_of glyphs)
  pub names : (place : ℕ) → place < length glyphs → is_name (name_in_list glyphs place) ≡ true

-- ---- numbers of design units

pub reach_in-signed : (z : ℤ) → IsReach z → reach_in (signed_decimal z) ≡ Ok z
reach_in-signed z h = number_in-signed (negsuc 32767) (pos 65535) z h.0 h.1 h.0 h.1

pub length_in-signed : (z : ℤ) → IsLength z → length_in (signed_decimal z) ≡ Ok (unsigned_abs z)
unfolding natural_in
length_in-signed z h =
    let least : negsuc 32767 ≤ℤ z = omega (arith, ints, h.0) in
    rw (number_in-signed (pos 0) (pos 65535) z least h.1 h.0 h.1) refl

pub length-itself : (z : ℤ) → IsLength z → pos (unsigned_abs z) ≡ z
length-itself (pos n) h = refl
length-itself (negsuc n) h = absurd (omega (arith, ints, h.0))

pub reach_if_given-signed : (z : ℤ) → IsReach z → reach_if_given (Some (signed_decimal z)) ≡ Ok (Some z)
reach_if_given-signed z h = rw (reach_in-signed z h) refl

pub named : (glyphs : List NamedGlyph) (place : ℕ) → AreNamed glyphs → place < length glyphs
    → named_in glyphs (name_in_list glyphs place) ≡ Ok place
named glyphs place n low = named_in-place glyphs place n.distinct (n.names place low) low

-- ---- the fields of each kind of line

pub bounds : (scale_down : Bool) (z : ℤ) → (if scale_down then pos 0 else negsuc 32767) ≤ℤ z
    → z ≤ℤ (if scale_down then pos 200 else pos 65535)
    → (negsuc 32767 ≤ℤ z) × (z ≤ℤ pos 65535)
bounds true z low high = (omega (arith, ints), omega (arith, ints))
bounds false z low high = (low, high)

pub constant_in-printed : (c : ℕ × ℤ) → IsConstant c
    → constant_in (constant_text c.0 ∷ signed_decimal c.1 ∷ []) ≡ Ok c
constant_in-printed (place, z) (small, low, high) =
    let wide = bounds (is_scale_down place) z low high in
    rw (
      place_of_text-constant place small,
      number_in-signed (lowest_of place) (highest_of place) z wide.0 wide.1 low high,
    ) refl

glyph_in-fields : (name : List ℕ) (advance ink_ascent ink_descent italic : ℤ) (accent : Option ℤ)
    → is_name name ≡ true → IsLength advance → IsReach ink_ascent → IsReach ink_descent → IsReach italic
    → IfSome accent IsReach
    → glyph_in (name ∷ signed_decimal advance ∷ signed_decimal ink_ascent ∷ signed_decimal ink_descent
    ∷ signed_decimal italic ∷ accent_words accent)
    ≡ Ok (record {
      name = name;
      glyph = record {
        advance = advance;
        ink_ascent = ink_ascent;
        ink_descent = ink_descent;
        italic = italic;
        accent = accent;
      };
    })
glyph_in-fields name advance up down italic None n a u d i h =
    rw (
      name_in-name name n,
      length_in-signed advance a,
      reach_in-signed up u,
      reach_in-signed down d,
      reach_in-signed italic i,
      length-itself advance a,
    ) refl
glyph_in-fields name advance up down italic (Some accent) n a u d i h =
    rw (
      name_in-name name n,
      length_in-signed advance a,
      reach_in-signed up u,
      reach_in-signed down d,
      reach_in-signed italic i,
      reach_in-signed accent h,
      length-itself advance a,
    ) refl

pub glyph_in-printed : (g : NamedGlyph) → IsGlyph g
    → glyph_in (g.name ∷ signed_decimal g.glyph.advance ∷ signed_decimal g.glyph.ink_ascent
    ∷ signed_decimal g.glyph.ink_descent ∷ signed_decimal g.glyph.italic ∷ accent_words g.glyph.accent)
    ≡ Ok g
glyph_in-printed g h =
    glyph_in-fields g.name g.glyph.advance g.glyph.ink_ascent g.glyph.ink_descent g.glyph.italic g.glyph.accent
    h.name h.measures.advance h.measures.ink_ascent h.measures.ink_descent h.measures.italic h.measures.accent

pub character_in-printed : (glyphs : List NamedGlyph) (c : ℕ × ℕ) → AreNamed glyphs → is_scalar c.0 ≡ true
    → c.1 < length glyphs
    → character_in glyphs (code_text c.0 ∷ name_in_list glyphs c.1 ∷ []) ≡ Ok c
character_in-printed glyphs c n scalar low =
    rw (letter_in-text c.0 scalar, named glyphs c.1 n low) refl

pub operator_in-printed : (line : OperatorLine) → IsOperatorText line.text
    → operator_in (operator_text line.text ∷ form_text line.form ∷ category_text line.category
    ∷ axis_text line.axis ∷ [])
    ≡ Ok line
operator_in-printed line h =
    rw (
      operator_text_in-text line.text h,
      form_in-text line.form,
      category_in-text line.category,
      axis_in-text line.axis,
    ) refl
