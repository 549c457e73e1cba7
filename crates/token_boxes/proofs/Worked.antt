-- Worked figures, with glyphs of the sample font: the definitions compute them, and a wrong one is
-- refused at its line.
use Rattle.std.proofs.Common.{◌≡◌, ◌∙◌, ap, refl, encode_utf8_all, ℕ, ℤ, pos, negsuc, Bool, true, false, List, [], ◌∷◌, codes, chars, Some, None}
use Rattle.embellished.specs.Texts.{joined, pieces_of, shown}
use Rattle.fixed_units.specs.Boxes.{joined as joined_boxes}
use Rattle.css_lengths.specs.Lengths.{length_of, trimmed, is_negative, behind_sign, number_of, digits_in_front, behind_digits, fraction_of, unit_at, unit_of, resolved, size_of}
use Rattle.fixed_units.specs.Numbers.{rounded, halved}
use Rattle.fixed_units.specs.Sums.{list_to}
use Rattle.fixed_units.specs.declared.boxes.MathBox.{MathBox}
use Rattle.fixed_units.specs.declared.pull.Pull.TheVariants.{Free, Block as Upward, Inline as Sideways}
use Rattle.font_metrics.specs.Constants.{place_of_constant}
use Rattle.font_metrics.specs.Metrics.{NamedGlyph, MetricsValue, scale_of, constant_of, glyph_at, variants_of, parts_of, place_of_letter, missing_place}
use Rattle.font_metrics.specs.Tables.{no_tables}
use Rattle.font_metrics.specs.declared.constants.ConstName.TheVariants.{AxisHeight, DisplayOperatorMinHeight}
use Rattle.font_metrics.specs.declared.glyph.GlyphId.{GlyphId}
use Rattle.font_metrics.specs.declared.growth.Part.{Part}
use Rattle.font_metrics.specs.declared.growth.Variant.{Variant as LargerGlyph}
use Rattle.font_metrics.specs.declared.mark.Mark.TheVariants.{Glyph, Built}
use Rattle.glyph_assembly.specs.Counts.{first_from, length_of as length_with, least_count, greatest_overlap}
use Rattle.glyph_assembly.specs.Glyphs.{glyph_frame, glyph_reach, length_at}
use Rattle.glyph_assembly.specs.Pieces.{widest_overlap, built_frame}
use Rattle.glyph_assembly.specs.Shaping.{assembly_of, shaped_of, display_of}
use Rattle.glyph_assembly.specs.Targets.{target_of, evened, resized, bounded}
use Rattle.math_tree.specs.declared.attributes.Attribute.{Attribute}
use Rattle.math_tree.specs.declared.kind.Kind.{Kind}
use Rattle.math_tree.specs.declared.kind.Kind.TheVariants.{Mi, Mn, Mspace, Mtext}
use Rattle.math_tree.specs.declared.node.Head.{Head}
use Rattle.op_dictionary.specs.BuiltIn.{properties_of}
use Rattle.op_dictionary.specs.declared.operator.Category.TheVariants.{F, H, I, J}
use Rattle.op_dictionary.specs.declared.operator.Axis.TheVariants.{Block}
use Rattle.unicode_normalization.proofs.Computing.{unicode_normalization}
use Rattle.unicode_normalization.specs.Forms.{nfc}
use Rattle.std.proofs.lemmas.Str.{chars-encodes}
use lib.Utf8.{encode, scalars}
use Rattle.token_boxes.specs.Lengths.{length_in, absolute_in}
use Rattle.token_boxes.specs.Letters.{italic_of, letters_of, slanted}
use Rattle.token_boxes.specs.Operator.{eighteenths, space_at, least_of, most_of, span_of, lowered, lowered_glyph, drop_of, upward, sideways, large_drop, large, lone_operator}
use Rattle.token_boxes.specs.Space.{side_of, space_of}
use Rattle.token_boxes.specs.Token.{leaf, on_line, lone_letter, width_of, inks_of, marks_of, word_frame_of, word_leaf}

-- ---- some of the sample's glyphs, 1024 design units to the em

abbrev inked : ℤ → ℤ → ℤ → ℤ → NamedGlyph
inked advance ink_ascent ink_descent italic = record {
  name = codes "other";
  glyph = record { advance = advance; ink_ascent = ink_ascent; ink_descent = ink_descent; italic = italic; accent = None };
}

abbrev variant : ℕ → ℤ → LargerGlyph
variant glyph measure = record { glyph = record { 0 = glyph }; measure = measure }

abbrev part : Bool → ℕ → ℤ → ℤ → ℤ → Part
part extender glyph start end full = record { glyph = record { 0 = glyph }; extender = extender; start = start; end = end; full = full }

abbrev sample : MetricsValue
sample = record {
  version = 1;
  upem = 1024;
  line_ascent = 900;
  line_descent = 300;
  x_height = 512;
  overlap = Some 50;
  constants = (place_of_constant DisplayOperatorMinHeight, pos 1200) ∷ (place_of_constant AxisHeight, pos 256) ∷ [];
  glyphs =
      record (inked (pos 512) (pos 600) (pos 0) (pos 0)) { name = codes "missing" }
      ∷ inked (pos 512) (pos 680) (pos 0) (pos 0)  -- 1, the digit 1
      ∷ inked (pos 580) (pos 448) (pos 8) (pos 0)  -- 2, an italic x
      ∷ inked (pos 400) (pos 768) (pos 256) (pos 0)  -- 3, a parenthesis
      ∷ inked (pos 480) (pos 1024) (pos 512) (pos 0)  -- 4, a larger one
      ∷ inked (pos 500) (pos 600) (pos 0) (pos 0)  -- 5, its foot and its top
      ∷ inked (pos 500) (pos 400) (pos 0) (pos 0)  -- 6, what stands between them
      ∷ inked (pos 300) (pos 768) (pos 256) (pos 0)  -- 7, a bar
      ∷ inked (pos 1400) (pos 1056) (pos 544) (pos 0)  -- 8, a large sum
      ∷ inked (pos 900) (pos 1400) (pos 888) (pos 300)  -- 9, a large integral
      ∷ inked (pos 500) (pos 700) (negsuc 499) (pos 0)  -- 10, a hat
      ∷ inked (pos 640) (pos 720) (negsuc 499) (pos 0)  -- 11, a wider one
      ∷ inked (pos 1000) (pos 768) (pos 256) (pos 0)  -- 12, a sum
      ∷ inked (pos 600) (pos 900) (pos 388) (pos 100)  -- 13, an integral
      ∷ [];
  characters =
      (0x28, 3) ∷ (0x31, 1) ∷ (0x5E, 10) ∷ (0x7C, 7) ∷ (0x2211, 12) ∷ (0x222B, 13) ∷ (0x1D465, 2) ∷ [];
  tables = record no_tables {
    variants = (
      (3, variant 4 (pos 1536) ∷ []) ∷ (12, variant 8 (pos 1600) ∷ []) ∷ (13, variant 9 (pos 2288) ∷ []) ∷ [],
      (10, variant 11 (pos 640) ∷ []) ∷ [],
    );
    parts = (
      (3, part false 5 (pos 0) (pos 200) (pos 600) ∷ part true 6 (pos 200) (pos 200) (pos 400) ∷ part false 5 (pos 200) (pos 0) (pos 600) ∷ []) ∷ [],
      [],
    );
  };
  operators = [];
}

-- 16 px
abbrev size : ℤ
size = pos 16384

abbrev box : ℤ → ℤ → ℤ → ℤ → ℤ → ℤ → ℤ → MathBox
box width ascent descent ink_ascent ink_descent italic accent = record {
  width = width;
  ascent = ascent;
  descent = descent;
  ink_ascent = ink_ascent;
  ink_descent = ink_descent;
  italic = italic;
  accent = accent;
}

abbrev glyph : ℕ → GlyphId
glyph place = record { 0 = place }

abbrev given : List ℕ → List ℕ → List Attribute
given name value = record { name = name; value = value } ∷ []

abbrev element : Kind → List Attribute → List ℕ → Head
element kind attributes text = record { id = record { 0 = 2 }; name = []; kind = kind; attributes = attributes; text = text }

-- ---- letters

pub italic-x : italic_of 0x78 ≡ 0x1D465
unfolding italic_of
italic-x = refl

-- the plain rule would give U+1D455, which is no character
pub italic-h : italic_of 0x68 ≡ 0x210E
unfolding italic_of
italic-h = refl

pub italic-final_sigma : italic_of 0x3C2 ≡ 0x1D70D
unfolding italic_of
italic-final_sigma = refl

-- there is no capital letter here
pub italic-gap : italic_of 0x3A2 ≡ 0x3A2
unfolding italic_of
italic-gap = refl

pub slanted-identifier : slanted (element Mi [] (codes "x")) 0x78 ≡ 0x1D465
unfolding italic_of
slanted-identifier = refl

pub slanted-normal : slanted (element Mi (given (codes "mathvariant") (codes "NORMAL")) (codes "b")) 0x62 ≡ 0x62
slanted-normal = refl

pub slanted-number : slanted (element Mn [] (codes "x")) 0x78 ≡ 0x78
slanted-number = refl

-- a text whose characters are known, and composed
spelt : (text letters composed : List ℕ) → joined text ≡ encode_utf8_all letters → scalars letters ≡ true
    → nfc letters ≡ composed → scalars composed ≡ true → chars (shown text) ≡ composed
unfolding shown
spelt text letters composed join sound form whole =
    ap (λ t. chars (encode_utf8_all (nfc (chars t)))) join
    ∙ ap (λ cs. chars (encode_utf8_all (nfc cs))) (chars-encodes letters sound)
    ∙ ap (λ cs. chars (encode_utf8_all cs)) form ∙ chars-encodes composed whole

-- white space at the ends goes, and a line feed inside is a space
pub letters-lines : letters_of (element Mtext [] (32 ∷ 49 ∷ 10 ∷ 49 ∷ [])) ≡ 49 ∷ 32 ∷ 49 ∷ []
unfolding joined pieces_of encode unicode_normalization
letters-lines = spelt (32 ∷ 49 ∷ 10 ∷ 49 ∷ []) (49 ∷ 32 ∷ 49 ∷ []) (49 ∷ 32 ∷ 49 ∷ []) refl refl refl refl

-- e and an accent are one character
pub letters-composed : letters_of (element Mi [] (0x65 ∷ 0xCC ∷ 0x81 ∷ [])) ≡ 0xE9 ∷ []
unfolding joined pieces_of encode unicode_normalization
letters-composed = spelt (0x65 ∷ 0xCC ∷ 0x81 ∷ []) (0x65 ∷ 0x301 ∷ []) (0xE9 ∷ []) refl refl refl refl

-- ---- tokens

-- an identifier of one letter: its glyph, in a line of text
pub token-x : lone_letter sample size 0x1D465 ≡ record {
  frame = box (pos 9280) (pos 14400) (pos 4800) (pos 7168) (pos 128) (pos 0) (pos 4640);
  mark = Glyph (pos 0) (pos 0) size (glyph 2);
}
unfolding lone_letter on_line glyph_frame place_of_letter missing_place glyph_at scale_of rounded halved
token-x = refl

-- b stays upright, and has no glyph
pub token-b : (lone_letter sample size 0x62).mark ≡ Glyph (pos 0) (pos 0) size (glyph 0)
unfolding lone_letter place_of_letter missing_place
token-b = refl

-- the digit, the glyph `missing` for the space, and the digit
pub token-lines : word_leaf sample size (49 ∷ 32 ∷ 49 ∷ []) ≡ leaf (box (pos 24576) (pos 14400) (pos 4800) (pos 10880) (pos 0) (pos 0) (pos 12288))
    (Glyph (pos 0) (pos 0) size (glyph 1) ∷ Glyph (pos 8192) (pos 0) size (glyph 0) ∷ Glyph (pos 16384) (pos 0) size (glyph 1) ∷ [])
unfolding word_leaf word_frame_of width_of inks_of marks_of list_to joined_boxes glyph_frame place_of_letter missing_place glyph_at scale_of rounded halved
token-lines = refl

-- nothing has no line either
pub token-empty : word_leaf sample size [] ≡ leaf (box (pos 0) (pos 0) (pos 0) (pos 0) (pos 0) (pos 0) (pos 0)) []
unfolding word_leaf inks_of
token-empty = refl

-- ---- spaces

abbrev space : List ℕ → List ℕ → Head
space name value = element Mspace (given name value) []

pub space-height : space_of sample (space (codes "height") (codes "16.001px")) size ≡ box (pos 0) (pos 16385) (pos 0) (pos 16385) (pos 0) (pos 0) (pos 0)
unfolding space_of side_of absolute_in length_of trimmed is_negative behind_sign number_of digits_in_front behind_digits fraction_of unit_at unit_of resolved size_of rounded halved
space-height = refl

pub space-negative : side_of sample (space (codes "height") (codes "-1px")) (codes "height") size ≡ pos 0
unfolding side_of absolute_in length_of trimmed is_negative behind_sign number_of digits_in_front behind_digits fraction_of unit_at unit_of resolved size_of rounded
space-negative = refl

-- a percentage has no meaning
pub space-percent : side_of sample (space (codes "width") (codes "50%")) (codes "width") size ≡ pos 0
unfolding side_of absolute_in length_of trimmed is_negative behind_sign number_of digits_in_front behind_digits fraction_of unit_at unit_of
space-percent = refl

-- ---- the sizes and spaces of operators

-- 5 of 18 parts of 16384 are 4551.1, and 4 of them 3640.9
pub eighteenths-default : eighteenths size 5 ≡ pos 4551
unfolding eighteenths rounded
eighteenths-default = refl

pub eighteenths-infix : eighteenths size 4 ≡ pos 3641
unfolding eighteenths rounded
eighteenths-infix = refl

-- half of the dictionary's space, as rounded
pub space-half : space_at sample size (given (codes "lspace") (codes "50%")) (codes "lspace") 4 ≡ pos 1821
unfolding space_at length_in eighteenths length_of trimmed is_negative behind_sign number_of digits_in_front behind_digits fraction_of unit_at unit_of resolved size_of rounded
space-half = refl

pub space-kept : space_at sample size (given (codes "lspace") (codes "wide")) (codes "lspace") 4 ≡ pos 3641
unfolding space_at length_in eighteenths length_of trimmed is_negative behind_sign number_of digits_in_front behind_digits fraction_of unit_at unit_of rounded
space-kept = refl

-- a percentage is of the glyph as it is
pub least-half : least_of sample size (given (codes "minsize") (codes "50%")) size ≡ pos 8192
unfolding least_of length_in length_of trimmed is_negative behind_sign number_of digits_in_front behind_digits fraction_of unit_at unit_of resolved size_of rounded
least-half = refl

pub least-huge : least_of sample size (given (codes "minsize") (codes "9999in")) size ≡ pos 268435456
unfolding least_of length_in length_of trimmed is_negative behind_sign number_of digits_in_front behind_digits fraction_of unit_at unit_of resolved size_of rounded
least-huge = refl

-- a glyph that reaches below nothing has a least size of 0
pub least-negative : least_of sample size [] (negsuc 4) ≡ pos 0
unfolding least_of length_in
least-negative = refl

-- a largest size is no less than the least
pub most-small : most_of sample size (given (codes "maxsize") (codes "1px")) size size ≡ Some size
unfolding most_of length_in length_of trimmed is_negative behind_sign number_of digits_in_front behind_digits fraction_of unit_at unit_of resolved size_of rounded
most-small = refl

-- ---- operators of one character

-- beside a space that is 16 px high: 12288 above the axis and below it, which the larger glyph reaches
pub operator-fence : lone_operator sample size [] (properties_of F) false (Upward (pos 16384) (pos 0)) 0x28 ≡ record {
  frame = box (pos 7680) (pos 16384) (pos 8192) (pos 16384) (pos 8192) (pos 0) (pos 3840);
  mark = Glyph (pos 0) (pos 0) size (glyph 4);
}
unfolding upward span_of least_of most_of length_in target_of evened bounded lowered_glyph lowered drop_of shaped_of glyph_frame glyph_reach place_of_letter missing_place variants_of glyph_at scale_of constant_of rounded halved properties_of
operator-fence = refl

-- 1 unit more, and it is built: 24578 high above its foot, and so 8193 lower
pub operator-built : lone_operator sample size [] (properties_of F) false (Upward (pos 16385) (pos 0)) 0x28 ≡ record {
  frame = box (pos 8000) (pos 16385) (pos 8193) (pos 16385) (pos 8193) (pos 0) (pos 4000);
  mark = Built (pos 0) (pos 8193) size Block (glyph 3) (pos 2) (pos 2474);
}
unfolding upward span_of least_of most_of length_in target_of evened bounded lowered_glyph lowered drop_of shaped_of assembly_of least_count greatest_overlap first_from length_with widest_overlap built_frame length_at glyph_frame glyph_reach place_of_letter missing_place variants_of parts_of glyph_at scale_of constant_of rounded halved properties_of
operator-built = refl

-- beside nothing it keeps its own size, with its middle on the axis
pub operator-small : lone_operator sample size [] (properties_of F) false (Upward (pos 0) (pos 0)) 0x28 ≡ record {
  frame = box (pos 6400) (pos 12288) (pos 4096) (pos 12288) (pos 4096) (pos 0) (pos 3200);
  mark = Glyph (pos 0) (pos 0) size (glyph 3);
}
unfolding upward span_of least_of most_of length_in target_of evened bounded resized lowered_glyph lowered drop_of shaped_of glyph_frame glyph_reach place_of_letter missing_place glyph_at scale_of constant_of rounded halved properties_of
operator-small = refl

-- a hat over what is 9280 wide
pub operator-hat : lone_operator sample size [] (properties_of I) false (Sideways (pos 9280)) 0x5E ≡ record {
  frame = box (pos 10240) (pos 11520) (negsuc 7999) (pos 11520) (negsuc 7999) (pos 0) (pos 5120);
  mark = Glyph (pos 0) (pos 0) size (glyph 11);
}
unfolding sideways span_of least_of most_of length_in target_of lowered_glyph lowered shaped_of glyph_frame glyph_reach place_of_letter missing_place variants_of glyph_at scale_of constant_of rounded halved properties_of
operator-hat = refl

-- a bar that nothing pulls is a token
pub operator-bar : lone_operator sample size [] (properties_of F) true Free 0x7C ≡ record {
  frame = box (pos 4800) (pos 14400) (pos 4800) (pos 12288) (pos 4096) (pos 0) (pos 2400);
  mark = Glyph (pos 0) (pos 0) size (glyph 7);
}
unfolding lone_letter on_line glyph_frame place_of_letter missing_place glyph_at scale_of rounded halved properties_of
operator-bar = refl

-- in display style a sum is large, and its middle is on the axis already
pub operator-sum : lone_operator sample size [] (properties_of J) true Free 0x2211 ≡ record {
  frame = box (pos 22400) (pos 16896) (pos 8704) (pos 16896) (pos 8704) (pos 0) (pos 11200);
  mark = Glyph (pos 0) (pos 0) size (glyph 8);
}
unfolding large large_drop lowered_glyph lowered drop_of display_of glyph_frame place_of_letter missing_place variants_of glyph_at scale_of constant_of rounded halved properties_of
operator-sum = refl

-- in text style it is a token
pub operator-sum_in_text : lone_operator sample size [] (properties_of J) false Free 0x2211 ≡ lone_letter sample size 0x2211
unfolding properties_of
operator-sum_in_text = refl

pub operator-integral : lone_operator sample size [] (properties_of H) true Free 0x222B ≡ record {
  frame = box (pos 14400) (pos 22400) (pos 14208) (pos 22400) (pos 14208) (pos 4800) (pos 7200);
  mark = Glyph (pos 0) (pos 0) size (glyph 9);
}
unfolding large large_drop lowered_glyph lowered drop_of display_of glyph_frame place_of_letter missing_place variants_of glyph_at scale_of constant_of rounded halved properties_of
operator-integral = refl

-- a large glyph whose middle lies 1600 above the axis goes down so far
pub large-lowered : drop_of (box (pos 22400) (pos 18496) (pos 7104) (pos 18496) (pos 7104) (pos 0) (pos 11200)) (pos 8192) ≡ pos 1600
unfolding drop_of halved
large-lowered = refl

-- of an odd difference the odd unit stays above
pub large-odd : drop_of (box (pos 0) (pos 0) (pos 0) (pos 5) (pos 0) (pos 0) (pos 0)) (pos 0) ≡ pos 2
unfolding drop_of halved
large-odd = refl
