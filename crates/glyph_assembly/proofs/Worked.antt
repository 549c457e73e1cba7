-- Worked figures, with glyphs of the sample font: the definitions compute them, and a wrong one is
-- refused at its line.
use Rattle.std.proofs.Common.{◌≡◌, refl, ℕ, ℤ, pos, negsuc, true, false, [], ◌∷◌, Some, None}
use Rattle.fixed_units.specs.Numbers.{rounded, halved}
use Rattle.fixed_units.specs.declared.pull.Pull.TheVariants.{Block as Upward, Inline as Sideways}
use Rattle.font_metrics.specs.Metrics.{NamedGlyph, MetricsValue, scale_of, constant_of, glyph_at, variants_of, parts_of}
use Rattle.font_metrics.specs.Tables.{no_tables}
use Rattle.font_metrics.specs.Constants.{place_of_constant}
use Rattle.font_metrics.specs.declared.constants.ConstName.TheVariants.{DisplayOperatorMinHeight}
use Rattle.font_metrics.specs.declared.growth.Part.{Part}
use Rattle.font_metrics.specs.declared.growth.Variant.{Variant as LargerGlyph}
use Rattle.op_dictionary.specs.declared.operator.Axis.TheVariants.{Block, Inline}
use Rattle.glyph_assembly.specs.declared.shapes.Shape.{Shape}
use Rattle.glyph_assembly.specs.declared.shapes.Shape.TheVariants.{Base, Variant, Built}
use Rattle.glyph_assembly.specs.declared.shapes.Shaped.{Shaped}
use Rattle.glyph_assembly.specs.Counts.{first_from, length_of, least_count, greatest_overlap}
use Rattle.glyph_assembly.specs.Glyphs.{glyph_frame, glyph_reach, length_at}
use Rattle.glyph_assembly.specs.Pieces.{widest_overlap, built_frame}
use Rattle.glyph_assembly.specs.Shaping.{assembly_of, shaped_of, display_of}
use Rattle.glyph_assembly.specs.Targets.{evened, centred, resized, bounded, target_of}

-- ---- some of the sample's glyphs, 1024 design units to the em

abbrev inked : ℤ → ℤ → ℤ → ℤ → NamedGlyph
inked advance ink_ascent ink_descent italic = record {
  name = [];
  glyph = record { advance = advance; ink_ascent = ink_ascent; ink_descent = ink_descent; italic = italic; accent = None };
}

abbrev variant : ℕ → ℤ → LargerGlyph
variant glyph measure = record { glyph = record { 0 = glyph }; measure = measure }

abbrev fixed : ℕ → ℤ → ℤ → ℤ → Part
fixed glyph start end full = record { glyph = record { 0 = glyph }; extender = false; start = start; end = end; full = full }

abbrev extender : ℕ → ℤ → ℤ → ℤ → Part
extender glyph start end full = record { glyph = record { 0 = glyph }; extender = true; start = start; end = end; full = full }

abbrev sample : MetricsValue
sample = record {
  version = 1;
  upem = 1024;
  line_ascent = 900;
  line_descent = 300;
  x_height = 512;
  overlap = Some 50;
  constants = (place_of_constant DisplayOperatorMinHeight, pos 1200) ∷ [];
  glyphs =
      inked (pos 400) (pos 768) (pos 256) (pos 0)  -- 0, a parenthesis
      ∷ inked (pos 480) (pos 1024) (pos 512) (pos 0)  -- 1, a larger one
      ∷ inked (pos 500) (pos 600) (pos 0) (pos 0)  -- 2, its foot and its top
      ∷ inked (pos 500) (pos 400) (pos 0) (pos 0)  -- 3, what stands between them
      ∷ inked (pos 300) (pos 600) (pos 100) (pos 0)  -- 4, a bracket
      ∷ inked (pos 300) (pos 300) (pos 0) (pos 0)  -- 5, its foot
      ∷ inked (pos 300) (pos 200) (pos 0) (pos 0)  -- 6, what stands on it
      ∷ inked (pos 820) (pos 800) (pos 224) (pos 0)  -- 7, a radical sign
      ∷ inked (pos 1000) (pos 768) (pos 256) (pos 0)  -- 8, a sum
      ∷ inked (pos 1400) (pos 1056) (pos 544) (pos 0)  -- 9, a larger one
      ∷ inked (pos 600) (pos 900) (pos 388) (pos 100)  -- 10, an integral
      ∷ inked (pos 900) (pos 1400) (pos 888) (pos 300)  -- 11, a larger one
      ∷ inked (pos 500) (pos 700) (negsuc 499) (pos 0)  -- 12, a hat
      ∷ inked (pos 640) (pos 720) (negsuc 499) (pos 0)  -- 13, a wider one
      ∷ [];
  characters = [];
  tables = record no_tables {
    variants = (
      (0, variant 1 (pos 1536) ∷ []) ∷ (8, variant 9 (pos 1600) ∷ []) ∷ (10, variant 11 (pos 2288) ∷ []) ∷ [],
      (12, variant 13 (pos 640) ∷ []) ∷ [],
    );
    parts = (
      (0, fixed 2 (pos 0) (pos 200) (pos 600) ∷ extender 3 (pos 200) (pos 200) (pos 400) ∷ fixed 2 (pos 200) (pos 0) (pos 600) ∷ [])
          ∷ (4, fixed 5 (pos 80) (pos 80) (pos 300) ∷ extender 6 (pos 80) (pos 80) (pos 200) ∷ [])
          ∷ [],
      [],
    );
  };
  operators = [];
}

-- its height and depth are those of its ink
abbrev shaped : Shape → ℤ → ℤ → ℤ → ℤ → ℤ → Shaped
shaped shape width ascent descent italic accent = record {
  shape = shape;
  frame = record { width = width; ascent = ascent; descent = descent; ink_ascent = ascent; ink_descent = descent; italic = italic; accent = accent };
}

abbrev taken : ℕ → Shape
taken glyph = Variant (record { 0 = glyph })

-- ---- assemblies

-- 300 + 5 * 200 - 5 * 60, between the connectors' 80 and the least overlap of 50
pub bracket-1000 : shaped_of sample 4 Block (pos 1000) (pos 1024) ≡ shaped (Built (pos 5) (pos 60)) (pos 300) (pos 1000) (pos 0) (pos 0) (pos 150)
unfolding shaped_of assembly_of least_count greatest_overlap first_from length_of widest_overlap built_frame glyph_frame glyph_reach length_at scale_of rounded halved variants_of parts_of glyph_at
bracket-1000 = refl

-- 2 * 9600 + 2 * 6400 - 3 * 2474
pub parenthesis-24578 : shaped_of sample 0 Block (pos 24578) (pos 16384) ≡ shaped (Built (pos 2) (pos 2474)) (pos 8000) (pos 24578) (pos 0) (pos 0) (pos 4000)
unfolding shaped_of assembly_of least_count greatest_overlap first_from length_of widest_overlap built_frame glyph_frame glyph_reach length_at scale_of rounded halved variants_of parts_of glyph_at
parenthesis-24578 = refl

-- ---- glyphs

pub parenthesis-24576 : shaped_of sample 0 Block (pos 24576) (pos 16384) ≡ shaped (taken 1) (pos 7680) (pos 16384) (pos 8192) (pos 0) (pos 3840)
unfolding shaped_of glyph_frame glyph_reach scale_of rounded halved variants_of glyph_at
parenthesis-24576 = refl

pub surd-12480 : shaped_of sample 7 Block (pos 12480) (pos 16384) ≡ shaped Base (pos 13120) (pos 12800) (pos 3584) (pos 0) (pos 6560)
unfolding shaped_of glyph_frame glyph_reach scale_of rounded halved variants_of glyph_at
surd-12480 = refl

pub hat-9280 : shaped_of sample 12 Inline (pos 9280) (pos 16384) ≡ shaped (taken 13) (pos 10240) (pos 11520) (negsuc 7999) (pos 0) (pos 5120)
unfolding shaped_of glyph_frame glyph_reach scale_of rounded halved variants_of glyph_at
hat-9280 = refl

-- a radical sign without larger forms stays as it is
pub surd-20000 : shaped_of sample 7 Block (pos 20000) (pos 16384) ≡ shaped Base (pos 13120) (pos 12800) (pos 3584) (pos 0) (pos 6560)
unfolding shaped_of glyph_frame glyph_reach length_at scale_of rounded halved variants_of parts_of glyph_at
surd-20000 = refl

pub display-sum : display_of sample 8 (pos 16384) ≡ shaped (taken 9) (pos 22400) (pos 16896) (pos 8704) (pos 0) (pos 11200)
unfolding display_of glyph_frame scale_of constant_of rounded halved variants_of glyph_at
display-sum = refl

pub display-integral : display_of sample 10 (pos 16384) ≡ shaped (taken 11) (pos 14400) (pos 22400) (pos 14208) (pos 4800) (pos 7200)
unfolding display_of glyph_frame scale_of constant_of rounded halved variants_of glyph_at
display-integral = refl

-- ---- targets, at an axis height of 4096

-- beside what is 16 px high: 12288 above the axis and below it
pub target-fence : target_of (Upward (pos 16384) (pos 0)) true (pos 16384) None (pos 4096) ≡ (pos 16384, pos 8192)
unfolding target_of evened bounded
target-fence = refl

pub target-fence_one_more : target_of (Upward (pos 16385) (pos 0)) true (pos 16384) None (pos 4096) ≡ (pos 16385, pos 8193)
unfolding target_of evened bounded
target-fence_one_more = refl

-- beside nothing: 8192 in all is less than 16384, so it grows about the axis
pub target-small : target_of (Upward (pos 0) (pos 0)) true (pos 16384) None (pos 4096) ≡ (pos 12288, pos 4096)
unfolding target_of evened bounded resized rounded
target-small = refl

-- an arrow beside nothing
pub target-nothing : target_of (Upward (pos 0) (pos 0)) false (pos 16383) None (pos 4096) ≡ (pos 12287, pos 4096)
unfolding target_of bounded centred halved
target-nothing = refl

-- 12288 above the axis of 24576 becomes 5000 of 10000
pub target-large : target_of (Upward (pos 16384) (pos 8192)) false (pos 0) (Some (pos 10000)) (pos 4096) ≡ (pos 9096, pos 904)
unfolding target_of bounded resized rounded
target-large = refl

pub target-wide : target_of (Sideways (pos 9280)) false (pos 8000) (Some (pos 9000)) (pos 4096) ≡ (pos 9000, pos 0)
unfolding target_of
target-wide = refl
