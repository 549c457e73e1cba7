-- The ranges of what a metrics file gives: of a glyph, a constant, an entry of a table, a table.
use Rattle.std.specs.Prelude.{ℕ, ◌≤◌, ◌<◌, ◌^◌, ℤ, pos, negsuc, ◌≤ℤ◌, IsTrue, List, length, map, IfSome}
use Rattle.std.specs.List.{All}
use Rattle.std.specs.List.Sorted.{IsStrictlySortedBy}
use Rattle.std.specs.Map.{keys_of}
use Rattle.std.specs.Ordering.{nat_cmp}
use Rattle.fixed_units.specs.Numbers.{IsWithin}
use Rattle.op_dictionary.specs.declared.text.OpText.{OpText}
use Rattle.op_dictionary.specs.declared.text.OpText.TheVariants.{Empty, One, Two, Other}
use Rattle.font_metrics.specs.declared.kern.Kern.{Kern}
use Rattle.font_metrics.specs.declared.kern.KernStep.{KernStep}
use Rattle.font_metrics.specs.declared.glyph.Glyph.{Glyph}
use Rattle.font_metrics.specs.declared.growth.Variant.{Variant}
use Rattle.font_metrics.specs.declared.growth.Part.{Part}
use Rattle.font_metrics.specs.Constants.{lowest_of, highest_of}
use Rattle.font_metrics.specs.Metrics.{NamedGlyph, ByGlyph}
use Rattle.font_metrics.specs.Names.{is_scalar, is_in_pair, is_name}

-- a glyph's number has 16 bits, and the last of them isn't given
abbrev pub most_glyphs : ℕ
most_glyphs = 65535

abbrev pub most_variants : ℕ
most_variants = 64

abbrev pub most_parts : ℕ
most_parts = 16

abbrev pub most_steps : ℕ
most_steps = 16

-- the versions of a file
pub record IsVersion (version : ℕ) : Type 0 where
  pub low : 1 ≤ version
  pub high : version ≤ 2

-- a number of design units that isn't negative
abbrev pub IsLength : ℤ → Type 0
IsLength z = (pos 0 ≤ℤ z) × (z ≤ℤ pos 65535)

-- a number of design units to either side
abbrev pub IsReach : ℤ → Type 0
IsReach z = (negsuc 32767 ≤ℤ z) × (z ≤ℤ pos 65535)

-- each number of a glyph lies within 2^16 design units
pub record IsInDesign (g : Glyph) : Type 0 where
  pub advance : IsWithin (2 ^ 16) g.advance
  pub ink_ascent : IsWithin (2 ^ 16) g.ink_ascent
  pub ink_descent : IsWithin (2 ^ 16) g.ink_descent
  pub italic : IsWithin (2 ^ 16) g.italic
  pub accent : IfSome g.accent (IsWithin (2 ^ 16))

-- how far a glyph reaches, and where an accent goes on it
pub record IsMeasured (g : Glyph) : Type 0 where
  pub advance : IsLength g.advance
  pub ink_ascent : IsReach g.ink_ascent
  pub ink_descent : IsReach g.ink_descent
  pub italic : IsReach g.italic
  pub accent : IfSome g.accent IsReach

pub record IsGlyph (g : NamedGlyph) : Type 0 where
  pub name : IsTrue (is_name g.name)
  pub measures : IsMeasured g.glyph

-- a constant in its range
abbrev pub IsConstant : ℕ × ℤ → Type 0
IsConstant c = (c.0 < 56) × (lowest_of c.0 ≤ℤ c.1) × (c.1 ≤ℤ highest_of c.0)

-- a character that has one of these many glyphs
abbrev pub IsCharacter : ℕ → ℕ × ℕ → Type 0
IsCharacter count c = IsTrue (is_scalar c.0) × (c.1 < count)

pub record IsVariant (count : ℕ) (v : Variant) : Type 0 where
  pub glyph : v.glyph.0 < count
  pub measure : IsLength v.measure

pub record IsPart (count : ℕ) (p : Part) : Type 0 where
  pub glyph : p.glyph.0 < count
  pub start : IsLength p.start
  pub end : IsLength p.end
  pub full : IsLength p.full

pub record IsKernStep (s : KernStep) : Type 0 where
  pub height : IsReach s.height
  pub value : IsReach s.value

pub record IsKern (k : Kern) : Type 0 where
  pub lowest : IsReach k.lowest
  pub few : length k.steps ≤ most_steps
  pub steps : All IsKernStep k.steps

-- the items of one of these many glyphs: at least one and at most so many
pub record IsEntry {X : Type 0} (count most : ℕ) (Is : X
    → Type 0) (entry : ℕ × List X) : Type 0 where
  pub glyph : entry.0 < count
  pub some : 1 ≤ length entry.1
  pub few : length entry.1 ≤ most
  pub items : All Is entry.1

-- a table in order of its glyphs
pub record IsTable {X : Type 0} (count most : ℕ) (Is : X
    → Type 0) (table : ByGlyph X) : Type 0 where
  pub ordered : IsStrictlySortedBy nat_cmp (keys_of table)
  pub entries : All (IsEntry count most Is) table

-- the text of an operator line, of one character or two
abbrev pub IsOperatorText : OpText → Type 0
IsOperatorText Empty = ⊥
IsOperatorText (One letter) = IsTrue (is_scalar letter)
IsOperatorText (Two first second) = IsTrue (is_in_pair first) × IsTrue (is_in_pair second)
IsOperatorText Other = ⊥

abbrev pub names_of : List NamedGlyph → List (List ℕ)
names_of glyphs = map (λ g. g.name) glyphs
