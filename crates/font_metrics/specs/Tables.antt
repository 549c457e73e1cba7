-- The tables by glyph of a metrics file, each in its slot: what holds of one is said of each.
use Rattle.std.specs.Prelude.{◌≡◌, ℕ, not, List, [], ◌∷◌, flat_map, codes, Ok}
use Rattle.std.specs.Fmt.{signed_decimal}
use Rattle.op_dictionary.specs.declared.operator.Axis.{Axis}
use Rattle.op_dictionary.specs.declared.operator.Axis.TheVariants.{Block, Inline}
use Rattle.font_metrics.specs.declared.corner.Corner.{Corner}
use Rattle.font_metrics.specs.declared.corner.Corner.TheVariants.{TopRight, TopLeft, BottomRight, BottomLeft}
use Rattle.font_metrics.specs.declared.kern.Kern.{Kern}
use Rattle.font_metrics.specs.declared.kern.KernStep.{KernStep}
use Rattle.font_metrics.specs.declared.kern_tables.KernTables.{KernTables}
use Rattle.font_metrics.specs.declared.fault.LineFault.TheVariants.{Repeated, TooMany, NotRising}
use Rattle.font_metrics.specs.declared.growth.Variant.{Variant}
use Rattle.font_metrics.specs.declared.growth.Part.{Part}
use Rattle.font_metrics.specs.declared.table.Table.{Table}
use Rattle.font_metrics.specs.declared.table.Table.TheVariants.{Variants, Parts, Kerns}
use Rattle.font_metrics.specs.declared.table.Tables.{Tables}
use Rattle.font_metrics.specs.Faults.{fault_if}
use Rattle.font_metrics.specs.Slot.{Words, Slot}
use Rattle.font_metrics.specs.Heights.{do_rise, heights_of}
use Rattle.font_metrics.specs.Metrics.{ByGlyph, along, with_along, kerns_at, with_kerns_at, with_item, name_in_list}
use Rattle.font_metrics.specs.Ranges.{IsTable, IsVariant, IsPart, IsKern, most_variants, most_parts}
use Rattle.font_metrics.specs.Texts.{corner_text, extender_text, variant_keyword, part_keyword}

-- the variants along an axis
abbrev pub variants_slot : Axis → Slot
variants_slot axis = record {
  Entry = Variant;
  since = 1;
  most = most_variants;
  full = TooMany;
  Is = IsVariant;
  check = λ v. Ok tt;
  keyword = variant_keyword axis;
  fields = λ glyphs v. name_in_list glyphs v.glyph.0 ∷ signed_decimal v.measure ∷ [];
  at = λ tables. along axis tables.variants;
  put = λ tables table. record tables { variants = with_along axis tables.variants table };
}

-- the parts of the assemblies along an axis
abbrev pub parts_slot : Axis → Slot
parts_slot axis = record {
  Entry = Part;
  since = 1;
  most = most_parts;
  full = TooMany;
  Is = IsPart;
  check = λ p. Ok tt;
  keyword = part_keyword axis;
  fields = λ glyphs p. name_in_list glyphs p.glyph.0 ∷ extender_text p.extender
      ∷ signed_decimal p.start ∷ signed_decimal p.end ∷ signed_decimal p.full ∷ [];
  at = λ tables. along axis tables.parts;
  put = λ tables table. record tables { parts = with_along axis tables.parts table };
}

-- the words of a height and of the value from there on
abbrev pub step_words : KernStep → Words
step_words step = signed_decimal step.height ∷ signed_decimal step.value ∷ []

-- the kerns at a corner, of which a glyph has one; its heights rise
abbrev pub kerns_slot : Corner → Slot
kerns_slot corner = record {
  Entry = Kern;
  since = 2;
  most = 1;
  full = Repeated;
  Is = λ count k. IsKern k;
  check = λ k. fault_if (not (do_rise (heights_of k))) NotRising;
  keyword = codes "kern";
  fields = λ glyphs k. corner_text corner ∷ signed_decimal k.lowest ∷ flat_map step_words k.steps;
  at = λ tables. kerns_at corner tables.kerns;
  put = λ tables table. record tables { kerns = with_kerns_at corner tables.kerns table };
}

abbrev pub slot : Table → Slot
slot (Variants axis) = variants_slot axis
slot (Parts axis) = parts_slot axis
slot (Kerns corner) = kerns_slot corner

-- all tables, in the order in which a glyph's lines are printed
abbrev pub all_tables : List Table
all_tables =
    Variants Block ∷ Variants Inline ∷ Parts Block ∷ Parts Inline
    ∷ Kerns TopRight ∷ Kerns TopLeft ∷ Kerns BottomRight ∷ Kerns BottomLeft ∷ []

abbrev pub EntryOf : Table → Type 0
EntryOf t = (slot t).Entry

-- the entries of a table by glyph
abbrev pub entries : (t : Table) → Tables → ByGlyph (EntryOf t)
entries t tables = (slot t).at tables

-- the tables with one more entry of a glyph, behind those that it has
abbrev pub with_entry : (t : Table) → Tables → ℕ → EntryOf t → Tables
with_entry t tables place x = (slot t).put tables (with_item (entries t tables) place x)

abbrev pub no_kerns : KernTables
no_kerns = record { top_right = []; top_left = []; bottom_right = []; bottom_left = [] }

-- before any line
abbrev pub no_tables : Tables
no_tables = record {
  variants = ([], []);
  parts = ([], []);
  kerns = no_kerns;
}

-- an entry in its ranges in which nothing else is wrong
abbrev pub IsSound : (t : Table) → ℕ → EntryOf t → Type 0
IsSound t count x = (slot t).Is count x × ((slot t).check x ≡ Ok tt)

-- tables of so many glyphs
abbrev pub AreFilled : ℕ → Tables → Type 0
AreFilled count tables = (t : Table)
    → IsTable count (slot t).most (IsSound t count) (entries t tables)
