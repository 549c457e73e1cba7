-- The variants along an axis.
use Rattle.std.proofs.Common.{◌≡◌, refl, ap, subst, ℕ, ◌<◌, ◌≤◌, List, [], ◌∷◌, length, Ok, arith, true}
use Rattle.std.specs.Fmt.{signed_decimal}
use Rattle.std.specs.List.{list_all}
use Rattle.op_dictionary.specs.declared.operator.Axis.{Axis}
use Rattle.op_dictionary.specs.declared.operator.Axis.TheVariants.{Block, Inline}
use Rattle.font_metrics.specs.declared.fault.LineFault.TheVariants.{FieldCount}
use Rattle.font_metrics.specs.declared.growth.Variant.{Variant}
use Rattle.metrics_file.specs.declared.keyword.Keyword.TheVariants.{Variants as VariantsOf}
use Rattle.font_metrics.specs.declared.table.Table.TheVariants.{Variants}
use Rattle.font_metrics.specs.Faults.{step_map}
use Rattle.font_metrics.specs.Tables.{slot}
use Rattle.font_metrics.specs.Slot.{Words}
use Rattle.metrics_file.specs.Lines.{SaysEntry, item_in, keyword_of, length_in, named_in, variant_in}
use Rattle.font_metrics.specs.Metrics.{NamedGlyph, name_in_list}
use Rattle.font_metrics.specs.Taken.{IsVariant}
use Rattle.metrics_file.proofs.EachKind.{is_length, length_range, named_range}
use Rattle.metrics_file.proofs.TableKinds.Kind.{Stands, IsKeyword, IsKind}
use Rattle.metrics_file.proofs.ReadBack.Fields.{AreNamed, named, length_in-signed, length-itself}
use Rattle.metrics_file.proofs.ReadBack.FieldWords.{length-word, place-word}
use Rattle.metrics_file.proofs.ReadBack.Joined.{is_word}
use Rattle.font_metrics.proofs.Steps.{same_Ok, no_value, had}

pub variant_range : (glyphs : List NamedGlyph) (fields : Words) (v : ℕ × Variant) → variant_in glyphs fields ≡ Ok v
    → (v.0 < length glyphs) × IsVariant (length glyphs) v.1
variant_range glyphs [] v h = no_value FieldCount v h
variant_range glyphs (a ∷ []) v h = no_value FieldCount v h
variant_range glyphs (a ∷ b ∷ []) v h = no_value FieldCount v h
variant_range glyphs (a ∷ b ∷ c ∷ []) v h =
    let place = had (named_in glyphs a) _ v h in
    let glyph = had (named_in glyphs b) _ v place.2 in
    let size = had (length_in c) _ v glyph.2 in
    subst (λ w. (w.0 < length glyphs) × IsVariant (length glyphs) w.1) (same_Ok _ v size.2) (
      named_range glyphs a place.0 place.1,
      record {
        glyph = named_range glyphs b glyph.0 glyph.1;
        measure = is_length size.0 (length_range c size.0 size.1);
      },
    )
variant_range glyphs (a ∷ b ∷ c ∷ d ∷ more) v h = no_value FieldCount v h

wider : (old new : ℕ) → old ≤ new → (v : Variant) → IsVariant old v → IsVariant new v
wider old new more v is = record { glyph = let at = is.glyph in omega (arith, at, more); measure = is.measure }

variant_in-printed : (glyphs : List NamedGlyph) (place : ℕ) (v : Variant) → AreNamed glyphs
    → place < length glyphs → IsVariant (length glyphs) v
    → variant_in glyphs (name_in_list glyphs place ∷ name_in_list glyphs v.glyph.0 ∷ signed_decimal v.measure ∷ [])
    ≡ Ok (place, v)
variant_in-printed glyphs place v n low h =
    rw (
      named glyphs place n low,
      named glyphs v.glyph.0 n h.glyph,
      length_in-signed v.measure h.measure,
      length-itself v.measure h.measure,
    ) refl

variant-words : (glyphs : List NamedGlyph) (v : Variant) → AreNamed glyphs → IsVariant (length glyphs) v
    → list_all is_word (name_in_list glyphs v.glyph.0 ∷ signed_decimal v.measure ∷ []) ≡ true
variant-words glyphs v n h = rw (place-word glyphs v.glyph.0 n h.glyph, length-word v.measure h.measure) refl

unfoldable keyword : (axis : Axis) → IsKeyword (Variants axis)
unfolding keyword_of
keyword Block = record { of = VariantsOf Block; word = refl; names = refl; known = λ version more. refl; other = λ word words. refl }
keyword Inline = record { of = VariantsOf Inline; word = refl; names = refl; known = λ version more. refl; other = λ word words. refl }

stands : (axis : Axis) → Stands (Variants axis)
stands Block = record { at-put = λ tables table. refl; put-at = λ tables. refl; entry-at-put = λ tables table place x. refl; none = refl; own = λ xs. refl }
stands Inline = record { at-put = λ tables table. refl; put-at = λ tables. refl; entry-at-put = λ tables table place x. refl; none = refl; own = λ xs. refl }

-- what is printed of an entry says it
printed : (axis : Axis) (glyphs : List NamedGlyph) (place : ℕ) (x : Variant) → AreNamed glyphs → place < length glyphs
    → IsVariant (length glyphs) x
    → item_in glyphs (keyword axis).of (name_in_list glyphs place ∷ (slot (Variants axis)).fields glyphs x) ≡ Ok (SaysEntry (Variants axis) (place, x))
unfolding keyword
printed Block glyphs place x n low h = ap (step_map (SaysEntry (Variants Block))) (variant_in-printed glyphs place x n low h)
printed Inline glyphs place x n low h = ap (step_map (SaysEntry (Variants Inline))) (variant_in-printed glyphs place x n low h)

pub variants_kind : (axis : Axis) → IsKind (Variants axis)
variants_kind axis = record {
  stands = stands axis;
  keyword = keyword axis;
  wider = wider;
  words = variant-words;
  printed = printed axis;
}
