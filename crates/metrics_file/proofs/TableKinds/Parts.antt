-- The parts of assemblies along an axis.
use Rattle.std.proofs.Common.{◌≡◌, refl, ap, subst, ℕ, ◌<◌, ◌≤◌, List, [], ◌∷◌, length, Ok, arith, true}
use Rattle.std.specs.Fmt.{signed_decimal}
use Rattle.std.specs.List.{list_all}
use Rattle.op_dictionary.specs.declared.operator.Axis.{Axis}
use Rattle.op_dictionary.specs.declared.operator.Axis.TheVariants.{Block, Inline}
use Rattle.font_metrics.specs.declared.fault.LineFault.TheVariants.{FieldCount}
use Rattle.font_metrics.specs.declared.growth.Part.{Part}
use Rattle.metrics_file.specs.declared.keyword.Keyword.TheVariants.{Parts as PartsOf}
use Rattle.font_metrics.specs.declared.table.Table.TheVariants.{Parts}
use Rattle.font_metrics.specs.Faults.{step_map}
use Rattle.font_metrics.specs.Tables.{slot}
use Rattle.font_metrics.specs.Slot.{Words}
use Rattle.metrics_file.specs.Lines.{SaysEntry, item_in, keyword_of, length_in, named_in, part_with, part_in}
use Rattle.font_metrics.specs.Metrics.{NamedGlyph, name_in_list}
use Rattle.font_metrics.specs.Texts.{extender_text}
use Rattle.metrics_file.specs.Words.{extender_in}
use Rattle.metrics_file.proofs.ReadBack.Choices.{extender_in-text}
use Rattle.metrics_file.proofs.ReadBack.Printed.{extender-word}
use Rattle.font_metrics.specs.Taken.{IsPart}
use Rattle.metrics_file.proofs.EachKind.{is_length, length_range, named_range}
use Rattle.metrics_file.proofs.TableKinds.Kind.{Stands, IsKeyword, IsKind}
use Rattle.metrics_file.proofs.ReadBack.Fields.{AreNamed, named, length_in-signed, length-itself}
use Rattle.metrics_file.proofs.ReadBack.FieldWords.{length-word, place-word}
use Rattle.metrics_file.proofs.ReadBack.Joined.{is_word}
use Rattle.font_metrics.proofs.Steps.{same_Ok, no_value, had}

part_is : (glyphs : List NamedGlyph) (a b c d e : List ℕ) (p : Part) → part_with glyphs a b c d e ≡ Ok p
    → IsPart (length glyphs) p
part_is glyphs a b c d e p h =
    let glyph = had (named_in glyphs a) _ p h in
    let role = had (extender_in b) _ p glyph.2 in
    let start = had (length_in c) _ p role.2 in
    let end = had (length_in d) _ p start.2 in
    let full = had (length_in e) _ p end.2 in
    subst (IsPart (length glyphs)) (same_Ok _ p full.2) (record {
      glyph = named_range glyphs a glyph.0 glyph.1;
      start = is_length start.0 (length_range c start.0 start.1);
      end = is_length end.0 (length_range d end.0 end.1);
      full = is_length full.0 (length_range e full.0 full.1);
    })

pub part_range : (glyphs : List NamedGlyph) (fields : Words) (p : ℕ × Part) → part_in glyphs fields ≡ Ok p
    → (p.0 < length glyphs) × IsPart (length glyphs) p.1
part_range glyphs [] p h = no_value FieldCount p h
part_range glyphs (a ∷ []) p h = no_value FieldCount p h
part_range glyphs (a ∷ b ∷ []) p h = no_value FieldCount p h
part_range glyphs (a ∷ b ∷ c ∷ []) p h = no_value FieldCount p h
part_range glyphs (a ∷ b ∷ c ∷ d ∷ []) p h = no_value FieldCount p h
part_range glyphs (a ∷ b ∷ c ∷ d ∷ e ∷ []) p h = no_value FieldCount p h
part_range glyphs (a ∷ b ∷ c ∷ d ∷ e ∷ f ∷ []) p h =
    let place = had (named_in glyphs a) _ p h in
    let part = had (part_with glyphs b c d e f) _ p place.2 in
    subst (λ q. (q.0 < length glyphs) × IsPart (length glyphs) q.1) (same_Ok (place.0, part.0) p part.2)
    (named_range glyphs a place.0 place.1, part_is glyphs b c d e f part.0 part.1)
part_range glyphs (a ∷ b ∷ c ∷ d ∷ e ∷ f ∷ x ∷ more) p h = no_value FieldCount p h

wider : (old new : ℕ) → old ≤ new → (p : Part) → IsPart old p → IsPart new p
wider old new more p is = record {
  glyph = let at = is.glyph in omega (arith, at, more);
  start = is.start;
  end = is.end;
  full = is.full;
}

part_in-printed : (glyphs : List NamedGlyph) (place : ℕ) (p : Part) → AreNamed glyphs
    → place < length glyphs → IsPart (length glyphs) p
    → part_in glyphs (name_in_list glyphs place ∷ name_in_list glyphs p.glyph.0 ∷ extender_text p.extender
    ∷ signed_decimal p.start ∷ signed_decimal p.end ∷ signed_decimal p.full ∷ [])
    ≡ Ok (place, p)
part_in-printed glyphs place p n low h =
    rw (
      named glyphs place n low,
      named glyphs p.glyph.0 n h.glyph,
      extender_in-text p.extender,
      length_in-signed p.start h.start,
      length_in-signed p.end h.end,
      length_in-signed p.full h.full,
      length-itself p.start h.start,
      length-itself p.end h.end,
      length-itself p.full h.full,
    ) refl

part-words : (glyphs : List NamedGlyph) (p : Part) → AreNamed glyphs → IsPart (length glyphs) p
    → list_all is_word (name_in_list glyphs p.glyph.0 ∷ extender_text p.extender ∷ signed_decimal p.start
    ∷ signed_decimal p.end ∷ signed_decimal p.full ∷ [])
    ≡ true
part-words glyphs p n h =
    rw (
      place-word glyphs p.glyph.0 n h.glyph,
      extender-word p.extender,
      length-word p.start h.start,
      length-word p.end h.end,
      length-word p.full h.full,
    ) refl

unfoldable keyword : (axis : Axis) → IsKeyword (Parts axis)
unfolding keyword_of
keyword Block = record { of = PartsOf Block; word = refl; names = refl; known = λ version more. refl; other = λ word words. refl }
keyword Inline = record { of = PartsOf Inline; word = refl; names = refl; known = λ version more. refl; other = λ word words. refl }

stands : (axis : Axis) → Stands (Parts axis)
stands Block = record { at-put = λ tables table. refl; put-at = λ tables. refl; entry-at-put = λ tables table place x. refl; none = refl; own = λ xs. refl }
stands Inline = record { at-put = λ tables table. refl; put-at = λ tables. refl; entry-at-put = λ tables table place x. refl; none = refl; own = λ xs. refl }

-- what is printed of an entry says it
printed : (axis : Axis) (glyphs : List NamedGlyph) (place : ℕ) (x : Part) → AreNamed glyphs → place < length glyphs
    → IsPart (length glyphs) x
    → item_in glyphs (keyword axis).of (name_in_list glyphs place ∷ (slot (Parts axis)).fields glyphs x) ≡ Ok (SaysEntry (Parts axis) (place, x))
unfolding keyword
printed Block glyphs place x n low h = ap (step_map (SaysEntry (Parts Block))) (part_in-printed glyphs place x n low h)
printed Inline glyphs place x n low h = ap (step_map (SaysEntry (Parts Inline))) (part_in-printed glyphs place x n low h)

pub parts_kind : (axis : Axis) → IsKind (Parts axis)
parts_kind axis = record {
  stands = stands axis;
  keyword = keyword axis;
  wider = wider;
  words = part-words;
  printed = printed axis;
}
