-- What lines give lies in its ranges.
use Rattle.std.proofs.Common.{◌≡◌, refl, sym, subst, ℕ, ◌+◌, ◌<◌, ◌≤◌, nat_le, Bool, true, false, if◌then◌else◌, List, [], ◌∷◌, ◌++◌, length, codes, is_some, Some, None, IfSome, Ok, arith}
use Rattle.std.proofs.lemmas.Bool.Decides.{nat_tests}
use Rattle.std.proofs.lemmas.Option.{none-some, same_Some}
use Rattle.std.specs.Str.{bytes_eq}
use Rattle.std.proofs.lemmas.List.{length_push}
use Rattle.std.proofs.lemmas.List.Elements.{All-nil, All-weaker}
use Rattle.std.specs.List.{IsDistinct}
use Rattle.std.specs.List.Sorted.{IsStrictlySortedBy}
use Rattle.font_metrics.specs.declared.fault.LineFault.TheVariants.{ForeignByte, WrongFirstLine, UnknownWord, Repeated, TooMany}
use Rattle.metrics_file.specs.declared.keyword.Keyword.{Keyword}
use Rattle.metrics_file.specs.declared.keyword.Keyword.TheVariants.{Upem, Line, XHeight, Overlap, Constant, Glyph, Char, Variants as VariantsOf, Parts as PartsOf, Kern as KernOf, Operator, Unknown}
use Rattle.font_metrics.specs.Faults.{fault_if}
use Rattle.font_metrics.specs.Slot.{Words}
use Rattle.metrics_file.specs.Lines.{Item, SaysUpem, SaysLine, SaysXHeight, SaysOverlap, SaysConstant, SaysGlyph, SaysCharacter, SaysEntry, SaysOperator, says_kern, keyword_of, known_in, upem_in, line_in, one_length_in, constant_in, glyph_in, character_in, variant_in, part_in, kern_in, operator_in, item_in}
use Rattle.font_metrics.specs.Metrics.{NamedGlyph, with_item, is_full, place_of_name}
use Rattle.metrics_file.specs.Reading.{nothing, is_foreign, is_comment, first_in, version_in, words_of, allowed, put, after_fields, after_words, after, after_first}
use Rattle.font_metrics.specs.declared.table.Table.TheVariants.{Variants, Parts}
use Rattle.font_metrics.specs.declared.table.Table.{Table}
use Rattle.font_metrics.specs.Tables.{slot, entries, AreFilled, IsSound}
use Rattle.font_metrics.specs.Taken.{IsVersion, IsGlyph, IsConstant, IsCharacter, IsTable, IsOperatorText}
use Rattle.font_metrics.specs.Whole.{Given, IsUpem, IsLine, IsGiven, AreConstants, AreGlyphs, AreCharacters, AreOperators}
use Rattle.metrics_file.proofs.TableKinds.Each.{kind}
use Rattle.metrics_file.proofs.TableKinds.Variants.{variant_range}
use Rattle.metrics_file.proofs.TableKinds.Parts.{part_range}
use Rattle.metrics_file.proofs.TableKinds.Kerns.{kern_range}
use Rattle.metrics_file.proofs.Slots.{put-filled, put-known}
use Rattle.font_metrics.proofs.Steps.{same_Ok, no_value, had, found, free, mapped}
use Rattle.metrics_file.proofs.EachKind.{upem_range, line_range, one_length_range, constant_range, glyph_range, character_range, operator_range}
use Rattle.metrics_file.proofs.Ordered.{ordered-insert, all-insert, table-item, table-wider, glyphs-push, operators-push}

-- ---- what a line says

-- an item in its ranges, where there are so many glyphs
abbrev pub IsItem : ℕ → Item → Type 0
IsItem count (SaysUpem n) = IsUpem n
IsItem count (SaysLine n) = IsLine n
IsItem count (SaysXHeight n) = n ≤ 65535
IsItem count (SaysOverlap n) = n ≤ 65535
IsItem count (SaysConstant c) = IsConstant c
IsItem count (SaysGlyph g) = IsGlyph g
IsItem count (SaysCharacter c) = IsCharacter count c
IsItem count (SaysEntry t x) = (x.0 < count) × (slot t).Is count x.1
IsItem count (SaysOperator line) = IsOperatorText line.text

pub item_range : (glyphs : List NamedGlyph) (k : Keyword) (fields : Words) (item : Item)
    → item_in glyphs k fields ≡ Ok item → IsItem (length glyphs) item
item_range glyphs Upem fields item h =
    let n = mapped SaysUpem (upem_in fields) item h in
    subst (IsItem (length glyphs)) n.2 (upem_range fields n.0 n.1)
item_range glyphs Line fields item h =
    let n = mapped SaysLine (line_in fields) item h in
    subst (IsItem (length glyphs)) n.2 (line_range fields n.0 n.1)
item_range glyphs XHeight fields item h =
    let n = mapped SaysXHeight (one_length_in fields) item h in
    subst (IsItem (length glyphs)) n.2 (one_length_range fields n.0 n.1)
item_range glyphs Overlap fields item h =
    let n = mapped SaysOverlap (one_length_in fields) item h in
    subst (IsItem (length glyphs)) n.2 (one_length_range fields n.0 n.1)
item_range glyphs Constant fields item h =
    let c = mapped SaysConstant (constant_in fields) item h in
    subst (IsItem (length glyphs)) c.2 (constant_range fields c.0 c.1)
item_range glyphs Glyph fields item h =
    let g = mapped SaysGlyph (glyph_in fields) item h in
    subst (IsItem (length glyphs)) g.2 (glyph_range fields g.0 g.1)
item_range glyphs Char fields item h =
    let c = mapped SaysCharacter (character_in glyphs fields) item h in
    subst (IsItem (length glyphs)) c.2 (character_range glyphs fields c.0 c.1)
item_range glyphs (VariantsOf axis) fields item h =
    let x = mapped (SaysEntry (Variants axis)) (variant_in glyphs fields) item h in
    subst (IsItem (length glyphs)) x.2 (variant_range glyphs fields x.0 x.1)
item_range glyphs (PartsOf axis) fields item h =
    let x = mapped (SaysEntry (Parts axis)) (part_in glyphs fields) item h in
    subst (IsItem (length glyphs)) x.2 (part_range glyphs fields x.0 x.1)
item_range glyphs KernOf fields item h =
    let x = mapped says_kern (kern_in glyphs fields) item h in
    subst (IsItem (length glyphs)) x.2 (kern_range glyphs fields x.0 x.1)
item_range glyphs Operator fields item h =
    let l = mapped SaysOperator (operator_in fields) item h in
    subst (IsItem (length glyphs)) l.2 (operator_range fields l.0 l.1)
item_range glyphs Unknown fields item h = no_value UnknownWord item h

-- an item that a file of a version may say
abbrev pub IsKnown : ℕ → Item → Type 0
IsKnown version (SaysEntry t x) = (slot t).since ≤ version
IsKnown version item = Unit {0}

item_known : (version : ℕ) (glyphs : List NamedGlyph) (k : Keyword) (fields : Words) (item : Item) → 1 ≤ version
    → item_in glyphs (known_in version k) fields ≡ Ok item → IsKnown version item
item_known version glyphs Upem fields item low h =
    let n = mapped SaysUpem (upem_in fields) item h in subst (IsKnown version) n.2 tt
item_known version glyphs Line fields item low h =
    let n = mapped SaysLine (line_in fields) item h in subst (IsKnown version) n.2 tt
item_known version glyphs XHeight fields item low h =
    let n = mapped SaysXHeight (one_length_in fields) item h in subst (IsKnown version) n.2 tt
item_known version glyphs Overlap fields item low h =
    let n = mapped SaysOverlap (one_length_in fields) item h in subst (IsKnown version) n.2 tt
item_known version glyphs Constant fields item low h =
    let c = mapped SaysConstant (constant_in fields) item h in subst (IsKnown version) c.2 tt
item_known version glyphs Glyph fields item low h =
    let g = mapped SaysGlyph (glyph_in fields) item h in subst (IsKnown version) g.2 tt
item_known version glyphs Char fields item low h =
    let c = mapped SaysCharacter (character_in glyphs fields) item h in subst (IsKnown version) c.2 tt
item_known version glyphs (VariantsOf axis) fields item low h =
    let x = mapped (SaysEntry (Variants axis)) (variant_in glyphs fields) item h in subst (IsKnown version) x.2 low
item_known version glyphs (PartsOf axis) fields item low h =
    let x = mapped (SaysEntry (Parts axis)) (part_in glyphs fields) item h in subst (IsKnown version) x.2 low
item_known version glyphs KernOf fields item low h = by (nat_le 2 version) refl h
  where
    by : (b : Bool) → nat_le 2 version ≡ b → item_in glyphs (if b then KernOf else Unknown) fields ≡ Ok item
        → IsKnown version item
    by true e k =
        let more : 2 ≤ version = grind (arith, nat_tests) in
        let x = mapped says_kern (kern_in glyphs fields) item k in subst (IsKnown version) x.2 more
    by false e k = no_value UnknownWord item k
item_known version glyphs Operator fields item low h =
    let l = mapped SaysOperator (operator_in fields) item h in subst (IsKnown version) l.2 tt
item_known version glyphs Unknown fields item low h = no_value UnknownWord item h

-- ---- what an item keeps

upem_put : (g : Given) (item : Item) → IsGiven g → IsItem (length g.glyphs) item → IfSome (put g item).upem IsUpem
upem_put g (SaysUpem n) h k = k
upem_put g item h k = h.upem

line_put : (g : Given) (item : Item) → IsGiven g → IsItem (length g.glyphs) item → IfSome (put g item).line IsLine
line_put g (SaysLine n) h k = k
line_put g item h k = h.line

x_height_put : (g : Given) (item : Item) → IsGiven g → IsItem (length g.glyphs) item
    → IfSome (put g item).x_height (λ n. n ≤ 65535)
x_height_put g (SaysXHeight n) h k = k
x_height_put g item h k = h.x_height

overlap_put : (g : Given) (item : Item) → IsGiven g → IsItem (length g.glyphs) item
    → IfSome (put g item).overlap (λ n. n ≤ 65535)
overlap_put g (SaysOverlap n) h k = k
overlap_put g item h k = h.overlap

constants_put : (g : Given) (item : Item) → IsGiven g → IsItem (length g.glyphs) item
    → AreConstants (put g item).constants
constants_put g (SaysConstant c) h k = record {
  ranges = all-insert IsConstant c.0 c.1 g.constants h.constants.ranges k;
  ordered = ordered-insert c.0 c.1 g.constants h.constants.ordered;
}
constants_put g item h k = h.constants

glyphs_put : (g : Given) (item : Item) (u : Unit {0}) → IsGiven g → IsItem (length g.glyphs) item
    → allowed g item ≡ Ok u → AreGlyphs (put g item).glyphs
glyphs_put g (SaysGlyph n) u h k e =
    let new = had (fault_if (is_some (place_of_name g.glyphs n.name)) Repeated) _ u e in
    glyphs-push g.glyphs n h.glyphs k (free _ Repeated new.0 new.1) (free _ TooMany u new.2)
glyphs_put g item u h k e = h.glyphs

grows : (g : Given) (n : NamedGlyph) → length g.glyphs ≤ length (g.glyphs ++ n ∷ [])
grows g n = let size : length (g.glyphs ++ n ∷ []) ≡ length g.glyphs + 1 = length_push g.glyphs n in omega (arith, size)

characters_put : (g : Given) (item : Item) → IsGiven g → IsItem (length g.glyphs) item
    → AreCharacters (length (put g item).glyphs) (put g item).characters
characters_put g (SaysGlyph n) h k =
    let more = grows g n in
    record {
      ranges =
          All-weaker (IsCharacter (length g.glyphs)) (IsCharacter (length (g.glyphs ++ n ∷ [])))
          (λ c is. (is.0, let at = is.1 in omega (arith, at, more))) g.characters h.characters.ranges;
      ordered = h.characters.ordered;
    }
characters_put g (SaysCharacter c) h k = record {
  ranges = all-insert (IsCharacter (length g.glyphs)) c.0 c.1 g.characters h.characters.ranges k;
  ordered = ordered-insert c.0 c.1 g.characters h.characters.ordered;
}
characters_put g item h k = h.characters

tables_put : (g : Given) (item : Item) (u : Unit {0}) → IsGiven g → IsItem (length g.glyphs) item
    → allowed g item ≡ Ok u → AreFilled (length (put g item).glyphs) (put g item).tables
tables_put g (SaysGlyph n) u h k e = λ t.
    let old = length g.glyphs in
    let new = length (g.glyphs ++ n ∷ []) in
    table-wider (IsSound t new) (IsSound t old) old new (slot t).most (entries t g.tables) (grows g n)
    (λ x is. ((kind t).wider old new (grows g n) x is.0, is.1)) (h.tables t)
tables_put g (SaysEntry t x) u h k e =
    let count = length g.glyphs in
    let room = had (fault_if (is_full (slot t).most (entries t g.tables) x.0) (slot t).full) _ u e in
    put-filled count t g.tables (with_item (entries t g.tables) x.0 x.1)
    (table-item (IsSound t count) count (slot t).most (entries t g.tables) x.0 x.1 (h.tables t) k.0 (k.1, room.2)
    (free (is_full (slot t).most (entries t g.tables) x.0) (slot t).full room.0 room.1))
    h.tables
tables_put g item u h k e = h.tables

operators_put : (g : Given) (item : Item) (u : Unit {0}) → IsGiven g → IsItem (length g.glyphs) item
    → allowed g item ≡ Ok u → AreOperators (put g item).operators
operators_put g (SaysOperator line) u h k e = operators-push g.operators line h.operators k (free _ Repeated u e)
operators_put g item u h k e = h.operators

version_put : (g : Given) (item : Item) → IsGiven g → IsVersion (put g item).version
version_put g (SaysUpem n) h = h.version
version_put g item h = h.version

known_put : (g : Given) (item : Item) → IsGiven g → IsKnown g.version item
    → (t : Table) → (put g item).version < (slot t).since → entries t (put g item).tables ≡ []
known_put g (SaysEntry t x) h v = put-known g.version t g.tables (with_item (entries t g.tables) x.0 x.1) v h.known
known_put g item h v = h.known

pub put_keeps : (g : Given) (item : Item) (u : Unit {0}) → IsGiven g → IsItem (length g.glyphs) item
    → IsKnown g.version item → allowed g item ≡ Ok u → IsGiven (put g item)
put_keeps g item u h k v e = record {
  version = version_put g item h;
  known = known_put g item h v;
  upem = upem_put g item h k;
  line = line_put g item h k;
  x_height = x_height_put g item h k;
  overlap = overlap_put g item h k;
  constants = constants_put g item h k;
  glyphs = glyphs_put g item u h k e;
  characters = characters_put g item h k;
  tables = tables_put g item u h k e;
  operators = operators_put g item u h k e;
}

-- ---- lines

-- the fields of a line said an item that was allowed
pub after_said : (g : Given) (k : Keyword) (fields : Words) (next : Given) → after_fields g k fields ≡ Ok next
    → (item : Item) × (item_in g.glyphs k fields ≡ Ok item) × (allowed g item ≡ Ok tt) × (put g item ≡ next)
after_said g k fields next e =
    let i = had (item_in g.glyphs k fields) _ next e in
    let f = had (allowed g i.0) _ next i.2 in
    (i.0, i.1, f.1, same_Ok (put g i.0) next f.2)

fields_keep : (g : Given) (k : Keyword) (fields : Words) (next : Given) → IsGiven g
    → after_fields g (known_in g.version k) fields ≡ Ok next → IsGiven next
fields_keep g k fields next h e =
    let s = after_said g (known_in g.version k) fields next e in
    subst IsGiven s.3 (put_keeps g s.0 tt h (item_range g.glyphs (known_in g.version k) fields s.0 s.1)
    (item_known g.version g.glyphs k fields s.0 h.version.low s.1) s.2)

words_keep : (g : Given) (words : Words) (next : Given) → IsGiven g → after_words g words ≡ Ok next → IsGiven next
words_keep g [] next h e = subst IsGiven (same_Ok g next e) h
words_keep g (word ∷ fields) next h e = fields_keep g (keyword_of word) fields next h e

-- a line that isn't faulty keeps the ranges
pub after_keeps : (g : Given) (line : List ℕ) (next : Given) → IsGiven g → after g line ≡ Ok next → IsGiven next
unfolding after
after_keeps g line next h e =
    let plain = had (fault_if (is_foreign line) ForeignByte) _ next e in
    by (is_comment line) plain.2
  where
    by : (b : Bool) → (if b then Ok g else after_words g (words_of line)) ≡ Ok next → IsGiven next
    by true k = subst IsGiven (same_Ok g next k) h
    by false k = words_keep g (words_of line) next h k

pub nothing_given : (version : ℕ) → IsVersion version → IsGiven (nothing version)
unfolding IsDistinct IsStrictlySortedBy
nothing_given version is = record {
  version = is;
  known = λ t late. (kind t).stands.none;
  upem = tt;
  line = tt;
  x_height = tt;
  overlap = tt;
  constants = record { ranges = All-nil IsConstant; ordered = tt };
  glyphs = record { count = omega arith; ranges = All-nil IsGlyph; names = tt };
  characters = record { ranges = All-nil (IsCharacter 0); ordered = tt };
  tables = λ t. subst (IsTable 0 (slot t).most (IsSound t 0)) (sym (kind t).stands.none) (record { ordered = tt; entries = All-nil _ });
  operators = record { texts = All-nil _; distinct = tt };
}

version_is : (words : Words) (version : ℕ) → version_in words ≡ Some version → IsVersion version
version_is [] version h = absurd (none-some version h)
version_is (a ∷ []) version h = absurd (none-some version h)
version_is (name ∷ word ∷ []) version h = by (bytes_eq name (codes "mathlay-metrics")) (bytes_eq word (codes "1")) (bytes_eq word (codes "2")) h
  where
    by : (a b c : Bool) → (if a then (if b then Some 1 else if c then Some 2 else None) else None) ≡ Some version
        → IsVersion version
    by true true c k = subst IsVersion (same_Some 1 version k) (record { low = omega arith; high = omega arith })
    by true false true k = subst IsVersion (same_Some 2 version k) (record { low = omega arith; high = omega arith })
    by true false false k = absurd (none-some version k)
    by false b c k = absurd (none-some version k)
version_is (a ∷ b ∷ c ∷ more) version h = absurd (none-some version h)

pub first_version : (line : List ℕ) (version : ℕ) → first_in line ≡ Ok version → IsVersion version
first_version line version h =
    let plain = had (fault_if (is_foreign line) ForeignByte) _ version h in
    version_is (words_of line) version (found (version_in (words_of line)) WrongFirstLine version plain.2)

-- the first line begins from what keeps them
pub first_keeps : (line : List ℕ) (next : Given) → after_first line ≡ Ok next → IsGiven next
unfolding after_first
first_keeps line next e =
    let first = had (first_in line) _ next e in
    subst IsGiven (same_Ok (nothing first.0) next first.2) (nothing_given first.0 (first_version line first.0 first.1))
