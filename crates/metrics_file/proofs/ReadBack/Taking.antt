-- One printed line gives its entry, behind what was given.
use Rattle.std.proofs.Common.{◌≡◌, ◌∙◌, ap, refl, ℕ, ◌≤◌, ◌<◌, ℤ, true, false, List, [], ◌∷◌, ◌++◌, length, codes, Option, Some, None, Ok, IfSome, nat_eq, nat_le, nat_cmp, decimal, arith}
use Rattle.std.specs.BTreeMap.{insert_entry}
use Rattle.std.specs.Fmt.{signed_decimal}
use Rattle.std.specs.List.{list_all, join_with_byte}
use Rattle.std.specs.Map.{lookup}
use Rattle.std.proofs.lemmas.Bool.{lt-leb, and_from}
use Rattle.op_dictionary.specs.declared.extra.OperatorLine.{OperatorLine}
use Rattle.op_dictionary.specs.Dictionary.{is_named}
use Rattle.font_metrics.specs.Whole.{Given}
use Rattle.metrics_file.specs.declared.keyword.Keyword.{Keyword}
use Rattle.font_metrics.specs.declared.table.Table.{Table}
use Rattle.font_metrics.specs.Faults.{◌>>=◌, fault_if}
use Rattle.font_metrics.specs.Slot.{Words}
use Rattle.metrics_file.specs.Lines.{Item, SaysUpem, SaysLine, SaysXHeight, SaysOverlap, SaysConstant, SaysGlyph, SaysCharacter, SaysEntry, SaysOperator, keyword_of, known_in, item_in}
use Rattle.font_metrics.specs.Metrics.{NamedGlyph, name_in_list, items_of, place_of_name}
use Rattle.metrics_file.specs.Print.{upem_words, line_words, x_height_words, constant_words, accent_words, glyph_words, code_text, character_words, entry_words, operator_text, operator_words}
use Rattle.font_metrics.specs.Texts.{constant_text, form_text, category_text, axis_text}
use Rattle.metrics_file.specs.Reading.{is_comment, allowed, put, after_fields, after}
use Rattle.font_metrics.specs.Tables.{EntryOf, slot, entries, with_entry, IsSound}
use Rattle.font_metrics.specs.Taken.{IsGlyph, IsConstant, IsCharacter, IsReach, IsOperatorText, most_glyphs}
use Rattle.metrics_file.proofs.ReadBack.Choices.{constant-word}
use Rattle.metrics_file.proofs.ReadBack.Decimal.{natural_in-decimal}
use Rattle.metrics_file.proofs.ReadBack.Fields.{AreNamed, bounds, constant_in-printed, glyph_in-printed, character_in-printed, operator_in-printed}
use Rattle.metrics_file.proofs.ReadBack.FieldWords.{reach-word, length-word, place-word}
use Rattle.metrics_file.proofs.TableKinds.Each.{kind}
use Rattle.metrics_file.proofs.ReadBack.Joined.{is_word, after-joined}
use Rattle.metrics_file.proofs.ReadBack.Names.{name-word}
use Rattle.metrics_file.proofs.ReadBack.Printed.{decimal-word, signed-word, letter-word, operator_text-word, form-word, category-word, axis-word}

-- these words make a line that takes what was given to this
abbrev pub Takes : Given → Words → Given → Type 0
Takes given words next =
    (list_all is_word words ≡ true) × (after given (join_with_byte 32 words) ≡ Ok next)

after-item : (given : Given) (keyword : Keyword) (fields : Words) (item : Item)
    → item_in given.glyphs keyword fields ≡ Ok item → allowed given item ≡ Ok tt
    → after_fields given keyword fields ≡ Ok (put given item)
after-item given keyword fields item said free =
    ap (λ step. step >>= λ item. allowed given item >>= λ free. Ok (put given item)) said
    ∙ ap (λ step. step >>= λ free. Ok (put given item)) free

takes : (given : Given) (word : List ℕ) (fields : Words) (item : Item)
    → list_all is_word (word ∷ fields) ≡ true → is_comment (join_with_byte 32 (word ∷ fields)) ≡ false
    → item_in given.glyphs (known_in given.version (keyword_of word)) fields ≡ Ok item → allowed given item ≡ Ok tt
    → Takes given (word ∷ fields) (put given item)
takes given word fields item h other said free =
    (h, after-joined given word fields h other ∙ after-item given (known_in given.version (keyword_of word)) fields item said free)

pub takes-to : (given : Given) (words : Words) (next other : Given) → next ≡ other → Takes given words next
    → Takes given words other
takes-to given words next other same (h, e) = (h, e ∙ ap Ok same)

-- ---- what is given once

pub upem-taken : (given : Given) (units : ℕ) → 16 ≤ units → units ≤ 16384 → given.upem ≡ None
    → Takes given (upem_words units) (record given { upem = Some units })
unfolding keyword_of
upem-taken given units low high new =
    let small : units < 1000000 = omega arith in
    takes given (codes "upem") (decimal units ∷ []) (SaysUpem units) (rw (decimal-word units small) refl) refl
    (rw (natural_in-decimal 16 16384 units small low high) refl) (rw new refl)

pub line-taken : (given : Given) (ascent descent : ℕ) → ascent ≤ 65535 → descent ≤ 65535 → given.line ≡ None
    → Takes given (line_words ascent descent) (record given { line = Some (ascent, descent) })
unfolding keyword_of
line-taken given ascent descent up down new =
    let small : ascent < 1000000 = omega arith in
    let small' : descent < 1000000 = omega arith in
    takes given (codes "line") (decimal ascent ∷ decimal descent ∷ [])
    (SaysLine (ascent, descent)) (rw (decimal-word ascent small, decimal-word descent small') refl) refl
    (rw (
      natural_in-decimal 0 65535 ascent small (omega arith) up,
      natural_in-decimal 0 65535 descent small' (omega arith) down,
    ) refl)
    (rw new refl)

pub x_height-taken : (given : Given) (height : ℕ) → height ≤ 65535 → given.x_height ≡ None
    → Takes given (x_height_words height) (record given { x_height = Some height })
unfolding keyword_of
x_height-taken given height high new =
    let small : height < 1000000 = omega arith in
    takes given (codes "xheight") (decimal height ∷ []) (SaysXHeight height) (rw (decimal-word height small) refl) refl
    (rw (natural_in-decimal 0 65535 height small (omega arith) high) refl) (rw new refl)

pub overlap-taken : (given : Given) (least : ℕ) → least ≤ 65535 → given.overlap ≡ None
    → Takes given (codes "overlap" ∷ decimal least ∷ []) (record given { overlap = Some least })
unfolding keyword_of
overlap-taken given least high new =
    let small : least < 1000000 = omega arith in
    takes given (codes "overlap") (decimal least ∷ []) (SaysOverlap least) (rw (decimal-word least small) refl) refl
    (rw (natural_in-decimal 0 65535 least small (omega arith) high) refl) (rw new refl)

-- ---- constants, glyphs, characters

constant-words : (c : ℕ × ℤ) → IsConstant c → list_all is_word (constant_words c) ≡ true
constant-words (place, z) (small, low, high) =
    let wide = bounds _ z low high in
    rw (constant-word place small, signed-word z wide.0 wide.1) refl

pub constant-taken : (given : Given) (c : ℕ × ℤ) → IsConstant c → lookup (nat_eq c.0) given.constants ≡ None
    → Takes given (constant_words c)
    (record given { constants = insert_entry nat_cmp given.constants c.0 c.1 })
unfolding keyword_of
constant-taken given c h new =
    takes given (codes "const") (constant_text c.0 ∷ signed_decimal c.1 ∷ [])
    (SaysConstant c) (constant-words c h) refl (rw (constant_in-printed c h) refl) (rw new refl)

accent-words : (accent : Option ℤ) → IfSome accent IsReach → list_all is_word (accent_words accent) ≡ true
accent-words None h = refl
accent-words (Some z) h = rw (signed-word z h.0 h.1) refl

glyph-words : (g : NamedGlyph) → IsGlyph g → list_all is_word (glyph_words g) ≡ true
glyph-words g h =
    rw (
      name-word g.name h.name,
      length-word g.glyph.advance h.measures.advance,
      reach-word g.glyph.ink_ascent h.measures.ink_ascent,
      reach-word g.glyph.ink_descent h.measures.ink_descent,
      reach-word g.glyph.italic h.measures.italic,
      accent-words g.glyph.accent h.measures.accent,
    ) refl

pub glyph-taken : (given : Given) (g : NamedGlyph) → IsGlyph g → place_of_name given.glyphs g.name ≡ None
    → length given.glyphs < most_glyphs
    → Takes given (glyph_words g) (record given { glyphs = given.glyphs ++ g ∷ [] })
unfolding keyword_of
glyph-taken given g h new room =
    let free : nat_le most_glyphs (length given.glyphs) ≡ false = lt-leb most_glyphs (length given.glyphs) room in
    takes given (codes "glyph")
    (g.name ∷ signed_decimal g.glyph.advance ∷ signed_decimal g.glyph.ink_ascent
    ∷ signed_decimal g.glyph.ink_descent ∷ signed_decimal g.glyph.italic ∷ accent_words g.glyph.accent)
    (SaysGlyph g) (glyph-words g h) refl (rw (glyph_in-printed g h) refl) (rw (new, free) refl)

character-words : (glyphs : List NamedGlyph) (c : ℕ × ℕ) → AreNamed glyphs → IsCharacter (length glyphs) c
    → list_all is_word (character_words glyphs c) ≡ true
character-words glyphs c n h =
    rw (letter-word c.0 h.0, place-word glyphs c.1 n h.1) refl

pub character-taken : (given : Given) (c : ℕ × ℕ) → AreNamed given.glyphs
    → IsCharacter (length given.glyphs) c → lookup (nat_eq c.0) given.characters ≡ None
    → Takes given (character_words given.glyphs c)
    (record given { characters = insert_entry nat_cmp given.characters c.0 c.1 })
unfolding keyword_of
character-taken given c n h new =
    takes given (codes "char") (code_text c.0 ∷ name_in_list given.glyphs c.1 ∷ [])
    (SaysCharacter c) (character-words given.glyphs c n h) refl
    (rw (character_in-printed given.glyphs c n h.0 h.1) refl) (rw new refl)

-- ---- entries of tables

pub entry-taken : (given : Given) (t : Table) (place : ℕ) (x : EntryOf t) → AreNamed given.glyphs
    → place < length given.glyphs → IsSound t (length given.glyphs) x → (slot t).since ≤ given.version
    → length (items_of (entries t given.tables) place) < (slot t).most
    → Takes given (entry_words t given.glyphs place x)
    (record given { tables = with_entry t given.tables place x })
entry-taken given t place x n low h old room =
    let k = kind t in
    let key = k.keyword in
    let fields = name_in_list given.glyphs place ∷ (slot t).fields given.glyphs x in
    takes given (slot t).keyword fields (SaysEntry t (place, x))
    (and_from _ _ key.word (and_from _ _ (place-word given.glyphs place n low) (k.words given.glyphs x n h.0)))
    (key.other (name_in_list given.glyphs place) ((slot t).fields given.glyphs x))
    (ap (λ (word : Keyword). item_in given.glyphs (known_in given.version word) fields) key.names
    ∙ ap (λ (word : Keyword). item_in given.glyphs word fields) (key.known given.version old)
    ∙ k.printed given.glyphs place x n low h.0)
    (ap (λ b. fault_if b (slot t).full >>= λ free. (slot t).check x) (lt-leb (slot t).most (length (items_of (entries t given.tables) place)) room)
    ∙ h.1)

-- ---- operators

operator-words : (line : OperatorLine) → IsOperatorText line.text
    → list_all is_word (operator_words line) ≡ true
operator-words line h =
    rw (operator_text-word line.text h, form-word line.form, category-word line.category, axis-word line.axis)
    refl

pub operator-taken : (given : Given) (line : OperatorLine) → IsOperatorText line.text
    → is_named given.operators line.text line.form ≡ false
    → Takes given (operator_words line) (record given { operators = given.operators ++ line ∷ [] })
unfolding keyword_of
operator-taken given line h new =
    takes given (codes "operator")
    (operator_text line.text ∷ form_text line.form ∷ category_text line.category ∷ axis_text line.axis ∷ [])
    (SaysOperator line) (operator-words line h) refl (rw (operator_in-printed line h) refl) (rw new refl)
