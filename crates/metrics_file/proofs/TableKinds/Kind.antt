-- What is proved of each kind of table.
use Rattle.std.proofs.Common.{◌≡◌, ℕ, ◌<◌, ◌≤◌, true, false, List, [], ◌∷◌, length, Ok}
use Rattle.std.specs.List.{list_all, join_with_byte}
use Rattle.metrics_file.specs.declared.keyword.Keyword.{Keyword}
use Rattle.font_metrics.specs.declared.table.Table.{Table}
use Rattle.font_metrics.specs.declared.table.Tables.{Tables}
use Rattle.font_metrics.specs.Slot.{Words}
use Rattle.metrics_file.specs.Lines.{SaysEntry, keyword_of, known_in, item_in}
use Rattle.metrics_file.specs.Laws.{of_table}
use Rattle.font_metrics.specs.Metrics.{NamedGlyph, ByGlyph, with_item, name_in_list}
use Rattle.metrics_file.specs.Reading.{is_comment}
use Rattle.font_metrics.specs.Tables.{EntryOf, slot, entries, with_entry, no_tables}
use Rattle.metrics_file.proofs.ReadBack.Fields.{AreNamed}
use Rattle.metrics_file.proofs.ReadBack.Joined.{is_word}

-- a keyword is a word by which the lines of its table are read in files that have it, and begins no comment
pub record IsKeyword (t : Table) : Type 0 where
  pub of : Keyword
  pub word : is_word (slot t).keyword ≡ true
  pub names : keyword_of (slot t).keyword ≡ of
  pub known : (version : ℕ) → (slot t).since ≤ version → known_in version of ≡ of
  pub other : (word : List ℕ) (words : Words) → is_comment (join_with_byte 32 ((slot t).keyword ∷ word ∷ words)) ≡ false

-- the table among all: what is put into it is there, so that one more entry is put with it; what is there
-- may be put again; it has no entry before any line; and its own entries are its own
pub record Stands (t : Table) : Type 0 where
  pub at-put : (tables : Tables) (table : ByGlyph (EntryOf t)) → entries t ((slot t).put tables table) ≡ table
  pub put-at : (tables : Tables) → (slot t).put tables (entries t tables) ≡ tables
  pub entry-at-put : (tables : Tables) (table : ByGlyph (EntryOf t)) (place : ℕ) (x : EntryOf t)
      → with_entry t ((slot t).put tables table) place x ≡ (slot t).put tables (with_item table place x)
  pub none : entries t no_tables ≡ []
  pub own : (xs : List (EntryOf t)) → of_table t t xs ≡ xs

-- what lies in its range does where there are more glyphs; and what is printed of an entry are words, which
-- give it
pub record IsKind (t : Table) : Type 0 where
  pub stands : Stands t
  pub keyword : IsKeyword t
  pub wider : (old new : ℕ) → old ≤ new → (x : EntryOf t) → (slot t).Is old x → (slot t).Is new x
  pub words : (glyphs : List NamedGlyph) (x : EntryOf t) → AreNamed glyphs → (slot t).Is (length glyphs) x
      → list_all is_word ((slot t).fields glyphs x) ≡ true
  pub printed : (glyphs : List NamedGlyph) (place : ℕ) (x : EntryOf t) → AreNamed glyphs → place < length glyphs
      → (slot t).Is (length glyphs) x
      → item_in glyphs keyword.of (name_in_list glyphs place ∷ (slot t).fields glyphs x) ≡ Ok (SaysEntry t (place, x))
