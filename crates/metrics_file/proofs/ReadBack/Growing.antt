-- The printed variants and parts, glyph by glyph.
use Rattle.std.proofs.Common.{◌≡◌, ◌∙◌, ap, sym, refl, subst, ℕ, ◌≤◌, ◌<◌, ◌+◌, zero, suc, true, List, [], ◌∷◌, length, map, flat_map, All, nat_eq, arith, inl, inr, add-zero}
use Rattle.std.specs.List.{AllByRecursion, range_with_len}
use Rattle.std.proofs.lemmas.Bool.{and_parts, cases_Bool, cases_order}
use Rattle.std.proofs.lemmas.List.Elements.{recursion_from_All, All-nil}
use Rattle.font_metrics.specs.declared.table.Table.{Table}
use Rattle.font_metrics.specs.declared.table.Tables.{Tables}
use Rattle.font_metrics.specs.Metrics.{MetricsValue, ByGlyph, items_of, with_item}
use Rattle.metrics_file.specs.Print.{entry_words, table_lines, growth_lines}
use Rattle.font_metrics.specs.Whole.{Given}
use Rattle.font_metrics.specs.Tables.{EntryOf, slot, entries, no_tables, all_tables, AreFilled, IsSound}
use Rattle.font_metrics.specs.Taken.{IsEntry, IsTable}
use Rattle.metrics_file.proofs.ReadBack.Fields.{AreNamed}
use Rattle.metrics_file.proofs.ReadBack.Following.{Follows, follows-append, follows-to, items-follow}
use Rattle.font_metrics.proofs.Filled.{AreBelow, with_items, below, below-keys, below-more, below-all, below-zero}
use Rattle.metrics_file.proofs.ReadBack.Taking.{Takes, takes-to, entry-taken}
use Rattle.metrics_file.proofs.Slots.{put_each, put_each-same, are_other, are_distinct, all-distinct, AreAt, others-stay, put_each-at}
use Rattle.metrics_file.proofs.TableKinds.Each.{kind}

-- ---- what a table has at a place

entries-items : {X : Type 0} (count most : ℕ) (Is : X → Type 0) (table : ByGlyph X) (place : ℕ)
    → AllByRecursion (IsEntry count most Is) table
    → All Is (items_of table place) × (length (items_of table place) ≤ most)
entries-items count most Is [] place h = (All-nil Is, omega arith)
entries-items count most Is (e ∷ es) place h = elim (cases_Bool (nat_eq place e.0)) [
  | inl here ↦ rw here (h.0.items, h.0.few)
  | inr other ↦ rw other (entries-items count most Is es place h.1)
]

entries-some : {X : Type 0} (count most : ℕ) (Is : X → Type 0) (table : ByGlyph X)
    → AllByRecursion (IsEntry count most Is) table
    → AllByRecursion (λ e. 1 ≤ length e.1) table
entries-some count most Is [] h = tt
entries-some count most Is (e ∷ es) h = (h.0.some, entries-some count most Is es h.1)

entries-below : {X : Type 0} (count most : ℕ) (Is : X → Type 0) (table : ByGlyph X)
    → AllByRecursion (IsEntry count most Is) table
    → AreBelow count table
entries-below count most Is [] h = tt
entries-below count most Is (e ∷ es) h = (h.0.glyph, entries-below count most Is es h.1)

table-more : {X : Type 0} (count most : ℕ) (Is : X → Type 0) (table : ByGlyph X) (place : ℕ)
    → IsTable count most Is table
    → with_items (below place table) place (items_of table place) ≡ below (place + 1) table
table-more count most Is table place h =
    sym (below-more place table h.ordered
    (entries-some count most Is table (recursion_from_All (IsEntry count most Is) table h.entries)))

table-all : {X : Type 0} (count most : ℕ) (Is : X → Type 0) (table : ByGlyph X) → IsTable count most Is table
    → below count table ≡ table
table-all count most Is table h =
    below-all count table
    (entries-below count most Is table (recursion_from_All (IsEntry count most Is) table h.entries))

-- ---- one table at one place

-- a line for each item of the place takes the table below the place to that below the next
at-place : {X : Type 0} (put : ByGlyph X → Given) (words : X → List (List ℕ)) (count most : ℕ) (Is : X → Type 0)
    (table : ByGlyph X) (place : ℕ) → IsTable count most Is table
    → ((had : ByGlyph X) (x : X) → Is x → length (items_of had place) < most
    → Takes (put had) (words x) (put (with_item had place x)))
    → Follows (put (below place table)) (map words (items_of table place)) (put (below (place + 1) table))
at-place put words count most Is table place h adds =
    let entries = entries-items count most Is table place
    (recursion_from_All (IsEntry count most Is) table h.entries) in
    follows-to (put (below place table)) _ _ (map words (items_of table place))
    (ap put (table-more count most Is table place h))
    (items-follow put words most Is (below place table) place (items_of table place) (below-keys place table) adds
    entries.0 entries.1)

-- ---- all tables

-- what is given with the glyphs of the metrics and these tables
abbrev pub grown : Given → MetricsValue → Tables → Given
grown given m tables = record given { glyphs = m.glyphs; tables = tables }

-- what the tables have at the places below a place
abbrev pub tables-below : ℕ → Tables → Tables
tables-below place tables = put_each all_tables (λ t. below place (entries t tables)) no_tables

pub tables-below-zero : (tables : Tables) → tables-below 0 tables ≡ no_tables
tables-below-zero tables =
    put_each-same all_tables (λ t. below 0 (entries t tables)) (λ t. []) no_tables (λ t. below-zero (entries t tables))

pub tables-below-all : (count : ℕ) (tables : Tables) → AreFilled count tables → tables-below count tables ≡ tables
tables-below-all count tables h =
    put_each-same all_tables (λ t. below count (entries t tables)) (λ t. entries t tables) no_tables
    (λ t. table-all count (slot t).most (IsSound t count) (entries t tables) (h t))

abbrev pub grown_to : Given → MetricsValue → ℕ → Given
grown_to given m place = grown given m (tables-below place m.tables)

-- the lines of a place in a table take it to the next place, and leave the others
table-grows : (given : Given) (m : MetricsValue) (t : Table) (place : ℕ) (tables : Tables) → AreNamed m.glyphs
    → AreFilled (length m.glyphs) m.tables → place < length m.glyphs → (slot t).since ≤ given.version
    → Follows (grown given m ((slot t).put tables (below place (entries t m.tables))))
    (table_lines m place t)
    (grown given m ((slot t).put tables (below (place + 1) (entries t m.tables))))
table-grows given m t place tables n h low old =
    let count = length m.glyphs in
    at-place (λ table. grown given m ((slot t).put tables table)) (entry_words t m.glyphs place) count (slot t).most
    (IsSound t count) (entries t m.tables) place (h t)
    (λ had x is room.
    let given' = grown given m ((slot t).put tables had) in
    takes-to given' (entry_words t m.glyphs place x) _ _ (ap (grown given m) ((kind t).stands.entry-at-put tables had place x))
    (entry-taken given' t place x n low is old
    (subst (λ (table : ByGlyph (EntryOf t)). length (items_of table place) < (slot t).most) (sym ((kind t).stands.at-put tables had)) room)))

-- the tables that a file of this version doesn't have are empty
abbrev pub AreKnown : ℕ → Tables → Type 0
AreKnown version tables = (t : Table) → version < (slot t).since → entries t tables ≡ []

-- so a table that there is, or that is empty
known-grows : (given : Given) (m : MetricsValue) (t : Table) (place : ℕ) (tables : Tables) → AreNamed m.glyphs
    → AreFilled (length m.glyphs) m.tables → AreKnown given.version m.tables → place < length m.glyphs
    → Follows (grown given m ((slot t).put tables (below place (entries t m.tables))))
    (table_lines m place t)
    (grown given m ((slot t).put tables (below (place + 1) (entries t m.tables))))
known-grows given m t place tables n h v low = elim (cases_order given.version (slot t).since) [
  | inl same ↦ table-grows given m t place tables n h low (omega (arith, same))
  | inr (inl late) ↦ (
      let none = v t late in
      let nothing = λ (table : ByGlyph (EntryOf t)). Follows (grown given m ((slot t).put tables (below place table)))
      (map (entry_words t m.glyphs place) (items_of table place)) (grown given m ((slot t).put tables (below (place + 1) table))) in
      subst nothing (sym none) refl
      )
  | inr (inr more) ↦ table-grows given m t place tables n h low (omega (arith, more))
]

-- the lines of a place in these tables in turn take them to the next place
tables-grow : (given : Given) (m : MetricsValue) (place : ℕ) (ts : List Table) (tables : Tables) → AreNamed m.glyphs
    → AreFilled (length m.glyphs) m.tables → AreKnown given.version m.tables → place < length m.glyphs → are_distinct ts ≡ true
    → AreAt ts (λ t. below place (entries t m.tables)) tables
    → Follows (grown given m tables) (flat_map (table_lines m place) ts)
    (grown given m (put_each ts (λ t. below (place + 1) (entries t m.tables)) tables))
tables-grow given m place [] tables n h v low distinct at = refl
tables-grow given m place (t ∷ ts) tables n h v low distinct at =
    let next = λ (t : Table). below (place + 1) (entries t m.tables) in
    let now = λ (t : Table). below place (entries t m.tables) in
    let one = (slot t).put tables (next t) in
    let p = and_parts (are_other t ts) (are_distinct ts) distinct in
    let same : (slot t).put tables (now t) ≡ tables =
    ap (λ (table : ByGlyph (EntryOf t)). (slot t).put tables table) (sym at.0) ∙ (kind t).stands.put-at tables in
    follows-append (grown given m tables) (grown given m one) (grown given m (put_each ts next one)) (table_lines m place t)
    (flat_map (table_lines m place) ts)
    (subst (λ (before : Tables). Follows (grown given m before) (table_lines m place t) (grown given m one)) same
    (known-grows given m t place tables n h v low))
    (tables-grow given m place ts one n h v low p.1 (others-stay t (next t) ts now tables p.0 at.1))

-- the lines of a place take all tables to the next place
grows-at : (given : Given) (m : MetricsValue) (place : ℕ) → AreNamed m.glyphs
    → AreFilled (length m.glyphs) m.tables → AreKnown given.version m.tables → place < length m.glyphs
    → Follows (grown_to given m place) (growth_lines m place) (grown_to given m (place + 1))
grows-at given m place n h v low =
    let now = λ (t : Table). below place (entries t m.tables) in
    tables-grow given m place all_tables (tables-below place m.tables) n h v low all-distinct
    (put_each-at all_tables now no_tables all-distinct)

pub grows-from : (given : Given) (m : MetricsValue) (from count : ℕ) → AreNamed m.glyphs
    → AreFilled (length m.glyphs) m.tables → AreKnown given.version m.tables → from + count ≤ length m.glyphs
    → Follows (grown_to given m from) (flat_map (growth_lines m) (range_with_len from count))
    (grown_to given m (from + count))
grows-from given m from zero n h v few = ap (grown_to given m) (sym (add-zero from))
grows-from given m from (suc count) n h v few =
    let more = flat_map (growth_lines m) (range_with_len (from + 1) count) in
    let e : from + 1 + count ≡ from + suc count = omega arith in
    follows-append (grown_to given m from) (grown_to given m (from + 1)) (grown_to given m (from + suc count))
    (growth_lines m from) more (grows-at given m from n h v (omega arith))
    (follows-to (grown_to given m (from + 1)) (grown_to given m (from + 1 + count))
    (grown_to given m (from + suc count)) more (ap (grown_to given m) e)
    (grows-from given m (from + 1) count n h v (omega arith)))
