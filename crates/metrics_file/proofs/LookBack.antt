-- What lines have given is what their items say.
use Rattle.std.proofs.Common.{◌≡◌, ◌∙◌, sym, ap, refl, subst, ℕ, Bool, true, false, cond, nat_eq, nat_le, List, [], ◌∷◌, ◌++◌, length, Option, Some, None, is_some, Ok, append_assoc, append-nil, true≢false}
use Rattle.std.specs.BTreeMap.{insert_entry}
use Rattle.std.specs.Map.{lookup}
use Rattle.std.specs.Ordering.{nat_cmp}
use Rattle.op_dictionary.specs.declared.extra.OperatorLine.{OperatorLine}
use Rattle.op_dictionary.specs.Dictionary.{is_named}
use Rattle.font_metrics.specs.declared.fault.LineFault.TheVariants.{Repeated, TooMany}
use Rattle.font_metrics.specs.Whole.{Given}
use Rattle.font_metrics.specs.declared.table.Table.{Table}
use Rattle.font_metrics.specs.Faults.{◌>>=◌, fault_if}
use Rattle.metrics_file.specs.Laws.{upem_said, line_said, x_height_said, overlap_said, constant_said, glyph_said, character_said, entry_said, operator_said, one_if, said, is_said, listed, allowed_behind}
use Rattle.metrics_file.specs.Lines.{Item, SaysUpem, SaysLine, SaysXHeight, SaysOverlap, SaysConstant, SaysGlyph, SaysCharacter, SaysEntry, SaysOperator}
use Rattle.font_metrics.specs.Metrics.{NamedGlyph, items_of, place_of_name}
use Rattle.metrics_file.specs.Reading.{nothing, allowed, put}
use Rattle.font_metrics.specs.Tables.{EntryOf, slot, entries}
use Rattle.font_metrics.specs.Taken.{most_glyphs}
use Rattle.metrics_file.proofs.Entries.{equal, lookup-put}
use Rattle.metrics_file.proofs.Slots.{entry-more, no-entry}
use Rattle.font_metrics.proofs.Steps.{free}

-- ---- items that are put in turn

-- each was allowed behind those before it
abbrev pub Grows : Given → List Item → Given → Type 0
Grows g [] end = g ≡ end
Grows g (item ∷ items) end = (allowed g item ≡ Ok tt) × Grows (put g item) items end

pub grows-append : (g between end : Given) (items more : List Item) → Grows g items between
    → Grows between more end → Grows g (items ++ more) end
grows-append g between end [] more h k = subst (λ (b : Given). Grows b more end) (sym h) k
grows-append g between end (item ∷ items) more h k =
    (h.0, grows-append (put g item) between end items more h.1 k)

-- a matter of which each item that is put adds what it says
seen : {X : Type 0} (see : Given → List X) (matter : Item → List X)
    → ((g : Given) (item : Item) → allowed g item ≡ Ok tt → see (put g item) ≡ see g ++ matter item)
    → (items : List Item) (g end : Given) → Grows g items end → see end ≡ see g ++ said matter items
seen see matter step [] g end h = ap see (sym h) ∙ sym (append-nil (see g))
seen see matter step (item ∷ items) g end h =
    seen see matter step items (put g item) end h.1
    ∙ ap (λ l. l ++ said matter items) (step g item h.0)
    ∙ append_assoc (see g) (matter item) (said matter items)

-- from the beginning
from_nothing : {X : Type 0} (version : ℕ) (see : Given → List X) (matter : Item → List X)
    → ((g : Given) (item : Item) → allowed g item ≡ Ok tt → see (put g item) ≡ see g ++ matter item)
    → see (nothing version) ≡ [] → (items : List Item) (g : Given) → Grows (nothing version) items g → see g ≡ said matter items
from_nothing version see matter step none items g h =
    seen see matter step items (nothing version) g h ∙ ap (λ l. l ++ said matter items) none

-- ---- what is given once

none_yet : {X : Type 0} (o : Option X) (x : X) → fault_if (is_some o) Repeated ≡ Ok tt
    → listed (Some x) ≡ listed o ++ x ∷ []
none_yet None x h = refl
none_yet (Some y) x h = absurd (true≢false (free true Repeated tt h))

upem-put : (g : Given) (item : Item) → allowed g item ≡ Ok tt
    → listed (put g item).upem ≡ listed g.upem ++ upem_said item
upem-put g (SaysUpem n) h = none_yet g.upem n h
upem-put g item h = sym (append-nil (listed g.upem))

line-put : (g : Given) (item : Item) → allowed g item ≡ Ok tt
    → listed (put g item).line ≡ listed g.line ++ line_said item
line-put g (SaysLine n) h = none_yet g.line n h
line-put g item h = sym (append-nil (listed g.line))

x_height-put : (g : Given) (item : Item) → allowed g item ≡ Ok tt
    → listed (put g item).x_height ≡ listed g.x_height ++ x_height_said item
x_height-put g (SaysXHeight n) h = none_yet g.x_height n h
x_height-put g item h = sym (append-nil (listed g.x_height))

overlap-put : (g : Given) (item : Item) → allowed g item ≡ Ok tt
    → listed (put g item).overlap ≡ listed g.overlap ++ overlap_said item
overlap-put g (SaysOverlap n) h = none_yet g.overlap n h
overlap-put g item h = sym (append-nil (listed g.overlap))

-- ---- maps

module _ {X : Type 0} where
  -- one that no line before gave
  entry-put : (q k : ℕ) (v : X) (es : List (ℕ × X)) → fault_if (is_some (lookup (nat_eq k) es)) Repeated ≡ Ok tt
      → listed (lookup (nat_eq q) (insert_entry nat_cmp es k v))
      ≡ listed (lookup (nat_eq q) es) ++ one_if (nat_eq q k) v
  entry-put q k v es h = ap listed (lookup-put q k v es) ∙ by (nat_eq q k) refl
    where
      by : (b : Bool) → nat_eq q k ≡ b
          → listed (cond b (Some v) (lookup (nat_eq q) es)) ≡ listed (lookup (nat_eq q) es) ++ one_if b v
      by false e = sym (append-nil (listed (lookup (nat_eq q) es)))
      by true e =
          none_yet (lookup (nat_eq q) es) v
          (subst (λ n. fault_if (is_some (lookup (nat_eq n) es)) Repeated ≡ Ok tt) (sym (equal q k e)) h)

constant-put : (place : ℕ) (g : Given) (item : Item) → allowed g item ≡ Ok tt
    → listed (lookup (nat_eq place) (put g item).constants)
    ≡ listed (lookup (nat_eq place) g.constants) ++ constant_said place item
constant-put place g (SaysConstant c) h = entry-put place c.0 c.1 g.constants h
constant-put place g item h = sym (append-nil (listed (lookup (nat_eq place) g.constants)))

character-put : (code : ℕ) (g : Given) (item : Item) → allowed g item ≡ Ok tt
    → listed (lookup (nat_eq code) (put g item).characters)
    ≡ listed (lookup (nat_eq code) g.characters) ++ character_said code item
character-put code g (SaysCharacter c) h = entry-put code c.0 c.1 g.characters h
character-put code g item h = sym (append-nil (listed (lookup (nat_eq code) g.characters)))

table-put : (t : Table) (place : ℕ) (g : Given) (item : Item) → allowed g item ≡ Ok tt
    → items_of (entries t (put g item).tables) place ≡ items_of (entries t g.tables) place ++ entry_said t place item
table-put t place g (SaysEntry other x) h = entry-more t other place x.0 x.1 g.tables
table-put t place g item h = sym (append-nil (items_of (entries t g.tables) place))

-- ---- lists

glyph-put : (g : Given) (item : Item) → allowed g item ≡ Ok tt → (put g item).glyphs ≡ g.glyphs ++ glyph_said item
glyph-put g (SaysGlyph n) h = refl
glyph-put g item h = sym (append-nil g.glyphs)

operator-put : (g : Given) (item : Item) → allowed g item ≡ Ok tt
    → (put g item).operators ≡ g.operators ++ operator_said item
operator-put g (SaysOperator line) h = refl
operator-put g item h = sym (append-nil g.operators)

-- the version of a file stays
version-put : (g : Given) (item : Item) → (put g item).version ≡ g.version
version-put g (SaysUpem n) = refl
version-put g item = refl

from_version : (version : ℕ) (items : List Item) (g : Given) → Grows (nothing version) items g → g.version ≡ version
from_version version items g h = stays items (nothing version) g h
  where
    stays : (items : List Item) (g end : Given) → Grows g items end → end.version ≡ g.version
    stays [] g end h = ap (λ (x : Given). x.version) (sym h)
    stays (item ∷ items) g end h = stays items (put g item) end h.1 ∙ version-put g item

-- ---- all that is given

pub record IsSaid (file : ℕ) (items : List Item) (g : Given) : Type 0 where
  pub version : g.version ≡ file
  pub upem : listed g.upem ≡ said upem_said items
  pub line : listed g.line ≡ said line_said items
  pub x_height : listed g.x_height ≡ said x_height_said items
  pub overlap : listed g.overlap ≡ said overlap_said items
  pub constants : (place : ℕ) → listed (lookup (nat_eq place) g.constants) ≡ said (constant_said place) items
  pub glyphs : g.glyphs ≡ said glyph_said items
  pub characters : (code : ℕ) → listed (lookup (nat_eq code) g.characters) ≡ said (character_said code) items
  pub tables : (t : Table) (place : ℕ) → items_of (entries t g.tables) place ≡ said (entry_said t place) items
  pub operators : g.operators ≡ said operator_said items

pub is_said_by : (version : ℕ) (items : List Item) (g : Given) → Grows (nothing version) items g → IsSaid version items g
is_said_by version items g h = record {
  version = from_version version items g h;
  upem = from_nothing version (λ g. listed g.upem) upem_said upem-put refl items g h;
  line = from_nothing version (λ g. listed g.line) line_said line-put refl items g h;
  x_height = from_nothing version (λ g. listed g.x_height) x_height_said x_height-put refl items g h;
  overlap = from_nothing version (λ g. listed g.overlap) overlap_said overlap-put refl items g h;
  constants = λ place. from_nothing version (λ g. listed (lookup (nat_eq place) g.constants)) (constant_said place) (constant-put place) refl items g h;
  glyphs = from_nothing version (λ g. g.glyphs) glyph_said glyph-put refl items g h;
  characters = λ code. from_nothing version (λ g. listed (lookup (nat_eq code) g.characters)) (character_said code) (character-put code) refl items g h;
  tables = λ t place. from_nothing version (λ g. items_of (entries t g.tables) place) (entry_said t place) (table-put t place) (no-entry t place) items g h;
  operators = from_nothing version (λ g. g.operators) operator_said operator-put refl items g h;
}

-- ---- what may follow

pub some_is_said : {X : Type 0} (o : Option X) (l : List X) → listed o ≡ l → is_some o ≡ is_said l
some_is_said None l h = ap is_said h
some_is_said (Some x) l h = ap is_said h

once : {X : Type 0} (o : Option X) (l : List X) → listed o ≡ l
    → fault_if (is_some o) Repeated ≡ fault_if (is_said l) Repeated
once o l h = ap (λ b. fault_if b Repeated) (some_is_said o l h)

pub allowed-same : (version : ℕ) (items : List Item) (g : Given) (item : Item) → IsSaid version items g
    → allowed g item ≡ allowed_behind items item
allowed-same version items g (SaysUpem n) h = once g.upem (said upem_said items) h.upem
allowed-same version items g (SaysLine n) h = once g.line (said line_said items) h.line
allowed-same version items g (SaysXHeight n) h = once g.x_height (said x_height_said items) h.x_height
allowed-same version items g (SaysOverlap n) h = once g.overlap (said overlap_said items) h.overlap
allowed-same version items g (SaysConstant c) h = once (lookup (nat_eq c.0) g.constants) _ (h.constants c.0)
allowed-same version items g (SaysGlyph n) h =
    ap (λ (glyphs : List NamedGlyph). fault_if (is_some (place_of_name glyphs n.name)) Repeated >>= λ new. fault_if (nat_le most_glyphs (length glyphs)) TooMany) h.glyphs
allowed-same version items g (SaysCharacter c) h = once (lookup (nat_eq c.0) g.characters) _ (h.characters c.0)
allowed-same version items g (SaysEntry t x) h =
    ap (λ (l : List (EntryOf t)). fault_if (nat_le (slot t).most (length l)) (slot t).full >>= λ free. (slot t).check x.1) (h.tables t x.0)
allowed-same version items g (SaysOperator line) h =
    ap (λ (l : List OperatorLine). fault_if (is_named l line.text line.form) Repeated) h.operators
