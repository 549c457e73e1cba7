-- Entries whose keys increase, tables and lists without repeats, as lines add to them.
use Rattle.std.proofs.Common.{◌≡◌, ◌∙◌, sym, ap, refl, subst, ℕ, suc, ◌+◌, ◌<◌, ◌≤◌, Bool, true, false, cond, not, ◌&&◌, ◌||◌, nat_eq, nat_lt, nat_le, List, [], ◌∷◌, ◌++◌, map, length, is_some, position, Some, None, arith}
use Rattle.std.proofs.lemmas.Bool.Decides.{nat_tests}
use Rattle.std.proofs.lemmas.List.{length_push}
use Rattle.std.proofs.lemmas.List.Elements.{All-nil, All-cons, All-head, All-tail, All-push, All-weaker}
use Rattle.std.proofs.lemmas.Map.Keys.{IsDistinct-push}
use Rattle.std.proofs.lemmas.Map.Lookups.{exact_unsigned}
use Rattle.std.specs.declared.cmp.Ordering.{Ordering}
use Rattle.std.specs.declared.cmp.Ordering.TheVariants.{Less, Equal, Greater}
use Rattle.std.specs.BTreeMap.{insert_entry}
use Rattle.std.specs.List.{All, AllByRecursion, IsDistinct, list_any, prefix_len, find}
use Rattle.std.specs.List.Sorted.{IsStrictlySortedBy}
use Rattle.std.specs.Map.{keys_of}
use Rattle.std.specs.Ordering.{nat_cmp, match_ordering}
use Rattle.std.specs.Str.{bytes_eq}
use Rattle.op_dictionary.specs.declared.extra.OperatorLine.{OperatorLine}
use Rattle.op_dictionary.specs.Dictionary.{is_named}
use Rattle.op_dictionary.specs.Pairs.{same_text, same_form}
use Rattle.font_metrics.specs.Metrics.{NamedGlyph, ByGlyph, items_of, with_item, is_full, place_of_name}
use Rattle.font_metrics.specs.Taken.{IsEntry, IsTable, IsGlyph, names_of, most_glyphs, IsOperatorText}
use Rattle.font_metrics.specs.Whole.{AreGlyphs, AreOperators}
use Rattle.font_metrics.proofs.Listed.{below}
use Rattle.font_metrics.proofs.Values.{all_items}
use Rattle.op_dictionary.proofs.Same.{same_pairs}
use Rattle.metrics_file.proofs.SameNames.{same_bytes}

-- ---- the order of keys

cmp_less : (a b : ℕ) → a < b → nat_cmp a b ≡ Less
cmp_less a b h = by (nat_lt a b) refl
  where
    by : (l : Bool) → nat_lt a b ≡ l → cond l Less (cond (nat_eq a b) Equal Greater) ≡ Less
    by true e = refl
    by false e = let none : ⊥ = grind (arith, nat_tests) in absurd none

less_back : (a b : ℕ) → nat_cmp a b ≡ Greater → nat_cmp b a ≡ Less
less_back a b h = by (nat_lt a b) (nat_eq a b) refl refl h
  where
    by : (l s : Bool) → nat_lt a b ≡ l → nat_eq a b ≡ s → cond l Less (cond s Equal Greater) ≡ Greater
        → nat_cmp b a ≡ Less
    by true s e k g = let none : ⊥ = cc in absurd none
    by false true e k g = let none : ⊥ = cc in absurd none
    by false false e k g = let more : b < a = grind (arith, nat_tests) in cmp_less b a more

further : (n k : ℕ) (keys : List ℕ) → nat_cmp n k ≡ Less → AllByRecursion (λ y. nat_cmp k y ≡ Less) keys
    → AllByRecursion (λ y. nat_cmp n y ≡ Less) keys
further n k [] h a = tt
further n k (y ∷ ys) h a =
    let low = below n k h in
    let high = below k y a.0 in
    (cmp_less n y (omega (arith, low, high)), further n k ys h a.1)

module _ {X : Type 0} where
  above-insert : (n k : ℕ) (v : X) (es : List (ℕ × X)) → AllByRecursion (λ y. nat_cmp n y ≡ Less) (keys_of es)
      → nat_cmp n k ≡ Less → AllByRecursion (λ y. nat_cmp n y ≡ Less) (keys_of (insert_entry nat_cmp es k v))
  above-insert n k v [] a h = (h, tt)
  above-insert n k v (e ∷ es) a h = by (nat_cmp k e.0) (above-insert n k v es a.1 h)
    where
      by : (o : Ordering) → AllByRecursion (λ y. nat_cmp n y ≡ Less) (keys_of (insert_entry nat_cmp es k v))
          → AllByRecursion (λ y. nat_cmp n y ≡ Less)
          (keys_of (match_ordering o ((k, v) ∷ e ∷ es) ((e.0, v) ∷ es) (e ∷ insert_entry nat_cmp es k v)))
      by Less r = (h, a)
      by Equal r = a
      by Greater r = (a.0, r)

  -- an entry keeps the order
  pub ordered-insert : (k : ℕ) (v : X) (es : List (ℕ × X)) → IsStrictlySortedBy nat_cmp (keys_of es)
      → IsStrictlySortedBy nat_cmp (keys_of (insert_entry nat_cmp es k v))
  unfolding IsStrictlySortedBy
  ordered-insert k v [] s = (tt, tt)
  ordered-insert k v (e ∷ es) s = by (nat_cmp k e.0) refl (ordered-insert k v es s.1)
    where
      by : (o : Ordering) → nat_cmp k e.0 ≡ o → IsStrictlySortedBy nat_cmp (keys_of (insert_entry nat_cmp es k v))
          → IsStrictlySortedBy nat_cmp
          (keys_of (match_ordering o ((k, v) ∷ e ∷ es) ((e.0, v) ∷ es) (e ∷ insert_entry nat_cmp es k v)))
      by Less h r = ((h, further k e.0 (keys_of es) h s.0), s)
      by Equal h r = s
      by Greater h r = (above-insert e.0 k v es s.0 (less_back k e.0 h), r)

  -- what holds of each entry and of a new one
  pub all-insert : (P : ℕ × X → Type 0) (k : ℕ) (v : X) (es : List (ℕ × X)) → All P es → P (k, v)
      → All P (insert_entry nat_cmp es k v)
  all-insert P k v [] a h = All-cons P (k, v) [] h (All-nil P)
  all-insert P k v (e ∷ es) a h = by (nat_cmp k e.0) refl (all-insert P k v es (All-tail P e es a) h)
    where
      by : (o : Ordering) → nat_cmp k e.0 ≡ o → All P (insert_entry nat_cmp es k v)
          → All P (match_ordering o ((k, v) ∷ e ∷ es) ((e.0, v) ∷ es) (e ∷ insert_entry nat_cmp es k v))
      by Less s r = All-cons P (k, v) (e ∷ es) h a
      by Equal s r = All-cons P (e.0, v) es (subst (λ n. P (n, v)) (exact_unsigned k e.0 s) h) (All-tail P e es a)
      by Greater s r = All-cons P e (insert_entry nat_cmp es k v) (All-head P e es a) r

-- ---- tables by a glyph's place

module _ {X : Type 0} (Is : X → Type 0) where
  -- one more item of a glyph
  pub table-item : (count most : ℕ) (table : ByGlyph X) (place : ℕ) (item : X) → IsTable count most Is table
      → place < count → Is item → is_full most table place ≡ false
      → IsTable count most Is (with_item table place item)
  table-item count most table place item h within is room =
      let old = items_of table place in
      let size : length (old ++ item ∷ []) ≡ length old + 1 = length_push old item in
      let free : length old < most = grind (arith, nat_tests) in
      record {
        ordered = ordered-insert place (old ++ item ∷ []) table h.ordered;
        entries = all-insert (IsEntry count most Is) place (old ++ item ∷ []) table h.entries (record {
          glyph = within;
          some = omega (arith, size);
          few = omega (arith, size, free);
          items = All-push Is old item (all_items Is count most table place h.entries) is;
        });
      }

  -- more glyphs
  pub table-wider : (Was : X → Type 0) (count more most : ℕ) (table : ByGlyph X) → count ≤ more
      → ((x : X) → Was x → Is x) → IsTable count most Was table → IsTable more most Is table
  table-wider Was count more most table grows also h = record {
    ordered = h.ordered;
    entries =
        All-weaker (IsEntry count most Was) (IsEntry more most Is)
        (λ e k. record {
          glyph = let at = k.glyph in omega (arith, at, grows);
          some = k.some;
          few = k.few;
          items = All-weaker Was Is also e.1 k.items;
        })
        table h.entries;
  }

-- ---- lists without repeats

some_cond : {X : Type 0} (b : Bool) (x : X) → is_some (cond b (Some x) None) ≡ b
some_cond true x = refl
some_cond false x = refl

below_length : {X : Type 0} (p : X → Bool) (xs : List X)
    → nat_lt (prefix_len (λ x. not (p x)) xs) (length xs) ≡ list_any p xs
below_length p [] = refl
below_length p (x ∷ xs) = by (p x) (prefix_len (λ y. not (p y)) xs) (length xs) (list_any p xs) (below_length p xs)
  where
    by : (b : Bool) (n len : ℕ) (any : Bool) → nat_lt n len ≡ any
        → nat_lt (cond (not b) (1 + n) 0) (suc len) ≡ (b || any)
    by true n len any h = grind (arith, nat_tests)
    by false n len any h = grind (arith, nat_tests)

-- an item has a place where some item passes
pub is_some-position : {X : Type 0} (p : X → Bool) (xs : List X) → is_some (position p xs) ≡ list_any p xs
is_some-position p xs = some_cond (nat_lt (prefix_len (λ x. not (p x)) xs) (length xs)) _ ∙ below_length p xs

is_some-found : {X : Type 0} (p : X → Bool) (xs : List X) → is_some (find p xs) ≡ list_any p xs
is_some-found p [] = refl
is_some-found p (x ∷ xs) = by (p x) (is_some-found p xs)
  where
    by : (b : Bool) → is_some (find p xs) ≡ list_any p xs
        → is_some (cond b (Some x) (find p xs)) ≡ (b || list_any p xs)
    by true h = refl
    by false h = h

list_any-map : {X Y : Type 0} (p : Y → Bool) (f : X → Y) (xs : List X)
    → list_any p (map f xs) ≡ list_any (λ x. p (f x)) xs
list_any-map p f [] = refl
list_any-map p f (x ∷ xs) = ap (λ b. p (f x) || b) (list_any-map p f xs)

map-push : {X Y : Type 0} (f : X → Y) (xs : List X) (x : X) → map f (xs ++ x ∷ []) ≡ map f xs ++ f x ∷ []
map-push f [] x = refl
map-push f (y ∷ ys) x = ap (λ l. f y ∷ l) (map-push f ys x)

-- one more glyph, under a new name
pub glyphs-push : (glyphs : List NamedGlyph) (g : NamedGlyph) → AreGlyphs glyphs → IsGlyph g
    → is_some (place_of_name glyphs g.name) ≡ false → nat_le most_glyphs (length glyphs) ≡ false
    → AreGlyphs (glyphs ++ g ∷ [])
glyphs-push glyphs g h is new room =
    let size : length (glyphs ++ g ∷ []) ≡ length glyphs + 1 = length_push glyphs g in
    let free : length glyphs < most_glyphs = grind (arith, nat_tests) in
    let none : list_any (bytes_eq g.name) (names_of glyphs) ≡ false =
    list_any-map (bytes_eq g.name) (λ n. n.name) glyphs
    ∙ sym (is_some-position (λ n. bytes_eq g.name n.name) glyphs) ∙ new in
    record {
      count = omega (arith, size, free);
      ranges = All-push IsGlyph glyphs g h.ranges is;
      names = subst (IsDistinct bytes_eq) (sym (map-push (λ n. n.name) glyphs g))
          (IsDistinct-push same_bytes (names_of glyphs) g.name h.names none);
    }

-- one more operator line, for a new pair
pub operators-push : (lines : List OperatorLine) (line : OperatorLine) → AreOperators lines → IsOperatorText line.text
    → is_named lines line.text line.form ≡ false → AreOperators (lines ++ line ∷ [])
operators-push lines line h is new = record {
  texts = All-push (λ l. IsOperatorText l.text) lines line h.texts is;
  distinct =
      IsDistinct-push same_pairs lines line h.distinct
      (sym (is_some-found (λ l. same_text line.text l.text && same_form line.form l.form) lines) ∙ new);
}
