-- Glyphs by their names, which are distinct.
use Rattle.std.proofs.Common.{◌≡◌, ◌∙◌, refl, ℕ, ◌<◌, zero, suc, Bool, true, false, List, [], ◌∷◌, ◌++◌, length, Some, None, Ok, bytes_eq, arith, le_of_suc-le-suc}
use Rattle.std.specs.List.{list_all, position_or_len, IsDistinct, AllByRecursion}
use Rattle.std.proofs.lemmas.Bool.{and_from, and_parts, lt-ltb, le-ltb}
use Rattle.std.proofs.lemmas.Bool.Decides.{nat_tests}
use Rattle.metrics_file.specs.Lines.{named_in}
use Rattle.font_metrics.specs.Metrics.{NamedGlyph, place_of_name, name_in_list}
use Rattle.font_metrics.specs.Taken.{names_of}
use Rattle.font_metrics.specs.Names.{is_name_byte, is_name}
use Rattle.metrics_file.specs.Words.{name_in}
use Rattle.metrics_file.proofs.SameNames.{same_bytes}
use Rattle.metrics_file.proofs.ReadBack.Joined.{is_ink, is_word}

-- ---- a name is a word, and is read as itself

name_byte-ink : (b : ℕ) → is_name_byte b ≡ true → is_ink b ≡ true
name_byte-ink b h = grind (arith, nat_tests)

name_bytes-ink : (word : List ℕ) → list_all is_name_byte word ≡ true → list_all is_ink word ≡ true
name_bytes-ink [] h = refl
name_bytes-ink (b ∷ bs) h =
    let p = and_parts (is_name_byte b) (list_all is_name_byte bs) h in
    and_from _ _ (name_byte-ink b p.0) (name_bytes-ink bs p.1)

pub name-word : (word : List ℕ) → is_name word ≡ true → is_word word ≡ true
unfolding is_name
name-word word h =
    let p = and_parts _ (list_all is_name_byte word) h in
    and_from _ _ (and_parts _ _ p.0).0 (name_bytes-ink word p.1)

pub name_in-name : (word : List ℕ) → is_name word ≡ true → name_in word ≡ Ok word
unfolding name_in
name_in-name word h = rw h refl

-- ---- what stands before an item of a distinct list

pub at-middle : {K : Type 0} (P : K → Type 0) (xs : List K) (y : K) (ys : List K)
    → AllByRecursion P (xs ++ y ∷ ys)
    → P y
at-middle P [] y ys h = h.0
at-middle P (x ∷ xs) y ys h = at-middle P xs y ys h.1

pub distinct-before : {K : Type 0} (e : K → K → Bool) (xs : List K) (y : K) (ys : List K)
    → IsDistinct e (xs ++ y ∷ ys)
    → AllByRecursion (λ x. e x y ≡ false) xs
unfolding IsDistinct
distinct-before e [] y ys h = tt
distinct-before e (x ∷ xs) y ys h = (at-middle _ xs y ys h.0, distinct-before e xs y ys h.1)

-- ---- places of names

bytes_eq-flip : (a b : List ℕ) → bytes_eq a b ≡ false → bytes_eq b a ≡ false
bytes_eq-flip a b h = same_bytes.symm b a ∙ h

-- a name that no glyph has
past-all : (glyphs : List NamedGlyph) (name : List ℕ)
    → AllByRecursion (λ other. bytes_eq other name ≡ false) (names_of glyphs)
    → position_or_len (λ g. bytes_eq name g.name) glyphs ≡ length glyphs
past-all [] name h = refl
past-all (g ∷ glyphs) name h = rw (bytes_eq-flip g.name name h.0, past-all glyphs name h.1) (omega arith)

pub place_of_name-new : (glyphs : List NamedGlyph) (name : List ℕ)
    → AllByRecursion (λ other. bytes_eq other name ≡ false) (names_of glyphs)
    → place_of_name glyphs name ≡ None
place_of_name-new glyphs name h =
    rw (past-all glyphs name h, le-ltb (length glyphs) (length glyphs) (omega arith)) refl

-- the name of a glyph of the list
all-at : (P : List ℕ → Type 0) (glyphs : List NamedGlyph) (place : ℕ) → AllByRecursion P (names_of glyphs)
    → place < length glyphs
    → P (name_in_list glyphs place)
all-at P [] place h low = absurd (omega arith)
all-at P (g ∷ glyphs) zero h low = h.0
all-at P (g ∷ glyphs) (suc place) h low = all-at P glyphs place h.1 (le_of_suc-le-suc low)

up-to-place : (glyphs : List NamedGlyph) (place : ℕ) → IsDistinct bytes_eq (names_of glyphs)
    → place < length glyphs
    → position_or_len (λ g. bytes_eq (name_in_list glyphs place) g.name) glyphs ≡ place
unfolding IsDistinct
up-to-place [] place h low = absurd (omega arith)
up-to-place (g ∷ glyphs) zero h low = rw (same_bytes.refl g.name) refl
up-to-place (g ∷ glyphs) (suc place) h low =
    let low' : place < length glyphs = le_of_suc-le-suc low in
    let other = bytes_eq-flip g.name (name_in_list glyphs place)
    (all-at (λ name. bytes_eq g.name name ≡ false) glyphs place h.0 low') in
    rw (other, up-to-place glyphs place h.1 low') (omega arith)

pub place_of_name-place : (glyphs : List NamedGlyph) (place : ℕ) → IsDistinct bytes_eq (names_of glyphs)
    → place < length glyphs
    → place_of_name glyphs (name_in_list glyphs place) ≡ Some place
place_of_name-place glyphs place h low =
    rw (up-to-place glyphs place h low, lt-ltb place (length glyphs) low) refl

pub named_in-place : (glyphs : List NamedGlyph) (place : ℕ) → IsDistinct bytes_eq (names_of glyphs)
    → is_name (name_in_list glyphs place) ≡ true → place < length glyphs
    → named_in glyphs (name_in_list glyphs place) ≡ Ok place
named_in-place glyphs place h form low =
    rw (name_in-name (name_in_list glyphs place) form, place_of_name-place glyphs place h low) refl
