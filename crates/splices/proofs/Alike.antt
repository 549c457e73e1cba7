-- Two lists that are spliced in one way.
use Rattle.std.proofs.Common.{◌≡◌, ◌∙◌, ◌⊎◌, inl, inr, refl, sym, ap, subst, ℕ, zero, suc, ◌<◌, ◌≤◌, arith, List, [], ◌∷◌, length, length-set, insert, remove, set, Some, slice_get}
use Rattle.std.specs.Bool.{⊤}
use Rattle.std.proofs.lemmas.Option.{none-some, same_Some}
use Rattle.splices.proofs.Origins.{all_brought}
use Rattle.splices.proofs.Places.{length_insert, length_remove}
use Rattle.splices.specs.Splicing.{AllBrought, Brings, FitsIn, IsAlike, IsRoomy, site_of, spliced}
use Rattle.splices.specs.declared.site.Site.{Site}
use Rattle.splices.specs.declared.site.Site.TheVariants.{Stay as Still, Put as PutAt, Take as TakeAt, Swap as SwapAt}
use Rattle.splices.specs.declared.splice.Splice.{Splice}
use Rattle.splices.specs.declared.splice.Splice.TheVariants.{Stay, Put, Take, Swap}

-- ---- sites

abbrev kind_of : Site → ℕ
kind_of Still = 0
kind_of (PutAt index) = 1
kind_of (TakeAt index) = 2
kind_of (SwapAt index) = 3

abbrev place_in : Site → ℕ
place_in Still = 0
place_in (PutAt index) = index
place_in (TakeAt index) = index
place_in (SwapAt index) = index

-- a splice there brings an item to this place
abbrev HasItem : Site → ℕ → Type 0
HasItem Still place = ⊥
HasItem (PutAt index) place = place ≡ index
HasItem (TakeAt index) place = ⊥
HasItem (SwapAt index) place = place ≡ index

-- there is such a place among so many items
abbrev HasPlace : Site → ℕ → Type 0
HasPlace Still count = ⊤
HasPlace (PutAt index) count = index ≤ count
HasPlace (TakeAt index) count = index < count
HasPlace (SwapAt index) count = index < count

module _ {A : Type 0} where
  has_item : (splice : Splice A) (place : ℕ) (x : A) → Brings splice place x → HasItem (site_of splice) place
  has_item Stay place x b = b
  has_item (Put index item room) place x b = b.0
  has_item (Take index) place x b = b
  has_item (Swap index item) place x b = b.0

  item_of : (splice : Splice A) (place : ℕ) → HasItem (site_of splice) place → (x : A) × Brings splice place x
  item_of Stay place h = absurd h
  item_of (Put index item room) place h = (item, (h, refl))
  item_of (Take index) place h = absurd h
  item_of (Swap index item) place h = (item, (h, refl))

  place_of : (splice : Splice A) (list : List A) → FitsIn splice list → HasPlace (site_of splice) (length list)
  place_of Stay list fits = tt
  place_of (Put index item room) list fits = fits.0
  place_of (Take index) list fits = fits
  place_of (Swap index item) list fits = fits

  fits_of : (splice : Splice A) (list : List A) → HasPlace (site_of splice) (length list) → IsRoomy (length list) splice → FitsIn splice list
  fits_of Stay list h roomy = tt
  fits_of (Put index item room) list h roomy = (h, roomy)
  fits_of (Take index) list h roomy = h
  fits_of (Swap index item) list h roomy = h

-- ---- two lists

-- what stands at one place in both
abbrev pub Both : {A B : Type 0} → List A → List B → A → B → Type 0
Both xs ys a b = (k : ℕ) × (slice_get xs k ≡ Some a) × (slice_get ys k ≡ Some b)

module _ {A B : Type 0} where
  later : (x : A) (y : B) (xs : List A) (ys : List B) (a : A) (b : B) → Both xs ys a b → Both (x ∷ xs) (y ∷ ys) a b
  later x y xs ys a b h = (suc h.0, h.1, h.2)

  pub both_insert : (xs : List A) (ys : List B) (i j : ℕ) (x a : A) (y b : B) → length ys ≡ length xs → i ≤ length xs
      → slice_get (insert xs i x) j ≡ Some a → slice_get (insert ys i y) j ≡ Some b → ((a ≡ x) × (b ≡ y)) ⊎ Both xs ys a b
  both_insert xs ys zero zero x a y b l w h k = inl (sym (same_Some x a h), sym (same_Some y b k))
  both_insert xs ys zero (suc j) x a y b l w h k = inr (j, h, k)
  both_insert [] ys (suc i) j x a y b l w h k = absurd (omega (arith, w))
  both_insert (c ∷ xs) [] (suc i) j x a y b l w h k = absurd (omega (arith, l))
  both_insert (c ∷ xs) (d ∷ ys) (suc i) zero x a y b l w h k = inr (0, h, k)
  both_insert (c ∷ xs) (d ∷ ys) (suc i) (suc j) x a y b l w h k =
      elim (both_insert xs ys i j x a y b (omega (arith, l)) (omega (arith, w)) h k) [ inl e ↦ inl e | inr t ↦ inr (later c d xs ys a b t) ]

  pub both_remove : (xs : List A) (ys : List B) (i j : ℕ) (a : A) (b : B) → length ys ≡ length xs
      → slice_get (remove xs i) j ≡ Some a → slice_get (remove ys i) j ≡ Some b → Both xs ys a b
  both_remove [] ys zero j a b l h k = absurd (none-some a h)
  both_remove [] ys (suc i) j a b l h k = absurd (none-some a h)
  both_remove (c ∷ xs) [] i j a b l h k = absurd (omega (arith, l))
  both_remove (c ∷ xs) (d ∷ ys) zero j a b l h k = (suc j, h, k)
  both_remove (c ∷ xs) (d ∷ ys) (suc i) zero a b l h k = (0, h, k)
  both_remove (c ∷ xs) (d ∷ ys) (suc i) (suc j) a b l h k = later c d xs ys a b (both_remove xs ys i j a b (omega (arith, l)) h k)

  pub both_set : (xs : List A) (ys : List B) (i j : ℕ) (x a : A) (y b : B) → length ys ≡ length xs
      → slice_get (set xs i x) j ≡ Some a → slice_get (set ys i y) j ≡ Some b → ((a ≡ x) × (b ≡ y)) ⊎ Both xs ys a b
  both_set [] ys i j x a y b l h k = absurd (none-some a h)
  both_set (c ∷ xs) [] i j x a y b l h k = absurd (omega (arith, l))
  both_set (c ∷ xs) (d ∷ ys) zero zero x a y b l h k = inl (sym (same_Some x a h), sym (same_Some y b k))
  both_set (c ∷ xs) (d ∷ ys) zero (suc j) x a y b l h k = inr (suc j, h, k)
  both_set (c ∷ xs) (d ∷ ys) (suc i) zero x a y b l h k = inr (0, h, k)
  both_set (c ∷ xs) (d ∷ ys) (suc i) (suc j) x a y b l h k =
      elim (both_set xs ys i j x a y b (omega (arith, l)) h k) [ inl e ↦ inl e | inr t ↦ inr (later c d xs ys a b t) ]

  -- ---- both spliced

  -- lists of one length, whose items stand to one another so at each place
  pub record Paired (R : A → B → Type 0) (xs : List A) (ys : List B) : Type 0 where
    pub as_many : length ys ≡ length xs
    pub each : (i : ℕ) (x : A) (y : B) → slice_get xs i ≡ Some x → slice_get ys i ≡ Some y → R x y

  module _ (R : A → B → Type 0) (xs : List A) (ys : List B) (h : Paired R xs ys) where
    paired_insert : (i : ℕ) (x : A) (y : B) → i ≤ length xs → R x y → Paired R (insert xs i x) (insert ys i y)
    paired_insert i x y w new = record {
      as_many = let l = h.as_many in omega (arith, l, length_insert xs i x w, length_insert ys i y (omega (arith, l, w)));
      each = λ j a b p q.
          elim (both_insert xs ys i j x a y b h.as_many w p q) [
            | inl e ↦ subst (λ (z : A). R z b) (sym e.0) (subst (λ (z : B). R x z) (sym e.1) new)
            | inr t ↦ h.each t.0 a b t.1 t.2
          ];
    }

    paired_remove : (i : ℕ) → i < length xs → Paired R (remove xs i) (remove ys i)
    paired_remove i w = record {
      as_many = let l = h.as_many in omega (arith, l, length_remove xs i w, length_remove ys i (omega (arith, l, w)));
      each = λ j a b p q. let t = both_remove xs ys i j a b h.as_many p q in h.each t.0 a b t.1 t.2;
    }

    pub paired_set : (i : ℕ) (x : A) (y : B) → R x y → Paired R (set xs i x) (set ys i y)
    paired_set i x y new = record {
      as_many = length-set ys i y ∙ h.as_many ∙ sym (length-set xs i x);
      each = λ j a b p q.
          elim (both_set xs ys i j x a y b h.as_many p q) [
            | inl e ↦ subst (λ (z : A). R z b) (sym e.0) (subst (λ (z : B). R x z) (sym e.1) new)
            | inr t ↦ h.each t.0 a b t.1 t.2
          ];
    }

    -- they stand so again when both are spliced in one way
    pub paired_spliced : (splice : Splice A) (other : Splice B) → FitsIn splice xs → IsAlike R splice other → Paired R (spliced splice xs) (spliced other ys)
    paired_spliced Stay Stay fits s = h
    paired_spliced (Put index item room) (Put place made space) fits s =
        let same : place ≡ index = ap place_in s.one_site in
        subst (λ (p : ℕ). Paired R (insert xs index item) (insert ys p made)) (sym same)
        (paired_insert index item made fits.0 (s.related index item made (refl, refl) (sym same, refl)))
    paired_spliced (Take index) (Take place) fits s =
        subst (λ (p : ℕ). Paired R (remove xs index) (remove ys p)) (sym (ap place_in s.one_site)) (paired_remove index fits)
    paired_spliced (Swap index item) (Swap place made) fits s =
        let same : place ≡ index = ap place_in s.one_site in
        subst (λ (p : ℕ). Paired R (set xs index item) (set ys p made)) (sym same)
        (paired_set index item made (s.related index item made (refl, refl) (sym same, refl)))
    paired_spliced Stay (Put place made space) fits s = let k = ap kind_of s.one_site in absurd (omega (arith, k))
    paired_spliced Stay (Take place) fits s = let k = ap kind_of s.one_site in absurd (omega (arith, k))
    paired_spliced Stay (Swap place made) fits s = let k = ap kind_of s.one_site in absurd (omega (arith, k))
    paired_spliced (Put index item room) Stay fits s = let k = ap kind_of s.one_site in absurd (omega (arith, k))
    paired_spliced (Put index item room) (Take place) fits s = let k = ap kind_of s.one_site in absurd (omega (arith, k))
    paired_spliced (Put index item room) (Swap place made) fits s = let k = ap kind_of s.one_site in absurd (omega (arith, k))
    paired_spliced (Take index) Stay fits s = let k = ap kind_of s.one_site in absurd (omega (arith, k))
    paired_spliced (Take index) (Put place made space) fits s = let k = ap kind_of s.one_site in absurd (omega (arith, k))
    paired_spliced (Take index) (Swap place made) fits s = let k = ap kind_of s.one_site in absurd (omega (arith, k))
    paired_spliced (Swap index item) Stay fits s = let k = ap kind_of s.one_site in absurd (omega (arith, k))
    paired_spliced (Swap index item) (Put place made space) fits s = let k = ap kind_of s.one_site in absurd (omega (arith, k))
    paired_spliced (Swap index item) (Take place) fits s = let k = ap kind_of s.one_site in absurd (omega (arith, k))

  -- ---- what they bring

  -- what one brings, the other brings the like of
  pub alike_gives : (R : A → B → Type 0) (splice : Splice A) (other : Splice B) (place : ℕ) (x : A) → IsAlike R splice other → Brings splice place x
      → (y : B) × Brings other place y × R x y
  alike_gives R splice other place x h b =
      let twin = item_of other place (subst (λ (s : Site). HasItem s place) (sym h.one_site) (has_item splice place x b)) in
      (twin.0, twin.1, h.related place x twin.0 b twin.1)

  -- and what that makes of the other's item holds of it
  pub alike_brought : (R : A → B → Type 0) (P : B → Type 0) (splice : Splice A) (other : Splice B) → ((x : A) (y : B) → R x y → P y) → IsAlike R splice other → AllBrought P other
  alike_brought R P splice other each h = all_brought P other (λ place y b.
      let twin = item_of splice place (subst (λ (s : Site). HasItem s place) h.one_site (has_item other place y b)) in
      each twin.0 y (h.related place twin.0 y twin.1 b))

  -- where one fits a list, the other fits one as long, if it has room
  pub fits_alike : (splice : Splice A) (other : Splice B) (xs : List A) (ys : List B) → site_of other ≡ site_of splice → length ys ≡ length xs
      → FitsIn splice xs → IsRoomy (length ys) other → FitsIn other ys
  fits_alike splice other xs ys e l fits roomy =
      fits_of other ys (subst (HasPlace (site_of other)) (sym l) (subst (λ (s : Site). HasPlace s (length xs)) (sym e) (place_of splice xs fits))) roomy
