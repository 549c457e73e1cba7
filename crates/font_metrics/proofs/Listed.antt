-- Maps by a glyph's place, by what contracts see of them.
use Rattle.std.proofs.Common.{◌≡◌, ℕ, ◌<◌, Bool, true, false, cond, nat_eq, nat_lt, List, [], ◌∷◌, ◌++◌, Some, None, refl, ap, sym, ◌∙◌, true≢false, arith, Vec}
use Rattle.std.proofs.lemmas.Bool.Decides.{nat_tests}
use Rattle.std.proofs.lemmas.Option.{none-some}
use Rattle.std.specs.declared.alloc.Global.{Global}
use Rattle.std.specs.declared.cmp.Ordering.{Ordering}
use Rattle.std.specs.declared.cmp.Ordering.TheVariants.{Less, Equal, Greater}
use Rattle.std.specs.BTreeMap.{insert_entry, is_at}
use Rattle.std.specs.List.{AllByRecursion}
use Rattle.std.specs.List.Sorted.{IsStrictlySortedBy}
use Rattle.std.specs.Map.{keys_of, lookup, set_value}
use Rattle.std.specs.Option.{option_map, unwrap_or}
use Rattle.std.specs.Ordering.{nat_cmp, is_eq, match_ordering}
use Rattle.font_metrics.specs.Listed.{lists_of_entries}
use Rattle.font_metrics.specs.Metrics.{ByGlyph, items_of, with_item}

-- the test of a map of numbers is equality
pub at_is_eq : (k n : ℕ) → is_at (nat_cmp k) n ≡ nat_eq k n
at_is_eq k n = by (nat_lt k n) (nat_eq k n) refl refl
  where
    by : (less same : Bool) → nat_lt k n ≡ less → nat_eq k n ≡ same
        → is_eq (cond less Less (cond same Equal Greater)) ≡ same
    by true true h e = absurd (let none : ⊥ = grind (arith, nat_tests) in none)
    by true false h e = refl
    by false true h e = refl
    by false false h e = refl

module _ {X : Type 0} where
  -- what is looked up of the lists
  pub lookup-lists : (k : ℕ) (es : List (ℕ × Vec X Global))
      → lookup (nat_eq k) (lists_of_entries es) ≡ option_map (λ v. v.items) (lookup (is_at (nat_cmp k)) es)
  lookup-lists k [] = refl
  lookup-lists k (e ∷ es) = by (is_at (nat_cmp k) e.0) (nat_eq k e.0) (at_is_eq k e.0) (lookup-lists k es)
    where
      by : (a b : Bool) → a ≡ b
          → lookup (nat_eq k) (lists_of_entries es) ≡ option_map (λ v. v.items) (lookup (is_at (nat_cmp k)) es)
          → cond b (Some e.1.items) (lookup (nat_eq k) (lists_of_entries es))
          ≡ option_map (λ v. v.items) (cond a (Some e.1) (lookup (is_at (nat_cmp k)) es))
      by true true h same = refl
      by false false h same = same
      by true false h same = absurd (true≢false h)
      by false true h same = absurd (true≢false (sym h))

  -- a new entry
  pub lists-insert : (k : ℕ) (v : Vec X Global) (es : List (ℕ × Vec X Global))
      → lists_of_entries (insert_entry nat_cmp es k v) ≡ insert_entry nat_cmp (lists_of_entries es) k v.items
  lists-insert k v [] = refl
  lists-insert k v (e ∷ es) = by (nat_cmp k e.0) (lists-insert k v es)
    where
      by : (o : Ordering)
          → lists_of_entries (insert_entry nat_cmp es k v) ≡ insert_entry nat_cmp (lists_of_entries es) k v.items
          → lists_of_entries (match_ordering o ((k, v) ∷ e ∷ es) ((e.0, v) ∷ es) (e ∷ insert_entry nat_cmp es k v))
          ≡ match_ordering o ((k, v.items) ∷ lists_of_entries (e ∷ es)) ((e.0, v.items) ∷ lists_of_entries es)
          ((e.0, e.1.items) ∷ insert_entry nat_cmp (lists_of_entries es) k v.items)
      by Less same = refl
      by Equal same = refl
      by Greater same = ap (λ l. (e.0, e.1.items) ∷ l) same

over : (b : Bool) → cond b Equal Greater ≡ Less → ⊥
over true m = cc
over false m = cc

pub below : (n k : ℕ) → nat_cmp n k ≡ Less → n < k
below n k h = by (nat_lt n k) refl h
  where
    by : (b : Bool) → nat_lt n k ≡ b → cond b Less (cond (nat_eq n k) Equal Greater) ≡ Less → n < k
    by true l m = grind (arith, nat_tests)
    by false l m = absurd (over (nat_eq n k) m)

differ : (n k m : ℕ) → k < n → n < m → nat_eq k m ≡ true → ⊥
differ n k m h l s = grind (arith, nat_tests)

-- in a map whose keys increase, a key below the first isn't there
absent : {X : Type 0} (k n : ℕ) (es : List (ℕ × X)) → k < n → AllByRecursion (λ y. nat_cmp n y ≡ Less) (keys_of es)
    → lookup (is_at (nat_cmp k)) es ≡ None
absent k n [] h above = refl
absent k n (e ∷ es) h above = by (is_at (nat_cmp k) e.0) (at_is_eq k e.0) (absent k n es h above.1)
  where
    by : (b : Bool) → b ≡ nat_eq k e.0 → lookup (is_at (nat_cmp k)) es ≡ None
        → cond b (Some e.1) (lookup (is_at (nat_cmp k)) es) ≡ None
    by false same more = more
    by true same more = absurd (differ n k e.0 h (below n e.0 above.0) (sym same))

-- a value that is written over one that is there is inserted
pub set_is_insert : {X : Type 0} (k : ℕ) (v w : X) (es : List (ℕ × X)) → IsStrictlySortedBy nat_cmp (keys_of es)
    → lookup (is_at (nat_cmp k)) es ≡ Some v → set_value (is_at (nat_cmp k)) es w ≡ insert_entry nat_cmp es k w
unfolding IsStrictlySortedBy
set_is_insert k v w [] s h = absurd (none-some v h)
set_is_insert k v w (e ∷ es) s h = by (nat_lt k e.0) (nat_eq k e.0) refl refl (set_is_insert k v w es s.1) h
  where
    by : (less same : Bool) → nat_lt k e.0 ≡ less → nat_eq k e.0 ≡ same
        → (lookup (is_at (nat_cmp k)) es ≡ Some v → set_value (is_at (nat_cmp k)) es w ≡ insert_entry nat_cmp es k w)
        → cond (is_eq (cond less Less (cond same Equal Greater))) (Some e.1) (lookup (is_at (nat_cmp k)) es) ≡ Some v
        → cond (is_eq (cond less Less (cond same Equal Greater))) ((e.0, w) ∷ es) (e ∷ set_value (is_at (nat_cmp k)) es w)
        ≡ match_ordering (cond less Less (cond same Equal Greater)) ((k, w) ∷ e ∷ es) ((e.0, w) ∷ es) (e ∷ insert_entry nat_cmp es k w)
    by true same l m more found =
        let less : k < e.0 = grind (arith, nat_tests) in
        absurd (none-some v (sym (absent k e.0 es less s.0) ∙ found))
    by false true l m more found = refl
    by false false l m more found = ap (λ l. e ∷ l) (more found)

module _ {X : Type 0} where
  -- an item is added to a list that is there
  pub added : (k : ℕ) (v w : Vec X Global) (x : X) (es : List (ℕ × Vec X Global))
      → IsStrictlySortedBy nat_cmp (keys_of es) → lookup (is_at (nat_cmp k)) es ≡ Some v → w.items ≡ v.items ++ x ∷ []
      → lists_of_entries (set_value (is_at (nat_cmp k)) es w) ≡ with_item (lists_of_entries es) k x
  added k v w x es s found h =
      ap lists_of_entries (set_is_insert k v w es s found) ∙ lists-insert k w es
      ∙ ap (insert_entry nat_cmp (lists_of_entries es) k)
      (h ∙ ap (λ l. l ++ x ∷ []) (sym (items k es v found)))
    where
      items : (k : ℕ) (es : List (ℕ × Vec X Global)) (v : Vec X Global) → lookup (is_at (nat_cmp k)) es ≡ Some v
          → items_of (lists_of_entries es) k ≡ v.items
      items k es v found = ap (λ o. unwrap_or o []) (lookup-lists k es ∙ ap (option_map (λ v. v.items)) found)

  -- or begins one
  pub begun : (k : ℕ) (w : Vec X Global) (x : X) (es : List (ℕ × Vec X Global))
      → lookup (is_at (nat_cmp k)) es ≡ None → w.items ≡ x ∷ []
      → lists_of_entries (insert_entry nat_cmp es k w) ≡ with_item (lists_of_entries es) k x
  begun k w x es none h =
      lists-insert k w es
      ∙ ap (insert_entry nat_cmp (lists_of_entries es) k)
      (h ∙ ap (λ o. unwrap_or o [] ++ x ∷ []) (sym (lookup-lists k es ∙ ap (option_map (λ v. v.items)) none)))

  -- the same for a map that is seen as a table
  pub added_to : (k : ℕ) (v w : Vec X Global) (x : X) (es new : List (ℕ × Vec X Global)) (now : ByGlyph X)
      → new ≡ set_value (is_at (nat_cmp k)) es w → IsStrictlySortedBy nat_cmp (keys_of es)
      → lookup (is_at (nat_cmp k)) es ≡ Some v → w.items ≡ v.items ++ x ∷ [] → lists_of_entries es ≡ now
      → lists_of_entries new ≡ with_item now k x
  added_to k v w x es new now e s found h seen =
      ap lists_of_entries e ∙ added k v w x es s found h ∙ ap (λ t. with_item t k x) seen

  pub begun_in : (k : ℕ) (w : Vec X Global) (x : X) (es old new : List (ℕ × Vec X Global)) (now : ByGlyph X)
      → new ≡ insert_entry nat_cmp old k w → old ≡ es → lookup (is_at (nat_cmp k)) es ≡ None
      → w.items ≡ x ∷ [] → lists_of_entries es ≡ now → lists_of_entries new ≡ with_item now k x
  begun_in k w x es old new now e same none h seen =
      ap lists_of_entries (e ∙ ap (λ m. insert_entry nat_cmp m k w) same) ∙ begun k w x es none h
      ∙ ap (λ t. with_item t k x) seen
