-- Maps that are made again, by what contracts see of them.
use Rattle.std.proofs.Common.{◌≡◌, ◌∙◌, ap, refl, sym, subst, ℕ, List, [], ◌∷◌, ◌++◌, Vec}
use Rattle.std.specs.BTreeMap.{insert_entry}
use Rattle.std.specs.List.Sorted.{IsStrictlySortedBy}
use Rattle.std.specs.Map.{keys_of}
use Rattle.std.specs.Ordering.{nat_cmp}
use Rattle.std.specs.declared.alloc.Global.{Global}
use Rattle.std.proofs.lemmas.List.{append_assoc}
use Rattle.font_metrics.specs.Listed.{lists_of_entries}
use Rattle.font_metrics.specs.Metrics.{ByGlyph}
use Rattle.font_metrics.proofs.Listed.{lists-insert}
use Rattle.font_metrics.proofs.Filled.{sorted-middle, insert-above}

keys-lists : {X : Type 0} (es : List (ℕ × Vec X Global)) → keys_of (lists_of_entries es) ≡ keys_of es
keys-lists [] = refl
keys-lists (e ∷ es) = ap (λ keys. e.0 ∷ keys) (keys-lists es)

-- one list more of those that are left, which are in order
pub list-more : {X : Type 0} (all had new left rest : List (ℕ × Vec X Global)) (table : ByGlyph X) (place : ℕ)
    (items made : Vec X Global) → IsStrictlySortedBy nat_cmp (keys_of all) → lists_of_entries all ≡ table
    → lists_of_entries had ++ lists_of_entries left ≡ table → left ≡ (place, items) ∷ rest
    → made.items ≡ items.items → new ≡ insert_entry nat_cmp had place made
    → lists_of_entries new ++ lists_of_entries rest ≡ table
list-more all had new left rest table place items made sorted seen so_far next same put =
    let front = lists_of_entries had in
    let back = lists_of_entries rest in
    let middle : front ++ (place, items.items) ∷ back ≡ table =
    ap (λ entries. front ++ lists_of_entries entries) (sym next) ∙ so_far in
    let ordered : IsStrictlySortedBy nat_cmp (keys_of table) =
    subst (IsStrictlySortedBy nat_cmp) (sym (keys-lists all) ∙ ap keys_of seen) sorted in
    let below = sorted-middle table front (place, items.items) back middle ordered in
    ap (λ entries. entries ++ back)
    (ap lists_of_entries put ∙ lists-insert place made had ∙ ap (insert_entry nat_cmp front place) same
    ∙ insert-above front place items.items below)
    ∙ append_assoc front ((place, items.items) ∷ []) back ∙ middle
