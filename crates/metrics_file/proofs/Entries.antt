-- What is looked up behind an entry that was put.
use Rattle.std.proofs.Common.{◌≡◌, ◌∙◌, sym, ap, refl, ℕ, Bool, true, false, cond, nat_eq, nat_lt, List, [], ◌∷◌, ◌++◌, Option, Some, arith, append-nil, true≢false}
use Rattle.std.proofs.lemmas.Bool.Decides.{nat_tests}
use Rattle.std.specs.BTreeMap.{insert_entry}
use Rattle.std.specs.Map.{lookup}
use Rattle.std.specs.Option.{unwrap_or}
use Rattle.std.specs.declared.cmp.Ordering.TheVariants.{Less, Equal, Greater}
use Rattle.std.specs.Ordering.{nat_cmp, match_ordering}
use Rattle.metrics_file.specs.Laws.{one_if}
use Rattle.font_metrics.specs.Metrics.{ByGlyph, items_of, with_item}

apart : (q k n : ℕ) → nat_lt k n ≡ false → nat_eq k n ≡ false → nat_eq q n ≡ true → nat_eq q k ≡ true → ⊥
apart q k n l m a b = grind (arith, nat_tests)

pub equal : (k n : ℕ) → nat_eq k n ≡ true → k ≡ n
equal k n h = grind (arith, nat_tests)

module _ {X : Type 0} where
  over : (a b : Bool) (v w : X) (r : Option X) → b ≡ a
      → cond a (Some v) r ≡ cond b (Some v) (cond a (Some w) r)
  over true true v w r h = refl
  over false false v w r h = refl
  over true false v w r h = absurd (true≢false (sym h))
  over false true v w r h = absurd (true≢false h)

  past : (a b : Bool) (v w : X) (r : Option X) → (a ≡ true → b ≡ true → ⊥)
      → cond a (Some w) (cond b (Some v) r) ≡ cond b (Some v) (cond a (Some w) r)
  past true true v w r h = absurd (h refl refl)
  past true false v w r h = refl
  past false b v w r h = refl

  -- what is looked up behind an entry that was put
  pub lookup-put : (q k : ℕ) (v : X) (es : List (ℕ × X))
      → lookup (nat_eq q) (insert_entry nat_cmp es k v) ≡ cond (nat_eq q k) (Some v) (lookup (nat_eq q) es)
  lookup-put q k v [] = refl
  lookup-put q k v (e ∷ es) = by (nat_lt k e.0) (nat_eq k e.0) refl refl (lookup-put q k v es)
    where
      by : (less same : Bool) → nat_lt k e.0 ≡ less → nat_eq k e.0 ≡ same
          → lookup (nat_eq q) (insert_entry nat_cmp es k v) ≡ cond (nat_eq q k) (Some v) (lookup (nat_eq q) es)
          → lookup (nat_eq q)
          (match_ordering (cond less Less (cond same Equal Greater)) ((k, v) ∷ e ∷ es) ((e.0, v) ∷ es) (e ∷ insert_entry nat_cmp es k v))
          ≡ cond (nat_eq q k) (Some v) (cond (nat_eq q e.0) (Some e.1) (lookup (nat_eq q) es))
      by true same l m more = refl
      by false true l m more =
          over (nat_eq q e.0) (nat_eq q k) v e.1 (lookup (nat_eq q) es) (ap (nat_eq q) (equal k e.0 m))
      by false false l m more =
          ap (λ r. cond (nat_eq q e.0) (Some e.1) r) more
          ∙ past (nat_eq q e.0) (nat_eq q k) v e.1 (lookup (nat_eq q) es) (apart q k e.0 l m)

module _ {X : Type 0} where
  -- one more item of a glyph
  pub item-put : (q place : ℕ) (x : X) (table : ByGlyph X)
      → items_of (with_item table place x) q ≡ items_of table q ++ one_if (nat_eq q place) x
  item-put q place x table = ap (λ o. unwrap_or o []) (lookup-put q place _ table) ∙ by (nat_eq q place) refl
    where
      by : (b : Bool) → nat_eq q place ≡ b
          → unwrap_or (cond b (Some (items_of table place ++ x ∷ [])) (lookup (nat_eq q) table)) []
          ≡ items_of table q ++ one_if b x
      by false e = sym (append-nil (items_of table q))
      by true e = ap (λ n. items_of table n ++ x ∷ []) (sym (equal q place e))
