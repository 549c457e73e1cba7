-- How the tables stand beside one another: each holds what was put there, and the others stay.
use Rattle.std.proofs.Common.{◌≡◌, ◌∙◌, ap, refl, subst, sym, ℕ, ◌≤◌, ◌<◌, arith, Bool, true, false, ◌&&◌, List, [], ◌∷◌, ◌++◌, nat_eq, append-nil, true≢false, ◌⊎◌, inl, inr}
use Rattle.std.specs.List.{AllByRecursion}
use Rattle.std.proofs.lemmas.Bool.{and_parts}
use Rattle.op_dictionary.specs.declared.operator.Axis.TheVariants.{Block, Inline}
use Rattle.font_metrics.specs.declared.corner.Corner.TheVariants.{TopRight, TopLeft, BottomRight, BottomLeft}
use Rattle.font_metrics.specs.declared.table.Table.{Table}
use Rattle.font_metrics.specs.declared.table.Table.TheVariants.{Variants, Parts, Kerns}
use Rattle.font_metrics.specs.declared.table.Tables.{Tables}
use Rattle.metrics_file.specs.Laws.{one_if, of_table}
use Rattle.font_metrics.specs.Metrics.{ByGlyph, items_of, with_item}
use Rattle.font_metrics.specs.Ranges.{IsTable}
use Rattle.font_metrics.specs.Tables.{EntryOf, slot, entries, with_entry, no_tables, all_tables, AreFilled, IsSound}
use Rattle.metrics_file.proofs.Entries.{item-put}
use Rattle.metrics_file.proofs.TableKinds.Each.{kind}

-- another table, which stays as it was where one is put, and whose entries that one's aren't
pub record IsOther (t other : Table) : Type 0 where
  pub stays : (tables : Tables) (table : ByGlyph (EntryOf t)) → entries other ((slot t).put tables table) ≡ entries other tables
  pub says : (xs : List (EntryOf t)) → of_table other t xs ≡ []

pub same-or-other : (t other : Table) → (t ≡ other) ⊎ IsOther t other
same-or-other (Variants Block) (Variants Block) = inl refl
same-or-other (Variants Inline) (Variants Inline) = inl refl
same-or-other (Parts Block) (Parts Block) = inl refl
same-or-other (Parts Inline) (Parts Inline) = inl refl
same-or-other (Kerns TopRight) (Kerns TopRight) = inl refl
same-or-other (Kerns TopLeft) (Kerns TopLeft) = inl refl
same-or-other (Kerns BottomRight) (Kerns BottomRight) = inl refl
same-or-other (Kerns BottomLeft) (Kerns BottomLeft) = inl refl
same-or-other t other = inr (record { stays = λ tables table. refl; says = λ xs. refl })

-- what holds of a table that is put and of all others holds of all
pub put-filled : (count : ℕ) (t : Table) (tables : Tables) (table : ByGlyph (EntryOf t))
    → IsTable count (slot t).most (IsSound t count) table → AreFilled count tables
    → AreFilled count ((slot t).put tables table)
put-filled count t tables table h k other = by (same-or-other t other)
  where
    by : (t ≡ other) ⊎ IsOther t other
        → IsTable count (slot other).most (IsSound other count) (entries other ((slot t).put tables table))
    by (inl same) =
        subst (λ o. IsTable count (slot o).most (IsSound o count) (entries o ((slot t).put tables table))) same
        (subst (IsTable count (slot t).most (IsSound t count)) (sym ((kind t).stands.at-put tables table)) h)
    by (inr is) = subst (IsTable count (slot other).most (IsSound other count)) (sym (is.stays tables table)) (k other)

-- so with tables that are empty in a version
pub put-known : (version : ℕ) (t : Table) (tables : Tables) (table : ByGlyph (EntryOf t)) → (slot t).since ≤ version
    → ((o : Table) → version < (slot o).since → entries o tables ≡ [])
    → (o : Table) → version < (slot o).since → entries o ((slot t).put tables table) ≡ []
put-known version t tables table had known other late = by (same-or-other t other)
  where
    by : (t ≡ other) ⊎ IsOther t other → entries other ((slot t).put tables table) ≡ []
    by (inl same) =
        let since : (slot t).since ≡ (slot other).since = ap (λ o. (slot o).since) same in
        absurd (let none : ⊥ = omega (arith, had, late, since) in none)
    by (inr is) = is.stays tables table ∙ known other late

-- one more entry stands behind those of its table and glyph
pub entry-more : (t other : Table) (q place : ℕ) (x : EntryOf other) (tables : Tables)
    → items_of (entries t (with_entry other tables place x)) q
    ≡ items_of (entries t tables) q ++ of_table t other (one_if (nat_eq q place) x)
entry-more t other q place x tables = by (same-or-other other t)
  where
    here : items_of (entries other (with_entry other tables place x)) q
        ≡ items_of (entries other tables) q ++ of_table other other (one_if (nat_eq q place) x)
    here =
        ap (λ (table : ByGlyph (EntryOf other)). items_of table q) ((kind other).stands.at-put tables (with_item (entries other tables) place x))
        ∙ item-put q place x (entries other tables)
        ∙ ap (λ (l : List (EntryOf other)). items_of (entries other tables) q ++ l)
        (sym ((kind other).stands.own (one_if (nat_eq q place) x)))

    by : (other ≡ t) ⊎ IsOther other t
        → items_of (entries t (with_entry other tables place x)) q
        ≡ items_of (entries t tables) q ++ of_table t other (one_if (nat_eq q place) x)
    by (inl same) =
        subst (λ o. items_of (entries o (with_entry other tables place x)) q ≡ items_of (entries o tables) q ++ of_table o other (one_if (nat_eq q place) x))
        same here
    by (inr is) =
        ap (λ (table : ByGlyph (EntryOf t)). items_of table q) (is.stays tables (with_item (entries other tables) place x))
        ∙ sym (append-nil (items_of (entries t tables) q))
        ∙ ap (λ (l : List (EntryOf t)). items_of (entries t tables) q ++ l) (sym (is.says (one_if (nat_eq q place) x)))

pub no-entry : (t : Table) (place : ℕ) → items_of (entries t no_tables) place ≡ []
no-entry t place = ap (λ (table : ByGlyph (EntryOf t)). items_of table place) (kind t).stands.none

-- ---- tables that are put in turn

-- the tables in which these tables are put in turn
abbrev pub put_each : List Table → ((t : Table) → ByGlyph (EntryOf t)) → Tables → Tables
put_each [] new tables = tables
put_each (t ∷ ts) new tables = put_each ts new ((slot t).put tables (new t))

pub put_each-same : (ts : List Table) (new other : (t : Table) → ByGlyph (EntryOf t)) (tables : Tables)
    → ((t : Table) → new t ≡ other t) → put_each ts new tables ≡ put_each ts other tables
put_each-same [] new other tables h = refl
put_each-same (t ∷ ts) new other tables h =
    ap (λ (table : ByGlyph (EntryOf t)). put_each ts new ((slot t).put tables table)) (h t)
    ∙ put_each-same ts new other ((slot t).put tables (other t)) h

abbrev pub is_other : {t other : Table} → (t ≡ other) ⊎ IsOther t other → Bool
is_other (inl same) = false
is_other (inr is) = true

other-is : {t other : Table} (s : (t ≡ other) ⊎ IsOther t other) → is_other s ≡ true → IsOther t other
other-is (inl same) h = absurd (true≢false (sym h))
other-is (inr is) h = is

-- each of the list is another table than this one, either way
abbrev pub are_other : Table → List Table → Bool
are_other t [] = true
are_other t (o ∷ os) = is_other (same-or-other t o) && (is_other (same-or-other o t) && are_other t os)

-- no table stands in the list twice
abbrev pub are_distinct : List Table → Bool
are_distinct [] = true
are_distinct (t ∷ ts) = are_other t ts && are_distinct ts

pub all-distinct : are_distinct all_tables ≡ true
unfolding same-or-other
all-distinct = refl

-- each of these tables has this in all
abbrev pub AreAt : List Table → ((t : Table) → ByGlyph (EntryOf t)) → Tables → Type 0
AreAt ts new tables = AllByRecursion (λ t. entries t tables ≡ new t) ts

-- the others stay where a table is put
pub others-stay : (t : Table) (table : ByGlyph (EntryOf t)) (ts : List Table) (new : (t : Table) → ByGlyph (EntryOf t))
    (tables : Tables) → are_other t ts ≡ true → AreAt ts new tables → AreAt ts new ((slot t).put tables table)
others-stay t table [] new tables h k = tt
others-stay t table (o ∷ os) new tables h k =
    let p = and_parts (is_other (same-or-other t o)) (is_other (same-or-other o t) && are_other t os) h in
    let q = and_parts (is_other (same-or-other o t)) (are_other t os) p.1 in
    ((other-is (same-or-other t o) p.0).stays tables table ∙ k.0, others-stay t table os new tables q.1 k.1)

-- a table stays where all of these others are put
stays-among : (t : Table) (ts : List Table) (new : (t : Table) → ByGlyph (EntryOf t)) (tables : Tables)
    → are_other t ts ≡ true → entries t (put_each ts new tables) ≡ entries t tables
stays-among t [] new tables h = refl
stays-among t (o ∷ os) new tables h =
    let p = and_parts (is_other (same-or-other t o)) (is_other (same-or-other o t) && are_other t os) h in
    let q = and_parts (is_other (same-or-other o t)) (are_other t os) p.1 in
    stays-among t os new ((slot o).put tables (new o)) q.1 ∙ (other-is (same-or-other o t) q.0).stays tables (new o)

pub put_each-at : (ts : List Table) (new : (t : Table) → ByGlyph (EntryOf t)) (tables : Tables)
    → are_distinct ts ≡ true → AreAt ts new (put_each ts new tables)
put_each-at [] new tables h = tt
put_each-at (t ∷ ts) new tables h =
    let p = and_parts (are_other t ts) (are_distinct ts) h in
    let one = (slot t).put tables (new t) in
    (stays-among t ts new one p.0 ∙ (kind t).stands.at-put tables (new t), put_each-at ts new one p.1)
