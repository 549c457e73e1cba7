-- Where only what is needed is kept, there are at most two entries of each element.
use Rattle.std.proofs.Common.{◌≡◌, refl, sym, subst, ℕ, suc, ◌*◌, ◌≤◌, arith, Bool, true, false, cond, ◌⊎◌, inl, inr, List, [], ◌∷◌, filter, length, map, Some, slice_get}
use Rattle.std.proofs.lemmas.List.Sums.{sum_by-cons}
use Rattle.std.specs.List.{AllByRecursion, sum, sum_by}
use Rattle.std.specs.Prelude.{⊤}
use Rattle.font_metrics.specs.Metrics.{MetricsValue}
use Rattle.math_tree.specs.Trees.{element_count}
use Rattle.math_tree.specs.declared.node.Node.{Node}
use Rattle.math_tree.specs.declared.node.Node.TheViews.{out-Node}
use Rattle.math_tree.proofs.Counts.{elements_are}
use Rattle.math_tree.proofs.Nodes.{by_children}
use Rattle.layout_model.specs.Waves.{MayBeAsked}
use Rattle.layout_model.specs.declared.context.Context.{Context}
use Rattle.layout_model.proofs.TwoContexts.{two_contexts}
use Rattle.kept_results.specs.Ends.{kept_count}
use Rattle.kept_results.specs.Kept.{Agrees, AreApart, HasEntry, Holds, IsMissing, StandAt, is_live, is_marked}
use Rattle.kept_results.specs.Passes.{Needs, Pair}
use Rattle.kept_results.specs.declared.memo.Entry.{Entry}
use Rattle.kept_results.specs.declared.memo.Memo.{Memo}
use Rattle.kept_results.specs.declared.memo.Memo.TheOpen.{Memo-F}
use Rattle.kept_results.specs.declared.memo.Memo.TheViews.{out-Memo}
use Rattle.kept_results.proofs.Counts.{count_out}
use Rattle.kept_laid.specs.Few.{FewLaw, KeepsNoOther, LimitLaw}

-- ---- the entries of one element

abbrev Differ : List Entry → Type 0
Differ [] = ⊤
Differ (entry ∷ entries) = AllByRecursion (λ (other : Entry). entry.context ≡ other.context → ⊥) entries × Differ entries

module _ (marked : Bool) where
  abbrev live : List Entry → List Entry
  live entries = filter (is_live marked) entries

  others_differ : (context : Context) (entries : List Entry) → IsMissing marked context entries → AllByRecursion (λ (other : Entry). context ≡ other.context → ⊥) (live entries)
  others_differ context [] h = tt
  others_differ context (e ∷ entries) h = by (is_live marked e) refl (others_differ context entries h.1)
    where
      by : (b : Bool) → is_live marked e ≡ b → AllByRecursion (λ (other : Entry). context ≡ other.context → ⊥) (live entries)
          → AllByRecursion (λ (other : Entry). context ≡ other.context → ⊥) (cond b (e ∷ live entries) (live entries))
      by true is rest = (λ same. h.0 is (sym same), rest)
      by false is rest = rest

  live_differ : (entries : List Entry) → AreApart marked entries → Differ (live entries)
  live_differ [] h = tt
  live_differ (e ∷ entries) h = by (is_live marked e) refl (live_differ entries h.1)
    where
      by : (b : Bool) → is_live marked e ≡ b → Differ (live entries) → Differ (cond b (e ∷ live entries) (live entries))
      by true is rest = (others_differ e.context entries (h.0 is), rest)
      by false is rest = rest

  all_live : (P : Entry → Type 0) (entries : List Entry) → ((place : ℕ) (entry : Entry) → slice_get entries place ≡ Some entry → is_live marked entry ≡ true → P entry)
      → AllByRecursion P (live entries)
  all_live P [] h = tt
  all_live P (e ∷ entries) h = by (is_live marked e) refl (all_live P entries (λ place. h (suc place)))
    where
      by : (b : Bool) → is_live marked e ≡ b → AllByRecursion P (live entries) → AllByRecursion P (cond b (e ∷ live entries) (live entries))
      by true is rest = (h 0 e refl is, rest)
      by false is rest = rest

-- of three in contexts of which two are the same, two don't differ
two_at_most : (P : Context → Type 0) (entries : List Entry) → ((a b d : Context) → P a → P b → P d → (a ≡ b) ⊎ ((a ≡ d) ⊎ (b ≡ d)))
    → Differ entries → AllByRecursion (λ (entry : Entry). P entry.context) entries → length entries ≤ 2
two_at_most P [] two differ all = omega arith
two_at_most P (a ∷ []) two differ all = omega arith
two_at_most P (a ∷ b ∷ []) two differ all = omega arith
two_at_most P (a ∷ b ∷ d ∷ entries) two differ all =
    absurd (elim (two a.context b.context d.context all.0 all.1.0 all.1.1.0) [
      | inl same ↦ differ.0.0 same
      | inr other ↦ elim other [ inl same ↦ differ.0.1.0 same | inr same ↦ differ.1.0.0 same ]
    ])

-- ---- the entries of a tree

abbrev live_count : Memo-F Memo → ℕ
live_count layer = length (filter (is_live (is_marked layer)) layer.entries)

-- each element has a memo with at most two entries
record HasFew (element : Node) (layer : Memo-F Memo) : Type 0 where
  as_many : length layer.below ≡ length (out-Node element).children
  few : live_count layer ≤ 2

abbrev AllHaveFew : Node → Memo → Type 0
AllHaveFew node memo = (path : List ℕ) (element : Node) (kept : Memo) → StandAt path node memo element kept → HasFew element (out-Memo kept)

abbrev IsBounded : Node → Type 0
IsBounded node = (memo : Memo) → AllHaveFew node memo → kept_count memo ≤ 2 * element_count node

children_bounded : (nodes : List Node) (memos : List Memo) → length memos ≡ length nodes → AllByRecursion IsBounded nodes
    → ((place : ℕ) (child : Node) (kept : Memo) → slice_get nodes place ≡ Some child → slice_get memos place ≡ Some kept → AllHaveFew child kept)
    → sum (map kept_count memos) ≤ 2 * sum_by element_count nodes
children_bounded [] [] e h few = omega arith
children_bounded [] (memo ∷ memos) e h few = absurd (omega (arith, e))
children_bounded (node ∷ nodes) [] e h few = absurd (omega (arith, e))
children_bounded (node ∷ nodes) (memo ∷ memos) e h few =
    let one = h.0 memo (few 0 node memo refl refl) in
    let rest = children_bounded nodes memos (omega (arith, e)) h.1 (λ place. few (suc place)) in
    omega (arith, one, rest, sum_by-cons (λ (n : ℕ). n) (kept_count memo) (map kept_count memos), sum_by-cons element_count node nodes)

all_bounded : (node : Node) → IsBounded node
all_bounded = by_children IsBounded (λ node h memo few.
    let here = few [] node memo (refl, refl) in
    let below = children_bounded (out-Node node).children (out-Memo memo).below here.as_many h
    (λ place child kept a b path element other s. few (place ∷ path) element other (child, kept, a, b, s)) in
    omega (arith, here.few, below, count_out memo, elements_are node))

-- ---- what the root needs

held_at : (path : List ℕ) (node : Node) (memo : Memo) (element : Node) (kept : Memo) (entry : Entry) → StandAt path node memo element kept
    → HasEntry (out-Memo kept) entry → Holds path memo entry
held_at [] node memo element kept entry s has = subst (λ (k : Memo). HasEntry (out-Memo k) entry) s.1 has
held_at (place ∷ path) node memo element kept entry s has = (s.1, s.3, held_at path s.0 s.1 element kept entry s.4 has)

abbrev pair_of : List ℕ → Context → Pair
pair_of path context = record { path = path; context = context }

module _ (m : MetricsValue) (node : Node) (context : Context) (memo : Memo) (may : MayBeAsked m node context) (agrees : Agrees m node memo) (needed : KeepsNoOther m node context memo) where
  abbrev NeedsAt : List ℕ → Context → Type 0
  NeedsAt path other = Needs m node context (pair_of path other)

  all_few : AllHaveFew node memo
  all_few path element kept s =
      let here = agrees.at path element kept s in
      let layer : Memo-F Memo = out-Memo kept in
      record {
        as_many = here.as_many;
        few = two_at_most (NeedsAt path) (live (is_marked layer) layer.entries)
            (λ a b d h k l. two_contexts m node context may path h.element k.element l.element a b d h.made k.made l.made)
            (live_differ (is_marked layer) layer.entries here.apart)
            (all_live (is_marked layer) (λ (entry : Entry). NeedsAt path entry.context) layer.entries
            (λ place entry at is. needed (pair_of path entry.context) record { entry = entry; held = held_at path node memo element kept entry s record { place = place; at = at; live = is }; in_context = refl }));
      }

pub few_law : FewLaw
few_law m node context memo may agrees needed = all_bounded node memo (all_few m node context memo may agrees needed)

pub limit_law : LimitLaw
limit_law m node context memo may agrees needed few = omega (arith, few, few_law m node context memo may agrees needed)
