-- Layouts that are counted by places are counted by ids.
use Rattle.std.proofs.Common.{◌≡◌, ◌∙◌, ◌⊎◌, inl, inr, refl, sym, ap, subst, ℕ, ◌+◌, ◌<◌, arith, suc, true, true≢false, List, [], ◌∷◌, length, Some}
use Rattle.std.proofs.lemmas.Bool.{or_cases}
use Rattle.std.proofs.lemmas.Bool.Decides.{Decides-eqb}
use Rattle.std.proofs.lemmas.List.Elements.{recursion_from_All}
use Rattle.std.specs.List.{AllByRecursion, list_any}
use Rattle.font_metrics.specs.Metrics.{MetricsValue}
use Rattle.math_tree.specs.Trees.{IsWhole, Listed, TreeValue, ids_of, listed}
use Rattle.math_tree.specs.declared.node.Node.{Node}
use Rattle.tree_edits.specs.Edits.{edited, has_id, head_of}
use Rattle.tree_edits.specs.Paths.{changed, changed_at, node_at}
use Rattle.tree_edits.specs.declared.change.Change.{Change}
use Rattle.tree_edits.specs.declared.edit.Edit.{Edit}
use Rattle.layout_model.specs.Layout.{Visit}
use Rattle.layout_model.specs.Made.{IsMade, visit_of}
use Rattle.layout_model.specs.declared.context.Context.{Context}
use Rattle.layout_model.proofs.Made.{made as made_law}
use Rattle.kept_results.specs.Passes.{HasNoRepeat, IsPairMissing, Needs, Pair}
use Rattle.kept_results.specs.declared.memo.Memo.{Memo}
use Rattle.kept_results.proofs.Lists.{all_then}
use Rattle.kept_edits.specs.ByIds.{HasId, IdPair, IsEditAt, IsNeeded, IsOnPath, IsVisited, NeedLaw, NoneTwice, PassNeedLaw, TakesNeeded, context_at_root}
use Rattle.kept_edits.specs.Changed.{changed_memo}
use Rattle.kept_edits.specs.Need.{IsCounted}
use Rattle.kept_edits.specs.Passed.{TakesMissing}
use Rattle.kept_edits.proofs.IdWays.{made_at, one_way_law}
use Rattle.kept_edits.proofs.Needing.{missing_counted}
use Rattle.kept_edits.proofs.Origins.{HasOrigin, id_of, origin}

own_id : (element : Node) → has_id (id_of element) (head_of element) ≡ true
own_id element = (Decides-eqb (id_of element) (id_of element)).1 refl

-- ---- layouts of a tree

module _ (m : MetricsValue) (tree : TreeValue) where
  abbrev context : Context
  context = context_at_root m tree

  abbrev pub IsNeededThere : Pair → Type 0
  IsNeededThere pair = Needs m tree.root context pair

  -- a layout that is needed, by the id of its element
  abbrev pub named : (pair : Pair) → IsNeededThere pair → IdPair
  named pair need = record { id = id_of need.element; context = pair.context }

  pub stands_at : (pair : Pair) (need : IsNeededThere pair) → node_at pair.path tree.root ≡ Some need.element
  stands_at pair need = made_at m pair.path tree.root context need.element pair.context need.made

  pub visited : (pair : Pair) (need : IsNeededThere pair) → IsVisited m tree (named pair need)
  visited pair need =
      let visit : Visit = visit_of m need.element pair.context in
      record {
        visit = visit;
        made = (made_law m tree.root context visit).1 (pair.path, need.element, pair.context, need.made, refl);
        id_is = refl;
        context_is = refl;
      }

  -- in a whole tree it stands where the element of that id does
  pub needed_at : (path : List ℕ) (element : Node) (made : Context) → IsWhole tree → node_at path tree.root ≡ Some element
      → IsVisited m tree record { id = id_of element; context = made } → IsNeededThere record { path = path; context = made }
  needed_at path element made whole at v =
      let found = (made_law m tree.root context v.visit).0 v.made in
      let same_id : id_of found.1 ≡ id_of element = sym (ap (λ (z : Visit). z.id.0) found.4) ∙ v.id_is in
      let same_context : found.2 ≡ made = sym (ap (λ (z : Visit). z.context) found.4) ∙ v.context_is in
      let there = made_at m found.0 tree.root context found.1 found.2 found.3 in
      let has = (Decides-eqb (id_of found.1) (id_of element)).1 same_id in
      let way : found.0 ≡ path = one_way_law tree found.0 path found.1 element (id_of element) whole there has at (own_id element) in
      record { element = found.1; made = subst (λ (c : Context). IsMade m path tree.root context found.1 c) same_context (subst (λ (p : List ℕ). IsMade m p tree.root context found.1 found.2) way found.3) }

  -- two of one id in one context are one
  told : IsWhole tree → (p q : Pair) (x : IsNeededThere p) (y : IsNeededThere q) → named p x ≡ named q y → p ≡ q
  told whole p q x y same =
      let id = ap (λ (z : IdPair). z.id) same in
      let alike = ap (λ (z : IdPair). z.context) same in
      let has = (Decides-eqb (id_of x.element) (id_of y.element)).1 id in
      let way = one_way_law tree p.path q.path x.element y.element (id_of y.element) whole (stands_at p x) has (stands_at q y) (own_id y.element) in
      λ i. record { path = way i; context = alike i }

  -- ---- lists of them

  abbrev pub all_named : (pairs : List Pair) → AllByRecursion IsNeededThere pairs → List IdPair
  all_named [] needs = []
  all_named (pair ∷ pairs) needs = named pair needs.0 ∷ all_named pairs needs.1

  pub as_many : (pairs : List Pair) (needs : AllByRecursion IsNeededThere pairs) → length (all_named pairs needs) ≡ length pairs
  as_many [] needs = refl
  as_many (pair ∷ pairs) needs = ap (λ n. suc n) (as_many pairs needs.1)

  others_apart : IsWhole tree → (pair : Pair) (need : IsNeededThere pair) (pairs : List Pair) (needs : AllByRecursion IsNeededThere pairs)
      → AllByRecursion (λ other. pair ≡ other → ⊥) pairs → AllByRecursion (λ other. named pair need ≡ other → ⊥) (all_named pairs needs)
  others_apart whole pair need [] needs h = tt
  others_apart whole pair need (other ∷ pairs) needs h =
      (λ same. h.0 (told whole pair other need needs.0 same), others_apart whole pair need pairs needs.1 h.1)

  pub none_twice : IsWhole tree → (pairs : List Pair) (needs : AllByRecursion IsNeededThere pairs) → HasNoRepeat pairs → NoneTwice (all_named pairs needs)
  none_twice whole [] needs h = tt
  none_twice whole (pair ∷ pairs) needs h = (others_apart whole pair needs.0 pairs needs.1 h.0, none_twice whole pairs needs.1 h.1)

-- ---- after an edit

module _ (m : MetricsValue) (tree : TreeValue) (edit : Edit) (change : Change) (path : List ℕ) (is : IsEditAt tree edit change path) where
  abbrev after : TreeValue
  after = edited tree edit

  why : (pair : Pair) (need : IsNeededThere m after pair) → IsCounted m path change tree.root (context_at_root m tree) pair
      → HasOrigin (λ id. HasId tree id → ⊥) path change tree.root pair.path need.element
      → IsOnPath tree edit (id_of need.element) ⊎ ((HasId tree (id_of need.element) → ⊥) ⊎ (IsVisited m tree (named m after pair need) → ⊥))
  why pair need counted (inl on) =
      inl (record { path = path; to_end = is.to_end; front = on.front; rest = on.rest; parts = on.parts; element = on.element; at = on.at; has = on.has })
  why pair need counted (inr (inl fresh)) = inr (inl fresh)
  why pair need counted (inr (inr came)) =
      inr (inr (λ v. counted came.0 came.1 (needed_at m tree came.0 need.element pair.context is.whole came.2 v)))

  needed : (pair : Pair) (need : IsNeededThere m after pair) → IsCounted m path change tree.root (context_at_root m tree) pair
      → IsNeeded m tree edit (named m after pair need)
  needed pair need counted =
      let at : node_at pair.path (changed_at (changed change) path tree.root) ≡ Some need.element =
      ap (node_at pair.path) (sym is.is.gives) ∙ stands_at m after pair need in
      record {
        visited = visited m after pair need;
        why = why pair need counted (origin (λ id. HasId tree id → ⊥) change is.free path tree.root pair.path need.element is.is.fits at);
      }

  pub all_needed : (pairs : List Pair) (needs : AllByRecursion (IsNeededThere m after) pairs)
      → AllByRecursion (IsCounted m path change tree.root (context_at_root m tree)) pairs
      → AllByRecursion (IsNeeded m tree edit) (all_named m after pairs needs)
  all_needed [] needs counted = tt
  all_needed (pair ∷ pairs) needs counted = (needed pair needs.0 counted.0, all_needed pairs needs.1 counted.1)

pub need_law : NeedLaw
need_law m tree edit change path pairs from to is steps needs counted apart = record {
  pairs = all_named m (edited tree edit) pairs needs;
  steps = steps ∙ ap (λ n. from + n) (sym (as_many m (edited tree edit) pairs needs));
  needed = all_needed m tree edit change path is pairs needs counted;
  apart = none_twice m (edited tree edit) is.whole_after pairs needs apart;
}

-- where what is missing is counted, steps that make what is missing are needed
pub missing_need : (m : MetricsValue) (tree : TreeValue) (edit : Edit) (change : Change) (path : List ℕ) (memo : Memo) (from to : ℕ) → IsEditAt tree edit change path
    → ((pair : Pair) → IsPairMissing memo pair → IsCounted m path change tree.root (context_at_root m tree) pair)
    → TakesMissing m (edited tree edit).root (context_at_root m (edited tree edit)) memo from to → TakesNeeded m tree edit from to
missing_need m tree edit change path memo from to is counted takes =
    need_law m tree edit change path takes.pairs from to is takes.steps takes.needed
    (all_then (IsPairMissing memo) (IsCounted m path change tree.root (context_at_root m tree)) counted takes.pairs takes.missing) takes.apart

pub pass_need_law : PassNeedLaw
pass_need_law m tree edit change path memo other known from to is sealed fits same takes =
    missing_need m tree edit change path (changed_memo other known path memo) from to is
    (missing_counted m tree.root (context_at_root m tree) memo change other path known sealed fits same) takes
