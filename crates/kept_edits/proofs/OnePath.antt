-- An edit of a whole tree that isn't refused has one path.
use Rattle.std.proofs.Common.{◌≡◌, ◌∙◌, ◌⊎◌, inl, inr, refl, sym, ap, ℕ, suc, ◌+◌, arith, true, true≢false, List, [], ◌∷◌, ◌++◌, drop, get_or, length, None, Some, slice_get}
use Rattle.std.proofs.lemmas.Bool.{or_cases}
use Rattle.std.proofs.lemmas.Option.{same_Some}
use Rattle.std.specs.List.{list_any}
use Rattle.std.specs.Option.{option_and_then}
use Rattle.math_tree.specs.Trees.{IsWhole, TreeValue}
use Rattle.math_tree.specs.declared.node.Node.{Node}
use Rattle.tree_edits.specs.Edits.{at_target, edited, has_id, head_of, is_fixed, named, refusal_of}
use Rattle.tree_edits.specs.Laws.{IsOfParent, IsOwn, own_change, parent_change}
use Rattle.tree_edits.specs.Paths.{children_of, node_at}
use Rattle.tree_edits.specs.Reasons.{shown}
use Rattle.tree_edits.specs.declared.change.Change.{Change}
use Rattle.tree_edits.specs.declared.edit.Edit.{Edit}
use Rattle.tree_edits.specs.declared.edit.Edit.TheVariants.{Text, Attr, Insert, Remove, Replace, Graft, Swap}
use Rattle.tree_edits.proofs.Frames.{down}
use Rattle.tree_edits.proofs.Reached.{ParentOf, Reached, parent_of, reached}
use Rattle.tree_edits.proofs.Refusals.{accepted}
use Rattle.tree_edits.proofs.Target.{found_at}
use Rattle.kept_edits.specs.ByIds.{EditAtLaw, IsEditAt}
use Rattle.kept_edits.specs.EditPaths.{EditPathLaw, IsEditPath}
use Rattle.kept_edits.specs.Edited.{with_room}
use Rattle.kept_edits.proofs.EditEnds.{own_edit_at, own_path, parent_edit_at, parent_path}
use Rattle.kept_edits.proofs.IdWays.{one_way_law}

-- ---- one more place at the end

one_more : (path : List ℕ) (place : ℕ) (root element child : Node) → node_at path root ≡ Some element → slice_get (children_of element) place ≡ Some child
    → node_at (path ++ place ∷ []) root ≡ Some child
one_more [] place root element child at there =
    ap (λ (n : Node). option_and_then (node_at []) (slice_get (children_of n) place)) (same_Some root element at) ∙ ap (option_and_then (node_at [])) there
one_more (i ∷ path) place root element child at there =
    let below = down path (slice_get (children_of root) i) element at in
    ap (option_and_then (node_at (path ++ place ∷ []))) below.1 ∙ one_more path place below.0 element child below.2 there

length_end : (path : List ℕ) (place : ℕ) → length (path ++ place ∷ []) ≡ length path + 1
length_end [] place = refl
length_end (i ∷ path) place = omega (arith, length_end path place)

same_front : (a b : List ℕ) (x y : ℕ) → a ++ x ∷ [] ≡ b ++ y ∷ [] → a ≡ b
same_front [] [] x y h = refl
same_front [] (j ∷ b) x y h = absurd (omega (arith, ap length h, length_end b y))
same_front (i ∷ a) [] x y h = absurd (omega (arith, ap length h, length_end a x))
same_front (i ∷ a) (j ∷ b) x y h =
    let first : i ≡ j = ap (λ (l : List ℕ). get_or l 0 0) h in
    let rest = same_front a b x y (ap (drop 1) h) in
    λ k. first k ∷ rest k

-- ---- not two

child_there : (id : ℕ) (nodes : List Node) → list_any (λ n. has_id id (head_of n)) nodes ≡ true
    → (place : ℕ) × (child : Node) × (slice_get nodes place ≡ Some child) × (has_id id (head_of child) ≡ true)
child_there id [] h = absurd (true≢false (sym h))
child_there id (n ∷ nodes) h =
    elim (or_cases (has_id id (head_of n)) (list_any (λ (x : Node). has_id id (head_of x)) nodes) h) [
      | inl own ↦ (0, n, refl, own)
      | inr further ↦ let found = child_there id nodes further in (suc found.0, found.1, found.2, found.3)
    ]

module _ (tree : TreeValue) (whole : IsWhole tree) where
  over_one : (id : ℕ) (a b : List ℕ) (x y : Node) → node_at a tree.root ≡ Some x → list_any (λ n. has_id id (head_of n)) (children_of x) ≡ true
      → node_at b tree.root ≡ Some y → list_any (λ n. has_id id (head_of n)) (children_of y) ≡ true → a ≡ b
  over_one id a b x y at any to too =
      let p = child_there id (children_of x) any in
      let q = child_there id (children_of y) too in
      same_front a b p.0 q.0
      (one_way_law tree (a ++ p.0 ∷ []) (b ++ q.0 ∷ []) p.1 q.1 id whole (one_more a p.0 tree.root x p.1 at p.2) p.3 (one_more b q.0 tree.root y q.1 to q.2) q.3)

  one_path : (edit : Edit) (a b : List ℕ) → IsEditPath tree edit a → IsEditPath tree edit b → a ≡ b
  one_path (Text id text) a b x y = one_way_law tree a b x.element y.element id.0 whole x.at x.ends y.at y.ends
  one_path (Attr id name value) a b x y = one_way_law tree a b x.element y.element id.0 whole x.at x.ends y.at y.ends
  one_path (Insert id index new) a b x y = one_way_law tree a b x.element y.element id.0 whole x.at x.ends y.at y.ends
  one_path (Remove id) a b x y = over_one id.0 a b x.element y.element x.at x.ends y.at y.ends
  one_path (Replace id new) a b x y = over_one id.0 a b x.element y.element x.at x.ends y.at y.ends
  one_path (Graft id index new) a b x y = one_way_law tree a b x.element y.element id.0 whole x.at x.ends y.at y.ends
  one_path (Swap id new) a b x y = over_one id.0 a b x.element y.element x.at x.ends y.at y.ends

  -- ---- one

  -- the element that an edit changes is the one that it names, or the one over it
  abbrev OnNamed : Edit → Type 0
  OnNamed edit = IsOwn edit × Reached (named edit) tree.root

  abbrev OnParent : Edit → Type 0
  OnParent edit = IsOfParent edit × (child : Node) × ParentOf child tree.root × (has_id (named edit) (head_of child) ≡ true)

  over_named : (edit : Edit) (path : List ℕ) (element : Node) → refusal_of tree edit ≡ None → IsOfParent edit
      → ((element : Node) → is_fixed edit (shown 1 element) ≡ true) → node_at path tree.root ≡ Some element → has_id (named edit) (head_of element) ≡ true
      → OnParent edit
  over_named edit [] element free over fixed at has =
      let found = found_at tree (named edit) [] element whole at has in
      absurd (true≢false (sym (ap (at_target (is_fixed edit)) found ∙ fixed element) ∙ (accepted tree edit free).movable))
  over_named edit (place ∷ path) element free over fixed at has = (over, element, parent_of place path tree.root element at, has)

  ends : (edit : Edit) → refusal_of tree edit ≡ None → OnNamed edit ⊎ OnParent edit
  ends (Text id text) free = inl (tt, reached id.0 tree.root (accepted tree (Text id text) free).known)
  ends (Attr id name value) free = inl (tt, reached id.0 tree.root (accepted tree (Attr id name value) free).known)
  ends (Insert id index new) free = inl (tt, reached id.0 tree.root (accepted tree (Insert id index new) free).known)
  ends (Remove id) free =
      let way = reached id.0 tree.root (accepted tree (Remove id) free).known in
      inr (over_named (Remove id) way.path way.element free tt (λ element. refl) way.at way.has)
  ends (Replace id new) free =
      let way = reached id.0 tree.root (accepted tree (Replace id new) free).known in
      inr (over_named (Replace id new) way.path way.element free tt (λ element. refl) way.at way.has)
  ends (Graft id index new) free = inl (tt, reached id.0 tree.root (accepted tree (Graft id index new) free).known)
  ends (Swap id new) free =
      let way = reached id.0 tree.root (accepted tree (Swap id new) free).known in
      inr (over_named (Swap id new) way.path way.element free tt (λ element. refl) way.at way.has)

  has_path : (edit : Edit) → OnNamed edit ⊎ OnParent edit → (path : List ℕ) × IsEditPath tree edit path
  has_path edit (inl h) = let way = h.1 in (way.path, own_path tree edit way.path way.element h.0 way.at way.has)
  has_path edit (inr h) = let way = h.2 in (way.path, parent_path tree edit way.path way.element way.place h.1 h.0 way.at way.there h.3)

  has_change : (edit : Edit) → IsWhole (edited tree edit) → refusal_of tree edit ≡ None → OnNamed edit ⊎ OnParent edit
      → (change : Change) × (path : List ℕ) × IsEditAt tree edit change path
  has_change edit after free (inl h) =
      let way = h.1 in
      (with_room (own_change edit tree.next_id) way.element, way.path, own_edit_at tree edit way.path way.element whole after free h.0 way.at way.has)
  has_change edit after free (inr h) =
      let way = h.2 in
      (parent_change edit tree.next_id way.place, way.path, parent_edit_at tree edit way.path way.element way.place h.1 whole after free h.0 way.at way.there h.3)

pub edit_path_law : EditPathLaw
edit_path_law tree edit whole = (λ free. has_path tree whole edit (ends tree whole edit free), one_path tree whole edit)

pub edit_at_law : EditAtLaw
edit_at_law tree edit whole after free = has_change tree whole edit after free (ends tree whole edit free)
