-- The way to the element that an edit changes.
use Rattle.std.proofs.Common.{◌≡◌, ◌∙◌, refl, sym, ap, subst, ℕ, List, [], ◌∷◌, ◌++◌, length, true, false, true≢false, arith, is_some, Option, None}
use Rattle.std.specs.List.{list_any}
use Rattle.splices.specs.Splicing.{site_of}
use Rattle.splices.specs.declared.site.Site.{Site}
use Rattle.splices.specs.declared.site.Site.TheVariants.{Stay, Put, Take, Swap as Exchange}
use Rattle.math_tree.specs.Trees.{IsWhole, TreeValue, listed}
use Rattle.math_tree.specs.declared.node.Node.{Node}
use Rattle.tree_edits.specs.Edits.{at_target, has_id, is_fixed, named, refusal_of}
use Rattle.tree_edits.specs.Laws.{IsOfParent, IsOwn, own_change, parent_change}
use Rattle.tree_edits.specs.Paths.{LeadsTo, node_at, splice_of}
use Rattle.tree_edits.specs.Reasons.{shown}
use Rattle.tree_edits.specs.declared.edit.Edit.{Edit}
use Rattle.tree_edits.specs.declared.edit.Edit.TheVariants.{Text, Attr, Insert, Remove, Replace, Graft, Swap}
use Rattle.math_tree.specs.declared.node.NodeId.{NodeId}
use Rattle.tree_edits.proofs.Refusals.{accepted}
use Rattle.tree_edits.proofs.Target.{found_at, found_nowhere}
use Rattle.kept_edits.specs.Edited.{with_room}
use Rattle.kept_edits.proofs.EditEnds.{own_brings, own_path, parent_brings, parent_path}
use Rattle.kept_edits.proofs.EditedTrees.{own_edit_law, parent_edit_law}
use Rattle.kept_edits.proofs.Elements.{ends_at}
use Rattle.kept_edits.specs.Ways.{IsWay}

pub own_way : (tree : TreeValue) (edit : Edit) (path : List ℕ) (site : Site) → IsWhole tree → refusal_of tree edit ≡ None → IsOwn edit
    → (leads : LeadsTo (named edit) 1 tree.root path) → site ≡ site_of (splice_of (with_room (own_change edit tree.next_id) leads.element))
    → IsWay tree edit record { path = path; site = site }
own_way tree edit path site whole free own leads is = record {
  change = with_room (own_change edit tree.next_id) leads.element;
  is = own_edit_law tree edit path leads.element whole free own leads.at leads.has;
  leads = own_path tree edit path leads.element own leads.at leads.has;
  free = own_brings tree edit leads.element whole free own;
  site_is = is;
}

pub parent_way : (tree : TreeValue) (edit : Edit) (path over : List ℕ) (at : ℕ) (site : Site) → IsWhole tree → refusal_of tree edit ≡ None → IsOfParent edit
    → LeadsTo (named edit) 1 tree.root path → path ≡ over ++ at ∷ [] → site ≡ site_of (splice_of (parent_change edit tree.next_id at))
    → IsWay tree edit record { path = over; site = site }
parent_way tree edit path over at site whole free parent leads same is =
    let e = ends_at over at tree.root leads.element (ap (λ (p : List ℕ). node_at p tree.root) (sym same) ∙ leads.at) in
    record {
      change = parent_change edit tree.next_id at;
      is = parent_edit_law tree edit over e.parent at leads.element whole parent e.at e.there leads.has;
      leads = parent_path tree edit over e.parent at leads.element parent e.at e.there leads.has;
      free = parent_brings tree edit at whole free parent;
      site_is = is;
    }

-- the root isn't taken out
pub not_root : (tree : TreeValue) (edit : Edit) (path : List ℕ) → IsWhole tree → refusal_of tree edit ≡ None → LeadsTo (named edit) 1 tree.root path
    → ((element : Node) → is_fixed edit (shown 1 element) ≡ true) → length path ≡ 0 → ⊥
not_root tree edit [] whole free leads fixed none =
    let found = found_at tree (named edit) [] leads.element whole leads.at leads.has in
    true≢false (sym (ap (at_target (is_fixed edit)) found ∙ fixed leads.element) ∙ (accepted tree edit free).movable)
not_root tree edit (place ∷ path) whole free leads fixed none = omega (arith, none)

-- there is an element that the edit names
pub not_unknown : (tree : TreeValue) (edit : Edit) → refusal_of tree edit ≡ None → list_any (λ e. has_id (named edit) e.head) (listed 1 tree.root) ≡ false → ⊥
not_unknown tree edit free h =
    true≢false (sym (accepted tree edit free).known ∙ ap is_some (found_nowhere (named edit) (listed 1 tree.root) h))

-- ---- the kinds of edits

abbrev Wanted : TreeValue → List ℕ → Site → Edit → Type 0
Wanted tree path site edit = refusal_of tree edit ≡ None → LeadsTo (named edit) 1 tree.root path → IsWay tree edit record { path = path; site = site }

pub text_way : (tree : TreeValue) (edit : Edit) (id : NodeId) (text path : List ℕ) → edit ≡ Text id text → IsWhole tree → Wanted tree path Stay edit
text_way tree edit id text path is whole =
    subst (Wanted tree path Stay) (sym is) (λ free leads. own_way tree (Text id text) path Stay whole free tt leads refl)

pub attr_way : (tree : TreeValue) (edit : Edit) (id : NodeId) (name : List ℕ) (value : Option (List ℕ)) (path : List ℕ) → edit ≡ Attr id name value → IsWhole tree
    → Wanted tree path Stay edit
attr_way tree edit id name value path is whole =
    subst (Wanted tree path Stay) (sym is) (λ free leads. own_way tree (Attr id name value) path Stay whole free tt leads refl)

pub insert_way : (tree : TreeValue) (edit : Edit) (id : NodeId) (index : ℕ) (new : Node) (path : List ℕ) → edit ≡ Insert id index new → IsWhole tree
    → Wanted tree path (Put index) edit
insert_way tree edit id index new path is whole =
    subst (Wanted tree path (Put index)) (sym is) (λ free leads. own_way tree (Insert id index new) path (Put index) whole free tt leads refl)

abbrev Below : TreeValue → List ℕ → Edit → Type 0
Below tree path edit = refusal_of tree edit ≡ None → LeadsTo (named edit) 1 tree.root path → length path ≡ 0 → ⊥

pub removed_below : (tree : TreeValue) (edit : Edit) (id : NodeId) (path : List ℕ) → edit ≡ Remove id → IsWhole tree → Below tree path edit
removed_below tree edit id path is whole =
    subst (Below tree path) (sym is) (λ free leads. not_root tree (Remove id) path whole free leads (λ element. refl))

pub replaced_below : (tree : TreeValue) (edit : Edit) (id : NodeId) (new : Node) (path : List ℕ) → edit ≡ Replace id new → IsWhole tree → Below tree path edit
replaced_below tree edit id new path is whole =
    subst (Below tree path) (sym is) (λ free leads. not_root tree (Replace id new) path whole free leads (λ element. refl))

abbrev Over : TreeValue → List ℕ → List ℕ → ℕ → Site → Edit → Type 0
Over tree path over at site edit = refusal_of tree edit ≡ None → LeadsTo (named edit) 1 tree.root path → path ≡ over ++ at ∷ [] → IsWay tree edit record { path = over; site = site }

pub remove_way : (tree : TreeValue) (edit : Edit) (id : NodeId) (path over : List ℕ) (at : ℕ) → edit ≡ Remove id → IsWhole tree → Over tree path over at (Take at) edit
remove_way tree edit id path over at is whole =
    subst (Over tree path over at (Take at)) (sym is) (λ free leads same. parent_way tree (Remove id) path over at (Take at) whole free tt leads same refl)

pub replace_way : (tree : TreeValue) (edit : Edit) (id : NodeId) (new : Node) (path over : List ℕ) (at : ℕ) → edit ≡ Replace id new → IsWhole tree
    → Over tree path over at (Exchange at) edit
replace_way tree edit id new path over at is whole =
    subst (Over tree path over at (Exchange at)) (sym is) (λ free leads same. parent_way tree (Replace id new) path over at (Exchange at) whole free tt leads same refl)

pub graft_way : (tree : TreeValue) (edit : Edit) (id : NodeId) (index : ℕ) (new : Node) (path : List ℕ) → edit ≡ Graft id index new → IsWhole tree
    → Wanted tree path (Put index) edit
graft_way tree edit id index new path is whole =
    subst (Wanted tree path (Put index)) (sym is) (λ free leads. own_way tree (Graft id index new) path (Put index) whole free tt leads refl)

pub swapped_below : (tree : TreeValue) (edit : Edit) (id : NodeId) (new : Node) (path : List ℕ) → edit ≡ Swap id new → IsWhole tree → Below tree path edit
swapped_below tree edit id new path is whole =
    subst (Below tree path) (sym is) (λ free leads. not_root tree (Swap id new) path whole free leads (λ element. refl))

pub swap_way : (tree : TreeValue) (edit : Edit) (id : NodeId) (new : Node) (path over : List ℕ) (at : ℕ) → edit ≡ Swap id new → IsWhole tree
    → Over tree path over at (Exchange at) edit
swap_way tree edit id new path over at is whole =
    subst (Over tree path over at (Exchange at)) (sym is) (λ free leads same. parent_way tree (Swap id new) path over at (Exchange at) whole free tt leads same refl)
