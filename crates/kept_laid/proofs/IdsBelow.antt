-- Whether one of an element and of those below it has an id.
use Rattle.std.proofs.Common.{◌≡◌, ◌∙◌, sym, ap, ℕ, ◌+◌, ◌<◌, Bool, true, false, ◌||◌, nat_eq, List, [], ◌∷◌, ◌++◌, append-nil, get_or, length, take, drop}
use Rattle.std.proofs.lemmas.List.{take-append-drop, take_more}
use Rattle.std.proofs.lemmas.List.Concat.{flat_map-append}
use Rattle.std.proofs.lemmas.List.Folds.{list_any-append}
use Rattle.std.specs.List.{flat_map, list_any}
use Rattle.math_tree.specs.Trees.{Listed, listed}
use Rattle.math_tree.specs.declared.node.Node.{Node}
use Rattle.math_tree.specs.declared.node.Node.TheViews.{out-Node}
use Rattle.math_tree.specs.declared.node.NodeId.{NodeId}
use Rattle.math_tree.proofs.Nodes.{listed_element}
use Rattle.kept_laid.specs.Boxes.{has_id}

module _ (id : NodeId) (level : ℕ) where
  abbrev pub in_all : List Node → Bool
  in_all nodes = list_any (has_id id) (flat_map (listed level) nodes)

  pub next_child : (nodes : List Node) (i : ℕ) (child : Node) → i < length nodes → child ≡ get_or nodes i child
      → in_all (take (i + 1) nodes) ≡ (in_all (take i nodes) || list_any (has_id id) (listed level child))
  next_child nodes i child within is =
      ap in_all (take_more nodes i child within)
      ∙ ap (λ (x : Node). in_all (take i nodes ++ x ∷ [])) (sym is)
      ∙ ap (list_any (has_id id)) (flat_map-append (listed level) (take i nodes) (child ∷ []))
      ∙ ap (λ (list : List Listed). list_any (has_id id) (flat_map (listed level) (take i nodes) ++ list)) (append-nil (listed level child))
      ∙ list_any-append (has_id id) (flat_map (listed level) (take i nodes)) (listed level child)

  -- what is in the first children is in all
  pub in_front : (nodes : List Node) (n : ℕ) → in_all (take n nodes) ≡ true → in_all nodes ≡ true
  in_front nodes n e =
      ap in_all (sym (take-append-drop n nodes))
      ∙ ap (list_any (has_id id)) (flat_map-append (listed level) (take n nodes) (drop n nodes))
      ∙ list_any-append (has_id id) (flat_map (listed level) (take n nodes)) (flat_map (listed level) (drop n nodes))
      ∙ ap (λ (b : Bool). b || in_all (drop n nodes)) e

module _ (id : NodeId) (level : ℕ) (node : Node) where
  abbrev own_id : Bool
  own_id = nat_eq (out-Node node).head.id.0 id.0

  listed_ids : list_any (has_id id) (listed level node) ≡ (own_id || in_all id (level + 1) (out-Node node).children)
  listed_ids = ap (list_any (has_id id)) (listed_element level node)

  pub its_own : own_id ≡ true → true ≡ list_any (has_id id) (listed level node)
  its_own e = sym (listed_ids ∙ ap (λ (b : Bool). b || in_all id (level + 1) (out-Node node).children) e)

  pub others : own_id ≡ false → in_all id (level + 1) (out-Node node).children ≡ list_any (has_id id) (listed level node)
  others e = sym (listed_ids ∙ ap (λ (b : Bool). b || in_all id (level + 1) (out-Node node).children) e)
