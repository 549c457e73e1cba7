-- The ids of the children of an element in flow, one child after another.
use Rattle.std.proofs.Common.{◌≡◌, ◌∙◌, refl, sym, ap, ℕ, ◌+◌, ◌-◌, ◌≤◌, ◌<◌, List, [], ◌∷◌, ◌++◌, length, map, take, drop, get_or, length-drop, arith, nat_eq, Bool, true, false, ◌||◌, cond}
use Rattle.std.proofs.lemmas.List.{get_or-drop, get_or-map, map-append, take_more}
use Rattle.std.proofs.lemmas.Option.{get_or_from_slice_get, slice_get_within}
use Rattle.math_tree.specs.declared.node.Head.{Head}
use Rattle.math_tree.specs.declared.node.Node.{Node}
use Rattle.math_tree.specs.declared.node.Node.TheViews.{out-Node}
use Rattle.embellished.specs.Seen.{HasKid, Kid, flow_nodes, kid_of, seen_of}
use Rattle.embellished.proofs.InFlow.{kids_are_nodes}
use Rattle.hit_test.specs.Elements.{children_of, flow_tree, has_id, id_of}
use Rattle.hit_test.specs.Selecting.{between, leads, marked_below}
use Rattle.hit_test.proofs.Children.{as_many_below}
use Rattle.hit_test.proofs.Elements.{flow_children_are, flow_head}

abbrev id_in : Kid → ℕ
id_in kid = kid.head.id.0

ids_kept : (nodes : List Node) → map id_of (map flow_tree nodes) ≡ map id_in (map kid_of nodes)
ids_kept [] = refl
ids_kept (n ∷ nodes) = λ i. (flow_head n i).id.0 ∷ ids_kept nodes i

-- the children in flow have the ids that a view shows
ids_below : (node : Node) → map id_of (children_of (flow_tree node)) ≡ map id_in (seen_of node).kids
ids_below node = ap (map id_of) (flow_children_are node) ∙ ids_kept (flow_nodes node) ∙ ap (map id_in) (sym (kids_are_nodes node))

id_at : (node : Node) (index : ℕ) (head : Head) (d : Node) → HasKid (seen_of node) index (λ (kid : Kid). kid.head ≡ head)
    → id_of (get_or (children_of (flow_tree node)) index d) ≡ head.id.0
id_at node index head d h =
    let kids = (seen_of node).kids in
    let shown : index < length kids = slice_get_within kids index h.kid h.at in
    let within : index < length (children_of (flow_tree node)) = omega (arith, shown, as_many_below node) in
    sym (get_or-map id_of (children_of (flow_tree node)) index d head.id.0 within)
    ∙ ap (λ ids. get_or ids index head.id.0) (ids_below node)
    ∙ get_or-map id_in kids index h.kid head.id.0 shown
    ∙ ap id_in (get_or_from_slice_get kids index h.kid h.kid h.at)
    ∙ ap (λ (head : Head). head.id.0) h.holds

-- one child more, of those from a place on
pub ids_more : (node : Node) (from index : ℕ) (head : Head) (d : Node) → from ≤ index → HasKid (seen_of node) index (λ (kid : Kid). kid.head ≡ head)
    → map id_of (take (index - from) (drop from (children_of (flow_tree node)))) ++ head.id.0 ∷ []
    ≡ map id_of (take (index + 1 - from) (drop from (children_of (flow_tree node))))
ids_more node from index head d low h =
    let kids = children_of (flow_tree node) in
    let rest = drop from kids in
    let place = index - from in
    let shown : index < length (seen_of node).kids = slice_get_within (seen_of node).kids index h.kid h.at in
    let within : place < length rest = omega (arith, shown, as_many_below node, length-drop from kids, low) in
    let next : index + 1 - from ≡ place + 1 = omega (arith, low) in
    let there : from + place ≡ index = omega (arith, low) in
    sym (
    ap (λ n. map id_of (take n rest)) next
    ∙ ap (map id_of) (take_more rest place d within)
    ∙ map-append id_of (take place rest) (get_or rest place d ∷ [])
    ∙ ap (λ id. map id_of (take place rest) ++ id ∷ [])
    (ap id_of (get_or-drop from kids place d ∙ ap (λ n. get_or kids n d) there) ∙ id_at node index head d h))

-- ---- the element itself, or its children

module _ (first second : ℕ) (node : Node) (either : Bool) (is : either ≡ (nat_eq (out-Node node).head.id.0 first || nat_eq (out-Node node).head.id.0 second)) where
  either_is : (has_id first (flow_tree node) || has_id second (flow_tree node)) ≡ either
  either_is = ap (λ (head : Head). nat_eq head.id.0 first || nat_eq head.id.0 second) (flow_head node) ∙ sym is

  pub itself_marked : either ≡ true → map id_of (marked_below first second (flow_tree node)) ≡ (out-Node node).head.id.0 ∷ []
  itself_marked e =
      ap (λ (b : Bool). map id_of (cond b (flow_tree node ∷ []) (between (leads first second) (children_of (flow_tree node))))) (either_is ∙ e)
      ∙ ap (λ (head : Head). head.id.0 ∷ []) (flow_head node)

  pub kids_marked : either ≡ false → marked_below first second (flow_tree node) ≡ between (leads first second) (children_of (flow_tree node))
  kids_marked e = ap (λ (b : Bool). cond b (flow_tree node ∷ []) (between (leads first second) (children_of (flow_tree node)))) (either_is ∙ e)
