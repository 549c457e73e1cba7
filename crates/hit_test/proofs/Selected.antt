-- What is marked, and which of two elements isn't there, from what was seen of the root.
use Rattle.std.proofs.Common.{◌≡◌, ◌∙◌, refl, sym, ap, subst, ℕ, Bool, true, false, ◌&&◌, List, [], map, Option, Some, None}
use Rattle.std.specs.Prelude.{not, if◌then◌else◌}
use Rattle.std.specs.Option.{is_some, option_map_or}
use Rattle.math_tree.specs.declared.node.Node.{Node}
use Rattle.hit_test.specs.Elements.{flow_tree, holds_id, id_of}
use Rattle.hit_test.specs.Running.{Finds, IsSpanned, IsUnseen, Sees, unseen}
use Rattle.hit_test.specs.Selecting.{IsMissing, is_over, lowest, marked_below, marked_ids, missing_id}
use Rattle.hit_test.specs.declared.look.Found.{Found}
use Rattle.hit_test.specs.declared.look.Sight.{Sight}
use Rattle.hit_test.specs.declared.select.SelectRefusal.{SelectRefusal}
use Rattle.hit_test.specs.declared.select.SelectRefusal.TheVariants.{NoNode, Memory}
use Rattle.hit_test.proofs.Lowest.{over_is}

module _ (first second : ℕ) (root : Node) (sight : Sight) (sees : Sees first second root sight) where
  found_is : (low : Option Node) (found : Option Found) → Finds first second low found → is_some low ≡ is_some found
  found_is low None e = ap is_some e
  found_is low (Some found) h = ap is_some h.0

  over_seen : is_some sight.over ≡ (holds_id first (flow_tree root) && holds_id second (flow_tree root))
  over_seen = sym (found_is (lowest first second (flow_tree root)) sight.over sees.over) ∙ over_is first second (flow_tree root)

  -- the first of the two that isn't there
  pub unseen_is : unseen first second sight ≡ missing_id first second (flow_tree root)
  unfolding missing_id
  unseen_is =
      ap (λ (b : Bool). if not b then Some first else if is_some sight.over then None else Some second) sees.first_is
      ∙ by (holds_id first (flow_tree root)) (holds_id second (flow_tree root)) over_seen
    where
      by : (a b : Bool) → is_some sight.over ≡ (a && b)
          → (if not a then Some first else if is_some sight.over then None else Some second)
          ≡ (if not a then Some first else if not b then Some second else None)
      by false b e = refl
      by true true e = ap (λ (x : Bool). if x then None else Some second) e
      by true false e = ap (λ (x : Bool). if x then None else Some second) e

  pub missing_is : (refusal : SelectRefusal) → IsUnseen first second sight refusal → IsMissing first second (flow_tree root) refusal
  missing_is (NoNode id) u = sym unseen_is ∙ u
  missing_is Memory u = tt

  module _ (found : Found) (is : sight.over ≡ Some found) where
    finds : Finds first second (lowest first second (flow_tree root)) (Some found)
    finds = subst (Finds first second (lowest first second (flow_tree root))) is sees.over

    pub spanned : IsSpanned first second found
    spanned = finds.1

    -- what is marked below the lowest element
    pub marked_is : (ids : List ℕ) → ids ≡ map id_of (marked_below first second (flow_tree found.node.now)) → ids ≡ marked_ids first second (flow_tree root)
    unfolding marked_ids
    marked_is ids e =
        e ∙ sym (ap (λ (low : Option Node). option_map_or (λ element. map id_of (marked_below first second element)) low []) finds.0)
