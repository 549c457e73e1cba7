-- An edit that gives no new ids is taken with a later next id too, and makes the same of the tree.
use Rattle.std.proofs.Common.{◌≡◌, ◌∙◌, sym, ap, refl, subst, ℕ, ◌+◌, ◌^◌, ◌≤◌, List, false, nat_lt, add-zero, arith}
use Rattle.std.proofs.lemmas.Bool.{le-ltb}
use Rattle.math_tree.proofs.Counts.{elements_are}
use Rattle.math_tree.specs.Trees.{TreeValue, Listed, element_count, ids_of, listed}
use Rattle.math_tree.specs.declared.node.Node.{Node}
use Rattle.tree_edits.proofs.FreeIds.{free_later}
use Rattle.tree_edits.proofs.Refusals.{AcceptedBy, IsAccepted, accepted, accepts}
use Rattle.tree_edits.specs.Edits.{added, edited, edited_node, is_taken}
use Rattle.tree_edits.specs.Inverses.{IsBack, LaterLaw, with_next}
use Rattle.tree_edits.specs.declared.edit.Edit.{Edit}
use Rattle.tree_edits.specs.declared.edit.Edit.TheVariants.{Text, Attr, Insert, Remove, Replace, Graft, Swap}

-- it brings an element
some_elements : (n : Node) → 1 ≤ element_count n
some_elements n = let count = elements_are n in omega (arith, count)

-- what it makes of an element doesn't depend on the next id
same_made : (edit : Edit) (a b : ℕ) (n : Node) → added edit ≡ 0 → edited_node edit a n ≡ edited_node edit b n
unfolding edited_node
same_made (Text id text) a b n settled = refl
same_made (Attr id name value) a b n settled = refl
same_made (Insert id index new) a b n settled = let some = some_elements new in absurd (omega (arith, settled, some))
same_made (Remove id) a b n settled = refl
same_made (Replace id new) a b n settled = let some = some_elements new in absurd (omega (arith, settled, some))
same_made (Graft id index new) a b n settled = refl
same_made (Swap id new) a b n settled = refl

free_still : (edit : Edit) (next later : ℕ) (before : List Listed) → next ≤ later → is_taken edit next before ≡ false → is_taken edit later before ≡ false
free_still (Text id text) next later before le h = refl
free_still (Attr id name value) next later before le h = refl
free_still (Insert id index new) next later before le h = refl
free_still (Remove id) next later before le h = refl
free_still (Replace id new) next later before le h = refl
free_still (Graft id index new) next later before le h = free_later (ids_of (listed 1 new)) next later (ids_of before) le h
free_still (Swap id new) next later before le h = free_later (ids_of (listed 1 new)) next later (ids_of before) le h

module _ (tree : TreeValue) (edit : Edit) (next : ℕ) (back : IsBack tree edit) (le : tree.next_id ≤ next) (fits : next ≤ 2 ^ 32) where
  same_root : (edited (with_next next tree) edit).root ≡ (edited tree edit).root
  same_root = same_made edit next tree.next_id tree.root back.settled

  same_tree : edited (with_next next tree) edit ≡ with_next next (edited tree edit)
  same_tree =
      ap (λ (n : Node). record { root = n; next_id = next + added edit }) same_root
      ∙ ap (λ (n : ℕ). record { root = (edited tree edit).root; next_id = n }) (ap (λ n. next + n) back.settled ∙ add-zero next)

  accepted_still : AcceptedBy (with_next next tree) edit
  accepted_still =
      let is = accepted tree edit back.accepted in
      let bound : next + added edit ≤ 2 ^ 32 = let settled = back.settled in omega (arith, settled, fits) in
      let more : tree.next_id + added edit ≤ next + added edit = omega (arith, le) in
      subst (λ (n : Node). IsAccepted (listed 1 tree.root) (listed 1 n) (next + added edit) edit) (sym same_root) (record {
        known = is.known;
        on_text = is.on_text;
        in_other = is.in_other;
        within = is.within;
        movable = is.movable;
        named = is.named;
        short = is.short;
        shallow = is.shallow;
        small = is.small;
        left = le-ltb (2 ^ 32) (next + added edit) bound;
        free = free_still edit (tree.next_id + added edit) (next + added edit) (listed 1 tree.root) more is.free;
      })

pub later_law : LaterLaw
later_law tree edit next back le fits = (
  record {
    proper = back.proper;
    settled = back.settled;
    accepted = accepts (with_next next tree) edit (accepted_still tree edit next back le fits);
  },
  same_tree tree edit next back le fits,
)
