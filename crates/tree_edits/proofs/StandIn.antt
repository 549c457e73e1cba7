-- The root that stands in for another makes a whole tree.
use Rattle.std.proofs.Common.{◌≡◌, ◌∙◌, refl, ℕ, ◌≤◌, ◌<◌, [], ◌∷◌, nat_eq, arith}
use Rattle.std.proofs.lemmas.List.Elements.{All-nil, All-cons}
use Rattle.std.specs.List.{IsDistinct}
use Rattle.math_tree.proofs.Lists.{none_in_order}
use Rattle.math_tree.proofs.Nodes.{listed_element}
use Rattle.tree_json.proofs.OnLiterals.{tree_json_on_literals}
use Rattle.math_tree.specs.Forms.{most_levels}
use Rattle.math_tree.specs.Trees.{IsTotalled, IsWhole, IsProper, IsProperAttribute, Listed, listed, bytes_of_head}
use Rattle.math_tree.specs.declared.node.Node.TheViews.{out-Node, out-roll-Node}
use Rattle.tree_edits.specs.Spare.{spare_head, spare_root}

abbrev spare_element : Listed
spare_element = record { level = 1; head = spare_head; children = 0 }

listed_spare : listed 1 spare_root ≡ spare_element ∷ []
unfolding spare_root
listed_spare = listed_element 1 spare_root ∙ rw out-roll-Node refl

head_spare : (out-Node spare_root).head ≡ spare_head
unfolding spare_root
head_spare = rw out-roll-Node refl

proper_spare : IsProper spare_element
unfolding tree_json_on_literals
proper_spare = record {
  kind = refl;
  name = refl;
  attributes = All-nil IsProperAttribute;
  order = none_in_order;
  text = refl;
  childless = λ e. cc;
  textless = λ e. refl;
}

bytes_spare : bytes_of_head spare_head ≡ 4
unfolding tree_json_on_literals
bytes_spare = refl

distinct_one : (id : ℕ) → IsDistinct nat_eq (id ∷ [])
unfolding IsDistinct
distinct_one id = (tt, tt)

spare_whole : IsWhole (record { root = spare_root; next_id = 2 })
spare_whole = record {
  name = rw head_spare refl;
  first = rw head_spare refl;
  proper = rw listed_spare (All-cons IsProper spare_element [] proper_spare (All-nil IsProper));
  shallow = rw listed_spare (All-cons (λ (e : Listed). e.level ≤ most_levels) spare_element [] (omega arith) (All-nil (λ (e : Listed). e.level ≤ most_levels)));
  distinct = rw listed_spare (distinct_one 1);
  given = rw listed_spare (All-cons (λ n. n < 2) 1 [] (omega arith) (All-nil (λ n. n < 2)));
  next = omega arith;
  few = rw listed_spare (omega arith);
  small = rw (listed_spare, bytes_spare) (omega arith);
}

pub stands_in : IsTotalled (record { root = spare_root; next_id = 2 }) 1 4
stands_in = record {
  whole = spare_whole;
  elements_are = rw listed_spare refl;
  bytes_are = rw (listed_spare, bytes_spare) refl;
}
