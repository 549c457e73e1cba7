use Rattle.std.proofs.Common.{◌≡◌, ℕ, ◌<◌, length, true}
use Rattle.serde_json.specs.Data.{Members}
use Rattle.tree_json.specs.Elements.{are_attributes, attributes_of}
use Rattle.math_tree.specs.declared.attributes.Attribute.{Attribute}
use Rattle.json.specs.Token.{Token}
use Rattle.std.specs.Prelude.{List}
use Rattle.tree_reader.specs.Said.{IsOpen}
use Rattle.tree_reader.proofs.attributes.attributes.Given as goal

-- the members so far are those attributes
pub record SaidSoFar (before now : List Token) (attributes : List Attribute) : Type 0 where
  pub all : Members
  pub goes : (depth : ℕ) → 0 < depth → IsOpen depth before all now
  pub are : attributes ≡ attributes_of all
  pub formed : are_attributes all ≡ true

abbrev pub invariant-members : goal.invariant-members
invariant-members l = SaidSoFar l.fn.reader l.reader l.found

abbrev pub decreases-members : goal.decreases-members
decreases-members l = length l.reader
