-- Notes of which element stands right over which: how many there are.
use Rattle.std.specs.Prelude.{◌≡◌, ℕ, ◌+◌, ◌*◌, ◌<◌, ◌≤◌, ◌⊎◌}
use Rattle.math_tree.specs.Trees.{element_count}
use Rattle.math_tree.specs.declared.node.Node.{Node}

-- so many there are, and so many there may be before they are begun anew
pub record Notes : Type 0 where
  pub count : ℕ
  pub most : ℕ

-- they were begun with a tree: no more than those of its elements, and then some hundreds more than
-- twice as many
abbrev pub AreBegun : Node → Notes → Type 0
AreBegun root notes =
    (notes.count < element_count root) × (notes.most ≤ 2 * element_count root + 512)

-- a part was noted: all were begun anew with the tree, or no more came than the part has elements,
-- which is only where there were no more than there may be
abbrev pub AreMore : Node → Node → Notes → Notes → Type 0
AreMore root part before after =
    AreBegun root after
    ⊎ ((before.count ≤ before.most) × (after.count ≤ before.count + element_count part)
    × (after.most ≡ before.most))
