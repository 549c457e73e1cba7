-- The laws of elements that layout rests on.
use Rattle.std.specs.Prelude.{◌≡◌, ℕ, ◌+◌, ◌*◌, ◌<◌, true, false, Option, Some, None, slice_get, length, map, All}
use Rattle.std.specs.List.{AllPairs}
use Rattle.math_tree.specs.declared.kind.Kind.{Kind}
use Rattle.math_tree.specs.declared.kind.Kind.TheVariants.{Mfrac, Mover, Mroot, Msub, Msubsup, Msup, Mtable, Mtd, Mtr, Munder, Munderover}
use Rattle.math_tree.specs.declared.node.Node.{Node}
use Rattle.embellished.specs.Facts.{facts}
use Rattle.embellished.specs.Forms.{leads}
use Rattle.embellished.specs.Kinds.{is_annotation, is_operator}
use Rattle.embellished.specs.Seen.{Kid, Seen, flow_children, flow_nodes, kid_of, laid_kid, seen_of}
use Rattle.embellished.specs.declared.facts.Core.{Core}

-- ---- the children of a valid element

-- how many children in flow an element has that is laid out as this kind, where its equation says
abbrev pub children_of : Kind → Option ℕ
children_of Mfrac = Some 2
children_of Mroot = Some 2
children_of Msub = Some 2
children_of Msup = Some 2
children_of Msubsup = Some 3
children_of Munder = Some 2
children_of Mover = Some 2
children_of Munderover = Some 3
children_of other = None

-- the children in flow of a valid `mmultiscripts`: a base and pairs of scripts, and then, where the
-- prescripts begin, pairs of prescripts
pub record HasScripts (seen : Seen) : Type 0 where
  pub pairs : ℕ
  pub pairs_before : ℕ
  pub up_to_mark : seen.prescripts ≡ 1 + 2 * pairs
  pub in_all : length seen.kids ≡ 1 + 2 * pairs + 2 * pairs_before

-- a table has rows alone and a row cells alone, in flow, where they are laid out as such
pub record IsTabular (seen : Seen) : Type 0 where
  pub rows : seen.facts.laid ≡ Mtable → All (λ kid. laid_kid kid ≡ Mtr) seen.kids
  pub cells : seen.facts.laid ≡ Mtr → All (λ kid. laid_kid kid ≡ Mtd) seen.kids

-- ---- which children are in flow

-- none is an annotation; they are nodes of the element's children, in their order
pub record IsFlow (node : Node) : Type 0 where
  pub plain : All (λ kid. is_annotation (laid_kid kid) ≡ false) (seen_of node).kids
  pub nodes : (seen_of node).kids ≡ map kid_of (flow_nodes node)
  pub in_order : AllPairs (λ a b. a.place < b.place) (flow_children node)

-- ---- the core

-- one child leads to this core, which is its own core, and no other child does
pub record IsLed (seen : Seen) (core : Core) : Type 0 where
  pub index : ℕ
  pub kid : Kid
  pub at : slice_get seen.kids index ≡ Some kid
  pub leading : leads seen.facts.laid kid.facts index ≡ true
  pub own : kid.facts.core ≡ Some core
  pub only : (other : ℕ) (sibling : Kid) → slice_get seen.kids other ≡ Some sibling
      → leads seen.facts.laid sibling.facts other ≡ true → other ≡ index

abbrev pub CoreLaw : Type 0
CoreLaw = (node : Node) (core : Core) → (facts node).core ≡ Some core
    → is_operator (facts node).laid ≡ false
    → IsLed (seen_of node) core
