-- The code's way along a page, and through the children of an element.
use Rattle.std.specs.Prelude.{◌≡◌, ℕ, ◌+◌, ◌-◌, ◌≤◌, min, Bool, true, false, ◌&&◌, ◌||◌, not, if◌then◌else◌, List, [], ◌∷◌, length, drop, take, Option, Some, None}
use Rattle.std.specs.List.{list_any}
use Rattle.std.specs.Option.{is_some, option_or}
use Rattle.math_tree.specs.Trees.{element_count}
use Rattle.math_tree.specs.declared.node.Node.{Node}
use Rattle.math_tree.specs.declared.node.NodeId.{NodeId}
use Rattle.box_writer.specs.declared.placed.PlacedBox.{PlacedBox}
use Rattle.embellished.specs.Known.{known_of}
use Rattle.hit_test.specs.Elements.{children_of, flow_tree, holds_id}
use Rattle.hit_test.specs.Selecting.{between, from_first, leads, lowest}
use Rattle.hit_test.specs.declared.look.Found.{Found}
use Rattle.hit_test.specs.declared.look.Sight.{Sight}
use Rattle.hit_test.specs.declared.look.Span.{Span}
use Rattle.hit_test.specs.declared.select.SelectRefusal.{SelectRefusal}
use Rattle.hit_test.specs.declared.select.SelectRefusal.TheVariants.{NoNode, Memory}

-- ---- a page

-- the last of some boxes, or what was there before
abbrev pub or_last : Option NodeId → List PlacedBox → Option NodeId
or_last last [] = last
or_last last (box ∷ boxes) = or_last (Some box.id) boxes

-- ---- the children of an element

-- the items from the first that passes to the last are those from a place to behind another
pub record Spans {A : Type 0} (test : A → Bool) (items : List A) (most from to : ℕ) : Type 0 where
  pub within : to ≤ length items
  pub cut : between test items ≡ take (to - from) (drop from items)
  pub none : list_any test items ≡ false → (from ≡ most) × (to ≡ 0)
  pub some : list_any test items ≡ true → (from ≤ to) × (from_first test items ≡ drop from items)

-- with the child at an index, which leads to one of the two or doesn't
abbrev pub with_kid : Span → ℕ → Bool → Span
with_kid span index leads = if leads then record {
  from = min span.from index;
  to = index + 1;
} else span

-- an element with what is known of it, and its children that lead to the two
pub record IsSpanned (first second : ℕ) (found : Found) : Type 0 where
  pub known : found.known.now ≡ known_of found.node.now
  pub few : element_count found.node.now ≤ 65536
  pub within : found.span.to ≤ length (children_of (flow_tree found.node.now))
  pub cut : between (leads first second) (children_of (flow_tree found.node.now))
      ≡ take (found.span.to - found.span.from)
      (drop found.span.from (children_of (flow_tree found.node.now)))

abbrev pub Finds : ℕ → ℕ → Option Node → Option Found → Type 0
Finds first second low None = low ≡ None
Finds first second low (Some found) = (low ≡ Some (flow_tree found.node.now))
    × IsSpanned first second found

-- what an element in flow is or contains of two others
pub record Sees (first second : ℕ) (root : Node) (sight : Sight) : Type 0 where
  pub first_is : sight.first ≡ holds_id first (flow_tree root)
  pub second_is : sight.second ≡ holds_id second (flow_tree root)
  pub over : Finds first second (lowest first second (flow_tree root)) sight.over

-- what an element sees, and one more child of it
abbrev pub joined : Sight → Sight → Sight
joined sight kid = record {
  first = sight.first || kid.first;
  second = sight.second || kid.second;
  over = option_or sight.over kid.over;
}

-- the element itself is the lowest over the two, where it is over both and no child is
abbrev pub or_own : Sight → Found → Sight
or_own sight own = record {
  first = sight.first;
  second = sight.second;
  over = option_or sight.over (if sight.first && sight.second then Some own else None);
}

-- the first of the two that isn't seen
abbrev pub unseen : ℕ → ℕ → Sight → Option ℕ
unseen first second sight =
    if not sight.first then Some first else if is_some sight.over then None else Some second

-- when an element isn't there; want of memory has no cause here
abbrev pub IsUnseen : ℕ → ℕ → Sight → SelectRefusal → Type 0
IsUnseen first second sight (NoNode id) = unseen first second sight ≡ Some id.0
IsUnseen first second sight Memory = ⊥
