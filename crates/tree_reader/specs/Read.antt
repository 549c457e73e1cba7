-- What is read of elements, token by token, and of a whole tree.
use Rattle.std.specs.Prelude.{◌≡◌, ◌<◌, ◌≤◌, ◌+◌, ◌-◌, ◌*◌, ℕ, List, length, true, Option, Some, None, Ok, option_map}
use Rattle.std.specs.Option.{option_map_or}
use Rattle.json.specs.Json.{read_key, value}
use Rattle.json.specs.Token.{Token}
use Rattle.serde_json.specs.Data.{Data, Items, Members, array, object}
use Rattle.serde_json.specs.Read.{converted, of_json, read}
use Rattle.math_tree.specs.Attributes.{bytes_of_attributes}
use Rattle.tree_json.specs.Elements.{are_attributes, attributes_of, listed_items}
use Rattle.math_tree.specs.Forms.{is_short_enough, most_bytes, most_elements, most_levels}
use Rattle.tree_json.specs.Parts.{AreOrderedAt, IsOrderedAt, ReadsElement, ReadsElements}
use Rattle.tree_json.specs.Reading.{tree_of}
use Rattle.math_tree.specs.Trees.{TreeValue}
use Rattle.math_tree.specs.declared.node.Head.{Head}
use Rattle.math_tree.specs.declared.node.Node.{Node}
use Rattle.tree_json.specs.declared.portion.Portion.TheVariants.{Whole}
use Rattle.tree_edits.specs.Commands.{json_in}
use Rattle.tree_reader.specs.Keys.{text_of}
use Rattle.tree_reader.specs.Said.{IsOpen, members_of}
use Rattle.tree_reader.specs.declared.keys.Key.{Key}
use Rattle.tree_reader.specs.declared.said.Said.{Said}
use Rattle.tree_reader.specs.declared.seen.Seen.{Seen}

-- how deep an element of a level may nest, its own braces included
abbrev pub depth_at : ℕ → ℕ
depth_at level = 129 - 2 * level

-- the bytes of an element are counted, and are no more than a tree may have
pub record HasCounted (head : Head) (old new : Seen) : Type 0 where
  pub elements : new.elements ≡ old.elements
  pub bytes_are : new.bytes
      ≡ old.bytes + (length head.name + length head.text + bytes_of_attributes head.attributes)
  pub few : new.bytes ≤ most_bytes

-- an element with all below it: its value is read, and it means this node and has no fault
pub record IsRead (level : ℕ) (before : List Token) (seen : Seen) (after : List Token) (now : Seen)
    (node : Node) : Type 0 where
  pub whole : Data
  pub read : converted of_json (value (depth_at level) before) ≡ Some (whole, after)
  pub shorter : length after < length before
  pub means : ReadsElement Whole level whole
      (record { elements = seen.elements; bytes = seen.bytes })
      (record { elements = now.elements; bytes = now.bytes }) (Ok node)
  pub order : IsOrderedAt level node

-- the elements of an array
pub record AreRead (level : ℕ) (before : List Token) (seen : Seen) (after : List Token) (now : Seen)
    (nodes : List Node) : Type 0 where
  pub items : Items
  pub read : converted of_json (value (depth_at level + 1) before) ≡ Some (array items, after)
  pub shorter : length after < length before
  pub means : ReadsElements Whole level (listed_items items)
      (record { elements = seen.elements; bytes = seen.bytes })
      (record { elements = now.elements; bytes = now.bytes }) (Ok nodes)
  pub order : AreOrderedAt level nodes

-- children were read, or weren't there, and then nothing was seen
abbrev pub HaveRead : ℕ → Option Items → Seen → Seen → Option (List Node) → Type 0
HaveRead level None seen now None = now ≡ seen
HaveRead level None seen now (Some nodes) = ⊥
HaveRead level (Some items) seen now None = ⊥
HaveRead level (Some items) seen now (Some nodes) =
    ReadsElements Whole level (listed_items items)
    (record { elements = seen.elements; bytes = seen.bytes })
    (record { elements = now.elements; bytes = now.bytes }) (Ok nodes)
    × AreOrderedAt level nodes

-- what is said so far is what these attributes and children say, each in its form, and as many
-- elements and bytes as a tree may have were seen at most
pub record Fits (level : ℕ) (all : Option Members) (items : Option Items) (seen now : Seen)
    (said : Said) : Type 0 where
  pub attributes_are : said.attributes ≡ option_map attributes_of all
  pub attributes_formed : option_map_or are_attributes all true ≡ true
  pub text_short : option_map_or is_short_enough said.text true ≡ true
  pub below : HaveRead (level + 1) items seen now said.children
  pub elements : now.elements ≤ most_elements
  pub bytes : now.bytes ≤ most_bytes

-- the members of an element, to its end
pub record HasSaid (level : ℕ) (before : List Token) (seen : Seen) (after : List Token) (now : Seen)
    (said : Said) : Type 0 where
  pub all : Option Members
  pub items : Option Items
  pub read : converted of_json (value (depth_at level) before)
      ≡ Some (object (members_of said.name all said.text items), after)
  pub shorter : length after < length before
  pub fits : Fits level all items seen now said

-- an element began at some tokens; so far this is said of it, and the rest goes on here
pub record IsOpenWith (level : ℕ) (before : List Token) (seen : Seen) (rest : List Token)
    (now : Seen) (said : Said) : Type 0 where
  pub all : Option Members
  pub items : Option Items
  pub begun : IsOpen (depth_at level) before (members_of said.name all said.text items) rest
  pub fits : Fits level all items seen now said

-- one member more, whose key is read: of an element of which so much was said, more is said now
pub record SaysMore (level : ℕ) (key : Key) (here : List Token) (old_seen : Seen) (old : Said)
    (rest : List Token) (new_seen : Seen) (new : Said) : Type 0 where
  pub shorter : length rest < length here
  pub goes : (before ahead : List Token) (all : Option Members) (items : Option Items)
      (first : Seen) → level ≤ most_levels
      → IsOpen (depth_at level) before (members_of old.name all old.text items) ahead
      → read_key ahead ≡ Some (text_of key, here) → Fits level all items first old_seen old
      → IsOpenWith level before first rest new_seen new

-- the tree of a text, and of bytes
pub record IsTreeOfText (text : List ℕ) (tree : TreeValue) : Type 0 where
  pub whole : Data
  pub read : read text ≡ Some whole
  pub tree_is : tree_of whole ≡ Ok tree

pub record IsTreeOf (bytes : List ℕ) (tree : TreeValue) : Type 0 where
  pub whole : Data
  pub read : json_in bytes ≡ Some whole
  pub tree_is : tree_of whole ≡ Ok tree
