-- What an element says of itself, as its tokens come.
use Rattle.std.specs.Prelude.{◌≡◌, ◌<◌, ◌≤◌, ◌-◌, ℕ, List, [], length, true, false, Option, Some, None, codes, option_map, unwrap_or}
use Rattle.json.specs.Json.{members, value}
use Rattle.json.specs.Token.{Token}
use Rattle.serde_json.specs.Data.{Data, string, array, object, Items, Members, no_members, member}
use Rattle.serde_json.specs.Read.{converted, of_json, of_members}
use Rattle.math_tree.specs.Attributes.{IsInOrder}
use Rattle.tree_json.specs.Elements.{are_attributes, attributes_of}
use Rattle.tree_json.specs.Faults.{is_misplaced}
use Rattle.math_tree.specs.Forms.{is_name}
use Rattle.math_tree.specs.Kinds.{is_text_kind, kind_of}
use Rattle.math_tree.specs.Trees.{node}
use Rattle.math_tree.specs.declared.attributes.Attribute.{Attribute}
use Rattle.math_tree.specs.declared.node.Node.{Node}
use Rattle.tree_json.specs.declared.portion.Portion.TheVariants.{Whole}
use Rattle.tree_reader.specs.declared.keys.Key.{Key}
use Rattle.tree_reader.specs.declared.keys.Key.TheVariants.{Name, Attributes, Text, Children, End}
use Rattle.tree_reader.specs.declared.said.Said.{Said}

-- ---- an element as an object

-- a member more in front, where there is one
abbrev pub perhaps : List ℕ → Option Data → Members → Members
perhaps key None rest = rest
perhaps key (Some given) rest = member key given rest

-- the members of an element, in the order of their keys
abbrev pub members_of : Option (List ℕ) → Option Members → Option (List ℕ) → Option Items → Members
members_of name attributes text children =
    perhaps (codes "attributes") (option_map object attributes)
    (perhaps (codes "children") (option_map array children)
    (perhaps (codes "name") (option_map string name)
    (perhaps (codes "text") (option_map string text) no_members)))

-- ---- an object that is being read

-- an object began at some tokens, which may nest so deep; so far it has these members, and the rest
-- goes on here
pub record IsOpen (depth : ℕ) (before : List Token) (found : Members)
    (now : List Token) : Type 0 where
  pub turns : ℕ
  pub enough : length now ≤ turns
  pub shorter : length now < length before
  pub same : converted of_json (value depth before)
      ≡ converted (λ ms. option_map object (of_members ms found))
      (members (value (depth - 1)) turns now)

-- ---- what is said

-- an object of attributes in their form comes next
pub record SaysAttributes (before : List Token) (attributes : List Attribute)
    (after : List Token) : Type 0 where
  pub all : Members
  pub read : (depth : ℕ) → 0 < depth
      → converted of_json (value depth before) ≡ Some (object all, after)
  pub shorter : length after < length before
  pub are : attributes ≡ attributes_of all
  pub formed : are_attributes all ≡ true

-- the member of a key isn't there yet
abbrev pub IsUnsaid : Key → Said → Type 0
IsUnsaid Name said = said.name ≡ None
IsUnsaid Attributes said = said.attributes ≡ None
IsUnsaid Text said = said.text ≡ None
IsUnsaid Children said = said.children ≡ None
IsUnsaid End said = Unit {0}

-- a node is the element of which this is said, under an id, and it may stand there
pub record IsMadeOf (said : Said) (id : ℕ) (made : Node) : Type 0 where
  pub name : List ℕ
  pub name_is : said.name ≡ Some name
  pub formed : is_name name ≡ true
  pub placed : is_misplaced Whole id name ≡ false
  pub text_fits : is_text_kind (kind_of name) ≡ false → unwrap_or said.text [] ≡ []
  pub plain : is_text_kind (kind_of name) ≡ true → said.children ≡ None
  pub made_is : made ≡ node (record {
    id = record { 0 = id };
    name = name;
    kind = kind_of name;
    attributes = unwrap_or said.attributes [];
    text = unwrap_or said.text [];
  }) (unwrap_or said.children [])
  pub order : IsInOrder (unwrap_or said.attributes [])
