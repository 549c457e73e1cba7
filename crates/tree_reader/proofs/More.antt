-- One member more of an element, key by key.
use Rattle.std.proofs.Common.{◌≡◌, ◌∙◌, refl, sym, ap, subst, ℕ, ◌+◌, ◌-◌, ◌<◌, List, ◌∷◌, length, Bool, true, false, is_some, Option, None, Some, codes, option_map, arith}
use Rattle.std.specs.Prelude.{IfSome}
use Rattle.std.proofs.lemmas.Option.{none-some}
use Rattle.json.specs.Json.{read_key, value}
use Rattle.json.specs.Token.{Token}
use Rattle.serde_json.specs.Data.{Data, string, array, object, Items, Members, put}
use Rattle.serde_json.specs.Read.{converted, of_json}
use Rattle.tree_json.specs.Elements.{attributes_of}
use Rattle.math_tree.specs.Forms.{is_short_enough}
use Rattle.math_tree.specs.declared.attributes.Attribute.{Attribute}
use Rattle.math_tree.specs.declared.node.Node.{Node}
use Rattle.tree_json.specs.declared.portion.Portion.TheVariants.{Whole}
use Rattle.tree_json.proofs.ReadParts.{side_limits}
use Rattle.tree_reader.specs.Keys.{text_of}
use Rattle.tree_reader.specs.Read.{AreRead, HaveRead, SaysMore, depth_at}
use Rattle.tree_reader.specs.Said.{IsOpen, SaysAttributes, members_of}
use Rattle.tree_reader.specs.declared.keys.Key.{Key}
use Rattle.tree_reader.specs.declared.said.Said.{Said}
use Rattle.tree_reader.specs.declared.seen.Seen.{Seen}
use Rattle.tree_reader.proofs.Open.{more, text_read}
use Rattle.tree_reader.proofs.Shapes.{put_attributes, put_children, put_name, put_text}
use Rattle.tree_json.specs.Elements.{listed_items}
use Rattle.tree_json.specs.Parts.{ReadsElements}
use Rattle.std.specs.Prelude.{Ok}

abbrev Holds : Bool → Type 0
Holds true = Unit {0}
Holds false = ⊥

-- a member is found behind its key
module _ (level : ℕ) (before ahead here rest : List Token) (key : Key) (named : List ℕ) (item : Data) (old new : Members) where
  found : text_of key ≡ Some named → read_key ahead ≡ Some (text_of key, here) → IsOpen (depth_at level) before old ahead
      → converted of_json (value (depth_at level - 1) here) ≡ Some (item, rest) → length rest < length here → put named item old ≡ new
      → IsOpen (depth_at level) before new rest
  found is key_is begun read less same =
      subst (λ all. IsOpen (depth_at level) before all rest) same
      (more (depth_at level) before ahead here rest old named item begun (key_is ∙ ap (λ k. Some (k, here)) is) read less)

module _ (level : ℕ) (here rest : List Token) (seen : Seen) (old : Said) (key : Key) where
  pub name_more : (name : Option (List ℕ)) → text_of key ≡ Some (codes "name") → old.name ≡ None
      → IfSome name (λ text. here ≡ Token.string text ∷ rest) → is_some name ≡ true
      → SaysMore level key here seen old rest seen (record { name = name; attributes = old.attributes; text = old.text; children = old.children })
  name_more None is none read given = absurd (subst Holds (sym given) tt)
  name_more (Some name) is none read given =
      let less : length rest < length here = omega (arith, ap length read) in
      record {
        shorter = less;
        goes = λ before ahead all items first levels begun key_is fits. record {
          all = all;
          items = items;
          begun = found level before ahead here rest key (codes "name") (string name) (members_of None all old.text items) (members_of (Some name) all old.text items)
              is key_is (subst (λ n. IsOpen (depth_at level) before (members_of n all old.text items) ahead) none begun)
              (text_read (depth_at level - 1) here rest name read) less (put_name name all old.text items);
          fits = record {
            attributes_are = fits.attributes_are;
            attributes_formed = fits.attributes_formed;
            text_short = fits.text_short;
            below = fits.below;
            elements = fits.elements;
            bytes = fits.bytes;
          };
        };
      }

  pub text_more : (text : Option (List ℕ)) → text_of key ≡ Some (codes "text") → old.text ≡ None
      → IfSome text (λ text. here ≡ Token.string text ∷ rest) → IfSome text (λ text. is_short_enough text ≡ true) → is_some text ≡ true
      → SaysMore level key here seen old rest seen (record { name = old.name; attributes = old.attributes; text = text; children = old.children })
  text_more None is none read short given = absurd (subst Holds (sym given) tt)
  text_more (Some text) is none read short given =
      let less : length rest < length here = omega (arith, ap length read) in
      record {
        shorter = less;
        goes = λ before ahead all items first levels begun key_is fits. record {
          all = all;
          items = items;
          begun = found level before ahead here rest key (codes "text") (string text) (members_of old.name all None items) (members_of old.name all (Some text) items)
              is key_is (subst (λ t. IsOpen (depth_at level) before (members_of old.name all t items) ahead) none begun)
              (text_read (depth_at level - 1) here rest text read) less (put_text text old.name all items);
          fits = record {
            attributes_are = fits.attributes_are;
            attributes_formed = fits.attributes_formed;
            text_short = short;
            below = fits.below;
            elements = fits.elements;
            bytes = fits.bytes;
          };
        };
      }

  none_of : (all : Option Members) → None ≡ option_map attributes_of all → all ≡ None
  none_of None e = refl
  none_of (Some all) e = absurd (none-some (attributes_of all) e)

  pub attributes_more : (attributes : Option (List Attribute)) → text_of key ≡ Some (codes "attributes") → old.attributes ≡ None
      → IfSome attributes (λ attributes. SaysAttributes here attributes rest) → is_some attributes ≡ true
      → SaysMore level key here seen old rest seen (record { name = old.name; attributes = attributes; text = old.text; children = old.children })
  attributes_more None is none says given = absurd (subst Holds (sym given) tt)
  attributes_more (Some attributes) is none says given = record {
    shorter = says.shorter;
    goes = λ before ahead all items first levels begun key_is fits.
        let absent : all ≡ None = none_of all (sym none ∙ fits.attributes_are) in
        record {
          all = Some says.all;
          items = items;
          begun = found level before ahead here rest key (codes "attributes") (object says.all) (members_of old.name None old.text items) (members_of old.name (Some says.all) old.text items)
              is key_is (subst (λ a. IsOpen (depth_at level) before (members_of old.name a old.text items) ahead) absent begun)
              (says.read (depth_at level - 1) (omega (arith, levels))) says.shorter (put_attributes says.all old.name old.text items);
          fits = record {
            attributes_are = ap Some says.are;
            attributes_formed = says.formed;
            text_short = fits.text_short;
            below = fits.below;
            elements = fits.elements;
            bytes = fits.bytes;
          };
        };
  }

-- no children were read yet
unread : (level : ℕ) (items : Option Items) (first seen : Seen) → HaveRead level items first seen None → (items ≡ None) × (seen ≡ first)
unread level None first seen same = (refl, same)
unread level (Some items) first seen never = absurd never

module _ (level : ℕ) (here rest : List Token) (seen now : Seen) (old : Said) (key : Key) where
  pub children_more : (children : Option (List Node)) → text_of key ≡ Some (codes "children") → old.children ≡ None
      → IfSome children (λ nodes. AreRead (level + 1) here seen rest now nodes) → is_some children ≡ true
      → SaysMore level key here seen old rest now (record { name = old.name; attributes = old.attributes; text = old.text; children = children })
  children_more None is none read given = absurd (subst Holds (sym given) tt)
  children_more (Some nodes) is none read given = record {
    shorter = read.shorter;
    goes = λ before ahead all items first levels begun key_is fits.
        let absent = unread (level + 1) items first seen (subst (HaveRead (level + 1) items first seen) none fits.below) in
        let less : depth_at (level + 1) + 1 ≡ depth_at level - 1 = omega (arith, levels) in
        let limits = side_limits Whole (record { elements = seen.elements; bytes = seen.bytes }) (level + 1) (listed_items read.items)
        (record { elements = now.elements; bytes = now.bytes }) nodes read.means fits.elements fits.bytes in
        record {
          all = all;
          items = Some read.items;
          begun = found level before ahead here rest key (codes "children") (array read.items) (members_of old.name all old.text None) (members_of old.name all old.text (Some read.items))
              is key_is (subst (λ i. IsOpen (depth_at level) before (members_of old.name all old.text i) ahead) absent.0 begun)
              (subst (λ n. converted of_json (value n here) ≡ Some (array read.items, rest)) less read.read) read.shorter (put_children read.items old.name old.text all);
          fits = record {
            attributes_are = fits.attributes_are;
            attributes_formed = fits.attributes_formed;
            text_short = fits.text_short;
            below = (
              subst (λ (s : Seen). ReadsElements Whole (level + 1) (listed_items read.items) (record { elements = s.elements; bytes = s.bytes })
                  (record { elements = now.elements; bytes = now.bytes }) (Ok nodes)) absent.1 read.means,
              read.order,
            );
            elements = limits.0;
            bytes = limits.1;
          };
        };
  }
