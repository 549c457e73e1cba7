use Rattle.std.proofs.Common.{◌≡◌, ◌∙◌, ◌+◌, ◌<◌, ◌≤◌, [], ◌∷◌, ◌++◌, length, None, Some, true, refl, sym, ap, subst, codes, option_map, arith, rules}
use Rattle.std.specs.Prelude.{IfSome, unwrap_or}
use Rattle.json.specs.Json.{after_end_array, read_key}
use Rattle.json.proofs.Grammar.{after_end_array-shorter, read_key-shorter}
use Rattle.json.specs.Json.{value}
use Rattle.serde_json.specs.Data.{no_items, object}
use Rattle.serde_json.specs.Read.{converted, of_json}
use Rattle.math_tree.specs.Attributes.{IsInOrder, bytes_of_attributes}
use Rattle.tree_json.specs.Elements.{attributes_of, bytes_held}
use Rattle.math_tree.specs.Forms.{most_elements, most_levels}
use Rattle.math_tree.specs.Trees.{node}
use Rattle.math_tree.specs.declared.node.Node.TheViews.{out-Node, out-roll-Node}
use Rattle.tree_json.specs.declared.portion.Portion.TheVariants.{Whole}
use Rattle.tree_json.proofs.Ordered
use Rattle.tree_json.proofs.ReadParts
use Rattle.tree_reader.specs.Keys.{text_of}
use Rattle.tree_reader.specs.Read.{HasCounted, HasSaid, IsRead, SaysMore, depth_at}
use Rattle.tree_reader.specs.Said.{IsMadeOf, members_of}
use Rattle.tree_reader.specs.declared.seen.Seen.{Seen}
use Rattle.tree_reader.proofs.Items.{array_ended, array_more, array_opened, joined, listed_joined}
use Rattle.tree_reader.proofs.Means
use Rattle.tree_reader.proofs.More.{attributes_more, children_more, name_more, text_more}
use Rattle.tree_reader.proofs.Open.{ended, opened}
use Rattle.tree_reader.proofs.element.+read.Goals as goal

pub children-items-init : goal.children-items-init
children-items-init t c =
    let yes : c.begins_array.result ≡ true = search rules in
    let none : c.make-nodes.result ≡ [] = search rules in
    rw none (record {
      list = [];
      begun = array_opened (depth_at c.args.level) c.args.reader.now c.begins_array.new.reader (c.begins_array.ensures yes);
      means = Means.none_read c.args.level c.args.seen.now;
      order = tt;
    })

pub children-element-requires : goal.children-element-requires
children-element-requires t c =
    let l = c.items in
    let limits = ReadParts.side_limits Whole (record { elements = c.args.seen.now.elements; bytes = c.args.seen.now.bytes }) c.args.level l.invariant.list
    (record { elements = l.seen.elements; bytes = l.seen.bytes }) l.nodes l.invariant.means c.requires.elements c.requires.bytes in
    (omega (arith, c.requires.level), (c.requires.low, (c.requires.level, limits)))

pub children-items-preserved : goal.children-items-preserved
children-items-preserved t c =
    let l = c.items in
    let same : c.take_end_array.new.self ≡ l.reader = search rules in
    let found : IsRead c.args.level c.take_end_array.new.self l.seen c.element.new.reader c.element.new.seen c.in-Some.node =
    subst (λ o. IfSome o (IsRead c.args.level c.take_end_array.new.self l.seen c.element.new.reader c.element.new.seen)) c.in-Some.is c.in_ok-node.ensures in
    let read : IsRead c.args.level l.reader l.seen c.element.new.reader c.element.new.seen c.in-Some.node =
    subst (λ ts. IsRead c.args.level ts l.seen c.element.new.reader c.element.new.seen c.in-Some.node) same found in
    let goes_on : after_end_array l.reader ≡ None = search rules in
    rw c.in_ok-push.ensures.ok (record {
      list = l.invariant.list ++ read.whole ∷ [];
      begun = array_more (depth_at c.args.level) c.args.reader.now l.reader c.element.new.reader l.invariant.list read.whole l.invariant.begun goes_on read.read read.shorter;
      means = ReadParts.one_more Whole (record { elements = c.args.seen.now.elements; bytes = c.args.seen.now.bytes }) c.args.level l.invariant.list read.whole []
          (record { elements = l.seen.elements; bytes = l.seen.bytes }) (record { elements = c.element.new.seen.elements; bytes = c.element.new.seen.bytes })
          l.nodes c.in-Some.node l.invariant.means read.means;
      order = Ordered.one_more c.args.level l.nodes c.in-Some.node l.invariant.order read.order;
    })

pub children-returns : goal.children-returns
children-returns t c =
    let l = c.items in
    let list = l.invariant.list in
    let rest = c.take_end_array.new.self in
    let end : after_end_array l.reader ≡ Some rest = search rules in
    record {
      items = joined list no_items;
      read = array_ended (depth_at c.args.level) c.args.reader.now l.reader rest list l.invariant.begun end;
      shorter = omega (arith, after_end_array-shorter l.reader rest end, l.invariant.begun.shorter);
      means = rw (listed_joined list) l.invariant.means;
      order = l.invariant.order;
    }

pub member-returns-in_ok-said-in-Name : goal.member-returns-in_ok-said-in-Name
member-returns-in_ok-said-in-Name t c = λ yes.
    let named : text_of c.args.key ≡ Some (codes "name") = ap text_of c.in-Name.is in
    let none : c.args.said.now.name ≡ None = search rules in
    name_more c.args.level c.args.reader.now c.text.new.reader c.args.seen.now c.args.said.now c.args.key c.in_ok-said-in-Name.field-0
    named none c.in_ok-said-in-Name.ensures.read (sym c.is_some.ensures ∙ yes)

pub member-returns-in_ok-said-in-Attributes : goal.member-returns-in_ok-said-in-Attributes
member-returns-in_ok-said-in-Attributes t c = λ yes.
    let named : text_of c.args.key ≡ Some (codes "attributes") = ap text_of c.in-Attributes.is in
    let none : c.args.said.now.attributes ≡ None = search rules in
    attributes_more c.args.level c.args.reader.now c.attributes.new.reader c.args.seen.now c.args.said.now c.args.key c.in_ok-said-in-Attributes.field-0
    named none c.in_ok-said-in-Attributes.ensures (sym c.is_some-in-Attributes.ensures ∙ yes)

pub member-returns-in_ok-said-in-Text : goal.member-returns-in_ok-said-in-Text
member-returns-in_ok-said-in-Text t c = λ yes.
    let named : text_of c.args.key ≡ Some (codes "text") = ap text_of c.in-Text.is in
    let none : c.args.said.now.text ≡ None = search rules in
    text_more c.args.level c.args.reader.now c.text-in-Text.new.reader c.args.seen.now c.args.said.now c.args.key c.in_ok-said-in-Text.field-0
    named none c.in_ok-said-in-Text.ensures.read c.in_ok-said-in-Text.ensures.short (sym c.is_some-in-Text.ensures ∙ yes)

pub member-returns-in_ok-said-in-Children : goal.member-returns-in_ok-said-in-Children
member-returns-in_ok-said-in-Children t c = λ yes.
    let named : text_of c.args.key ≡ Some (codes "children") = ap text_of c.in-Children.is in
    let none : c.args.said.now.children ≡ None = search rules in
    children_more c.args.level c.args.reader.now c.children.new.reader c.args.seen.now c.children.new.seen c.args.said.now c.args.key c.in_ok-said-in-Children.field-0
    named none c.in_ok-said-in-Children.ensures (sym c.is_some-in-Children.ensures ∙ yes)

pub members-members-init : goal.members-members-init
members-members-init t c =
    let yes : c.begins_object.result ≡ true = search rules in
    let deep : 0 < depth_at c.args.level = omega (arith, c.requires.level) in
    rw c.nothing-said.ensures (record {
      all = None;
      items = None;
      begun = opened (depth_at c.args.level) c.args.reader.now c.begins_object.new.reader deep (c.begins_object.ensures yes);
      fits = record {
        attributes_are = refl;
        attributes_formed = refl;
        text_short = refl;
        below = refl;
        elements = c.requires.elements;
        bytes = c.requires.bytes;
      };
    })

pub members-returns-in-End : goal.members-returns-in-End
members-returns-in-End t c =
    let l = c.members in
    let rest = c.next_key.new.reader in
    let last : read_key l.reader ≡ Some (None, rest) = search rules in
    record {
      all = l.invariant.all;
      items = l.invariant.items;
      read = ended (depth_at c.args.level) c.args.reader.now l.reader rest
          (members_of l.said.name l.invariant.all l.said.text l.invariant.items) l.invariant.begun last;
      shorter = omega (arith, read_key-shorter l.reader None rest last, l.invariant.begun.shorter);
      fits = l.invariant.fits;
    }

pub members-members-preserved : goal.members-members-preserved
members-members-preserved t c =
    let l = c.members in
    let given : c.in_ok-member.field-0 ≡ true = search rules in
    let more : SaysMore c.args.level c.in-Some.key c.next_key.new.reader l.seen l.said c.member.new.reader c.member.new.seen c.member.new.said =
    c.in_ok-member.ensures given in
    more.goes c.args.reader.now l.reader l.invariant.all l.invariant.items c.args.seen.now c.requires.level l.invariant.begun c.in-Some.ensures l.invariant.fits

pub element-returns-then-count : goal.element-returns-then-count
element-returns-then-count t c =
    let level = c.args.level in
    let before = c.args.reader.now in
    let rest = c.members.new.reader in
    let seen = c.args.seen.now in
    let first : Seen = record { elements = seen.elements + 1; bytes = seen.bytes } in
    let then = c.members.new.seen in
    let after = c.count.new.self in
    let said = c.in-Some.said in
    let made_node = c.in-Some-2.node in
    let says : HasSaid level before first rest then said = subst (λ o. IfSome o (HasSaid level before first rest then)) c.in-Some.is c.in_ok-said.ensures in
    let made : IsMadeOf said (seen.elements + 1) made_node = subst (λ o. IfSome o (IsMadeOf said (seen.elements + 1))) c.in-Some-2.is c.in_ok-node.ensures in
    let counted : HasCounted (out-Node made_node).head then after = c.count.ensures c.if-count.true in
    let levels : level ≤ most_levels = omega (arith, c.if-level-gt-MOST_LEVELS.false) in
    let room : seen.elements + 1 ≤ most_elements = omega (arith, c.if-seen-ge-MOST_ELEMENTS.false) in
    let kids = unwrap_or said.children [] in
    let head = Means.head_at (seen.elements + 1) made.name (option_map attributes_of says.all) said.text in
    let is_made : made_node ≡ node head kids =
    made.made_is ∙ ap (λ a. node (Means.head_at (seen.elements + 1) made.name a said.text) kids) says.fits.attributes_are in
    let head_is : (out-Node made_node).head ≡ head =
    ap (λ n. (out-Node n).head) is_made ∙ ap (λ l. l.head) (out-roll-Node (record { head = head; children = kids })) in
    let whole = Means.whole level seen made.name says.all said.text says.items said.children levels room made.formed made.placed
    says.fits.attributes_formed says.fits.text_short made.text_fits made.plain in
    let held = Means.bytes_are level seen made.name says.all said.text says.items said.children levels room made.formed made.placed
    says.fits.attributes_formed says.fits.text_short made.text_fits made.plain in
    let bytes : after.bytes ≡ then.bytes + bytes_held whole =
    counted.bytes_are ∙ ap (λ h. then.bytes + (length h.name + length h.text + bytes_of_attributes h.attributes)) head_is ∙ ap (λ n. then.bytes + n) (sym held) in
    rw is_made (record {
      whole = whole;
      read = subst (λ n. converted of_json (value (depth_at level) before) ≡ Some (object (members_of n says.all said.text says.items), rest)) made.name_is says.read;
      shorter = says.shorter;
      means = Means.means level seen made.name says.all said.text says.items said.children levels room made.formed made.placed
          says.fits.attributes_formed says.fits.text_short made.text_fits made.plain first then after says.fits.below refl refl counted.elements bytes counted.few;
      order = Ordered.with_head level head kids
          (subst (λ a. IsInOrder (unwrap_or a [])) says.fits.attributes_are made.order)
          (Means.in_order (level + 1) says.items first then said.children says.fits.below);
    })
