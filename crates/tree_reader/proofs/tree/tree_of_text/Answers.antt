use Rattle.std.proofs.Common.{◌≡◌, ◌+◌, ◌∙◌, ℕ, [], Some, Ok, ap, subst, sym, arith, rules}
use Rattle.std.specs.Prelude.{IfSome}
use Rattle.json.specs.Json.{value}
use Rattle.json.specs.Lex.{tokens}
use Rattle.serde_json.specs.Read.{converted, of_json}
use Rattle.tree_json.specs.Parts.{IsOrderedAt}
use Rattle.math_tree.specs.Trees.{TreeValue}
use Rattle.math_tree.specs.declared.node.Node.{Node}
use Rattle.tree_json.proofs.Whole.{totalled, tree_is}
use Rattle.tree_reader.specs.Read.{IsRead}
use Rattle.tree_reader.specs.declared.seen.Seen.{Seen}
use Rattle.tree_reader.proofs.Members.{whole_text}
use Rattle.tree_reader.proofs.tree.tree_of_text.Goals as goal

abbrev tree_at : Node → ℕ → TreeValue
tree_at root next = record { root = root; next_id = next }

abbrev none_seen : Seen
none_seen = record { elements = 0; bytes = 0 }

pub whole-requires : goal.whole-requires
whole-requires c =
    let root : IsRead 1 c.in_ok-reader.reader none_seen c.element.new.reader c.element.new.seen c.in-Some.root =
    subst (λ o. IfSome o (IsRead 1 c.in_ok-reader.reader none_seen c.element.new.reader c.element.new.seen)) c.in-Some.is c.in_ok-root.ensures in
    let read = root.means in
    let count = ap (λ s. s.elements) read.2 in
    let bytes = ap (λ s. s.bytes) read.2 in
    let next : ℕ = c.element.new.seen.elements + 1 in
    rw read.1 (totalled root.whole next c.element.new.seen.elements c.element.new.seen.bytes read.0
    (subst (IsOrderedAt 1) read.1 root.order) (omega (arith, count)) (omega (arith, count)) (omega (arith, bytes)))

pub returns : goal.returns
returns c =
    let root : IsRead 1 c.in_ok-reader.reader none_seen c.element.new.reader c.element.new.seen c.in-Some.root =
    subst (λ o. IfSome o (IsRead 1 c.in_ok-reader.reader none_seen c.element.new.reader c.element.new.seen)) c.in-Some.is c.in_ok-root.ensures in
    let read = root.means in
    let count = ap (λ s. s.elements) read.2 in
    let next : ℕ = c.element.new.seen.elements + 1 in
    let none : c.element.new.reader ≡ [] = search rules in
    record {
      whole = root.whole;
      read = whole_text c.args.text.now root.whole
          (subst (λ ts. converted of_json (value 127 (tokens c.args.text.now)) ≡ Some (root.whole, ts)) none
          (subst (λ ts. converted of_json (value 127 ts) ≡ Some (root.whole, c.element.new.reader)) c.in_ok-reader.ensures.ok root.read));
      tree_is = tree_is root.whole next read.0 (omega (arith, count)) ∙ ap (λ n. Ok (tree_at n next)) (sym read.1) ∙ ap Ok (sym c.whole.ensures);
    }
