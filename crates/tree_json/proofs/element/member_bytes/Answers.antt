use Rattle.std.proofs.Common.{◌≡◌, ◌∙◌, ap, map, min, ◌+◌, List, ℕ, arith, rules}
use Rattle.math_tree.specs.Attributes.{bytes_of_attribute, bytes_of_attributes}
use Rattle.math_tree.proofs.Lists.{bytes_more, bytes_none}
use Rattle.tree_json.proofs.Members.{Entry, attribute_at, attributes_of-entries, capped_more}
use Rattle.tree_json.proofs.element.member_bytes.Goals as goal

-- the bytes of what is left
abbrev left_bytes : List Entry → ℕ
left_bytes left = bytes_of_attributes (map attribute_at left)

pub loop-name-preserved : goal.loop-name-preserved
loop-name-preserved c =
    let entry : Entry = (c.in-Some.name.now, c.in-Some.value.now) in
    let left : List Entry = c.next.new.self in
    let one = ap left_bytes c.in-Some.ensures.steps ∙ bytes_more (attribute_at entry) (map attribute_at left) in
    let added : c.bytes_of_member.result ≡ bytes_of_attribute (attribute_at entry) = search rules in
    let sum : c.saturating_add-bytes.result ≡ min (c.loop-name.bytes + bytes_of_attribute (attribute_at entry)) 18446744073709551615 = rw (← added) c.saturating_add-bytes.ensures in
    let more = capped_more 18446744073709551615 c.loop-name.bytes (bytes_of_attribute (attribute_at entry)) (left_bytes left) in (
      rw sum (more ∙ rw (← one) c.loop-name.invariant.0),
      rw sum (omega arith),
    )

pub returns : goal.returns
returns c =
    let all = ap bytes_of_attributes (attributes_of-entries c.args.members.now.entries) in
    let none : left_bytes c.loop-name.name-iterator ≡ 0 = ap left_bytes c.in-None.ensures.steps.0 ∙ bytes_none in
    rw all (omega (arith, none, c.loop-name.invariant.0, c.loop-name.invariant.1))
