use Rattle.std.proofs.Common.{◌≡◌, ◌∙◌, ◌∷◌, ◌+◌, ◌<◌, ◌≤◌, List, drop, get_or, length, min, sym, ap, arith, rules}
use Rattle.std.proofs.lemmas.List.{drop_all, drop_more}
use Rattle.math_tree.specs.Attributes.{bytes_of_attribute, bytes_of_attributes}
use Rattle.math_tree.specs.declared.attributes.Attribute.{Attribute}
use Rattle.math_tree.proofs.Lists.{bytes_more, bytes_none}
use Rattle.tree_json.proofs.Members.{capped_more}
use Rattle.tree_reader.proofs.attributes.attribute_bytes.Goals as goal

pub loop-attribute-init : goal.loop-attribute-init
loop-attribute-init c =
    let none : 0 + bytes_of_attributes c.args.attributes.now ≡ bytes_of_attributes c.args.attributes.now = omega arith in
    (ap (λ n. min n 18446744073709551615) none, omega arith)

pub loop-attribute-preserved : goal.loop-attribute-preserved
loop-attribute-preserved c =
    let all : List Attribute = c.args.attributes.now in
    let at = c.loop-attribute.attribute-index in
    let own : Attribute = c.attribute-item.result in
    let same : c.as_slice-attribute-items.result.now ≡ all = c.as_slice-attribute-items.ensures.all in
    let within : at < length all = rw (← same) c.loop-attribute-test.true in
    let here : own ≡ get_or all at own = rw (← same) c.attribute-item.is in
    let left = drop_more all at own within ∙ ap (λ a. a ∷ drop (at + 1) all) (sym here) in
    let one = ap bytes_of_attributes left ∙ bytes_more own (drop (at + 1) all) in
    let sum : c.saturating_add-bytes.result ≡ min (c.loop-attribute.bytes + bytes_of_attribute own) 18446744073709551615 = search rules in
    let more = capped_more 18446744073709551615 c.loop-attribute.bytes (bytes_of_attribute own) (bytes_of_attributes (drop (at + 1) all)) in (
      rw sum (more ∙ rw (← one) c.loop-attribute.invariant.0),
      rw sum (omega arith),
    )

pub returns : goal.returns
returns c =
    let all : List Attribute = c.args.attributes.now in
    let at = c.loop-attribute.attribute-index in
    let same = ap length c.as_slice-attribute-items.ensures.all in
    let over : length all ≤ at = omega (arith, same, c.loop-attribute-test.false) in
    let none : bytes_of_attributes (drop at all) ≡ 0 = ap bytes_of_attributes (drop_all at all over) ∙ bytes_none in
    omega (arith, none, c.loop-attribute.invariant.0, c.loop-attribute.invariant.1)
