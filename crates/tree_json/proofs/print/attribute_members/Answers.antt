use Rattle.std.proofs.Common.{◌≡◌, ◌∙◌, ap}
use Rattle.serde_json.specs.Data.{string, put}
use Rattle.serde_json.specs.View.{view, members_view}
use Rattle.tree_json.proofs.Printing.{next_member}
use Rattle.tree_json.proofs.print.attribute_members.Goals as goal

pub loop-attribute-preserved : goal.loop-attribute-preserved
loop-attribute-preserved c =
    let a = c.attribute-item.result in
    let old = members_view c.loop-attribute.members.entries in
    let value : view c.in_ok-value.value ≡ string a.value = c.in_ok-value.ensures ∙ ap string c.as_str.ensures in
    c.in_ok-put.ensures ∙ ap (λ name. put name (view c.in_ok-value.value) old) c.as_str-in-loop-attribute.ensures
    ∙ ap (λ v. put a.name v old) value ∙ ap (put a.name (string a.value)) c.loop-attribute.invariant
    ∙ next_member c.args.attributes.now c.loop-attribute.attribute-index a c.loop-attribute-test.true c.attribute-item.is c.requires
