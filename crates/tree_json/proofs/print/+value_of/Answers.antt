use Rattle.std.proofs.Common.{◌≡◌, ◌∙◌, ap, sym, subst, map, IfOk, length, ◌≤◌}
use Rattle.std.proofs.lemmas.List.{take_all}
use Rattle.serde_json.specs.View.{view}
use Rattle.tree_json.specs.Print.{object_of, value_of}
use Rattle.math_tree.specs.declared.node.Node.TheViews.{out-Node}
use Rattle.tree_json.proofs.Printing.{value_of_element}
use Rattle.tree_json.proofs.print.+value_of.Goals as goal

pub returns : goal.returns
returns t c =
    let node = c.args.node.now in
    let kids = (out-Node node).children in
    let done : length kids ≤ c.loop-child.child-index = subst (λ l. length l ≤ c.loop-child.child-index) c.as_slice-child-items.ensures c.loop-child-test.false in
    let values : map view c.loop-child.children.items ≡ map value_of kids = c.loop-child.invariant ∙ ap (map value_of) (take_all c.loop-child.child-index kids done) in
    subst (λ d. IfOk c.object_of.result (λ value. view value ≡ d))
    (ap (object_of (out-Node node).head) values ∙ sym (value_of_element node)) c.object_of.ensures
