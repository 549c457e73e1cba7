use Rattle.std.proofs.Common.{◌≡◌, sym, get_or, rules}
use Rattle.math_tree.specs.declared.attributes.Attribute.{Attribute}
use Rattle.math_tree.proofs.Lookup.{found_at, found_nowhere}
use Rattle.math_tree.proofs.attributes.Attributes.get.Goals as goal

pub returns-in-Ok : goal.returns-in-Ok
returns-in-Ok c =
    let said = c.in-Ok.ensures in
    let item : Attribute = c.index-as_slice-place.result in
    let here : item ≡ get_or c.args.self.now c.in-Ok.place item = search rules in
    let found = found_at c.args.self.now c.args.name.now said.order c.in-Ok.place item said.range said.ends here in
    rw (c.as_str.ensures, ← c.index-as_slice-place.is) (sym found)

pub returns-in-Err : goal.returns-in-Err
returns-in-Err c =
    let said = c.in-Err.ensures in
    sym (found_nowhere c.args.self.now c.args.name.now said.order c.in-Err.field-0 said.range said.ends)
