use Rattle.std.proofs.Common.{◌≡◌, ◌∙◌, sym, slice_get, Some, rules}
use Rattle.std.specs.List.{remove}
use Rattle.math_tree.specs.Attributes.{without}
use Rattle.math_tree.specs.declared.attributes.Attribute.{Attribute}
use Rattle.math_tree.proofs.Lookup.{found_at, found_nowhere}
use Rattle.math_tree.proofs.Puts.{at_place, without_at, without_nowhere, without_in_order}
use Rattle.math_tree.proofs.attributes.Attributes.remove.Goals as goal

taken_out : (c : goal.After-drop-remove) → c.remove.new.self ≡ without c.args.name.now c.args.self.now
taken_out c =
    let said = c.in-Ok.ensures in
    let items : c.remove.new.self ≡ remove c.args.self.now c.in-Ok.place = search rules in
    items ∙ sym (without_at c.args.self.now said.order c.args.name.now c.in-Ok.place c.remove.result said.range said.ends)

pub invariant_of-self : goal.invariant_of-self
invariant_of-self c = rw (taken_out c) (without_in_order c.args.name.now c.args.self.now c.in-Ok.ensures.order)

pub returns-in-Ok-clause-value : goal.returns-in-Ok-clause-value
returns-in-Ok-clause-value c =
    let said = c.in-Ok.ensures in
    let former : Attribute = c.remove.result in
    let got : slice_get c.args.self.now c.in-Ok.place ≡ Some former = search rules in
    let here = at_place c.args.self.now c.in-Ok.place former former got in
    sym (found_at c.args.self.now c.args.name.now said.order c.in-Ok.place former said.range said.ends here)

pub returns-in-Ok-clause-all : goal.returns-in-Ok-clause-all
returns-in-Ok-clause-all c = taken_out c

pub returns-in-Err-clause-value : goal.returns-in-Err-clause-value
returns-in-Err-clause-value c =
    let said = c.in-Err.ensures in
    sym (found_nowhere c.args.self.now c.args.name.now said.order c.in-Err.field-0 said.range said.ends)

pub returns-in-Err-clause-all : goal.returns-in-Err-clause-all
returns-in-Err-clause-all c =
    let said = c.in-Err.ensures in
    sym (without_nowhere c.args.self.now said.order c.args.name.now c.in-Err.field-0 said.range said.ends)
