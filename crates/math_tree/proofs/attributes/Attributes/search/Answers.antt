use Rattle.std.proofs.Common.{rules}
use Rattle.std.proofs.lemmas.Fn.{always_returns_same}
use Rattle.math_tree.specs.declared.attributes.Attribute.{Attribute}
use Rattle.math_tree.proofs.Lookup.{compare}
use Rattle.math_tree.proofs.attributes.Attributes.search.Goals as goal

-- the closure compares an attribute's name with the one that is looked for
pub returns-clause-ends : goal.returns-clause-ends
returns-clause-ends c =
    let by_name = λ (a : Attribute). compare a.name c.args.name.now in
    let ends = c.binary_search_by.ensures.position by_name (always_returns_same _ _ _ (λ a r f called. search rules)) in
    rw (← c.self.view_is, ← c.as_slice-items.ensures) ends
