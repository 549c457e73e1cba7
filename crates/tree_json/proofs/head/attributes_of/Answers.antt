use Rattle.std.proofs.Common.{◌≡◌, ◌∙◌, sym, ap, map, List, [], ◌++◌, append-nil}
use Rattle.math_tree.specs.declared.attributes.Attribute.{Attribute}
use Rattle.tree_json.proofs.Members.{Entry, attribute_at, attributes_of-entries, in_order}
use Rattle.tree_json.proofs.head.attributes_of.Goals as goal

-- at the end nothing is left to read
all_read : (items : List Attribute) (left entries : List Entry) → left ≡ []
    → items ++ map attribute_at left ≡ map attribute_at entries
    → items ≡ map attribute_at entries
all_read items left entries none is =
    sym (append-nil items) ∙ ap (λ (l : List Entry). items ++ map attribute_at l) (sym none) ∙ is

pub of-requires : goal.of-requires
of-requires c =
    let entries = c.args.members.now.entries in
    rw (all_read c.loop-name.items c.loop-name.name-iterator entries c.in-None.ensures.steps.0 c.loop-name.invariant)
    (in_order entries c.iter-name-items.ensures.ordered)

pub returns : goal.returns
returns c =
    let entries = c.args.members.now.entries in
    let all = all_read c.loop-name.items c.loop-name.name-iterator entries c.in-None.ensures.steps.0 c.loop-name.invariant in
    c.of.ensures ∙ all ∙ sym (attributes_of-entries entries)
