use Rattle.std.proofs.Common.{◌≡◌, ◌∙◌, sym, slice_get, slice_set, Some, Ok, Err, rules}
use Rattle.std.specs.List.{insert}
use Rattle.std.specs.List.Sorted.{IsBinarySearchResult}
use Rattle.math_tree.specs.Attributes.{put}
use Rattle.math_tree.specs.declared.attributes.Attribute.{Attribute}
use Rattle.math_tree.proofs.Lookup.{compare, found_at, found_nowhere}
use Rattle.math_tree.proofs.Puts.{at_place, put_at, put_between, put_in_order}
use Rattle.math_tree.proofs.attributes.Attributes.put.Goals as goal

-- the attribute of that name gave way
in_place : (c : goal.After-drop-room-inside)
    → slice_set c.self.inside.items c.in-Ok.place c.replace-former.new.dest ≡ put c.args.attribute c.args.self.now
in_place c =
    let said = c.in-Ok.ensures in
    let items : c.self.inside.items ≡ c.args.self.now = search rules in
    let here : c.replace-former.new.dest ≡ c.args.attribute = search rules in
    let ends : IsBinarySearchResult (λ (x : Attribute). compare x.name c.args.attribute.name) c.args.self.now (Ok c.in-Ok.place) =
    rw (← c.as_str.ensures) said.ends in
    rw (items, here) (sym (put_at c.args.self.now said.order c.args.attribute c.in-Ok.place c.args.attribute said.range ends))

-- it stands where its name goes
between : (c : goal.After-insert) → c.insert.new.self ≡ put c.args.attribute c.args.self.now
between c =
    let said = c.in-Err.ensures in
    let items : c.insert.new.self ≡ insert c.args.self.now c.in-Err.place c.args.attribute = search rules in
    let ends : IsBinarySearchResult (λ (x : Attribute). compare x.name c.args.attribute.name) c.args.self.now (Err c.in-Err.place) =
    rw (← c.as_str.ensures) said.ends in
    items ∙ sym (put_between c.args.self.now said.order c.args.attribute c.in-Err.place said.range ends)

pub invariant_of-self : goal.invariant_of-self
invariant_of-self c = rw (in_place c) (put_in_order c.args.attribute c.args.self.now c.in-Ok.ensures.order)

pub invariant_of-self-in-Err : goal.invariant_of-self-in-Err
invariant_of-self-in-Err c = rw (between c) (put_in_order c.args.attribute c.args.self.now c.in-Err.ensures.order)

pub returns-in-Ok-clause-value : goal.returns-in-Ok-clause-value
returns-in-Ok-clause-value c =
    let said = c.in-Ok.ensures in
    let former : Attribute = c.replace-former.result in
    let got : slice_get c.args.self.now c.in-Ok.place ≡ Some former = search rules in
    let here = at_place c.args.self.now c.in-Ok.place former former got in
    let ends : IsBinarySearchResult (λ (x : Attribute). compare x.name c.args.attribute.name) c.args.self.now (Ok c.in-Ok.place) =
    rw (← c.as_str.ensures) said.ends in
    sym (found_at c.args.self.now c.args.attribute.name said.order c.in-Ok.place former said.range ends here)

pub returns-in-Ok-clause-all : goal.returns-in-Ok-clause-all
returns-in-Ok-clause-all c = in_place c

pub returns-in-Err-clause-value : goal.returns-in-Err-clause-value
returns-in-Err-clause-value c =
    let said = c.in-Err.ensures in
    let ends : IsBinarySearchResult (λ (x : Attribute). compare x.name c.args.attribute.name) c.args.self.now (Err c.in-Err.place) =
    rw (← c.as_str.ensures) said.ends in
    sym (found_nowhere c.args.self.now c.args.attribute.name said.order c.in-Err.place said.range ends)

pub returns-in-Err-clause-all : goal.returns-in-Err-clause-all
returns-in-Err-clause-all c = between c
