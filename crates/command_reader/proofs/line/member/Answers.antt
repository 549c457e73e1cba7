use Rattle.std.proofs.Common.{◌≡◌, ◌∙◌, ap, sym, codes, None, Some, rules}
use Rattle.command_reader.specs.Said.{text_of}
use Rattle.command_reader.proofs.More.{name_more, node_more, op_more, text_more, value_more}
use Rattle.command_reader.proofs.line.member.Goals as goal

pub returns-in-Op : goal.returns-in-Op
returns-in-Op c = λ yes.
    let named : text_of c.args.key ≡ Some (codes "op") = ap text_of c.in-Op.is in
    let none : c.args.said.now.op ≡ None = search rules in
    op_more c.args.reader.now c.next_op-said.new.reader c.args.said.now c.args.key c.next_op-said.result named none c.next_op-said.ensures (sym c.is_some.ensures ∙ yes)

pub returns-in-Node : goal.returns-in-Node
returns-in-Node c = λ yes.
    let named : text_of c.args.key ≡ Some (codes "node") = ap text_of c.in-Node.is in
    let none : c.args.said.now.node ≡ None = search rules in
    node_more c.args.reader.now c.next_number-said.new.reader c.args.said.now c.args.key c.next_number-said.result named none c.next_number-said.ensures (sym c.is_some-in-Node.ensures ∙ yes)

pub returns-in_ok-said-in-Name : goal.returns-in_ok-said-in-Name
returns-in_ok-said-in-Name c = λ yes.
    let named : text_of c.args.key ≡ Some (codes "name") = ap text_of c.in-Name.is in
    let none : c.args.said.now.name ≡ None = search rules in
    name_more c.args.reader.now c.next_text.new.reader c.args.said.now c.args.key c.in_ok-said-in-Name.field-0 named none c.in_ok-said-in-Name.ensures (sym c.is_some-in-Name.ensures ∙ yes)

pub returns-in_ok-said-in-Text : goal.returns-in_ok-said-in-Text
returns-in_ok-said-in-Text c = λ yes.
    let named : text_of c.args.key ≡ Some (codes "text") = ap text_of c.in-Text.is in
    let none : c.args.said.now.text ≡ None = search rules in
    text_more c.args.reader.now c.next_text-in-Text.new.reader c.args.said.now c.args.key c.in_ok-said-in-Text.field-0 named none c.in_ok-said-in-Text.ensures (sym c.is_some-in-Text.ensures ∙ yes)

pub returns-in_ok-said-in-Value : goal.returns-in_ok-said-in-Value
returns-in_ok-said-in-Value c = λ yes.
    let named : text_of c.args.key ≡ Some (codes "value") = ap text_of c.in-Value.is in
    let none : c.args.said.now.value ≡ None = search rules in
    value_more c.args.reader.now c.next_text_or_null.new.reader c.args.said.now c.args.key c.in_ok-said-in-Value.field-0 named none c.in_ok-said-in-Value.ensures (sym c.is_some-in-Value.ensures ∙ yes)
