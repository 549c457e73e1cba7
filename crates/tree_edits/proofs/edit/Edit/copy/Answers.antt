use Rattle.std.proofs.Common.{◌∙◌, ap, sym}
use Rattle.tree_edits.specs.declared.edit.Edit.TheVariants.{Text, Attr, Insert, Replace, Graft, Swap}
use Rattle.tree_edits.proofs.edit.Edit.copy.Goals as goal

pub returns-in_ok-copy-in-Text : goal.returns-in_ok-copy-in-Text
returns-in_ok-copy-in-Text c = ap (Text c.in-Text.id) (c.in_ok-copy-in-Text.ensures {u = tt}) ∙ sym c.in-Text.is

pub returns-in_ok-copy-in-Attr : goal.returns-in_ok-copy-in-Attr
returns-in_ok-copy-in-Attr c =
    let name = c.in_ok-copy-in-Attr.ensures {u = tt} in
    let value = c.in_ok-value-in-Attr.ensures {u = tt} in
    (λ i. Attr c.in-Attr.id (name i) (value i)) ∙ sym c.in-Attr.is

pub returns-in_ok-copy-in-Insert : goal.returns-in_ok-copy-in-Insert
returns-in_ok-copy-in-Insert c = ap (Insert c.in-Insert.id c.in-Insert.index) (c.in_ok-copy-in-Insert.ensures {u = tt}) ∙ sym c.in-Insert.is

pub returns-in-Remove : goal.returns-in-Remove
returns-in-Remove c = sym c.in-Remove.is

pub returns-in_ok-copy-in-Replace : goal.returns-in_ok-copy-in-Replace
returns-in_ok-copy-in-Replace c = ap (Replace c.in-Replace.id) (c.in_ok-copy-in-Replace.ensures {u = tt}) ∙ sym c.in-Replace.is

pub returns-in_ok-copy-in-Graft : goal.returns-in_ok-copy-in-Graft
returns-in_ok-copy-in-Graft c = ap (Graft c.in-Graft.id c.in-Graft.index) (c.in_ok-copy-in-Graft.ensures {u = tt}) ∙ sym c.in-Graft.is

pub returns-in_ok-copy-in-Swap : goal.returns-in_ok-copy-in-Swap
returns-in_ok-copy-in-Swap c = ap (Swap c.in-Swap.id) (c.in_ok-copy-in-Swap.ensures {u = tt}) ∙ sym c.in-Swap.is
