use Rattle.std.proofs.Common.{subst}
use Rattle.std.specs.Prelude.{Err}
use Rattle.serde_json.specs.View.{view}
use Rattle.tree_json.specs.Reading.{Reads, tree_of}
use Rattle.tree_json.specs.declared.refusal.TreeRefusal.{TreeRefusal}
use Rattle.seeded_edits.proofs.Document.{no_fault, the_tree}
use Rattle.seeded_edits.proofs.start.tree_of.Goals as goal

pub unreachable-requires : goal.unreachable-requires
unreachable-requires c =
    no_fault (view c.args.value.now) c.in-Err-Fault.field-0-0 c.requires
    (subst (λ (r : TreeRefusal). Reads (tree_of (view c.args.value.now)) (Err r)) c.in-Err-Fault.field-0-is c.in-Err-Fault.ensures.reads)

pub returns-in-Ok : goal.returns-in-Ok
returns-in-Ok c = the_tree (view c.args.value.now) c.in-Ok.tree c.requires c.in-Ok.ensures.reads
