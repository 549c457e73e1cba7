use Rattle.serde_json.specs.View.{view}
use Rattle.tree_json.proofs.Whole.{part_read}
use Rattle.tree_json.proofs.read.read_part.Goals as goal

pub returns : goal.returns
returns c =
    let both = part_read (view c.args.value.now) c.read_element.new.seen c.read_element.result c.read_element.ensures.reads c.read_element.ensures.order in
    record { reads = both.0; sound = both.1 }
