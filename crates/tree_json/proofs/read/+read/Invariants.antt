use Rattle.std.proofs.Common.{◌+◌, ◌-◌, ◌*◌, Ok, map, take}
use Rattle.serde_json.specs.View.{view}
use Rattle.tree_json.specs.Parts.{AreOrderedAt, ReadsPart, nodes_of}
use Rattle.tree_json.proofs.Listing.{all_elements}
use Rattle.tree_json.proofs.read.+read.Given as goal

-- the levels that are left end the recursion
abbrev pub decreases-read_element : goal.decreases-read_element
decreases-read_element l = 2 * (62 - l.level)

abbrev pub decreases-read_elements : goal.decreases-read_elements
decreases-read_elements l = 2 * (62 - l.level) + 1

-- the values so far are read, and the attributes in them stand in order
abbrev pub invariant-read_elements-loop-value : goal.invariant-read_elements-loop-value
invariant-read_elements-loop-value l =
    let done = map view (take l.value-index l.values) in
    ReadsPart l.portion (all_elements l.level done) (λ id. nodes_of id done) l.initial.seen l.seen (Ok l.nodes)
    × AreOrderedAt l.level l.nodes
