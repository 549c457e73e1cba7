use Rattle.std.proofs.Common.{◌≡◌, ◌∙◌, ap, ℕ, ◌+◌, List, [], map, take, drop, Ok, Err, arith}
use Rattle.serde_json.specs.Data.{Data}
use Rattle.serde_json.specs.View.{view}
use Rattle.tree_json.specs.Elements.{below}
use Rattle.tree_json.specs.Parts.{ReadsPart, nodes_of}
use Rattle.tree_json.specs.declared.read.Seen.{Seen}
use Rattle.tree_json.specs.declared.refusal.TreeRefusal.{TreeRefusal}
use Rattle.serde_json.specs.declared.value.Value.{Value}
use Rattle.tree_json.proofs.Listing.{all_elements}
use Rattle.tree_json.proofs.Ordered
use Rattle.tree_json.proofs.ReadParts
use Rattle.tree_json.proofs.read.+read.Goals as goal

pub read_element-returns-in-Some-clause-reads : goal.read_element-returns-in-Some-clause-reads
read_element-returns-in-Some-clause-reads t c =
    let seen : Seen = c.args.seen.now in
    let value : Data = view c.args.value.now in
    let own : view c.of-keys.result.value.now ≡ value = ap view c.of-keys.ensures.value in
    let none = ReadParts.tested c.args.portion seen c.args.level value c.bytes_held.result c.saturating_add-seen.result c.fault_of.result
    (rw own at c.bytes_held.ensures) c.saturating_add-seen.ensures (rw own at c.fault_of.ensures) in
    rw c.number.ensures (ReadParts.own_fault c.args.portion seen c.args.level value c.in-Some.fault (none ∙ c.in-Some.is))

-- what is seen once the element is
pub read_element-read_elements-requires : goal.read_element-read_elements-requires
read_element-read_elements-requires t c =
    let seen : Seen = c.args.seen.now in
    let value : Data = view c.args.value.now in
    let own : view c.of-keys.result.value.now ≡ value = ap view c.of-keys.ensures.value in
    let none = ReadParts.tested c.args.portion seen c.args.level value c.bytes_held.result c.saturating_add-seen.result c.fault_of.result
    (rw own at c.bytes_held.ensures) c.saturating_add-seen.ensures (rw own at c.fault_of.ensures) ∙ c.in_default.is in
    let limits = ReadParts.limits c.args.portion seen c.args.level value none in
    let bytes = ReadParts.counted c.args.portion seen c.args.level value c.bytes_held.result c.saturating_add-seen.result
    (rw own at c.bytes_held.ensures) c.saturating_add-seen.ensures none in
    (omega (arith, limits.level), (omega (arith, limits.level), (limits.place, omega (arith, limits.bytes, bytes))))

pub read_element-returns-in_err-children-clause-reads : goal.read_element-returns-in_err-children-clause-reads
read_element-returns-in_err-children-clause-reads t c =
    let seen : Seen = c.args.seen.now in
    let value : Data = view c.args.value.now in
    let own : view c.of-keys.result.value.now ≡ value = ap view c.of-keys.ensures.value in
    let none = ReadParts.tested c.args.portion seen c.args.level value c.bytes_held.result c.saturating_add-seen.result c.fault_of.result
    (rw own at c.bytes_held.ensures) c.saturating_add-seen.ensures (rw own at c.fault_of.ensures) ∙ c.in_default.is in
    let bytes = ReadParts.counted c.args.portion seen c.args.level value c.bytes_held.result c.saturating_add-seen.result
    (rw own at c.bytes_held.ensures) c.saturating_add-seen.ensures none in
    let refusal : TreeRefusal = c.in_err-children.field-0.0 in
    let same : c.from_residual-in_err-children.result ≡ Err refusal =
    ReadParts.as_refused _ refusal c.from_residual-in_err-children.ensures.0 c.from_residual-in_err-children.ensures.1 in
    rw same (ReadParts.lower_refused c.args.portion seen c.args.level value (map view c.below.result.now) c.saturating_add-seen.result
    c.read_elements.new.seen c.read_elements.new.seen refusal (rw own at c.below.ensures) bytes none c.in_err-children.ensures.reads)

pub read_element-returns-clause-reads : goal.read_element-returns-clause-reads
read_element-returns-clause-reads t c =
    let seen : Seen = c.args.seen.now in
    let value : Data = view c.args.value.now in
    let own : view c.of-keys.result.value.now ≡ value = ap view c.of-keys.ensures.value in
    let none = ReadParts.tested c.args.portion seen c.args.level value c.bytes_held.result c.saturating_add-seen.result c.fault_of.result
    (rw own at c.bytes_held.ensures) c.saturating_add-seen.ensures (rw own at c.fault_of.ensures) ∙ c.in_default.is in
    let bytes = ReadParts.counted c.args.portion seen c.args.level value c.bytes_held.result c.saturating_add-seen.result
    (rw own at c.bytes_held.ensures) c.saturating_add-seen.ensures none in
    let read : ReadsPart c.args.portion (all_elements (c.args.level + 1) (below value)) (λ id. nodes_of id (below value))
    (ReadParts.with_one c.args.portion seen c.args.level value) c.read_elements.new.seen (Ok c.in_ok-children.children) =
    rw (← (rw own at c.below.ensures), ← bytes) c.in_ok-children.ensures.reads in
    rw (rw own at c.in_ok-head.ensures) (ReadParts.whole_part c.args.portion seen c.args.level value c.read_elements.new.seen c.in_ok-children.children none read)

pub read_element-returns-clause-order : goal.read_element-returns-clause-order
read_element-returns-clause-order t c =
    Ordered.with_head c.args.level c.in_ok-head.head c.in_ok-children.children c.as_slice-in_order.ensures.order c.in_ok-children.ensures.order

pub read_elements-read_element-requires : goal.read_elements-read_element-requires
read_elements-read_element-requires t c =
    let done = map view (take c.loop-value.value-index c.args.values.now) in
    let limits = ReadParts.side_limits c.args.portion c.args.seen.now c.args.level done c.loop-value.seen c.loop-value.nodes c.loop-value.invariant.0
    c.requires.elements c.requires.bytes in
    (omega (arith, c.requires.level), (c.requires.level, limits))

pub read_elements-returns-in_err-read_element-clause-reads : goal.read_elements-returns-in_err-read_element-clause-reads
read_elements-returns-in_err-read_element-clause-reads t c =
    let values : List Value = c.args.values.now in
    let at : ℕ = c.loop-value.value-index in
    let value : Value = c.value-item.result in
    let list = ReadParts.split_at values at value c.loop-value-test.true c.value-item.is in
    let refusal : TreeRefusal = c.in_err-read_element.field-0.0 in
    let same : c.from_residual.result ≡ Err refusal =
    ReadParts.as_refused _ refusal c.from_residual.ensures.0 c.from_residual.ensures.1 in
    rw same (ReadParts.one_refused c.args.portion c.args.seen.now c.args.level (map view (take at values)) (view value)
    (map view (drop (at + 1) values)) c.loop-value.seen (map view values) c.read_element.new.seen c.read_element.new.seen
    c.loop-value.nodes refusal list c.loop-value.invariant.0 c.in_err-read_element.ensures.reads)

pub read_elements-loop-value-preserved : goal.read_elements-loop-value-preserved
read_elements-loop-value-preserved t c =
    let values : List Value = c.args.values.now in
    let at : ℕ = c.loop-value.value-index in
    let value : Value = c.value-item.result in
    let list = ReadParts.taken values at value c.loop-value-test.true c.value-item.is in
    rw (list, c.in_ok-push.ensures.ok) (
      ReadParts.one_more c.args.portion c.args.seen.now c.args.level (map view (take at values)) (view value) []
          c.loop-value.seen c.read_element.new.seen c.loop-value.nodes c.in_ok-read_element.field-0
          c.loop-value.invariant.0 c.in_ok-read_element.ensures.reads,
      Ordered.one_more c.args.level c.loop-value.nodes c.in_ok-read_element.field-0 c.loop-value.invariant.1 c.in_ok-read_element.ensures.order,
    )
