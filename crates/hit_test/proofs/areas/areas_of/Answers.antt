use Rattle.std.proofs.Common.{rules, ◌≡◌, ◌∙◌, refl, sym, ap, ◌<◌, ◌++◌, length, map, take, get_or}
use Rattle.std.proofs.Math.Seq.{take-length}
use Rattle.std.specs.BTreeSet.{contains}
use Rattle.std.specs.Ordering.{nat_cmp}
use Rattle.std.specs.Prelude.{filter}
use Rattle.box_writer.specs.declared.placed.PlacedBox.{PlacedBox}
use Rattle.hit_test.specs.Hits.{boxes_of, box_in}
use Rattle.hit_test.specs.Selecting.{area_of, areas_of, is_marked}
use Rattle.hit_test.proofs.AreaLists.{areas-more, areas_by, same_areas}
use Rattle.hit_test.proofs.areas.areas_of.Goals as goal

pub loop-item-init : goal.loop-item-init
unfolding boxes_of
loop-item-init c = c.make-areas.ensures

pub loop-item-preserved : goal.loop-item-preserved
loop-item-preserved c =
    let items = c.args.items.now in
    let test = λ (box : PlacedBox). contains nat_cmp c.in_ok-marked.marked box.id.0 in
    let i = c.loop-item.item-index in
    let item = c.item-item.result in
    let within : i < length items = search rules in
    let is : item ≡ get_or items i item = search rules in
    (c.in_ok-add_area.ensures {u = tt})
    ∙ ap (λ areas. areas ++ map area_of (filter test (box_in item))) c.loop-item.invariant
    ∙ areas-more test items i item item within is

pub returns : goal.returns
unfolding areas_of
returns c =
    let items = c.args.items.now in
    let test = λ (box : PlacedBox). contains nat_cmp c.in_ok-marked.marked box.id.0 in
    let end : c.loop-item.item-index ≡ length items = search rules in
    let ids = map (λ i. i.0) c.args.ids.now in
    c.loop-item.invariant
    ∙ ap (areas_by test) (ap (λ n. take n items) end ∙ take-length items)
    ∙ same_areas test (is_marked ids) (λ box. (c.in_ok-marked.ensures {u = tt}) box.id.0) items
