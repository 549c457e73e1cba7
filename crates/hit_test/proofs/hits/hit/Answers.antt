use Rattle.std.proofs.Common.{◌≡◌, ◌∙◌, sym, ap, subst, refl, rules, w64, to_z, of_z, ◌<◌, length, take, get_or, None, []}
use Rattle.std.proofs.Math.Seq.{take-length}
use Rattle.std.specs.Prelude.{IsNone, filter, ◌↔◌}
use Rattle.hit_test.specs.Hits.{boxes_of, box_in, holding, holds, id_of_box, last_of}
use Rattle.hit_test.specs.Running.{or_last}
use Rattle.hit_test.proofs.Hitting.{holding-more, last_is_deepest, none_holds, or_last-append, or_last_is}
use Rattle.hit_test.proofs.hits.hit.Goals as goal

pub loop-item-init : goal.loop-item-init
unfolding holding boxes_of
loop-item-init c = refl

pub loop-item-preserved : goal.loop-item-preserved
loop-item-preserved c =
    let items = c.args.placed.now in
    let x = to_z w64 (of_z w64 c.args.x) in
    let y = to_z w64 (of_z w64 c.args.y) in
    let i = c.loop-item.item-index in
    let within : i < length items = search rules in
    let is : c.item-item.result ≡ get_or items i c.item-item.result = search rules in
    c.or_hit-last.ensures
    ∙ ap (λ last. or_last last (filter (holds x y) (box_in c.item-item.result))) c.loop-item.invariant
    ∙ sym (or_last-append None (holding x y (take i items)) (filter (holds x y) (box_in c.item-item.result)))
    ∙ ap (or_last None) (sym (holding-more x y items i c.item-item.result c.item-item.result within is))

pub returns : goal.returns
returns c =
    let items = c.args.placed.now in
    let x : to_z w64 (of_z w64 c.args.x) ≡ c.args.x = search rules in
    let y : to_z w64 (of_z w64 c.args.y) ≡ c.args.y = search rules in
    let end : c.loop-item.item-index ≡ length items = search rules in
    let last : c.loop-item.last ≡ id_of_box (last_of (holding c.args.x c.args.y items)) =
    c.loop-item.invariant ∙ (λ i. or_last None (holding (x i) (y i) (take (end i) items)))
    ∙ ap (λ l. or_last None (holding c.args.x c.args.y l)) (take-length items)
    ∙ or_last_is (holding c.args.x c.args.y items) in
    record {
      last = last;
      deepest = λ inside first. last ∙ last_is_deepest inside c.args.x c.args.y items first;
      none = subst (λ o. IsNone o ↔ (holding c.args.x c.args.y items ≡ [])) (sym last) (none_holds (holding c.args.x c.args.y items));
    }
