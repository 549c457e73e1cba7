use Rattle.std.proofs.Common.{◌∙◌}
use Rattle.font_metrics.proofs.Copies.{list-more}
use Rattle.font_metrics.proofs.by_glyph.ByGlyph.copy.Goals as goal

pub loop-place-preserved-in_ok-insert : goal.loop-place-preserved-in_ok-insert
loop-place-preserved-in_ok-insert g c =
    list-more c.self.inside.items.entries c.loop-place.lists.entries _ c.loop-place.place-iterator c.next.new.self
    c.args.self.now c.in-Some.place.now c.in-Some.items.now c.in_ok-copied_items.field-0
    c.iter-place-items.ensures.ordered c.self.view_is c.loop-place.invariant c.in-Some.ensures.steps
    (c.in_ok-copied_items.ensures ∙ c.as_slice.ensures.value) c.in_ok-insert.ensures.entries

pub loop-place-preserved : goal.loop-place-preserved
loop-place-preserved g c =
    list-more c.self.inside.items.entries c.loop-place.lists.entries _ c.loop-place.place-iterator c.next.new.self
    c.args.self.now c.in-Some.place.now c.in-Some.items.now c.in_ok-copied_items.field-0
    c.iter-place-items.ensures.ordered c.self.view_is c.loop-place.invariant c.in-Some.ensures.steps
    (c.in_ok-copied_items.ensures ∙ c.as_slice.ensures.value) c.in_ok-insert.ensures.entries
