use Rattle.std.proofs.Common.{◌≡◌, ◌∙◌, ◌++◌, ◌∷◌, ap, sym, []}
use Rattle.std.specs.Option.{option_copied_mut}
use Rattle.font_metrics.specs.Listed.{lists_of_entries}
use Rattle.font_metrics.specs.Metrics.{with_item}
use Rattle.font_metrics.proofs.Listed.{added_to, begun_in}
use Rattle.font_metrics.proofs.by_glyph.ByGlyph.add.Goals as goal
use Rattle.font_metrics.proofs.by_glyph.ByGlyph.add.Goals.{in-Some-1, in-None-1}

pub returns-in_ok-push-in-Some : goal.returns-in_ok-push-in-Some
returns-in_ok-push-in-Some g c =
    let w = c.push.new.self in
    added_to c.args.place c.in-Some.items.now w c.args.item c.self.inside.items.entries _ _ (c.get_mut.follows.holds w).0
    c.get_mut.ensures.ordered (sym c.get_mut.ensures.value ∙ ap option_copied_mut c.in-Some.is)
    c.in_ok-push-in-Some.ensures.items c.self.view_is

-- the entries after a list is begun
after : (g : _) (c : goal.Joined-branch-4 g) → lists_of_entries c.insert.new.self.entries ≡ with_item c.args.self.now c.args.place c.args.item
after g c =
    begun_in c.args.place c.in_ok-first-in-None.first c.args.item c.self.inside.items.entries _ _ _
    c.in_ok-insert-in-None.ensures.entries (ap (λ m. m.entries) c.get_mut.follows.holds-at-none)
    (sym c.get_mut.ensures.value ∙ ap option_copied_mut c.in-None.is)
    (c.in_ok-first-in-None.ensures {u = tt}) c.self.view_is

pub returns-in_ok-insert-in-None : goal.returns-in_ok-insert-in-None
returns-in_ok-insert-in-None g c =
    elim c.match-branch-4.branch [ in-Some-1 w ↦ w.self-is ∙ after g c | in-None-1 w ↦ w.self-is ∙ after g c ]
