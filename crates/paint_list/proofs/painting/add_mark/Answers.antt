use Rattle.std.proofs.Common.{◌≡◌, ◌∙◌, sym, ap, subst, ◌≤◌, length, rules, w64, to_z, of_z}
use Rattle.font_metrics.specs.Metrics.{parts_of}
use Rattle.paint_list.specs.Paints.{most_paints, paints_of_mark}
use Rattle.paint_list.specs.Pieces.{pieces_of}
use Rattle.paint_list.specs.declared.pieces.Assembly.{Assembly}
use Rattle.paint_list.proofs.Running.{built_length}
use Rattle.paint_list.proofs.painting.add_mark.Goals as goal

pub add_pieces-requires-clause-few : goal.add_pieces-requires-clause-few
add_pieces-requires-clause-few c =
    let m = c.args.metrics.now in
    let b = c.in-Built in
    let built : Assembly = record { x = b.x; y = b.y; size = b.size; axis = b.axis; glyph = b.glyph; count = b.count; overlap = b.overlap } in
    let count : to_z w64 (of_z w64 b.count) ≡ b.count = search rules in
    let same = ap (λ mark. length (paints_of_mark m mark)) b.is ∙ built_length m built
    ∙ sym (ap (λ n. length (pieces_of n (parts_of m b.glyph.0 b.axis))) count) in
    subst (λ n. n ≤ most_paints) same c.requires.few
