use Rattle.std.proofs.Common.{◌≡◌, ◌∙◌, sym, ap, ◌+◌, min, length, rules, w64, to_z, of_z}
use Rattle.font_metrics.specs.Metrics.{parts_of}
use Rattle.paint_list.specs.Paints.{most_paints, paints_of_mark}
use Rattle.paint_list.specs.Pieces.{pieces_of}
use Rattle.paint_list.specs.declared.pieces.Assembly.{Assembly}
use Rattle.paint_list.proofs.Running.{built_length}
use Rattle.paint_list.proofs.counts.paints_of_mark.Goals as goal

pub returns-in-Built : goal.returns-in-Built
returns-in-Built c =
    let m = c.args.metrics.now in
    let b = c.in-Built in
    let built : Assembly = record { x = b.x; y = b.y; size = b.size; axis = b.axis; glyph = b.glyph; count = b.count; overlap = b.overlap } in
    let count : to_z w64 (of_z w64 b.count) ≡ b.count = search rules in
    let same = ap (λ mark. length (paints_of_mark m mark)) b.is ∙ built_length m built in
    c.pieces_of_assembly.ensures
    ∙ (λ i. min (length (pieces_of (count i) (parts_of m b.glyph.0 b.axis))) (most_paints + 1))
    ∙ ap (λ n. min n (most_paints + 1)) (sym same)
