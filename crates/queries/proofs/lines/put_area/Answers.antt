use Rattle.std.proofs.Common.{◌∙◌, subst}
use Rattle.doc_io.specs.Pieces.{Puts}
use Rattle.queries.proofs.lines.put_area.Goals as goal

pub returns : goal.returns
returns g c =
    let told = g.O.Sink.told in
    subst (λ text. Puts (told c.args.out.now) (told c.put.new.out) c.args.piece.now c.put.new.self text c.put.result)
    (c.as_str.ensures ∙ c.area_line.ensures) c.put.ensures
