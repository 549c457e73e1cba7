use Rattle.std.proofs.Common.{◌∙◌, subst}
use Rattle.doc_io.specs.Pieces.{Puts}
use Rattle.box_writer.proofs.Joined.{box_joined}
use Rattle.box_writer.proofs.lines.put_box.Goals as goal

pub returns : goal.returns
returns g c =
    let told = g.O.Sink.told in
    subst (λ text. Puts (told c.args.out.now) (told c.put_around.new.out) c.args.piece.now c.put_around.new.piece text c.put_around.result)
    (box_joined c.args.placed.now _ _ _ (c.as_str.ensures ∙ c.box_ahead-ahead.ensures) c.as_str-2.ensures
    (c.as_str-3.ensures ∙ c.box_behind-behind.ensures))
    c.put_around.ensures
