use Rattle.std.proofs.Common.{sym, subst}
use Rattle.doc_io.specs.Pieces.{Puts}
use Rattle.doc_io.specs.Whole.{WritesAll}
use Rattle.doc_io.proofs.Written.{written_behind}
use Rattle.doc_io.proofs.piece.Piece.put_next.Goals as goal

pub returns-then-text-gt-PIECE : goal.returns-then-text-gt-PIECE
returns-then-text-gt-PIECE g c =
    let told = g.O.Sink.told in
    let written = subst (λ text. WritesAll (told c.send.new.out) (told c.write_all.new.out) text c.write_all.result) c.as_bytes.ensures.value
    c.write_all.ensures in
    subst (λ left. Puts (told c.args.out.now) (told c.write_all.new.out) c.args.self.now left c.args.text.now c.write_all.result)
    (sym c.in_ok-send.ensures.empty)
    (written_behind _ _ _ _ _ _ c.in_ok-send.ensures.writes written c.requires)
