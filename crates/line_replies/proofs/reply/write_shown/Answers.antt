use Rattle.std.proofs.Common.{codes}
use Rattle.box_writer.specs.Lines.{text_of}
use Rattle.line_replies.proofs.Written.{written_both, written_first}
use Rattle.line_replies.proofs.reply.write_shown.Goals as goal

pub returns : goal.returns
returns g c =
    written_both _ _ _ (codes "shown\n") (text_of c.args.metrics.now c.args.placed.now) _ c.in_ok-write_all.ensures c.write_placed.ensures

pub returns-in_err-write_all : goal.returns-in_err-write_all
returns-in_err-write_all g c =
    written_first _ _ (codes "shown\n") (text_of c.args.metrics.now c.args.placed.now) c.in_err-write_all.field-0.0 _ c.from_residual.ensures.0 c.in_err-write_all.ensures

pub write_placed-requires : goal.write_placed-requires
write_placed-requires g c = c.requires
