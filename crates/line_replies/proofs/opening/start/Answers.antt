use Rattle.std.proofs.Common.{ap, subst, sym, Err}
use Rattle.input_files.specs.Files.{GivesOr}
use Rattle.line_replies.specs.Opening.{started}
use Rattle.line_replies.proofs.Starting.{in_range_started, refused_start}
use Rattle.line_replies.proofs.opening.start.Goals as goal

pub returns-in-Ok-clause-session : goal.returns-in-Ok-clause-session
returns-in-Ok-clause-session g c =
    in_range_started c.in-Ok.session.held c.args.metrics c.args.tree c.in-Ok.ensures.ok c.in-Ok.ensures.fit

pub returns-in-Err-clause-refused : goal.returns-in-Err-clause-refused
returns-in-Err-clause-refused g c =
    subst (λ refusal. GivesOr (started c.args.metrics c.args.tree) (Err refusal)) (sym c.of_layout.ensures)
    (refused_start c.in-Err.refusal c.args.metrics c.args.tree (λ e. c.in-Err.ensures.range (ap Err e)))
