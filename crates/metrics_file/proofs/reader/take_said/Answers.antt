use Rattle.std.proofs.Common.{◌∙◌, ap, sym, Ok}
use Rattle.font_metrics.specs.Whole.{Given}
use Rattle.font_metrics.specs.Faults.{Step, ◌>>=◌, step_map}
use Rattle.metrics_file.specs.Lines.{Item, lent}
use Rattle.metrics_file.specs.Reading.{allowed, put}
use Rattle.metrics_file.specs.Said.{item_of}
use Rattle.metrics_file.proofs.LineTexts.{item_text}
use Rattle.metrics_file.proofs.Refusing.{refused}
use Rattle.metrics_file.proofs.reader.take_said.Goals as goal

-- what is given behind what a line says
abbrev behind : Given → Step Item → Step Given
behind given said = do
  item ← said
  free ← allowed given item
  Ok (put given item)

pub returns-in_err-said : goal.returns-in_err-said
returns-in_err-said c =
    refused _ c.in_err-said.field-0.0 c.args.given.now c.from_residual.result
    (ap (behind c.args.given.now) (sym c.line_says.ensures ∙ ap (step_map item_of) c.in_err-said.was)) c.from_residual.ensures.1

pub returns-in_err-allow : goal.returns-in_err-allow
returns-in_err-allow c =
    let given = c.args.given.now in
    let item = item_of c.in_ok-said.said in
    refused _ c.in_err-allow.field-0.0 given c.from_residual-in_err-allow.result
    (ap (behind given) (sym c.line_says.ensures ∙ ap (step_map item_of) c.in_ok-said.was)
    ∙ ap (λ may. may >>= λ free. Ok (put given item)) (sym c.allow.ensures ∙ c.in_err-allow.was))
    c.from_residual-in_err-allow.ensures.1

pub put-requires-clause-text : goal.put-requires-clause-text
put-requires-clause-text c =
    item_text c.args.given.now.glyphs c.args.keyword (lent c.args.fields.now) c.in_ok-said.said
    (sym c.line_says.ensures ∙ ap (step_map item_of) c.in_ok-said.was)

pub returns : goal.returns
returns c =
    let given = c.args.given.now in
    let item = item_of c.in_ok-said.said in
    ap (behind given) (sym c.line_says.ensures ∙ ap (step_map item_of) c.in_ok-said.was)
    ∙ ap (λ may. may >>= λ free. Ok (put given item)) (sym c.allow.ensures ∙ c.in_ok-allow.was)
    ∙ ap (λ new. Ok new) (sym c.in_ok-put.ensures)
