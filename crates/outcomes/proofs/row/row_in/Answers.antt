use Rattle.std.proofs.Common.{◌≡◌, arith, subst, sym}
use Rattle.std.proofs.lemmas.Result.{IfOk-weaker}
use Rattle.layout_model.specs.Elements.{row_kids}
use Rattle.row_stretch.specs.declared.parts.Row.{Row}
use Rattle.row_stretch.specs.Equation.{row_of}
use Rattle.outcomes.specs.Rows.{IsRowWithin}
use Rattle.outcomes.proofs.RowBounds.{row_within}
use Rattle.outcomes.proofs.row.row_in.Goals as goal

pub row_finish-requires-clause-few : goal.row_finish-requires-clause-few
row_finish-requires-clause-few g c = omega (arith, c.has_row_kids.ensures.few)

pub returns-clause-within : goal.returns-clause-within
returns-clause-within g c =
    let kids = row_kids c.args.e.now in
    let known = c.has_row_kids.ensures in
    IfOk-weaker c.row_finish.result (λ (row : Row). row ≡ row_of c.shows_spaces.result kids) IsRowWithin
    (λ row e. subst IsRowWithin (sym e) (row_within c.shows_spaces.result kids known.few known.stored))
    c.row_finish.ensures
