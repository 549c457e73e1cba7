use Rattle.std.proofs.Common.{◌∙◌, ap, sym, subst, ℕ, Ok}
use Rattle.font_metrics.specs.declared.fault.LineFault.TheVariants.{TooMany}
use Rattle.font_metrics.specs.Whole.{Given}
use Rattle.font_metrics.specs.declared.growth.Part.{Part}
use Rattle.font_metrics.specs.declared.table.Table.TheVariants.{Parts}
use Rattle.font_metrics.specs.Faults.{Step, ◌>>=◌, step_map}
use Rattle.metrics_file.specs.Lines.{SaysEntry}
use Rattle.font_metrics.specs.Metrics.{along, is_full, with_item_along}
use Rattle.metrics_file.specs.Reading.{allowed, put}
use Rattle.metrics_file.specs.Reads.{Takes}
use Rattle.font_metrics.specs.Taken.{most_parts}
use Rattle.op_dictionary.specs.declared.operator.Axis.{Axis}
use Rattle.metrics_file.proofs.Refusing.{refused, taken}
use Rattle.metrics_file.proofs.taking.take_part.Goals as goal

-- what is given behind the fields
abbrev behind : Given → Axis → Step (ℕ × Part) → Step Given
behind given axis entry = do
  item ← step_map (SaysEntry (Parts axis)) entry
  free ← allowed given item
  Ok (put given item)

pub returns-in_err-place : goal.returns-in_err-place
returns-in_err-place c =
    refused _ c.in_err-place.field-0.0 c.args.given.now c.from_residual.result
    (ap (behind c.args.given.now c.args.axis) (sym c.part_line.ensures ∙ c.in_err-place.was)) c.from_residual.ensures.1

pub returns : goal.returns
returns c =
    let given = c.args.given.now in
    let axis = c.args.axis in
    let place = c.in_ok-place.place in
    let part = c.in_ok-place.part in
    subst (λ entry. Takes (behind given axis entry) (record given { tables = record given.tables { parts = c.take_along.new.tables } }) c.take_along.result)
    (sym c.in_ok-place.was ∙ c.part_line.ensures)
    (taken (is_full most_parts (along axis given.tables.parts) place) TooMany (with_item_along axis given.tables.parts place part)
    c.take_along.new.tables (λ parts. record given { tables = record given.tables { parts = parts } }) c.take_along.result c.take_along.ensures)
