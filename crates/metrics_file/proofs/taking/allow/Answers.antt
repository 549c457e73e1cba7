use Rattle.std.proofs.Common.{◌≡◌, ◌∙◌, ap, sym}
use Rattle.font_metrics.specs.declared.fault.LineFault.TheVariants.{Repeated}
use Rattle.font_metrics.specs.Whole.{Given}
use Rattle.metrics_file.specs.declared.said.Said.{Said}
use Rattle.font_metrics.specs.Faults.{fault_if}
use Rattle.metrics_file.specs.Reading.{allowed}
use Rattle.metrics_file.specs.Said.{item_of}
use Rattle.metrics_file.proofs.taking.allow.Goals as goal

-- whether what is said may be said
may : (given : Given) (said kind : Said) → said ≡ kind → allowed given (item_of kind) ≡ allowed given (item_of said)
may given said kind is = ap (λ (s : Said). allowed given (item_of s)) (sym is)

pub returns-in-Upem : goal.returns-in-Upem
returns-in-Upem c =
    c.fault_if.ensures ∙ (λ i. fault_if (c.is_some.ensures i) Repeated) ∙ may c.args.given.now c.args.said _ c.in-Upem.is

pub returns-in-Line : goal.returns-in-Line
returns-in-Line c =
    c.fault_if-in-Line.ensures ∙ (λ i. fault_if (c.is_some-in-Line.ensures i) Repeated) ∙ may c.args.given.now c.args.said _ c.in-Line.is

pub returns-in-XHeight : goal.returns-in-XHeight
returns-in-XHeight c =
    c.fault_if-in-XHeight.ensures ∙ (λ i. fault_if (c.is_some-in-XHeight.ensures i) Repeated) ∙ may c.args.given.now c.args.said _ c.in-XHeight.is

pub returns-in-Overlap : goal.returns-in-Overlap
returns-in-Overlap c =
    c.fault_if-in-Overlap.ensures ∙ (λ i. fault_if (c.is_some-in-Overlap.ensures i) Repeated) ∙ may c.args.given.now c.args.said _ c.in-Overlap.is
