use Rattle.std.proofs.Common.{sym, subst, ℕ, not, Ok}
use Rattle.font_metrics.specs.declared.corner.Corner.{Corner}
use Rattle.font_metrics.specs.declared.fault.LineFault.TheVariants.{Repeated, NotRising}
use Rattle.font_metrics.specs.Whole.{Given}
use Rattle.font_metrics.specs.declared.kern.Kern.{Kern}
use Rattle.font_metrics.specs.Faults.{Step, ◌>>=◌, step_map}
use Rattle.font_metrics.specs.Heights.{do_rise, heights_of}
use Rattle.metrics_file.specs.Lines.{says_kern}
use Rattle.font_metrics.specs.Metrics.{is_full, kerns_at, with_item, with_kerns_at}
use Rattle.metrics_file.specs.Reading.{allowed, put}
use Rattle.metrics_file.specs.Reads.{Takes}
use Rattle.metrics_file.proofs.Refusing.{kern_taken}
use Rattle.metrics_file.proofs.taking.take_kern.Goals as goal

-- what is given behind the fields
abbrev behind : Given → Step (Corner × (ℕ × Kern)) → Step Given
behind given entry = do
  item ← step_map says_kern entry
  free ← allowed given item
  Ok (put given item)

pub returns : goal.returns
returns c =
    let given = c.args.given.now in
    let corner = c.in_ok-corner.corner in
    let place = c.in_ok-corner.place in
    let kern = c.in_ok-corner.kern in
    let tables = given.tables in
    subst (λ entry. Takes (behind given entry) (record given { tables = record tables { kerns = c.take_at.new.kerns } }) c.take_at.result)
    (sym c.in_ok-corner.ensures)
    (kern_taken (is_full 1 (kerns_at corner tables.kerns) place) (not (do_rise (heights_of kern))) Repeated NotRising
    (with_kerns_at corner tables.kerns (with_item (kerns_at corner tables.kerns) place kern)) c.take_at.new.kerns
    (λ kerns. record given { tables = record tables { kerns = kerns } }) c.take_at.result c.take_at.ensures)
