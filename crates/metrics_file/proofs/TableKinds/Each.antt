-- Each table is of a kind.
use Rattle.font_metrics.specs.declared.table.Table.{Table}
use Rattle.font_metrics.specs.declared.table.Table.TheVariants.{Variants, Parts, Kerns}
use Rattle.metrics_file.proofs.TableKinds.Kind.{IsKind}
use Rattle.metrics_file.proofs.TableKinds.Variants.{variants_kind}
use Rattle.metrics_file.proofs.TableKinds.Parts.{parts_kind}
use Rattle.metrics_file.proofs.TableKinds.Kerns.{kerns_kind}

pub kind : (t : Table) → IsKind t
kind (Variants axis) = variants_kind axis
kind (Parts axis) = parts_kind axis
kind (Kerns corner) = kerns_kind corner
