use Rattle.metrics_file.proofs.print.print_table.Goals as goal

pub returns-in-Variants : goal.returns-in-Variants
returns-in-Variants c = rw c.in-Variants.is c.print_variants.ensures

pub returns-in-Parts : goal.returns-in-Parts
returns-in-Parts c = rw c.in-Parts.is c.print_parts.ensures

pub returns-in-Kerns : goal.returns-in-Kerns
returns-in-Kerns c = rw c.in-Kerns.is c.print_kerns.ensures
