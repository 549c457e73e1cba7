use Rattle.std.proofs.Common.{refl}
use Rattle.metrics_file.proofs.table_words.table_keyword.Goals as goal

pub returns-in-Variants : goal.returns-in-Variants
returns-in-Variants c = rw c.in-Variants.is c.variant_keyword.ensures

pub returns-in-Parts : goal.returns-in-Parts
returns-in-Parts c = rw c.in-Parts.is c.part_keyword.ensures

pub returns-in-Kerns : goal.returns-in-Kerns
returns-in-Kerns c = rw c.in-Kerns.is refl
