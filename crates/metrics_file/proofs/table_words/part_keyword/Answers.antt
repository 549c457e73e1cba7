use Rattle.std.proofs.Common.{refl}
use Rattle.metrics_file.proofs.table_words.part_keyword.Goals as goal

pub returns-in-Block : goal.returns-in-Block
returns-in-Block c = rw c.in-Block.is refl

pub returns-in-Inline : goal.returns-in-Inline
returns-in-Inline c = rw c.in-Inline.is refl
