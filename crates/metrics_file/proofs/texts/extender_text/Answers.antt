use Rattle.std.proofs.Common.{refl}
use Rattle.metrics_file.proofs.texts.extender_text.Goals as goal

pub returns-then-extender : goal.returns-then-extender
returns-then-extender c = rw c.if-extender.true refl

pub returns-else-extender : goal.returns-else-extender
returns-else-extender c = rw c.if-extender.false refl
