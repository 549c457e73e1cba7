use Rattle.outcome_cells.proofs.Front.{built_first, glyph_first, rule_first}
use Rattle.outcome_cells.proofs.first.first_mark.Goals as goal

pub returns-then-kind-eq0 : goal.returns-then-kind-eq0
returns-then-kind-eq0 c = rw c.glyph_in.ensures (glyph_first _ (rw c.number_in-kind.ensures at c.if-kind-eq0.true))

pub returns-then-kind-eq1 : goal.returns-then-kind-eq1
returns-then-kind-eq1 c = rw c.rule_in.ensures (rule_first _ (rw c.number_in-kind.ensures at c.if-kind-eq1.true))

pub returns-else-kind-eq1 : goal.returns-else-kind-eq1
returns-else-kind-eq1 c = rw c.built_in.ensures (built_first _ (rw c.number_in-kind.ensures at c.if-kind-eq0.false) (rw c.number_in-kind.ensures at c.if-kind-eq1.false))
