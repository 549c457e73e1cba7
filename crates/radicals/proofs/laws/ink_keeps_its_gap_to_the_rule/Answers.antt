use Rattle.radicals.proofs.Ink.{square_root_keeps_gap, root_with_index_keeps_gap}
use Rattle.radicals.proofs.laws.ink_keeps_its_gap_to_the_rule.Goals as goal

pub returns : goal.returns
returns c = record { square_root = square_root_keeps_gap; root_with_index = root_with_index_keeps_gap }
