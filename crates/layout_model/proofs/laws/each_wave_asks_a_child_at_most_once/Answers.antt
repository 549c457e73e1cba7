use Rattle.layout_model.proofs.Counted.{each_wave}
use Rattle.layout_model.proofs.laws.each_wave_asks_a_child_at_most_once.Goals as goal

pub returns : goal.returns
returns c = each_wave
