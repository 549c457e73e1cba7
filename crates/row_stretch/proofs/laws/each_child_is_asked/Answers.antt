use Rattle.row_stretch.proofs.Counts.{asked_once, asked_in_either, asked_in_both}
use Rattle.row_stretch.proofs.laws.each_child_is_asked.Goals as goal

pub returns : goal.returns
returns c = record {
  once = asked_once;
  some = λ kids first place. asked_in_either first place kids;
  all = λ kids first place. asked_in_both first place kids;
}
