use Rattle.fixed_units.proofs.Stored.{box_within, box_stored}
use Rattle.fixed_units.proofs.Unions.{raised_in, joined_in, all_joined_in}
use Rattle.fixed_units.proofs.laws.boxes_stay_within.Goals as goal

pub returns : goal.returns
returns c = record {
  raised = λ m n part height p h. raised_in p h;
  joined = λ m n first second p q. joined_in p q;
  all_joined = all_joined_in;
  stored = λ frame. (box_within frame, box_stored frame);
}
