use Rattle.fixed_units.proofs.Unions.{all_joined_is_union}
use Rattle.fixed_units.proofs.laws.joined_boxes_are_a_union.Goals as goal

pub returns : goal.returns
returns c = all_joined_is_union
