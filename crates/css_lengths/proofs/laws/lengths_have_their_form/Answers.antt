use Rattle.css_lengths.proofs.Parts.{length_of_writes, length_of_none}
use Rattle.css_lengths.proofs.laws.lengths_have_their_form.Goals as goal

pub returns : goal.returns
returns c = record { written = length_of_writes; none = length_of_none }
