use Rattle.std.proofs.Common.{refl}
use Rattle.embellished.specs.Seen.{seen_of}
use Rattle.embellished.proofs.node_view.NodeViewView.head.Goals as goal

pub returns : goal.returns
unfolding seen_of
returns c = refl
