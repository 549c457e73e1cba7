use Rattle.scripts.proofs.KernLaws.{sub-same, sup-same, sub_sup-same}
use Rattle.scripts.proofs.laws.without_kerns_no_corner_counts.Goals as goal

pub returns : goal.returns
returns c = record { sub = sub-same; sup = sup-same; both = sub_sup-same }
