use Rattle.std.proofs.Common.{rules, tests}
use Rattle.std.proofs.lemmas.Iterator.Search.{all_from_yields_List}
use Rattle.std.proofs.lemmas.Iterator.Splits.{YieldsList-from_slice_split}
use Rattle.embellished.specs.Kinds.{is_prescripts_mark}
use Rattle.embellished.specs.Validity.{is_even}
use Rattle.embellished.proofs.validity.have_even_sides.Goals as goal

pub returns : goal.returns
returns c =
    all_from_yields_List is_even _ _ c.all.result c.all.ensures.ran
    (YieldsList-from_slice_split _ is_prescripts_mark c.args.kids.now c.split.ensures.rest c.split.ensures.done c.split.ensures.closure (λ x b q k. search (rules, tests)))
    (λ x b q k. search (rules, tests))
