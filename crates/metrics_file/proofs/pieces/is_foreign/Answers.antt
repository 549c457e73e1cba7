use Rattle.std.proofs.Common.{◌&&◌, not, rules, tests}
use Rattle.std.proofs.lemmas.Iterator.{YieldsList-from_slice}
use Rattle.std.proofs.lemmas.Iterator.Search.{any_from_yields_List}
use Rattle.metrics_file.specs.Reading.{is_plain, is_foreign}
use Rattle.metrics_file.proofs.pieces.is_foreign.Goals as goal

pub returns : goal.returns
unfolding is_foreign
returns c =
    let any = any_from_yields_List (λ b. not (is_plain b)) _ _ c.any.result c.any.ensures.ran (YieldsList-from_slice c.args.line.now c.iter.ensures.rest) (λ x b q k. search (rules, tests)) in
    λ i. not (c.is_comment.ensures i) && any i
