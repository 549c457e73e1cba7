use Rattle.std.proofs.Common.{◌∙◌, sym}
use Rattle.layout_model.proofs.FontSizes.{font_size_found}
use Rattle.outcomes.proofs.Kids.{small_is_found}
use Rattle.outcomes.proofs.finishing.no_size_is_negative.Goals as goal

pub returns : goal.returns
returns c =
    let m = c.args.metrics.now in
    let style = c.args.style.now in
    sym (font_size_found m style c.font_size-size.result c.font_size-size.ensures.value c.font_size-size.ensures.within)
    ∙ small_is_found m style c.font_size-size.result c.font_size-size.ensures.value c.requires.size
