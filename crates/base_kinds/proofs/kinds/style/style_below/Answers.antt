use Rattle.std.proofs.Common.{◌∙◌, sym}
use Rattle.base_kinds.proofs.Sizes.{small_if_found}
use Rattle.base_kinds.proofs.kinds.style.style_below.Goals as goal

-- the parent's font isn't too large where its size is found
pub child_style-requires-clause-size : goal.child_style-requires-clause-size
child_style-requires-clause-size c = small_if_found _ _ c.in-Some.field-0 (sym c.in-Some.is ∙ c.font_size.ensures.value)
