-- What holds of all that is placed.
use Rattle.std.specs.Prelude.{◌≡◌, ℤ, true}
use Rattle.std.specs.List.{All}
use Rattle.font_metrics.specs.Metrics.{MetricsValue}
use Rattle.layout_model.specs.Laid.{all_outcomes, draws_of_font}
use Rattle.layout_model.specs.declared.laid.Laid.{Laid}
use Rattle.box_writer.specs.Items.{IsOfFont}
use Rattle.placement.specs.Placing.{placed}

-- where the marks of a laid-out tree name glyphs of the font, so does what is placed
abbrev pub GlyphLaw : Type 0
GlyphLaw = (m : MetricsValue) (laid : Laid) (x y : ℤ) → all_outcomes (draws_of_font m) laid ≡ true
    → All (IsOfFont m) (placed laid x y)
