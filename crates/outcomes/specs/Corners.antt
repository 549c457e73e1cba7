-- The corners of the only glyphs that children show.
use Rattle.std.specs.Prelude.{◌≡◌, ◌⊎◌, ℕ, ◌<◌, ◌^◌, pos, ◌≤ℤ◌, Option, option_map}
use Rattle.font_metrics.specs.Metrics.{MetricsValue}
use Rattle.font_metrics.specs.declared.corner.Corner.{Corner}
use Rattle.scripts.specs.Kerns.{HasNoKerns}
use Rattle.scripts.specs.declared.parts.Inked.{Inked}
use Rattle.scripts.specs.declared.parts.KernFrom.{KernFrom}
use Rattle.outcomes.specs.declared.corners.Alone.{Alone}

-- these corners; or no glyph has a kern
abbrev pub CountAs : MetricsValue → KernFrom → KernFrom → Type 0
CountAs m from exact = (from ≡ exact) ⊎ HasNoKerns m

abbrev pub cornered : Corner → Option Alone → Option Inked
cornered corner alone = option_map (λ a. record { glyph = a.glyph; corner = corner; size = a.size })
    alone

-- a glyph of the font, at a size in range
pub record IsAlone (count : ℕ) (alone : Alone) : Type 0 where
  pub glyph : alone.glyph.0 < count
  pub low : pos 0 ≤ℤ alone.size
  pub high : alone.size ≤ℤ pos (2 ^ 20)
