-- The constants of radicals at a font size; the gap under the rule is another one in display style.
use Rattle.std.specs.Prelude.{ℕ, ◌^◌, ℤ, Bool, if◌then◌else◌}
use Rattle.fixed_units.specs.Numbers.{IsWithin}
use Rattle.font_metrics.specs.Metrics.{MetricsValue, constant_of, percent_of}
use Rattle.font_metrics.specs.declared.constants.ConstName.{ConstName}
use Rattle.font_metrics.specs.declared.constants.ConstName.TheVariants.{RadicalVerticalGap, RadicalDisplayStyleVerticalGap, RadicalRuleThickness, RadicalExtraAscender, RadicalKernBeforeDegree, RadicalKernAfterDegree, RadicalDegreeBottomRaisePercent}
use Rattle.radicals.specs.declared.lengths.RootLengths.{RootLengths}
use Rattle.radicals.specs.declared.lengths.IndexLengths.{IndexLengths}

abbrev pub gap_name : Bool → ConstName
gap_name display = if display then RadicalDisplayStyleVerticalGap else RadicalVerticalGap

unfoldable pub root_lengths_of : MetricsValue → ℤ → Bool → RootLengths
root_lengths_of m size display = record {
  thickness = constant_of m RadicalRuleThickness size;
  gap = constant_of m (gap_name display) size;
  extra = constant_of m RadicalExtraAscender size;
}

-- the raise is a percent
unfoldable pub index_lengths_of : MetricsValue → ℤ → IndexLengths
index_lengths_of m size = record {
  kern_before = constant_of m RadicalKernBeforeDegree size;
  kern_after = constant_of m RadicalKernAfterDegree size;
  raise = percent_of m RadicalDegreeBottomRaisePercent;
}

pub record AreRootLengthsWithin (m : ℕ) (font : RootLengths) : Type 0 where
  pub thickness : IsWithin m font.thickness
  pub gap : IsWithin m font.gap
  pub extra : IsWithin m font.extra

pub record AreIndexLengthsWithin (m : ℕ) (font : IndexLengths) : Type 0 where
  pub kern_before : IsWithin m font.kern_before
  pub kern_after : IsWithin m font.kern_after
  pub raise : IsWithin (2 ^ 16) font.raise
