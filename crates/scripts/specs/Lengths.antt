-- The constants of scripts at a font size.
use Rattle.std.specs.Prelude.{ℕ, ℤ, Bool, if◌then◌else◌}
use Rattle.fixed_units.specs.Numbers.{IsWithin}
use Rattle.font_metrics.specs.Metrics.{MetricsValue, constant_of}
use Rattle.font_metrics.specs.declared.constants.ConstName.TheVariants.{SubscriptShiftDown, SubscriptTopMax, SubscriptBaselineDropMin, SuperscriptShiftUp, SuperscriptShiftUpCramped, SuperscriptBottomMin, SuperscriptBaselineDropMax, SubSuperscriptGapMin, SuperscriptBottomMaxWithSubscript}
use Rattle.scripts.specs.declared.lengths.PairLengths.{PairLengths}
use Rattle.scripts.specs.declared.lengths.SubLengths.{SubLengths}
use Rattle.scripts.specs.declared.lengths.SupLengths.{SupLengths}

unfoldable pub sub_lengths_of : MetricsValue → ℤ → SubLengths
sub_lengths_of m size = record {
  shift = constant_of m SubscriptShiftDown size;
  top_max = constant_of m SubscriptTopMax size;
  drop_min = constant_of m SubscriptBaselineDropMin size;
}

unfoldable pub sup_lengths_of : MetricsValue → ℤ → Bool → SupLengths
sup_lengths_of m size cramped = record {
  shift = if cramped then constant_of m SuperscriptShiftUpCramped size else constant_of m
      SuperscriptShiftUp size;
  bottom_min = constant_of m SuperscriptBottomMin size;
  drop_max = constant_of m SuperscriptBaselineDropMax size;
}

unfoldable pub pair_lengths_of : MetricsValue → ℤ → PairLengths
pair_lengths_of m size = record {
  gap = constant_of m SubSuperscriptGapMin size;
  bottom_max = constant_of m SuperscriptBottomMaxWithSubscript size;
}

pub record AreSubLengthsWithin (m : ℕ) (font : SubLengths) : Type 0 where
  pub shift : IsWithin m font.shift
  pub top_max : IsWithin m font.top_max
  pub drop_min : IsWithin m font.drop_min

pub record AreSupLengthsWithin (m : ℕ) (font : SupLengths) : Type 0 where
  pub shift : IsWithin m font.shift
  pub bottom_min : IsWithin m font.bottom_min
  pub drop_max : IsWithin m font.drop_max

pub record ArePairLengthsWithin (m : ℕ) (font : PairLengths) : Type 0 where
  pub gap : IsWithin m font.gap
  pub bottom_max : IsWithin m font.bottom_max
