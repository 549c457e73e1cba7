-- What keeps a limit and its base apart, and how far (MathML Core 3.4.2).
use Rattle.std.specs.Prelude.{ℕ, ℤ, pos, ◌+ℤ◌, Bool, true, false}
use Rattle.std.specs.Int.{int_max}
use Rattle.fixed_units.specs.Numbers.{IsWithin}
use Rattle.font_metrics.specs.Metrics.{MetricsValue, constant_of}
use Rattle.font_metrics.specs.declared.constants.ConstName.TheVariants.{UpperLimitBaselineRiseMin, UpperLimitGapMin, LowerLimitBaselineDropMin, LowerLimitGapMin, StretchStackTopShiftUp, StretchStackGapAboveMin, StretchStackBottomShiftDown, StretchStackGapBelowMin, AccentBaseHeight, OverbarVerticalGap, OverbarExtraAscender, UnderbarVerticalGap, UnderbarExtraDescender}
use Rattle.scripts.specs.declared.spacing.Gap.{Gap}
use Rattle.scripts.specs.declared.spacing.Gap.TheVariants.{Limit, Stack, Accent, Bar}
use Rattle.scripts.specs.declared.parts.LimitCase.{LimitCase}
use Rattle.scripts.specs.declared.parts.LimitCase.TheVariants.{Large, Stretchy, Plain}

-- of an overscript
unfoldable pub above_of : MetricsValue → LimitCase → Bool → ℤ → Gap
above_of m Large accent size = Limit (constant_of m UpperLimitBaselineRiseMin size)
    (constant_of m UpperLimitGapMin size)
above_of m Stretchy accent size = Stack (constant_of m StretchStackTopShiftUp size)
    (constant_of m StretchStackGapAboveMin size)
above_of m Plain true size = Accent (constant_of m AccentBaseHeight size)
above_of m Plain false size = Bar (constant_of m OverbarVerticalGap size)
    (constant_of m OverbarExtraAscender size)

-- of an underscript; one that is an accent touches the ink of the base
unfoldable pub below_of : MetricsValue → LimitCase → Bool → ℤ → Gap
below_of m Large accent size = Limit (constant_of m LowerLimitBaselineDropMin size)
    (constant_of m LowerLimitGapMin size)
below_of m Stretchy accent size = Stack (constant_of m StretchStackBottomShiftDown size)
    (constant_of m StretchStackGapBelowMin size)
below_of m Plain true size = Bar (pos 0) (pos 0)
below_of m Plain false size = Bar (constant_of m UnderbarVerticalGap size)
    (constant_of m UnderbarExtraDescender size)

-- from baseline to baseline; both inks are measured toward the other one
unfoldable pub distance_of : Gap → ℤ → ℤ → ℤ
distance_of (Limit rise least) base limit = base +ℤ int_max rise (least +ℤ limit)
distance_of (Stack shift least) base limit = int_max shift (base +ℤ least +ℤ limit)
distance_of (Accent height) base limit = int_max base height +ℤ limit
distance_of (Bar gap extra) base limit = base +ℤ gap +ℤ limit

-- what the box of the limit counts beyond its own
unfoldable pub extra_of : Gap → ℤ
extra_of (Bar gap extra) = extra
extra_of other = pos 0

-- each of its numbers lies from -m to m
abbrev pub IsGapWithin : ℕ → Gap → Type 0
IsGapWithin m (Limit rise least) = IsWithin m rise × IsWithin m least
IsGapWithin m (Stack shift least) = IsWithin m shift × IsWithin m least
IsGapWithin m (Accent height) = IsWithin m height
IsGapWithin m (Bar gap extra) = IsWithin m gap × IsWithin m extra
