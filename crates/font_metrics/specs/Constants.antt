-- The constants of a font for mathematics (OpenType MATH, "MathConstants"), in the order of that
-- table.
use Rattle.std.specs.Prelude.{ℕ, ℤ, pos, negsuc, Bool, nat_lt, if◌then◌else◌, List, [], ◌∷◌, codes, Option, position}
use Rattle.std.specs.Str.{bytes_eq}
use Rattle.font_metrics.specs.declared.constants.ConstName.{ConstName}
use Rattle.font_metrics.specs.declared.constants.ConstName.TheVariants.{ScriptPercentScaleDown, ScriptScriptPercentScaleDown, DelimitedSubFormulaMinHeight, DisplayOperatorMinHeight, MathLeading, AxisHeight, AccentBaseHeight, FlattenedAccentBaseHeight, SubscriptShiftDown, SubscriptTopMax, SubscriptBaselineDropMin, SuperscriptShiftUp, SuperscriptShiftUpCramped, SuperscriptBottomMin, SuperscriptBaselineDropMax, SubSuperscriptGapMin, SuperscriptBottomMaxWithSubscript, SpaceAfterScript, UpperLimitGapMin, UpperLimitBaselineRiseMin, LowerLimitGapMin, LowerLimitBaselineDropMin, StackTopShiftUp, StackTopDisplayStyleShiftUp, StackBottomShiftDown, StackBottomDisplayStyleShiftDown, StackGapMin, StackDisplayStyleGapMin, StretchStackTopShiftUp, StretchStackBottomShiftDown, StretchStackGapAboveMin, StretchStackGapBelowMin, FractionNumeratorShiftUp, FractionNumeratorDisplayStyleShiftUp, FractionDenominatorShiftDown, FractionDenominatorDisplayStyleShiftDown, FractionNumeratorGapMin, FractionNumDisplayStyleGapMin, FractionRuleThickness, FractionDenominatorGapMin, FractionDenomDisplayStyleGapMin, SkewedFractionHorizontalGap, SkewedFractionVerticalGap, OverbarVerticalGap, OverbarRuleThickness, OverbarExtraAscender, UnderbarVerticalGap, UnderbarRuleThickness, UnderbarExtraDescender, RadicalVerticalGap, RadicalDisplayStyleVerticalGap, RadicalRuleThickness, RadicalExtraAscender, RadicalKernBeforeDegree, RadicalKernAfterDegree, RadicalDegreeBottomRaisePercent}

-- the names that a file writes, in order
abbrev pub constant_texts : List (List ℕ)
constant_texts = codes "ScriptPercentScaleDown"
    ∷ codes "ScriptScriptPercentScaleDown"
    ∷ codes "DelimitedSubFormulaMinHeight"
    ∷ codes "DisplayOperatorMinHeight"
    ∷ codes "MathLeading"
    ∷ codes "AxisHeight"
    ∷ codes "AccentBaseHeight"
    ∷ codes "FlattenedAccentBaseHeight"
    ∷ codes "SubscriptShiftDown"
    ∷ codes "SubscriptTopMax"
    ∷ codes "SubscriptBaselineDropMin"
    ∷ codes "SuperscriptShiftUp"
    ∷ codes "SuperscriptShiftUpCramped"
    ∷ codes "SuperscriptBottomMin"
    ∷ codes "SuperscriptBaselineDropMax"
    ∷ codes "SubSuperscriptGapMin"
    ∷ codes "SuperscriptBottomMaxWithSubscript"
    ∷ codes "SpaceAfterScript"
    ∷ codes "UpperLimitGapMin"
    ∷ codes "UpperLimitBaselineRiseMin"
    ∷ codes "LowerLimitGapMin"
    ∷ codes "LowerLimitBaselineDropMin"
    ∷ codes "StackTopShiftUp"
    ∷ codes "StackTopDisplayStyleShiftUp"
    ∷ codes "StackBottomShiftDown"
    ∷ codes "StackBottomDisplayStyleShiftDown"
    ∷ codes "StackGapMin"
    ∷ codes "StackDisplayStyleGapMin"
    ∷ codes "StretchStackTopShiftUp"
    ∷ codes "StretchStackBottomShiftDown"
    ∷ codes "StretchStackGapAboveMin"
    ∷ codes "StretchStackGapBelowMin"
    ∷ codes "FractionNumeratorShiftUp"
    ∷ codes "FractionNumeratorDisplayStyleShiftUp"
    ∷ codes "FractionDenominatorShiftDown"
    ∷ codes "FractionDenominatorDisplayStyleShiftDown"
    ∷ codes "FractionNumeratorGapMin"
    ∷ codes "FractionNumDisplayStyleGapMin"
    ∷ codes "FractionRuleThickness"
    ∷ codes "FractionDenominatorGapMin"
    ∷ codes "FractionDenomDisplayStyleGapMin"
    ∷ codes "SkewedFractionHorizontalGap"
    ∷ codes "SkewedFractionVerticalGap"
    ∷ codes "OverbarVerticalGap"
    ∷ codes "OverbarRuleThickness"
    ∷ codes "OverbarExtraAscender"
    ∷ codes "UnderbarVerticalGap"
    ∷ codes "UnderbarRuleThickness"
    ∷ codes "UnderbarExtraDescender"
    ∷ codes "RadicalVerticalGap"
    ∷ codes "RadicalDisplayStyleVerticalGap"
    ∷ codes "RadicalRuleThickness"
    ∷ codes "RadicalExtraAscender"
    ∷ codes "RadicalKernBeforeDegree"
    ∷ codes "RadicalKernAfterDegree"
    ∷ codes "RadicalDegreeBottomRaisePercent"
    ∷ []

-- the place of a constant in this order
abbrev pub place_of_constant : ConstName → ℕ
place_of_constant ScriptPercentScaleDown = 0
place_of_constant ScriptScriptPercentScaleDown = 1
place_of_constant DelimitedSubFormulaMinHeight = 2
place_of_constant DisplayOperatorMinHeight = 3
place_of_constant MathLeading = 4
place_of_constant AxisHeight = 5
place_of_constant AccentBaseHeight = 6
place_of_constant FlattenedAccentBaseHeight = 7
place_of_constant SubscriptShiftDown = 8
place_of_constant SubscriptTopMax = 9
place_of_constant SubscriptBaselineDropMin = 10
place_of_constant SuperscriptShiftUp = 11
place_of_constant SuperscriptShiftUpCramped = 12
place_of_constant SuperscriptBottomMin = 13
place_of_constant SuperscriptBaselineDropMax = 14
place_of_constant SubSuperscriptGapMin = 15
place_of_constant SuperscriptBottomMaxWithSubscript = 16
place_of_constant SpaceAfterScript = 17
place_of_constant UpperLimitGapMin = 18
place_of_constant UpperLimitBaselineRiseMin = 19
place_of_constant LowerLimitGapMin = 20
place_of_constant LowerLimitBaselineDropMin = 21
place_of_constant StackTopShiftUp = 22
place_of_constant StackTopDisplayStyleShiftUp = 23
place_of_constant StackBottomShiftDown = 24
place_of_constant StackBottomDisplayStyleShiftDown = 25
place_of_constant StackGapMin = 26
place_of_constant StackDisplayStyleGapMin = 27
place_of_constant StretchStackTopShiftUp = 28
place_of_constant StretchStackBottomShiftDown = 29
place_of_constant StretchStackGapAboveMin = 30
place_of_constant StretchStackGapBelowMin = 31
place_of_constant FractionNumeratorShiftUp = 32
place_of_constant FractionNumeratorDisplayStyleShiftUp = 33
place_of_constant FractionDenominatorShiftDown = 34
place_of_constant FractionDenominatorDisplayStyleShiftDown = 35
place_of_constant FractionNumeratorGapMin = 36
place_of_constant FractionNumDisplayStyleGapMin = 37
place_of_constant FractionRuleThickness = 38
place_of_constant FractionDenominatorGapMin = 39
place_of_constant FractionDenomDisplayStyleGapMin = 40
place_of_constant SkewedFractionHorizontalGap = 41
place_of_constant SkewedFractionVerticalGap = 42
place_of_constant OverbarVerticalGap = 43
place_of_constant OverbarRuleThickness = 44
place_of_constant OverbarExtraAscender = 45
place_of_constant UnderbarVerticalGap = 46
place_of_constant UnderbarRuleThickness = 47
place_of_constant UnderbarExtraDescender = 48
place_of_constant RadicalVerticalGap = 49
place_of_constant RadicalDisplayStyleVerticalGap = 50
place_of_constant RadicalRuleThickness = 51
place_of_constant RadicalExtraAscender = 52
place_of_constant RadicalKernBeforeDegree = 53
place_of_constant RadicalKernAfterDegree = 54
place_of_constant RadicalDegreeBottomRaisePercent = 55

-- the place of the constant that a word names; words are compared exactly
unfoldable pub place_of_text : List ℕ → Option ℕ
place_of_text word = position (λ text. bytes_eq word text) constant_texts

-- the two scale-down percents stand first, and go from 0 to 200; every other constant goes from
-- -32768 to 65535
abbrev pub is_scale_down : ℕ → Bool
is_scale_down place = nat_lt place 2

abbrev pub lowest_of : ℕ → ℤ
lowest_of place = if is_scale_down place then pos 0 else negsuc 32767

abbrev pub highest_of : ℕ → ℤ
highest_of place = if is_scale_down place then pos 200 else pos 65535
