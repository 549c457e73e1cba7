-- Worked cases: the definitions compute them, and a wrong one is refused at its line.
use Rattle.std.proofs.Common.{◌≡◌, refl, ℕ, pos, true, false, List, [], ◌∷◌, codes, Some, None}
use Rattle.css_lengths.specs.Lengths.{length_of, trimmed, is_negative, behind_sign, number_of as number_in, digits_in_front, behind_digits, fraction_of, unit_at, unit_of, resolved, size_of as unit_size}
use Rattle.fixed_units.specs.Numbers.{rounded}
use Rattle.font_metrics.specs.Metrics.{MetricsValue, percent_of}
use Rattle.font_metrics.specs.declared.constants.ConstName.TheVariants.{ScriptPercentScaleDown, ScriptScriptPercentScaleDown}
use Rattle.math_tree.specs.declared.attributes.Attribute.{Attribute}
use Rattle.math_tree.specs.declared.kind.Kind.{Kind}
use Rattle.math_tree.specs.declared.kind.Kind.TheVariants.{Math, Mfrac, Mi, Mmultiscripts, Mn, Mo, Mover, Mroot, Mrow, Msqrt, Mstyle, Msub, Msup, Munder}
use Rattle.math_tree.specs.declared.node.Head.{Head}
use Rattle.style_scope.specs.declared.style.Place.{Place}
use Rattle.style_scope.specs.declared.style.Style.{Style}
use Rattle.style_scope.specs.Rules.{by_name, by_place, by_size, by_level, by_direction, by_display, levels_of, is_compact_in, is_cramped_in}
use Rattle.style_scope.specs.Sizes.{in_range_of, size_of}
use Rattle.style_scope.specs.Styles.{initial, by_attributes, root_style_of, child_style_of}
use Rattle.style_scope.specs.Words.{direction_of_word, level_of, number_of}

-- ---- places
abbrev place : Kind → ℕ → Place
place parent index = record { parent = parent; index = index; accent = false; accentunder = false; subscript = false }

abbrev block : Style
block = record initial { display = true }

-- the numerator of a fraction in display style keeps its depth, and is itself not in display style
pub by_place-numerator : by_place (place Mfrac 0) block ≡ initial
unfolding by_place levels_of is_compact_in is_cramped_in
by_place-numerator = refl

-- one level deeper in any other fraction; what stands below is cramped
pub by_place-denominator : by_place (place Mfrac 1) initial ≡ record initial { depth = 1; cramped = true }
unfolding by_place levels_of is_compact_in is_cramped_in
by_place-denominator = refl

pub by_place-superscript : by_place (place Msup 1) block ≡ record initial { depth = 1 }
unfolding by_place levels_of is_compact_in is_cramped_in
by_place-superscript = refl

pub by_place-subscript : by_place (place Msub 1) block ≡ record initial { depth = 1; cramped = true }
unfolding by_place levels_of is_compact_in is_cramped_in
by_place-subscript = refl

pub by_place-base : by_place (place Msub 0) block ≡ block
unfolding by_place levels_of is_compact_in is_cramped_in
by_place-base = refl

-- a root's index is two levels deeper
pub by_place-index : by_place (place Mroot 1) block ≡ record initial { depth = 2 }
unfolding by_place levels_of is_compact_in is_cramped_in
by_place-index = refl

-- an accent keeps the depth, and what is under it is cramped
pub by_place-accent : by_place (record (place Mover 1) { accent = true }) block ≡ initial
unfolding by_place levels_of is_compact_in is_cramped_in
by_place-accent = refl

pub by_place-accented : by_place (record (place Mover 0) { accent = true }) block ≡ record block { cramped = true }
unfolding by_place levels_of is_compact_in is_cramped_in
by_place-accented = refl

-- an accent above says nothing of what stands below
pub by_place-under : by_place (record (place Munder 1) { accent = true }) block ≡ record initial { depth = 1 }
unfolding by_place levels_of is_compact_in is_cramped_in
by_place-under = refl

pub by_place-prescript : by_place (record (place Mmultiscripts 3) { subscript = true }) initial ≡ record initial { depth = 1; cramped = true }
unfolding by_place levels_of is_compact_in is_cramped_in
by_place-prescript = refl

pub by_place-row : by_place (place Mrow 1) block ≡ block
unfolding by_place levels_of is_compact_in is_cramped_in
by_place-row = refl

pub by_name-root : by_name Msqrt block ≡ record block { cramped = true }
unfolding by_name
by_name-root = refl

-- ---- levels, below a parent at depth 2
pub level-set : level_of 2 (codes "001") ≡ Some 1
unfolding level_of number_of
level-set = refl

pub level-up : level_of 2 (codes "+1") ≡ Some 3
unfolding level_of number_of
level-up = refl

-- no depth is below 0
pub level-down : level_of 2 (codes "-3") ≡ Some 0
unfolding level_of number_of
level-down = refl

pub level-long : level_of 2 (codes "1000") ≡ None
unfolding level_of number_of
level-long = refl

pub level-blank : level_of 2 (codes " 1") ≡ None
unfolding level_of number_of
level-blank = refl

pub level-sign : level_of 2 (codes "+") ≡ None
unfolding level_of number_of
level-sign = refl

-- ---- sizes, where the first scripts have 75 percent and the second ones 50
pub size-script : (m : MetricsValue) → percent_of m ScriptPercentScaleDown ≡ pos 75 → size_of m (record initial { depth = 1 }) ≡ pos 12288
unfolding size_of rounded
size-script m percent = rw percent refl

-- 16384 * 0.5 * 0.71 is 5816.32
pub size-third_level : (m : MetricsValue) → percent_of m ScriptScriptPercentScaleDown ≡ pos 50 → size_of m (record initial { depth = 3 }) ≡ pos 5816
unfolding size_of rounded
size-third_level m percent = rw percent refl

-- a size that was given below grows above: 16384 / 0.75 is 21845.33
pub size-above : (m : MetricsValue) → percent_of m ScriptPercentScaleDown ≡ pos 75 → size_of m (record initial { base_depth = 1 }) ≡ pos 21845
unfolding size_of rounded
size-above m percent = rw percent refl

-- at the depth at which it was given a size is itself, also 0
pub size-given : (m : MetricsValue) → percent_of m ScriptScriptPercentScaleDown ≡ pos 200 → size_of m (record initial { base = pos 0; base_depth = 9; depth = 9 }) ≡ pos 0
unfolding size_of rounded
size-given m percent = rw percent refl

-- 1024 px are in range, and no more
pub in_range-last : in_range_of (pos 1048576) ≡ Some (pos 1048576)
unfolding in_range_of
in_range-last = refl

pub in_range-next : in_range_of (pos 1048577) ≡ None
unfolding in_range_of
in_range-next = refl

-- ---- whole styles, of every element from the root down

abbrev given : List ℕ → List ℕ → List Attribute
given name value = record { name = name; value = value } ∷ []

abbrev element : Kind → List Attribute → Head
element kind attributes = record { id = record { 0 = 1 }; name = []; kind = kind; attributes = attributes; text = [] }

pub root-inline : (m : MetricsValue) → root_style_of m (element Math []) ≡ initial
unfolding root_style_of by_attributes by_size by_level by_direction by_display
root-inline m = refl

pub root-block : (m : MetricsValue) → root_style_of m (element Math (given (codes "display") (codes "Block"))) ≡ block
unfolding root_style_of by_attributes by_size by_level by_direction by_display
root-block m = refl

-- 1 over 1, in a line: the fraction has the root's style, and its parts stand a level deeper
pub fraction-itself : (m : MetricsValue) → child_style_of m initial (place Math 0) (element Mfrac []) ≡ initial
unfolding child_style_of by_attributes by_place levels_of is_compact_in is_cramped_in by_name by_size by_level by_direction by_display
fraction-itself m = refl

pub fraction-numerator : (m : MetricsValue) → child_style_of m initial (place Mfrac 0) (element Mn []) ≡ record initial { depth = 1 }
unfolding child_style_of by_attributes by_place levels_of is_compact_in is_cramped_in by_name by_size by_level by_direction by_display
fraction-numerator m = refl

pub fraction-denominator : (m : MetricsValue)
    → child_style_of m initial (place Mfrac 1) (element Mn []) ≡ record initial { depth = 1; cramped = true }
unfolding child_style_of by_attributes by_place levels_of is_compact_in is_cramped_in by_name by_size by_level by_direction by_display
fraction-denominator m = refl

-- a sum over 1, in a formula of its own: the sum is in display style, and what is under it isn't
pub limits-itself : (m : MetricsValue) → child_style_of m block (place Math 0) (element Munder []) ≡ block
unfolding child_style_of by_attributes by_place levels_of is_compact_in is_cramped_in by_name by_size by_level by_direction by_display
limits-itself m = refl

pub limits-base : (m : MetricsValue) → child_style_of m block (place Munder 0) (element Mo []) ≡ block
unfolding child_style_of by_attributes by_place levels_of is_compact_in is_cramped_in by_name by_size by_level by_direction by_display
limits-base m = refl

pub limits-under : (m : MetricsValue) → child_style_of m block (place Munder 1) (element Mn []) ≡ record initial { depth = 1 }
unfolding child_style_of by_attributes by_place levels_of is_compact_in is_cramped_in by_name by_size by_level by_direction by_display
limits-under m = refl

-- x under a hat, which is an accent: x is cramped, and the hat keeps the depth
pub accent-base : (m : MetricsValue)
    → child_style_of m initial (record (place Mover 0) { accent = true }) (element Mi []) ≡ record initial { cramped = true }
unfolding child_style_of by_attributes by_place levels_of is_compact_in is_cramped_in by_name by_size by_level by_direction by_display
accent-base m = refl

pub accent-hat : (m : MetricsValue)
    → child_style_of m initial (record (place Mover 1) { accent = true }) (element Mo []) ≡ initial
unfolding child_style_of by_attributes by_place levels_of is_compact_in is_cramped_in by_name by_size by_level by_direction by_display
accent-hat m = refl

-- what an `mstyle` sets holds of what is in it
pub level-style : (m : MetricsValue)
    → child_style_of m initial (place Math 0) (element Mstyle (given (codes "scriptlevel") (codes "1"))) ≡ record initial { depth = 1 }
unfolding child_style_of by_attributes by_place levels_of is_compact_in is_cramped_in by_name by_size by_level by_direction by_display level_of number_of
level-style m = refl

pub level-inside : (m : MetricsValue)
    → child_style_of m (record initial { depth = 1 }) (place Mstyle 0) (element Mn []) ≡ record initial { depth = 1 }
unfolding child_style_of by_attributes by_place levels_of is_compact_in is_cramped_in by_name by_size by_level by_direction by_display
level-inside m = refl

-- below the root no level is less than 0, and none is more than 15
pub level-highest : (m : MetricsValue)
    → child_style_of m initial (place Math 0) (element Mstyle (given (codes "scriptlevel") (codes "999"))) ≡ record initial { depth = 15 }
unfolding child_style_of by_attributes by_place levels_of is_compact_in is_cramped_in by_name by_size by_level by_direction by_display level_of number_of
level-highest m = refl

-- a size that is given counts at the depth at which it stands: 2 em of 12288
pub size-given_below : (m : MetricsValue) → percent_of m ScriptPercentScaleDown ≡ pos 75
    → child_style_of m (record initial { depth = 1 }) (place Mstyle 0) (element Mstyle (given (codes "mathsize") (codes "2em")))
    ≡ record initial { base = pos 24576; base_depth = 1; depth = 1 }
unfolding child_style_of by_attributes by_place levels_of is_compact_in is_cramped_in by_name by_size by_level by_direction by_display size_of rounded length_of trimmed is_negative behind_sign number_in digits_in_front behind_digits fraction_of unit_at unit_of resolved unit_size
size-given_below m percent = rw percent refl

-- ---- directions

pub direction-right_to_left : direction_of_word (codes "Rtl") ≡ Some true
unfolding direction_of_word
direction-right_to_left = refl

pub direction-blank : direction_of_word (codes " rtl") ≡ None
unfolding direction_of_word
direction-blank = refl

-- a root from right to left
pub root-right_to_left : (m : MetricsValue) → root_style_of m (element Math (given (codes "dir") (codes "rtl"))) ≡ record initial { rtl = true }
unfolding root_style_of by_attributes by_size by_level by_direction by_display direction_of_word
root-right_to_left m = refl

-- what stands below it is so, too
pub below-right_to_left : (m : MetricsValue) → child_style_of m (record initial { rtl = true }) (place Math 0) (element Mn []) ≡ record initial { rtl = true }
unfolding child_style_of by_attributes by_place levels_of is_compact_in is_cramped_in by_name by_size by_level by_direction by_display
below-right_to_left m = refl

-- but for what says that it is from left to right
pub below-left_to_right : (m : MetricsValue)
    → child_style_of m (record initial { rtl = true }) (place Math 0) (element Mn (given (codes "dir") (codes "ltr"))) ≡ initial
unfolding child_style_of by_attributes by_place levels_of is_compact_in is_cramped_in by_name by_size by_level by_direction by_display direction_of_word
below-left_to_right m = refl
