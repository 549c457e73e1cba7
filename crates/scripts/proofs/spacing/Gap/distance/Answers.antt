use Rattle.std.proofs.Common.{◌≡◌, ◌^◌, ◌+ℤ◌, arith, lit<, sym, subst, ap}
use Rattle.std.proofs.lemmas.Int.{to_z-of_z}
use Rattle.std.specs.Int.{int_max}
use Rattle.fixed_units.specs.Numbers.{IsWithin}
use Rattle.fixed_units.proofs.Within.{sum_in, max_in, fits_i64}
use Rattle.scripts.specs.LimitGaps.{distance_of, IsGapWithin}
use Rattle.scripts.proofs.LimitBounds.{distance_in}
use Rattle.scripts.proofs.spacing.Gap.distance.Goals as goal

pub overflow_add-least : goal.overflow_add-least
overflow_add-least c =
    let gap : IsWithin (2 ^ 32) c.in-Limit.rise × IsWithin (2 ^ 32) c.in-Limit.least = subst (IsGapWithin (2 ^ 32)) c.in-Limit.is c.requires.gap_in in
    let f = fits_i64 gap.1 (lit< tt) in
    let g = fits_i64 (sum_in gap.1 c.requires.limit_in) (lit< tt) in
    grind (arith, to_z-of_z)

pub overflow_add-base_ink : goal.overflow_add-base_ink
overflow_add-base_ink c =
    let gap : IsWithin (2 ^ 32) c.in-Stack.shift × IsWithin (2 ^ 32) c.in-Stack.least = subst (IsGapWithin (2 ^ 32)) c.in-Stack.is c.requires.gap_in in
    let f = fits_i64 gap.1 (lit< tt) in
    let g = fits_i64 (sum_in c.requires.base_in gap.1) (lit< tt) in
    grind (arith, to_z-of_z)

pub overflow_add-base_ink-in-Stack : goal.overflow_add-base_ink-in-Stack
overflow_add-base_ink-in-Stack c =
    let gap : IsWithin (2 ^ 32) c.in-Stack.shift × IsWithin (2 ^ 32) c.in-Stack.least = subst (IsGapWithin (2 ^ 32)) c.in-Stack.is c.requires.gap_in in
    let f = fits_i64 gap.1 (lit< tt) in
    let g = fits_i64 (sum_in c.requires.base_in gap.1) (lit< tt) in
    let h = fits_i64 (sum_in (sum_in c.requires.base_in gap.1) c.requires.limit_in) (lit< tt) in
    grind (arith, to_z-of_z)

pub overflow_add-result-in-Accent : goal.overflow_add-result-in-Accent
overflow_add-result-in-Accent c =
    let gap : IsWithin (2 ^ 32) c.in-Accent.height = subst (IsGapWithin (2 ^ 32)) c.in-Accent.is c.requires.gap_in in
    let f = fits_i64 gap (lit< tt) in
    let g = fits_i64 (max_in c.requires.base_in gap) (lit< tt) in
    let h = fits_i64 (sum_in (max_in c.requires.base_in gap) c.requires.limit_in) (lit< tt) in
    grind (arith, to_z-of_z)

pub overflow_add-result-in-Bar : goal.overflow_add-result-in-Bar
overflow_add-result-in-Bar c =
    let gap : IsWithin (2 ^ 32) c.in-Bar.gap × IsWithin (2 ^ 32) c.in-Bar.extra = subst (IsGapWithin (2 ^ 32)) c.in-Bar.is c.requires.gap_in in
    let f = fits_i64 gap.0 (lit< tt) in
    let g = fits_i64 (sum_in c.requires.base_in gap.0) (lit< tt) in
    grind (arith, to_z-of_z)

pub overflow_add-result-in-Bar-2 : goal.overflow_add-result-in-Bar-2
overflow_add-result-in-Bar-2 c =
    let gap : IsWithin (2 ^ 32) c.in-Bar.gap × IsWithin (2 ^ 32) c.in-Bar.extra = subst (IsGapWithin (2 ^ 32)) c.in-Bar.is c.requires.gap_in in
    let f = fits_i64 gap.0 (lit< tt) in
    let g = fits_i64 (sum_in c.requires.base_in gap.0) (lit< tt) in
    let h = fits_i64 (sum_in (sum_in c.requires.base_in gap.0) c.requires.limit_in) (lit< tt) in
    grind (arith, to_z-of_z)

pub overflow_add-result : goal.overflow_add-result
overflow_add-result c =
    let gap : IsWithin (2 ^ 32) c.in-Limit.rise × IsWithin (2 ^ 32) c.in-Limit.least = subst (IsGapWithin (2 ^ 32)) c.in-Limit.is c.requires.gap_in in
    let reach = sum_in gap.1 c.requires.limit_in in
    let f = fits_i64 gap.0 (lit< tt) in
    let g = fits_i64 gap.1 (lit< tt) in
    let h = fits_i64 reach (lit< tt) in
    let i = fits_i64 (max_in gap.0 reach) (lit< tt) in
    let j = fits_i64 (sum_in c.requires.base_in (max_in gap.0 reach)) (lit< tt) in
    grind (arith, to_z-of_z)

pub returns-in-Limit-clause-value : goal.returns-in-Limit-clause-value
unfolding distance_of
returns-in-Limit-clause-value c =
    let gap : IsWithin (2 ^ 32) c.in-Limit.rise × IsWithin (2 ^ 32) c.in-Limit.least = subst (IsGapWithin (2 ^ 32)) c.in-Limit.is c.requires.gap_in in
    let same : distance_of c.args.self c.args.base_ink c.args.limit_ink ≡ c.args.base_ink +ℤ int_max c.in-Limit.rise (c.in-Limit.least +ℤ c.args.limit_ink)
    = ap (λ next. distance_of next c.args.base_ink c.args.limit_ink) c.in-Limit.is in
    let reach = sum_in gap.1 c.requires.limit_in in
    let f = fits_i64 gap.0 (lit< tt) in
    let g = fits_i64 gap.1 (lit< tt) in
    let h = fits_i64 reach (lit< tt) in
    let i = fits_i64 (max_in gap.0 reach) (lit< tt) in
    let j = fits_i64 (sum_in c.requires.base_in (max_in gap.0 reach)) (lit< tt) in
    grind (arith, to_z-of_z)

pub returns-in-Limit-clause-within : goal.returns-in-Limit-clause-within
returns-in-Limit-clause-within c =
    subst (IsWithin (2 ^ 34)) (sym (returns-in-Limit-clause-value c))
    (distance_in _ _ _ c.requires.gap_in c.requires.base_in c.requires.limit_in)

pub returns-in-Stack-clause-value : goal.returns-in-Stack-clause-value
unfolding distance_of
returns-in-Stack-clause-value c =
    let gap : IsWithin (2 ^ 32) c.in-Stack.shift × IsWithin (2 ^ 32) c.in-Stack.least = subst (IsGapWithin (2 ^ 32)) c.in-Stack.is c.requires.gap_in in
    let same : distance_of c.args.self c.args.base_ink c.args.limit_ink ≡ int_max c.in-Stack.shift (c.args.base_ink +ℤ c.in-Stack.least +ℤ c.args.limit_ink)
    = ap (λ next. distance_of next c.args.base_ink c.args.limit_ink) c.in-Stack.is in
    let reach = sum_in c.requires.base_in gap.1 in
    let f = fits_i64 gap.0 (lit< tt) in
    let g = fits_i64 gap.1 (lit< tt) in
    let h = fits_i64 reach (lit< tt) in
    let i = fits_i64 (sum_in reach c.requires.limit_in) (lit< tt) in
    let j = fits_i64 (max_in gap.0 (sum_in reach c.requires.limit_in)) (lit< tt) in
    grind (arith, to_z-of_z)

pub returns-in-Stack-clause-within : goal.returns-in-Stack-clause-within
returns-in-Stack-clause-within c =
    subst (IsWithin (2 ^ 34)) (sym (returns-in-Stack-clause-value c))
    (distance_in _ _ _ c.requires.gap_in c.requires.base_in c.requires.limit_in)

pub returns-in-Accent-clause-value : goal.returns-in-Accent-clause-value
unfolding distance_of
returns-in-Accent-clause-value c =
    let gap : IsWithin (2 ^ 32) c.in-Accent.height = subst (IsGapWithin (2 ^ 32)) c.in-Accent.is c.requires.gap_in in
    let same : distance_of c.args.self c.args.base_ink c.args.limit_ink ≡ int_max c.args.base_ink c.in-Accent.height +ℤ c.args.limit_ink
    = ap (λ next. distance_of next c.args.base_ink c.args.limit_ink) c.in-Accent.is in
    let f = fits_i64 gap (lit< tt) in
    let g = fits_i64 (max_in c.requires.base_in gap) (lit< tt) in
    let h = fits_i64 (sum_in (max_in c.requires.base_in gap) c.requires.limit_in) (lit< tt) in
    grind (arith, to_z-of_z)

pub returns-in-Accent-clause-within : goal.returns-in-Accent-clause-within
returns-in-Accent-clause-within c =
    subst (IsWithin (2 ^ 34)) (sym (returns-in-Accent-clause-value c))
    (distance_in _ _ _ c.requires.gap_in c.requires.base_in c.requires.limit_in)

pub returns-in-Bar-clause-value : goal.returns-in-Bar-clause-value
unfolding distance_of
returns-in-Bar-clause-value c =
    let gap : IsWithin (2 ^ 32) c.in-Bar.gap × IsWithin (2 ^ 32) c.in-Bar.extra = subst (IsGapWithin (2 ^ 32)) c.in-Bar.is c.requires.gap_in in
    let same : distance_of c.args.self c.args.base_ink c.args.limit_ink ≡ c.args.base_ink +ℤ c.in-Bar.gap +ℤ c.args.limit_ink
    = ap (λ next. distance_of next c.args.base_ink c.args.limit_ink) c.in-Bar.is in
    let reach = sum_in c.requires.base_in gap.0 in
    let f = fits_i64 gap.0 (lit< tt) in
    let g = fits_i64 reach (lit< tt) in
    let h = fits_i64 (sum_in reach c.requires.limit_in) (lit< tt) in
    grind (arith, to_z-of_z)

pub returns-in-Bar-clause-within : goal.returns-in-Bar-clause-within
returns-in-Bar-clause-within c =
    subst (IsWithin (2 ^ 34)) (sym (returns-in-Bar-clause-value c))
    (distance_in _ _ _ c.requires.gap_in c.requires.base_in c.requires.limit_in)
