use Rattle.std.proofs.Common.{◌≡◌, ◌∙◌, ap, refl, lit<, to_z-of_z, ℤ, pos, List, [], ◌∷◌, Option, Some, None, slice_get}
use Rattle.std.proofs.lemmas.Option.{none-some, same_Some}
use Rattle.font_metrics.specs.declared.kern.Kern.{Kern}
use Rattle.font_metrics.specs.Metrics.{MetricsValue, first_value, kern_of, kern_value}
use Rattle.font_metrics.proofs.Scaling.{back64}
use Rattle.font_metrics.proofs.metrics.Metrics.kern.Goals as goal

module _ (m : MetricsValue) (height size : ℤ) where
  no_first : (kerns : List Kern) → ◌≡◌ {A = Option Kern} None (slice_get kerns 0) → pos 0 ≡ first_value m kerns height size
  no_first [] e = refl
  no_first (kern ∷ kerns) e = absurd (none-some kern e)

  the_first : (kerns : List Kern) (kern : Kern) → ◌≡◌ {A = Option Kern} (Some kern) (slice_get kerns 0)
      → kern_value m kern height size ≡ first_value m kerns height size
  the_first [] kern e = absurd (let none : ⊥ = cc in none)
  the_first (first ∷ kerns) kern e = ap (λ (k : Kern). kern_value m k height size) (same_Some kern first e)

pub returns-in-None-clause-value : goal.returns-in-None-clause-value
unfolding kern_of
returns-in-None-clause-value c =
    let m = c.args.self.now in
    no_first m c.args.height c.args.size c.kerns.result.now c.in-None.ensures.value
    ∙ ap (λ (kerns : List Kern). first_value m kerns c.args.height c.args.size) c.kerns.ensures.value

pub returns-in-Some-clause-value : goal.returns-in-Some-clause-value
unfolding kern_of
returns-in-Some-clause-value c =
    let m = c.args.self.now in
    let kern = c.in-Some.kern.now in
    let height = to_z-of_z c.ranges.height in
    let size = to_z-of_z c.ranges.size in
    back64 c.kern_value.ensures.within (lit< tt) ∙ c.kern_value.ensures.value ∙ (λ i. kern_value m kern (height i) (size i))
    ∙ the_first m c.args.height c.args.size c.kerns.result.now kern c.in-Some.ensures.value
    ∙ ap (λ (kerns : List Kern). first_value m kerns c.args.height c.args.size) c.kerns.ensures.value
