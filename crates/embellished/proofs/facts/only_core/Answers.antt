use Rattle.std.proofs.Common.{◌≡◌, ◌∙◌, take, refl, sym, ap, false, None, arith, rules}
use Rattle.std.proofs.lemmas.List.{take_all}
use Rattle.math_tree.specs.declared.kind.Kind.TheVariants.{Annotation}
use Rattle.embellished.specs.declared.facts.Facts.{Facts}
use Rattle.embellished.specs.Facts.{but_space_like, only_core}
use Rattle.embellished.proofs.OnlyCore.{last_is_only, none_is_only, with_other, without_other}
use Rattle.embellished.proofs.facts.only_core.Goals as goal
use Rattle.embellished.proofs.facts.only_core.Goals.{then-not-kid, else-not-kid}

pub loop-kid-init : goal.loop-kid-init
loop-kid-init c = (refl, omega arith, refl)

pub loop-kid-preserved : goal.loop-kid-preserved
loop-kid-preserved c =
    let flow = c.args.flow.now in
    let i = c.loop-kid.kid-index in
    let before = c.loop-kid.invariant in
    let none : Facts = record { space_like = false; core = None; laid = Annotation } in
    elim c.if-not-kid.branch [
      | then-not-kid w ↦
          let found = with_other flow i none c.loop-kid-test.true c.loop-kid.others c.loop-kid.core before.0 before.2 (search rules) in
          (w.others-is ∙ found.0, omega (arith, w.others-is, before.1), w.core-is ∙ found.1)
      | else-not-kid w ↦
          let found = without_other flow i none c.loop-kid-test.true c.loop-kid.others c.loop-kid.core before.0 before.2 (search rules) in
          (w.others-is ∙ found.0, omega (arith, w.others-is, before.1), w.core-is ∙ found.1)
    ]

pub returns-then-others-eq1 : goal.returns-then-others-eq1
returns-then-others-eq1 c =
    let flow = c.args.flow.now in
    let whole : take c.loop-kid.kid-index flow ≡ flow = take_all c.loop-kid.kid-index flow (omega (arith, c.loop-kid-test.false)) in
    let before = c.loop-kid.invariant in
    before.2 ∙ last_is_only (but_space_like (take c.loop-kid.kid-index flow)) (sym before.0 ∙ c.if-others-eq1.true) ∙ ap (λ list. only_core (but_space_like list)) whole

pub returns-else-others-eq1 : goal.returns-else-others-eq1
returns-else-others-eq1 c =
    let flow = c.args.flow.now in
    let whole : take c.loop-kid.kid-index flow ≡ flow = take_all c.loop-kid.kid-index flow (omega (arith, c.loop-kid-test.false)) in
    let before = c.loop-kid.invariant in
    none_is_only (but_space_like (take c.loop-kid.kid-index flow)) (λ one. c.if-others-eq1.false (before.0 ∙ one)) ∙ ap (λ list. only_core (but_space_like list)) whole
