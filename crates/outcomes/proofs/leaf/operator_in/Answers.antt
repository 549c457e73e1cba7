use Rattle.std.proofs.Common.{◌≡◌, ◌∙◌, ap, subst, sym, w64, to_z, of_z}
use Rattle.std.specs.Prelude.{IfOk}
use Rattle.embellished.specs.Seen.{Seen}
use Rattle.token_boxes.specs.Operator.{IsPull, operator_of}
use Rattle.token_boxes.specs.Token.{IsLeaf}
use Rattle.token_boxes.specs.declared.leaf.Leaf.{Leaf}
use Rattle.layout_model.specs.Contexts.{pull_of}
use Rattle.layout_model.specs.Elements.{font}
use Rattle.layout_model.specs.declared.context.Context.{Context}
use Rattle.outcomes.proofs.FontSizes.{size_back}
use Rattle.outcomes.proofs.Leaves.{pull_stored}
use Rattle.outcomes.proofs.leaf.operator_in.Goals as goal

pub operator-requires-clause-pull : goal.operator-requires-clause-pull
operator-requires-clause-pull g c =
    let e = c.args.e.now in
    let pull : c.pull.result ≡ pull_of e.context.stretch =
    c.pull.ensures ∙ ap (λ (context : Context). pull_of context.stretch) c.context-context.ensures.value in
    subst IsPull (sym pull) (pull_stored e.context.stretch c.context-context.ensures.fits.stretch)

pub returns : goal.returns
returns g c =
    let e = c.args.e.now in
    let size : to_z w64 (of_z w64 c.size.result) ≡ font e =
    size_back c.size.result c.size.ensures.low c.size.ensures.high ∙ c.size.ensures.value in
    let metrics = c.metrics.ensures in
    let context = c.context-context.ensures.value in
    let head : c.head.result.now ≡ e.seen.head = c.head.ensures ∙ ap (λ (s : Seen). s.head) c.view.ensures in
    let pull : c.pull.result ≡ pull_of e.context.stretch =
    c.pull.ensures ∙ ap (λ (context : Context). pull_of context.stretch) c.context-context.ensures.value in
    let same : operator_of c.metrics.result.now c.head.result.now c.args.core.now c.context-context.result.now.style
    (to_z w64 (of_z w64 c.size.result)) c.context-context.result.now.form c.pull.result
    ≡ operator_of e.metrics e.seen.head c.args.core.now e.context.style (font e) e.context.form (pull_of e.context.stretch) = cc in
    subst (λ (leaf : Leaf). IfOk c.operator.result (IsLeaf leaf)) same c.operator.ensures
