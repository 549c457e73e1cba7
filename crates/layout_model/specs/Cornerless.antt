-- Layout without kerns at corners, as it was before files had them.
use Rattle.std.specs.Prelude.{◌≡◌, pos, [], ◌∷◌, map}
use Rattle.font_metrics.specs.Metrics.{MetricsValue}
use Rattle.math_tree.specs.declared.kind.Kind.{Kind}
use Rattle.math_tree.specs.declared.kind.Kind.TheVariants.{Mover, Msub, Msubsup, Msup, Munder, Munderover}
use Rattle.math_tree.specs.declared.node.Node.{Node}
use Rattle.embellished.specs.Seen.{Seen, seen_of}
use Rattle.scripts.specs.Beside.{sub_of, sup_of, sub_sup_of}
use Rattle.scripts.specs.Kerns.{HasNoKerns, no_corners}
use Rattle.layout_model.specs.Elements.{Element, font, frame_at, outcome, placed_in}
use Rattle.layout_model.specs.Equations.{has_large_base, outcome_by, over_outcome, under_outcome, under_over_outcome, unless_moved}
use Rattle.layout_model.specs.Laws.{answer_of}
use Rattle.layout_model.specs.Layout.{last_answers, lay}
use Rattle.layout_model.specs.Questions.{first, second}
use Rattle.layout_model.specs.declared.context.Context.{Context}
use Rattle.layout_model.specs.declared.context.Question.{Question}
use Rattle.layout_model.specs.declared.outcome.Answer.{Answer}
use Rattle.layout_model.specs.declared.outcome.Outcome.{Outcome}

abbrev pub cornerless_sub : Element → Outcome
cornerless_sub e =
    let scripted = sub_of e.metrics (frame_at e 0) (has_large_base e) (frame_at e 1) no_corners
    (font e) in
    outcome e scripted.frame
    (placed_in e scripted.frame 0 (pos 0) (pos 0)
    ∷ placed_in e scripted.frame 1 scripted.sub.x scripted.sub.y ∷ []) []

abbrev pub cornerless_sup : Element → Outcome
cornerless_sup e =
    let scripted = sup_of e.metrics (frame_at e 0) (has_large_base e) e.context.style.cramped
    (frame_at e 1) no_corners (font e) in
    outcome e scripted.frame
    (placed_in e scripted.frame 0 (pos 0) (pos 0)
    ∷ placed_in e scripted.frame 1 scripted.sup.x scripted.sup.y ∷ []) []

abbrev pub cornerless_sub_sup : Element → Outcome
cornerless_sub_sup e =
    let scripted = sub_sup_of e.metrics (frame_at e 0) (has_large_base e) e.context.style.cramped
    (frame_at e 1) (frame_at e 2)
    no_corners (font e) in
    outcome e scripted.frame
    (placed_in e scripted.frame 0 (pos 0) (pos 0)
    ∷ placed_in e scripted.frame 1 scripted.sub.x scripted.sub.y
    ∷ placed_in e scripted.frame 2 scripted.sup.x scripted.sup.y ∷ []) []

-- all kinds but those of scripts are laid out as they are
unfoldable pub cornerless_by : Kind → Element → Outcome
cornerless_by Mover e = unless_moved e (over_outcome e) (cornerless_sup e)
cornerless_by Msub e = cornerless_sub e
cornerless_by Msubsup e = cornerless_sub_sup e
cornerless_by Msup e = cornerless_sup e
cornerless_by Munder e = unless_moved e (under_outcome e) (cornerless_sub e)
cornerless_by Munderover e = unless_moved e (under_over_outcome e) (cornerless_sub_sup e)
cornerless_by other e = outcome_by other e

-- an element without kerns at corners, where `ask` answers its questions
unfoldable pub cornerless : MetricsValue → Seen → Context → (Question → Answer) → Outcome
cornerless m seen context ask =
    let one = map ask (first m seen context) in
    cornerless_by seen.facts.laid record {
      metrics = m;
      seen = seen;
      context = context;
      kids = last_answers m seen context one (map ask (second m seen context one));
    }

-- where no glyph has a kern, each element of each tree is laid out without corners, over the
-- layouts of its children
abbrev pub CornerlessLaw : Type 0
CornerlessLaw = (m : MetricsValue) (node : Node) (context : Context) → HasNoKerns m →
    lay m node context ≡ cornerless m (seen_of node) context (answer_of m node)
