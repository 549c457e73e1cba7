use Rattle.std.proofs.Common.{◌∙◌, sym, ap, [], ◌∷◌, ◌++◌}
use Rattle.math_tree.specs.declared.node.Node.TheViews.{out-Node}
use Rattle.embellished.specs.Facts.{facts_over}
use Rattle.embellished.specs.declared.facts.Facts.{Facts}
use Rattle.embellished.proofs.Nodes.{facts_out}
use Rattle.kept_edits.specs.Changed.{seen_anew}
use Rattle.kept_edits.proofs.known.add_own.Goals as goal

pub returns : goal.returns
returns c =
    (c.in_ok-push.ensures {u = tt}).ok
    ∙ ap (λ (own : Facts). c.args.known ++ seen_anew own ∷ [])
    ((c.in_ok-facts.ensures {u = tt}) ∙ ap (facts_over (out-Node c.args.node.now).head) c.requires ∙ sym (facts_out c.args.node.now))
