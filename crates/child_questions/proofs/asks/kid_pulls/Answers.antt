use Rattle.std.proofs.Common.{◌∙◌, sym, ap}
use Rattle.std.specs.declared.option.Option.{Option}
use Rattle.fixed_units.proofs.Sums.{list_to-zero, list_to-add_one}
use Rattle.op_dictionary.specs.declared.operator.Axis.{Axis}
use Rattle.embellished.specs.Seen.{seen_of}
use Rattle.layout_model.specs.Contexts.{kid_pull}
use Rattle.row_stretch.specs.declared.parts.KidPull.{KidPull}
use Rattle.child_questions.proofs.asks.kid_pulls.Goals as goal

abbrev pull_along : Option Axis → KidPull
pull_along axis = record { axis = axis }

pub loop-index-init : goal.loop-index-init
loop-index-init g c =
    (c.in_ok-pulls.ensures {u = tt}) ∙ sym (list_to-zero (kid_pull c.args.metrics.now (seen_of (g.V.View.element c.args.parent.now)) c.args.context.now.form))

pub loop-index-preserved : goal.loop-index-preserved
loop-index-preserved g c =
    let pull = kid_pull c.args.metrics.now (seen_of (g.V.View.element c.args.parent.now)) c.args.context.now.form in
    let pushed = (c.in_ok-push.ensures {u = tt}).ok in
    let made = ap pull_along c.kid_axis-axis.ensures in
    let before = c.loop-index.invariant in
    let more = list_to-add_one c.loop-index.index pull in
    cc
