use Rattle.std.proofs.Common.{◌≡◌, rules, tests, false}
use Rattle.embed.specs.Calls.{seen}
use Rattle.embed.proofs.starting.read.Goals as goal

-- the handle kept nothing, and keeps the metrics of the bytes
pub returns-in-Ok : goal.returns-in-Ok
returns-in-Ok c =
    let shut : c.has_metrics.result ≡ false = search (rules, tests) in (
      search rules,
      c.has_metrics.ensures.none shut,
      c.in-Ok.metrics.value,
      c.in-Ok.ensures.read,
      λ i. seen (c.keep.ensures i) c.args.refusal.now c.args.refusal_len.now,
    )
