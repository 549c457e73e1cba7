use Rattle.std.proofs.Common.{◌≡◌, rules, tests, false}
use Rattle.embed.specs.Calls.{seen}
use Rattle.embed.proofs.calls.opened.Goals as goal

-- the handle kept nothing, and keeps the session that the bytes give
pub returns-in-Ok : goal.returns-in-Ok
returns-in-Ok c =
    let shut : c.is_open.result ≡ false = search (rules, tests) in (
      search rules,
      c.is_open.ensures.none shut,
      c.in-Ok.desk.value,
      c.in-Ok.ensures.opened,
      λ i. seen (c.keep.ensures i) c.args.refusal.now c.args.refusal_len.now,
    )
