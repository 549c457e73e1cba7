use Rattle.std.proofs.Common.{◌≡◌, subst, Result, Ok, IfOk}
use Rattle.font_metrics.proofs.copy.Given+GlyphTable.copy.Goals as goal

-- what holds of a result, where it is known
known : {X E : Type 0} (P : X → Type 0) (r : Result X E) (x : X) → IfOk r P → r ≡ Ok x → P x
known P r x h is = subst (λ r. IfOk r P) is h

pub returns : goal.returns
returns c =
    let all = c.in_ok-constants.ensures {u = tt} in
    let first = known _ c.both.result _ c.both.ensures all.0 in
    let second = known _ c.both-3.result _ c.both-3.ensures all.1 in
    let third = known _ c.both-2.result _ c.both-2.ensures second.1 in
    let constants = known _ c.copy.result _ c.copy.ensures first.0 in
    let glyphs = known _ c.copy-2.result _ c.copy-2.ensures first.1 in
    let characters = known _ c.copy-3.result _ c.copy-3.ensures second.0 in
    let tables = known _ c.copy-4.result _ c.copy-4.ensures third.0 in
    let operators = known _ c.copied_lines.result _ c.copied_lines.ensures third.1 in
    λ i. record {
      version = c.args.self.now.version;
      upem = c.args.self.now.upem;
      line = c.args.self.now.line;
      x_height = c.args.self.now.x_height;
      overlap = c.args.self.now.overlap;
      constants = constants i;
      glyphs = glyphs i;
      characters = characters i;
      tables = tables i;
      operators = operators i;
    }
