use Rattle.std.proofs.Common.{◌∙◌, ap, sym, arith}
use Rattle.glyph_assembly.specs.Chains.{followed}
use Rattle.glyph_assembly.proofs.Rows.{repeated_often}
use Rattle.glyph_assembly.proofs.joints.Chain.repeated.Goals as goal

pub returns : goal.returns
returns c =
    c.followed.ensures ∙ ap (λ once. followed once c.args.start c.args.end) c.followed-once.ensures
    ∙ sym (repeated_often c.args.repeats c.args.self c.args.start c.args.end (omega arith))
