use Rattle.std.proofs.Common.{◌≡◌, ◌∙◌, ◌||◌, Bool, true, false, nat_eq, refl, ap}
use Rattle.font_metrics.specs.Names.{is_name_mark}
use Rattle.metrics_file.proofs.words.is_name_byte.Goals as goal

-- one of four, whichever are asked first
four : (a b c d : Bool) → ((a || b) || c) || d ≡ a || ((b || c) || d)
four true b c d = refl
four false b c d = refl

pub returns : goal.returns
returns c =
    let byte = c.args.byte in
    four c.is_ascii_alphanumeric.result (nat_eq byte 95) (nat_eq byte 46) (nat_eq byte 45)
    ∙ ap (λ plain. plain || is_name_mark byte) c.is_ascii_alphanumeric.ensures.value
