use Rattle.std.proofs.Common.{◌≡◌, ℕ, List, Bor, map, ap}
use Rattle.font_metrics.specs.Constants.{constant_texts}
use Rattle.metrics_file.proofs.ConstantTexts.{text_at-place}
use Rattle.metrics_file.proofs.constant_texts.text_of_place.Goals as goal

pub returns : goal.returns
returns c =
    let texts : map (λ (text : Bor (List ℕ)). text.now) c.as_slice-texts.result.now ≡ constant_texts =
    ap (map (λ (text : Bor (List ℕ)). text.now)) c.as_slice-texts.ensures in
    text_at-place c.as_slice-texts.result.now constant_texts c.from.result c.args.place _ c.from.ensures c.requires texts
