use Rattle.std.proofs.Common.{◌≡◌, ◌∙◌, ◌<◌, ap, sym, codes, length, nat_eq, arith}
use Rattle.std.specs.Option.{unwrap_or}
use Rattle.font_metrics.specs.Metrics.{MetricsValue, place_of_letter, missing_place, place_of_code}
use Rattle.std.proofs.lemmas.List.Elements.{All-weaker}
use Rattle.font_metrics.specs.Taken.{IsCharacter}
use Rattle.font_metrics.proofs.Finish.{missing_is}
use Rattle.font_metrics.proofs.Places.{place_below, place_within}
use Rattle.font_metrics.proofs.metrics.Metrics.glyph_of.Goals as goal

pub returns-clause-value : goal.returns-clause-value
unfolding place_of_letter missing_place
returns-clause-value c =
    let g = c.self.inside.given in
    let n = c.self.inside.needs in
    c.unwrap_or.ensures ∙ ap (λ p. unwrap_or p n.missing) c.place.ensures
    ∙ ap (λ p. unwrap_or (place_of_code g.characters c.args.letter) (unwrap_or p 0)) (sym (missing_is g n c.self.invariant.needs))
    ∙ ap (λ (v : MetricsValue). place_of_letter v c.args.letter) c.self.view_is

pub returns-clause-within : goal.returns-clause-within
returns-clause-within c =
    let g = c.self.inside.given in
    let n = c.self.inside.needs in
    let other : n.missing < length g.glyphs =
    place_within g.glyphs (codes "missing") n.missing (missing_is g n c.self.invariant.needs) in
    let below : unwrap_or (place_of_code g.characters c.args.letter) n.missing < length g.glyphs =
    place_below (nat_eq c.args.letter) g.characters (length g.glyphs) n.missing
    (All-weaker (IsCharacter (length g.glyphs)) (λ c. c.1 < length g.glyphs) (λ c k. k.1) g.characters c.self.invariant.given.characters.ranges) other in
    let is : c.unwrap_or.result ≡ unwrap_or (place_of_code g.characters c.args.letter) n.missing =
    c.unwrap_or.ensures ∙ ap (λ p. unwrap_or p n.missing) c.place.ensures in
    let count : length g.glyphs ≡ length c.args.self.now.glyphs = ap (λ (v : MetricsValue). length v.glyphs) c.self.view_is in
    omega (arith, below, is, count)
