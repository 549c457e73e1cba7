use Rattle.std.proofs.Common.{◌≡◌, ◌∙◌, ap, sym}
use Rattle.std.proofs.lemmas.Result.{on_ok_weaker}
use Rattle.font_metrics.specs.Whole.{Given}
use Rattle.metrics_file.specs.declared.said.Said.{Said}
use Rattle.metrics_file.specs.Reading.{put}
use Rattle.metrics_file.specs.Said.{item_of}
use Rattle.metrics_file.proofs.taking.put.Goals as goal

-- what is kept of what is said
kept : (given : Given) (said kind : Said) → said ≡ kind → put given (item_of kind) ≡ put given (item_of said)
kept given said kind is = ap (λ (s : Said). put given (item_of s)) (sym is)

pub returns-in-Upem : goal.returns-in-Upem
returns-in-Upem c = kept c.args.given.now c.args.said _ c.in-Upem.is

pub returns-in-Line : goal.returns-in-Line
returns-in-Line c = kept c.args.given.now c.args.said _ c.in-Line.is

pub returns-in-XHeight : goal.returns-in-XHeight
returns-in-XHeight c = kept c.args.given.now c.args.said _ c.in-XHeight.is

pub returns-in-Overlap : goal.returns-in-Overlap
returns-in-Overlap c = kept c.args.given.now c.args.said _ c.in-Overlap.is

pub returns-in-Glyph : goal.returns-in-Glyph
returns-in-Glyph c =
    on_ok_weaker c.add-in-Glyph.result
    (λ new. (λ i. record c.args.given.now { glyphs = new i }) ∙ kept c.args.given.now c.args.said _ c.in-Glyph.is) c.add-in-Glyph.ensures.ok

pub returns-in-Character : goal.returns-in-Character
returns-in-Character c =
    on_ok_weaker c.add-in-Character.result
    (λ new. (λ i. record c.args.given.now { characters = new i }) ∙ kept c.args.given.now c.args.said _ c.in-Character.is) c.add-in-Character.ensures.ok
