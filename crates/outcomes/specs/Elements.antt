-- What holds of an element whose outcome is made.
use Rattle.std.specs.Prelude.{◌≡◌, ◌^◌, ℕ, ◌<◌, ◌≤◌, ℤ, pos, ◌≤ℤ◌, true, List, length}
use Rattle.std.specs.List.{All, AllPass}
use Rattle.font_metrics.specs.Metrics.{MetricsValue}
use Rattle.math_tree.specs.declared.kind.Kind.TheVariants.{Mtable}
use Rattle.embellished.specs.Seen.{Seen}
use Rattle.style_scope.specs.Sizes.{size_of}
use Rattle.layout_model.specs.Elements.{Element, font}
use Rattle.layout_model.specs.Fits.{AreSpans, IsContext, cell_count}
use Rattle.layout_model.specs.Layout.{last_answers}
use Rattle.layout_model.specs.Contexts.{kid_style}
use Rattle.layout_model.specs.Range.{answer_fits, is_font_size}
use Rattle.layout_model.specs.declared.context.Context.{Context}
use Rattle.layout_model.specs.declared.outcome.Answer.{Answer}

-- an element over the answers that count of those to both waves
abbrev pub answered : MetricsValue → Seen → Context → List Answer → List Answer → Element
answered m seen context one two =
    record {
      metrics = m;
      seen = seen;
      context = context;
      kids = last_answers m seen context one two;
    }

-- its size is its font size, which is in range, so are those of its children in flow, and each of
-- these has an answer that can be stored; the rows of a table have no more cells together than a
-- tree has elements
pub record IsWhole (e : Element) (size : ℤ) : Type 0 where
  pub fits : IsContext e.context
  pub is_font : size ≡ font e
  pub low : pos 0 ≤ℤ size
  pub high : size ≤ℤ pos (2 ^ 20)
  pub fonts : (index : ℕ) → index < length e.seen.kids
      → is_font_size (size_of e.metrics (kid_style e.metrics e.seen e.context.style index)) ≡ true
  pub each : length e.kids ≡ length e.seen.kids
  pub few : length e.kids ≤ 65_535
  pub stored : AllPass answer_fits e.kids
  pub cells : All (λ answer. length answer.cells ≤ 65_536) e.kids
  pub spans : All AreSpans e.kids
  pub table : e.seen.facts.laid ≡ Mtable → cell_count e.kids ≤ 65_536
