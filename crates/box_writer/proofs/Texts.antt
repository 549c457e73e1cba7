-- The text of a list of items, item by item.
use Rattle.std.proofs.Common.{◌≡◌, ◌≢◌, ◌∙◌, sym, ap, ℕ, ◌+◌, ◌<◌, List, [], ◌∷◌, ◌++◌, length, take, drop, get_or, refl, append-nil}
use Rattle.std.proofs.lemmas.List.{take_more, take-append-drop}
use Rattle.std.proofs.lemmas.List.Concat.{flat_map-append}
use Rattle.font_metrics.specs.Metrics.{MetricsValue}
use Rattle.font_metrics.specs.declared.mark.Mark.TheVariants.{Glyph, Rule, Built}
use Rattle.box_writer.specs.Lines.{box_line, glyph_line, rule_line, built_line, item_line, text_of}
use Rattle.box_writer.specs.declared.placed.PlacedItem.{PlacedItem}
use Rattle.box_writer.specs.declared.placed.PlacedItem.TheVariants.{Frame, Drawn}

-- one item more
pub text_of_more : (metrics : MetricsValue) (items : List PlacedItem) (i : ℕ) (item : PlacedItem) → i < length items
    → item ≡ get_or items i item
    → text_of metrics (take i items) ++ item_line metrics item ≡ text_of metrics (take (i + 1) items)
text_of_more metrics items i item within is =
    ap (λ x. text_of metrics (take i items) ++ item_line metrics x) is
    ∙ ap (λ l. text_of metrics (take i items) ++ l) (sym (append-nil (item_line metrics (get_or items i item))))
    ∙ sym (flat_map-append (item_line metrics) (take i items) (get_or items i item ∷ []))
    ∙ ap (text_of metrics) (sym (take_more items i item within))

-- the items up to a place, and those behind it
pub text_of_split : (metrics : MetricsValue) (items : List PlacedItem) (i : ℕ)
    → text_of metrics (take i items) ++ text_of metrics (drop i items) ≡ text_of metrics items
text_of_split metrics items i =
    sym (flat_map-append (item_line metrics) (take i items) (drop i items)) ∙ ap (text_of metrics) (take-append-drop i items)

-- a line isn't empty
line_some : (metrics : MetricsValue) (item : PlacedItem) (rest : List ℕ) → item_line metrics item ++ rest ≢ []
unfolding box_line glyph_line rule_line built_line
line_some metrics (Frame box) rest none = cc
line_some metrics (Drawn (Glyph x y size glyph)) rest none = cc
line_some metrics (Drawn (Rule x y width height)) rest none = cc
line_some metrics (Drawn (Built x y size axis glyph count overlap)) rest none = cc

-- so an empty text is that of no items
pub no_items : (metrics : MetricsValue) (items : List PlacedItem) → text_of metrics items ≡ [] → items ≡ []
no_items metrics [] none = refl
no_items metrics (item ∷ items) none = absurd (line_some metrics item (text_of metrics items) none)
