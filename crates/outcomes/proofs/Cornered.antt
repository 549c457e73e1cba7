-- Scripts over corners that count as others stand where those would have them.
use Rattle.std.proofs.Common.{◌≡◌, ◌∙◌, inl, inr, ap, sym, ℕ, ◌≤◌, length, Bool, Option, Some, None, IfSome, ℤ}
use Rattle.std.proofs.lemmas.Option.{slice_get_past}
use Rattle.std.specs.Option.{option_and_then, option_map}
use Rattle.fixed_units.specs.declared.boxes.MathBox.{MathBox}
use Rattle.font_metrics.specs.Metrics.{MetricsValue}
use Rattle.font_metrics.specs.declared.corner.Corner.{Corner}
use Rattle.font_metrics.specs.declared.glyph.GlyphId.{GlyphId}
use Rattle.math_tree.specs.declared.node.Head.{Head}
use Rattle.embellished.specs.Seen.{HasKid, Kid}
use Rattle.scripts.specs.Beside.{sub_of, sup_of, sub_sup_of}
use Rattle.scripts.specs.Kerns.{IsInked}
use Rattle.scripts.specs.declared.parts.Inked.{Inked}
use Rattle.scripts.specs.declared.parts.KernFrom.{KernFrom}
use Rattle.scripts.proofs.KernLaws.{sub-same, sup-same, sub_sup-same}
use Rattle.style_scope.specs.Sizes.{size_of}
use Rattle.token_boxes.specs.Token.{token_glyph_of}
use Rattle.layout_model.specs.Contexts.{kid_style}
use Rattle.layout_model.specs.Direction.{turned_corner}
use Rattle.layout_model.specs.Elements.{Element}
use Rattle.layout_model.specs.Equations.{corner_at}
use Rattle.layout_model.specs.declared.context.Context.{Context}
use Rattle.outcomes.specs.Corners.{CountAs, IsAlone, cornered}
use Rattle.outcomes.specs.declared.corners.Alone.{Alone}

pub sub_counts : (m : MetricsValue) (base : MathBox) (large : Bool) (script : MathBox) (from exact : KernFrom) (size : ℤ)
    → CountAs m from exact → sub_of m base large script from size ≡ sub_of m base large script exact size
sub_counts m base large script from exact size (inl e) = ap (λ (f : KernFrom). sub_of m base large script f size) e
sub_counts m base large script from exact size (inr h) =
    sub-same m base large script from size h ∙ sym (sub-same m base large script exact size h)

pub sup_counts : (m : MetricsValue) (base : MathBox) (large cramped : Bool) (script : MathBox) (from exact : KernFrom) (size : ℤ)
    → CountAs m from exact → sup_of m base large cramped script from size ≡ sup_of m base large cramped script exact size
sup_counts m base large cramped script from exact size (inl e) = ap (λ (f : KernFrom). sup_of m base large cramped script f size) e
sup_counts m base large cramped script from exact size (inr h) =
    sup-same m base large cramped script from size h ∙ sym (sup-same m base large cramped script exact size h)

pub sub_sup_counts : (m : MetricsValue) (base : MathBox) (large cramped : Bool) (sub sup : MathBox) (from exact : KernFrom) (size : ℤ)
    → CountAs m from exact → sub_sup_of m base large cramped sub sup from size ≡ sub_sup_of m base large cramped sub sup exact size
sub_sup_counts m base large cramped sub sup from exact size (inl e) =
    ap (λ (f : KernFrom). sub_sup_of m base large cramped sub sup f size) e
sub_sup_counts m base large cramped sub sup from exact size (inr h) =
    sub_sup-same m base large cramped sub sup from size h ∙ sym (sub_sup-same m base large cramped sub sup exact size h)

-- ---- the corners of a glyph alone

pub inked : (count : ℕ) (corner : Corner) (alone : Option Alone) → IfSome alone (IsAlone count) → IfSome (cornered corner alone) (IsInked count)
inked count corner None h = tt
inked count corner (Some a) h = record { glyph = h.glyph; low = h.low; high = h.high }

module _ (e : Element) (corner : Corner) (index : ℕ) where
  abbrev at_own_size : GlyphId → Inked
  at_own_size glyph =
      record { glyph = glyph; corner = turned_corner e.context.style.rtl corner; size = size_of e.metrics (kid_style e.metrics e.seen e.context.style index) }

  -- past the last child there is no corner
  pub none_there : length e.seen.kids ≤ index → corner_at e corner index ≡ None
  unfolding corner_at
  none_there past =
      ap (λ (found : Option Kid). option_map at_own_size (option_and_then (λ (kid : Kid). token_glyph_of e.metrics kid.head) found))
      (slice_get_past e.seen.kids index past)

  -- that of a child, by its head
  pub corner_there : (head : Head) (glyph : Option GlyphId) → HasKid e.seen index (λ kid. kid.head ≡ head)
      → glyph ≡ token_glyph_of e.metrics head → corner_at e corner index ≡ option_map at_own_size glyph
  unfolding corner_at
  corner_there head glyph kid is =
      ap (λ (found : Option Kid). option_map at_own_size (option_and_then (λ (k : Kid). token_glyph_of e.metrics k.head) found)) kid.at
      ∙ ap (λ (h : Head). option_map at_own_size (token_glyph_of e.metrics h)) kid.holds
      ∙ ap (option_map at_own_size) (sym is)

-- the corner of a direction that is read off a context
pub turned_is : (context own : Context) (alone : Option Alone) (corner : Corner) → context ≡ own
    → cornered (turned_corner context.style.rtl corner) alone ≡ cornered (turned_corner own.style.rtl corner) alone
turned_is context own alone corner e = ap (λ (x : Context). cornered (turned_corner x.style.rtl corner) alone) e
