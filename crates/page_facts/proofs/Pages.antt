-- The laws of a page: what stands on it is in reach and can be painted, and its boxes come in order.
use Rattle.std.proofs.Common.{◌≡◌, ◌∙◌, sym, ap, subst, ℕ, ◌+◌, ◌-◌, ◌*◌, ◌^◌, ◌≤◌, arith, lit≤, Bool, true, false, ◌&&◌, List, [], ◌∷◌, ◌++◌, map, All, ℤ, pos, negsuc, ◌+ℤ◌}
use Rattle.std.specs.Prelude.{◌≤ℤ◌, if◌then◌else◌, int_le, nat_le, unsigned_abs}
use Rattle.std.proofs.lemmas.Bool.{and_parts, leb-true}
use Rattle.std.proofs.lemmas.List.Elements.{All-append, All-cons, All-nil, All-weaker}
use Rattle.std.specs.List.{AllByRecursion, list_all}
use Rattle.fixed_units.specs.Boxes.{IsStored}
use Rattle.fixed_units.specs.Numbers.{IsWithin}
use Rattle.fixed_units.proofs.Signed.{signed}
use Rattle.fixed_units.proofs.Within.{natural_in, widened}
use Rattle.font_metrics.specs.Metrics.{MetricsValue}
use Rattle.font_metrics.specs.declared.mark.Mark.{Mark}
use Rattle.font_metrics.specs.declared.mark.Mark.TheVariants.{Glyph, Rule, Built}
use Rattle.math_tree.specs.Trees.{TreeValue}
use Rattle.math_tree.specs.declared.node.Node.TheViews.{out-Node}
use Rattle.layout_model.proofs.LaidTrees.{drawn_law, levels_law, outcomes_out, stored_law}
use Rattle.layout_model.specs.Laid.{all_outcomes, levels}
use Rattle.layout_model.specs.Layout.{laid_tree, lay_tree, root_context}
use Rattle.layout_model.specs.Range.{is_font_size}
use Rattle.layout_model.specs.declared.laid.Laid.{Laid}
use Rattle.layout_model.specs.declared.laid.Laid.TheViews.{out-Laid}
use Rattle.layout_model.specs.declared.outcome.Offset.{Offset}
use Rattle.box_writer.specs.Items.{IsOfFont, box_of, moved}
use Rattle.box_writer.specs.declared.placed.PlacedItem.{PlacedItem}
use Rattle.box_writer.specs.declared.placed.PlacedItem.TheVariants.{Frame, Drawn}
use Rattle.placement.proofs.Glyphs.{by_kids, glyph_law}
use Rattle.placement.proofs.Showing.{from_layer, placed_out}
use Rattle.placement.specs.Placing.{is_silent, kids_at, marks_at, placed}
use Rattle.paint_list.specs.Paints.{IsPaintable}
use Rattle.hit_test.specs.Selecting.{IsInReach}
use Rattle.math_tree.specs.Forms.{most_levels as most_tree_levels}
use Rattle.page_facts.specs.Facts.{HasPage, OrderLaw, PaintLaw, ReachLaw, RootLaw, page_of}
use Rattle.page_facts.proofs.Assemblies.{draws_small, is_small, small_law}
use Rattle.page_facts.proofs.Order.{page_in_order}
use Rattle.page_facts.proofs.Places.{IsNear, fitting, placed_near, room}
use Rattle.page_facts.proofs.Sized.{ranged}

-- ---- small assemblies, where they stand

abbrev IsSmallItem : PlacedItem → Type 0
IsSmallItem (Frame box) = Unit {0}
IsSmallItem (Drawn mark) = is_small mark ≡ true

mark_small : (x y : ℤ) (mark : Mark) → is_small mark ≡ true → IsSmallItem (Drawn (moved x y mark))
mark_small x y (Glyph a b size glyph) e = e
mark_small x y (Rule a b width height) e = e
mark_small x y (Built a b size axis glyph count overlap) e = e

marks_small : (x y : ℤ) (marks : List Mark) → list_all is_small marks ≡ true → All IsSmallItem (marks_at x y marks)
marks_small x y [] e = All-nil IsSmallItem
marks_small x y (mark ∷ marks) e =
    let parts = and_parts (is_small mark) (list_all is_small marks) e in
    All-cons IsSmallItem (Drawn (moved x y mark)) (marks_at x y marks) (mark_small x y mark parts.0) (marks_small x y marks parts.1)

abbrev IsPlacedSmall : Laid → Type 0
IsPlacedSmall l = (x y : ℤ) → all_outcomes draws_small l ≡ true → All IsSmallItem (placed l x y)

kids_small : (x y : ℤ) (offsets : List Offset) (kids : List Laid) → AllByRecursion IsPlacedSmall kids
    → list_all (λ kid. kid) (map (all_outcomes draws_small) kids) ≡ true → All IsSmallItem (kids_at x y offsets (map placed kids))
kids_small x y [] [] h e = All-nil IsSmallItem
kids_small x y [] (kid ∷ kids) h e = All-nil IsSmallItem
kids_small x y (offset ∷ offsets) [] h e = All-nil IsSmallItem
kids_small x y (offset ∷ offsets) (kid ∷ kids) h e =
    let parts = and_parts (all_outcomes draws_small kid) (list_all (λ k. k) (map (all_outcomes draws_small) kids)) e in
    All-append IsSmallItem (placed kid (x +ℤ offset.x) (y +ℤ offset.y)) (kids_at x y offsets (map placed kids))
    (h.0 (x +ℤ offset.x) (y +ℤ offset.y) parts.0) (kids_small x y offsets kids h.1 parts.1)

layer_small : (l : Laid) → AllByRecursion IsPlacedSmall (out-Laid l).kids → (x y : ℤ) → all_outcomes draws_small l ≡ true → All IsSmallItem (from_layer l x y)
unfolding draws_small
layer_small l below x y e = by (is_silent (out-Laid l).head.kind)
  where
    parts : (draws_small (out-Laid l).outcome ≡ true) × (list_all (λ kid. kid) (map (all_outcomes draws_small) (out-Laid l).kids) ≡ true)
    parts = and_parts (draws_small (out-Laid l).outcome) (list_all (λ kid. kid) (map (all_outcomes draws_small) (out-Laid l).kids)) (sym (outcomes_out draws_small l) ∙ e)

    by : (silent : Bool) → All IsSmallItem (if silent then [] else box_of (out-Laid l).head x y (out-Laid l).outcome.answer.frame ∷ marks_at x y (out-Laid l).outcome.marks ++ kids_at x y (out-Laid l).outcome.offsets (map placed (out-Laid l).kids))
    by true = All-nil IsSmallItem
    by false =
        All-cons IsSmallItem (box_of (out-Laid l).head x y (out-Laid l).outcome.answer.frame) (marks_at x y (out-Laid l).outcome.marks ++ kids_at x y (out-Laid l).outcome.offsets (map placed (out-Laid l).kids)) tt
        (All-append IsSmallItem (marks_at x y (out-Laid l).outcome.marks) (kids_at x y (out-Laid l).outcome.offsets (map placed (out-Laid l).kids))
        (marks_small x y (out-Laid l).outcome.marks parts.0) (kids_small x y (out-Laid l).outcome.offsets (out-Laid l).kids below parts.1))

placed_small : (l : Laid) → IsPlacedSmall l
placed_small = by_kids IsPlacedSmall (λ l below x y e. subst (All IsSmallItem) (sym (placed_out l x y)) (layer_small l below x y e))

-- ---- a page

module _ (m : MetricsValue) (tree : TreeValue) (page : HasPage m tree) where
  few : levels (laid_tree m tree) ≤ most_tree_levels
  few = levels_law m tree.root (root_context m (out-Node tree.root).head) most_tree_levels page.whole.shallow

  at_root : IsWithin (room (levels (laid_tree m tree))) (pos 0)
  at_root = widened (room (levels (laid_tree m tree))) (natural_in 0) (omega arith)

  all_near : All IsNear (page_of m tree)
  all_near =
      placed_near (laid_tree m tree) (pos 0) (pos 0) (let l = few in omega (arith, l)) at_root at_root
      (stored_law m tree.root (root_context m (out-Node tree.root).head) page.fit)

  all_small : All IsSmallItem (page_of m tree)
  all_small = placed_small (laid_tree m tree) (pos 0) (pos 0) (small_law m tree.root (root_context m (out-Node tree.root).head) page.taken page.fit)

  all_known : All (IsOfFont m) (page_of m tree)
  all_known = glyph_law m (laid_tree m tree) (pos 0) (pos 0) (drawn_law m tree.root (root_context m (out-Node tree.root).head) page.taken page.fit)

  near_in_reach : (item : PlacedItem) → IsNear item → IsInReach item
  near_in_reach (Frame box) h = (h.0, h.1.1)
  near_in_reach (Drawn mark) h = tt

  pub page_in_reach : All IsInReach (page_of m tree)
  page_in_reach = All-weaker IsNear IsInReach near_in_reach (page_of m tree) all_near

  within_magnitude : (n : ℕ) (z : ℤ) → unsigned_abs z ≤ n → IsWithin n z
  within_magnitude n (pos k) h = record { low = omega (arith, signed); high = omega (arith, signed, h) }
  within_magnitude n (negsuc k) h = record { low = omega (arith, signed, h); high = omega (arith, signed) }

  can_be_painted : (item : PlacedItem) → IsNear item → IsSmallItem item → IsOfFont m item → IsPaintable m item
  can_be_painted (Frame box) near small known = tt
  can_be_painted (Drawn (Glyph x y size glyph)) near small known = known
  can_be_painted (Drawn (Rule x y width height)) near small known = tt
  can_be_painted (Drawn (Built x y size axis glyph count overlap)) near small known =
      let parts = and_parts (is_font_size size) (nat_le (unsigned_abs overlap) (2 ^ 32)) small in
      let sizes = and_parts (int_le (pos 0) size) (int_le size (pos (2 ^ 20))) parts.0 in
      record {
        known = known;
        size_low = omega (arith, signed, sizes.0);
        size_high = omega (arith, signed, sizes.1);
        right = near.0;
        down = near.1;
        overlap = widened (2 ^ 33) (within_magnitude (2 ^ 32) overlap (leb-true (unsigned_abs overlap) (2 ^ 32) parts.1)) (lit≤ tt);
      }

  pub page_paintable : All (IsPaintable m) (page_of m tree)
  page_paintable = λ k d l. can_be_painted _ (all_near k d l) (all_small k d l) (all_known k d l)

  pub root_stored : IsStored (lay_tree m tree).answer.frame
  root_stored = (fitting (lay_tree m tree) (ranged m tree.root (root_context m (out-Node tree.root).head) page.fit).own).frame

pub reach_law : ReachLaw
reach_law m tree page = page_in_reach m tree page

pub paint_law : PaintLaw
paint_law m tree page = page_paintable m tree page

pub order_law : OrderLaw
order_law m tree page = page_in_order m tree page.whole

pub root_law : RootLaw
root_law m tree page = root_stored m tree page
