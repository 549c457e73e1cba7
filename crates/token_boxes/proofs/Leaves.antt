-- Leaves that are those of a definition, or too wide to be stored.
use Rattle.std.proofs.Common.{◌≡◌, ◌∙◌, ap, inl, inr, arith, ℕ, ℤ, ◌<ℤ◌}
use Rattle.fixed_units.specs.Boxes.{IsStored, farthest}
use Rattle.fixed_units.specs.Numbers.{IsWithin}
use Rattle.fixed_units.proofs.Signed.{signed}
use Rattle.font_metrics.specs.declared.glyph.GlyphId.{GlyphId}
use Rattle.token_boxes.specs.declared.leaf.Drawn.{Drawn}
use Rattle.token_boxes.specs.declared.leaf.Leaf.{Leaf}
use Rattle.token_boxes.specs.Token.{leaf_of, far, IsLeaf}

-- a glyph is its number
pub glyph_is : (glyph : GlyphId) (place : ℕ) → glyph.0 ≡ place → glyph ≡ record { 0 = place }
glyph_is glyph place same = λ k. record { 0 = same k }

-- what is drawn as it is to be is exact
pub exact : (drawn expected : Drawn) (made : Leaf) → drawn ≡ expected → made ≡ leaf_of drawn → IsLeaf (leaf_of expected) made
exact drawn expected made same is = inl (is ∙ ap leaf_of same)

-- with its spaces
pub with_spaces : (expected made : Leaf) (before after : ℤ) → IsLeaf expected made
    → IsLeaf (record expected { before = before; after = after }) (record made { before = before; after = after })
with_spaces expected made before after (inl same) = inl (λ k. record (same k) { before = before; after = after })
with_spaces expected made before after (inr wide) = inr wide

-- what is far too wide can't be stored
too_wide : (z : ℤ) → far <ℤ z → IsWithin farthest z → ⊥
too_wide z h p = let high = p.high in omega (arith, signed, h, high)

pub stored_as_made : (exact leaf : Leaf) → IsLeaf exact leaf → IsStored leaf.frame → leaf ≡ exact
stored_as_made exact leaf (inl same) p = same
stored_as_made exact leaf (inr wide) p = absurd (too_wide leaf.frame.width wide.1 p.width)

pub stored_as_defined : (exact leaf : Leaf) → IsLeaf exact leaf → IsStored exact.frame → leaf ≡ exact
stored_as_defined exact leaf (inl same) p = same
stored_as_defined exact leaf (inr wide) p = absurd (too_wide exact.frame.width wide.0 p.width)
