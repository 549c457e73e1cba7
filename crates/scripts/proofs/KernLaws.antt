-- Where no glyph has a kern, no corner counts.
use Rattle.std.proofs.Common.{◌≡◌, ◌∙◌, refl, ap, sym, arith, ℕ, Bool, ℤ, pos, ◌+ℤ◌, ◌-ℤ◌, Option, Some, None}
use Rattle.std.specs.Int.{int_max}
use Rattle.fixed_units.specs.Boxes.{joined, raised}
use Rattle.fixed_units.specs.declared.boxes.MathBox.{MathBox}
use Rattle.fixed_units.proofs.Signed.{signed}
use Rattle.font_metrics.specs.Metrics.{MetricsValue, first_value, items_of, kern_of, kerns_at, kerns_of}
use Rattle.font_metrics.specs.Tables.{no_kerns}
use Rattle.font_metrics.specs.declared.corner.Corner.{Corner}
use Rattle.font_metrics.specs.declared.corner.Corner.TheVariants.{TopRight, TopLeft, BottomRight, BottomLeft}
use Rattle.font_metrics.specs.declared.kern_tables.KernTables.{KernTables}
use Rattle.scripts.specs.Beside.{spot, below, sub_x_of, sup_x_of, ending_at_of, sub_of, sup_of, sub_sup_of}
use Rattle.scripts.specs.Kerns.{HasNoKerns, corner_kern, no_corners, sub_kern_of, sup_kern_of}
use Rattle.scripts.specs.Lengths.{sub_lengths_of, sup_lengths_of}
use Rattle.scripts.specs.Shifts.{sub_shift_of, sup_shift_of, pair_shifts_of}
use Rattle.scripts.specs.declared.parts.Inked.{Inked}
use Rattle.scripts.specs.declared.parts.KernFrom.{KernFrom}
use Rattle.scripts.specs.declared.parts.Scripted.{Scripted}

module _ (m : MetricsValue) (h : HasNoKerns m) where
  -- each kern is 0
  no-kern : (place : ℕ) (corner : Corner) (height size : ℤ) → kern_of m place corner height size ≡ pos 0
  unfolding kern_of kerns_of
  no-kern place corner height size =
      ap (λ (kerns : KernTables). first_value m (items_of (kerns_at corner kerns) place) height size) h ∙ by corner
    where
      by : (corner : Corner) → first_value m (items_of (kerns_at corner no_kerns) place) height size ≡ pos 0
      by TopRight = refl
      by TopLeft = refl
      by BottomRight = refl
      by BottomLeft = refl

  no-corner : (inked : Option Inked) (height : ℤ) → corner_kern m inked height ≡ pos 0
  no-corner None height = refl
  no-corner (Some inked) height = no-kern inked.glyph.0 inked.corner height inked.size

  pub no-sub_kern : (from : KernFrom) (base sub : MathBox) (down : ℤ) → sub_kern_of m from base sub down ≡ pos 0
  unfolding sub_kern_of
  no-sub_kern from base sub down = λ i.
      int_max
      (no-corner from.base_sub (sub.ink_ascent -ℤ down) i +ℤ no-corner from.sub (sub.ink_ascent -ℤ down -ℤ (pos 0 -ℤ down)) i)
      (no-corner from.base_sub (pos 0 -ℤ base.ink_descent) i +ℤ no-corner from.sub (pos 0 -ℤ base.ink_descent -ℤ (pos 0 -ℤ down)) i)

  pub no-sup_kern : (from : KernFrom) (base sup : MathBox) (up : ℤ) → sup_kern_of m from base sup up ≡ pos 0
  unfolding sup_kern_of
  no-sup_kern from base sup up = λ i.
      int_max
      (no-corner from.base_sup (up -ℤ sup.ink_descent) i +ℤ no-corner from.sup (up -ℤ sup.ink_descent -ℤ up) i)
      (no-corner from.base_sup base.ink_ascent i +ℤ no-corner from.sup (base.ink_ascent -ℤ up) i)

  same-sub : (from : KernFrom) (base sub : MathBox) (down : ℤ)
      → sub_kern_of m from base sub down ≡ sub_kern_of m no_corners base sub down
  same-sub from base sub down = no-sub_kern from base sub down ∙ sym (no-sub_kern no_corners base sub down)

  same-sup : (from : KernFrom) (base sup : MathBox) (up : ℤ)
      → sup_kern_of m from base sup up ≡ sup_kern_of m no_corners base sup up
  same-sup from base sup up = no-sup_kern from base sup up ∙ sym (no-sup_kern no_corners base sup up)

-- ---- one script and two

pub sub-same : (m : MetricsValue) (base : MathBox) (large : Bool) (script : MathBox) (from : KernFrom) (size : ℤ)
    → HasNoKerns m → sub_of m base large script from size ≡ sub_of m base large script no_corners size
unfolding sub_of
sub-same m base large script from size h =
    let down = sub_shift_of (sub_lengths_of m size) base script in
    let placed : ℤ → Scripted = λ kern. record {
      frame = ending_at_of m (joined base (below script down)) (sub_x_of base large +ℤ kern +ℤ script.width) size;
      sub = spot (sub_x_of base large +ℤ kern) down;
      sup = spot (pos 0) (pos 0);
    } in
    ap placed (same-sub m h from base script down)

pub sup-same : (m : MetricsValue) (base : MathBox) (large cramped : Bool) (script : MathBox) (from : KernFrom) (size : ℤ)
    → HasNoKerns m → sup_of m base large cramped script from size ≡ sup_of m base large cramped script no_corners size
unfolding sup_of
sup-same m base large cramped script from size h =
    let up = sup_shift_of (sup_lengths_of m size cramped) base script in
    let placed : ℤ → Scripted = λ kern. record {
      frame = ending_at_of m (joined base (raised script up)) (sup_x_of base large +ℤ kern +ℤ script.width) size;
      sub = spot (pos 0) (pos 0);
      sup = spot (sup_x_of base large +ℤ kern) (pos 0 -ℤ up);
    } in
    ap placed (same-sup m h from base script up)

pub sub_sup-same : (m : MetricsValue) (base : MathBox) (large cramped : Bool) (sub sup : MathBox) (from : KernFrom) (size : ℤ)
    → HasNoKerns m
    → sub_sup_of m base large cramped sub sup from size ≡ sub_sup_of m base large cramped sub sup no_corners size
unfolding sub_sup_of
sub_sup-same m base large cramped sub sup from size h =
    let shifts = pair_shifts_of m size cramped base sub sup in
    let placed : ℤ → ℤ → Scripted = λ low high. record {
      frame = ending_at_of m (joined (joined base (below sub shifts.down)) (raised sup shifts.up))
          (int_max (sub_x_of base large +ℤ low +ℤ sub.width) (sup_x_of base large +ℤ high +ℤ sup.width)) size;
      sub = spot (sub_x_of base large +ℤ low) shifts.down;
      sup = spot (sup_x_of base large +ℤ high) (pos 0 -ℤ shifts.up);
    } in
    λ i. placed (same-sub m h from base sub shifts.down i) (same-sup m h from base sup shifts.up i)

-- ---- without corners

zero-more : (z : ℤ) → z +ℤ pos 0 ≡ z
zero-more z = omega (arith, signed)

pub sub-behind : (m : MetricsValue) (base : MathBox) (large : Bool) (script : MathBox) (size : ℤ)
    → (sub_of m base large script no_corners size).sub.x ≡ sub_x_of base large
unfolding sub_of sub_kern_of
sub-behind m base large script size = zero-more (sub_x_of base large)

pub sup-behind : (m : MetricsValue) (base : MathBox) (large cramped : Bool) (script : MathBox) (size : ℤ)
    → (sup_of m base large cramped script no_corners size).sup.x ≡ sup_x_of base large
unfolding sup_of sup_kern_of
sup-behind m base large cramped script size = zero-more (sup_x_of base large)

pub sub_sup-behind : (m : MetricsValue) (base : MathBox) (large cramped : Bool) (sub sup : MathBox) (size : ℤ)
    → ((sub_sup_of m base large cramped sub sup no_corners size).sub.x ≡ sub_x_of base large)
    × ((sub_sup_of m base large cramped sub sup no_corners size).sup.x ≡ sup_x_of base large)
unfolding sub_sup_of sub_kern_of sup_kern_of
sub_sup-behind m base large cramped sub sup size = (zero-more (sub_x_of base large), zero-more (sup_x_of base large))
