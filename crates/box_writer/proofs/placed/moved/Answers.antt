use Rattle.std.proofs.Common.{◌≡◌, rules, arith, FitsSigned, w64, lit<, ap, subst, ◌^◌, ◌+ℤ◌}
use Rattle.std.proofs.lemmas.Int.{to_z-of_z}
use Rattle.fixed_units.specs.Numbers.{IsWithin}
use Rattle.fixed_units.proofs.Within.{sum_in, fits_i64}
use Rattle.font_metrics.specs.declared.mark.Mark.TheVariants.{Glyph, Rule, Built}
use Rattle.box_writer.specs.Items.{moved, x_of, y_of}
use Rattle.box_writer.proofs.placed.moved.Goals as goal

pub returns-in-Glyph : goal.returns-in-Glyph
returns-in-Glyph c =
    let x_in = subst (λ mark. IsWithin (2 ^ 40) (x_of mark)) c.in-Glyph.is c.requires.mark_x in
    let y_in = subst (λ mark. IsWithin (2 ^ 40) (y_of mark)) c.in-Glyph.is c.requires.mark_y in
    let f1 : FitsSigned w64 c.in-Glyph.x = fits_i64 x_in (lit< tt) in
    let f2 : FitsSigned w64 c.in-Glyph.y = fits_i64 y_in (lit< tt) in
    let f3 = fits_i64 (sum_in x_in c.requires.right) (lit< tt) in
    let f4 = fits_i64 (sum_in y_in c.requires.down) (lit< tt) in
    let f5 : FitsSigned w64 c.in-Glyph.size = search rules in
    let e : moved c.args.right c.args.down c.args.mark
    ≡ Glyph (c.in-Glyph.x +ℤ c.args.right) (c.in-Glyph.y +ℤ c.args.down) c.in-Glyph.size c.in-Glyph.glyph =
    ap (moved c.args.right c.args.down) c.in-Glyph.is in
    grind (arith, to_z-of_z)

pub returns-in-Rule : goal.returns-in-Rule
returns-in-Rule c =
    let x_in = subst (λ mark. IsWithin (2 ^ 40) (x_of mark)) c.in-Rule.is c.requires.mark_x in
    let y_in = subst (λ mark. IsWithin (2 ^ 40) (y_of mark)) c.in-Rule.is c.requires.mark_y in
    let f1 : FitsSigned w64 c.in-Rule.x = fits_i64 x_in (lit< tt) in
    let f2 : FitsSigned w64 c.in-Rule.y = fits_i64 y_in (lit< tt) in
    let f3 = fits_i64 (sum_in x_in c.requires.right) (lit< tt) in
    let f4 = fits_i64 (sum_in y_in c.requires.down) (lit< tt) in
    let f5 : FitsSigned w64 c.in-Rule.width = search rules in
    let f6 : FitsSigned w64 c.in-Rule.height = search rules in
    let e : moved c.args.right c.args.down c.args.mark
    ≡ Rule (c.in-Rule.x +ℤ c.args.right) (c.in-Rule.y +ℤ c.args.down) c.in-Rule.width c.in-Rule.height =
    ap (moved c.args.right c.args.down) c.in-Rule.is in
    grind (arith, to_z-of_z)

pub returns-in-Built : goal.returns-in-Built
returns-in-Built c =
    let x_in = subst (λ mark. IsWithin (2 ^ 40) (x_of mark)) c.in-Built.is c.requires.mark_x in
    let y_in = subst (λ mark. IsWithin (2 ^ 40) (y_of mark)) c.in-Built.is c.requires.mark_y in
    let f1 : FitsSigned w64 c.in-Built.x = fits_i64 x_in (lit< tt) in
    let f2 : FitsSigned w64 c.in-Built.y = fits_i64 y_in (lit< tt) in
    let f3 = fits_i64 (sum_in x_in c.requires.right) (lit< tt) in
    let f4 = fits_i64 (sum_in y_in c.requires.down) (lit< tt) in
    let f5 : FitsSigned w64 c.in-Built.size = search rules in
    let f6 : FitsSigned w64 c.in-Built.count = search rules in
    let f7 : FitsSigned w64 c.in-Built.overlap = search rules in
    let e : moved c.args.right c.args.down c.args.mark
    ≡ Built (c.in-Built.x +ℤ c.args.right) (c.in-Built.y +ℤ c.args.down) c.in-Built.size c.in-Built.axis c.in-Built.glyph c.in-Built.count c.in-Built.overlap =
    ap (moved c.args.right c.args.down) c.in-Built.is in
    grind (arith, to_z-of_z)
