use Rattle.std.proofs.Common.{◌≡◌, ◌∙◌, ◌+◌, ◌^◌, sym, ap, List, [], ◌∷◌, ◌++◌, ℤ, pos, ◌-ℤ◌, append_assoc, arith, take, get_or, lit<}
use Rattle.std.proofs.lemmas.Int.{to_z-of_z}
use Rattle.std.proofs.lemmas.List.Elements.{All-get_or}
use Rattle.fixed_units.specs.Numbers.{IsWithin}
use Rattle.fixed_units.proofs.Within.{difference_in, fits_i64}
use Rattle.span_tables.specs.Slots.{pairs_by}
use Rattle.span_tables.proofs.Rows.{no_cell}
use Rattle.span_tables.proofs.Starts.{pairs_more}
use Rattle.span_tables.proofs.slots.push_slots.Goals as goal

pub bounds-starts-first : goal.bounds-starts-first
bounds-starts-first c =
    let inside = c.requires.inside.inside c.loop-place.place no_cell c.loop-place-test.true in
    let some = c.requires.some in
    omega arith

pub loop-place-preserved : goal.loop-place-preserved
loop-place-preserved c =
    let starts = c.args.starts.now in
    let cells = c.args.cells.now in
    let firsts = c.args.firsts.now in
    let i = c.loop-place.place in
    let first = get_or firsts i 0 in
    let end = first + (get_or cells i no_cell).span.columns in
    let inside = c.requires.inside.inside i no_cell c.loop-place-test.true in
    let some = c.requires.some in
    let x = get_or starts first (pos 0) in
    let wide = get_or starts end (pos 0) -ℤ x in
    let x_in = All-get_or (IsWithin (2 ^ 58)) starts first (pos 0) (omega arith) c.requires.within in
    let end_in = All-get_or (IsWithin (2 ^ 58)) starts end (pos 0) (omega arith) c.requires.within in
    let x_fits = fits_i64 x_in (lit< tt) in
    let end_fits = fits_i64 end_in (lit< tt) in
    let wide_fits = fits_i64 (difference_in end_in x_in) (lit< tt) in
    let one : c.push.new.self ≡ c.loop-place.slots ++ x ∷ [] = simp to_z-of_z at (c.in_ok-push.ensures {u = tt}).ok in
    let two : c.push-in-loop-place.new.self ≡ c.push.new.self ++ wide ∷ [] = simp to_z-of_z at (c.in_ok-push-2.ensures {u = tt}).ok in
    let old = c.args.slots.now in
    let before = pairs_by starts (take i cells) (take i firsts) in
    two ∙ ap (λ (slots : List ℤ). slots ++ wide ∷ []) (one ∙ ap (λ (slots : List ℤ). slots ++ x ∷ []) c.loop-place.invariant)
    ∙ append_assoc (old ++ before) (x ∷ []) (wide ∷ []) ∙ append_assoc old before (x ∷ wide ∷ [])
    ∙ ap (λ (slots : List ℤ). old ++ slots) (sym (pairs_more starts cells firsts i no_cell c.loop-place-test.true c.requires.inside.each))
