use Rattle.std.proofs.Common.{◌≡◌, ◌∙◌, sym, ap, get_or, arith, w64, to_z, of_z, pos, ◌+ℤ◌, ◌-ℤ◌, lit<}
use Rattle.std.proofs.lemmas.Int.{to_z-of_z}
use Rattle.fixed_units.proofs.Sums.{list_to-zero}
use Rattle.fixed_units.proofs.Within.{natural_in, difference_in, fits_i64}
use Rattle.scripts.specs.Beside.{spot}
use Rattle.multiscripts.specs.Along.{past_of, no_pair, sub_x_at, sup_x_at, room_x_of, sub_start_of, sup_start_of}
use Rattle.multiscripts.proofs.Pairs.{line_at-zero, line_at-add_one, line_so_far, pair_stored, one_spot}
use Rattle.multiscripts.proofs.along.place_pairs.Goals as goal

pub loop-pair-init : goal.loop-pair-init
loop-pair-init c = record {
  line = c.start-line.ensures.value ∙ sym (line_at-zero (to_z w64 (of_z w64 c.args.space)) c.args.base.now c.args.large c.args.pairs.now);
  subs = c.make-subs.ensures ∙ sym (list_to-zero _);
  sups = c.make-sups.ensures ∙ sym (list_to-zero _);
}

pub sub_x-requires-clause-space_in : goal.sub_x-requires-clause-space_in
sub_x-requires-clause-space_in c = let f = fits_i64 c.requires.space_in (lit< tt) in grind (arith, to_z-of_z)

pub sub_x-requires-clause-end_in : goal.sub_x-requires-clause-end_in
sub_x-requires-clause-end_in c = let f = fits_i64 c.requires.end_in (lit< tt) in grind (arith, to_z-of_z)

pub sup_x-requires-clause-space_in : goal.sup_x-requires-clause-space_in
sup_x-requires-clause-space_in c = let f = fits_i64 c.requires.space_in (lit< tt) in grind (arith, to_z-of_z)

pub sup_x-requires-clause-end_in : goal.sup_x-requires-clause-end_in
sup_x-requires-clause-end_in c = let f = fits_i64 c.requires.end_in (lit< tt) in grind (arith, to_z-of_z)

pub past-line-requires-clause-space_in : goal.past-line-requires-clause-space_in
past-line-requires-clause-space_in c = let f = fits_i64 c.requires.space_in (lit< tt) in grind (arith, to_z-of_z)

pub overflow_sub-shifts : goal.overflow_sub-shifts
overflow_sub-shifts c =
    let f = fits_i64 c.requires.up_in (lit< tt) in
    let g = fits_i64 (difference_in (natural_in 0) c.requires.up_in) (lit< tt) in
    grind (arith, to_z-of_z)

pub sub_x-requires-clause-line_in : goal.sub_x-requires-clause-line_in
sub_x-requires-clause-line_in c =
    let space : to_z w64 (of_z w64 c.args.space) ≡ c.args.space = grind (arith, to_z-of_z) in
    line_so_far _ _ _ _ _ _ _ space c.loop-pair.invariant.line (omega arith) c.requires.few c.requires.space_in c.requires.base_fits c.requires.fit

pub sub_x-requires-clause-fits : goal.sub_x-requires-clause-fits
sub_x-requires-clause-fits c = pair_stored c.args.pairs.now c.loop-pair.pair-index c.loop-pair-test.true c.requires.fit

pub sup_x-requires-clause-line_in : goal.sup_x-requires-clause-line_in
sup_x-requires-clause-line_in c =
    let space : to_z w64 (of_z w64 c.args.space) ≡ c.args.space = grind (arith, to_z-of_z) in
    line_so_far _ _ _ _ _ _ _ space c.loop-pair.invariant.line (omega arith) c.requires.few c.requires.space_in c.requires.base_fits c.requires.fit

pub sup_x-requires-clause-fits : goal.sup_x-requires-clause-fits
sup_x-requires-clause-fits c = pair_stored c.args.pairs.now c.loop-pair.pair-index c.loop-pair-test.true c.requires.fit

pub past-line-requires-clause-line_in : goal.past-line-requires-clause-line_in
past-line-requires-clause-line_in c =
    let space : to_z w64 (of_z w64 c.args.space) ≡ c.args.space = grind (arith, to_z-of_z) in
    line_so_far _ _ _ _ _ _ _ space c.loop-pair.invariant.line (omega arith) c.requires.few c.requires.space_in c.requires.base_fits c.requires.fit

pub past-line-requires-clause-fits : goal.past-line-requires-clause-fits
past-line-requires-clause-fits c = pair_stored c.args.pairs.now c.loop-pair.pair-index c.loop-pair-test.true c.requires.fit

pub loop-pair-preserved : goal.loop-pair-preserved
loop-pair-preserved c =
    let space = to_z w64 (of_z w64 c.args.space) in
    let end = to_z w64 (of_z w64 c.args.end) in
    let base = c.args.base.now in
    let large = c.args.large in
    let pairs = c.args.pairs.now in
    let i = c.loop-pair.pair-index in
    let sub_x : to_z w64 (of_z w64 c.sub_x.result) ≡ c.sub_x.result = grind (arith, to_z-of_z) in
    let sup_x : to_z w64 (of_z w64 c.sup_x.result) ≡ c.sup_x.result = grind (arith, to_z-of_z) in
    let up = c.requires.up_in in
    let f = fits_i64 up (lit< tt) in
    let g = fits_i64 c.requires.down_in (lit< tt) in
    let h = fits_i64 (difference_in (natural_in 0) up) (lit< tt) in
    record {
      line = c.past-line.ensures ∙ ap (λ line. past_of space line (get_or pairs i no_pair)) c.loop-pair.invariant.line
          ∙ sym (line_at-add_one space base large pairs i c.loop-pair-test.true);
      subs = one_spot i (λ place. spot (sub_x_at space end base large pairs place) c.args.shifts.now.down) c.loop-pair.subs _ _ _ c.loop-pair.invariant.subs
          (c.in_ok-push.ensures {u = tt}).ok
          (sub_x ∙ c.sub_x.ensures ∙ ap (λ line. room_x_of space end line (get_or pairs i no_pair) +ℤ sub_start_of line.lean (get_or pairs i no_pair)) c.loop-pair.invariant.line)
          (grind (arith, to_z-of_z));
      sups = one_spot i (λ place. spot (sup_x_at space end base large pairs place) (pos 0 -ℤ c.args.shifts.now.up)) c.loop-pair.sups _ _ _ c.loop-pair.invariant.sups
          (c.in_ok-push-2.ensures {u = tt}).ok
          (sup_x ∙ c.sup_x.ensures ∙ ap (λ line. room_x_of space end line (get_or pairs i no_pair) +ℤ sup_start_of line.lean (get_or pairs i no_pair)) c.loop-pair.invariant.line)
          (grind (arith, to_z-of_z));
    }
