use Rattle.std.proofs.Common.{◌≡◌, ◌∷◌, ◌+◌, ◌<◌, [], length, drop, get_or, add-one, arith}
use Rattle.std.proofs.Math.ListN.{drop_of_length-le}
use Rattle.std.proofs.Math.Seq.{drop-cons}
use Rattle.doc_io.proofs.Cuts.{greatest_cons, greatest_nil}
use Rattle.doc_io.proofs.memory_inputs.uncut.Goals as goal

pub loop-cut-preserved : goal.loop-cut-preserved
loop-cut-preserved c = λ n h.
    let i = c.loop-cut.cut-index in
    let within : i < length c.args.cuts.now = omega arith in
    let next : drop i c.args.cuts.now ≡ get_or c.args.cuts.now i 0 ∷ drop (i + 1) c.args.cuts.now = rw (add-one, drop-cons c.args.cuts.now i 0) in
    c.loop-cut.invariant n (rw next (greatest_cons _ _ _ _ _ _ c.before_cut-count.ensures h))

pub returns : goal.returns
returns c =
    let none : drop c.loop-cut.cut-index c.args.cuts.now ≡ [] = drop_of_length-le c.args.cuts.now c.loop-cut-test.false in
    c.loop-cut.invariant _ (rw none (greatest_nil c.args.place c.loop-cut.count))
