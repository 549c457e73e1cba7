use Rattle.std.proofs.Common.{◌≡◌, ◌∙◌, ◌+◌, ◌-◌, ◌++◌, length, take, drop, sym, ap, arith, length-drop}
use Rattle.std.proofs.lemmas.List.{append_assoc, drop-take, length-take-le, take-take, take_all, take_at, drop_at}
use Rattle.std.proofs.lemmas.Slice.{take-put_mid}
use Rattle.std.proofs.Math.Seq.{take-add}
use Rattle.box_pool.proofs.write.write_at.Goals as goal
use Rattle.box_pool.proofs.write.write_at.Goals.{After-loop-done}

pub loop-done-preserved : goal.loop-done-preserved
loop-done-preserved c =
    let test = c.loop-done-test.true in
    let end = c.min-end.ensures in
    let at = c.args.at in
    let done = c.loop-done.done in
    let piece = c.args.piece.now in
    let part = c.copy_from_slice.new.self in
    let more : done + (c.min-end.result - done) ≡ c.min-end.result = omega (arith, test, end) in
    let part_is : part ≡ take (c.min-end.result - done) (drop done piece) = c.copy_from_slice.ensures.after in
    let rest : length (drop done piece) ≡ length piece - done = length-drop done piece in
    let long : length part ≡ c.min-end.result - done = ap length part_is ∙ length-take-le (c.min-end.result - done) (drop done piece) (omega (arith, test, end, rest)) in
    let written = take-put_mid (at + done) (at + c.min-end.result - (at + done)) c.loop-done.cells part (at + c.min-end.result) (omega (arith, long, more)) (omega (arith, test, c.requires, c.loop-done.auto.cells)) in
    record {
      within = omega (arith, end);
      front = written ∙ (ap (λ cells. cells ++ part) c.loop-done.invariant.front
          ∙ (append_assoc (take at c.args.cells.now) (take done piece) part
          ∙ ap (λ cells. take at c.args.cells.now ++ cells) (ap (λ cells. take done piece ++ cells) part_is ∙ (sym (take-add done (c.min-end.result - done) piece) ∙ ap (λ n. take n piece) more))));
    }

-- the whole piece is written
whole : (c : After-loop-done) → take (c.args.at + length c.args.piece.now) c.loop-done.cells ≡ take c.args.at c.args.cells.now ++ c.args.piece.now
whole c =
    let piece = c.args.piece.now in
    let done : c.loop-done.done ≡ length piece = omega (arith, c.loop-done.invariant.within, c.loop-done-test.false) in
    ap (λ n. take (c.args.at + n) c.loop-done.cells) (sym done)
    ∙ (c.loop-done.invariant.front ∙ ap (λ cells. take c.args.at c.args.cells.now ++ cells) (take_all c.loop-done.done piece c.loop-done-test.false))

pub returns-clause-before : goal.returns-clause-before
returns-clause-before c =
    let at = c.args.at in
    let piece = c.args.piece.now in
    let room = c.requires in
    let front : length (take at c.args.cells.now) ≡ at = length-take-le at c.args.cells.now (omega (arith, room)) in
    sym (take-take at (at + length piece) c.loop-done.cells (omega arith))
    ∙ (ap (take at) (whole c) ∙ take_at (take at c.args.cells.now) piece at front)

pub returns-clause-piece : goal.returns-clause-piece
returns-clause-piece c =
    let at = c.args.at in
    let piece = c.args.piece.now in
    let room = c.requires in
    let front : length (take at c.args.cells.now) ≡ at = length-take-le at c.args.cells.now (omega (arith, room)) in
    sym (drop-take at (length piece) c.loop-done.cells)
    ∙ (ap (drop at) (whole c) ∙ drop_at (take at c.args.cells.now) piece at front)
