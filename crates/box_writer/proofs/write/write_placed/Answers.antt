use Rattle.std.proofs.Common.{◌≡◌, ◌≢◌, ◌∙◌, ap, subst, rules, arith, ◌+◌, ◌<◌, [], ◌++◌, length, take, drop, get_or}
use Rattle.std.specs.Prelude.{Ok}
use Rattle.std.proofs.Math.Seq.{take-length}
use Rattle.doc_io.specs.Pieces.{Puts}
use Rattle.doc_io.specs.declared.whole.WriteFault.{WriteFault}
use Rattle.doc_io.proofs.Written.{puts_next, puts_cut, sent_all, sent_front}
use Rattle.box_writer.specs.Lines.{text_of, item_line}
use Rattle.box_writer.proofs.Texts.{text_of_more, text_of_split, no_items}
use Rattle.box_writer.proofs.write.write_placed.Goals as goal

pub loop-item-preserved : goal.loop-item-preserved
loop-item-preserved g c =
    let told = g.O.Sink.told in
    let within : c.loop-item.item-index < length c.args.placed.now = search rules in
    let is : c.item-item.result ≡ get_or c.args.placed.now c.loop-item.item-index c.item-item.result = search rules in
    record {
      puts = subst (λ text. Puts {E = WriteFault} (told c.args.out.now) (told c.put_item.new.out) [] c.put_item.new.piece text (Ok tt))
          (text_of_more c.args.metrics.now c.args.placed.now c.loop-item.item-index c.item-item.result within is)
          (puts_next _ _ _ _ _ _ _ _ _ c.loop-item.invariant.puts c.in_ok-put_item.ensures);
      untouched = λ none. absurd (omega arith);
    }

pub returns-in_err-put_item : goal.returns-in_err-put_item
returns-in_err-put_item g c =
    let told = g.O.Sink.told in
    let within : c.loop-item.item-index < length c.args.placed.now = search rules in
    let is : c.item-item.result ≡ get_or c.args.placed.now c.loop-item.item-index c.item-item.result = search rules in
    let next = c.loop-item.item-index + 1 in
    let whole : text_of c.args.metrics.now (take c.loop-item.item-index c.args.placed.now) ++ item_line c.args.metrics.now c.item-item.result
    ++ text_of c.args.metrics.now (drop next c.args.placed.now) ≡ text_of c.args.metrics.now c.args.placed.now =
    ap (λ l. l ++ text_of c.args.metrics.now (drop next c.args.placed.now))
    (text_of_more c.args.metrics.now c.args.placed.now c.loop-item.item-index c.item-item.result within is)
    ∙ text_of_split c.args.metrics.now c.args.placed.now next in
    let put = puts_next _ _ _ _ _ _ _ _ _ c.loop-item.invariant.puts c.in_err-put_item.ensures in
    let some : text_of c.args.metrics.now c.args.placed.now ≢ [] = λ none.
    let e = ap length (no_items c.args.metrics.now c.args.placed.now none) in absurd (omega arith) in
    sent_front _ _ _ _ _
    (subst (λ text. Puts {E = WriteFault} (told c.args.out.now) (told c.put_item.new.out) [] c.put_item.new.piece text c.from_residual.result) whole
    (puts_cut _ _ _ _ _ (text_of c.args.metrics.now (drop next c.args.placed.now)) _ _ put c.from_residual.ensures.0))
    c.from_residual.ensures.0 some

pub returns : goal.returns
returns g c =
    let told = g.O.Sink.told in
    let end : c.loop-item.item-index ≡ length c.args.placed.now = search rules in
    let all : take c.loop-item.item-index c.args.placed.now ≡ c.args.placed.now =
    ap (λ n. take n c.args.placed.now) end ∙ take-length c.args.placed.now in
    sent_all _ _ _ _ _ _
    (subst (λ items. Puts {E = WriteFault} (told c.args.out.now) (told c.loop-item.out) [] c.loop-item.piece (text_of c.args.metrics.now items) (Ok tt)) all
    c.loop-item.invariant.puts)
    (λ none. let e = ap length (no_items c.args.metrics.now c.args.placed.now none) in c.loop-item.invariant.untouched (omega arith))
    c.send.ensures.writes
