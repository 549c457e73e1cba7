use Rattle.std.proofs.Common.{◌≡◌, ◌≢◌, ◌∙◌, ap, subst, refl, rules, arith, ◌+◌, ◌<◌, [], ◌++◌, length, take, drop, get_or}
use Rattle.std.specs.Prelude.{Ok}
use Rattle.std.proofs.Math.Seq.{take-length}
use Rattle.doc_io.specs.Pieces.{Puts}
use Rattle.doc_io.specs.declared.whole.WriteFault.{WriteFault}
use Rattle.doc_io.proofs.Written.{puts_next, puts_cut, sent_all, sent_front}
use Rattle.queries.specs.Lines.{area_line, lines_of_areas}
use Rattle.queries.proofs.Texts.{lines-more, lines-split, no_area, no_areas}
use Rattle.queries.proofs.lines.write_areas.Goals as goal

pub loop-area-preserved : goal.loop-area-preserved
loop-area-preserved g c =
    let told = g.O.Sink.told in
    let areas = c.args.areas.now in
    let i = c.loop-area.area-index in
    let within : i < length areas = search rules in
    record {
      puts = subst (λ text. Puts {E = WriteFault} (told c.args.out.now) (told c.put_area.new.out) [] c.put_area.new.piece text (Ok tt))
          (lines-more areas i no_area (get_or areas i no_area) within refl)
          (puts_next _ _ _ _ _ _ _ _ _ c.loop-area.invariant.puts c.in_ok-put_area.ensures);
      untouched = λ none. absurd (omega arith);
    }

pub returns-in_err-put_area : goal.returns-in_err-put_area
returns-in_err-put_area g c =
    let told = g.O.Sink.told in
    let areas = c.args.areas.now in
    let i = c.loop-area.area-index in
    let within : i < length areas = search rules in
    let area = get_or areas i no_area in
    let rest = lines_of_areas (drop (i + 1) areas) in
    let whole : (lines_of_areas (take i areas) ++ area_line area) ++ rest ≡ lines_of_areas areas =
    ap (λ l. l ++ rest) (lines-more areas i no_area area within refl) ∙ lines-split areas (i + 1) in
    let put = puts_next _ _ _ _ _ _ _ _ _ c.loop-area.invariant.puts c.in_err-put_area.ensures in
    let some : lines_of_areas areas ≢ [] = λ none. let e = ap length (no_areas areas none) in absurd (omega arith) in
    sent_front _ _ _ _ _
    (subst (λ text. Puts {E = WriteFault} (told c.args.out.now) (told c.put_area.new.out) [] c.put_area.new.piece text c.from_residual.result) whole
    (puts_cut _ _ _ _ _ rest _ _ put c.from_residual.ensures.0))
    c.from_residual.ensures.0 some

pub returns : goal.returns
returns g c =
    let told = g.O.Sink.told in
    let areas = c.args.areas.now in
    let end : c.loop-area.area-index ≡ length areas = search rules in
    let all : take c.loop-area.area-index areas ≡ areas = ap (λ n. take n areas) end ∙ take-length areas in
    sent_all _ _ _ _ _ _
    (subst (λ some. Puts {E = WriteFault} (told c.args.out.now) (told c.loop-area.out) [] c.loop-area.piece (lines_of_areas some) (Ok tt)) all
    c.loop-area.invariant.puts)
    (λ none. let e = ap length (no_areas areas none) in c.loop-area.invariant.untouched (omega arith))
    c.send.ensures.writes
