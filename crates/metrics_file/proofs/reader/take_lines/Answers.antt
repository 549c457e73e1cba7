use Rattle.std.proofs.Common.{◌≡◌, ◌≢◌, ◌∙◌, ◌+◌, ap, sym, subst, [], Ok, Err, rules, arith, true}
use Rattle.std.specs.Str.Lines.{lines}
use Rattle.metrics_file.specs.Reading.{after, after_first, finished, numbered, metrics_of}
use Rattle.metrics_file.specs.Reads.{Reads, Begins}
use Rattle.metrics_file.proofs.Ends.{ends_with, ends_without}
use Rattle.metrics_file.proofs.Forward.{continued, from_line, from_first, stopped, more, ended, none_left, lacks}
use Rattle.metrics_file.proofs.Ranges.{after_keeps, first_keeps}
use Rattle.metrics_file.proofs.reader.take_lines.Goals as goal

pub loop-rest-init : goal.loop-rest-init
loop-rest-init c =
    let first = c.first_line.result.0.now in
    let rest = lines c.first_line.result.1.now in
    let begun : after_first first ≡ Ok c.args.given.now =
    subst (λ ls. Begins ls c.args.given.now) c.first_line.ensures.line c.requires.begun in
    record {
      says =
          from_first c.args.bytes.now first rest c.first_line.ensures.line
          ∙ ap (λ s. continued 1 s (λ next. from_line 1 next rest)) begun;
      given = first_keeps first c.args.given.now begun;
      small = let bound = c.first_line.ensures.bound in omega (arith, bound, c.requires.few);
    }

pub loop-rest-preserved : goal.loop-rest-preserved
loop-rest-preserved c =
    let n = c.loop-rest.number in
    let line = c.first_line-in-loop-rest.result.0.now in
    let left = c.first_line-in-loop-rest.result.1.now in
    let some : c.loop-rest.rest.now ≢ [] = search rules in
    record {
      says =
          c.loop-rest.invariant.says
          ∙ more c.loop-rest.rest.now line left n c.loop-rest.given some c.first_line-in-loop-rest.ensures.line
          ∙ ap (λ s. continued (n + 1) s (λ next. from_line (n + 1) next (lines left))) c.in_default.ensures;
      given = after_keeps c.loop-rest.given line c.take.new.given c.loop-rest.invariant.given c.in_default.ensures;
      small =
          let shorter = c.first_line-in-loop-rest.ensures.rest some in
          let small = c.loop-rest.invariant.small in
          omega (arith, shorter, small);
    }

pub returns-in-Err : goal.returns-in-Err
returns-in-Err c =
    let line = c.first_line-in-loop-rest.result.0.now in
    let left = c.first_line-in-loop-rest.result.1.now in
    let some : c.loop-rest.rest.now ≢ [] = search rules in
    subst (λ r. Reads (metrics_of c.args.bytes.now) (Err r)) (sym c.at.ensures)
    (stopped _ (c.loop-rest.number + 1) (after c.loop-rest.given line) c.take.new.given _ c.in-Err.refusal
    (c.loop-rest.invariant.says
    ∙ more c.loop-rest.rest.now line left c.loop-rest.number c.loop-rest.given some c.first_line-in-loop-rest.ensures.line)
    c.in-Err.ensures)

pub returns-in-Ok : goal.returns-in-Ok
returns-in-Ok c =
    let n = c.loop-rest.number in
    let g = c.loop-rest.given in
    let at_end : c.is_empty.result ≡ true = search rules in
    let none = none_left c.loop-rest.rest.now c.is_empty.result c.is_empty.ensures at_end in
    record {
      given = c.loop-rest.invariant.given;
      needs = sym c.in-Ok.ensures;
      metrics =
          c.loop-rest.invariant.says ∙ ended c.loop-rest.rest.now n g none
          ∙ ap (numbered (n + 1)) (sym (ends_with g c.in-Ok.needs c.in-Ok.ensures));
    }

pub returns-in-Err-needed : goal.returns-in-Err-needed
returns-in-Err-needed c =
    let n = c.loop-rest.number in
    let g = c.loop-rest.given in
    let at_end : c.is_empty.result ≡ true = search rules in
    let none = none_left c.loop-rest.rest.now c.is_empty.result c.is_empty.ensures at_end in
    subst (λ r. Reads (metrics_of c.args.bytes.now) (Err r)) (sym c.at-in-Err-needed.ensures)
    (lacks _ (n + 1) c.in-Err-needed.fault (finished g) (c.loop-rest.invariant.says ∙ ended c.loop-rest.rest.now n g none)
    (ends_without g c.in-Err-needed.fault c.in-Err-needed.ensures))
