use Rattle.std.proofs.Common.{◌≡◌, ◌∙◌, ◌-◌, ◌<◌, inl, inr, length, take, drop, arith, rules}
use Rattle.std.specs.List.{position_or_len}
use Rattle.std.specs.Prelude.{Err}
use Rattle.doc_io.specs.LineReader.{is_feed}
use Rattle.doc_io.specs.declared.line_reader.LineRefusal.TheVariants.{ReadFault}
use Rattle.doc_io.proofs.FirstLines.{line_so_far, line_within}
use Rattle.doc_io.proofs.NextLines.{ends_behind, fails_behind, takes_both, unended}
use Rattle.doc_io.proofs.line_reader.end_line.Goals as goal
use Rattle.doc_io.proofs.line_reader.end_line.Goals.{then-loop-length-test+else-length-len, else-loop-length-test}

pub loop-length-preserved : goal.loop-length-preserved
loop-length-preserved g c =
    let next = c.in_ok-read_on.ensures in
    let so_far = c.loop-length.invariant in
    let n = c.loop-length.length in
    let held = c.read_on.new.self in
    let all : n ≡ length c.loop-length.held = omega arith in
    let more : c.first_length.result ≡ position_or_len is_feed (take (length held - n) (drop n held)) = search rules in
    record {
      line = line_so_far is_feed c.loop-length.held next.bytes.0 held n c.first_length.result so_far.line all next.bytes.1 more;
      unread = λ h. absurd (unended (g.I.Inputs.told c.args.inputs.now) (g.I.Inputs.told c.loop-length.inputs) _ _ _ so_far.bytes so_far.line all h);
      bytes = takes_both (g.I.Inputs.told c.args.inputs.now) (g.I.Inputs.told c.loop-length.inputs) (g.I.Inputs.told c.read_on.new.inputs) _ _ _ so_far.bytes (next.bytes.0, next.bytes.1, next.bytes.3);
      files = next.files ∙ so_far.files;
      faults = omega (arith, next.faults, so_far.faults);
      missing = next.missing ∙ so_far.missing;
    }

pub returns-then-length-le-LONGEST_LINE : goal.returns-then-length-le-LONGEST_LINE
returns-then-length-le-LONGEST_LINE g c =
    let so_far = c.loop-length.invariant in
    let within = line_within is_feed c.loop-length.held in
    let ended : c.loop-length.length < length c.loop-length.held = elim c.loop-length-test.branch [
      | then-loop-length-test+else-length-len w ↦ omega (arith, within, so_far.line, w.len.ensures, w.if-length-len.false)
      | else-loop-length-test w ↦ absurd (omega (arith, w.loop-length-test.false, c.if-length-le-LONGEST_LINE.true))
    ] in
    record {
      files = so_far.files;
      faults = so_far.faults;
      missing = so_far.missing;
      bytes = so_far.bytes;
      unread = so_far.unread;
      line = so_far.line;
      short = c.if-length-le-LONGEST_LINE.true;
      ended = inl ended;
      long = λ e. absurd cc;
      fault = λ e. absurd cc;
      refused = tt;
    }

pub returns-in_err-read_on : goal.returns-in_err-read_on
returns-in_err-read_on g c =
    let so_far = c.loop-length.invariant in
    let all : c.loop-length.length ≡ length c.loop-length.held = omega arith in
    let failed : c.from_residual.result ≡ Err ReadFault = search rules in
    fails_behind (g.I.Inputs.told c.args.inputs.now) (g.I.Inputs.told c.loop-length.inputs) (g.I.Inputs.told c.read_on.new.inputs) _ _ _
    so_far.files so_far.faults so_far.missing so_far.bytes (λ h. unended (g.I.Inputs.told c.args.inputs.now) (g.I.Inputs.told c.loop-length.inputs) _ _ _ so_far.bytes so_far.line all h)
    _ _ failed c.in_err-read_on.ensures

pub returns-then-branch-eq0 : goal.returns-then-branch-eq0
returns-then-branch-eq0 g c =
    let so_far = c.loop-length.invariant in
    let all : c.loop-length.length ≡ length c.loop-length.held = omega arith in
    let none : c.in_ok-read_on.field-0 ≡ 0 = omega arith in
    ends_behind (g.I.Inputs.told c.args.inputs.now) (g.I.Inputs.told c.loop-length.inputs) (g.I.Inputs.told c.read_on.new.inputs) _ _ _
    so_far.files so_far.faults so_far.missing so_far.bytes (λ h. unended (g.I.Inputs.told c.args.inputs.now) (g.I.Inputs.told c.loop-length.inputs) _ _ _ so_far.bytes so_far.line all h)
    _ _ so_far.line (omega arith) none c.in_ok-read_on.ensures
