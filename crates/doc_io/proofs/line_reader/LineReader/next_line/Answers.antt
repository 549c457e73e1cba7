use Rattle.std.proofs.Common.{◌≡◌, [], ◌+◌, ◌<◌, ◌≤◌, min, length, true, false, arith, rules, tests}
use Rattle.std.specs.Prelude.{Err}
use Rattle.doc_io.specs.LineReader.{is_feed, most_lines}
use Rattle.doc_io.proofs.FirstLines.{line_within}
use Rattle.doc_io.proofs.NextLines.{ends_here, gives_here, refuses_here, spends_here}
use Rattle.doc_io.proofs.line_reader.LineReader.next_line.Goals as goal

pub returns-then-not-branch : goal.returns-then-not-branch
returns-then-not-branch g c =
    let no : c.in_ok-begins_line.field-0 ≡ false = search (rules, tests) in
    rw (← c.self.view_is) (ends_here _ _ _ [] (g.I.Inputs.told c.args.inputs.now) (g.I.Inputs.told c.begins_line.new.inputs) (g.I.Inputs.told c.begins_line.new.inputs) _ c.drop_front.ensures c.in_ok-begins_line.ensures no)

pub returns-then-self-eq-MOST_LINES : goal.returns-then-self-eq-MOST_LINES
returns-then-self-eq-MOST_LINES g c =
    let yes : c.in_ok-begins_line.field-0 ≡ true = search (rules, tests) in
    let most : most_lines ≤ c.self.inside.given = omega arith in
    rw (← c.self.view_is) (spends_here _ _ _ [] (g.I.Inputs.told c.args.inputs.now) (g.I.Inputs.told c.begins_line.new.inputs) (g.I.Inputs.told c.begins_line.new.inputs) _ c.drop_front.ensures c.in_ok-begins_line.ensures yes most)

pub returns-in_err-self-inside : goal.returns-in_err-self-inside
returns-in_err-self-inside g c =
    let few : c.self.inside.given < most_lines = omega arith in
    let failed : c.from_residual-in_err-self-inside.result ≡ Err c.in_err-self-inside.field-0.0 = search rules in
    rw (← c.self.view_is) (refuses_here _ _ _ _ (g.I.Inputs.told c.args.inputs.now) (g.I.Inputs.told c.begins_line.new.inputs) (g.I.Inputs.told c.end_line.new.inputs) _ c.drop_front.ensures c.in_ok-begins_line.ensures _ _ failed few c.in_err-self-inside.ensures)

pub invariant_of-self-2 : goal.invariant_of-self-2
invariant_of-self-2 g c =
    let within = line_within is_feed c.end_line.new.held in
    (omega (arith, within, c.in_ok-self-inside.ensures.line), omega (arith, c.min-self-inside.ensures, c.len.ensures), omega arith)

pub returns : goal.returns
returns g c =
    let few : c.self.inside.given < most_lines = omega arith in
    let yes : c.in_ok-begins_line.field-0 ≡ true = search (rules, tests) in
    let taken : c.min-self-inside.result ≡ min (length c.end_line.new.held) (c.in_ok-self-inside.field-0 + 1) = search rules in
    rw (← c.self.view_is) (gives_here _ _ _ _ (g.I.Inputs.told c.args.inputs.now) (g.I.Inputs.told c.begins_line.new.inputs) (g.I.Inputs.told c.end_line.new.inputs) _ c.drop_front.ensures c.in_ok-begins_line.ensures _ _ yes few c.in_ok-self-inside.ensures taken)
