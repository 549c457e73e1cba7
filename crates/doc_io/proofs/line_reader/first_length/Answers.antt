use Rattle.std.proofs.Common.{rules, tests}
use Rattle.std.proofs.lemmas.Iterator.{YieldsList-from_slice}
use Rattle.std.proofs.lemmas.Iterator.Search.{position_from_yields_List}
use Rattle.doc_io.specs.LineReader.{is_feed}
use Rattle.doc_io.proofs.FirstLines.{found_line, no_line}
use Rattle.doc_io.proofs.line_reader.first_length.Goals as goal

pub returns-in-Some-clause-length : goal.returns-in-Some-clause-length
returns-in-Some-clause-length c =
    found_line is_feed c.args.bytes.now c.position.result c.in-Some.end
    (position_from_yields_List is_feed _ _ c.position.result c.position.ensures.ran (YieldsList-from_slice c.args.bytes.now c.iter.ensures.rest) (λ x b q k. search (rules, tests)))
    c.in-Some.is

pub returns-in-None-clause-length : goal.returns-in-None-clause-length
returns-in-None-clause-length c =
    no_line is_feed c.args.bytes.now c.position.result
    (position_from_yields_List is_feed _ _ c.position.result c.position.ensures.ran (YieldsList-from_slice c.args.bytes.now c.iter.ensures.rest) (λ x b q k. search (rules, tests)))
    c.in-None.is
