use Rattle.std.proofs.Common.{◌≡◌, ◌+◌, ◌-◌, ◌≤◌, length}
use Rattle.std.specs.List.{position_or_len}
use Rattle.doc_io.specs.LineEnds.{TakesMore}
use Rattle.doc_io.specs.LineReader.{HoldsLine, is_feed, longest_line}
use Rattle.doc_io.proofs.line_reader.end_line.Given as goal

-- as far as bytes are held, the line has this length
abbrev pub invariant-loop-length : goal.invariant-loop-length
invariant-loop-length g l =
    let before = g.I.Inputs.told l.fn.inputs in
    let now = g.I.Inputs.told l.inputs in
    record {
      line : l.length ≡ position_or_len is_feed l.held;
      bytes : TakesMore before now l.fn.held l.held;
      unread : HoldsLine l.fn.held → now ≡ before;
      files : now.files ≡ before.files;
      faults : before.faults ≤ now.faults;
      missing : now.missing ≡ before.missing;
    }

abbrev pub decreases-loop-length : goal.decreases-loop-length
decreases-loop-length g l = longest_line + 1 - length l.held
