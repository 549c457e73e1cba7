use Rattle.std.proofs.Common.{◌≡◌, None, Some, true, arith, rules}
use Rattle.json.specs.Json.{read_key}
use Rattle.serde_json.specs.Read.{max_depth}
use Rattle.tree_reader.proofs.Open.{ended, opened}
use Rattle.command_reader.specs.Said.{SaysMore, members_said}
use Rattle.command_reader.proofs.line.members.Goals as goal

pub members-init : goal.members-init
members-init c =
    let yes : c.begins_object.result ≡ true = search rules in
    rw c.nothing-said.ensures (opened max_depth c.args.reader.now c.begins_object.new.reader (omega arith) (c.begins_object.ensures yes))

pub returns-in-End : goal.returns-in-End
returns-in-End c =
    let l = c.members in
    let last : read_key l.reader ≡ Some (None, c.next_key.new.reader) = search rules in
    ended max_depth c.args.reader.now l.reader c.next_key.new.reader (members_said l.said) l.invariant last

pub members-preserved : goal.members-preserved
members-preserved c =
    let l = c.members in
    let given : c.in_ok-member.field-0 ≡ true = search rules in
    let more : SaysMore c.in-Some.key c.next_key.new.reader l.said c.member.new.reader c.member.new.said = c.in_ok-member.ensures given in
    more.goes c.args.reader.now l.reader l.invariant c.in-Some.ensures
