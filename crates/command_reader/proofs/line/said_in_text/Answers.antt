use Rattle.std.proofs.Common.{◌≡◌, [], Some, rules}
use Rattle.json.specs.Json.{value}
use Rattle.serde_json.specs.Read.{converted, of_json, read}
use Rattle.tree_reader.proofs.Members.{whole_text}
use Rattle.tree_reader.proofs.Found.{found_too}
use Rattle.command_reader.specs.Said.{line_of}
use Rattle.command_reader.proofs.line.said_in_text.Goals as goal

pub returns : goal.returns
returns c =
    let none : c.members.new.reader ≡ [] = search rules in
    found_too (λ said. converted of_json (value 127 c.in_ok-reader.reader) ≡ Some (line_of said, c.members.new.reader)) (λ said. read c.args.text.now ≡ Some (line_of said))
    (λ said is. whole_text c.args.text.now (line_of said) (rw (c.in_ok-reader.ensures.ok, none) at is)) c.in_ok-found.found c.in_ok-found.ensures
