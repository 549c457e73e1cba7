-- room for what is put, and how much is put
use Rattle.std.proofs.Common.{arith, ◌∙◌}
use Rattle.outcome_cells.proofs.encode.put_mark.Goals as goal

pub put-requires : goal.put-requires
put-requires c = record { room = let room = c.requires.room in omega (arith, room) }

pub put_four-requires : goal.put_four-requires
put_four-requires c =
    record { room = let room = c.requires.room in let len = c.put.ensures.len in let same = c.put.ensures.room in omega (arith, room, len, same) }

pub put-requires-in-Rule : goal.put-requires-in-Rule
put-requires-in-Rule c = record { room = let room = c.requires.room in omega (arith, room) }

pub put_four-requires-in-Rule : goal.put_four-requires-in-Rule
put_four-requires-in-Rule c =
    record {
      room =
          let room = c.requires.room in
          let len = c.put-in-Rule.ensures.len in
          let same = c.put-in-Rule.ensures.room in
          omega (arith, room, len, same);
    }

pub returns-in-Glyph-clause-len : goal.returns-in-Glyph-clause-len
returns-in-Glyph-clause-len c = let first = c.put.ensures.len in let four = c.put_four.ensures.len in omega (arith, first, four)

pub returns-in-Glyph-clause-room : goal.returns-in-Glyph-clause-room
returns-in-Glyph-clause-room c = c.put_four.ensures.room ∙ c.put.ensures.room

pub returns-in-Rule-clause-len : goal.returns-in-Rule-clause-len
returns-in-Rule-clause-len c =
    let first = c.put-in-Rule.ensures.len in let four = c.put_four-in-Rule.ensures.len in omega (arith, first, four)

pub returns-in-Rule-clause-room : goal.returns-in-Rule-clause-room
returns-in-Rule-clause-room c = c.put_four-in-Rule.ensures.room ∙ c.put-in-Rule.ensures.room

pub returns-in-Built-clause-len : goal.returns-in-Built-clause-len
returns-in-Built-clause-len c = let all = c.put_all.ensures.len in omega (arith, all)

pub returns-in-Built-clause-room : goal.returns-in-Built-clause-room
returns-in-Built-clause-room c = c.put_all.ensures.room
