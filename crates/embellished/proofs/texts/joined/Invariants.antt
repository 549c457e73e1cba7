use Rattle.std.proofs.Common.{◌≡◌, string_bytes}
use Rattle.std.specs.Str.Iter.{split_ascii_whitespace_text}
use Rattle.embellished.specs.Texts.{pieces_of, joined}
use Rattle.embellished.proofs.Pieces.{with_pieces}
use Rattle.embellished.proofs.texts.joined.Given as goal

-- with the pieces that are left, it is the whole
abbrev pub invariant-loop-piece : goal.invariant-loop-piece
invariant-loop-piece l =
    with_pieces (string_bytes l.made) (pieces_of (split_ascii_whitespace_text l.piece-iterator)) ≡ joined l.text
