use Rattle.std.proofs.Common.{◌∙◌, sym, ap, []}
use Rattle.std.specs.Str.Iter.{split_ascii_whitespace_text}
use Rattle.embellished.specs.Texts.{pieces_of, joined}
use Rattle.embellished.proofs.Pieces.{with_pieces, joined_from_nothing, pieces_have_bytes, piece_cut_off, white_alone}
use Rattle.embellished.proofs.texts.joined.Goals as goal

pub loop-piece-init : goal.loop-piece-init
unfolding joined
loop-piece-init c =
    let text = c.args.text.now in
    ap (λ m. with_pieces m (pieces_of (split_ascii_whitespace_text c.into_iter-piece-iterator.result))) c.new-made.ensures.bytes
    ∙ ap (λ s. with_pieces [] (pieces_of (split_ascii_whitespace_text s))) c.into_iter-piece-iterator.ensures.into_iter_gives
    ∙ ap (λ t. with_pieces [] (pieces_of t)) c.split_ascii_whitespace-piece-items.ensures.text
    ∙ joined_from_nothing (pieces_of text) (pieces_have_bytes text)

pub loop-piece-preserved : goal.loop-piece-preserved
loop-piece-preserved c =
    let rest = split_ascii_whitespace_text c.next.new.self in
    let cut = (c.in-Some.ensures {u = tt}).steps in
    let parts = cut.3 in
    ap (λ m. with_pieces m (pieces_of rest)) (c.in_ok-add_piece.ensures {u = tt})
    ∙ ap (with_pieces _) (sym (piece_cut_off _ parts.0 _ parts.1 rest parts.2 parts.3 cut.0 cut.1 parts.4))
    ∙ c.loop-piece.invariant

pub returns : goal.returns
returns c = sym (ap (with_pieces _) (white_alone _ (c.in-None.ensures {u = tt}).steps.0)) ∙ c.loop-piece.invariant
