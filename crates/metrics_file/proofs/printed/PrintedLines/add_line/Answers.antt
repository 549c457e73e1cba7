use Rattle.std.proofs.Common.{◌∷◌, ◌++◌, ◌∙◌, ap, map}
use Rattle.std.proofs.lemmas.List.{take_all}
use Rattle.std.proofs.lemmas.Option.{slice_get-get_or}
use Rattle.std.proofs.lemmas.Result.{on_ok_weaker}
use Rattle.std.specs.List.{join_with_byte}
use Rattle.metrics_file.specs.Print.{word_text}
use Rattle.metrics_file.proofs.Printing.{word-more, line-end}
use Rattle.metrics_file.proofs.printed.PrintedLines.add_line.Goals as goal

pub loop-word-preserved : goal.loop-word-preserved
loop-word-preserved c =
    word-more word_text c.args.self.now c.args.keyword.now c.args.words.now c.loop-word.word-index _ _ _ _
    (slice_get-get_or c.args.words.now c.loop-word.word-index _ c.loop-word-test.true) c.loop-word.invariant
    c.in_ok-add_text-2.ensures c.in_ok-add_word.ensures

pub returns : goal.returns
returns c =
    on_ok_weaker c.add_text-2.result
    (line-end c.args.self.now c.args.keyword.now (map word_text c.args.words.now) _ _
    (c.loop-word.invariant
    ∙ ap (λ words. c.args.self.now ++ join_with_byte 32 (c.args.keyword.now ∷ map word_text words))
    (take_all c.loop-word.word-index c.args.words.now c.loop-word-test.false)))
    c.add_text-2.ensures
