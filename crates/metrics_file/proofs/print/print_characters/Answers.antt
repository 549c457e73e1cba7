use Rattle.std.proofs.Common.{ℕ, length}
use Rattle.std.proofs.lemmas.List.Elements.{All-rest}
use Rattle.font_metrics.specs.Metrics.{name_at}
use Rattle.metrics_file.specs.Print.{character_words}
use Rattle.font_metrics.specs.Taken.{IsCharacter}
use Rattle.metrics_file.proofs.Printing.{next-of, rest-more}
use Rattle.metrics_file.proofs.print.print_characters.Goals as goal

pub name-name-requires : goal.name-name-requires
name-name-requires c =
    (next-of (IsCharacter (length c.args.metrics.now.glyphs)) _ _ (c.in-Some.letter.now, c.in-Some.place.now)
    c.in-Some.ensures.steps c.loop-letter.invariant.characters).1

pub loop-letter-preserved : goal.loop-letter-preserved
unfolding name_at
loop-letter-preserved c =
    let character : ℕ × ℕ = (c.in-Some.letter.now, c.in-Some.place.now) in
    record {
      characters = All-rest (IsCharacter (length c.args.metrics.now.glyphs)) character _ _ c.in-Some.ensures.steps
          c.loop-letter.invariant.characters;
      lines = rest-more (character_words c.args.metrics.now.glyphs) _ _ character _ _ _ c.in-Some.ensures.steps
          c.loop-letter.invariant.lines (rw c.name-name.ensures at c.in_ok-add_line.ensures);
    }
