use Rattle.std.proofs.Common.{refl}
use Rattle.std.proofs.lemmas.Str.Ascii.{trim_ascii_is}
use Rattle.css_lengths.specs.Lengths.{trimmed, without_start}
use Rattle.css_lengths.proofs.reading.trim.Goals as goal

pub returns : goal.returns
unfolding trimmed
returns c = trim_ascii_is c.args.text.now _ (without_start c.args.text.now) refl c.trim_ascii.ensures.value
