use Rattle.std.proofs.Common.{◌∙◌, sym, ap, subst, chars, string_bytes, encode_utf8_all}
use Rattle.std.proofs.lemmas.Str.{encodes-chars}
use Rattle.std.specs.Str.{IsUtf8}
use Rattle.unicode_normalization.proofs.IterLemmas.{Spells-chars}
use Rattle.embellished.proofs.texts.composed.Goals as goal

-- what spells a text in normal form is that text
pub returns-in-Yes : goal.returns-in-Yes
returns-in-Yes c =
    let bytes = string_bytes c.args.text in
    let utf8 = subst IsUtf8 c.as_str.ensures.value c.as_str.utf8 in
    let spelt = Spells-chars c.chars.result bytes utf8 (c.chars.ensures.rest ∙ c.as_str.ensures.value) in
    let form = c.is_nfc_quick.ensures.yes (chars bytes) spelt c.in-Yes.is in
    sym (ap encode_utf8_all form ∙ encodes-chars bytes utf8)
