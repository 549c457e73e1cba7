use Rattle.std.proofs.Common.{◌≡◌, ◌==◌, false, sym, ap, subst, ◌∙◌, slice_index, Some, Option}
use Rattle.std.specs.Prelude.{IfSome}
use Rattle.fast_float.specs.Text.{minus, scan}
use Rattle.serde_json.specs.Data.{Num, unsigned}
use Rattle.serde_json.specs.Read.{number_of, number_from}
use Rattle.command_reader.proofs.number.whole_number.Goals as goal

pub returns : goal.returns
unfolding number_of
returns c =
    let s = c.as_bytes-bytes.result.now in
    let plain : (slice_index s 0 == minus) ≡ false = sym c.begins_with_minus.ensures ∙ c.if-begins_with_minus.false in
    let read : number_from false (scan s) ≡ number_of s = rw plain in
    let same : number_from false c.scan.result ≡ number_of c.args.text.now = ap (number_from false) c.scan.ensures.parts ∙ read ∙ ap number_of c.as_bytes-bytes.ensures.value in
    subst (λ (o : Option Num). IfSome c.without_sign.result (λ number. o ≡ Some (unsigned number))) same c.without_sign.ensures
