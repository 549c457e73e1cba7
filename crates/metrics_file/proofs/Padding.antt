-- The digits that are written with a width of 4 and zeros before them.
use Rattle.std.proofs.Common.{◌≡◌, refl, ℕ, ◌-◌, true, false, [], length, append-nil, arith}
use Rattle.std.specs.Fmt.{digits, padded_integral, format_spec, char_count}
use Rattle.metrics_file.specs.Print.{code_text}

pub code_text-written : (code : ℕ)
    → padded_integral (format_spec 32 0 4 4 18446744073709551615) false [] (digits 16 true code) ≡ code_text code
unfolding padded_integral char_count
code_text-written code =
    let none : 4 - length (digits 16 true code) - 0 - 0 ≡ 4 - length (digits 16 true code) = omega arith in
    rw (none, append-nil) refl
