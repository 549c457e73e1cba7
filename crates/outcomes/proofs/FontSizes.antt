-- A font size comes back from its bits.
use Rattle.std.proofs.Common.{◌≡◌, ℤ, pos, ◌^◌, ◌≤ℤ◌, arith, lit<, to_z, of_z, w64}
use Rattle.std.proofs.lemmas.Int.{to_z-of_z}
use Rattle.fixed_units.specs.Numbers.{IsWithin}
use Rattle.fixed_units.proofs.Signed.{signed}
use Rattle.fixed_units.proofs.Within.{fits_i64}

pub size_back : (size : ℤ) → pos 0 ≤ℤ size → size ≤ℤ pos (2 ^ 20) → to_z w64 (of_z w64 size) ≡ size
size_back size low high =
    let within : IsWithin (2 ^ 20) size = record { low = omega (arith, signed, low); high = high } in
    to_z-of_z w64 size (fits_i64 within (lit< tt))
