-- Worked figures: the definitions compute them, and a wrong one is refused at its line.
use Rattle.std.proofs.Common.{◌≡◌, refl, pos, neg_ℤ, ℤ, codes, Option, Some, None}
use Rattle.fixed_units.specs.Numbers.{rounded}
use Rattle.css_lengths.specs.Lengths.{trimmed, is_negative, behind_sign, digits_in_front, behind_digits, fraction_of, number_of, unit_of, unit_at, length_of, size_of, resolved}
use Rattle.css_lengths.specs.declared.lengths.LengthText.{LengthText}
use Rattle.css_lengths.specs.declared.lengths.Unit.{Unit as LengthUnit}
use Rattle.css_lengths.specs.declared.lengths.Unit.TheVariants.{Em, Px, Pt, Inch, Quarter, Percent}

abbrev written : ℤ → LengthUnit → Option LengthText
written millionths unit = Some (record { millionths = millionths; unit = unit })

-- white space, a sign, no digit before the point, a unit in capitals
pub length-minus_half_em : length_of (codes " -.5EM ") ≡ written (neg_ℤ (pos 500000)) Em
unfolding length_of trimmed is_negative behind_sign number_of digits_in_front behind_digits fraction_of unit_at unit_of
length-minus_half_em = refl

-- without a unit 0 is a length, and no other number
pub length-zero : length_of (codes "0") ≡ written (pos 0) Px
unfolding length_of trimmed is_negative behind_sign number_of digits_in_front behind_digits fraction_of unit_at unit_of
length-zero = refl

pub length-one : length_of (codes "1") ≡ None
unfolding length_of trimmed is_negative behind_sign number_of digits_in_front behind_digits fraction_of unit_at unit_of
length-one = refl

-- what is past the sixth digit is dropped, also where the number then is 0
pub length-seven_digits : length_of (codes "1.0000019px") ≡ written (pos 1000001) Px
unfolding length_of trimmed is_negative behind_sign number_of digits_in_front behind_digits fraction_of unit_at unit_of
length-seven_digits = refl

pub length-all_dropped : length_of (codes "0.0000009") ≡ written (pos 0) Px
unfolding length_of trimmed is_negative behind_sign number_of digits_in_front behind_digits fraction_of unit_at unit_of
length-all_dropped = refl

-- a point has a digit behind it
pub length-five_point : length_of (codes "5.") ≡ None
unfolding length_of trimmed is_negative behind_sign number_of digits_in_front behind_digits fraction_of unit_at unit_of
length-five_point = refl

pub length-empty : length_of (codes "") ≡ None
unfolding length_of trimmed is_negative behind_sign number_of digits_in_front behind_digits fraction_of unit_at unit_of
length-empty = refl

pub length-ten_digits : length_of (codes "1234567890px") ≡ None
unfolding length_of trimmed is_negative behind_sign number_of digits_in_front behind_digits fraction_of unit_at unit_of
length-ten_digits = refl

pub length-inner_space : length_of (codes "3 px") ≡ None
unfolding length_of trimmed is_negative behind_sign number_of digits_in_front behind_digits fraction_of unit_at unit_of
length-inner_space = refl

abbrev units : ℤ → LengthUnit → ℤ
units millionths unit = resolved (record { millionths = millionths; unit = unit }) (pos 16384) (pos 7537) (pos 5001)

pub resolved-inch : units (pos 1000000) Inch ≡ pos 98304
unfolding resolved size_of rounded
resolved-inch = refl

-- 1365 and a third
pub resolved-point : units (pos 1000000) Pt ≡ pos 1365
unfolding resolved size_of rounded
resolved-point = refl

-- 967.559
pub resolved-quarter : units (pos 1000000) Quarter ≡ pos 968
unfolding resolved size_of rounded
resolved-quarter = refl

-- a tie goes to the larger number: 2500.5, and its opposite
pub resolved-half : units (pos 50000000) Percent ≡ pos 2501
unfolding resolved size_of rounded
resolved-half = refl

pub resolved-minus_half : units (neg_ℤ (pos 50000000)) Percent ≡ neg_ℤ (pos 2500)
unfolding resolved size_of rounded
resolved-minus_half = refl
