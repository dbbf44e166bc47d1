-- What is behind a point, and the digits of a decimal that count.
use Rattle.std.proofs.Common.{List, [], ◌∷◌, ℕ, ◌+◌, ◌++◌, length, Option, ℤ}
use Rattle.std.specs.Option.{unwrap_or, option_map_or}
use Rattle.std.specs.Str.Parse.{digits_value, starts_with_minus}
use Rattle.jsonb_spec.specs.Number.Signed.{signed_by}

-- the digits behind the point, none where there is no point
abbrev pub fraction_digits : Option (List ℕ) → List ℕ
fraction_digits fraction = unwrap_or fraction []

-- nothing, or a point and the digits behind it
abbrev pub fraction_text : Option (List ℕ) → List ℕ
fraction_text fraction = option_map_or (λ digits. 46 ∷ digits) fraction []

-- how many digits count
abbrev pub precision_of : List ℕ → Option (List ℕ) → ℕ
precision_of whole fraction = length whole + length (fraction_digits fraction)

-- the whole number that the digits write, without the point
abbrev pub value_of : List ℕ → List ℕ → Option (List ℕ) → ℤ
value_of sign whole fraction = signed_by (starts_with_minus sign) (digits_value 10 (whole ++ fraction_digits fraction))
