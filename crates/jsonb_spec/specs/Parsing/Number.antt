-- Where a standard number ends, and which number it is.
use Rattle.std.specs.Prelude.{◌≡◌, ⊤, ◌⊎◌, ℕ, ◌+◌, ◌-◌, ◌==◌, ◌||◌, ◌&&◌, ◌^◌, Bool, true, false, List, [], ◌∷◌, take, drop, length, nat_lt, nat_le, pos, neg_ℤ, slice_index, if◌then◌else◌, Option, Some, None, Result, Ok, Err}
use Rattle.std.specs.Char.{IsAsciiDigit, is_ascii_digit}
use Rattle.std.specs.Int.{from_bool}
use Rattle.std.specs.List.{prefix_len}
use Rattle.std.specs.Str.Parse.{digits_value}
use Rattle.jsonb_spec.specs.Ascii as ascii
use Rattle.jsonb_spec.specs.Code.{invalid_number_value, number_not_carried}
use Rattle.jsonb_spec.specs.Grammar.StandardNumber.{IsExponentMark}
use Rattle.jsonb_spec.specs.Tree.{int64, uint64, Num}
use Rattle.jsonb_spec.specs.Parsing.{Parse, fault}

-- ---- where a number text ends

-- the index after a text, or the offset of a fault
abbrev pub End : Type 0
End = Result ℕ ℕ

-- the end, and what is parsed from there on
abbrev pub then_from : End → (ℕ → End) → End
then_from (Ok end) f = f end
then_from (Err offset) f = Err offset

-- how many digits the bytes begin with
unfoldable pub digits_length : List ℕ → ℕ
digits_length bytes = prefix_len is_ascii_digit bytes

-- the index after the digits from start on
abbrev pub digits_from : List ℕ → ℕ → ℕ
digits_from bytes start = start + digits_length (drop start bytes)

-- the index after a sign, if one is there
abbrev pub sign_end : List ℕ → ℕ → ℕ
sign_end bytes start =
    if (slice_index bytes start == ascii.plus) || (slice_index bytes start == ascii.minus) then start + 1 else start

-- the index after an exponent, if one is there: a digit is due behind its mark and sign
unfoldable pub exponent_from : List ℕ → ℕ → End
exponent_from bytes start =
    if (slice_index bytes start == ascii.lower_e) || (slice_index bytes start == ascii.upper_e)
    then (if digits_length (drop (sign_end bytes (start + 1)) bytes) == 0 then Err (sign_end bytes (start + 1))
    else Ok (digits_from bytes (sign_end bytes (start + 1))))
    else Ok start

-- the index after a fraction, if one is there: a digit is due behind its point
unfoldable pub fraction_from : List ℕ → ℕ → End
fraction_from bytes start =
    if slice_index bytes start == ascii.point
    then (if digits_length (drop (start + 1) bytes) == 0 then Err (start + 2)
    else Ok (digits_from bytes (start + 1))) else Ok start

-- the index after digits without a needless zero: a digit is due
unfoldable pub whole_from : List ℕ → ℕ → End
whole_from bytes start =
    if digits_length (drop start bytes) == 0 then Err start
    else (if (slice_index bytes start == ascii.digit_zero) && nat_lt 1 (digits_length (drop start bytes))
    then Err (start + 2)
    else Ok (digits_from bytes start))

-- whether the bytes begin with a minus
abbrev pub has_minus : List ℕ → Bool
has_minus bytes = slice_index bytes 0 == ascii.minus

-- the index at which the whole part is due
abbrev pub whole_start : List ℕ → ℕ
whole_start bytes = from_bool (has_minus bytes)

-- the index after the standard number text that the bytes begin with
unfoldable pub standard_end : List ℕ → End
standard_end bytes =
    then_from (then_from (whole_from bytes (whole_start bytes)) (fraction_from bytes)) (exponent_from bytes)

-- ---- which number it is

-- the integer of digits with this value, where its type holds it
abbrev pub integer_of : Bool → ℕ → Option Num
integer_of false value = if nat_lt value (2 ^ 64) then Some (record { form = uint64; scale = 0; whole = pos value })
    else None
integer_of true value = if nat_le value (2 ^ 63)
    then Some (record { form = int64; scale = 0; whole = neg_ℤ (pos value) }) else None

-- the digits of the whole part
abbrev pub whole_digits : List ℕ → List ℕ
whole_digits bytes = take (digits_length (drop (whole_start bytes) bytes)) (drop (whole_start bytes) bytes)

-- the number of the text that ends here, which must be an integer
unfoldable pub integer_at : List ℕ → ℕ → Option Num
integer_at bytes end = if digits_from bytes (whole_start bytes) == end
    then integer_of (has_minus bytes) (digits_value 10 (whole_digits bytes)) else None

-- the number and the bytes after it; without a number the fault at these
abbrev pub representable_at : ℕ → List ℕ → Option Num → Parse Num
representable_at size rest (Some n) = Ok (n, rest)
representable_at size rest None = fault number_not_carried (size - length rest)

abbrev pub number_to : ℕ → List ℕ → End → Parse Num
number_to size bytes (Ok end) = representable_at size (drop end bytes) (integer_at bytes end)
number_to size bytes (Err offset) = fault invalid_number_value (size - length bytes + offset)

-- the number of the longest standard number text that the bytes begin with
unfoldable pub standard_number_at : ℕ → List ℕ → Parse Num
standard_number_at size bytes = number_to size bytes (standard_end bytes)

-- ---- the bytes around a number

-- a byte at which a standard number may begin: a digit or a minus
abbrev pub is_number_start : ℕ → Bool
is_number_start b = is_ascii_digit b || (b == ascii.minus)

-- a byte that goes on with a number after its whole part: a point or an exponent mark
abbrev pub ContinuesAfterInteger : ℕ → Type 0
ContinuesAfterInteger b = (b ≡ ascii.point) ⊎ IsExponentMark b

-- a byte that goes on with a number: a digit, a point or an exponent mark
abbrev pub ContinuesNumber : ℕ → Type 0
ContinuesNumber b = IsAsciiDigit b ⊎ ContinuesAfterInteger b

-- the bytes don't go on with a number
abbrev pub IsNumberBoundary : List ℕ → Type 0
IsNumberBoundary [] = ⊤
IsNumberBoundary (b ∷ bytes) = ¬ ContinuesNumber b
