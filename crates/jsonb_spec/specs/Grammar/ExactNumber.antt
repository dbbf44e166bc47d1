-- Numbers at their exact value: a decimal, and an exponent or none, by which its point is moved.
use Rattle.std.specs.Prelude.{◌≡◌, ◌⊎◌, ℕ, ◌+◌, ◌-◌, ◌*◌, ◌^◌, ◌<◌, ◌≤◌, ◌==◌, ◌&&◌, nat_lt, nat_le, int_le, int_lt, ℤ, pos, neg_ℤ, Bool, List, [], ◌∷◌, ◌++◌, length, Option, if◌then◌else◌, unsigned_abs}
use Rattle.std.specs.Option.{unwrap_or}
use Rattle.std.specs.Str.Parse.{IsNumeral, digits_value, starts_with_minus}
use Rattle.jsonb_spec.specs.Ascii as ascii
use Rattle.jsonb_spec.specs.Number.Signed.{signed_by}
use Rattle.jsonb_spec.specs.Grammar.StandardNumber.{IsExponentMark, IsStandardText}
use Rattle.jsonb_spec.specs.Grammar.ExtendedNumber.{HasDecimalParts, IsHexadecimalNumber}
use Rattle.jsonb_spec.specs.Tree.{Form, int64, uint64, decimal64, decimal128, Num}

-- How far these bytes move a point, to the right and to the left: nothing moves it; an exponent mark and digits, with a
-- plus or none before them, to the right; and with a minus to the left (RFC 8259, section 6).
pub data Moves : List ℕ → ℕ → ℕ → Type 0 where
  no_exponent : Moves [] 0 0
  to_the_right : {mark : ℕ} {sign : List ℕ} (digits : List ℕ) → IsExponentMark mark
      → (sign ≡ []) ⊎ (sign ≡ ascii.plus ∷ []) → IsNumeral 10 digits → Moves (mark ∷ (sign ++ digits)) (digits_value 10 digits) 0
  to_the_left : {mark : ℕ} (digits : List ℕ) → IsExponentMark mark → IsNumeral 10 digits
      → Moves (mark ∷ ascii.minus ∷ digits) 0 (digits_value 10 digits)

-- The first form that holds `value / 10^scale`. A decimal of 64 bits has at most 18 digits.
unfoldable pub exact_form : ℕ → ℤ → Form
exact_form scale value =
    if (scale == 0) && (int_le (pos 0) value && int_lt value (pos (2 ^ 64))) then uint64
    else (if (scale == 0) && (int_le (neg_ℤ (pos (2 ^ 63))) value && int_lt value (pos 0)) then int64
    else (if nat_le scale 18 && nat_lt (unsigned_abs value) (10 ^ 18) then decimal64 else decimal128))

-- `value / 10^scale`, in the first form that holds it
abbrev pub exact_number : ℕ → ℤ → Num
exact_number scale value = record { form = exact_form scale value; scale = scale; whole = value }

-- Digits with this value, of which so many are behind the point, once the point is moved: no digit is dropped, and none
-- is added behind the point. So 1.50e1 is 15.0, and 15e-1 is 1.5.
unfoldable pub moved_number : Bool → ℕ → ℕ → ℕ → ℕ → Num
moved_number negative value behind right left =
    exact_number ((behind + left) - right) (signed_by negative (value * 10 ^ (right - behind)))

-- The bytes are a decimal, and an exponent or none, and n is its number: where it is written out, at most 38 digits are
-- behind the point, and at most 38 count.
pub record IsExactDecimal (bytes : List ℕ) (n : Num) : Type 0 where
  pub front : List ℕ
  pub exponent : List ℕ
  pub joined : bytes ≡ front ++ exponent
  pub sign : List ℕ
  pub zeros : List ℕ
  pub whole : List ℕ
  pub fraction : Option (List ℕ)
  pub parts : HasDecimalParts front sign zeros whole fraction
  pub right : ℕ
  pub left : ℕ
  pub moves : Moves exponent right left
  pub value : n ≡ moved_number (starts_with_minus sign) (digits_value 10 (whole ++ unwrap_or fraction []))
      (length (unwrap_or fraction [])) right left
  pub few_behind : n.scale ≤ 38
  pub few : unsigned_abs n.whole < 10 ^ 38

-- a number text of RFC 8259 (section 6), and its exact value
abbrev pub IsJsonNumber : List ℕ → Num → Type 0
IsJsonNumber bytes n = IsStandardText bytes × IsExactDecimal bytes n

-- a decimal of extended mode with an exponent or none, or a hexadecimal
abbrev pub IsExtendedJsonNumber : List ℕ → Num → Type 0
IsExtendedJsonNumber bytes n = IsExactDecimal bytes n ⊎ IsHexadecimalNumber bytes n
