-- Where an extended number ends, and which number it is.
use Rattle.std.specs.Prelude.{◌≡◌, ⊤, ◌⊎◌, ℕ, ◌+◌, ◌-◌, ◌<◌, ◌^◌, ◌==◌, ◌||◌, ◌&&◌, Bool, List, [], ◌∷◌, ◌++◌, take, drop, length, codes, nat_lt, nat_le, slice_index, slice_range, if◌then◌else◌, Option, Some, None, Result, Ok, Err}
use Rattle.std.specs.Char.{digit_value, to_ascii_lowercase}
use Rattle.std.specs.List.{prefix_len}
use Rattle.std.specs.Str.Parse.{digits_value, starts_with_minus}
use Rattle.jsonb_spec.specs.Ascii as ascii
use Rattle.jsonb_spec.specs.Code.{Code, invalid_eof, invalid_number_value, expected_some_ident}
use Rattle.jsonb_spec.specs.Grammar.ExtendedNumber.{decimal_number, hexadecimal_number}
use Rattle.jsonb_spec.specs.Number.Signed.{signed_by}
use Rattle.jsonb_spec.specs.Tree.{Num}
use Rattle.jsonb_spec.specs.Parsing.{Parse, fault}
use Rattle.jsonb_spec.specs.Parsing.Number.{End, ContinuesAfterInteger, sign_end, digits_from, exponent_from, representable_at, is_number_start}

-- A number text's number, if a form holds it, and the index after the text; or the fault and its offset.
abbrev pub Scanned : Type 0
Scanned = Result (Option Num × ℕ) (Code × ℕ)

-- the number and the bytes after it, or a fault
abbrev pub scanned_to : ℕ → List ℕ → Scanned → Parse Num
scanned_to size bytes (Ok x) = representable_at size (drop x.1 bytes) x.0
scanned_to size bytes (Err f) = fault f.0 (size - length bytes + f.1)

-- the index after the sign, if one is there
abbrev pub core_start : List ℕ → ℕ
core_start bytes = sign_end bytes 0

-- the first byte after the sign
abbrev pub core_byte : List ℕ → ℕ
core_byte bytes = slice_index bytes (core_start bytes)

-- ---- decimals

-- how many zeros the bytes begin with
unfoldable pub zeros_length : List ℕ → ℕ
zeros_length bytes = prefix_len (λ b. b == ascii.digit_zero) bytes

-- the index after the zeros from start on
abbrev pub zeros_from : List ℕ → ℕ → ℕ
zeros_from bytes start = start + zeros_length (drop start bytes)

-- the index after a point, if one is there
abbrev pub point_from : List ℕ → ℕ → ℕ
point_from bytes start = if slice_index bytes start == ascii.point then start + 1 else start

-- the index after the digits behind a point, if one is there
abbrev pub behind_from : List ℕ → ℕ → ℕ
behind_from bytes start = if slice_index bytes start == ascii.point then digits_from bytes (start + 1) else start

-- where the parts of a decimal end: its zeros, all digits before the point, the point, and the digits behind it
abbrev pub zeros_end : List ℕ → ℕ
zeros_end bytes = zeros_from bytes (core_start bytes)

abbrev pub front_end : List ℕ → ℕ
front_end bytes = digits_from bytes (core_start bytes)

abbrev pub point_end : List ℕ → ℕ
point_end bytes = point_from bytes (front_end bytes)

abbrev pub behind_end : List ℕ → ℕ
behind_end bytes = behind_from bytes (front_end bytes)

-- how many digits are behind the point
abbrev pub scale_at : List ℕ → ℕ
scale_at bytes = behind_end bytes - point_end bytes

-- how many digits count
abbrev pub precision_at : List ℕ → ℕ
precision_at bytes = front_end bytes - zeros_end bytes + scale_at bytes

-- whether no digit is before and behind the point
abbrev pub lacks_digits : List ℕ → Bool
lacks_digits bytes = front_end bytes - core_start bytes + scale_at bytes == 0

-- whether a second point follows, before so many digits were parsed that it ends the number
abbrev pub has_second_point : List ℕ → Bool
has_second_point bytes = nat_lt (front_end bytes) (point_end bytes)
    && (nat_lt (precision_at bytes) 76 && (slice_index bytes (behind_end bytes) == ascii.point))

-- the index after a decimal number text that the bytes begin with
unfoldable pub decimal_end : List ℕ → End
decimal_end bytes =
    if lacks_digits bytes then Err (point_end bytes)
    else (if has_second_point bytes then Err (behind_end bytes) else exponent_from bytes (behind_end bytes))

-- its digits, without the point
abbrev pub all_digits : List ℕ → List ℕ
all_digits bytes = slice_range bytes (core_start bytes) (front_end bytes)
    ++ slice_range bytes (point_end bytes) (behind_end bytes)

-- the number of the text that ends here, which must be without an exponent and have at most 38 digits that count
unfoldable pub decimal_at : List ℕ → ℕ → Option Num
decimal_at bytes end =
    if (behind_end bytes == end) && nat_le (precision_at bytes) 38
    then Some
    (decimal_number (scale_at bytes) (precision_at bytes)
    (signed_by (starts_with_minus bytes) (digits_value 10 (all_digits bytes)))) else None

abbrev pub decimal_to : List ℕ → End → Scanned
decimal_to bytes (Ok end) = Ok (decimal_at bytes end, end)
decimal_to bytes (Err offset) = Err (invalid_number_value, offset)

-- the decimal that the bytes begin with
unfoldable pub decimal_scan : List ℕ → Scanned
decimal_scan bytes = decimal_to bytes (decimal_end bytes)

-- ---- hexadecimals

-- a fault inside a number text
abbrev pub invalid : ℕ → Scanned
invalid offset = Err (invalid_number_value, offset)

-- how many hexadecimal digits the bytes begin with
unfoldable pub hexadecimal_length : List ℕ → ℕ
hexadecimal_length bytes = prefix_len (λ b. nat_lt (digit_value b) 16) bytes

-- whether 128 bits hold the number of the digits
abbrev pub hexadecimal_fits : List ℕ → Bool
hexadecimal_fits ds = nat_lt (digits_value 16 ds) (2 ^ 128)

-- digits without a fraction, which end here
abbrev pub hexadecimal_whole : ℕ → Bool → List ℕ → Scanned
hexadecimal_whole end negative ds = if hexadecimal_fits ds
    then Ok (hexadecimal_number negative (digits_value 16 ds), end) else Err (invalid_number_value, end)

-- the bytes after the point of a hexadecimal, the first of which has this offset, after digits that 128 bits hold or
-- not
unfoldable pub fraction_scan : ℕ → Bool → List ℕ → Scanned
fraction_scan offset whole_fits bytes =
    if hexadecimal_length bytes == 0 then Err (invalid_number_value, offset)
    else (if whole_fits && hexadecimal_fits (take (hexadecimal_length bytes) bytes)
    then Ok (None, offset + hexadecimal_length bytes) else Err (invalid_number_value, offset + hexadecimal_length bytes))

-- the bytes after the x of a hexadecimal, the first of which has this offset
unfoldable pub hexadecimal_scan : ℕ → Bool → List ℕ → Scanned
hexadecimal_scan offset negative bytes =
    if hexadecimal_length bytes == 0 then Err (invalid_number_value, offset)
    else (if slice_index bytes (hexadecimal_length bytes) == ascii.point
    then fraction_scan (offset + hexadecimal_length bytes + 1)
    (hexadecimal_fits (take (hexadecimal_length bytes) bytes)) (drop (hexadecimal_length bytes + 1) bytes)
    else hexadecimal_whole (offset + hexadecimal_length bytes) negative (take (hexadecimal_length bytes) bytes))

-- ---- words

-- the index after the word's letters, each in either case; the first of the bytes has this offset
unfoldable pub encoded_from : ℕ → List ℕ → List ℕ → Result ℕ (Code × ℕ)
encoded_from offset [] bytes = Ok offset
encoded_from offset (c ∷ word) [] = Err (invalid_eof, offset)
encoded_from offset (c ∷ word) (b ∷ bytes) = if to_ascii_lowercase b == c then encoded_from (offset + 1) word bytes
    else Err (expected_some_ident, offset + 1)

-- a word that names no finite number
abbrev pub unrepresentable_word : Result ℕ (Code × ℕ) → Scanned
unrepresentable_word (Ok end) = Ok (None, end)
unrepresentable_word (Err f) = Err f

-- a word that is rejected where it is encoded
abbrev pub invalid_word : Result ℕ (Code × ℕ) → Scanned
invalid_word (Ok end) = Err (invalid_number_value, end)
invalid_word (Err f) = Err f

-- a word from its first letter on, after a minus or not
unfoldable pub word_scan : ℕ → Bool → List ℕ → Scanned
word_scan offset negative bytes =
    if to_ascii_lowercase (slice_index bytes 0) == ascii.lower_n
    then (if negative then invalid_word (encoded_from offset (codes "nan") bytes)
    else unrepresentable_word (encoded_from offset (codes "nan") bytes))
    else unrepresentable_word (encoded_from offset (codes "infinity") bytes)

-- ---- all of them

-- `n` or `i` in either case
abbrev pub is_word_start : ℕ → Bool
is_word_start b = (to_ascii_lowercase b == ascii.lower_n) || (to_ascii_lowercase b == ascii.lower_i)

-- whether a zero and an x are here
abbrev pub hexadecimal_starts : List ℕ → ℕ → Bool
hexadecimal_starts bytes start = (slice_index bytes start == ascii.digit_zero)
    && (to_ascii_lowercase (slice_index bytes (start + 1)) == ascii.lower_x)

-- whether a zero and an x are after the sign
abbrev pub is_hexadecimal_start : List ℕ → Bool
is_hexadecimal_start bytes = hexadecimal_starts bytes (core_start bytes)

-- a word or a hexadecimal, and else what is scanned as a decimal
abbrev pub scan_by_kind : List ℕ → Scanned → Scanned
scan_by_kind bytes decimal =
    if is_word_start (core_byte bytes)
    then word_scan (core_start bytes) (starts_with_minus bytes) (drop (core_start bytes) bytes)
    else (if is_hexadecimal_start bytes
    then hexadecimal_scan (core_start bytes + 2) (starts_with_minus bytes) (drop (core_start bytes + 2) bytes)
    else decimal)

-- the longest extended number text that the bytes begin with
unfoldable pub extended_scan : List ℕ → Scanned
extended_scan bytes = scan_by_kind bytes (decimal_scan bytes)

-- the number of the longest extended number text that the bytes begin with
unfoldable pub extended_number_at : ℕ → List ℕ → Parse Num
extended_number_at size bytes = scanned_to size bytes (extended_scan bytes)

-- ---- the bytes around a number

-- A byte at which an extended number may begin, or a word but `nan`, which is tried where `null` fails.
abbrev pub is_extended_start : ℕ → Bool
is_extended_start b =
    is_number_start b || (b == ascii.plus) || (b == ascii.point) || (to_ascii_lowercase b == ascii.lower_i)

-- a byte that goes on with a number after digits: a point, an exponent mark or an x
abbrev pub FollowsDigits : ℕ → Type 0
FollowsDigits b = ContinuesAfterInteger b ⊎ ((b ≡ ascii.lower_x) ⊎ (b ≡ ascii.upper_x))

-- a byte that goes on with an extended number: a hexadecimal digit, a point or an x
abbrev pub ContinuesNumberExtended : ℕ → Type 0
ContinuesNumberExtended b = (digit_value b < 16) ⊎ ((b ≡ ascii.point) ⊎ (to_ascii_lowercase b ≡ ascii.lower_x))

-- the bytes don't go on with an extended number
abbrev pub EndsExtended : List ℕ → Type 0
EndsExtended [] = ⊤
EndsExtended (b ∷ bytes) = ¬ ContinuesNumberExtended b
