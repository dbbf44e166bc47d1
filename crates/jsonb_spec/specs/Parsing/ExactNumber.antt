-- Numbers at their exact value. Their texts end where those of the two modes do.
use Rattle.std.specs.Prelude.{ℕ, ◌+◌, ◌^◌, ◌==◌, ◌&&◌, List, nat_lt, nat_le, slice_index, slice_range, if◌then◌else◌, unsigned_abs, Option, Some, None, Ok, Err}
use Rattle.std.specs.Str.Parse.{digits_value, starts_with_minus}
use Rattle.jsonb_spec.specs.Ascii as ascii
use Rattle.jsonb_spec.specs.Code.{invalid_number_value}
use Rattle.jsonb_spec.specs.Grammar.ExactNumber.{moved_number}
use Rattle.jsonb_spec.specs.Tree.{Num}
use Rattle.jsonb_spec.specs.Parsing.{Parse}
use Rattle.jsonb_spec.specs.Parsing.Number.{End, sign_end, standard_end}
use Rattle.jsonb_spec.specs.Parsing.ExtendedNumber.{Scanned, scanned_to, scale_at, behind_end, all_digits, decimal_end, scan_by_kind}

-- the value of the digits of an exponent between these indices
abbrev pub exponent_value : List ℕ → ℕ → ℕ → ℕ
exponent_value bytes start end = digits_value 10 (slice_range bytes (sign_end bytes (start + 1)) end)

-- how far the exponent between these indices moves the point to the right; where there is none, not at all
abbrev pub right_at : List ℕ → ℕ → ℕ → ℕ
right_at bytes start end =
    if start == end then 0
    else (if slice_index bytes (start + 1) == ascii.minus then 0 else exponent_value bytes start end)

-- how far it moves the point to the left
abbrev pub left_at : List ℕ → ℕ → ℕ → ℕ
left_at bytes start end =
    if start == end then 0
    else (if slice_index bytes (start + 1) == ascii.minus then exponent_value bytes start end else 0)

-- the number, where at most 38 digits are behind its point, and at most 38 count
abbrev pub few_digits : Num → Option Num
few_digits n = if nat_le n.scale 38 && nat_lt (unsigned_abs n.whole) (10 ^ 38) then Some n else None

-- the number of the decimal text that ends here, with an exponent or none, which must have few digits
unfoldable pub exact_at : List ℕ → ℕ → Option Num
exact_at bytes end =
    few_digits (moved_number (starts_with_minus bytes) (digits_value 10 (all_digits bytes)) (scale_at bytes)
    (right_at bytes (behind_end bytes) end) (left_at bytes (behind_end bytes) end))

-- ---- in JSON

abbrev pub exact_to : List ℕ → End → Scanned
exact_to bytes (Ok end) = Ok (exact_at bytes end, end)
exact_to bytes (Err offset) = Err (invalid_number_value, offset)

-- the number of the longest number text of RFC 8259 that the bytes begin with
unfoldable pub json_number_at : ℕ → List ℕ → Parse Num
json_number_at size bytes = scanned_to size bytes (exact_to bytes (standard_end bytes))

-- ---- in extended JSON

-- the longest number text of extended JSON that the bytes begin with
unfoldable pub extended_json_scan : List ℕ → Scanned
extended_json_scan bytes = scan_by_kind bytes (exact_to bytes (decimal_end bytes))

-- the number of the longest number text of extended JSON that the bytes begin with
unfoldable pub extended_json_number_at : ℕ → List ℕ → Parse Num
extended_json_number_at size bytes = scanned_to size bytes (extended_json_scan bytes)
