-- The search for the end of an unquoted key, and what it finds.
use Rattle.std.specs.Prelude.{ℕ, zero, suc, ◌+◌, ◌-◌, Bool, ◌||◌, List, [], ◌∷◌, length, take, drop, slice_index, nat_lt, nat_le, Result, Ok, Err, ◌==◌, if◌then◌else◌}
use Rattle.std.specs.Str.{is_utf8}
use Rattle.std.specs.Char.{is_ascii_digit, is_ascii_alphanumeric}
use Rattle.jsonb_spec.specs.Ascii as ascii
use Rattle.jsonb_spec.specs.Tree.{Mark, plain}
use Rattle.jsonb_spec.specs.Code.{invalid_eof, invalid_string_value, object_key_invalid_number, object_key_invalid_character}
use Rattle.jsonb_spec.specs.Parsing.{Parse, fault}
use Rattle.jsonb_spec.specs.Parsing.String.{further}

-- a letter or a digit of ASCII, `_` or `$`
abbrev pub is_key_ascii : ℕ → Bool
is_key_ascii b = is_ascii_alphanumeric b || ((b == ascii.underscore) || (b == ascii.dollar))

-- How many bytes a character of a key takes whose first byte is this, or 0 where no key has one. 0xC0, 0xE0 and 0xF0
-- are the least first bytes of characters of two, three and four bytes in UTF-8.
abbrev pub key_step : ℕ → ℕ
key_step b = if is_key_ascii b then 1
    else (if nat_lt b 0xC0 then 0 else (if nat_lt b 0xE0 then 2 else (if nat_lt b 0xF0 then 3 else 4)))

abbrev pub key_chosen : ℕ → Result ℕ ℕ → Result ℕ ℕ
key_chosen zero later = Ok 0
key_chosen (suc passed) later = later

-- How many bytes are before the first one that begins no character of a key, where this many bytes of a character are
-- still to be passed. Where there is none, the number says where the search is at the end, which may be past the
-- bytes.
unfoldable pub key_from : ℕ → List ℕ → Result ℕ ℕ
key_from passed [] = Err passed
key_from (suc passed) (b ∷ bytes) = further 1 (key_from passed bytes)
key_from zero (b ∷ bytes) = key_chosen (key_step b) (further 1 (key_from (key_step b - 1) bytes))

abbrev pub key_end : List ℕ → Result ℕ ℕ
key_end bytes = key_from 0 bytes

-- the key of so many bytes, where they are text
abbrev pub text_key : ℕ → List ℕ → ℕ → Parse (Mark × List ℕ)
text_key size bytes end = if is_utf8 (take end bytes) then Ok ((plain, take end bytes), drop end bytes)
    else fault invalid_string_value (size - length bytes + end)

abbrev pub key_to : ℕ → List ℕ → Result ℕ ℕ → Parse (Mark × List ℕ)
key_to size bytes (Ok end) = if (end == 0) || nat_le ascii.end (slice_index bytes end)
    then fault object_key_invalid_character (size - length bytes + end) else text_key size bytes end
key_to size bytes (Err at) = fault invalid_eof (size - length bytes + at)

-- a bare key
unfoldable pub bare_key_at : ℕ → List ℕ → Parse (Mark × List ℕ)
bare_key_at size [] = fault invalid_eof size
bare_key_at size (b ∷ bytes) = if is_ascii_digit b
    then fault object_key_invalid_number (size - length (b ∷ bytes) + 1)
    else key_to size (b ∷ bytes) (key_end (b ∷ bytes))
