-- The search for a string's end, and decoding its contents.
use Rattle.std.specs.Prelude.{ℕ, zero, suc, ◌+◌, ◌-◌, Bool, true, false, ◌&&◌, List, [], ◌∷◌, length, take, drop, slice_index, nat_lt, nat_le, Option, Some, None, Result, Ok, Err, ◌==◌, if◌then◌else◌}
use Rattle.std.specs.Str.{is_utf8}
use Rattle.std.specs.Char.{digit_value}
use Rattle.jsonb_spec.specs.Ascii as ascii
use Rattle.jsonb_spec.specs.Mode.{Mode, standard, extended, json, extended_json, strictness}
use Rattle.jsonb_spec.specs.Tree.{Mark}
use Rattle.jsonb_spec.specs.Code.{Code, control_character_while_parsing_string, invalid_eof, invalid_string_value, invalid_escaped, invalid_hex, unexpected_end_of_hex_escape}
use Rattle.jsonb_spec.specs.Grammar.StringBody.{Item, raw, escape, unit, after_u, encoding, escaped_byte, meaning}
use Rattle.jsonb_spec.specs.Grammar.StringStep.{item_step}
use Rattle.jsonb_spec.specs.Grammar.Quoted.{mark_of}
use Rattle.jsonb_spec.specs.Parsing.{Parse, fault, goes_beyond_json}

-- ---- the body

-- What is parsed of a body, or a code and how many bytes are parsed then.
abbrev pub Body : Type 0 → Type 0
Body A = Result A (Code × ℕ)

-- the first byte that is no hexadecimal digit
abbrev pub non_digit : List ℕ → Option ℕ
non_digit [] = None
non_digit (b ∷ bytes) = if nat_lt (digit_value b) 16 then non_digit bytes else Some b

-- the unit of four bytes, where all of them are digits
abbrev pub checked_unit : Bool → List ℕ → Option ℕ → Body Item
checked_unit braces digits None = Ok (unit braces digits)
checked_unit braces digits (Some b) = Err (invalid_hex b, 2 + length (after_u braces digits))

abbrev pub unit_of : Bool → List ℕ → Body Item
unit_of braces digits = checked_unit braces digits (non_digit digits)

-- a unit, from the byte after `\u` on
unfoldable pub unit_at : Mode → List ℕ → Body Item
unit_at mode bytes =
    if nat_lt (length bytes) 4 then Err (unexpected_end_of_hex_escape, 2)
    else (if goes_beyond_json mode && (slice_index bytes 0 == ascii.open_brace)
    then (if slice_index bytes 5 == ascii.close_brace then unit_of true (take 4 (drop 1 bytes))
    else Err (unexpected_end_of_hex_escape, 2)) else unit_of false (take 4 bytes))

abbrev pub known_escape : ℕ → Option ℕ → Body Item
known_escape letter None = Err (invalid_escaped letter, 2)
known_escape letter (Some byte) = Ok (escape letter byte)

-- an escape, from the byte after the backslash on
unfoldable pub escape_at : Mode → List ℕ → Body Item
escape_at mode [] = Err (unexpected_end_of_hex_escape, 1)
escape_at mode (letter ∷ bytes) = if letter == ascii.lower_u then unit_at mode bytes
    else known_escape letter (escaped_byte (strictness mode) letter)

-- whether a byte may mean itself: in JSON no control character
abbrev pub may_be_raw : Mode → ℕ → Bool
may_be_raw standard byte = true
may_be_raw extended byte = true
may_be_raw json byte = nat_le ascii.space byte
may_be_raw extended_json byte = true

-- a byte that means itself, where it may
abbrev pub raw_at : Mode → ℕ → Body Item
raw_at mode byte = if may_be_raw mode byte then Ok (raw byte) else Err (control_character_while_parsing_string, 1)

-- the first item of a body
unfoldable pub item_at : Mode → ℕ → List ℕ → Body Item
item_at mode byte bytes = if byte == ascii.backslash then escape_at mode bytes else raw_at mode byte

abbrev pub onto : Item → Body (List Item) → Body (List Item)
onto item (Ok items) = Ok (item ∷ items)
onto item (Err f) = Err (f.0, length (encoding item) + f.1)

abbrev pub then_items : Body Item → (Item → Body (List Item)) → Body (List Item)
then_items (Ok item) others = onto item (others item)
then_items (Err f) others = Err f

-- The items of a body. The number bounds them; the length of the bytes is always enough.
unfoldable pub items_within : ℕ → Mode → List ℕ → Body (List Item)
items_within n mode [] = Ok []
items_within zero mode (b ∷ bytes) = Ok []
items_within (suc n) mode (b ∷ bytes) =
    then_items (item_at mode b bytes) (λ item. items_within n mode (drop (length (encoding item)) (b ∷ bytes)))

-- the meaning of the items, where it is text
abbrev pub meaning_of : List ℕ → Body (List Item) → Body (Mark × List ℕ)
meaning_of bytes (Ok items) = if is_utf8 (meaning items) then Ok (mark_of items, meaning items)
    else Err (invalid_string_value, length bytes)
meaning_of bytes (Err f) = Err f

-- a whole body: its mark and its text
unfoldable pub body_of : Mode → List ℕ → Body (Mark × List ℕ)
body_of mode bytes = meaning_of bytes (items_within (length bytes) mode bytes)

-- ---- the end

-- one byte more was passed
abbrev pub further : ℕ → Result ℕ ℕ → Result ℕ ℕ
further n (Ok end) = Ok (n + end)
further n (Err at) = Err (n + at)

-- How many bytes are before the closing quote, where this many bytes of an item are still to be passed. Where there
-- is no closing quote, the number says where the search is at the end, which may be past the bytes.
unfoldable pub quote_from : ℕ → ℕ → List ℕ → Result ℕ ℕ
quote_from quote passed [] = Err passed
quote_from quote (suc passed) (b ∷ bytes) = further 1 (quote_from quote passed bytes)
quote_from quote zero (b ∷ bytes) = if b == quote then Ok 0
    else further 1 (quote_from quote (item_step (b ∷ bytes) - 1) bytes)

abbrev pub quote_end : ℕ → List ℕ → Result ℕ ℕ
quote_end quote bytes = quote_from quote 0 bytes

-- ---- the whole, from the byte after the opening quote on

-- where the body ends after so many bytes
abbrev pub string_of_body : ℕ → List ℕ → ℕ → Body (Mark × List ℕ) → Parse (Mark × List ℕ)
string_of_body size bytes end (Ok x) = Ok (x, drop (end + 1) bytes)
string_of_body size bytes end (Err f) = fault f.0 (size - length bytes + 1 + f.1)

abbrev pub string_up_to : ℕ → Mode → List ℕ → Result ℕ ℕ → Parse (Mark × List ℕ)
string_up_to size mode bytes (Ok end) = string_of_body size bytes end (body_of mode (take end bytes))
string_up_to size mode bytes (Err at) = fault invalid_eof (size - length bytes + at)

-- a string in these quotes
unfoldable pub string_at : ℕ → Mode → ℕ → List ℕ → Parse (Mark × List ℕ)
string_at size mode quote bytes = string_up_to size mode bytes (quote_end quote bytes)
