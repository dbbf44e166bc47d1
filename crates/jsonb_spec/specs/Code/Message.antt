-- What is wrong with a text, in words.
use Rattle.std.specs.Prelude.{ℕ, true, nat_lt, ◌||◌, if◌then◌else◌, List, [], ◌∷◌, ◌++◌, codes, encode_utf8}
use Rattle.std.specs.Fmt.{digits}
use Rattle.jsonb_spec.specs.Ascii as ascii
use Rattle.jsonb_spec.specs.Code.{Code, invalid_eof, invalid_number_value, invalid_string_value, expected_some_ident, expected_some_value, expected_colon, expected_array_comma_or_end, expected_object_comma_or_end, unexpected_trailing_characters, key_must_be_a_string, control_character_while_parsing_string, invalid_escaped, invalid_hex, invalid_lone_leading_surrogate_in_hex_escape, invalid_surrogate_in_hex_escape, unexpected_end_of_hex_escape, object_duplicate_key, object_key_invalid_number, object_key_invalid_character, number_not_carried, depth_limit_exceeded}

-- a number in uppercase hexadecimal, with no zeros in front
abbrev pub hexadecimal : ℕ → List ℕ
hexadecimal n = digits 16 true n

-- what is wrong with a text, in words: a byte or a unit is there in hexadecimal, a key as it is
abbrev pub code_text : Code → List ℕ
code_text invalid_eof = codes "EOF while parsing a value"
code_text invalid_number_value = codes "invalid number"
code_text invalid_string_value = codes "invalid string"
code_text expected_some_ident = codes "expected ident"
code_text expected_some_value = codes "expected value"
code_text expected_colon = codes "expected `:`"
code_text expected_array_comma_or_end = codes "expected `,` or `]`"
code_text expected_object_comma_or_end = codes "expected `,` or `}`"
code_text unexpected_trailing_characters = codes "trailing characters"
code_text key_must_be_a_string = codes "key must be a string"
code_text control_character_while_parsing_string =
    codes "control character (\\u0000-\\u001F) found while parsing a string"
code_text (invalid_escaped byte) = codes "invalid escaped '" ++ hexadecimal byte ++ codes "'"
code_text (invalid_hex byte) = codes "invalid hex '" ++ hexadecimal byte ++ codes "'"
code_text (invalid_lone_leading_surrogate_in_hex_escape unit) = codes "lone leading surrogate in hex escape '"
    ++ hexadecimal unit ++ codes "'"
code_text (invalid_surrogate_in_hex_escape unit) = codes "invalid surrogate in hex escape '" ++ hexadecimal unit
    ++ codes "'"
code_text unexpected_end_of_hex_escape = codes "unexpected end of hex escape"
code_text (object_duplicate_key key) = codes "duplicate object attribute \"" ++ key ++ codes "\""
code_text object_key_invalid_number = codes "object attribute name cannot be a number"
code_text object_key_invalid_character = codes "object attribute name cannot be invalid character"
code_text number_not_carried = codes "number not carried"
code_text depth_limit_exceeded = codes "depth limit exceeded"

-- a byte's character between backquotes where that is printable, and else its digits
abbrev pub shown_byte : ℕ → List ℕ
shown_byte byte =
    if nat_lt byte ascii.space || nat_lt ascii.tilde byte then codes "byte " ++ hexadecimal byte
    else codes "`" ++ encode_utf8 byte ++ codes "`"

-- The same for who doesn't know the parser: what it expected by what a text may have there, a byte as it is seen.
abbrev pub reason_text : Code → List ℕ
reason_text expected_some_ident = codes "expected a name in quotes, or `true`, `false` or `null`"
reason_text (invalid_escaped byte) = codes "invalid escape: " ++ shown_byte byte ++ codes " after a backslash"
reason_text (invalid_hex byte) = codes "invalid escape: " ++ shown_byte byte ++ codes " is no hexadecimal digit"
reason_text object_key_invalid_character = codes "expected the name of a member"
reason_text code = code_text code
