-- The code that a `ParseErrorCode` means.
use Rattle.std.specs.Prelude.{string_bytes}
use Rattle.jsonb_spec.specs.Code.{Code, control_character_while_parsing_string, depth_limit_exceeded, expected_array_comma_or_end, expected_colon, expected_object_comma_or_end, expected_some_ident, expected_some_value, invalid_eof, invalid_escaped, invalid_hex, invalid_lone_leading_surrogate_in_hex_escape, invalid_number_value, invalid_string_value, invalid_surrogate_in_hex_escape, key_must_be_a_string, number_not_carried, object_duplicate_key, object_key_invalid_character, object_key_invalid_number, unexpected_end_of_hex_escape, unexpected_trailing_characters}
use Rattle.jsonb_core.specs.declared.error.ParseErrorCode.{ParseErrorCode}
use Rattle.jsonb_core.specs.declared.error.ParseErrorCode.TheVariants as variants

-- the code that a `ParseErrorCode` means
abbrev pub code_of : ParseErrorCode → Code
code_of variants.InvalidEOF = invalid_eof
code_of variants.InvalidNumberValue = invalid_number_value
code_of variants.InvalidStringValue = invalid_string_value
code_of variants.ExpectedSomeIdent = expected_some_ident
code_of variants.ExpectedSomeValue = expected_some_value
code_of variants.ExpectedColon = expected_colon
code_of variants.ExpectedArrayCommaOrEnd = expected_array_comma_or_end
code_of variants.ExpectedObjectCommaOrEnd = expected_object_comma_or_end
code_of variants.UnexpectedTrailingCharacters = unexpected_trailing_characters
code_of variants.KeyMustBeAString = key_must_be_a_string
code_of variants.ControlCharacterWhileParsingString = control_character_while_parsing_string
code_of (variants.InvalidEscaped byte) = invalid_escaped byte
code_of (variants.InvalidHex byte) = invalid_hex byte
code_of (variants.InvalidLoneLeadingSurrogateInHexEscape unit) = invalid_lone_leading_surrogate_in_hex_escape unit
code_of (variants.InvalidSurrogateInHexEscape unit) = invalid_surrogate_in_hex_escape unit
code_of variants.UnexpectedEndOfHexEscape = unexpected_end_of_hex_escape
code_of (variants.ObjectDuplicateKey key) = object_duplicate_key (string_bytes key)
code_of variants.ObjectKeyInvalidNumber = object_key_invalid_number
code_of variants.ObjectKeyInvalidCharacter = object_key_invalid_character
code_of variants.NumberNotCarried = number_not_carried
code_of variants.DepthLimitExceeded = depth_limit_exceeded
