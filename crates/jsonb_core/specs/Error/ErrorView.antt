-- What an `Error` means.
use Rattle.std.specs.Prelude.{string_bytes}
use Rattle.jsonb_core.specs.Error.CodeView.{code_of}
use Rattle.jsonb_core.specs.declared.error.Error.{Error}
use Rattle.jsonb_core.specs.declared.error.Error.TheVariants as variants
use Rattle.jsonb_spec.specs.ErrorView.{ErrorView, invalid_utf8, invalid_eof, invalid_token, invalid_cast, invalid_json, invalid_jsonb, invalid_jsonb_header, invalid_jsonb_jentry, invalid_jsonb_number, invalid_jsonb_extension, invalid_json_path, invalid_json_path_predicate, invalid_key_path, invalid_json_type, invalid_object, object_duplicate_key, unexpected_type, message, syntax, out_of_memory}

-- what an `Error` means
abbrev pub error_view : Error → ErrorView
error_view variants.InvalidUtf8 = invalid_utf8
error_view variants.InvalidEOF = invalid_eof
error_view variants.InvalidToken = invalid_token
error_view variants.InvalidCast = invalid_cast
error_view variants.InvalidJson = invalid_json
error_view variants.InvalidJsonb = invalid_jsonb
error_view variants.InvalidJsonbHeader = invalid_jsonb_header
error_view variants.InvalidJsonbJEntry = invalid_jsonb_jentry
error_view variants.InvalidJsonbNumber = invalid_jsonb_number
error_view variants.InvalidJsonbExtension = invalid_jsonb_extension
error_view variants.InvalidJsonPath = invalid_json_path
error_view variants.InvalidJsonPathPredicate = invalid_json_path_predicate
error_view variants.InvalidKeyPath = invalid_key_path
error_view variants.InvalidJsonType = invalid_json_type
error_view variants.InvalidObject = invalid_object
error_view variants.ObjectDuplicateKey = object_duplicate_key
error_view variants.UnexpectedType = unexpected_type
error_view (variants.Message text) = message (string_bytes text)
error_view (variants.Syntax code offset) = syntax (code_of code) offset
error_view variants.OutOfMemory = out_of_memory
