-- The messages of errors.
use Rattle.std.specs.Prelude.{ℕ, List, ◌++◌, codes, string_bytes}
use Rattle.std.specs.Fmt.{decimal}
use Rattle.jsonb_core.specs.declared.error.Error.{Error}
use Rattle.jsonb_core.specs.declared.error.Error.TheVariants as variants
use Rattle.jsonb_core.specs.Error.CodeView.{code_of}
use Rattle.jsonb_spec.specs.Code.Message.{code_text}

-- A fault of a text in words, with its position in decimal; a message as it is; any other error by its name.
abbrev pub error_text : Error → List ℕ
error_text variants.InvalidUtf8 = codes "InvalidUtf8"
error_text variants.InvalidEOF = codes "InvalidEOF"
error_text variants.InvalidToken = codes "InvalidToken"
error_text variants.InvalidCast = codes "InvalidCast"
error_text variants.InvalidJson = codes "InvalidJson"
error_text variants.InvalidJsonb = codes "InvalidJsonb"
error_text variants.InvalidJsonbHeader = codes "InvalidJsonbHeader"
error_text variants.InvalidJsonbJEntry = codes "InvalidJsonbJEntry"
error_text variants.InvalidJsonbNumber = codes "InvalidJsonbNumber"
error_text variants.InvalidJsonbExtension = codes "InvalidJsonbExtension"
error_text variants.InvalidJsonPath = codes "InvalidJsonPath"
error_text variants.InvalidJsonPathPredicate = codes "InvalidJsonPathPredicate"
error_text variants.InvalidKeyPath = codes "InvalidKeyPath"
error_text variants.InvalidJsonType = codes "InvalidJsonType"
error_text variants.InvalidObject = codes "InvalidObject"
error_text variants.ObjectDuplicateKey = codes "ObjectDuplicateKey"
error_text variants.UnexpectedType = codes "UnexpectedType"
error_text (variants.Message message) = string_bytes message
error_text (variants.Syntax code offset) = code_text (code_of code) ++ codes ", pos " ++ decimal offset
error_text variants.OutOfMemory = codes "OutOfMemory"
