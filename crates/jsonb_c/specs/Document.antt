-- The statuses of errors of documents.
use Rattle.std.specs.Prelude.{ℕ}
use Rattle.key_document.specs.declared.error.DocumentError.{DocumentError}
use Rattle.key_document.specs.declared.error.DocumentError.TheVariants as errors

-- the status of an error
abbrev pub document_status_of : DocumentError → ℕ
document_status_of errors.NoDocument = 10
document_status_of errors.TooDeep = 8
document_status_of errors.OutOfMemory = 2
