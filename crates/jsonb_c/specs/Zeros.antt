-- The statuses of errors of zeros.
use Rattle.std.specs.Prelude.{ℕ}
use Rattle.key_zeros.specs.declared.error.ZerosError.{ZerosError}
use Rattle.key_zeros.specs.declared.error.ZerosError.TheVariants as errors

-- the status of an error
abbrev pub zeros_status_of : ZerosError → ℕ
zeros_status_of errors.Invalid = 9
zeros_status_of errors.OutOfMemory = 2
