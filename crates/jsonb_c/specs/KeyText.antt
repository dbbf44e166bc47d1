-- The statuses of errors of keys.
use Rattle.std.specs.Prelude.{ℕ}
use Rattle.key_value.specs.declared.error.KeyError.{KeyError}
use Rattle.key_value.specs.declared.error.KeyError.TheVariants as errors

-- the status of an error
abbrev pub key_status_of : KeyError → ℕ
key_status_of errors.Invalid = 7
key_status_of errors.OutOfMemory = 2
