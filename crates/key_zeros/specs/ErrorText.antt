-- What is printed of an error.
use Rattle.std.specs.Prelude.{ℕ, List, codes}
use Rattle.key_zeros.specs.declared.error.ZerosError.{ZerosError}
use Rattle.key_zeros.specs.declared.error.ZerosError.TheVariants.{Invalid, OutOfMemory}

-- what is printed of an error
abbrev pub zeros_error_text : ZerosError → List ℕ
zeros_error_text Invalid = codes "no text with such zeros"
zeros_error_text OutOfMemory = codes "out of memory"
