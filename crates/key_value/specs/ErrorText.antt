-- What is printed of an error.
use Rattle.std.specs.Prelude.{ℕ, List, codes}
use Rattle.key_value.specs.declared.error.KeyError.{KeyError}
use Rattle.key_value.specs.declared.error.KeyError.TheVariants.{Invalid, OutOfMemory}

-- what is printed of an error
abbrev pub key_error_text : KeyError → List ℕ
key_error_text Invalid = codes "no sort key"
key_error_text OutOfMemory = codes "out of memory"
