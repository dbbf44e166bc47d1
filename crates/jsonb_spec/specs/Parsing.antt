-- Results of the executable specification, faults, and sequencing. It connects the code of the parsers with the
-- grammar.
pub mod BareKey
pub mod Whitespace
pub mod Container
pub mod Document
pub mod ExactNumber
pub mod ExtendedNumber
pub mod Number
pub mod Scalar
pub mod String
pub mod Decoding
pub mod Contents
pub mod Memory
pub mod Appends
pub mod Lines
use Rattle.std.specs.Prelude.{ℕ, ◌+◌, ◌-◌, Bool, true, false, List, [], ◌∷◌, length, Result, Ok, Err, ◌==◌, if◌then◌else◌}
use Rattle.jsonb_spec.specs.Code.{Code, invalid_eof}
use Rattle.jsonb_spec.specs.Mode.{Mode, standard, extended, json, extended_json}

-- A fault, and the offset in the whole input that it names.
pub record Fault : Type 0 where
  pub code : Code
  pub offset : ℕ

-- what is parsed and the bytes after it, or a fault
abbrev pub Parse : Type 0 → Type 0
Parse A = Result (A × List ℕ) Fault

infixl 10 ◌>>=◌
abbrev pub ◌>>=◌ : {A B : Type 0} → Result A Fault → (A → Result B Fault) → Result B Fault
(Ok x) >>= f = f x
(Err e) >>= f = Err e

-- the one where the bytes begin with this byte, of the bytes after it, and else the other
abbrev pub on_byte : {X : Type 0} → ℕ → List ℕ → (List ℕ → X) → X → X
on_byte c [] found other = other
on_byte c (b ∷ bytes) found other = if b == c then found bytes else other

-- whether the bytes begin with this byte
abbrev pub begins : ℕ → List ℕ → Bool
begins c bytes = on_byte c bytes (λ rest. true) false

-- ---- faults, in an input of this size

abbrev pub fault : {A : Type 0} → Code → ℕ → Result A Fault
fault code offset = Err (record { code = code; offset = offset })

-- the end of the input, or a byte that may not be here, which is named by its index and a step
abbrev pub fault_at : ℕ → Code → ℕ → List ℕ → Fault
fault_at size code step [] = record { code = invalid_eof; offset = size }
fault_at size code step (b ∷ bytes) = record { code = code; offset = size - length (b ∷ bytes) + step }

abbrev pub reject : {A : Type 0} → ℕ → Code → ℕ → List ℕ → Result A Fault
reject size code step bytes = Err (fault_at size code step bytes)

-- ---- modes

-- whether the mode has whitespace that RFC 8259 hasn't, and digits of a unit in braces
abbrev pub goes_beyond_json : Mode → Bool
goes_beyond_json standard = true
goes_beyond_json extended = true
goes_beyond_json json = false
goes_beyond_json extended_json = true
