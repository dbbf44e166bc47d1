-- Parts of keys, parsed from left to right.
use Rattle.std.specs.Prelude.{◌≡◌, ◌≢◌, ℕ, ◌+◌, ◌-◌, ◌*◌, ◌/◌, ◌%◌, ◌^◌, ◌<◌, ◌≤◌, ◌⊎◌, Bool, List, [], ◌∷◌, ◌++◌, length, map, Option, Some, None, if◌then◌else◌, ◌==◌, nat_lt}
use Rattle.jsonb_spec.specs.SortKey.{digits_key, exponent_key, invert_if}
use Rattle.jsonb_spec.specs.SortKey.Kind as kind

-- This exponent of a number's first digit is first in the bytes, and these are behind it.
pub record ExponentOccurs (negative : Bool) (bytes : List ℕ) (exponent : ℕ) (rest : List ℕ) : Type 0 where
  pub occurs : bytes ≡ map (invert_if negative) (exponent_key exponent) ++ rest
  pub shorter : length rest < length bytes
  pub few : exponent < 512

-- a zero of a text by what follows its first byte, and the bytes after it
abbrev pub escape_of : List ℕ → Option (ℕ × List ℕ)
escape_of [] = None
escape_of (mark ∷ rest) = if mark == kind.escaped then Some (0, rest) else None

-- the byte of a text whose key the bytes begin with, and the bytes after it
abbrev pub byte_of : List ℕ → Option (ℕ × List ℕ)
byte_of [] = None
byte_of (byte ∷ rest) = if byte == 0 then escape_of rest else Some (byte, rest)

-- The first digits of a number that has `count` of them, without zeros at the end: there are `read` of them.
pub record IsDigits (count magnitude digits read : ℕ) : Type 0 where
  pub some : 0 < digits
  pub whole : digits * 10 ^ count ≡ magnitude * 10 ^ read
  pub fewer : read ≤ count

-- Digits whose first has this exponent, with 255 added, are this number without its point, behind which so many of its
-- digits are.
pub record IsPointed (digits count exponent whole scale : ℕ) : Type 0 where
  pub behind : exponent < 255 + count → (whole ≡ digits) × (scale ≡ 255 + count - exponent)
  pub before : 255 + count ≤ exponent → (whole ≡ digits * 10 ^ (exponent - (255 + count))) × (scale ≡ 0)

-- what was read, and the bytes after it
abbrev pub read_as : ℕ → List ℕ → Option (ℕ × List ℕ)
read_as n rest = Some (n, rest)

-- Of a number with C digits, `read` of which were read, some are left, and their key is first in the rest.
pub record DigitsLeft (negative : Bool) (C M digits read : ℕ) (rest more : List ℕ) : Type 0 where
  pub left : ℕ
  pub tail : ℕ
  pub counted : read + left ≡ C
  pub whole : M ≡ digits * 10 ^ left + tail
  pub below : tail < 10 ^ left
  pub some : 0 < tail
  pub occurs : rest ≡ map (invert_if negative) (digits_key left tail) ++ more

-- Whichever number's digits the bytes begin with, these are the first of them.
abbrev pub ReadsDigits : Bool → List ℕ → ℕ → ℕ → List ℕ → Type 0
ReadsDigits negative bytes digits read rest =
    (C M : ℕ) → M < 10 ^ C → 0 < M → M ≤ 2 ^ 127 → C ≤ 39 → (more : List ℕ)
    → bytes ≡ map (invert_if negative) (digits_key C M) ++ more → DigitsLeft negative C M digits read rest more

-- The digits with the pair behind them, of which `read` are taken: one digit where the second is 0.
pub record IsLastPair (digits pair with_pair read : ℕ) : Type 0 where
  pub below : pair < 100
  pub taken : ((read ≡ 2) × (with_pair ≡ digits * 100 + pair))
      ⊎ ((read ≡ 1) × (pair % 10 ≡ 0) × (with_pair ≡ digits * 10 + pair / 10))
  pub whole : with_pair * 100 ≡ (digits * 100 + pair) * 10 ^ read
  pub few : read ≤ 2
  pub one : pair % 10 ≡ 0 → read ≡ 1
  pub not_zero : with_pair % 10 ≢ 0

-- The pair is of zeros or no pair, or the digits with it don't fit 128 bits.
abbrev pub IsNoLastPair : ℕ → ℕ → Type 0
IsNoLastPair digits pair =
    (pair ≡ 0) ⊎ (99 < pair) ⊎ (2 ^ 128 ≤ digits * 10 + pair / 10)
    ⊎ ((pair % 10 ≢ 0) × (2 ^ 128 ≤ digits * 100 + pair))

-- the second byte of an exponent, which is -31 or less, and the bytes after it
abbrev pub second_of : Bool → List ℕ → Option (ℕ × List ℕ)
second_of negative [] = None
second_of negative (byte ∷ rest) =
    if nat_lt (invert_if negative byte) 225 then read_as (invert_if negative byte) rest else None

-- The exponent of a number's first digit, with 255 added, and the bytes after it. 0x82 means 30 zeros behind the
-- point.
abbrev pub exponent_of : Bool → List ℕ → Option (ℕ × List ℕ)
exponent_of negative [] = None
exponent_of negative (byte ∷ rest) =
    if invert_if negative byte == kind.far_exponent then second_of negative rest
    else (if nat_lt (invert_if negative byte) 0x82 then None else read_as (invert_if negative byte + 95) rest)
