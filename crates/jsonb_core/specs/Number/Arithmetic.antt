-- Sums, differences, products, remainders, negations.
use Rattle.std.specs.Prelude.{◌≡◌, ◌≢◌, ℕ, ◌<◌, ◌≤◌, ◌^◌, List, codes, if◌then◌else◌, ℤ, pos, neg_ℤ, ◌+ℤ◌, ◌-ℤ◌, ◌*ℤ◌, ◌<ℤ◌, ◌≤ℤ◌, unsigned_abs, Option, Some, None, MatchOption, Result, Ok, Err, IsErrAnd, ⊤, FitsSigned, string_bytes}
use Rattle.std.specs.Int.{w64, w128, is_negative, FitsUnsigned}
use Rattle.jsonb_core.specs.declared.number.Number.{Number}
use Rattle.jsonb_core.specs.declared.number.Number.TheVariants.{Int64, UInt64, Decimal64, Decimal128}
use Rattle.jsonb_core.specs.declared.error.Error.{Error}
use Rattle.jsonb_core.specs.declared.error.Error.TheVariants.{UnexpectedType, Message, OutOfMemory}
use Rattle.jsonb_core.specs.declared.number.arithmetic.Kind.{Kind}
use Rattle.jsonb_core.specs.declared.number.arithmetic.Kind.TheVariants.{Signed, Unsigned}
use Rattle.jsonb_core.specs.View.{number_view}
use Rattle.jsonb_spec.specs.Number.Remainder.{IsRemainder, IsLeastByMinusOne}

-- the whole number of a number, which is its value where it is an integer
abbrev pub whole_of : Number → ℤ
whole_of x = (number_view x).whole

-- the error is this message, or want of memory for it
abbrev pub IsMessage : List ℕ → Error → Type 0
IsMessage text (Message s) = string_bytes s ≡ text
IsMessage text OutOfMemory = ⊤
IsMessage text other = ⊥

-- the answer is an error with this message
abbrev pub FailsWith : List ℕ → Result Number Error → Type 0
FailsWith text r = IsErrAnd r (IsMessage text)

-- z as an `Int64` where that fits, and else the message
pub record AnswersInt64 (overflow : List ℕ) (z : ℤ) (r : Result Number Error) : Type 0 where
  pub fits : FitsSigned w64 z → r ≡ Ok (Int64 z)
  pub overflows : ¬ FitsSigned w64 z → FailsWith overflow r

-- z as a `UInt64` where that fits, and else the message
pub record AnswersUInt64 (overflow : List ℕ) (z : ℤ) (r : Result Number Error) : Type 0 where
  pub fits : FitsUnsigned w64 z → r ≡ Ok (UInt64 (unsigned_abs z))
  pub overflows : ¬ FitsUnsigned w64 z → FailsWith overflow r

-- z in the variant of this kind where that fits, and else the kind's message
abbrev pub AnswersAs : Kind → ℤ → Result Number Error → Type 0
AnswersAs Signed z r = AnswersInt64 (codes "Int64 overflow") z r
AnswersAs Unsigned z r = AnswersUInt64 (codes "UInt64 overflow") z r

-- `Signed` for a negative number
abbrev pub kind_by_sign : ℤ → Kind
kind_by_sign a = if is_negative a then Signed else Unsigned

-- the kind of a sum, a product or a remainder; `None` where an operand is a decimal
abbrev pub common_kind : Number → Number → Option Kind
common_kind (Int64 a) (Int64 b) = Some Signed
common_kind (UInt64 a) (UInt64 b) = Some Unsigned
common_kind (Int64 a) (UInt64 b) = Some (kind_by_sign a)
common_kind (UInt64 a) (Int64 b) = Some (kind_by_sign b)
common_kind (Int64 a) (Decimal64 e) = None
common_kind (Int64 a) (Decimal128 e) = None
common_kind (UInt64 a) (Decimal64 e) = None
common_kind (UInt64 a) (Decimal128 e) = None
common_kind (Decimal64 d) y = None
common_kind (Decimal128 d) y = None

-- a decimal operand is rejected, and else the answer is as Q says for the common kind
abbrev pub OfIntegers : Number → Number → Result Number Error → (Kind → Type 0) → Type 0
OfIntegers x y r Q = MatchOption (common_kind x y) (r ≡ Err UnexpectedType) Q

abbrev pub IsSum : Number → Number → Result Number Error → Type 0
IsSum x y r = OfIntegers x y r (λ k. AnswersAs k (whole_of x +ℤ whole_of y) r)

abbrev pub IsProduct : Number → Number → Result Number Error → Type 0
IsProduct x y r = OfIntegers x y r (λ k. AnswersAs k (whole_of x *ℤ whole_of y) r)

-- the message where a difference does not fit
abbrev pub difference_overflow : Number → Number → List ℕ
difference_overflow (UInt64 a) (UInt64 b) = codes "UInt64 overflow"
difference_overflow (UInt64 a) (Int64 b) = codes "Int64 overflow"
difference_overflow (UInt64 a) (Decimal64 e) = codes "Int64 overflow"
difference_overflow (UInt64 a) (Decimal128 e) = codes "Int64 overflow"
difference_overflow (Int64 a) y = codes "Int64 overflow"
difference_overflow (Decimal64 d) y = codes "Int64 overflow"
difference_overflow (Decimal128 d) y = codes "Int64 overflow"

-- a difference is an `Int64`
abbrev pub IsDifference : Number → Number → Result Number Error → Type 0
IsDifference x y r = OfIntegers x y r (λ _. AnswersInt64 (difference_overflow x y) (whole_of x -ℤ whole_of y) r)

-- the remainder of a by b, in this order: no divisor, the quotient's overflow, the remainder
pub record AnswersRemainder (k : Kind) (a b : ℤ) (r : Result Number Error) : Type 0 where
  pub no_divisor : b ≡ pos 0 → FailsWith (codes "Division by zero") r
  pub overflows : IsLeastByMinusOne a b → FailsWith (codes "Int64 overflow") r
  pub divides : b ≢ pos 0 → ¬ IsLeastByMinusOne a b → (rest : ℤ) × IsRemainder a b rest × AnswersAs k rest r

abbrev pub IsRest : Number → Number → Result Number Error → Type 0
IsRest x y r = OfIntegers x y r (λ k. AnswersRemainder k (whole_of x) (whole_of y) r)

-- the opposite number: an integer as an `Int64`, a decimal in its own variant with its own scale
abbrev pub IsNegation : Number → Result Number Error → Type 0
IsNegation (Int64 a) r = AnswersInt64 (codes "Int64 overflow") (neg_ℤ a) r
IsNegation (UInt64 a) r = (a < 2 ^ 63 → r ≡ Ok (Int64 (neg_ℤ (pos a))))
    × (2 ^ 63 ≤ a → FailsWith (codes "Int64 overflow") r)
IsNegation (Decimal64 d) r =
    (FitsSigned w64 (neg_ℤ d.value) → r ≡ Ok (Decimal64 (record d { value = neg_ℤ d.value })))
    × (¬ FitsSigned w64 (neg_ℤ d.value) → FailsWith (codes "Decimal64 overflow") r)
IsNegation (Decimal128 d) r =
    (FitsSigned w128 (neg_ℤ d.value) → r ≡ Ok (Decimal128 (record d { value = neg_ℤ d.value })))
    × (¬ FitsSigned w128 (neg_ℤ d.value) → FailsWith (codes "Decimal128 overflow") r)

-- z is in the range of an `Int64` or of a `UInt64`
abbrev pub IsWithin65Bits : ℤ → Type 0
IsWithin65Bits z = (neg_ℤ (pos (2 ^ 63)) ≤ℤ z) × (z <ℤ pos (2 ^ 64))
