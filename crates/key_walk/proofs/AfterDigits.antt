-- Where the digits of a number end.
use Rattle.std.proofs.Common.{◌≡◌, ◌≢◌, ℕ, ◌%◌, ◌^◌, ◌<◌, ◌⊎◌, inl, inr, Bool, List, [], ◌∷◌, ◌++◌, length, map, subst, sym, arith}
use Rattle.jsonb_spec.specs.SortKey.{invert_if, digits_key}
use Rattle.key_value.proofs.Numbers.{Ends, GoesOn, next_pair, no_bytes}

-- the key of digits that are left is first
pub record DigitsOccur (negative : Bool) (rest more : List ℕ) : Type 0 where
  pub left : ℕ
  pub tail : ℕ
  pub below : tail < 10 ^ left
  pub some : 0 < tail
  pub occurs : rest ≡ map (invert_if negative) (digits_key left tail) ++ more

-- Whatever digits' key the bytes begin with, what is left begins with the key of the others.
abbrev pub SkipsDigits : Bool → List ℕ → List ℕ → Type 0
SkipsDigits negative bytes rest = (C M : ℕ) → M < 10 ^ C → 0 < M → (more : List ℕ) → bytes ≡ map (invert_if negative) (digits_key C M) ++ more → DigitsOccur negative rest more

pub digits_begun : (negative : Bool) (bytes : List ℕ) → SkipsDigits negative bytes bytes
digits_begun negative bytes = λ C M below some more e. record { left = C; tail = M; below = below; some = some; occurs = e }

cases : (negative : Bool) (rest others more : List ℕ) (byte b : ℕ) → (d : DigitsOccur negative rest more) → rest ≡ byte ∷ others → b ≡ invert_if negative byte → Ends d.left d.tail b others more ⊎ GoesOn negative d.left d.tail b others more
cases negative rest others more byte b d first is =
    subst (λ x. Ends d.left d.tail x others more ⊎ GoesOn negative d.left d.tail x others more) (sym is) (next_pair negative d.left d.tail byte rest others more d.below d.some first d.occurs)

pub last_skipped : (negative : Bool) (rest others more : List ℕ) (byte b : ℕ) → DigitsOccur negative rest more → rest ≡ byte ∷ others → b ≡ invert_if negative byte → b % 2 ≡ 0 → others ≡ more
last_skipped negative rest others more byte b d first is even = elim (cases negative rest others more byte b d first is) [
  | inl x ↦ x.occurs
  | inr y ↦ absurd (omega (arith, even, y.odd))
]

pub pair_skipped : (negative : Bool) (rest others more : List ℕ) (byte b : ℕ) → DigitsOccur negative rest more → rest ≡ byte ∷ others → b ≡ invert_if negative byte → b % 2 ≢ 0 → DigitsOccur negative others more
pair_skipped negative rest others more byte b d first is odd = elim (cases negative rest others more byte b d first is) [
  | inl x ↦ absurd (odd x.even)
  | inr y ↦ record { left = y.count; tail = y.rest; below = y.below; some = y.some; occurs = y.occurs }
]

-- digits are left as long as the last pair was not read
pub not_over : (negative : Bool) (rest more : List ℕ) → DigitsOccur negative rest more → length rest ≡ 0 → ⊥
not_over negative rest more d over = empty rest over d.occurs
  where
    empty : (xs : List ℕ) → length xs ≡ 0 → xs ≡ map (invert_if negative) (digits_key d.left d.tail) ++ more → ⊥
    empty [] o s = no_bytes negative d.left d.tail more d.below d.some s
    empty (x ∷ xs) o s = absurd (omega (arith, o))
