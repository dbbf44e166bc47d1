-- Where in a text a number with zeros at the end of the digits behind its point may be.
use Rattle.std.specs.Prelude.{◌≡◌, ◌⊎◌, ◌==◌, if◌then◌else◌, ℕ, Bool, false, List, [], ◌∷◌, ◌++◌}
use Rattle.std.specs.Char.{is_ascii_digit}
use Rattle.std.specs.List.{AllByRecursion}
use Rattle.jsonb_spec.specs.Ascii as ascii
use Rattle.jsonb_spec.specs.Grammar.StandardNumber.{IsExponentMark}

-- a point or a minus
abbrev pub IsMark : ℕ → Type 0
IsMark byte = (byte ≡ ascii.point) ⊎ (byte ≡ ascii.minus)

-- no byte is a mark
abbrev pub HasNoMark : List ℕ → Type 0
HasNoMark bytes = AllByRecursion (λ byte. ¬ (IsMark byte)) bytes

-- The first mark of the bytes, with what is before it and what is behind it.
pub record IsSplitAtMark (bytes front : List ℕ) (mark : ℕ) (behind : List ℕ) : Type 0 where
  pub whole : bytes ≡ front ++ mark ∷ behind
  pub none_before : HasNoMark front
  pub is_mark : IsMark mark

-- whether the last of this byte and the digits behind it is a zero
unfoldable pub ends_in_zero : ℕ → List ℕ → Bool
ends_in_zero last [] = last == ascii.digit_zero
ends_in_zero last (byte ∷ bytes) = if is_ascii_digit byte then ends_in_zero byte bytes else last == ascii.digit_zero

-- The bytes don't end in a zero and the mark of an exponent, and aren't such a mark alone.
pub record EndsInNoExponent (bytes : List ℕ) : Type 0 where
  pub behind_zero : (before : List ℕ) (mark : ℕ) → bytes ≡ before ++ ascii.digit_zero ∷ mark ∷ []
      → ¬ (IsExponentMark mark)
  pub alone : (mark : ℕ) → bytes ≡ mark ∷ [] → ¬ (IsExponentMark mark)

-- A point or a minus with these bytes before it and behind it is in no number that ends in zeros.
pub record PassesMark (before : List ℕ) (mark : ℕ) (behind : List ℕ) : Type 0 where
  pub point : mark ≡ ascii.point → ends_in_zero 0 behind ≡ false
  pub minus : mark ≡ ascii.minus → EndsInNoExponent before
