-- The sort key of an integer by its digits in a text.
use Rattle.std.specs.Prelude.{ℕ, zero, suc, ◌+◌, ◌*◌, ◌%◌, List, [], ◌∷◌, slice_index}
use Rattle.jsonb_spec.specs.Ascii as ascii

-- the byte of the last two digits: twice the pair, where each digit is the byte that the text has
abbrev pub last_byte : ℕ → ℕ → ℕ
last_byte first second = (first * 20 + second * 2 + 224) % 256

-- the byte of two digits behind which others are that aren't all zeros: one more
abbrev pub more_byte : ℕ → ℕ → ℕ
more_byte first second = (first * 20 + second * 2 + 225) % 256

-- the bytes of so many pairs from an index on, each as if others was behind it
abbrev pub more_bytes : ℕ → ℕ → List ℕ → List ℕ
more_bytes zero i digits = []
more_bytes (suc n) i digits =
    more_byte (slice_index digits i) (slice_index digits (i + 1)) ∷ more_bytes n (i + 2) digits

-- The bytes of digits of which the last is no zero. A single last digit means a pair with 0.
abbrev pub digit_bytes : List ℕ → List ℕ
digit_bytes [] = []
digit_bytes (d ∷ []) = last_byte d ascii.digit_zero ∷ []
digit_bytes (d ∷ e ∷ []) = last_byte d e ∷ []
digit_bytes (d ∷ e ∷ f ∷ ds) = more_byte d e ∷ digit_bytes (f ∷ ds)
