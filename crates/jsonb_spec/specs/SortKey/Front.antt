-- The first bytes of a key as a number, and which bytes are no zeros.
use Rattle.std.specs.Prelude.{ℕ, zero, suc, ◌+◌, ◌*◌, ◌^◌, List, [], ◌∷◌, ◌≢◌, ◌<◌, get_or}

-- the first bytes as a number of which the first is the highest, with zeros in place of bytes that aren't there
unfoldable pub number_of : ℕ → List ℕ → ℕ
number_of zero bytes = 0
number_of (suc count) [] = 0
number_of (suc count) (byte ∷ bytes) = byte * 256 ^ count + number_of count bytes

-- none of the first bytes is a zero
abbrev pub AreNoZeros : List ℕ → ℕ → Type 0
AreNoZeros bytes count = (k : ℕ) → k < count → get_or bytes k 0 ≢ 0
