-- Lists of bytes.
use Rattle.std.specs.Prelude.{ℕ, ◌<◌, List, get_or}

-- each of them is a byte
abbrev pub AreBytes : List ℕ → Type 0
AreBytes bytes = (k : ℕ) → get_or bytes k 0 < 256
