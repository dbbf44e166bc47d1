-- Bytes read from either end.
use Rattle.std.specs.Prelude.{ℕ, Bool, true, false, List, reverse}

-- the bytes in the order in which they are read
abbrev pub turned : Bool → List ℕ → List ℕ
turned true bytes = reverse bytes
turned false bytes = bytes
