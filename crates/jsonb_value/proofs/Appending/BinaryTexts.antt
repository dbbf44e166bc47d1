-- The text of binary data, byte by byte.
use Rattle.std.proofs.Common.{◌≡◌, ℕ, ◌*◌, List, [], ◌∷◌, length, refl, arith}
use Rattle.jsonb_spec.specs.Text.BinaryText.{binary_text}

pub length-binary_text : (bytes : List ℕ) → length (binary_text bytes) ≡ length bytes * 2
length-binary_text [] = refl
length-binary_text (b ∷ bytes) = omega (arith, length-binary_text bytes)
