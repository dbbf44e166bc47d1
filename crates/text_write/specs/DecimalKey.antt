-- The digits of a decimal around its point.
use Rattle.std.specs.Prelude.{◌≡◌, ℕ, List, [], ◌∷◌, ◌==◌, if◌then◌else◌, slice_index}
use Rattle.jsonb_spec.specs.Ascii as ascii

-- the bytes that are no points
abbrev pub without_points : List ℕ → List ℕ
without_points [] = []
without_points (b ∷ bytes) = if b == ascii.point then without_points bytes else b ∷ without_points bytes

-- The one point among the bytes has this index.
pub record IsOnlyPoint (bytes : List ℕ) (point : ℕ) : Type 0 where
  pub is : slice_index bytes point ≡ ascii.point
  pub only : (k : ℕ) → slice_index bytes k ≡ ascii.point → k ≡ point
