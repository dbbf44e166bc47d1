-- What the statuses of `vizhoniku_key_contains` say.
use Rattle.std.specs.Prelude.{◌≡◌, ℕ, Bool, true, false}

-- The status says whether the value is contained: accepted, or no such part.
abbrev pub IsContained : Bool → ℕ → Type 0
IsContained true status = status ≡ 0
IsContained false status = status ≡ 5
