-- The bytes of an input from an offset on.
use Rattle.std.proofs.Common.{◌≡◌, ℕ, ◌+◌, ◌-◌, ◌<◌, ◌≤◌, List, [], ◌∷◌, length, drop, ap, arith, length-drop}
use Rattle.std.proofs.lemmas.List.{nil_from_length}
use Rattle.jsonb_spec.specs.Code.{Code}
use Rattle.jsonb_spec.specs.Parsing.{fault_at}

fault-here : (size : ℕ) (code : Code) (step i : ℕ) (bytes : List ℕ) → length bytes + i ≡ size → 0 < length bytes → fault_at size code step bytes ≡ record { code = code; offset = i + step }
fault-here size code step i [] e h = absurd (omega arith)
fault-here size code step i (b ∷ bytes) e h = let offset : size - length (b ∷ bytes) + step ≡ i + step = omega (arith, e) in ap (λ (p : ℕ). record { code = code; offset = p }) offset

-- the fault at an index inside of the input
pub fault_at-inside : (buf : List ℕ) (i : ℕ) (code : Code) (step : ℕ) → i < length buf → fault_at (length buf) code step (drop i buf) ≡ record { code = code; offset = i + step }
fault_at-inside buf i code step h = fault-here (length buf) code step i (drop i buf) (omega (arith, length-drop i buf)) (omega (arith, length-drop i buf))

pub nothing_left : {A : Type 0} (xs : List A) (i : ℕ) → length xs ≤ i → drop i xs ≡ []
nothing_left xs i h = nil_from_length (drop i xs) (omega (arith, length-drop i xs))
