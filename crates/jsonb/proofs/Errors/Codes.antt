-- In which of two steps the fault was, and the codes of which something is said.
use Rattle.std.proofs.Common.{◌≡◌, ℕ, ◌+◌, ◌-◌, ◌⊎◌, inl, inr, List, [], ◌∷◌, length, Result, Ok, Err, refl, sym, ap, subst}
use Rattle.jsonb_spec.specs.Code.{Code}
use Rattle.jsonb_spec.specs.Code.Code.{depth_limit_exceeded, expected_some_value, invalid_eof, number_not_carried, object_duplicate_key, unexpected_trailing_characters}
use Rattle.jsonb_spec.specs.Parsing.{Fault, fault, reject, ◌>>=◌}

-- the codes of which `Applies` says something
abbrev pub IsReported : Code → Type 0
IsReported expected_some_value = Unit {0}
IsReported unexpected_trailing_characters = Unit {0}
IsReported number_not_carried = Unit {0}
IsReported depth_limit_exceeded = Unit {0}
IsReported (object_duplicate_key k) = Unit {0}
IsReported other = ⊥

-- what two equal faults are
fault_in : {B : Type 0} → Fault → Result B Fault → Fault
fault_in d (Ok x) = d
fault_in d (Err e) = e

pub same_err : {B : Type 0} (d f : Fault) → ◌≡◌ {A = Result B Fault} (Err d) (Err f) → d ≡ f
unfolding fault_in
same_err {B} d f e = ap (λ (r : Result B Fault). fault_in d r) e

-- where two steps failed: in the first one or in the second
pub bind_err : {A B : Type 0} (r : Result A Fault) (g : A → Result B Fault) (f : Fault) → (r >>= g) ≡ Err f → (r ≡ Err f) ⊎ ((x : A) × (r ≡ Ok x) × (g x ≡ Err f))
bind_err (Ok x) g f e = inr (x, refl, e)
bind_err {B = B} (Err d) g f e = let same : d ≡ f = same_err {B = B} d f e in inl (ap (λ (h : Fault). Err h) same)

pub silent_fault : {B : Type 0} (code : Code) (offset : ℕ) (f : Fault) → ◌≡◌ {A = Result B Fault} (fault code offset) (Err f) → (IsReported code → ⊥) → IsReported f.code → ⊥
silent_fault {B} code offset f e silent reported = silent (subst (λ (g : Fault). IsReported g.code) (sym (same_err {B = B} (record { code = code; offset = offset }) f e)) reported)

pub silent_rejected : {B : Type 0} (size : ℕ) (code : Code) (step : ℕ) (bytes : List ℕ) (f : Fault) → ◌≡◌ {A = Result B Fault} (reject size code step bytes) (Err f) → (IsReported code → ⊥) → IsReported f.code → ⊥
silent_rejected {B} size code step [] f e silent reported = silent_fault {B = B} invalid_eof size f e (λ n. n) reported
silent_rejected {B} size code step (b ∷ bytes) f e silent reported = silent_fault {B = B} code (size - length (b ∷ bytes) + step) f e silent reported
