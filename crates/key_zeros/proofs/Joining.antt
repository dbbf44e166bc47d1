-- The zeros of numbers that are put together.
use Rattle.std.proofs.Common.{◌≡◌, ℕ, List, [], ◌∷◌, ◌++◌, refl, sym, ap, ◌∙◌, append_assoc}
use Rattle.jsonb_spec.specs.Document.Zeros.{entry_of, plain_behind, zeros_of, plain_at_end}

pub zeros_joined : (plain : ℕ) (front back : List ℕ) → zeros_of plain (front ++ back) ≡ zeros_of plain front ++ zeros_of (plain_at_end plain front) back
zeros_joined plain [] back = refl
zeros_joined plain (count ∷ front) back =
    ap (λ zs. entry_of plain count ++ zs) (zeros_joined (plain_behind plain count) front back)
    ∙ sym (append_assoc (entry_of plain count) (zeros_of (plain_behind plain count) front) (zeros_of (plain_at_end (plain_behind plain count) front) back))

pub plain_joined : (plain : ℕ) (front back : List ℕ) → plain_at_end plain (front ++ back) ≡ plain_at_end (plain_at_end plain front) back
plain_joined plain [] back = refl
plain_joined plain (count ∷ front) back = plain_joined (plain_behind plain count) front back
