-- The first bytes of a list, with another instead of the first one.
use Rattle.std.proofs.Common.{◌≡◌, ℕ, zero, suc, ◌+◌, ◌-◌, ◌<◌, List, [], ◌∷◌, length, set, take, drop, refl, sym, ap, ◌∙◌, arith}
use Rattle.std.proofs.lemmas.List.{drop-take}

pub replaced : (v : ℕ) (xs : List ℕ) (n : ℕ) → 0 < n → 0 < length xs → take n (set xs 0 v) ≡ v ∷ drop 1 (take n xs)
replaced v xs zero p q = absurd (omega arith)
replaced v [] (suc n) p q = absurd (omega arith)
replaced v (x ∷ xs) (suc n) p q = refl

-- those behind the first one
pub behind_first : (n : ℕ) (xs : List ℕ) → 0 < n → take (n - 1) (drop 1 xs) ≡ drop 1 (take n xs)
behind_first n xs p =
    let one : 1 + (n - 1) ≡ n = omega arith in sym (drop-take 1 (n - 1) xs) ∙ ap (λ m. drop 1 (take m xs)) one
