-- A run of bytes of one kind, and bytes of another kind after it, are distinguished.
use Rattle.std.proofs.Common.{List, [], ◌∷◌, ◌≡◌, ℕ, ◌++◌, drop, get_or, refl, ap, subst}
use Rattle.std.specs.List.{AllByRecursion}

-- the bytes do not begin with one of this kind
abbrev pub BeginsOther : (ℕ → Type 0) → List ℕ → Type 0
BeginsOther P [] = Unit {0}
BeginsOther P (b ∷ bytes) = P b → ⊥

-- a run ends where the next byte is of another kind, so the run and the rest are known from the whole
pub same_run : (P : ℕ → Type 0) (xs ys r s : List ℕ) → AllByRecursion P xs → AllByRecursion P ys → BeginsOther P r → BeginsOther P s → xs ++ r ≡ ys ++ s → (xs ≡ ys) × (r ≡ s)
same_run P [] [] r s all each other another e = (refl, e)
same_run P [] (y ∷ ys) [] s all each other another e = cc
same_run P [] (y ∷ ys) (b ∷ r) s all each other another e = let first : y ≡ b = cc in absurd (other (subst P first each.0))
same_run P (x ∷ xs) [] r [] all each other another e = cc
same_run P (x ∷ xs) [] r (b ∷ s) all each other another e = let first : x ≡ b = cc in absurd (another (subst P first all.0))
same_run P (x ∷ xs) (y ∷ ys) r s all each other another e =
    let first : x ≡ y = cc in
    let others : xs ++ r ≡ ys ++ s = cc in
    let more = same_run P xs ys r s all.1 each.1 other another others in
    ((λ i. first i ∷ more.0 i), more.1)

-- ---- first items

pub heads : (x y : ℕ) (xs ys : List ℕ) → x ∷ xs ≡ y ∷ ys → x ≡ y
heads x y xs ys e = ap (λ zs. get_or zs 0 0) e

pub tails : (x y : ℕ) (xs ys : List ℕ) → x ∷ xs ≡ y ∷ ys → xs ≡ ys
tails x y xs ys e = ap (drop 1) e
