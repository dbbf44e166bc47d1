-- The lesser lanes of two vectors of bytes: a zero of either is among them.
use Rattle.std.proofs.Common.{◌≡◌, ◌≢◌, ℕ, ◌+◌, ◌-◌, ◌<◌, ◌≤◌, inl, inr, true, false, Bool, cond, ltb, zero, suc, [], ◌∷◌, Fits, w8, List, map, length, get_or, refl, sym, ap, subst, ◌∙◌, arith}
use Rattle.std.proofs.lemmas.Bool.{cases_lt, le-ltb, lt-ltb}
use Rattle.std.proofs.lemmas.List.{get_or-map, length-map}
use Rattle.std.proofs.lemmas.Simd.{get_or-chunk, get_or-sel_l, get_or-zip2, length-zip2}
use Rattle.std.specs.Simd.Lanes.{chunk, sel_l, top, zip2, Each1}
use Rattle.jsonb_spec.specs.SortKey.Front.{AreNoZeros}

-- the lesser of two is no zero
both_none : (a b : ℕ) → cond (ltb a b) a b ≢ 0 → (a ≢ 0) × (b ≢ 0)
both_none a b none = elim (cases_lt a b) [
  | inl less ↦ (
    λ e. none (ap (λ t. cond t a b) (lt-ltb a b less) ∙ e),
    λ e. absurd (omega (arith, less, e)),
  )
  | inr most ↦ (
    λ e. none (ap (λ t. cond t a b) (le-ltb a b most) ∙ omega (arith, most, e)),
    λ e. none (ap (λ t. cond t a b) (le-ltb a b most) ∙ e),
  )
]

pub top_of : (t : Bool) → top 7 (cond t 255 0) ≡ t
top_of true = refl
top_of false = refl

-- each lane of `lt` says by its top bit whether the first one is below the second
module _ (lt : ℕ → ℕ → ℕ) (is_lt : (a b : ℕ) → top 7 (lt a b) ≡ ltb a b) (xs ys : List ℕ) (n : ℕ) (long_xs : length xs ≡ n) (long_ys : length ys ≡ n) where
  abbrev ms : List Bool
  ms = map (top 7) (zip2 lt xs ys)

  abbrev pub lesser_lanes : List ℕ
  lesser_lanes = sel_l ms xs ys

  long_zs : length (zip2 lt xs ys) ≡ n
  long_zs = length-zip2 lt xs ys (long_xs ∙ sym long_ys) ∙ long_xs

  long_ms : length ms ≡ n
  long_ms = length-map (zip2 lt xs ys) (top 7) ∙ long_zs

  marked : (k : ℕ) → k < n → get_or ms k false ≡ ltb (get_or xs k 0) (get_or ys k 0)
  marked k l =
      get_or-map (top 7) (zip2 lt xs ys) k 0 false (omega (arith, l, long_zs))
      ∙ ap (top 7) (get_or-zip2 lt xs ys k 0 0 0 (omega (arith, l, long_xs)) (omega (arith, l, long_ys)))
      ∙ is_lt (get_or xs k 0) (get_or ys k 0)

  lesser_at : (k : ℕ) → k < n → get_or lesser_lanes k 0 ≡ cond (ltb (get_or xs k 0) (get_or ys k 0)) (get_or xs k 0) (get_or ys k 0)
  lesser_at k l =
      get_or-sel_l ms xs ys k 0 (omega (arith, l, long_ms)) (omega (arith, l, long_xs)) (omega (arith, l, long_ys))
      ∙ ap (λ t. cond t (get_or xs k 0) (get_or ys k 0)) (marked k l)

  pub none_in_both : AreNoZeros lesser_lanes n → AreNoZeros xs n × AreNoZeros ys n
  none_in_both none = (
    λ k l. (both_none (get_or xs k 0) (get_or ys k 0) (subst (λ b. b ≢ 0) (lesser_at k l) (none k l))).0,
    λ k l. (both_none (get_or xs k 0) (get_or ys k 0) (subst (λ b. b ≢ 0) (lesser_at k l) (none k l))).1,
  )

-- none of the bytes behind the first ones is a zero, of which a vector is made
pub none_behind : (bytes : List ℕ) (i n : ℕ) → AreNoZeros bytes i → AreNoZeros (chunk i n bytes) n → AreNoZeros bytes (i + n)
none_behind bytes i n front none k l = elim (cases_lt k i) [
  | inl low ↦ front k low
  | inr high ↦ subst (λ b. b ≢ 0) (get_or-chunk i n bytes (k - i) 0 (omega (arith, l, high)) ∙ ap (λ j. get_or bytes j 0) (omega (arith, high))) (none (k - i) (omega (arith, l, high)))
]

-- a lane, or the 0 behind the last one, is a byte
pub lane_fits : (lanes : List ℕ) → Each1 (Fits w8) lanes → (k : ℕ) → Fits w8 (get_or lanes k 0)
lane_fits [] h k = record { fits = omega arith }
lane_fits (x ∷ lanes) h zero = h.0
lane_fits (x ∷ lanes) h (suc k) = lane_fits lanes h.1 k
