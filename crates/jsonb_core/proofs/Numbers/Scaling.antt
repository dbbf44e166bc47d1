-- A number times a power of ten, within 128 bits and past them.
use Rattle.std.proofs.Common.{◌≡◌, ℕ, suc, ◌+◌, ◌-◌, ◌*◌, ◌^◌, ◌<◌, ◌≤◌, ℤ, pos, negsuc, ◌*ℤ◌, FitsSigned, sym, ap, ◌∙◌, subst, arith}
use Rattle.std.proofs.Math.Nat.{le-mul_of_pos_right}
use Rattle.std.proofs.lemmas.Int.{ints}
use Rattle.std.proofs.lemmas.Nat.{pow-add}
use Rattle.std.specs.Int.{w128}
use Rattle.std.specs.Ordering.{int_cmp, ordering_reverse}
use Rattle.std.specs.Cmp.{int_cmp_total}
use borrow.Author.Differences.{product_is}
use Rattle.jsonb_core.specs.Order.NumberLaws.{scaled_twice, int_cmp-scaled}
use Rattle.jsonb_spec.specs.Order.{decimal_cmp}
use Rattle.jsonb_core.proofs.Numbers.Quotients.{ten_positive}

-- where the multiple fits, the number does
fits_from_scaled : (z : ℤ) (k : ℕ) → 0 < k → FitsSigned w128 (z *ℤ pos k) → FitsSigned w128 z
fits_from_scaled (pos n) k h f = omega (arith, ints, le-mul_of_pos_right n h)
fits_from_scaled (negsuc n) k h f = omega (arith, ints, product_is (negsuc n) (pos k), le-mul_of_pos_right (suc n) h)

-- one more digit
pub scaled_more : (z x : ℤ) (i : ℕ) → x ≡ z *ℤ pos (10 ^ i) → x *ℤ pos 10 ≡ z *ℤ pos (10 ^ (i + 1))
scaled_more z x i e =
    ap (λ y. y *ℤ pos 10) e ∙ scaled_twice z (10 ^ i) 10 ∙ ap (λ k. z *ℤ pos k) (sym (pow-add 10 i 1))

-- a product that is too large stays so with more digits
pub too_large_more : (z x : ℤ) (i d : ℕ) → i < d → x ≡ z *ℤ pos (10 ^ i) → (FitsSigned w128 (x *ℤ pos 10) → ⊥) → FitsSigned w128 (z *ℤ pos (10 ^ d)) → ⊥
too_large_more z x i d h e large f =
    let split : 10 ^ d ≡ 10 ^ (i + 1) * 10 ^ (d - (i + 1)) =
    let all : d ≡ i + 1 + (d - (i + 1)) = omega arith in
    ap (λ (k : ℕ). 10 ^ k) all ∙ pow-add 10 (i + 1) (d - (i + 1)) in
    let whole : z *ℤ pos (10 ^ d) ≡ x *ℤ pos 10 *ℤ pos (10 ^ (d - (i + 1))) =
    ap (λ k. z *ℤ pos k) split ∙ sym (scaled_twice z (10 ^ (i + 1)) (10 ^ (d - (i + 1)))) ∙ ap (λ y. y *ℤ pos (10 ^ (d - (i + 1)))) (sym (scaled_more z x i e)) in
    large (fits_from_scaled (x *ℤ pos 10) (10 ^ (d - (i + 1))) (ten_positive _) (subst (FitsSigned w128) whole f))

-- both at the greater scale
pub decimal_cmp-raised : (a b : ℤ) (s t : ℕ) → s ≤ t → int_cmp (a *ℤ pos (10 ^ (t - s))) b ≡ decimal_cmp a s b t
decimal_cmp-raised a b s t h =
    let all : 10 ^ (t - s) * 10 ^ s ≡ 10 ^ t =
    let sum : t - s + s ≡ t = omega arith in
    sym (pow-add 10 (t - s) s) ∙ ap (λ (k : ℕ). 10 ^ k) sum in
    int_cmp-scaled _ _ (10 ^ s) (ten_positive s) ∙ ap (λ x. int_cmp x (b *ℤ pos (10 ^ s))) (scaled_twice a (10 ^ (t - s)) (10 ^ s) ∙ ap (λ k. a *ℤ pos k) all)

pub decimal_cmp-lowered : (a b : ℤ) (s t : ℕ) → t ≤ s → ordering_reverse (int_cmp (b *ℤ pos (10 ^ (s - t))) a) ≡ decimal_cmp a s b t
decimal_cmp-lowered a b s t h =
    ap ordering_reverse (decimal_cmp-raised b a t s h) ∙ sym (int_cmp_total.antisymm (a *ℤ pos (10 ^ t)) (b *ℤ pos (10 ^ s)))
