-- A decimal's number is exactly that of its digits, moved by its exponent.
use Rattle.std.proofs.Common.{◌≡◌, ◌⊎◌, ℕ, ◌+◌, ◌-◌, ◌*◌, ◌^◌, ◌++◌, length, List, [], Bool, refl, sym, ap, ◌∙◌, inl, inr, ⊎_elim, arith}
use Rattle.std.specs.Prelude.{unsigned_abs}
use Rattle.std.specs.Option.{unwrap_or}
use Rattle.std.specs.Str.Parse.{digits_value, starts_with_minus}
use Rattle.std.proofs.lemmas.Nat.{pow-add}
use Rattle.jsonb_spec.specs.Grammar.ExactNumber.{Moves, no_exponent, to_the_right, to_the_left, moved_number, IsExactDecimal}
use Rattle.jsonb_spec.specs.Number.Signed.{signed_by}
use Rattle.jsonb_spec.specs.Tree.{Num}
use Rattle.text_scan.proofs.Numbers.Forms.{size_is}

one_way : (exponent : List ℕ) (right left : ℕ) → Moves exponent right left → (right ≡ 0) ⊎ (left ≡ 0)
one_way exponent right left no_exponent = inl refl
one_way exponent right left (to_the_right digits mark sign each) = inr refl
one_way exponent right left (to_the_left digits mark each) = inl refl

sums : (behind right left : ℕ) → (right ≡ 0) ⊎ (left ≡ 0) → (right - behind) + (behind + left) ≡ ((behind + left) - right) + right
sums behind right left one = ⊎_elim (λ e. omega (arith, e)) (λ e. omega (arith, e)) one

moves : (m behind right left : ℕ) → (right ≡ 0) ⊎ (left ≡ 0) → m * 10 ^ (right - behind) * 10 ^ (behind + left) ≡ m * 10 ^ (((behind + left) - right) + right)
moves m behind right left one =
    let both : 10 ^ (right - behind) * 10 ^ (behind + left) ≡ 10 ^ (((behind + left) - right) + right) = sym (pow-add 10 (right - behind) (behind + left)) ∙ ap (λ (k : ℕ). 10 ^ k) (sums behind right left one) in
    let factors : m * 10 ^ (right - behind) * 10 ^ (behind + left) ≡ m * (10 ^ (right - behind) * 10 ^ (behind + left)) = omega arith in
    factors ∙ ap (λ (k : ℕ). m * k) both

-- the scale, the size and the sign of a number whose point is moved
moved_scale : (negative : Bool) (m behind right left : ℕ) → (moved_number negative m behind right left).scale ≡ (behind + left) - right
unfolding moved_number
moved_scale negative m behind right left = refl

moved_whole : (negative : Bool) (m behind right left : ℕ) → (moved_number negative m behind right left).whole ≡ signed_by negative (m * 10 ^ (right - behind))
unfolding moved_number
moved_whole negative m behind right left = refl

whole_is : (bytes : List ℕ) (n : Num) (d : IsExactDecimal bytes n)
    → n.whole ≡ signed_by (starts_with_minus d.sign) (digits_value 10 (d.whole ++ unwrap_or d.fraction []) * 10 ^ (d.right - length (unwrap_or d.fraction [])))
whole_is bytes n d = ap (λ (x : Num). x.whole) d.value ∙ moved_whole (starts_with_minus d.sign) (digits_value 10 (d.whole ++ unwrap_or d.fraction [])) (length (unwrap_or d.fraction [])) d.right d.left

-- the scale and the size of it
pub exact_scale : (bytes : List ℕ) (n : Num) (d : IsExactDecimal bytes n) → n.scale ≡ (length (unwrap_or d.fraction []) + d.left) - d.right
exact_scale bytes n d = ap (λ (x : Num). x.scale) d.value ∙ moved_scale (starts_with_minus d.sign) (digits_value 10 (d.whole ++ unwrap_or d.fraction [])) (length (unwrap_or d.fraction [])) d.right d.left

size_of : (negative : Bool) (n : Num) (m : ℕ) → n.whole ≡ signed_by negative m → unsigned_abs n.whole ≡ m
size_of negative n m is = ap unsigned_abs is ∙ size_is negative m

pub exact_size : (bytes : List ℕ) (n : Num) (d : IsExactDecimal bytes n) → unsigned_abs n.whole ≡ digits_value 10 (d.whole ++ unwrap_or d.fraction []) * 10 ^ (d.right - length (unwrap_or d.fraction []))
exact_size bytes n d = size_of (starts_with_minus d.sign) n _ (whole_is bytes n d)

pub exact_sign : (bytes : List ℕ) (n : Num) (d : IsExactDecimal bytes n) → n.whole ≡ signed_by (starts_with_minus d.sign) (unsigned_abs n.whole)
exact_sign bytes n d =
    let whole = whole_is bytes n d in
    whole ∙ ap (signed_by (starts_with_minus d.sign)) (sym (size_of (starts_with_minus d.sign) n _ whole))

pub exact_value : (bytes : List ℕ) (n : Num) (d : IsExactDecimal bytes n)
    → unsigned_abs n.whole * 10 ^ (length (unwrap_or d.fraction []) + d.left) ≡ digits_value 10 (d.whole ++ unwrap_or d.fraction []) * 10 ^ (n.scale + d.right)
exact_value bytes n d =
    let behind = length (unwrap_or d.fraction []) in
    let m = digits_value 10 (d.whole ++ unwrap_or d.fraction []) in
    ap (λ (k : ℕ). k * 10 ^ (behind + d.left)) (exact_size bytes n d) ∙ moves m behind d.right d.left (one_way d.exponent d.right d.left d.moves) ∙ ap (λ (k : ℕ). m * 10 ^ (k + d.right)) (sym (exact_scale bytes n d))
