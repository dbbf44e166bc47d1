-- Numbers of one key are one integer, or none is one; which integer few digits are.
use Rattle.std.proofs.Common.{◌≡◌, ◌≢◌, ◌+◌, ◌-◌, ◌*◌, ◌/◌, ◌%◌, ◌^◌, ◌<◌, ◌≤◌, ◌⊎◌, inl, inr, ◌++◌, ◌∷◌, ℕ, List, Bool, true, false, ℤ, pos, ◌*ℤ◌, map, None, unsigned_abs, refl, sym, ap, ◌∙◌, arith}
use Rattle.std.specs.FinMap.{int_cmp-IsAntisymmetric}
use Rattle.std.specs.Ordering.{int_cmp}
use Rattle.std.specs.declared.cmp.Ordering.TheVariants.{Equal}
use Rattle.std.proofs.lemmas.Cmp.{int_cmp_total, tied_itself}
use Rattle.jsonb_spec.specs.Number.Cast.{HasValue}
use Rattle.jsonb_spec.specs.Order.{num_cmp}
use Rattle.jsonb_spec.specs.Tree.{Num, int64}
use Rattle.std.specs.Bool.{nat_lt}
use Rattle.std.specs.Int.{is_negative, w64}
use Rattle.std.specs.Prelude.{FitsSigned}
use Rattle.std.proofs.lemmas.Int.{ints}
use borrow.Author.Differences.{product_is}
use Rattle.jsonb_spec.specs.Number.Signed.{signed_by}
use Rattle.jsonb_spec.specs.Proper.{IsProperNumber}
use Rattle.jsonb_spec.specs.SortKey.{digits_key, invert_if, number_key}
use Rattle.std.proofs.lemmas.Nat.{pow-add}
use Rattle.jsonb_core.proofs.SortKeys.Digits.{ten}
use Rattle.jsonb_core.proofs.Numbers.Nearest.{unsigned_abs-signed}
use Rattle.jsonb_core.proofs.Numbers.Quotients.{ten_positive}
use Rattle.jsonb_spec.specs.SortKey.Reading.{exponent_of, read_as, IsDigits, ReadsDigits}
use Rattle.key_value.proofs.Numbers.{all_with_last, cancel}
use Rattle.key_value.proofs.Signs.{is_exponent, signed_read, some_exponent, IsSigned}
use Rattle.key_value.proofs.Wholes.{most, same_number, HasParts}
use Rattle.jsonb_core.specs.Order.NumberLaws.{int_cmp-scaled, scaled_swapped}

pub same_integer : (m n : Num) (v : ℤ) → num_cmp m n ≡ Equal → HasValue m v → HasValue n v
same_integer m n v e is =
    let crossed : m.whole *ℤ pos (10 ^ n.scale) ≡ n.whole *ℤ pos (10 ^ m.scale) = int_cmp-IsAntisymmetric (m.whole *ℤ pos (10 ^ n.scale)) (n.whole *ℤ pos (10 ^ m.scale)) e in
    let equal : n.whole *ℤ pos (10 ^ m.scale) ≡ v *ℤ pos (10 ^ n.scale) *ℤ pos (10 ^ m.scale) = sym crossed ∙ ap (λ w. w *ℤ pos (10 ^ n.scale)) is ∙ scaled_swapped v (10 ^ m.scale) (10 ^ n.scale) in
    int_cmp-IsAntisymmetric n.whole (v *ℤ pos (10 ^ n.scale))
    (int_cmp-scaled n.whole (v *ℤ pos (10 ^ n.scale)) (10 ^ m.scale) (ten_positive m.scale)
    ∙ ap (λ w. int_cmp w (v *ℤ pos (10 ^ n.scale) *ℤ pos (10 ^ m.scale))) equal
    ∙ tied_itself int_cmp_total (v *ℤ pos (10 ^ n.scale) *ℤ pos (10 ^ m.scale)))

-- a number is one integer at most
pub same_value : (n : Num) (a b : ℤ) → HasValue n a → HasValue n b → a ≡ b
same_value n a b p q =
    let power = 10 ^ n.scale in
    int_cmp-IsAntisymmetric a b
    (int_cmp-scaled a b power (ten_positive n.scale)
    ∙ ap (λ w. int_cmp w (b *ℤ pos power)) (sym p ∙ q)
    ∙ tied_itself int_cmp_total (b *ℤ pos power))

-- the integer of this sign and magnitude
pub signed_value : (n : Num) (sign : Bool) (magnitude : ℕ) (v : ℤ) → is_negative n.whole ≡ sign → magnitude * 10 ^ n.scale ≡ unsigned_abs n.whole → v ≡ signed_by sign magnitude → HasValue n v
signed_value n sign magnitude v negative whole is =
    let x : Num = record { form = int64; scale = 0; whole = v } in
    same_integer x n v (same_number x n sign 0 magnitude refl is negative (omega (arith, whole))) (omega (arith, ints, product_is v (pos 1)))

-- the number whose key is one byte is 0
pub zero_value : (n : Num) → n.whole ≡ pos 0 → HasValue n (pos 0)
zero_value n none = none ∙ omega (arith, ints, product_is (pos 0) (pos (10 ^ n.scale)))

-- an integer whose magnitude is so large has more than 64 bits
pub too_large : (sign : Bool) (magnitude : ℕ) (v : ℤ) → v ≡ signed_by sign magnitude → FitsSigned w64 v → (2 ^ 63 < magnitude) ⊎ ((sign ≡ false) × (2 ^ 63 ≤ magnitude)) → ⊥
too_large false magnitude v is fits (inl large) = absurd (omega (arith, ints, is, fits.sfits, large))
too_large false magnitude v is fits (inr large) = absurd (omega (arith, ints, is, fits.sfits, large.1))
too_large true magnitude v is fits (inl large) = absurd (omega (arith, ints, ap unsigned_abs is, unsigned_abs-signed true magnitude, fits.sfits, large))
too_large true magnitude v is fits (inr large) = let clash : true ≡ false = large.0 in cc

-- Whichever number's digits the bytes begin with, this is so of how many they are, and of that number.
abbrev pub AtDigits : Bool → List ℕ → (ℕ → ℕ → Type 0) → Type 0
AtDigits negative bytes Is = (C M : ℕ) → M < 10 ^ C → 0 < M → M ≤ 2 ^ 127 → C ≤ 39 → (more : List ℕ) → bytes ≡ map (invert_if negative) (digits_key C M) ++ more → Is C M

-- ---- what is read of the key of a number that isn't 0

module _ (n : Num) (proper : IsProperNumber n) (first : ℕ) (others bytes more : List ℕ) (e : bytes ≡ first ∷ others) (other : first ≢ 128) (occurs : bytes ≡ number_key n ++ more) where
  abbrev sign : Bool
  sign = nat_lt first 128

  abbrev signed : IsSigned n sign bytes more
  signed = signed_read n proper first others bytes more e other occurs

  pub same_sign : is_negative n.whole ≡ sign
  same_sign = signed.is_sign

  pub exponent_found : None ≡ exponent_of sign bytes → ⊥
  exponent_found = some_exponent n sign bytes more signed

  pub digits_found : (exponent : ℕ) (rest : List ℕ) → read_as exponent rest ≡ exponent_of sign bytes → (Is : ℕ → ℕ → Type 0) → AtDigits sign rest Is → Is signed.count (unsigned_abs n.whole)
  digits_found exponent rest read Is found = found signed.count (unsigned_abs n.whole) signed.below signed.some (most n proper) signed.few more (is_exponent n sign bytes more signed exponent rest read).1

  pub parts_read : (exponent : ℕ) (rest : List ℕ) → read_as exponent rest ≡ exponent_of sign bytes → (digits count : ℕ) → AtDigits sign rest (λ C M. IsDigits C M digits count) → HasParts n exponent digits count
  parts_read exponent rest read digits count found = record {
    count = signed.count;
    is_digits = digits_found exponent rest read (λ C M. IsDigits C M digits count) found;
    is_exponent_key = omega (arith, (is_exponent n sign bytes more signed exponent rest read).0, signed.is_exponent_key);
  }

  -- The digits in front of the last pair and that pair are the number's, without its sign.
  pub few_digits : (exponent : ℕ) (digits : List ℕ) → read_as exponent digits ≡ exponent_of sign bytes → 255 ≤ exponent
      → (front count : ℕ) (rest : List ℕ) → ReadsDigits sign digits front count rest
      → (byte : ℕ) (behind : List ℕ) (b : ℕ) → rest ≡ byte ∷ behind → b ≡ invert_if sign byte → b % 2 ≡ 0
      → (whole : ℕ) → whole * 10 ^ (count + 2) ≡ (front * 100 + b / 2) * 10 ^ (exponent - 255)
      → whole * 10 ^ n.scale ≡ unsigned_abs n.whole
  few_digits exponent digits read high front count rest reads byte behind b is_rest is_b even whole is_whole =
      let M = unsigned_abs n.whole in
      let at = is_exponent n sign bytes more signed exponent digits read in
      let last = all_with_last sign digits front count rest byte behind b reads is_rest is_b signed.count M signed.below signed.some (most n proper) signed.few more at.1 even in
      let all = front * 100 + b / 2 in
      let before = exponent - 255 in
      let S = 10 ^ n.scale in
      let R = 10 ^ count in
      let sum : before + n.scale ≡ last.0 + count = omega (arith, high, at.0, signed.is_exponent_key, last.1) in
      let powers : 10 ^ before * S ≡ 10 ^ last.0 * R = sym (pow-add 10 before n.scale) ∙ ap (λ k. 10 ^ k) sum ∙ pow-add 10 last.0 count in
      let hundred : 10 ^ (count + 2) ≡ R * 100 = pow-add 10 count 2 in
      let same : whole * S * 10 ^ (count + 2) ≡ M * 10 ^ (count + 2) =
      omega (arith, ap (λ x. x * S) is_whole, ap (λ x. all * x) powers, ap (λ x. x * R) last.2, ap (λ x. M * x) hundred) in
      cancel (whole * S) M (10 ^ (count + 2)) (ten (count + 2)) same
