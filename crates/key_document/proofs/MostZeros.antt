-- How many zeros a number may end in, by the digits and the exponent of its key.
use Rattle.std.proofs.Common.{◌≡◌, ◌≢◌, ℕ, ◌+◌, ◌-◌, ◌*◌, ◌/◌, ◌%◌, ◌^◌, ◌<◌, ◌≤◌, ◌⊎◌, inl, inr, Bool, pos, unsigned_abs, List, ◌∷◌, ◌++◌, map, None, refl, sym, ap, ◌∙◌, arith}
use Rattle.std.proofs.Math.Nat.{mul-le-mul_right, mul-lt-mul_of_pos_right}
use Rattle.std.proofs.lemmas.Bool.{cases_lt}
use Rattle.std.proofs.lemmas.Nat.{pow-add}
use Rattle.jsonb_spec.specs.SortKey.{digit_count, digits_key, invert_if}
use Rattle.jsonb_spec.specs.Tree.{Num}
use Rattle.jsonb_core.proofs.SortKeys.Counts.{power_le}
use Rattle.jsonb_core.proofs.SortKeys.Digits.{ten}
use Rattle.key_document.specs.Check.{IsStripped, most_zeros}
use Rattle.key_document.proofs.Trailing.{Fewest, fewest, no_digits}
use Rattle.jsonb_spec.specs.SortKey.FewestDigits.{spare_zeros}
use Rattle.key_text.proofs.Spares.{all_spare, some_spare}
use Rattle.jsonb_spec.specs.SortKey.Reading.{IsLastPair, IsNoLastPair, ReadsDigits, exponent_of, read_as}
use Rattle.key_value.proofs.Exact.{counted}
use Rattle.key_value.proofs.Numbers.{cancel, exponent_read, last_none, last_some}
use Rattle.key_value.proofs.Signs.{IsSigned}
use Rattle.key_value.proofs.Texts.{none_some, some_pair}

-- ---- the digits of a key

-- The number without the zeros that its digits end in.
module _ (negative : Bool) (bytes : List ℕ) (digits read : ℕ) (rest : List ℕ) (byte : ℕ) (others : List ℕ) (b : ℕ) (so_far : ReadsDigits negative bytes digits read rest) (first : rest ≡ byte ∷ others) (is : b ≡ invert_if negative byte)
    (C M : ℕ) (below : M < 10 ^ C) (some : 0 < M) (high : M ≤ 2 ^ 127) (few : C ≤ 39) (more : List ℕ) (e : bytes ≡ map (invert_if negative) (digits_key C M) ++ more) (even : b % 2 ≡ 0) where
  no_last : IsNoLastPair digits (b / 2) → ⊥
  no_last none = last_none negative bytes digits read rest byte others b so_far first is C M below some high few more e even (b / 2) refl none

  small : b / 2 < 100
  small = elim (cases_lt (b / 2) 100) [
    | inl less ↦ less
    | inr large ↦ absurd (no_last (inr (inl (omega (arith, large)))))
  ]

  not_none : b / 2 ≢ 0
  not_none none = no_last (inl none)

  ended : (all last : ℕ) → IsLastPair digits (b / 2) all last → IsStripped C M (read + last)
  ended all last p = record {
    digits = all;
    is_digits = (last_some negative bytes digits read rest byte others b so_far first is C M below some high few more e even (b / 2) all last refl p).0;
    not_zero = p.not_zero;
  }

  -- the last digit of the pair is a zero
  pub one_stripped : b / 2 % 10 ≡ 0 → IsStripped C M (read + 1)
  one_stripped last = ended (digits * 10 + b / 2 / 10) 1 (record {
    below = small;
    taken = inr (refl, last, refl);
    whole = omega (arith, last);
    few = omega arith;
    one = λ z. refl;
    not_zero = λ z. not_none (omega (arith, z, last, small));
  })

  pub two_stripped : b / 2 % 10 ≢ 0 → IsStripped C M (read + 2)
  two_stripped last = ended (digits * 100 + b / 2) 2 (record {
    below = small;
    taken = inl (refl, refl);
    whole = omega arith;
    few = omega arith;
    one = λ z. absurd (last z);
    not_zero = λ z. last (omega (arith, z));
  })

-- ---- the number of a key

-- 0 may end in as many as there may be digits
pub zero_most : (n : Num) → n.whole ≡ pos 0 → 38 ≡ most_zeros n
zero_most n none =
    let f = fewest n in
    let nothing : f.magnitude ≡ 0 = cancel f.magnitude 0 (10 ^ f.spare) (ten f.spare) (omega (arith, f.whole, ap unsigned_abs none)) in
    let no_scale : f.scale ≡ 0 = elim f.ends [
      | inl e ↦ e
      | inr other ↦ absurd (other (ap (λ k. k % 10) nothing))
    ] in
    omega (arith, f.most, no_scale, ap digit_count nothing, no_digits)

less_back : (a b k : ℕ) → a * k < b * k → a < b
less_back a b k h = elim (cases_lt a b) [
  | inl less ↦ less
  | inr most ↦ absurd (omega (arith, h, mul-le-mul_right k most))
]

-- The zeros at the end, and how many digits there are without them.
module _ (n : Num) (C d : ℕ) (below : unsigned_abs n.whole < 10 ^ C) (least : 10 ^ C ≤ unsigned_abs n.whole * 10) (some : 0 < unsigned_abs n.whole) (few : C ≤ 39) (x : IsStripped C (unsigned_abs n.whole) d) where
  abbrev f : Fewest n
  f = fewest n

  split : x.digits * 10 ^ (C - d) ≡ unsigned_abs n.whole
  split =
      let k = C - d in
      let sum : C ≡ k + d = omega (arith, x.is_digits.fewer) in
      let power : 10 ^ C ≡ 10 ^ k * 10 ^ d = ap (λ i. 10 ^ i) sum ∙ pow-add 10 k d in
      cancel (x.digits * 10 ^ k) (unsigned_abs n.whole) (10 ^ d) (ten d) (omega (arith, x.is_digits.whole, ap (λ p. x.digits * p) power))

  spares : (spare_zeros n.scale (unsigned_abs n.whole) ≡ n.scale) × (n.scale ≤ C - d) ⊎ (spare_zeros n.scale (unsigned_abs n.whole) ≡ C - d) × (C - d < n.scale)
  spares = elim (cases_lt (C - d) n.scale) [
    | inl less ↦ inr (ap (spare_zeros n.scale) (sym split) ∙ some_spare n.scale (C - d) x.digits x.not_zero (omega (arith, less)), less)
    | inr all ↦ inl (ap (spare_zeros n.scale) (sym split) ∙ all_spare n.scale (C - d) x.digits all, all)
  ]

  pub behind_is : f.scale ≡ (n.scale + d) - C
  behind_is = elim spares [
    | inl a ↦ omega (arith, a.0, a.1, f.is_spare, f.scales)
    | inr b ↦ omega (arith, b.0, b.1, f.is_spare, f.scales, x.is_digits.fewer)
  ]

  few_spare : f.spare ≤ C
  few_spare = elim spares [
    | inl a ↦ omega (arith, a.0, a.1, f.is_spare)
    | inr b ↦ omega (arith, b.0, b.1, f.is_spare)
  ]

  pub digits_are : digit_count f.magnitude ≡ C - f.spare
  digits_are =
      let k = C - f.spare in
      let sum : C ≡ k + f.spare = omega (arith, few_spare) in
      let Z = 10 ^ f.spare in
      let power : 10 ^ C ≡ 10 ^ k * Z = ap (λ i. 10 ^ i) sum ∙ pow-add 10 k f.spare in
      let low : f.magnitude < 10 ^ k = less_back f.magnitude (10 ^ k) Z (omega (arith, below, power, f.whole)) in
      let high : 10 ^ k ≤ f.magnitude * 10 = elim (cases_lt (f.magnitude * 10) (10 ^ k)) [
        | inl less ↦ absurd (omega (arith, least, power, ap (λ m. m * 10) f.whole, mul-lt-mul_of_pos_right less (ten f.spare)))
        | inr most ↦ most
      ] in
      let one : 0 < f.magnitude = omega (arith, high, ten k) in
      counted k f.magnitude low high one (omega (arith, low, power_le k 39 (omega (arith, few))))

  pub most_are : (exponent : ℕ) → exponent + n.scale ≡ C + 255 → 38 - (((255 + d) - exponent) + (exponent - 255)) ≡ most_zeros n
  most_are exponent is = omega (arith, is, f.most, behind_is, digits_are, f.scales, few_spare)
