-- The decimal of the fewest digits that a number is.
use Rattle.std.proofs.Common.{◌≡◌, ◌≢◌, ℕ, ◌+◌, ◌-◌, ◌*◌, ◌%◌, ◌^◌, ◌<◌, ◌≤◌, inl, inr, Bool, ℤ, pos, Option, Some, None, MatchOption, unsigned_abs, refl, sym, ap, ◌∙◌, arith}
use Rattle.std.specs.Prelude.{◌*ℤ◌}
use Rattle.std.specs.Int.{is_negative}
use Rattle.std.proofs.Math.Nat.{mul-le-mul_left, mul-le-mul_right}
use Rattle.std.proofs.lemmas.Bool.{cases_eq, cases_lt}
use Rattle.std.proofs.lemmas.Int.{ints, unsigned_abs-mul}
use Rattle.std.proofs.lemmas.Nat.{pow-add}
use borrow.Author.Differences.{product_is}
use Rattle.jsonb_core.proofs.Numbers.Nearest.{signed_multiple, signed_parts, unsigned_abs-signed}
use Rattle.jsonb_core.proofs.SortKeys.Digits.{ten}
use Rattle.jsonb_spec.specs.Number.Signed.{signed_by}
use Rattle.jsonb_spec.specs.Tree.{Num}
use Rattle.jsonb_spec.specs.SortKey.Decimals.{HasFewDigits, HasManyDigits}
use Rattle.jsonb_spec.specs.SortKey.Reading.{IsPointed}
use Rattle.key_value.proofs.Numbers.{cancel}
use Rattle.key_value.proofs.Texts.{none_some}
use Rattle.key_value.proofs.Wholes.{with_point, HasParts}

-- No digit behind the point can be left out.
abbrev pub IsFewest : ℕ → ℕ → Type 0
IsFewest whole scale = scale ≢ 0 → whole % 10 ≢ 0

-- of the same number with more digits the last is 0
longer : (a b s t : ℕ) → s < t → a * 10 ^ t ≡ b * 10 ^ s → b % 10 ≡ 0
longer a b s t below same =
    let k = t - s - 1 in
    let sum : t ≡ k + 1 + s = omega (arith, below) in
    let power : 10 ^ t ≡ 10 ^ k * 10 * 10 ^ s = ap (λ i. 10 ^ i) sum ∙ pow-add 10 (k + 1) s ∙ ap (λ x. x * 10 ^ s) (pow-add 10 k 1) in
    let is : b ≡ a * 10 ^ k * 10 = cancel b (a * 10 ^ k * 10) (10 ^ s) (ten s) (omega (arith, same, ap (λ x. a * x) power)) in
    omega (arith, is)

pub same_whole : (a b s t : ℕ) → a * 10 ^ t ≡ b * 10 ^ s → IsFewest a s → IsFewest b t → a ≡ b
same_whole a b s t same one other = elim (cases_lt s t) [
  | inl less ↦ absurd (other (omega (arith, less)) (longer a b s t less same))
  | inr most ↦ elim (cases_lt t s) [
    | inl less ↦ absurd (one (omega (arith, less)) (longer b a t s less (sym same)))
    | inr least ↦ cancel a b (10 ^ s) (ten s) (ap (λ i. a * 10 ^ i) (omega (arith, most, least)) ∙ same)
  ]
]

pub fewest : (digits count exponent whole scale : ℕ) → digits % 10 ≢ 0 → IsPointed digits count exponent whole scale → IsFewest whole scale
fewest digits count exponent whole scale last p some none = elim (cases_lt exponent (255 + count)) [
  | inl below ↦ last (ap (λ w. w % 10) (sym (p.behind below).0) ∙ none)
  | inr most ↦ some (p.before most).1
]

-- digits have their point somewhere
pub some_point : (digits count exponent : ℕ) → (whole : ℕ) × (scale : ℕ) × IsPointed digits count exponent whole scale
some_point digits count exponent = elim (cases_lt exponent (255 + count)) [
  | inl below ↦ (digits, 255 + count - exponent, record { behind = λ h. (refl, refl); before = λ h. absurd (omega (arith, h, below)) })
  | inr most ↦ (digits * 10 ^ (exponent - (255 + count)), 0, record { behind = λ h. absurd (omega (arith, h, most)); before = λ h. (refl, refl) })
]

-- what a call reports that has no answer
pub no_answer : {A X : Type 0} (Y : A → Type 0) (r : Option A) → r ≡ None → X → MatchOption r X Y
no_answer Y None e x = x
no_answer Y (Some a) e x = absurd (none_some a (sym e))

-- the zeros behind digits don't make them fewer
pub most_digits : (digits count exponent whole scale : ℕ) → IsPointed digits count exponent whole scale → digits ≤ whole
most_digits digits count exponent whole scale p = elim (cases_lt exponent (255 + count)) [
  | inl below ↦ omega (arith, (p.behind below).0)
  | inr most ↦ (
      let more : digits * 1 ≤ digits * 10 ^ (exponent - (255 + count)) = mul-le-mul_left digits (omega (arith, ten (exponent - (255 + count)))) in
      omega (arith, more, (p.before most).0)
      )
]

-- nor is the power of ten that they are multiplied by more than they are then
pub most_power : (digits count exponent whole scale : ℕ) → digits % 10 ≢ 0 → IsPointed digits count exponent whole scale → 255 + count ≤ exponent → 10 ^ (exponent - (255 + count)) ≤ whole
most_power digits count exponent whole scale last p most =
    let power = 10 ^ (exponent - (255 + count)) in
    let some : 0 < digits = elim (cases_eq digits 0) [
      | inl none ↦ absurd (last (ap (λ d. d % 10) none))
      | inr other ↦ omega (arith, other)
    ] in
    let more : 1 * power ≤ digits * power = mul-le-mul_right power (omega (arith, some)) in
    omega (arith, more, (p.before most).0)

pub zero_digits : (n : Num) → n.whole ≡ pos 0 → HasFewDigits n (pos 0) 0
zero_digits n none = (
  record {
    value = ap (λ w. w *ℤ pos (10 ^ 0)) none ∙ omega (arith, ints, product_is (pos 0) (pos (10 ^ 0)), product_is (pos 0) (pos (10 ^ n.scale)));
    fewest = λ some. absurd (some refl);
  },
  omega arith,
)

module _ (n : Num) (exponent digits read : ℕ) (parts : HasParts n exponent digits read) (last : digits % 10 ≢ 0) (whole scale : ℕ) (p : IsPointed digits read exponent whole scale) where
  is : unsigned_abs n.whole * 10 ^ scale ≡ whole * 10 ^ n.scale
  is = with_point n exponent digits read parts whole scale p

  pub few_digits : (sign : Bool) → is_negative n.whole ≡ sign → whole < 10 ^ 18 → (d : ℤ) → d ≡ signed_by sign whole → HasFewDigits n d scale
  few_digits sign negative below d same =
      let whole_is : n.whole ≡ signed_by sign (unsigned_abs n.whole) = sym (signed_parts n.whole) ∙ ap (λ b. signed_by b (unsigned_abs n.whole)) negative in
      let size : unsigned_abs d ≡ whole = ap unsigned_abs same ∙ unsigned_abs-signed sign whole in (
        record {
          value = ap (λ w. w *ℤ pos (10 ^ scale)) whole_is ∙ signed_multiple sign (unsigned_abs n.whole) (10 ^ scale) ∙ ap (signed_by sign) is
              ∙ sym (signed_multiple sign whole (10 ^ n.scale)) ∙ ap (λ w. w *ℤ pos (10 ^ n.scale)) (sym same);
          fewest = λ some none. fewest digits read exponent whole scale last p some (ap (λ w. w % 10) (sym size) ∙ none);
        },
        omega (arith, size, below),
      )

  pub many_digits : 10 ^ 18 ≤ whole → HasManyDigits n
  many_digits many d t has =
      let m = unsigned_abs d in
      let value : unsigned_abs n.whole * 10 ^ t ≡ m * 10 ^ n.scale = sym (unsigned_abs-mul n.whole (pos (10 ^ t))) ∙ ap unsigned_abs has.value ∙ unsigned_abs-mul d (pos (10 ^ n.scale)) in
      let crossed : whole * 10 ^ t ≡ m * 10 ^ scale = cancel (whole * 10 ^ t) (m * 10 ^ scale) (10 ^ n.scale) (ten n.scale) (omega (arith, ap (λ x. x * 10 ^ t) is, ap (λ x. x * 10 ^ scale) value)) in
      omega (arith, many, same_whole whole m scale t crossed (fewest digits read exponent whole scale last p) has.fewest)
