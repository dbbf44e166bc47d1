-- Each document of extended mode is one of extended JSON, of the same tree.
use Rattle.std.proofs.Common.{◌≡◌, ◌≢◌, ℕ, suc, ◌+◌, ◌-◌, ◌*◌, ◌^◌, ◌<◌, ◌≤◌, ◌&&◌, Bool, true, false, List, [], ◌∷◌, ◌++◌, length, length-append, append-nil, sym, ap, ◌∙◌, inl, inr, ⊎_elim, arith, ℤ, pos, neg_ℤ}
use Rattle.std.specs.Prelude.{◌==◌, nat_le, nat_lt, int_le, int_lt, unsigned_abs, slice_index, if◌then◌else◌}
use Rattle.std.specs.Char.{digit_value}
use Rattle.std.specs.Option.{unwrap_or}
use Rattle.std.specs.Str.Parse.{AllDigits, digits_value, digits_value_after, starts_with_minus}
use Rattle.std.proofs.lemmas.Bool.{cases_lt, and_right}
use Rattle.std.proofs.lemmas.Bool.Decides.{nat_tests}
use Rattle.std.proofs.lemmas.Int.Digits.{digits_value-lt}
use Rattle.std.proofs.lemmas.Str.{digit_value_digit}
use Rattle.std.proofs.lemmas.Str.Parse.{digit_from_value}
use Rattle.std.proofs.Math.Nat.{pow-suc, pow-zero, pow-le-pow_right, mul-le-mul_right}
use Rattle.jsonb_spec.specs.Grammar.{IsDocument}
use Rattle.jsonb_spec.specs.Grammar.ExactNumber.{exact_form, exact_number, moved_number, IsExactDecimal, IsExtendedJsonNumber, no_exponent}
use Rattle.jsonb_spec.specs.Grammar.ExtendedNumber.{decimal_form, decimal_number, IsDecimalNumber, IsExtendedNumber}
use Rattle.jsonb_spec.specs.Grammar.Scalar.{IsLiteral, null_word, true_word, false_word}
use Rattle.jsonb_spec.specs.Grammar.StringBody.{Item, raw, escape, unit, IsItem}
use Rattle.jsonb_spec.specs.Mode.{extended, extended_json}
use Rattle.jsonb_spec.specs.Number.Signed.{signed_by}
use Rattle.jsonb_spec.specs.Tree.{int64, uint64, decimal64, decimal128, Num, Tree}
use Rattle.jsonb_core.proofs.Numbers.InRange.{digits-append}
use Rattle.text_scan.proofs.Numbers.Forms.{size_is, below_power}
use Rattle.text_scan.proofs.Numbers.Steps.{is_below, is_not_below}
use Rattle.jsonb.proofs.Modes.LeafByLeaf.{HasLeaves, same_document}

-- ---- how great a number of digits is

-- digits that follow a number make it no smaller
value_after_ge : (n : ℕ) (ds : List ℕ) → n * 10 ^ length ds ≤ digits_value_after 10 n ds
value_after_ge n [] = omega (arith, pow-zero 10)
value_after_ge n (d ∷ ds) =
    let more : n * 10 ^ length (d ∷ ds) ≡ n * 10 * 10 ^ length ds = ap (λ k. n * k) (pow-suc 10 (length ds)) ∙ omega arith in
    let step : n * 10 * 10 ^ length ds ≤ (n * 10 + digit_value d) * 10 ^ length ds = mul-le-mul_right (10 ^ length ds) (omega arith) in
    omega (arith, more, step, value_after_ge (n * 10 + digit_value d) ds)

-- digits that begin with no zero, and others behind them, are no small number
great_value : (ds es : List ℕ) (count : ℕ) → 0 < length ds → AllDigits 10 ds → slice_index ds 0 ≢ 48 → length (ds ++ es) ≡ suc count → 10 ^ count ≤ digits_value 10 (ds ++ es)
great_value [] es count some each first many = absurd (omega (arith, some))
great_value (d ∷ ds) es count some each first many =
    let range = digit_from_value d each.0 in
    let one : 1 ≤ digit_value d = omega (arith, digit_value_digit d range, range, first) in
    let power : 1 * 10 ^ length (ds ++ es) ≤ digit_value d * 10 ^ length (ds ++ es) = mul-le-mul_right (10 ^ length (ds ++ es)) one in
    let count_is : 10 ^ count ≡ 10 ^ length (ds ++ es) = ap (λ (k : ℕ). 10 ^ k) (omega (arith, many)) in
    omega (arith, count_is, power, value_after_ge (0 * 10 + digit_value d) (ds ++ es))

-- ---- decimals

at_most : (k : ℕ) → k ≤ 18 → nat_le k 18 ≡ true
at_most k h = grind (arith, nat_tests)

past : (k : ℕ) → 18 < k → nat_le k 18 ≡ false
past k h = grind (arith, nat_tests)

-- at most 18 digits: by the digits themselves, or by the scale and the value
few_test : (whole behind : List ℕ) (negative : Bool) → AllDigits 10 whole → AllDigits 10 behind → slice_index whole 0 ≢ 48
    → nat_le (length whole + length behind) 18 ≡ (nat_le (length behind) 18 && nat_lt (unsigned_abs (signed_by negative (digits_value 10 (whole ++ behind)))) (10 ^ 18))
few_test whole behind negative each others first =
    let m = digits_value 10 (whole ++ behind) in
    let size = size_is negative m in
    let count : length (whole ++ behind) ≡ length whole + length behind = length-append whole behind in
    ⊎_elim
    (λ few.
    let small : m < 10 ^ 18 = below_power (length (whole ++ behind)) 18 m (omega (arith, count, few)) (digits_value-lt 10 (whole ++ behind) (digits-append whole behind each others)) in
    at_most (length whole + length behind) (omega (arith, few)) ∙ sym (ap (λ t. t && nat_lt (unsigned_abs (signed_by negative m)) (10 ^ 18)) (at_most (length behind) (omega (arith, few))) ∙ ap (λ (k : ℕ). nat_lt k (10 ^ 18)) size ∙ is_below m (10 ^ 18) small))
    (λ many.
    past (length whole + length behind) (omega (arith, many))
    ∙ sym (⊎_elim
    (λ short.
    let power : 10 ^ 18 ≤ 10 ^ (length whole + length behind - 1) = pow-le-pow_right {n = 10} (omega arith) {i = 18} {j = length whole + length behind - 1} (omega (arith, many)) in
    let large : 10 ^ 18 ≤ m = omega (arith, power, great_value whole behind (length whole + length behind - 1) (omega (arith, short, many)) each first (omega (arith, count, many))) in
    and_right (nat_le (length behind) 18) _ (ap (λ (k : ℕ). nat_lt k (10 ^ 18)) size ∙ is_not_below m (10 ^ 18) large))
    (λ long. ap (λ t. t && nat_lt (unsigned_abs (signed_by negative m)) (10 ^ 18)) (past (length behind) (omega (arith, long)))) (cases_lt (length behind) 19)))
    (cases_lt (length whole + length behind) 19)

same_form : (scale precision : ℕ) (z : ℤ) → nat_le precision 18 ≡ (nat_le scale 18 && nat_lt (unsigned_abs z) (10 ^ 18)) → decimal_number scale precision z ≡ exact_number scale z
unfolding decimal_form exact_form
same_form scale precision z same =
    ap (λ (few : Bool). record {
      form = if (scale == 0) && (int_le (pos 0) z && int_lt z (pos (2 ^ 64))) then uint64
          else (if (scale == 0) && (int_le (neg_ℤ (pos (2 ^ 63))) z && int_lt z (pos 0)) then int64
          else (if few then decimal64 else decimal128));
      scale = scale;
      whole = z;
    }) same

moved_nowhere : (negative : Bool) (m behind : ℕ) → moved_number negative m behind 0 0 ≡ exact_number behind (signed_by negative m)
unfolding moved_number
moved_nowhere negative m behind =
    let scale : (behind + 0) - 0 ≡ behind = omega arith in
    let none : 0 - behind ≡ 0 = omega arith in
    let value : m * 10 ^ (0 - behind) ≡ m = ap (λ (k : ℕ). m * 10 ^ k) none ∙ ap (λ (k : ℕ). m * k) (pow-zero 10) ∙ omega arith in
    λ i. exact_number (scale i) (signed_by negative (value i))

pub exact_decimal : (bytes : List ℕ) (n : Num) → IsDecimalNumber bytes n → IsExactDecimal bytes n
exact_decimal bytes n (sign, zeros, whole, fraction, parts, (few, is)) =
    let behind = unwrap_or fraction [] in
    let negative = starts_with_minus sign in
    let m = digits_value 10 (whole ++ behind) in
    let small : m < 10 ^ 38 = below_power (length (whole ++ behind)) 38 m (omega (arith, length-append whole behind, few)) (digits_value-lt 10 (whole ++ behind) (digits-append whole behind parts.whole_digits parts.digits_behind)) in
    record {
      front = bytes;
      exponent = [];
      joined = sym (append-nil bytes);
      sign = sign;
      zeros = zeros;
      whole = whole;
      fraction = fraction;
      parts = parts;
      right = 0;
      left = 0;
      moves = no_exponent;
      value = is ∙ same_form (length behind) (length whole + length behind) (signed_by negative m) (few_test whole behind negative parts.whole_digits parts.digits_behind parts.no_zero_first)
          ∙ sym (moved_nowhere negative m (length behind));
      few_behind = omega (arith, few, ap (λ (x : Num). x.scale) is);
      few = omega (arith, small, ap (λ (x : Num). unsigned_abs x.whole) is, size_is negative m);
    }

-- ---- documents

same_item : (item : Item) → IsItem extended item → IsItem extended_json item
same_item (raw byte) is = is
same_item (escape letter byte) is = is
same_item (unit braces digits) is = is

same_literal : (bytes : List ℕ) (t : Tree) → IsLiteral extended bytes t → IsLiteral extended_json bytes t
same_literal bytes t (null_word w) = null_word w
same_literal bytes t (true_word w) = true_word w
same_literal bytes t (false_word w) = false_word w

same_number : (bytes : List ℕ) (x : Num) → IsExtendedNumber bytes x → IsExtendedJsonNumber bytes x
same_number bytes x (inl decimal) = inl (exact_decimal bytes x decimal)
same_number bytes x (inr hexadecimal) = inr hexadecimal

leaves : HasLeaves extended extended_json
leaves = record { lenient = λ is. is; beyond = λ is. is; quote = λ byte is. is; item = same_item; literal = same_literal }

pub extended_is_extended_json : (bytes : List ℕ) (t : Tree) → IsDocument extended bytes t → IsDocument extended_json bytes t
extended_is_extended_json = same_document extended extended_json leaves same_number
