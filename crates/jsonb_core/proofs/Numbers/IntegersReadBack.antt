-- The texts of integers are standard numbers.
use Rattle.std.proofs.Common.{◌≡◌, ℕ, ◌+◌, ◌^◌, ◌<◌, true, false, suc, ◌++◌, length, refl, sym, subst, ap, ◌∙◌, ⊎_elim, arith, ℤ, pos, negsuc, neg_ℤ}
use Rattle.std.specs.Prelude.{FitsSigned, if◌then◌else◌}
use Rattle.std.specs.Int.{w64}
use Rattle.std.specs.Fmt.{decimal, sign_text}
use Rattle.std.specs.Str.Parse.{digits_value}
use Rattle.std.proofs.lemmas.Bool.{cases_eq}
use Rattle.std.proofs.lemmas.Fmt.{decimal_is_IsNumeral_wide, decimal_digit, first_decimal}
use Rattle.jsonb_spec.specs.Tree.{int64, uint64}
use Rattle.jsonb_spec.specs.Text.NumberText.{text_of_parts, with_point, zero_padded}
use Rattle.jsonb_spec.specs.Grammar.StandardNumber.{IsWhole, IsStandardNumber}
use Rattle.jsonb_spec.specs.Text.ReadsBack.{integer_number}
use Rattle.jsonb_core.proofs.Numbers.Pointed.{is_negative-pos, pointed_whole}

pub decimal_whole : (n : ℕ) → n < 2 ^ 64 → IsWhole (decimal n)
decimal_whole n small = record {
  digits = (decimal_is_IsNumeral_wide n (omega arith)).0;
  no_needless_zero = λ zero_byte.
      ⊎_elim (λ none. ap length (ap decimal none ∙ decimal_digit 0 (omega arith)))
      (λ some. absurd (omega (arith, first_decimal n (omega arith) small, zero_byte))) (cases_eq n 0);
}

-- the text of a whole number has no point
unsigned_text : (n : ℕ) → n < 2 ^ 64 → text_of_parts 0 (pos n) ≡ sign_text false ++ decimal n
unfolding text_of_parts
unsigned_text n small =
    ap (λ b. sign_text b ++ with_point 0 (zero_padded (0 + 1) (decimal n))) (is_negative-pos n) ∙ pointed_whole (decimal n) (decimal_is_IsNumeral_wide n (omega arith)).0.0

negative_text : (n : ℕ) → suc n < 2 ^ 64 → text_of_parts 0 (negsuc n) ≡ sign_text true ++ decimal (suc n)
unfolding text_of_parts
negative_text n small = ap (λ r. sign_text true ++ r) (pointed_whole (decimal (suc n)) (decimal_is_IsNumeral_wide (suc n) (omega arith)).0.0)

pub unsigned_reads_back : (n : ℕ) → n < 2 ^ 64 → IsStandardNumber (text_of_parts 0 (pos n)) (integer_number (pos n))
unsigned_reads_back n small =
    let value : digits_value 10 (decimal n) ≡ n = (decimal_is_IsNumeral_wide n (omega arith)).1 in
    let same : integer_number (pos n) ≡ record { form = uint64; scale = 0; whole = pos (digits_value 10 (decimal n)) } =
    ap (λ b. record { form = if b then int64 else uint64; scale = 0; whole = pos n }) (is_negative-pos n) ∙ ap (λ v. record { form = uint64; scale = 0; whole = pos v }) (sym value) in
    subst (λ t. IsStandardNumber t (integer_number (pos n))) (sym (unsigned_text n small)) (false, decimal n, refl, decimal_whole n small, (omega arith, same))

pub signed_reads_back : (z : ℤ) → FitsSigned w64 z → IsStandardNumber (text_of_parts 0 z) (integer_number z)
signed_reads_back (pos n) fits = unsigned_reads_back n (omega (arith, fits.sfits))
signed_reads_back (negsuc n) fits =
    let value : digits_value 10 (decimal (suc n)) ≡ suc n = (decimal_is_IsNumeral_wide (suc n) (omega (arith, fits.sfits))).1 in
    let same : neg_ℤ (pos (digits_value 10 (decimal (suc n)))) ≡ negsuc n = ap (λ v. neg_ℤ (pos v)) value in
    let number : integer_number (negsuc n) ≡ record { form = int64; scale = 0; whole = neg_ℤ (pos (digits_value 10 (decimal (suc n)))) } = ap (λ w. record { form = int64; scale = 0; whole = w }) (sym same) in
    subst (λ t. IsStandardNumber t (integer_number (negsuc n))) (sym (negative_text n (omega (arith, fits.sfits)))) (true, decimal (suc n), refl, decimal_whole (suc n) (omega (arith, fits.sfits)), (subst (FitsSigned w64) (sym same) fits, number))
