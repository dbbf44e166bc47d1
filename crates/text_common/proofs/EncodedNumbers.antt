-- Numbers that are written by their digits in a text.
use Rattle.std.proofs.Common.{◌≡◌, ◌≢◌, ℕ, zero, suc, ◌<◌, ◌^◌, ℤ, pos, Bool, true, false, List, ◌++◌, length, get_or, refl, sym, ap, ap₂, subst, ◌∙◌, arith}
use Rattle.std.specs.Prelude.{unsigned_abs, neg_ℤ, FitsSigned}
use Rattle.std.specs.Fmt.{decimal, sign_text}
use Rattle.std.specs.Int.{is_negative, w64}
use Rattle.std.specs.Str.Parse.{IsNumeral, digits_value}
use Rattle.std.proofs.lemmas.Fmt.{decimal-digits_value}
use Rattle.std.proofs.lemmas.Int.{ints}
use Rattle.jsonb_spec.specs.Grammar.StandardNumber.{IsStandardNumber}
use Rattle.jsonb_spec.specs.Tree.{Num, int64, uint64}
use Rattle.jsonb_spec.specs.Text.NumberText.{number_text, text_of_parts, with_point, zero_padded}
use Rattle.jsonb_core.specs.View.{number_view}
use Rattle.jsonb_core.specs.declared.number.Number.{Number}
use Rattle.jsonb_core.specs.declared.number.Number.TheVariants as form
use Rattle.jsonb_core.proofs.Numbers.InRange.{decimals}
use Rattle.jsonb_core.proofs.Numbers.Pointed.{is_negative-pos, pointed_whole}
use Rattle.text_common.specs.EncodedNumber.{StaysEncoded}

-- digits with no zero first are the text of their value
digits_text : (v : ℕ) (ds : List ℕ) → IsNumeral 10 ds → (get_or ds 0 0 ≡ 48 → length ds ≡ 1) → digits_value 10 ds < 2 ^ 64 → v ≡ digits_value 10 ds → ds ≡ with_point 0 (zero_padded 1 (decimal v))
digits_text v ds numeral no_zero small value =
    let same : decimal v ≡ ds = ap decimal value ∙ decimal-digits_value decimals ds numeral.1 numeral.0 no_zero small in
    sym (pointed_whole (decimal v) (subst (λ xs. 0 < length xs) (sym same) numeral.0) ∙ same)

text_is : (negative : Bool) (whole : ℤ) (ds : List ℕ) → is_negative whole ≡ negative → ds ≡ with_point 0 (zero_padded 1 (decimal (unsigned_abs whole))) → sign_text negative ++ ds ≡ text_of_parts 0 whole
unfolding text_of_parts
text_is negative whole ds sign h = ap₂ (λ b xs. sign_text b ++ xs) (sym sign) h

other_form : uint64 ≡ int64 → ⊥
other_form e = cc

signs : (v : ℕ) → neg_ℤ (pos v) ≢ pos 0 → (is_negative (neg_ℤ (pos v)) ≡ true) × (unsigned_abs (neg_ℤ (pos v)) ≡ v)
signs zero h = absurd (h refl)
signs (suc v) h = (refl, refl)

magnitude_fits : (v : ℕ) → FitsSigned w64 (neg_ℤ (pos v)) → v < 2 ^ 64
magnitude_fits zero h = omega arith
magnitude_fits (suc v) h = omega (arith, ints, h)

pub encoded_number : (n : Number) (bytes : List ℕ) → StaysEncoded n → IsStandardNumber bytes (number_view n) → bytes ≡ number_text (number_view n)
encoded_number (form.UInt64 n) bytes k (false, whole, joined, is_whole, is) =
    let value : n ≡ digits_value 10 whole = ap (λ (m : Num). unsigned_abs m.whole) is.1 in
    joined ∙ text_is false (pos n) whole (is_negative-pos n) (digits_text n whole is_whole.digits is_whole.no_needless_zero is.0 value)
encoded_number (form.UInt64 n) bytes k (true, whole, joined, is_whole, is) = absurd (other_form (ap (λ (m : Num). m.form) is.1))
encoded_number (form.Int64 n) bytes k (false, whole, joined, is_whole, is) = absurd (other_form (sym (ap (λ (m : Num). m.form) is.1)))
encoded_number (form.Int64 n) bytes k (true, whole, joined, is_whole, is) =
    let value : n ≡ neg_ℤ (pos (digits_value 10 whole)) = ap (λ (m : Num). m.whole) is.1 in
    let reported = signs (digits_value 10 whole) (λ e. k (value ∙ e)) in
    let magnitude : unsigned_abs n ≡ digits_value 10 whole = ap unsigned_abs value ∙ reported.1 in
    joined
    ∙ text_is true n whole (ap is_negative value ∙ reported.0) (digits_text (unsigned_abs n) whole is_whole.digits is_whole.no_needless_zero (magnitude_fits (digits_value 10 whole) is.0) magnitude)
encoded_number (form.Decimal64 d) bytes k is = absurd k
encoded_number (form.Decimal128 d) bytes k is = absurd k

pub below_zero : (v : ℕ) → 0 < v → neg_ℤ (pos v) ≢ pos 0
below_zero zero some e = absurd (omega (arith, some))
below_zero (suc v) some e = cc
