-- The texts of decimals are extended decimals.
use Rattle.std.proofs.Common.{◌≡◌, ◌≢◌, ℕ, ◌+◌, ◌-◌, ◌%◌, ◌^◌, ◌<◌, ◌≤◌, Bool, true, false, zero, suc, Option, Some, None, List, [], ◌∷◌, ◌++◌, length, get_or, take, drop, refl, sym, subst, ap, ◌∙◌, inl, inr, ⊎_elim, arith}
use Rattle.std.specs.Prelude.{slice_index, unsigned_abs, replicate, ◌==◌}
use Rattle.std.specs.Int.{is_negative}
use Rattle.std.specs.Fmt.{decimal, sign_text}
use Rattle.std.specs.Str.Parse.{AllDigits, digits_value}
use Rattle.std.proofs.lemmas.Bool.{cases_lt, cases_eq}
use Rattle.std.proofs.lemmas.List.{append-nil, take-append-drop, length-take-le, length-drop, length-append, length-replicate, get_or-take, get_or_append_left}
use Rattle.std.proofs.lemmas.Fmt.{decimal_is_IsNumeral_wide, decimal_digit, decimal_by_steps_wide, length-decimal-le_wide}
use Rattle.jsonb_spec.specs.Tree.{Num}
use Rattle.jsonb_spec.specs.Number.Signed.{signed_by}
use Rattle.jsonb_spec.specs.Text.NumberText.{text_of_parts, with_point, zero_padded}
use Rattle.jsonb_spec.specs.Grammar.StandardNumber.{IsSign}
use Rattle.jsonb_spec.specs.Grammar.ExtendedNumber.{decimal_number}
use Rattle.jsonb_spec.specs.Text.ReadsBack.{ReadsBackAsDecimal}
use Rattle.jsonb_core.proofs.Numbers.Pointed.{pointed_whole, pointed_inside, pointed_before}
use Rattle.jsonb_core.proofs.Numbers.Nearest.{signed_parts}
use Rattle.jsonb_core.proofs.Numbers.Fractions.{fraction_digits, fraction_text, precision_of, value_of}
use Rattle.jsonb_spec.specs.Text.Range.{HasFewDigits}

-- ---- digits

pub digits-take : (k : ℕ) (ds : List ℕ) → AllDigits 10 ds → AllDigits 10 (take k ds)
digits-take zero ds h = tt
digits-take (suc k) [] h = tt
digits-take (suc k) (d ∷ ds) h = (h.0, digits-take k ds h.1)

pub digits-drop : (k : ℕ) (ds : List ℕ) → AllDigits 10 ds → AllDigits 10 (drop k ds)
digits-drop zero ds h = h
digits-drop (suc k) [] h = tt
digits-drop (suc k) (d ∷ ds) h = digits-drop k ds h.1

pub digits-after_zeros : (k : ℕ) (ds : List ℕ) → AllDigits 10 ds → AllDigits 10 (replicate k 48 ++ ds)
digits-after_zeros zero ds h = h
digits-after_zeros (suc k) ds h = (omega arith, digits-after_zeros k ds h)

-- zeros in front change no value
pub value-after_zeros : (k : ℕ) (ds : List ℕ) → digits_value 10 (replicate k 48 ++ ds) ≡ digits_value 10 ds
value-after_zeros zero ds = refl
value-after_zeros (suc k) ds = value-after_zeros k ds

-- the digits of a number above 0 begin with no zero
first_digit : (n : ℕ) → n < 10 ^ 64 → (0 < length (decimal n)) × (0 < n → 48 < get_or (decimal n) 0 0)
first_digit n small =
    decimal_by_steps_wide (λ m bs. (0 < length bs) × (0 < m → 48 < get_or bs 0 0))
    (λ m digit. (omega arith, λ some. omega arith))
    (λ m bs large h. (omega (arith, length-append bs ((48 + m % 10) ∷ []), h.0), λ some. subst (λ x. 48 < x) (sym (get_or_append_left bs ((48 + m % 10) ∷ []) 0 0 h.0)) (h.1 (omega arith))))
    n small

-- ---- the text

-- digits with a point, as the parts of a decimal number text: its scale and the value of its digits
record IsDecimalBody (body : List ℕ) (scale m : ℕ) : Type 0 where
  zeros : List ℕ
  whole : List ℕ
  fraction : Option (List ℕ)
  joined : body ≡ zeros ++ (whole ++ fraction_text fraction)
  are_zeros : zeros ≡ replicate (length zeros) 48
  whole_digits : AllDigits 10 whole
  no_zero_first : slice_index whole 0 ≢ 48
  digits_behind : AllDigits 10 (fraction_digits fraction)
  some_digit : 0 < length zeros + length whole + length (fraction_digits fraction)
  precise : precision_of whole fraction ≤ 38
  scale_is : length (fraction_digits fraction) ≡ scale
  value : digits_value 10 (whole ++ fraction_digits fraction) ≡ m

body_zero : IsDecimalBody (with_point 0 (zero_padded 1 (decimal 0))) 0 0
body_zero =
    record {
      zeros = 48 ∷ [];
      whole = [];
      fraction = None;
      joined = pointed_whole (decimal 0) (first_digit 0 (omega arith)).0 ∙ decimal_digit 0 (omega arith);
      are_zeros = refl;
      whole_digits = tt;
      no_zero_first = λ e. absurd (omega (arith, e));
      digits_behind = tt;
      some_digit = omega arith;
      precise = omega arith;
      scale_is = refl;
      value = refl;
    }

body_whole : (m : ℕ) → 0 < m → m < 10 ^ 38 → IsDecimalBody (with_point 0 (zero_padded 1 (decimal m))) 0 m
body_whole m some small =
    let first = first_digit m (omega arith) in
    let numeral = decimal_is_IsNumeral_wide m (omega arith) in
    record {
      zeros = [];
      whole = decimal m;
      fraction = None;
      joined = pointed_whole (decimal m) first.0 ∙ sym (append-nil (decimal m));
      are_zeros = refl;
      whole_digits = numeral.0.1;
      no_zero_first = λ e. absurd (omega (arith, first.1 some, e));
      digits_behind = tt;
      some_digit = omega (arith, first.0);
      precise = omega (arith, length-decimal-le_wide 38 m (omega arith) small (omega arith));
      scale_is = refl;
      value = ap (digits_value 10) (append-nil (decimal m)) ∙ numeral.1;
    }

body_inside : (scale m : ℕ) → 0 < scale → 0 < m → m < 10 ^ 38 → scale < length (decimal m) → IsDecimalBody (with_point scale (zero_padded (scale + 1) (decimal m))) scale m
body_inside scale m point some small inside =
    let first = first_digit m (omega arith) in
    let numeral = decimal_is_IsNumeral_wide m (omega arith) in
    let n : ℕ = length (decimal m) - scale in
    let front : length (take (length (decimal m) - scale) (decimal m)) ≡ length (decimal m) - scale = length-take-le (length (decimal m) - scale) (decimal m) (omega arith) in
    let back : length (drop (length (decimal m) - scale) (decimal m)) ≡ scale = omega (arith, length-drop (length (decimal m) - scale) (decimal m)) in
    let same : slice_index (take (length (decimal m) - scale) (decimal m)) 0 ≡ get_or (decimal m) 0 0 = get_or-take (length (decimal m) - scale) (decimal m) 0 0 (omega arith) in
    record {
      zeros = [];
      whole = take (length (decimal m) - scale) (decimal m);
      fraction = Some (drop (length (decimal m) - scale) (decimal m));
      joined = pointed_inside scale (decimal m) point inside;
      are_zeros = refl;
      whole_digits = digits-take (length (decimal m) - scale) (decimal m) numeral.0.1;
      no_zero_first = λ e. absurd (omega (arith, first.1 some, same, e));
      digits_behind = digits-drop (length (decimal m) - scale) (decimal m) numeral.0.1;
      some_digit = omega (arith, back);
      precise = omega (arith, front, back, length-decimal-le_wide 38 m (omega arith) small (omega arith));
      scale_is = back;
      value = ap (digits_value 10) (take-append-drop (length (decimal m) - scale) (decimal m)) ∙ numeral.1;
    }

body_before : (scale m : ℕ) → 0 < scale → scale ≤ 38 → m < 10 ^ 38 → length (decimal m) ≤ scale → IsDecimalBody (with_point scale (zero_padded (scale + 1) (decimal m))) scale m
body_before scale m point few small behind =
    let numeral = decimal_is_IsNumeral_wide m (omega arith) in
    let long : length (replicate (scale - length (decimal m)) 48 ++ decimal m) ≡ scale = simp (length-append, length-replicate) (omega arith) in
    record {
      zeros = 48 ∷ [];
      whole = [];
      fraction = Some (replicate (scale - length (decimal m)) 48 ++ decimal m);
      joined = pointed_before scale (decimal m) point behind;
      are_zeros = refl;
      whole_digits = tt;
      no_zero_first = λ e. absurd (omega (arith, e));
      digits_behind = digits-after_zeros (scale - length (decimal m)) (decimal m) numeral.0.1;
      some_digit = omega arith;
      precise = omega (arith, long);
      scale_is = long;
      value = value-after_zeros (scale - length (decimal m)) (decimal m) ∙ numeral.1;
    }

body : (scale m : ℕ) → scale ≤ 38 → m < 10 ^ 38 → IsDecimalBody (with_point scale (zero_padded (scale + 1) (decimal m))) scale m
body scale m few small =
    ⊎_elim
    (λ no_point. subst (λ s. IsDecimalBody (with_point s (zero_padded (s + 1) (decimal m))) s m) (sym no_point)
    (⊎_elim (λ none. subst (λ k. IsDecimalBody (with_point 0 (zero_padded 1 (decimal k))) 0 k) (sym none) body_zero) (λ some. body_whole m (omega arith) small) (cases_eq m 0)))
    (λ point. ⊎_elim
    (λ inside. ⊎_elim (λ none. absurd (omega (arith, point, inside, ap length (ap decimal none ∙ decimal_digit 0 (omega arith))))) (λ some. body_inside scale m (omega arith) (omega arith) small inside) (cases_eq m 0))
    (λ behind. body_before scale m (omega arith) few small behind) (cases_lt scale (length (decimal m)))) (cases_eq scale 0)

pub sign_is : (b : Bool) → IsSign (sign_text b) × ((slice_index (sign_text b) 0 == 45) ≡ b)
sign_is false = (inl refl, refl)
sign_is true = (inr (inr refl), refl)

pub reads_back_as_decimal : (x : Num) → HasFewDigits x → ReadsBackAsDecimal x
unfolding text_of_parts
reads_back_as_decimal x (few, small) =
    let b = body x.scale (unsigned_abs x.whole) few small in
    let sign = sign_text (is_negative x.whole) in
    let s = sign_is (is_negative x.whole) in
    let value : value_of sign b.whole b.fraction ≡ x.whole = ap (λ t. signed_by t (digits_value 10 (b.whole ++ fraction_digits b.fraction))) s.1 ∙ (ap (signed_by (is_negative x.whole)) b.value ∙ signed_parts x.whole) in (
      decimal_number (length (fraction_digits b.fraction)) (precision_of b.whole b.fraction) (value_of sign b.whole b.fraction),
      (
        sign,
        b.zeros,
        b.whole,
        b.fraction,
        record {
          joined = ap (λ r. sign ++ r) b.joined;
          is_sign = s.0;
          are_zeros = b.are_zeros;
          whole_digits = b.whole_digits;
          no_zero_first = b.no_zero_first;
          digits_behind = b.digits_behind;
          some_digit = b.some_digit;
        },
        (b.precise, refl),
      ),
      b.scale_is,
      value,
    )
