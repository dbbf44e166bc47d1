-- Numbers in range round-trip, and the numbers of texts are in range.
use Rattle.std.proofs.Common.{◌≡◌, ℕ, zero, suc, ◌<◌, ◌≤◌, ◌^◌, List, [], ◌∷◌, ◌++◌, length, length-append, Bool, true, false, ◌&&◌, Some, None, refl, sym, subst, arith, inl, inr, ltb-true, eqb-true, ℤ, pos, negsuc, neg_ℤ, ◌-◌, ap, ◌∙◌, ◌+◌, ◌*◌, append-nil}
use Rattle.std.specs.Prelude.{unsigned_abs, FitsSigned, ◌==◌, nat_lt, nat_le, if◌then◌else◌, int_le, int_lt}
use Rattle.std.specs.Int.{w64, w128, FitsUnsignedBits}
use Rattle.std.specs.Str.Parse.{AllDigits, digits_value, starts_with_minus}
use Rattle.std.proofs.lemmas.Bool.{leb-true, and_parts}
use Rattle.std.proofs.lemmas.Str.Parse.{IsNumeralModel, numerals_by_value, tells_digits, digits_value_short}
use Rattle.jsonb_spec.specs.Grammar.ExtendedNumber.{decimal_form, decimal_number, IsDecimalNumber, hexadecimal_number, IsExtendedNumber}
use Rattle.jsonb_spec.specs.Mode.{standard, extended, json, extended_json}
use Rattle.jsonb_spec.specs.Grammar.ExactNumber.{exact_form, exact_number, moved_number, no_exponent, IsExactDecimal, IsJsonNumber, IsExtendedJsonNumber}
use Rattle.jsonb_spec.specs.Text.NumberText.{text_of_parts, number_text}
use Rattle.jsonb_spec.specs.Proper.{FitsScale, FitsWhole, IsProperNumber}
use Rattle.jsonb_spec.specs.Text.Range.{IsIntegerForm, IsIntegral, HasFewDigits}
use Rattle.jsonb_spec.specs.Text.ReadsBack.{integer_number}
use Rattle.jsonb_spec.specs.Grammar.StandardNumber.{IsInteger, IsStandardNumber}
use Rattle.jsonb_spec.specs.Number.Signed.{signed_by}
use Rattle.jsonb_spec.specs.Tree.{Form, int64, uint64, decimal64, decimal128, Num}
use Rattle.jsonb_core.proofs.Numbers.DecimalTexts.{reads_back_as_decimal}
use Rattle.jsonb_core.proofs.Numbers.StandardTexts.{standard_text as rfc_text}
use Rattle.jsonb_core.proofs.Numbers.Nearest.{unsigned_abs-signed}
use Rattle.jsonb_core.proofs.Trees.OneText.{IsShort}
use Rattle.jsonb_core.proofs.Numbers.IntegersReadBack.{signed_reads_back, unsigned_reads_back}
use Rattle.jsonb_core.proofs.Trees.TextsReadBack.{EncodesSameNumber}
use Rattle.jsonb_core.proofs.Numbers.Fractions.{fraction_digits, precision_of}

signed_short : (z : ℤ) → FitsSigned w64 z → unsigned_abs z < 10 ^ 38
signed_short (pos n) fits = omega (arith, fits.sfits)
signed_short (negsuc n) fits = omega (arith, fits.sfits)

unsigned_short : (z : ℤ) → FitsUnsignedBits 64 z → unsigned_abs z < 10 ^ 38
unsigned_short (pos n) fits = omega (arith, fits)
unsigned_short (negsuc n) fits = absurd fits

pub in_texts_short : (n : Num) → IsProperNumber n → HasFewDigits n → IsShort n
in_texts_short n p w = w.1

few_digits : (form : Form) (scale : ℕ) (whole : ℤ) → FitsScale form scale × FitsWhole form whole → IsIntegerForm form → (scale ≤ 38) × (unsigned_abs whole < 10 ^ 38)
few_digits int64 scale whole p w = (omega (arith, p.0), signed_short whole p.1)
few_digits uint64 scale whole p w = (omega (arith, p.0), unsigned_short whole p.1)
few_digits decimal64 scale whole p w = absurd w
few_digits decimal128 scale whole p w = absurd w

-- an integer has at most 38 digits
pub integral_in_texts : (n : Num) → IsProperNumber n → IsIntegral n → HasFewDigits n
integral_in_texts n p w = few_digits n.form n.scale n.whole p w

pub integral_short : (n : Num) → IsProperNumber n → IsIntegral n → IsShort n
integral_short n p w = in_texts_short n p (integral_in_texts n p w)

unscaled : (form : Form) (scale : ℕ) (whole : ℤ) → FitsScale form scale × FitsWhole form whole → IsIntegerForm form → scale ≡ 0
unscaled int64 scale whole p w = p.0
unscaled uint64 scale whole p w = p.0
unscaled decimal64 scale whole p w = absurd w
unscaled decimal128 scale whole p w = absurd w

-- an integer has no digits behind a point
pub integral_unscaled : (n : Num) → IsProperNumber n → IsIntegral n → n.scale ≡ 0
integral_unscaled n p w = unscaled n.form n.scale n.whole p w

-- ---- standard texts

unsigned_text : (whole : ℤ) → FitsUnsignedBits 64 whole → IsStandardNumber (text_of_parts 0 whole) (integer_number whole)
unsigned_text (pos n) fits = unsigned_reads_back n fits
unsigned_text (negsuc n) fits = absurd fits

standard_text : (form : Form) (scale : ℕ) (whole : ℤ) → FitsScale form scale × FitsWhole form whole → IsIntegerForm form → IsStandardNumber (text_of_parts 0 whole) (integer_number whole)
standard_text int64 scale whole p w = signed_reads_back whole p.1
standard_text uint64 scale whole p w = unsigned_text whole p.1
standard_text decimal64 scale whole p w = absurd w
standard_text decimal128 scale whole p w = absurd w

pub integer_reads_back : (n : Num) → IsProperNumber n → IsIntegral n → EncodesSameNumber standard (number_text n) n
integer_reads_back n p w =
    let none = integral_unscaled n p w in
    record {
      read = integer_number n.whole;
      is_number = subst (λ scale. IsStandardNumber (text_of_parts scale n.whole) (integer_number n.whole)) (sym none) (standard_text n.form n.scale n.whole p w);
      scales = sym none;
      wholes = refl;
    }

pub extended_reads_back : (n : Num) → IsProperNumber n → HasFewDigits n → EncodesSameNumber extended (number_text n) n
extended_reads_back n p w =
    let r = reads_back_as_decimal n w in
    record { read = r.0; is_number = inl r.1; scales = r.2; wholes = r.3 }

-- ---- what number texts give

integer_is : (negative : Bool) (value : ℕ) (n : Num) → IsInteger negative value n → IsIntegral n × IsProperNumber n
integer_is false value n is = subst (λ m. IsIntegral m × IsProperNumber m) (sym is.1) (tt, (refl, is.0))
integer_is true value n is = subst (λ m. IsIntegral m × IsProperNumber m) (sym is.1) (tt, (refl, is.0))

pub standard_number : (bytes : List ℕ) (n : Num) → IsStandardNumber bytes n → IsIntegral n × IsProperNumber n
standard_number bytes n is = integer_is is.0 (digits_value 10 is.1) n is.4

-- a number in range
abbrev IsRanged : Num → Type 0
IsRanged n = HasFewDigits n × IsProperNumber n

pub digits-append : (ds es : List ℕ) → AllDigits 10 ds → AllDigits 10 es → AllDigits 10 (ds ++ es)
digits-append [] es h k = k
digits-append (d ∷ ds) es h k = (h.0, digits-append ds es h.1 k)

pub decimals : IsNumeralModel (AllDigits 10) (digits_value 10)
decimals = numerals_by_value (AllDigits 10) tells_digits

pub small_signed : (b : Bool) (m : ℕ) → m < 10 ^ 18 → FitsSigned w64 (signed_by b m)
small_signed false m h = record { sfits = omega arith }
small_signed true zero h = record { sfits = omega arith }
small_signed true (suc m) h = record { sfits = omega arith }

wide_signed : (b : Bool) (m : ℕ) → m < 10 ^ 38 → FitsSigned w128 (signed_by b m)
wide_signed false m h = record { sfits = omega arith }
wide_signed true zero h = record { sfits = omega arith }
wide_signed true (suc m) h = record { sfits = omega arith }

unsigned_fits : (z : ℤ) → (int_le (pos 0) z && int_lt z (pos (2 ^ 64))) ≡ true → FitsUnsignedBits 64 z
unsigned_fits (pos n) h = ltb-true n (2 ^ 64) (and_parts (nat_le 0 n) (nat_lt n (2 ^ 64)) h).1
unsigned_fits (negsuc n) h = cc

signed_fits : (z : ℤ) → (int_le (neg_ℤ (pos (2 ^ 63))) z && int_lt z (pos 0)) ≡ true → FitsSigned w64 z
signed_fits (pos n) h = let none = ltb-true n 0 h in absurd (omega (arith, none))
signed_fits (negsuc n) h = let small = leb-true n (2 ^ 63 - 1) (and_parts (nat_le n (2 ^ 63 - 1)) true h).0 in record { sfits = omega (arith, small) }

-- the number where the tests' answers are known
picked : (a b c : Bool) (scale : ℕ) (value : ℤ) (P : Num → Type 0) → (a ≡ true → P (record { form = uint64; scale = scale; whole = value })) → (b ≡ true → P (record { form = int64; scale = scale; whole = value }))
    → (c ≡ true → P (record { form = decimal64; scale = scale; whole = value })) → P (record { form = decimal128; scale = scale; whole = value })
    → P (record { form = if a then uint64 else (if b then int64 else (if c then decimal64 else decimal128)); scale = scale; whole = value })
picked true b c scale value P p q r s = p refl
picked false true c scale value P p q r s = q refl
picked false false true scale value P p q r s = r refl
picked false false false scale value P p q r s = s

-- a decimal text's number: its digits, of which at most 38 count
decimal_ranged : (b : Bool) (m scale precision : ℕ) → ((k : ℕ) → precision ≤ k → m < 10 ^ k) → scale ≤ precision → precision ≤ 38 → IsRanged (decimal_number scale precision (signed_by b m))
unfolding decimal_form
decimal_ranged b m scale precision small inside few =
    let value = signed_by b m in
    let short : m < 10 ^ 38 = small 38 few in
    let magnitude : unsigned_abs value < 10 ^ 38 = subst (λ k. k < 10 ^ 38) (sym (unsigned_abs-signed b m)) short in
    let few_digits : (scale ≤ 38) × (unsigned_abs value < 10 ^ 38) = (omega (arith, inside, few), magnitude) in
    picked ((scale == 0) && (int_le (pos 0) value && int_lt value (pos (2 ^ 64)))) ((scale == 0) && (int_le (neg_ℤ (pos (2 ^ 63))) value && int_lt value (pos 0))) (nat_le precision 18) scale value IsRanged
    (λ h. let tests = and_parts (scale == 0) (int_le (pos 0) value && int_lt value (pos (2 ^ 64))) h in (few_digits, (eqb-true scale 0 tests.0, unsigned_fits value tests.1)))
    (λ h. let tests = and_parts (scale == 0) (int_le (neg_ℤ (pos (2 ^ 63))) value && int_lt value (pos 0)) h in (few_digits, (eqb-true scale 0 tests.0, signed_fits value tests.1)))
    (λ h. (few_digits, (omega (arith, inside, few), small_signed b m (small 18 (leb-true precision 18 h)))))
    (few_digits, (omega (arith, inside, few), wide_signed b m short))

decimal_text : (bytes : List ℕ) (n : Num) → IsDecimalNumber bytes n → IsRanged n
decimal_text bytes n (sign, zeros, whole, fraction, parts, (precise, is)) =
    let digits : List ℕ = whole ++ fraction_digits fraction in
    let many : length digits ≡ precision_of whole fraction = length-append whole (fraction_digits fraction) in
    let small = λ (k : ℕ) (few : precision_of whole fraction ≤ k). digits_value_short decimals digits k (digits-append whole (fraction_digits fraction) parts.whole_digits parts.digits_behind) (omega (arith, many, few)) in
    subst IsRanged (sym is) (decimal_ranged (starts_with_minus sign) (digits_value 10 digits) (length (fraction_digits fraction)) (precision_of whole fraction) small (omega arith) precise)

some_number : (m n : Num) → Some m ≡ Some n → m ≡ n
some_number m n e = cc

hexadecimal_ranged : (b : Bool) (m : ℕ) (n : Num) → hexadecimal_number b m ≡ Some n → IsRanged n
unfolding hexadecimal_number
hexadecimal_ranged false m n is = unsigned (nat_lt m (2 ^ 64)) (nat_lt m (10 ^ 38)) (ltb-true m (2 ^ 64)) (ltb-true m (10 ^ 38)) is
  where
    unsigned : (x y : Bool) → (x ≡ true → m < 2 ^ 64) → (y ≡ true → m < 10 ^ 38) → (if x then Some (record { form = uint64; scale = 0; whole = pos m }) else (if y then Some (record { form = decimal128; scale = 0; whole = pos m }) else None)) ≡ Some n → IsRanged n
    unsigned true y p q e = subst IsRanged (some_number (record { form = uint64; scale = 0; whole = pos m }) n e) ((omega arith, omega (arith, p refl)), (refl, p refl))
    unsigned false true p q e = subst IsRanged (some_number (record { form = decimal128; scale = 0; whole = pos m }) n e) ((omega arith, q refl), (omega arith, wide_signed false m (q refl)))
    unsigned false false p q e = cc
hexadecimal_ranged true m n is = signed (nat_le m (2 ^ 63)) (nat_lt m (10 ^ 38)) (leb-true m (2 ^ 63)) (ltb-true m (10 ^ 38)) is
  where
    least : (k : ℕ) → k ≤ 2 ^ 63 → FitsSigned w64 (neg_ℤ (pos k))
    least zero h = record { sfits = omega arith }
    least (suc k) h = record { sfits = omega arith }

    signed : (x y : Bool) → (x ≡ true → m ≤ 2 ^ 63) → (y ≡ true → m < 10 ^ 38) → (if x then Some (record { form = int64; scale = 0; whole = neg_ℤ (pos m) }) else (if y then Some (record { form = decimal128; scale = 0; whole = neg_ℤ (pos m) }) else None)) ≡ Some n → IsRanged n
    signed true y p q e = subst IsRanged (some_number (record { form = int64; scale = 0; whole = neg_ℤ (pos m) }) n e) ((omega arith, subst (λ k. k < 10 ^ 38) (sym (unsigned_abs-signed true m)) (omega (arith, p refl))), (refl, least m (p refl)))
    signed false true p q e = subst IsRanged (some_number (record { form = decimal128; scale = 0; whole = neg_ℤ (pos m) }) n e) ((omega arith, subst (λ k. k < 10 ^ 38) (sym (unsigned_abs-signed true m)) (q refl)), (omega arith, wide_signed true m (q refl)))
    signed false false p q e = cc

pub extended_number : (bytes : List ℕ) (n : Num) → IsExtendedNumber bytes n → HasFewDigits n × IsProperNumber n
extended_number bytes n (inl d) = decimal_text bytes n d
extended_number bytes n (inr (sign, mark, whole, parts, is)) = hexadecimal_ranged (starts_with_minus sign) (digits_value 16 whole) n is

-- a number of few digits, in the first form that holds it
exact_ranged : (b : Bool) (m scale : ℕ) → scale ≤ 38 → m < 10 ^ 38 → IsRanged (exact_number scale (signed_by b m))
unfolding exact_form
exact_ranged b m scale few short =
    let value = signed_by b m in
    let magnitude : unsigned_abs value < 10 ^ 38 = subst (λ k. k < 10 ^ 38) (sym (unsigned_abs-signed b m)) short in
    let few_digits : (scale ≤ 38) × (unsigned_abs value < 10 ^ 38) = (few, magnitude) in
    picked ((scale == 0) && (int_le (pos 0) value && int_lt value (pos (2 ^ 64)))) ((scale == 0) && (int_le (neg_ℤ (pos (2 ^ 63))) value && int_lt value (pos 0))) (nat_le scale 18 && nat_lt (unsigned_abs value) (10 ^ 18)) scale value IsRanged
    (λ h. let tests = and_parts (scale == 0) (int_le (pos 0) value && int_lt value (pos (2 ^ 64))) h in (few_digits, (eqb-true scale 0 tests.0, unsigned_fits value tests.1)))
    (λ h. let tests = and_parts (scale == 0) (int_le (neg_ℤ (pos (2 ^ 63))) value && int_lt value (pos 0)) h in (few_digits, (eqb-true scale 0 tests.0, signed_fits value tests.1)))
    (λ h.
    let tests = and_parts (nat_le scale 18) (nat_lt (unsigned_abs value) (10 ^ 18)) h in
    let small : unsigned_abs value < 10 ^ 18 = ltb-true (unsigned_abs value) (10 ^ 18) tests.1 in
    (few_digits, (omega (arith, few), small_signed b m (subst (λ k. k < 10 ^ 18) (unsigned_abs-signed b m) small))))
    (few_digits, (omega (arith, few), wide_signed b m short))

-- an exact decimal
pub exact_decimal : (bytes : List ℕ) (n : Num) → IsExactDecimal bytes n → HasFewDigits n × IsProperNumber n
unfolding moved_number
exact_decimal bytes n d =
    let negative = starts_with_minus d.sign in
    let behind : ℕ = length (fraction_digits d.fraction) in
    let magnitude : ℕ = digits_value 10 (d.whole ++ fraction_digits d.fraction) * 10 ^ (d.right - behind) in
    let scale : ℕ = (behind + d.left) - d.right in
    let is : n ≡ exact_number scale (signed_by negative magnitude) = d.value in
    let short : magnitude < 10 ^ 38 = subst (λ k. k < 10 ^ 38) (ap (λ (m : Num). unsigned_abs m.whole) is ∙ unsigned_abs-signed negative magnitude) d.few in
    let few : scale ≤ 38 = subst (λ k. k ≤ 38) (ap (λ (m : Num). m.scale) is) d.few_behind in
    subst IsRanged (sym is) (exact_ranged negative magnitude scale few short)

pub json_number : (bytes : List ℕ) (n : Num) → IsJsonNumber bytes n → HasFewDigits n × IsProperNumber n
json_number bytes n is = exact_decimal bytes n is.1

pub extended_json_number : (bytes : List ℕ) (n : Num) → IsExtendedJsonNumber bytes n → HasFewDigits n × IsProperNumber n
extended_json_number bytes n (inl d) = exact_decimal bytes n d
extended_json_number bytes n (inr (sign, mark, whole, parts, is)) = hexadecimal_ranged (starts_with_minus sign) (digits_value 16 whole) n is

-- ---- what is written is read again

-- a decimal with no exponent is an exact one of the same scale and whole number
exact_of_decimal : (bytes : List ℕ) (n m : Num) → HasFewDigits n → IsDecimalNumber bytes m → m.scale ≡ n.scale → m.whole ≡ n.whole → (k : Num) × IsExactDecimal bytes k × (k.scale ≡ n.scale) × (k.whole ≡ n.whole)
unfolding moved_number
exact_of_decimal bytes n m w (sign, zeros, whole, fraction, parts, (precise, is)) s h =
    let negative : Bool = starts_with_minus sign in
    let behind : ℕ = length (fraction_digits fraction) in
    let value : ℕ = digits_value 10 (whole ++ fraction_digits fraction) in
    let none : 0 - behind ≡ 0 = omega arith in
    let same : value * 10 ^ (0 - behind) ≡ value = ap (λ e. value * 10 ^ e) none ∙ omega arith in
    let scales : (behind + 0) - 0 ≡ n.scale = omega (arith, ap (λ (x : Num). x.scale) is, s) in
    let wholes : signed_by negative (value * 10 ^ (0 - behind)) ≡ n.whole = ap (signed_by negative) same ∙ sym (ap (λ (x : Num). x.whole) is) ∙ h in (
      moved_number negative value behind 0 0,
      record {
        front = bytes;
        exponent = [];
        joined = sym (append-nil bytes);
        sign = sign;
        zeros = zeros;
        whole = whole;
        fraction = fraction;
        parts = parts;
        right = 0;
        left = 0;
        moves = no_exponent;
        value = refl;
        few_behind = omega (arith, scales, w.0);
        few = subst (λ z. unsigned_abs z < 10 ^ 38) (sym wholes) w.1;
      },
      scales,
      wholes,
    )

pub json_reads_back : (n : Num) → IsProperNumber n → HasFewDigits n → EncodesSameNumber json (number_text n) n
json_reads_back n p w =
    let r = reads_back_as_decimal n w in
    let e = exact_of_decimal (number_text n) n r.0 w r.1 r.2 r.3 in
    let text = rfc_text n w in
    record { read = e.0; is_number = (text.0, e.1); scales = e.2; wholes = e.3 }

pub extended_json_reads_back : (n : Num) → IsProperNumber n → HasFewDigits n → EncodesSameNumber extended_json (number_text n) n
extended_json_reads_back n p w =
    let r = reads_back_as_decimal n w in
    let e = exact_of_decimal (number_text n) n r.0 w r.1 r.2 r.3 in
    record { read = e.0; is_number = inl e.1; scales = e.2; wholes = e.3 }
