-- An extended number has its parts in one way.
use Rattle.std.proofs.Common.{◌≡◌, ◌≢◌, ◌⊎◌, ℕ, ◌<◌, zero, suc, Option, Some, None, List, [], ◌∷◌, ◌++◌, length, take, drop, refl, sym, subst, ap, ◌∙◌, inl, inr, ⊎_elim, arith, length-append}
use Rattle.std.specs.Prelude.{slice_index, replicate}
use Rattle.std.specs.Char.{digit_value}
use Rattle.std.specs.Str.Parse.{AllDigits, digits_value, starts_with_minus}
use Rattle.std.proofs.lemmas.Str.Parse.{digit_from_value}
use Rattle.std.proofs.lemmas.List.{append-nil, take_all}
use Rattle.jsonb_spec.specs.Grammar.StandardNumber.{IsSign, IsExponent, IsExponentMark}
use Rattle.jsonb_spec.specs.Grammar.ExtendedNumber.{decimal_number, IsDecimalNumber, IsDecimalText, HasHexadecimalParts, hexadecimal_number, IsHexadecimalNumber, IsHexadecimalText, IsWordText, IsExtendedNumber, IsExtendedText}
use Rattle.jsonb_spec.specs.Mode.{lenient}
use Rattle.jsonb_spec.specs.Tree.{Num}
use Rattle.jsonb_spec.specs.Parsing.ExtendedNumber.{core_byte}
use Rattle.text_scan.proofs.Numbers.DecimalScan.{core_within}
use Rattle.text_scan.proofs.Numbers.HexadecimalTexts.{runs_end, same_front}
use Rattle.text_scan.proofs.Numbers.Reading.{IsWithout}
use Rattle.text_scan.proofs.Numbers.ExtendedTexts.{letter_is, word_found, found_letter, hexadecimal_core, decimals_before_mark, decimals_before_letter}
use Rattle.jsonb_core.proofs.Numbers.Fractions.{fraction_digits, fraction_text, precision_of, value_of}
use Rattle.text_scan.proofs.Numbers.TextParts.{IsUnrepresentableDecimal, IsUnrepresentableHexadecimal, HasTextParts, plain_parts, decimal_text_of}

-- ---- parts of a list

-- the byte begins no digits, and is no sign
record IsApart (b : ℕ) : Type 0 where
  no_digit : ¬ (digit_value b < 10)
  no_zero : b ≢ 48
  no_plus : b ≢ 43
  no_minus : b ≢ 45

nothing_apart : IsApart 0
nothing_apart = record { no_digit = λ h. omega (arith, h); no_zero = λ e. omega (arith, e); no_plus = λ e. omega (arith, e); no_minus = λ e. omega (arith, e) }

point_apart : IsApart 46
point_apart = record { no_digit = λ h. omega (arith, h); no_zero = λ e. omega (arith, e); no_plus = λ e. omega (arith, e); no_minus = λ e. omega (arith, e) }

mark_apart : (b : ℕ) → IsExponentMark b → IsApart b
mark_apart b (inl e) = subst IsApart (sym e) (record { no_digit = λ h. omega (arith, h); no_zero = λ e. omega (arith, e); no_plus = λ e. omega (arith, e); no_minus = λ e. omega (arith, e) })
mark_apart b (inr e) = subst IsApart (sym e) (record { no_digit = λ h. omega (arith, h); no_zero = λ e. omega (arith, e); no_plus = λ e. omega (arith, e); no_minus = λ e. omega (arith, e) })

exponent_apart : (exponent : List ℕ) → IsExponent exponent → IsApart (slice_index exponent 0)
exponent_apart exponent (inl none) = subst (λ e. IsApart (slice_index e 0)) (sym none) nothing_apart
exponent_apart exponent (inr e) = subst (λ x. IsApart (slice_index x 0)) (sym e.joined) (mark_apart e.mark e.is_mark)

tail_apart : (fraction : Option (List ℕ)) (exponent : List ℕ) → IsExponent exponent → IsApart (slice_index (fraction_text fraction ++ exponent) 0)
tail_apart None exponent e = exponent_apart exponent e
tail_apart (Some ds) exponent e = point_apart

-- the first byte after a sign and after zeros
after_zeros : (whole : List ℕ) (fraction : Option (List ℕ)) (exponent : List ℕ) → slice_index whole 0 ≢ 48 → IsExponent exponent → slice_index (whole ++ (fraction_text fraction ++ exponent)) 0 ≢ 48
after_zeros [] fraction exponent other e = (tail_apart fraction exponent e).no_zero
after_zeros (c ∷ whole) fraction exponent other e = other

digit_no_sign : (c : ℕ) → digit_value c < 10 → (c ≢ 43) × (c ≢ 45)
digit_no_sign c h = let digit = digit_from_value c h in (λ e. omega (arith, e, digit), λ e. omega (arith, e, digit))

after_sign : (count : ℕ) (whole : List ℕ) (fraction : Option (List ℕ)) (exponent : List ℕ) → AllDigits 10 whole → IsExponent exponent →
    (slice_index (replicate count 48 ++ (whole ++ (fraction_text fraction ++ exponent))) 0 ≢ 43) × (slice_index (replicate count 48 ++ (whole ++ (fraction_text fraction ++ exponent))) 0 ≢ 45)
after_sign (suc count) whole fraction exponent digits e = (λ same. omega (arith, same), λ same. omega (arith, same))
after_sign zero [] fraction exponent digits e = let a = tail_apart fraction exponent e in (a.no_plus, a.no_minus)
after_sign zero (c ∷ whole) fraction exponent digits e = digit_no_sign c digits.0

signs_same : (sign other r s : List ℕ) → IsSign sign → IsSign other → (slice_index r 0 ≢ 43) × (slice_index r 0 ≢ 45) → (slice_index s 0 ≢ 43) × (slice_index s 0 ≢ 45) → sign ++ r ≡ other ++ s → (sign ≡ other) × (r ≡ s)
signs_same sign other r s (inl a) (inl b) first second same = let e = rw (a, b) at same in (a ∙ sym b, e)
signs_same sign other r s (inl a) (inr (inl b)) first second same = let e = rw (a, b) at same in absurd (first.0 (ap (λ z. slice_index z 0) e))
signs_same sign other r s (inl a) (inr (inr b)) first second same = let e = rw (a, b) at same in absurd (first.1 (ap (λ z. slice_index z 0) e))
signs_same sign other r s (inr (inl a)) (inl b) first second same = let e = rw (a, b) at same in absurd (second.0 (sym (ap (λ z. slice_index z 0) e)))
signs_same sign other r s (inr (inl a)) (inr (inl b)) first second same = let e = rw (a, b) at same in (a ∙ sym b, ap (drop 1) e)
signs_same sign other r s (inr (inl a)) (inr (inr b)) first second same = let e = rw (a, b) at same in absurd (omega (arith, ap (λ z. slice_index z 0) e))
signs_same sign other r s (inr (inr a)) (inl b) first second same = let e = rw (a, b) at same in absurd (second.1 (sym (ap (λ z. slice_index z 0) e)))
signs_same sign other r s (inr (inr a)) (inr (inl b)) first second same = let e = rw (a, b) at same in absurd (omega (arith, ap (λ z. slice_index z 0) e))
signs_same sign other r s (inr (inr a)) (inr (inr b)) first second same = let e = rw (a, b) at same in (a ∙ sym b, ap (drop 1) e)

zeros_same : (m n : ℕ) (xs ys : List ℕ) → slice_index xs 0 ≢ 48 → slice_index ys 0 ≢ 48 → replicate m 48 ++ xs ≡ replicate n 48 ++ ys → (m ≡ n) × (xs ≡ ys)
zeros_same zero zero xs ys h k same = (refl, same)
zeros_same zero (suc n) xs ys h k same = absurd (h (ap (λ z. slice_index z 0) same))
zeros_same (suc m) zero xs ys h k same = absurd (k (sym (ap (λ z. slice_index z 0) same)))
zeros_same (suc m) (suc n) xs ys h k same = let rest = zeros_same m n xs ys h k (ap (drop 1) same) in (ap suc rest.0, rest.1)

digits_same : (ds es xs ys : List ℕ) → AllDigits 10 ds → AllDigits 10 es → ¬ (digit_value (slice_index xs 0) < 10) → ¬ (digit_value (slice_index ys 0) < 10) → ds ++ xs ≡ es ++ ys → (ds ≡ es) × (xs ≡ ys)
digits_same [] [] xs ys h k stops ends same = (refl, same)
digits_same [] (e ∷ es) xs ys h k stops ends same = absurd (stops (subst (λ z. digit_value (slice_index z 0) < 10) (sym same) k.0))
digits_same (d ∷ ds) [] xs ys h k stops ends same = absurd (ends (subst (λ z. digit_value (slice_index z 0) < 10) same h.0))
digits_same (d ∷ ds) (e ∷ es) xs ys h k stops ends same =
    let rest = digits_same ds es xs ys h.1 k.1 stops ends (ap (drop 1) same) in (ap (λ c. c ∷ ds) (ap (λ z. slice_index z 0) same) ∙ ap (λ z. e ∷ z) rest.0, rest.1)

fractions_same : (f g : Option (List ℕ)) (d e : List ℕ) → AllDigits 10 (fraction_digits f) → AllDigits 10 (fraction_digits g) → IsExponent d → IsExponent e → fraction_text f ++ d ≡ fraction_text g ++ e → (f ≡ g) × (d ≡ e)
fractions_same None None d e h k is_d is_e same = (refl, same)
fractions_same None (Some g) d e h k is_d is_e same = absurd (no_point d is_d (ap (λ z. slice_index z 0) same))
  where
    no_point : (x : List ℕ) → IsExponent x → slice_index x 0 ≢ 46
    no_point x (inl none) = λ p. absurd (omega (arith, sym p ∙ ap (λ z. slice_index z 0) none))
    no_point x (inr m) = λ p. let first = ap (λ z. slice_index z 0) m.joined in ⊎_elim (λ c. omega (arith, p, first, c)) (λ c. omega (arith, p, first, c)) m.is_mark
fractions_same (Some f) None d e h k is_d is_e same = absurd (no_point e is_e (sym (ap (λ z. slice_index z 0) same)))
  where
    no_point : (x : List ℕ) → IsExponent x → slice_index x 0 ≢ 46
    no_point x (inl none) = λ p. absurd (omega (arith, sym p ∙ ap (λ z. slice_index z 0) none))
    no_point x (inr m) = λ p. let first = ap (λ z. slice_index z 0) m.joined in ⊎_elim (λ c. omega (arith, p, first, c)) (λ c. omega (arith, p, first, c)) m.is_mark
fractions_same (Some f) (Some g) d e h k is_d is_e same =
    let rest = digits_same f g d e h k (exponent_apart d is_d).no_digit (exponent_apart e is_e).no_digit (ap (drop 1) same) in (ap Some rest.0, rest.1)

-- ---- decimals

pub record SameDecimal (sign whole : List ℕ) (fraction : Option (List ℕ)) (exponent other digits : List ℕ) (behind : Option (List ℕ)) (last : List ℕ) : Type 0 where
  pub sign_same : sign ≡ other
  pub whole_same : whole ≡ digits
  pub fraction_same : fraction ≡ behind
  pub exponent_same : exponent ≡ last

pub same_decimal : (core sign zeros whole : List ℕ) (fraction : Option (List ℕ)) (exponent other more digits : List ℕ) (behind : Option (List ℕ)) (last : List ℕ) → HasTextParts core sign zeros whole fraction exponent → HasTextParts core other more digits behind last → SameDecimal sign whole fraction exponent other digits behind last
same_decimal core sign zeros whole fraction exponent other more digits behind last p q =
    let signed = signs_same sign other _ _ p.is_sign q.is_sign (after_sign (length zeros) whole fraction exponent p.whole_digits p.is_exponent) (after_sign (length more) digits behind last q.whole_digits q.is_exponent)
    (ap (λ z. sign ++ (z ++ (whole ++ (fraction_text fraction ++ exponent)))) (sym p.are_zeros) ∙ sym p.joined ∙ q.joined ∙ ap (λ z. other ++ (z ++ (digits ++ (fraction_text behind ++ last)))) q.are_zeros) in
    let zeroed = zeros_same (length zeros) (length more) _ _ (after_zeros whole fraction exponent p.no_zero_first p.is_exponent) (after_zeros digits behind last q.no_zero_first q.is_exponent) signed.1 in
    let counted = digits_same whole digits _ _ p.whole_digits q.whole_digits (tail_apart fraction exponent p.is_exponent).no_digit (tail_apart behind last q.is_exponent).no_digit zeroed.1 in
    let ended = fractions_same fraction behind exponent last p.digits_behind q.digits_behind p.is_exponent q.is_exponent counted.1 in
    record { sign_same = signed.0; whole_same = counted.0; fraction_same = ended.0; exponent_same = ended.1 }

abbrev number_by : List ℕ → List ℕ → Option (List ℕ) → Num
number_by sign whole fraction = decimal_number (length (fraction_digits fraction)) (precision_of whole fraction) (value_of sign whole fraction)

decimal_unique : (core : List ℕ) (m n : Num) → IsDecimalNumber core m → IsDecimalNumber core n → m ≡ n
decimal_unique core m n (sign, zeros, whole, fraction, p, (few, first)) (other, more, digits, behind, q, (too, second)) =
    let s = same_decimal core sign zeros whole fraction [] other more digits behind [] (plain_parts core sign zeros whole fraction p) (plain_parts core other more digits behind q) in
    first ∙ ap (λ x. number_by x whole fraction) s.sign_same ∙ ap (λ x. number_by other x fraction) s.whole_same ∙ ap (λ x. number_by other digits x) s.fraction_same ∙ sym second

pub decimal_representable : (core : List ℕ) (n : Num) → IsDecimalNumber core n → IsUnrepresentableDecimal core → ⊥
decimal_representable core n (sign, zeros, whole, fraction, p, (few, first)) (other, more, digits, behind, last, q, why) =
    let s = same_decimal core sign zeros whole fraction [] other more digits behind last (plain_parts core sign zeros whole fraction p) q in
    ⊎_elim (λ some. some (sym s.exponent_same)) (λ many. omega (arith, few, many, ap length s.whole_same, ap (λ f. length (fraction_digits f)) s.fraction_same)) why

pub decimal_is_text : (core : List ℕ) (n : Num) → IsDecimalNumber core n → IsDecimalText core
decimal_is_text core n (sign, zeros, whole, fraction, p, (few, first)) = decimal_text_of core sign zeros whole fraction [] (plain_parts core sign zeros whole fraction p)

pub unrepresentable_decimal_is_text : (core : List ℕ) → IsUnrepresentableDecimal core → IsDecimalText core
unrepresentable_decimal_is_text core (sign, zeros, whole, fraction, exponent, p, why) = decimal_text_of core sign zeros whole fraction exponent p

-- ---- hexadecimals

record SameHexadecimal (sign whole other digits : List ℕ) (behind : Option (List ℕ)) : Type 0 where
  sign_same : sign ≡ other
  whole_same : whole ≡ digits
  no_fraction : behind ≡ None

digits_alone : (whole digits : List ℕ) (behind : Option (List ℕ)) → AllDigits 16 whole → AllDigits 16 digits → whole ++ [] ≡ digits ++ fraction_text behind → (whole ≡ digits) × (behind ≡ None)
digits_alone whole digits None h k same = (sym (append-nil whole) ∙ same ∙ append-nil digits, refl)
digits_alone whole digits (Some ds) h k same =
    ⊎_elim (λ all. absurd (omega (arith, ap length all.1))) (λ less. absurd (omega (arith, less.1))) (runs_end digits whole (46 ∷ ds) [] k h (omega arith) (sym same))

same_hexadecimal : (core sign : List ℕ) (mark : ℕ) (whole other : List ℕ) (letter : ℕ) (digits : List ℕ) (behind : Option (List ℕ)) → HasHexadecimalParts core sign mark whole None → HasHexadecimalParts core other letter digits behind → SameHexadecimal sign whole other digits behind
same_hexadecimal core sign mark whole other letter digits behind p q =
    let front = same_front sign other 48 mark letter (whole ++ []) (digits ++ fraction_text behind) p.is_sign q.is_sign (λ e. omega (arith, e)) (λ e. omega (arith, e)) (sym p.joined ∙ q.joined) in
    let rest = digits_alone whole digits behind p.are_digits.1 q.are_digits.1 front.3 in
    record { sign_same = front.0; whole_same = rest.0; no_fraction = rest.1 }

some_same : (m n : Num) → ◌≡◌ {A = Option Num} (Some m) (Some n) → m ≡ n
some_same m n e = cc

hexadecimal_unique : (core : List ℕ) (m n : Num) → IsHexadecimalNumber core m → IsHexadecimalNumber core n → m ≡ n
hexadecimal_unique core m n (sign, mark, whole, p, first) (other, letter, digits, q, second) =
    let s = same_hexadecimal core sign mark whole other letter digits None p q in
    some_same m n (sym first ∙ ap (λ x. hexadecimal_number (starts_with_minus x) (digits_value 16 whole)) s.sign_same ∙ ap (λ x. hexadecimal_number (starts_with_minus other) (digits_value 16 x)) s.whole_same ∙ second)

no_number : (n : Num) → ◌≡◌ {A = Option Num} (Some n) None → ⊥
no_number n e = absurd cc

hexadecimal_representable : (core : List ℕ) (n : Num) → IsHexadecimalNumber core n → IsUnrepresentableHexadecimal core → ⊥
hexadecimal_representable core n (sign, mark, whole, p, first) (other, letter, digits, behind, q, why) =
    let s = same_hexadecimal core sign mark whole other letter digits behind p q in
    ⊎_elim (λ some. some s.no_fraction)
    (λ none. no_number n (sym first ∙ ap (λ x. hexadecimal_number (starts_with_minus x) (digits_value 16 whole)) s.sign_same ∙ ap (λ x. hexadecimal_number (starts_with_minus other) (digits_value 16 x)) s.whole_same ∙ none)) why

hexadecimal_is_text : (core : List ℕ) (n : Num) → IsHexadecimalNumber core n → IsHexadecimalText core
hexadecimal_is_text core n (sign, mark, whole, p, first) = (sign, mark, whole, None, p)

unrepresentable_hexadecimal_is_text : (core : List ℕ) → IsUnrepresentableHexadecimal core → IsHexadecimalText core
unrepresentable_hexadecimal_is_text core (sign, mark, whole, fraction, p, why) = (sign, mark, whole, fraction, p)

-- ---- of two kinds no text is

whole_text : (P : List ℕ → Type 0) (core : List ℕ) → P core → P (take (length core) core)
whole_text P core h = subst P (sym (take_all (length core) core (omega arith))) h

no_decimal_hexadecimal : (core : List ℕ) → IsDecimalText core → IsHexadecimalText core → ⊥
no_decimal_hexadecimal core decimal (sign, mark, whole, fraction, p) =
    let before = decimals_before_mark core sign mark (whole ++ fraction_text fraction) p.joined p.is_sign p.is_mark (length core) (omega arith) (whole_text IsDecimalText core decimal) in
    omega (arith, before.0, ap length p.joined, length-append sign (48 ∷ mark ∷ (whole ++ fraction_text fraction)))

no_decimal_word : (core : List ℕ) → IsDecimalText core → IsWordText core → ⊥
no_decimal_word core decimal word =
    let letter = found_letter core (length core) (word_found core (length core) (whole_text IsWordText core word)) in
    let before = decimals_before_letter core (core_within core) letter (length core) (omega arith) (whole_text IsDecimalText core decimal) in
    omega (arith, before.0, core_within core)

no_hexadecimal_word : (core : List ℕ) → IsHexadecimalText core → IsWordText core → ⊥
no_hexadecimal_word core hexadecimal word =
    let letter = found_letter core (length core) (word_found core (length core) (whole_text IsWordText core word)) in
    let zero_byte = hexadecimal_core core (length core) (whole_text IsHexadecimalText core hexadecimal) in
    omega (arith, zero_byte.0, letter_is (core_byte core) letter)

-- ---- all of them

-- the bytes are one of these decimals or a hexadecimal, and n is its number
abbrev pub IsLenientNumber : (List ℕ → Num → Type 0) → List ℕ → Num → Type 0
IsLenientNumber Decimal bytes n = Decimal bytes n ⊎ IsHexadecimalNumber bytes n

module _ (Decimal : List ℕ → Num → Type 0) (is_text : (core : List ℕ) (n : Num) → Decimal core n → IsDecimalText core) where
  pub lenient_is_text : (core : List ℕ) (n : Num) → IsLenientNumber Decimal core n → IsExtendedText core
  lenient_is_text core n (inl p) = inl (is_text core n p)
  lenient_is_text core n (inr p) = inr (inl (hexadecimal_is_text core n p))

  -- a text has one number
  pub lenient_unique : ((core : List ℕ) (m n : Num) → Decimal core m → Decimal core n → m ≡ n) → (core : List ℕ) (m n : Num) → IsLenientNumber Decimal core m → IsLenientNumber Decimal core n → m ≡ n
  lenient_unique unique core m n (inl p) (inl q) = unique core m n p q
  lenient_unique unique core m n (inl p) (inr q) = absurd (no_decimal_hexadecimal core (is_text core m p) (hexadecimal_is_text core n q))
  lenient_unique unique core m n (inr p) (inl q) = absurd (no_decimal_hexadecimal core (is_text core n q) (hexadecimal_is_text core m p))
  lenient_unique unique core m n (inr p) (inr q) = hexadecimal_unique core m n p q

  -- a decimal without a number has none
  pub decimal_without_number : (core : List ℕ) → IsDecimalText core → ((n : Num) → ¬ (Decimal core n)) → (n : Num) → ¬ (IsLenientNumber Decimal core n)
  decimal_without_number core text none n (inl p) = none n p
  decimal_without_number core text none n (inr p) = absurd (no_decimal_hexadecimal core text (hexadecimal_is_text core n p))

  -- a word or a hexadecimal whose number no form holds has none
  pub other_without_number : (core : List ℕ) → IsUnrepresentableHexadecimal core ⊎ IsWordText core → IsWithout lenient (IsLenientNumber Decimal) core
  other_without_number core other = (is_other other, λ n number. without n number other)
    where
      is_other : IsUnrepresentableHexadecimal core ⊎ IsWordText core → IsExtendedText core
      is_other (inl hexadecimal) = inr (inl (unrepresentable_hexadecimal_is_text core hexadecimal))
      is_other (inr word) = inr (inr word)

      without : (n : Num) → IsLenientNumber Decimal core n → IsUnrepresentableHexadecimal core ⊎ IsWordText core → ⊥
      without n (inl p) (inl q) = no_decimal_hexadecimal core (is_text core n p) (unrepresentable_hexadecimal_is_text core q)
      without n (inl p) (inr q) = no_decimal_word core (is_text core n p) q
      without n (inr p) (inl q) = hexadecimal_representable core n p q
      without n (inr p) (inr q) = no_hexadecimal_word core (hexadecimal_is_text core n p) q

pub extended_is_text : (core : List ℕ) (n : Num) → IsExtendedNumber core n → IsExtendedText core
extended_is_text core n number = lenient_is_text IsDecimalNumber decimal_is_text core n number

-- a text has one number
pub extended_unique : (core : List ℕ) (m n : Num) → IsExtendedNumber core m → IsExtendedNumber core n → m ≡ n
extended_unique core m n p q = lenient_unique IsDecimalNumber decimal_is_text decimal_unique core m n p q
