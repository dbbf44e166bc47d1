-- Parsing an extended number gives what the grammar says, and the grammar's numbers are parsed so.
use Rattle.std.proofs.Common.{◌≡◌, ◌≢◌, ◌⊎◌, zero, suc, ℕ, ◌+◌, ◌<◌, ◌≤◌, true, false, ◌||◌, List, [], ◌∷◌, ◌++◌, length, take, drop, refl, sym, subst, ap, ◌∙◌, inl, inr, ⊎_elim, arith, Option, Some, None, Ok, Err}
use Rattle.std.specs.Prelude.{replicate, slice_index, MatchOption, ◌==◌}
use Rattle.std.specs.Char.{to_ascii_lowercase}
use Rattle.std.specs.Int.{IsInRange}
use Rattle.std.specs.Str.Parse.{AllDigits, starts_with_minus}
use Rattle.std.proofs.lemmas.Str.Parse.{digit_from_value}
use Rattle.std.proofs.lemmas.Bool.{cases_Bool, cases_lt, false≢true, cond-false, cond-true, and_parts}
use Rattle.std.proofs.lemmas.Bool.Decides.{nat_tests}
use Rattle.std.proofs.lemmas.List.{take-append-drop, length-take-le, drop_more, get_or_past}
use Rattle.jsonb_spec.specs.Code.{invalid_number_value}
use Rattle.jsonb_spec.specs.Grammar.StandardNumber.{IsSign}
use Rattle.jsonb_spec.specs.Grammar.ExtendedNumber.{IsDecimalNumber, IsDecimalText, IsHexadecimalNumber, IsExtendedNumber}
use Rattle.jsonb_spec.specs.Tree.{Num}
use Rattle.jsonb_spec.specs.Parsing.Number.{End}
use Rattle.jsonb_spec.specs.Parsing.ExtendedNumber.{Scanned, core_start, core_byte, front_end, point_end, behind_end, decimal_end, decimal_at, decimal_to, decimal_scan, is_word_start, is_hexadecimal_start, extended_scan, extended_number_at, is_extended_start, scan_by_kind}
use Rattle.text_scan.proofs.Numbers.Steps.{is_digit}
use Rattle.text_scan.proofs.Numbers.Scan.{exponent_fault_is}
use Rattle.text_scan.proofs.Numbers.DecimalScan.{DecimalCase, no_digit, second, further, decimal_case, no_digits, second_point, core_within, core_digits, point_here, point_ordered}
use Rattle.text_scan.proofs.Numbers.DecimalScanText.{DecimalText, decimal_text, decimal_at_end}
use Rattle.text_scan.proofs.Numbers.DecimalStates.{IsDecimalDue, NoDecimalEnds, decimal_accepted, decimal_due, fault_no_decimal, fault_second_point, fault_decimal_mark, decimal_done}
use Rattle.text_scan.proofs.Numbers.ExtendedTexts.{IsWordStart, ScansExtended, ScansOther, goes_on_more, decimals_before_letter, only_decimals, sign_front}
use Rattle.text_scan.proofs.Numbers.HexadecimalMeaning.{IsHexadecimalFront, reads_hexadecimal}
use Rattle.text_scan.proofs.Scalars.WordMeaning.{reads_word}
use Rattle.text_scan.proofs.Numbers.ExtendedParts.{decimal_representable, decimal_is_text, unrepresentable_decimal_is_text, IsLenientNumber, decimal_without_number, other_without_number}
use Rattle.text_scan.proofs.Numbers.Reading.{IsLongestText, FindsNumber, found_at, IsScanned}
use Rattle.jsonb_core.proofs.Numbers.Fractions.{fraction_digits, fraction_text}
use Rattle.text_scan.proofs.Numbers.TextParts.{IsUnrepresentableDecimal, HasTextParts, decimal_text_of, plain_parts}
use Rattle.jsonb_spec.specs.Grammar.Scalar.{IsNumber}
use Rattle.jsonb_spec.specs.Mode.{extended, lenient}

-- ---- decimals

decimal_fault : (bytes : List ℕ) (offset : ℕ) → decimal_end bytes ≡ Err offset → NoDecimalEnds bytes
decimal_fault bytes offset at = by_case (decimal_case bytes)
  where
    is_due : IsDecimalDue bytes (core_start bytes)
    is_due = decimal_due bytes (core_start bytes) refl (core_within bytes)

    by_case : DecimalCase bytes → NoDecimalEnds bytes
    by_case (no_digit none found) =
        let empty = no_digits bytes none in
        fault_no_decimal bytes (front_end bytes) (point_end bytes) (behind_end bytes) (subst (IsDecimalDue bytes) (sym empty.0) is_due) (core_digits bytes).within (core_digits bytes).ends (point_here bytes) empty.1
    by_case (second some again found) =
        let point = second_point bytes again in
        fault_second_point bytes (core_start bytes) (front_end bytes) (point_end bytes) (behind_end bytes) is_due (core_digits bytes) (point_here bytes) point.0 some point.1
    by_case (further some once found) =
        let order = point_ordered bytes (front_end bytes) (point_end bytes) (behind_end bytes) (core_digits bytes).within (point_here bytes) in
        fault_decimal_mark bytes (behind_end bytes) _ (decimal_done bytes (core_start bytes) (front_end bytes) (point_end bytes) (behind_end bytes) is_due (core_digits bytes) (point_here bytes) some) (exponent_fault_is bytes (behind_end bytes) offset order.2 (sym found ∙ at))

-- neither a word nor a hexadecimal begins here
pub record IsDecimalHere (bytes : List ℕ) : Type 0 where
  pub no_word : ¬ IsWordStart (core_byte bytes)
  pub no_mark : core_byte bytes ≡ 48 → to_ascii_lowercase (slice_index bytes (core_start bytes + 1)) ≢ 120

-- a decimal that ends here, with its number or without one
module _ (Decimal : List ℕ → Num → Type 0) (is_text : (core : List ℕ) (n : Num) → Decimal core n → IsDecimalText core) (bytes : List ℕ) (here : IsDecimalHere bytes) where
  pub decimal_found : (end : ℕ) (o : Option Num) → DecimalText bytes end → MatchOption o ((n : Num) → ¬ (Decimal (take end bytes) n)) (Decimal (take end bytes)) → FindsNumber lenient (IsLenientNumber Decimal) bytes (Ok (o, end))
  decimal_found end o t number = found_at lenient (IsLenientNumber Decimal) bytes end o t.within (inl text) longest (by_option o number)
    where
      text : IsDecimalText (take end bytes)
      text = decimal_text_of (take end bytes) _ _ _ t.fraction _ t.parts

      longest : IsLongestText lenient bytes end
      longest k within longer = ⊎_elim inl (λ before. inr (before.0, goes_on_more (slice_index bytes k) before.1)) (t.longest k within (only_decimals bytes here.no_word here.no_mark k longer))

      by_option : (p : Option Num) → MatchOption p ((n : Num) → ¬ (Decimal (take end bytes) n)) (Decimal (take end bytes)) → MatchOption p ((n : Num) → ¬ (IsLenientNumber Decimal (take end bytes) n)) (IsLenientNumber Decimal (take end bytes))
      by_option (Some n) h = inl h
      by_option None h = decimal_without_number Decimal is_text (take end bytes) text h

  pub decimal_missing : (offset : ℕ) → decimal_end bytes ≡ Err offset → FindsNumber lenient (IsLenientNumber Decimal) bytes (Err (invalid_number_value, offset))
  decimal_missing offset at = (inl refl, λ k within text. goes_on_more (slice_index bytes k) (decimal_fault bytes offset at k within (only_decimals bytes here.no_word here.no_mark k text)))

finds_decimal : (bytes : List ℕ) → IsDecimalHere bytes → FindsNumber lenient (IsLenientNumber IsDecimalNumber) bytes (decimal_scan bytes)
unfolding decimal_scan
finds_decimal bytes here = by_end (decimal_end bytes) refl
  where
    by_option : (end : ℕ) (o : Option Num) → MatchOption o (IsUnrepresentableDecimal (take end bytes)) (IsDecimalNumber (take end bytes)) → MatchOption o ((n : Num) → ¬ (IsDecimalNumber (take end bytes) n)) (IsDecimalNumber (take end bytes))
    by_option end (Some n) number = number
    by_option end None unrepresentable = λ n number. decimal_representable (take end bytes) n number unrepresentable

    by_end : (r : End) → decimal_end bytes ≡ r → FindsNumber lenient (IsLenientNumber IsDecimalNumber) bytes (decimal_to bytes r)
    by_end (Ok end) at = let t = decimal_text bytes end at in decimal_found IsDecimalNumber decimal_is_text bytes here end (decimal_at bytes end) t (by_option end (decimal_at bytes end) (decimal_at_end bytes end t))
    by_end (Err offset) at = decimal_missing IsDecimalNumber decimal_is_text bytes here offset at

-- ---- all kinds

pub is_letter : (b : ℕ) → is_word_start b ≡ true → IsWordStart b
is_letter b h = ⊎_elim (λ n. inl (grind (arith, nat_tests))) (λ no_n. inr (let i : (to_ascii_lowercase b == 105) ≡ true = rw no_n at h in grind (arith, nat_tests))) (cases_Bool (to_ascii_lowercase b == 110))

no_letter : (b : ℕ) → is_word_start b ≡ false → ¬ IsWordStart b
no_letter b h (inl n) = let t : (to_ascii_lowercase b == 110) ≡ true = grind (arith, nat_tests) in let never : true ≡ false = rw t at h in absurd (false≢true (sym never))
no_letter b h (inr i) = let t : (to_ascii_lowercase b == 110) ≡ false = grind (arith, nat_tests) in let u : (to_ascii_lowercase b == 105) ≡ true = grind (arith, nat_tests) in let never : true ≡ false = rw (t, u) at h in absurd (false≢true (sym never))

byte_inside : (xs : List ℕ) (i : ℕ) → slice_index xs i ≢ 0 → i < length xs
byte_inside xs i some = ⊎_elim (λ inside. inside) (λ past. absurd (some (get_or_past xs i 0 (omega (arith, past))))) (cases_lt i (length xs))

hexadecimal_front : (bytes : List ℕ) → core_byte bytes ≡ 48 → to_ascii_lowercase (slice_index bytes (core_start bytes + 1)) ≡ 120 → IsHexadecimalFront bytes (take (core_start bytes) bytes) (slice_index bytes (core_start bytes + 1)) (drop (core_start bytes + 2) bytes)
hexadecimal_front bytes zero_byte letter =
    let mark : ℕ = slice_index bytes (core_start bytes + 1) in
    let first_inside = byte_inside bytes (core_start bytes) (λ e. omega (arith, e, zero_byte)) in
    let mark_inside = byte_inside bytes (core_start bytes + 1) (λ e. omega (arith, letter, ap to_ascii_lowercase e)) in
    let sum : core_start bytes + 1 + 1 ≡ core_start bytes + 2 = omega arith in
    let split : drop (core_start bytes) bytes ≡ 48 ∷ slice_index bytes (core_start bytes + 1) ∷ drop (core_start bytes + 2) bytes =
    drop_more bytes (core_start bytes) 0 first_inside ∙ (ap (λ b. b ∷ drop (core_start bytes + 1) bytes) zero_byte ∙ ap (λ z. 48 ∷ z) (drop_more bytes (core_start bytes + 1) 0 mark_inside ∙ ap (λ i. slice_index bytes (core_start bytes + 1) ∷ drop i bytes) sum)) in
    record {
      joined = sym (take-append-drop (core_start bytes) bytes) ∙ ap (λ z. take (core_start bytes) bytes ++ z) split;
      is_sign = (sign_front bytes).is_sign;
      is_mark = letter;
    }

-- neither a word nor a hexadecimal
pub decimal_by_kind : (bytes : List ℕ) (decimal : Scanned) → is_word_start (core_byte bytes) ≡ false → is_hexadecimal_start bytes ≡ false → scan_by_kind bytes decimal ≡ decimal
decimal_by_kind bytes decimal no_word none = cond-false (is_word_start (core_byte bytes)) _ _ no_word ∙ cond-false (is_hexadecimal_start bytes) _ _ none

-- before a word no decimal ends
no_decimal_there : (bytes : List ℕ) (end : ℕ) → IsWordStart (core_byte bytes) → end ≤ length bytes → ¬ IsDecimalText (take end bytes)
no_decimal_there bytes end letter within text =
    let before = (decimals_before_letter bytes (core_within bytes) letter end within text).0 in
    let one : core_start bytes ≤ 1 = ⊎_elim (λ sign. rw sign (omega arith)) (λ no_sign. rw no_sign (omega arith)) (cases_Bool (slice_index bytes 0 == 43 || slice_index bytes 0 == 45)) in
    let none : end ≡ 0 = omega (arith, before, one) in
    false≢true (decimal_accepted (take 0 bytes) (subst (λ k. IsDecimalText (take k bytes)) none text))

only_word : (bytes : List ℕ) (r : Scanned) → IsWordStart (core_byte bytes) → ScansExtended bytes r → ScansOther bytes r
only_word bytes (Ok (Some n, end)) letter t = record {
  within = t.within;
  text = ⊎_elim (λ decimal. absurd (no_decimal_there bytes end letter t.within (decimal_is_text (take end bytes) n decimal))) (λ hexadecimal. hexadecimal) t.text;
  longest = t.longest;
}
only_word bytes (Ok (None, end)) letter t = record {
  within = t.within;
  text = ⊎_elim (λ decimal. absurd (no_decimal_there bytes end letter t.within (unrepresentable_decimal_is_text (take end bytes) decimal))) (λ other. other) t.text;
  longest = t.longest;
}
only_word bytes (Err f) letter t = t

module _ (Decimal : List ℕ → Num → Type 0) (is_text : (core : List ℕ) (n : Num) → Decimal core n → IsDecimalText core) (bytes : List ℕ) where
  finds_other : (r : Scanned) → ScansOther bytes r → FindsNumber lenient (IsLenientNumber Decimal) bytes r
  finds_other (Ok (Some n, end)) t = record { within = t.within; text = inr t.text; longest = t.longest }
  finds_other (Ok (None, end)) t = record { within = t.within; text = other_without_number Decimal is_text (take end bytes) t.text; longest = t.longest }
  finds_other (Err f) t = t

  no_hexadecimal : is_hexadecimal_start bytes ≡ false → core_byte bytes ≡ 48 → to_ascii_lowercase (slice_index bytes (core_start bytes + 1)) ≢ 120
  no_hexadecimal none zero_byte letter =
      let t : (core_byte bytes == 48) ≡ true = grind (arith, nat_tests) in
      let u : (to_ascii_lowercase (slice_index bytes (core_start bytes + 1)) == 120) ≡ true = grind (arith, nat_tests) in
      let never : true ≡ false = rw (t, u) at none in false≢true (sym never)

  pub finds_by_kind : (decimal : Scanned) → (IsDecimalHere bytes → FindsNumber lenient (IsLenientNumber Decimal) bytes decimal) → FindsNumber lenient (IsLenientNumber Decimal) bytes (scan_by_kind bytes decimal)
  finds_by_kind decimal finds =
      ⊎_elim
      (λ word.
      let letter = is_letter (core_byte bytes) word in
      subst (FindsNumber lenient (IsLenientNumber Decimal) bytes) (sym (cond-true (is_word_start (core_byte bytes)) _ _ word)) (finds_other _ (only_word bytes _ letter (reads_word bytes (record { inside = core_within bytes; letter = letter })))))
      (λ no_word. ⊎_elim
      (λ hexadecimal.
      let both = and_parts (core_byte bytes == 48) (to_ascii_lowercase (slice_index bytes (core_start bytes + 1)) == 120) hexadecimal in
      let first = both.0 in
      let next = both.1 in
      let zero_byte : core_byte bytes ≡ 48 = grind (arith, nat_tests) in
      let letter : to_ascii_lowercase (slice_index bytes (core_start bytes + 1)) ≡ 120 = grind (arith, nat_tests) in
      subst (FindsNumber lenient (IsLenientNumber Decimal) bytes) (sym (cond-false (is_word_start (core_byte bytes)) _ _ no_word ∙ cond-true (is_hexadecimal_start bytes) _ _ hexadecimal))
      (finds_other _ (reads_hexadecimal bytes (take (core_start bytes) bytes) (slice_index bytes (core_start bytes + 1)) (drop (core_start bytes + 2) bytes) (core_start bytes + 2) (starts_with_minus bytes) (hexadecimal_front bytes zero_byte letter) (omega (arith, length-take-le (core_start bytes) bytes (core_within bytes))) (sym (sign_front bytes).minus))))
      (λ none. subst (FindsNumber lenient (IsLenientNumber Decimal) bytes) (sym (cond-false (is_word_start (core_byte bytes)) _ _ no_word ∙ cond-false (is_hexadecimal_start bytes) _ _ none)) (finds (record { no_word = no_letter (core_byte bytes) no_word; no_mark = no_hexadecimal none })))
      (cases_Bool (is_hexadecimal_start bytes))) (cases_Bool (is_word_start (core_byte bytes)))

finds_extended : (bytes : List ℕ) → FindsNumber lenient (IsNumber extended) bytes (extended_scan bytes)
unfolding extended_scan
finds_extended bytes = finds_by_kind IsDecimalNumber decimal_is_text bytes (decimal_scan bytes) (finds_decimal bytes)

pub extended_scanned : (size : ℕ) (bytes : List ℕ) → IsScanned extended size bytes (extended_number_at size bytes)
unfolding extended_number_at
extended_scanned size bytes = record { scan = extended_scan bytes; finds = finds_extended bytes; is = refl }

-- ---- how a number text begins

-- a sign, a point or a digit
abbrev pub OpensNumber : ℕ → Type 0
OpensNumber b = (b ≡ 43) ⊎ ((b ≡ 45) ⊎ ((b ≡ 46) ⊎ IsInRange 48 57 b))

pub record ExtendedStart (core : List ℕ) : Type 0 where
  pub first : ℕ
  pub others : List ℕ
  pub whole : core ≡ first ∷ others
  pub opens : OpensNumber first

signed_start : (core sign rest : List ℕ) → IsSign sign → core ≡ sign ++ rest → ExtendedStart rest → ExtendedStart core
signed_start core sign rest (inl none) joined start = record { first = start.first; others = start.others; whole = joined ∙ ap (λ z. z ++ rest) none ∙ start.whole; opens = start.opens }
signed_start core sign rest (inr (inl plus)) joined start = record { first = 43; others = rest; whole = joined ∙ ap (λ z. z ++ rest) plus; opens = inl refl }
signed_start core sign rest (inr (inr minus)) joined start = record { first = 45; others = rest; whole = joined ∙ ap (λ z. z ++ rest) minus; opens = inr (inl refl) }

zero_start : (rest : List ℕ) → ExtendedStart (48 ∷ rest)
zero_start rest = record { first = 48; others = rest; whole = refl; opens = inr (inr (inr (omega arith, omega arith))) }

decimal_start : (count : ℕ) (whole : List ℕ) (fraction : Option (List ℕ)) (exponent : List ℕ) → AllDigits 10 whole → 0 < count + length whole + length (fraction_digits fraction) → ExtendedStart (replicate count 48 ++ (whole ++ (fraction_text fraction ++ exponent)))
decimal_start (suc count) whole fraction exponent digits some = zero_start (replicate count 48 ++ (whole ++ (fraction_text fraction ++ exponent)))
decimal_start zero (c ∷ whole) fraction exponent digits some = record { first = c; others = whole ++ (fraction_text fraction ++ exponent); whole = refl; opens = inr (inr (inr (digit_from_value c digits.0))) }
decimal_start zero [] (Some ds) exponent digits some = record { first = 46; others = ds ++ exponent; whole = refl; opens = inr (inr (inl refl)) }
decimal_start zero [] None exponent digits some = absurd (omega (arith, some))

pub decimal_begins : (core sign zeros whole : List ℕ) (fraction : Option (List ℕ)) (exponent : List ℕ) → HasTextParts core sign zeros whole fraction exponent → ExtendedStart core
decimal_begins core sign zeros whole fraction exponent p =
    signed_start core sign (replicate (length zeros) 48 ++ (whole ++ (fraction_text fraction ++ exponent))) p.is_sign (p.joined ∙ ap (λ z. sign ++ (z ++ (whole ++ (fraction_text fraction ++ exponent)))) p.are_zeros) (decimal_start (length zeros) whole fraction exponent p.whole_digits p.some_digit)

pub hexadecimal_begins : (core : List ℕ) (n : Num) → IsHexadecimalNumber core n → ExtendedStart core
hexadecimal_begins core n (sign, mark, whole, p, is) = signed_start core sign (48 ∷ mark ∷ (whole ++ fraction_text None)) p.is_sign p.joined (zero_start (mark ∷ (whole ++ fraction_text None)))

pub extended_starts : (core : List ℕ) (n : Num) → IsExtendedNumber core n → ExtendedStart core
extended_starts core n (inl (sign, zeros, whole, fraction, p, (few, is))) = decimal_begins core sign zeros whole fraction [] (plain_parts core sign zeros whole fraction p)
extended_starts core n (inr hexadecimal) = hexadecimal_begins core n hexadecimal

pub opens_extended : (b : ℕ) → OpensNumber b → is_extended_start b ≡ true
opens_extended b (inl plus) = ap is_extended_start plus
opens_extended b (inr (inl minus)) = ap is_extended_start minus
opens_extended b (inr (inr (inl point))) = ap is_extended_start point
opens_extended b (inr (inr (inr digit))) = rw (is_digit b digit) refl
