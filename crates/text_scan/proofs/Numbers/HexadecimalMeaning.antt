-- Parsing a hexadecimal gives what the grammar says.
use Rattle.std.proofs.Common.{◌≡◌, ◌≢◌, ◌⊎◌, ℕ, ◌+◌, ◌<◌, ◌≤◌, ◌^◌, Bool, Option, Some, None, List, ◌∷◌, ◌++◌, length, take, drop, refl, sym, subst, ap, ◌∙◌, inl, inr, ⊎_elim, arith, Ok, add-zero}
use Rattle.std.specs.Prelude.{slice_index}
use Rattle.std.specs.Char.{digit_value, to_ascii_lowercase}
use Rattle.std.specs.Str.Parse.{AllDigits, digits_value, starts_with_minus}
use Rattle.std.proofs.lemmas.Bool.{cases_eq, cases_lt}
use Rattle.std.proofs.lemmas.List.{append_assoc, take-append-drop, length-append, length-take-le, drop_more, get_or-drop, take-append-le, take_all, get_or_past}
use Rattle.jsonb_spec.specs.Grammar.StandardNumber.{IsSign}
use Rattle.jsonb_spec.specs.Grammar.ExtendedNumber.{hexadecimal_number, HasHexadecimalParts, IsExtendedText}
use Rattle.jsonb_spec.specs.Tree.{Num}
use Rattle.jsonb_spec.specs.Parsing.ExtendedNumber.{invalid, core_byte, hexadecimal_length, hexadecimal_fits, fraction_scan, hexadecimal_scan, ContinuesNumberExtended}
use Rattle.text_scan.proofs.Numbers.HexadecimalAnswers.{without_number, taken_digits, fraction_without_digits, fraction_after_past, fraction_not_representable, fraction_past, hexadecimal_without_digits, hexadecimal_with_point, hexadecimal_past, hexadecimal_whole_at}
use Rattle.text_scan.proofs.Numbers.HexadecimalTexts.{IsHexadecimalScan, AreGood, scan_length, hexadecimal_ends}
use Rattle.text_scan.proofs.Numbers.ExtendedTexts.{IsWordStart, IsLongestExtended, NoExtendedEnds, ScansOther, core_of, letter_is, word_found, found_letter, decimals_before_mark}
use Rattle.text_scan.proofs.Numbers.Steps.{is_below, is_not_below}
use Rattle.jsonb_core.proofs.Numbers.Fractions.{fraction_text}

-- ---- what can end where a hexadecimal begins

scan_core : (bytes sign : List ℕ) (mark : ℕ) (whole : List ℕ) (fraction : Option (List ℕ)) (after : List ℕ) → IsHexadecimalScan bytes sign mark whole fraction after → ¬ IsWordStart (core_byte bytes)
scan_core bytes sign mark whole fraction after scan word =
    let core = core_of bytes sign 48 (mark ∷ (whole ++ (fraction_text fraction ++ after))) scan.joined scan.is_sign (omega arith) (omega arith) in
    omega (arith, core.byte, letter_is (core_byte bytes) word)

text_in_scan : (bytes sign : List ℕ) (mark : ℕ) (whole : List ℕ) (fraction : Option (List ℕ)) (after : List ℕ) → IsHexadecimalScan bytes sign mark whole fraction after →
    (k : ℕ) → k ≤ length bytes → IsExtendedText (take k bytes) → ((k ≡ scan_length sign whole fraction) × AreGood whole fraction) ⊎ ((k < scan_length sign whole fraction) × ContinuesNumberExtended (slice_index bytes k))
text_in_scan bytes sign mark whole fraction after scan k within (inl decimal) =
    let before = decimals_before_mark bytes sign mark (whole ++ (fraction_text fraction ++ after)) scan.joined scan.is_sign scan.is_mark k within decimal in
    inr (omega (arith, before.0), before.1)
text_in_scan bytes sign mark whole fraction after scan k within (inr (inl hexadecimal)) = hexadecimal_ends bytes sign mark whole fraction after scan k within hexadecimal
text_in_scan bytes sign mark whole fraction after scan k within (inr (inr word)) = absurd (scan_core bytes sign mark whole fraction after scan (found_letter bytes k (word_found bytes k word)))

none_in_scan : (bytes sign : List ℕ) (mark : ℕ) (whole : List ℕ) (fraction : Option (List ℕ)) (after : List ℕ) → IsHexadecimalScan bytes sign mark whole fraction after → ¬ AreGood whole fraction → NoExtendedEnds bytes
none_in_scan bytes sign mark whole fraction after scan bad k within text =
    ⊎_elim (λ at. absurd (bad at.1)) (λ before. before.1) (text_in_scan bytes sign mark whole fraction after scan k within text)

longest_in_scan : (bytes sign : List ℕ) (mark : ℕ) (whole : List ℕ) (fraction : Option (List ℕ)) (after : List ℕ) → IsHexadecimalScan bytes sign mark whole fraction after → IsLongestExtended bytes (scan_length sign whole fraction)
longest_in_scan bytes sign mark whole fraction after scan k within text =
    ⊎_elim (λ at. inl at.0) inr (text_in_scan bytes sign mark whole fraction after scan k within text)

front_length : (sign : List ℕ) (mark : ℕ) (whole : List ℕ) (fraction : Option (List ℕ)) → length (sign ++ (48 ∷ mark ∷ (whole ++ fraction_text fraction))) ≡ scan_length sign whole fraction
front_length sign mark whole fraction = omega (arith, length-append sign (48 ∷ mark ∷ (whole ++ fraction_text fraction)), length-append whole (fraction_text fraction))

scanned_parts : (bytes sign : List ℕ) (mark : ℕ) (whole : List ℕ) (fraction : Option (List ℕ)) (after : List ℕ) → IsHexadecimalScan bytes sign mark whole fraction after → AreGood whole fraction →
    (scan_length sign whole fraction ≤ length bytes) × HasHexadecimalParts (take (scan_length sign whole fraction) bytes) sign mark whole fraction
scanned_parts bytes sign mark whole fraction after scan good =
    let front : List ℕ = sign ++ (48 ∷ mark ∷ (whole ++ fraction_text fraction)) in
    let all : bytes ≡ (sign ++ (48 ∷ mark ∷ (whole ++ fraction_text fraction))) ++ after =
    scan.joined ∙ (ap (λ z. sign ++ (48 ∷ mark ∷ z)) (sym (append_assoc whole (fraction_text fraction) after)) ∙ sym (append_assoc sign (48 ∷ mark ∷ (whole ++ fraction_text fraction)) after)) in
    let long = front_length sign mark whole fraction in (
      omega (arith, ap length all, length-append (sign ++ (48 ∷ mark ∷ (whole ++ fraction_text fraction))) after, long),
      record {
        joined = ap (take (scan_length sign whole fraction)) all ∙ (take-append-le (scan_length sign whole fraction) (sign ++ (48 ∷ mark ∷ (whole ++ fraction_text fraction))) after (omega (arith, long))
            ∙ take_all (scan_length sign whole fraction) (sign ++ (48 ∷ mark ∷ (whole ++ fraction_text fraction))) (omega (arith, long)));
        is_sign = scan.is_sign;
        is_mark = scan.is_mark;
        are_digits = good.are_digits;
        digits_behind = good.digits_behind;
        whole_fits = good.whole_fits;
        fraction_fits = good.fraction_fits;
      },
    )

-- ---- the scans

pub record IsHexadecimalFront (bytes sign : List ℕ) (mark : ℕ) (rest : List ℕ) : Type 0 where
  pub joined : bytes ≡ sign ++ (48 ∷ mark ∷ rest)
  pub is_sign : IsSign sign
  pub is_mark : to_ascii_lowercase mark ≡ 120

first_after : (xs : List ℕ) (n : ℕ) → slice_index (drop n xs) 0 ≡ slice_index xs n
first_after xs n = get_or-drop n xs 0 0 ∙ ap (slice_index xs) (add-zero n)

rest_stops : (xs : List ℕ) → 16 ≤ digit_value (slice_index (drop (hexadecimal_length xs) xs) 0)
rest_stops xs = omega (arith, (taken_digits xs).1, ap digit_value (first_after xs (hexadecimal_length xs)))

plain_scan : (bytes sign : List ℕ) (mark : ℕ) (rest : List ℕ) → IsHexadecimalFront bytes sign mark rest → slice_index rest (hexadecimal_length rest) ≢ 46 → IsHexadecimalScan bytes sign mark (take (hexadecimal_length rest) rest) None (drop (hexadecimal_length rest) rest)
plain_scan bytes sign mark rest front no_point = record {
  joined = front.joined ∙ ap (λ z. sign ++ (48 ∷ mark ∷ z)) (sym (take-append-drop (hexadecimal_length rest) rest));
  is_sign = front.is_sign;
  is_mark = front.is_mark;
  whole_digits = (taken_digits rest).0;
  digits_behind = tt;
  stops = rest_stops rest;
  no_point = λ _. λ e. no_point (sym (first_after rest (hexadecimal_length rest)) ∙ e);
}

point_inside : (xs : List ℕ) (n : ℕ) → slice_index xs n ≡ 46 → n < length xs
point_inside xs n point = ⊎_elim (λ inside. inside) (λ past. absurd (omega (arith, point, get_or_past xs n 0 (omega (arith, past))))) (cases_lt n (length xs))

point_scan : (bytes sign : List ℕ) (mark : ℕ) (rest : List ℕ) (n : ℕ) (behind : List ℕ) → n ≡ hexadecimal_length rest → behind ≡ drop (n + 1) rest → IsHexadecimalFront bytes sign mark rest → slice_index rest n ≡ 46 →
    IsHexadecimalScan bytes sign mark (take n rest) (Some (take (hexadecimal_length behind) behind)) (drop (hexadecimal_length behind) behind)
point_scan bytes sign mark rest n behind count same front point =
    let split : drop n rest ≡ 46 ∷ (take (hexadecimal_length behind) behind ++ drop (hexadecimal_length behind) behind) =
    drop_more rest n 0 (point_inside rest n point) ∙ (ap (λ b. b ∷ drop (n + 1) rest) point ∙ ap (λ z. 46 ∷ z) (sym same ∙ sym (take-append-drop (hexadecimal_length behind) behind))) in
    record {
      joined = front.joined ∙ ap (λ z. sign ++ (48 ∷ mark ∷ z)) (sym (take-append-drop n rest) ∙ ap (λ z. take n rest ++ z) split);
      is_sign = front.is_sign;
      is_mark = front.is_mark;
      whole_digits = subst (λ i. AllDigits 16 (take i rest)) (sym count) (taken_digits rest).0;
      digits_behind = (taken_digits behind).0;
      stops = rest_stops behind;
      no_point = λ e. absurd (cc);
    }

-- ---- the answers

no_digits : (xs : List ℕ) (n : ℕ) → n ≡ hexadecimal_length xs → n ≡ 0 → 0 < length (take n xs) → ⊥
no_digits xs n count none some = omega (arith, none, some, length-take-le n xs (omega (arith, none)))

some_digits : (xs : List ℕ) (n : ℕ) → n ≡ hexadecimal_length xs → n ≢ 0 → (0 < length (take n xs)) × AllDigits 16 (take n xs)
some_digits xs n count some = (omega (arith, some, length-take-le n xs (omega (arith, count, (taken_digits xs).2))), subst (λ i. AllDigits 16 (take i xs)) (sym count) (taken_digits xs).0)

invalid_in : (bytes : List ℕ) (offset : ℕ) → NoExtendedEnds bytes → ScansOther bytes (invalid offset)
invalid_in bytes offset none = (inl refl, none)

reads_fraction : (bytes sign : List ℕ) (mark : ℕ) (rest : List ℕ) (offset n m : ℕ) (fits : Bool) (behind : List ℕ) → IsHexadecimalFront bytes sign mark rest → offset ≡ length sign + 2 →
    n ≡ hexadecimal_length rest → n ≢ 0 → slice_index rest n ≡ 46 → behind ≡ drop (n + 1) rest → m ≡ hexadecimal_length behind → fits ≡ hexadecimal_fits (take n rest) → ScansOther bytes (fraction_scan (offset + n + 1) fits behind)
reads_fraction bytes sign mark rest offset n m fits behind front start count some point same more fits_is =
    let scan = subst (λ i. IsHexadecimalScan bytes sign mark (take n rest) (Some (take i behind)) (drop i behind)) (sym more) (point_scan bytes sign mark rest n behind count same front point) in
    let none : ¬ AreGood (take n rest) (Some (take m behind)) → (p : ℕ) → ScansOther bytes (invalid p) = λ bad p. invalid_in bytes p (none_in_scan bytes sign mark (take n rest) (Some (take m behind)) (drop m behind) scan bad) in
    ⊎_elim
    (λ empty. subst (ScansOther bytes) (fraction_without_digits (offset + n + 1) m fits behind more empty) (none (λ good. no_digits behind m more empty good.digits_behind.0) (offset + n + 1)))
    (λ digits. ⊎_elim
    (λ small. ⊎_elim
    (λ small_too.
    let good : AreGood (take n rest) (Some (take m behind)) = record { are_digits = some_digits rest n count some; digits_behind = some_digits behind m more digits; whole_fits = small; fraction_fits = small_too } in
    let parts = scanned_parts bytes sign mark (take n rest) (Some (take m behind)) (drop m behind) scan good in
    let long_whole = length-take-le n rest (omega (arith, count, (taken_digits rest).2)) in
    let long_behind = length-take-le m behind (omega (arith, more, (taken_digits behind).2)) in
    let there : scan_length sign (take n rest) (Some (take m behind)) ≡ offset + n + 1 + m = omega (arith, start, long_whole, long_behind) in
    let found : ScansOther bytes (without_number (offset + n + 1 + m)) = subst (λ e. ScansOther bytes (without_number e)) there (record {
      within = parts.0;
      text = inl (sign, mark, take n rest, Some (take m behind), parts.1, inl (λ e. absurd (cc)));
      longest = longest_in_scan bytes sign mark (take n rest) (Some (take m behind)) (drop m behind) scan;
    }) in
    subst (ScansOther bytes) (fraction_not_representable (offset + n + 1) m fits behind more digits (fits_is ∙ is_below (digits_value 16 (take n rest)) (2 ^ 128) small) small_too) found)
    (λ large. subst (ScansOther bytes) (fraction_past (offset + n + 1) m fits behind more digits (fits_is ∙ is_below (digits_value 16 (take n rest)) (2 ^ 128) small) (λ less. omega (arith, less, large))) (none (λ good. omega (arith, good.fraction_fits, large)) (offset + n + 1 + m)))
    (cases_lt (digits_value 16 (take m behind)) (2 ^ 128)))
    (λ large. subst (ScansOther bytes) (fraction_after_past (offset + n + 1) m fits behind more digits (fits_is ∙ is_not_below (digits_value 16 (take n rest)) (2 ^ 128) (omega (arith, large)))) (none (λ good. omega (arith, good.whole_fits, large)) (offset + n + 1 + m)))
    (cases_lt (digits_value 16 (take n rest)) (2 ^ 128))) (cases_eq m 0)

reads_whole : (bytes sign : List ℕ) (mark : ℕ) (rest : List ℕ) (offset n : ℕ) (r : Option Num) → IsHexadecimalFront bytes sign mark rest → offset ≡ length sign + 2 →
    n ≡ hexadecimal_length rest → n ≢ 0 → IsHexadecimalScan bytes sign mark (take n rest) None (drop n rest) → digits_value 16 (take n rest) < 2 ^ 128 → hexadecimal_number (starts_with_minus sign) (digits_value 16 (take n rest)) ≡ r → ScansOther bytes (Ok (r, offset + n))
reads_whole bytes sign mark rest offset n r front start count some scan small number = by_number r number
  where
    good : AreGood (take n rest) None
    good = record { are_digits = some_digits rest n count some; digits_behind = tt; whole_fits = small; fraction_fits = omega arith }

    parts : (scan_length sign (take n rest) None ≤ length bytes) × HasHexadecimalParts (take (scan_length sign (take n rest) None) bytes) sign mark (take n rest) None
    parts = scanned_parts bytes sign mark (take n rest) None (drop n rest) scan good

    there : scan_length sign (take n rest) None ≡ offset + n
    there = omega (arith, start, length-take-le n rest (omega (arith, count, (taken_digits rest).2)))

    by_number : (o : Option Num) → hexadecimal_number (starts_with_minus sign) (digits_value 16 (take n rest)) ≡ o → ScansOther bytes (Ok (o, offset + n))
    by_number None e = subst (λ k. ScansOther bytes (Ok (None, k))) there (record {
      within = parts.0;
      text = inl (sign, mark, take n rest, None, parts.1, inr e);
      longest = longest_in_scan bytes sign mark (take n rest) None (drop n rest) scan;
    })
    by_number (Some v) e = subst (λ k. ScansOther bytes (Ok (Some v, k))) there (record {
      within = parts.0;
      text = (sign, mark, take n rest, parts.1, e);
      longest = longest_in_scan bytes sign mark (take n rest) None (drop n rest) scan;
    })

pub reads_hexadecimal : (bytes sign : List ℕ) (mark : ℕ) (rest : List ℕ) (offset : ℕ) (negative : Bool) → IsHexadecimalFront bytes sign mark rest → offset ≡ length sign + 2 → negative ≡ starts_with_minus sign → ScansOther bytes (hexadecimal_scan offset negative rest)
reads_hexadecimal bytes sign mark rest offset negative front start minus =
    ⊎_elim
    (λ empty. subst (ScansOther bytes) (hexadecimal_without_digits offset (hexadecimal_length rest) negative rest refl empty)
    (invalid_in bytes offset (⊎_elim
    (λ point. none_in_scan bytes sign mark (take (hexadecimal_length rest) rest) (Some (take (hexadecimal_length (drop (hexadecimal_length rest + 1) rest)) (drop (hexadecimal_length rest + 1) rest))) (drop (hexadecimal_length (drop (hexadecimal_length rest + 1) rest)) (drop (hexadecimal_length rest + 1) rest)) (point_scan bytes sign mark rest (hexadecimal_length rest) (drop (hexadecimal_length rest + 1) rest) refl refl front point) (λ good. no_digits rest (hexadecimal_length rest) refl empty good.are_digits.0))
    (λ no_point. none_in_scan bytes sign mark (take (hexadecimal_length rest) rest) None (drop (hexadecimal_length rest) rest) (plain_scan bytes sign mark rest front no_point) (λ good. no_digits rest (hexadecimal_length rest) refl empty good.are_digits.0)) (cases_eq (slice_index rest (hexadecimal_length rest)) 46))))
    (λ some. ⊎_elim
    (λ point. subst (ScansOther bytes) (hexadecimal_with_point offset (hexadecimal_length rest) negative (hexadecimal_fits (take (hexadecimal_length rest) rest)) rest refl some point refl)
    (reads_fraction bytes sign mark rest offset (hexadecimal_length rest) (hexadecimal_length (drop (hexadecimal_length rest + 1) rest)) (hexadecimal_fits (take (hexadecimal_length rest) rest)) (drop (hexadecimal_length rest + 1) rest) front start refl some point refl refl refl))
    (λ no_point. ⊎_elim
    (λ small. subst (ScansOther bytes) (hexadecimal_whole_at offset (hexadecimal_length rest) (digits_value 16 (take (hexadecimal_length rest) rest)) negative (hexadecimal_number negative (digits_value 16 (take (hexadecimal_length rest) rest))) rest refl some no_point small refl refl)
    (reads_whole bytes sign mark rest offset (hexadecimal_length rest) (hexadecimal_number negative (digits_value 16 (take (hexadecimal_length rest) rest))) front start refl some (plain_scan bytes sign mark rest front no_point) small (ap (λ b. hexadecimal_number b (digits_value 16 (take (hexadecimal_length rest) rest))) (sym minus))))
    (λ large. subst (ScansOther bytes) (hexadecimal_past offset (hexadecimal_length rest) negative rest refl some no_point (λ less. omega (arith, less, large)))
    (invalid_in bytes (offset + hexadecimal_length rest) (none_in_scan bytes sign mark (take (hexadecimal_length rest) rest) None (drop (hexadecimal_length rest) rest) (plain_scan bytes sign mark rest front no_point) (λ good. omega (arith, good.whole_fits, large)))))
    (cases_lt (digits_value 16 (take (hexadecimal_length rest) rest)) (2 ^ 128))) (cases_eq (slice_index rest (hexadecimal_length rest)) 46)) (cases_eq (hexadecimal_length rest) 0)
