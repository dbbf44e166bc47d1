-- What the code reads of a number at its exact value is what the specification finds.
use Rattle.std.proofs.Common.{◌≡◌, ◌≢◌, ◌⊎◌, ℕ, ◌+◌, ◌-◌, ◌^◌, ◌<◌, ◌≤◌, true, false, Some, None, Option, List, [], ◌++◌, length, drop, suc, refl, sym, subst, ap, ◌∙◌, inl, inr, ⊎_elim, arith, Ok, Err}
use Rattle.std.specs.Prelude.{slice_index, slice_range, ◌==◌, nat_lt}
use Rattle.std.specs.Char.{is_ascii_digit}
use Rattle.std.specs.Int.{from_bool}
use Rattle.std.specs.Str.Parse.{digits_value, digits_value_after, starts_with_minus}
use Rattle.std.proofs.lemmas.Bool.{cases_eq, cond-false, and_right, false≢true}
use Rattle.std.proofs.lemmas.List.{append-nil, length-drop}
use Rattle.jsonb_spec.specs.Code.{invalid_number_value}
use Rattle.jsonb_spec.specs.Grammar.ExactNumber.{moved_number}
use Rattle.jsonb_spec.specs.Tree.{Num}
use Rattle.text_scan.specs.ExactRead.{IsDecimalRead}
use Rattle.text_scan.specs.ScannedNumber.{AreEnds}
use Rattle.text_scan.specs.declared.parser.exact.DecimalRead.{DecimalRead}
use Rattle.text_scan.specs.declared.parser.extended_number.decimal.DecimalEnds.{DecimalEnds}
use Rattle.jsonb_spec.specs.Parsing.Number.{End, then_from, digits_length, digits_from, sign_end, exponent_from, fraction_from, whole_from, whole_start, standard_end}
use Rattle.jsonb_spec.specs.Parsing.ExtendedNumber.{Scanned, core_start, front_end, point_end, behind_end, scale_at, precision_at, lacks_digits, has_second_point, decimal_end, all_digits}
use Rattle.jsonb_spec.specs.Parsing.ExactNumber.{right_at, left_at, few_digits, exact_at, exact_to, extended_json_scan}
use Rattle.text_scan.proofs.Numbers.DecimalScan.{core_digits, point_here, point_ordered, digits_tested, decimal_scanned}
use Rattle.text_scan.proofs.Numbers.DigitValues.{value_after-append, value_after-take_le}
use Rattle.text_scan.proofs.Numbers.Ends.{scanned, whole_cases, whole_start_within}
use Rattle.text_scan.proofs.Numbers.ExactNumbers.{core_is, run_end, standard_scan}
use Rattle.text_scan.proofs.Numbers.Extended.{decimal_by_kind}
use Rattle.text_scan.proofs.Numbers.Moving.{moved_large}
use Rattle.text_scan.proofs.Numbers.Scan.{IsExponentEnd, digits_run, exponent_is}
use Rattle.text_scan.proofs.Numbers.ScanText.{range_none}
use Rattle.text_scan.proofs.Numbers.Short.{NoMark, no_word, no_hexadecimal, FrontRead, BehindRead, found_end, no_point_ends, point_ends}
use Rattle.text_scan.proofs.Numbers.Steps.{missing_at, needless_at, found_at, whole_end, no_fraction, fraction_some, no_exponent, exponent_some, digits_more, digits_stop, digits_within, digit_is, is_digit, differs, ok_same, ok_no_err}

-- ---- a decimal of few digits

pub read_plain : (bytes : List ℕ) (start len value next : ℕ) → FrontRead bytes start len value → (len ≡ 0 → ⊥) → next ≡ slice_index bytes (start + len) → (next ≡ 46 → ⊥) → (next ≡ 120 → ⊥) → (next ≡ 88 → ⊥) → IsDecimalRead bytes (record { value = value; behind = 0; end = start + len })
read_plain bytes start len value next f some byte no_point no_small no_great =
    let end = found_end bytes start len value f in
    let here : next ≡ slice_index bytes (front_end bytes) = byte ∙ ap (slice_index bytes) end in
    let ends = no_point_ends bytes (λ point. no_point (here ∙ point)) in
    let nothing : slice_range bytes (point_end bytes) (behind_end bytes) ≡ [] = range_none bytes (point_end bytes) (behind_end bytes) (omega (arith, ends)) in
    record {
      some = omega (arith, end, f.start_is, some);
      value = f.value_is ∙ (ap (digits_value 10) (sym (append-nil (slice_range bytes (core_start bytes) (front_end bytes)))) ∙ ap (λ r. digits_value 10 (slice_range bytes (core_start bytes) (front_end bytes) ++ r)) (sym nothing));
      behind = omega (arith, ends);
      ends = end ∙ sym ends.1;
      within = omega (arith, end, (core_digits bytes).within);
      behind_within = omega arith;
      fraction = λ point. absurd (no_point (here ∙ point));
      no_point = λ point. no_point (here ∙ (ap (slice_index bytes) (sym ends.1) ∙ point));
      no_lower_x = λ x. no_small (here ∙ x);
      no_upper_x = λ x. no_great (here ∙ x);
    }

pub read_pointed : (bytes : List ℕ) (start len value total all next : ℕ) → BehindRead bytes start len value total all → (len ≡ 0 → ⊥) → (total - len ≡ 0 → ⊥) → next ≡ slice_index bytes (start + len + 1 + (total - len)) → (next ≡ 46 → ⊥) → IsDecimalRead bytes (record { value = all; behind = total - len; end = start + len + 1 + (total - len) })
read_pointed bytes start len value total all next b some more byte no_point =
    let end = found_end bytes start len value b.front in
    let point : slice_index bytes (front_end bytes) ≡ 46 = ap (slice_index bytes) (sym end) ∙ b.point in
    let scale : total - len ≡ scale_at bytes = omega (arith, b.total_is) in
    let last : start + len + 1 + (total - len) ≡ behind_end bytes = omega (arith, b.end_at, scale) in
    record {
      some = omega (arith, end, b.front.start_is, some);
      value = b.all_is;
      behind = scale;
      ends = last;
      within = omega (arith, last, (point_ordered bytes (front_end bytes) (point_end bytes) (behind_end bytes) (core_digits bytes).within (point_here bytes)).2);
      behind_within = omega arith;
      fraction = λ _. omega (arith, scale, more);
      no_point = λ again. no_point (byte ∙ (ap (slice_index bytes) last ∙ again));
      no_lower_x = λ x. omega (arith, point, x);
      no_upper_x = λ x. omega (arith, point, x);
    }

-- ---- an exponent

pub no_exponent_read : (bytes : List ℕ) (start mark : ℕ) → mark ≡ slice_index bytes start → (mark ≡ 101 → ⊥) → (mark ≡ 69 → ⊥) → exponent_from bytes start ≡ Ok start
no_exponent_read bytes start mark byte small great = no_exponent bytes start (⊎_elim (λ e. small (byte ∙ e)) (λ e. great (byte ∙ e)))

pub exponent_read : (bytes ds : List ℕ) (start mark digits len : ℕ) → mark ≡ slice_index bytes start → (mark ≡ 101) ⊎ (mark ≡ 69) → digits ≡ sign_end bytes (start + 1) → ds ≡ drop digits bytes → len ≡ 0 + digits_length ds → (len ≡ 0 → ⊥) → exponent_from bytes start ≡ Ok (digits + len)
exponent_read bytes ds start mark digits len byte is at same counted some =
    let there : digits_length ds ≡ digits_length (drop digits bytes) = ap digits_length same in
    exponent_some bytes start digits (digits + len) (⊎_elim (λ e. inl (sym byte ∙ e)) (λ e. inr (sym byte ∙ e)) is) at (omega (arith, counted, there)) (λ none. some (omega (arith, none)))

pub exponent_within : (bytes ds : List ℕ) (digits len : ℕ) → digits ≤ length bytes → ds ≡ drop digits bytes → len ≡ 0 + digits_length ds → digits + len ≤ length bytes
exponent_within bytes ds digits len within same counted = omega (arith, counted, digits_within ds, ap length same, length-drop digits bytes, within)

-- an exponent that is there goes on past its mark and sign
pub exponent_later : (bytes : List ℕ) (start end : ℕ) → start ≤ length bytes → exponent_from bytes start ≡ Ok end → (start ≡ end → ⊥) → sign_end bytes (start + 1) < end
exponent_later bytes start end within at other = ⊎_elim (λ none. absurd (other (sym none.0))) (λ some. some.1) (exponent_is bytes start end within at)

pub exponent_ends : (bytes : List ℕ) (start end : ℕ) → IsExponentEnd bytes start end → exponent_from bytes start ≡ Ok end
exponent_ends bytes start end (inl (same, no_mark)) = no_exponent bytes start no_mark ∙ ap Ok (sym same)
exponent_ends bytes start end (inr (mark, more, run)) =
    let within : sign_end bytes (start + 1) ≤ length bytes = omega (arith, run.ordered, run.within) in
    let last : end ≡ digits_from bytes (sign_end bytes (start + 1)) = run_end bytes (sign_end bytes (start + 1)) end (digits_from bytes (sign_end bytes (start + 1))) run (digits_run bytes (sign_end bytes (start + 1)) (digits_from bytes (sign_end bytes (start + 1))) within refl) in
    exponent_some bytes start (sign_end bytes (start + 1)) end mark refl last (λ none. omega (arith, none, more))

-- ---- the number that is read at once

pub exact_read : (bytes : List ℕ) (d : DecimalRead) (end minus : ℕ) (n : Num) → IsDecimalRead bytes d → minus ≡ slice_index bytes 0 → Some n ≡ few_digits (moved_number (minus == 45) d.value d.behind (right_at bytes d.end end) (left_at bytes d.end end)) → exact_at bytes end ≡ Some n
unfolding exact_at
exact_read bytes d end minus n read sign number =
    sym (number ∙ ap (λ e. few_digits (moved_number (minus == 45) d.value d.behind (right_at bytes e end) (left_at bytes e end))) read.ends
    ∙ ap (λ b. few_digits (moved_number (b == 45) d.value d.behind (right_at bytes (behind_end bytes) end) (left_at bytes (behind_end bytes) end))) sign
    ∙ ap (λ s. few_digits (moved_number (starts_with_minus bytes) d.value s (right_at bytes (behind_end bytes) end) (left_at bytes (behind_end bytes) end))) read.behind
    ∙ ap (λ v. few_digits (moved_number (starts_with_minus bytes) v (scale_at bytes) (right_at bytes (behind_end bytes) end) (left_at bytes (behind_end bytes) end))) read.value)

read_end : (bytes : List ℕ) (d : DecimalRead) (end : ℕ) → IsDecimalRead bytes d → exponent_from bytes d.end ≡ Ok end → decimal_end bytes ≡ Ok end
unfolding decimal_end
read_end bytes d end read exponent =
    let once : has_second_point bytes ≡ false = and_right (nat_lt (front_end bytes) (point_end bytes)) _ (and_right (nat_lt (precision_at bytes) 76) _ (differs (slice_index bytes (behind_end bytes)) 46 read.no_point)) in
    cond-false (lacks_digits bytes) _ _ (digits_tested bytes (inl read.some)) ∙ (cond-false (has_second_point bytes) _ _ once ∙ (ap (exponent_from bytes) (sym read.ends) ∙ exponent))

pub extended_read : (bytes : List ℕ) (d : DecimalRead) (end minus : ℕ) (n : Num) → IsDecimalRead bytes d → exponent_from bytes d.end ≡ Ok end → minus ≡ slice_index bytes 0 → Some n ≡ few_digits (moved_number (minus == 45) d.value d.behind (right_at bytes d.end end) (left_at bytes d.end end)) → extended_json_scan bytes ≡ Ok (Some n, end)
unfolding extended_json_scan
extended_read bytes d end minus n read exponent sign number =
    let mark : NoMark bytes = record { small = read.no_lower_x; great = read.no_upper_x; some = inl read.some } in
    decimal_by_kind bytes (exact_to bytes (decimal_end bytes)) (no_word bytes mark) (no_hexadecimal bytes mark) ∙ (ap (exact_to bytes) (read_end bytes d end read exponent) ∙ ap (λ o. Ok (o, end)) (exact_read bytes d end minus n read sign number))

-- ---- a number of RFC 8259

whole_is : (bs : List ℕ) (start end : ℕ) → whole_from bs start ≡ Ok end → (0 < digits_length (drop start bs)) × (end ≡ digits_from bs start)
whole_is bs start end at =
    ⊎_elim (λ none. absurd (ok_no_err at (missing_at bs start none)))
    (⊎_elim (λ needless. absurd (ok_no_err at (needless_at bs start needless.0 needless.1))) (λ found. (found.0, ok_same at (found_at bs start found))))
    (whole_cases bs start)

fraction_read : (bytes : List ℕ) (d : DecimalRead) → IsDecimalRead bytes d → fraction_from bytes (front_end bytes) ≡ Ok (behind_end bytes)
fraction_read bytes d read =
    ⊎_elim
    (λ point. let ends = point_ends bytes point in fraction_some bytes (front_end bytes) (behind_end bytes) point ends.1 (λ none. omega (arith, none, ends.0, read.fraction point)))
    (λ other. no_fraction bytes (front_end bytes) other ∙ ap Ok (sym (no_point_ends bytes other).1)) (cases_eq (slice_index bytes (front_end bytes)) 46)

standard_from : (bytes : List ℕ) (r : End) → whole_from bytes (whole_start bytes) ≡ r → standard_end bytes ≡ then_from (then_from r (fraction_from bytes)) (exponent_from bytes)
unfolding standard_end
standard_from bytes r whole = ap (λ r. then_from (then_from r (fraction_from bytes)) (exponent_from bytes)) whole

pub json_read : (bytes : List ℕ) (d : DecimalRead) (end minus whole : ℕ) (n : Num) → IsDecimalRead bytes d → exponent_from bytes d.end ≡ Ok end → minus ≡ slice_index bytes 0 → Some n ≡ few_digits (moved_number (minus == 45) d.value d.behind (right_at bytes d.end end) (left_at bytes d.end end)) → whole_from bytes (whole_start bytes) ≡ Ok whole → exact_to bytes (standard_end bytes) ≡ Ok (Some n, end)
json_read bytes d end minus whole n read exponent sign number found =
    let is = whole_is bytes (whole_start bytes) whole found in
    let core = core_is bytes (whole_end bytes) (digits_run bytes (whole_start bytes) (whole_end bytes) (whole_start_within bytes) refl) (omega (arith, is.0)) in
    let front : whole ≡ front_end bytes = is.1 ∙ ap (digits_from bytes) core in
    let ends : standard_end bytes ≡ Ok end =
    standard_from bytes (Ok whole) found ∙ (ap (λ i. then_from (fraction_from bytes i) (exponent_from bytes)) front ∙ (ap (λ r. then_from r (exponent_from bytes)) (fraction_read bytes d read) ∙ (ap (exponent_from bytes) (sym read.ends) ∙ exponent))) in
    ap (exact_to bytes) ends ∙ ap (λ o. Ok (o, end)) (exact_read bytes d end minus n read sign number)

-- its whole part, by its first bytes
pub starts_whole : (bytes : List ℕ) (minus start : ℕ) → minus ≡ slice_index bytes 0 → start ≡ from_bool (minus == 45) → start ≡ whole_start bytes
starts_whole bytes minus start byte at = at ∙ ap (λ b. from_bool (b == 45)) byte

pub first_missing : (bytes : List ℕ) (start first : ℕ) → start ≡ whole_start bytes → first ≡ slice_index bytes start → is_ascii_digit first ≡ false → whole_from bytes (whole_start bytes) ≡ Err start
first_missing bytes start first at byte other =
    let none : digits_length (drop start bytes) ≡ 0 = digits_stop bytes start (λ digit. false≢true (sym other ∙ (ap is_ascii_digit byte ∙ is_digit (slice_index bytes start) digit))) in
    ap (whole_from bytes) (sym at) ∙ missing_at bytes start none

pub first_needless : (bytes : List ℕ) (start first second : ℕ) → start ≡ whole_start bytes → first ≡ slice_index bytes start → first ≡ 48 → second ≡ slice_index bytes (start + 1) → is_ascii_digit second ≡ true → whole_from bytes (whole_start bytes) ≡ Err (start + 2)
first_needless bytes start first second at byte zero_byte next digit =
    let here : slice_index bytes start ≡ 48 = sym byte ∙ zero_byte in
    let range = digit_is (slice_index bytes (start + 1)) (ap is_ascii_digit (sym next) ∙ digit) in
    let later : slice_index bytes (suc start) ≡ slice_index bytes (start + 1) = ap (slice_index bytes) (omega arith) in
    let one = digits_more bytes start (omega (arith, here), omega (arith, here)) in
    let two = digits_more bytes (suc start) (omega (arith, later, range.0), omega (arith, later, range.1)) in
    ap (whole_from bytes) (sym at) ∙ needless_at bytes start (omega (arith, one, two)) here

pub first_found : (bytes : List ℕ) (start first : ℕ) → start ≡ whole_start bytes → first ≡ slice_index bytes start → is_ascii_digit first ≡ true → (first ≢ 48) ⊎ (is_ascii_digit (slice_index bytes (start + 1)) ≡ false) → whole_from bytes (whole_start bytes) ≡ Ok (digits_from bytes (whole_start bytes))
first_found bytes start first at byte digit needed =
    let one = digits_more bytes start (digit_is (slice_index bytes start) (ap is_ascii_digit (sym byte) ∙ digit)) in
    subst (λ i. whole_from bytes i ≡ Ok (digits_from bytes i)) at
    (found_at bytes start (
      omega (arith, one),
      ⊎_elim (λ other. inl (λ zero_byte. other (byte ∙ zero_byte)))
          (λ stops. inr (let later : slice_index bytes (suc start) ≡ slice_index bytes (start + 1) = ap (slice_index bytes) (omega arith) in
          let none = digits_stop bytes (suc start) (λ range. false≢true (sym stops ∙ (ap is_ascii_digit (sym later) ∙ is_digit (slice_index bytes (suc start)) range))) in omega (arith, one, none))) needed,
    ))

pub whole_fault : (bytes : List ℕ) (offset : ℕ) (s : Scanned) → whole_from bytes (whole_start bytes) ≡ Err offset → s ≡ Err (invalid_number_value, offset) → s ≡ exact_to bytes (standard_end bytes)
whole_fault bytes offset s found is = is ∙ ap (exact_to bytes) (sym (standard_from bytes (Err offset) found))

pub standard_is : (bytes : List ℕ) (minus start whole : ℕ) (r : End) → minus ≡ slice_index bytes 0 → start ≡ from_bool (minus == 45) → whole ≡ digits_from bytes start → whole_from bytes (whole_start bytes) ≡ Ok (digits_from bytes (whole_start bytes)) → r ≡ then_from (fraction_from bytes whole) (exponent_from bytes) → standard_end bytes ≡ r
standard_is bytes minus start whole r byte at ends found last =
    let same : whole ≡ digits_from bytes (whole_start bytes) = ends ∙ ap (digits_from bytes) (starts_whole bytes minus start byte at) in
    standard_from bytes (Ok (digits_from bytes (whole_start bytes))) found ∙ (ap (λ i. then_from (fraction_from bytes i) (exponent_from bytes)) (sym same) ∙ sym last)

pub json_exponent : (bytes : List ℕ) (end behind : ℕ) → standard_end bytes ≡ Ok end → behind ≡ behind_end bytes → exponent_from bytes behind ≡ Ok end
json_exponent bytes end behind at same =
    let s = scanned bytes end at in
    ap (exponent_from bytes) same ∙ exponent_ends bytes (behind_end bytes) end (standard_scan bytes s.fraction end s.scan).exponent

pub extended_exponent : (bytes : List ℕ) (end behind : ℕ) → decimal_end bytes ≡ Ok end → behind ≡ behind_end bytes → exponent_from bytes behind ≡ Ok end
extended_exponent bytes end behind at same = ap (exponent_from bytes) same ∙ exponent_ends bytes (behind_end bytes) end (decimal_scanned bytes end at).exponent

-- ---- a number of any length

all_same : (bytes : List ℕ) (e : DecimalEnds) → AreEnds bytes e → slice_range bytes e.start e.front_end ++ slice_range bytes e.point_end e.behind_end ≡ all_digits bytes
all_same bytes e are = (λ i. slice_range bytes (are.start i) (are.front i) ++ slice_range bytes (are.point i) (are.behind i))

value_same : (bytes : List ℕ) (e : DecimalEnds) (w : ℕ) → AreEnds bytes e → w ≡ digits_value_after 10 0 (slice_range bytes e.start e.front_end) → digits_value_after 10 w (slice_range bytes e.point_end e.behind_end) ≡ digits_value 10 (all_digits bytes)
value_same bytes e w are front =
    ap (λ v. digits_value_after 10 v (slice_range bytes e.point_end e.behind_end)) front ∙ (sym (value_after-append 10 0 (slice_range bytes e.start e.front_end) (slice_range bytes e.point_end e.behind_end)) ∙ ap (digits_value 10) (all_same bytes e are))

pub value_is : (bytes : List ℕ) (e : DecimalEnds) (end minus w m : ℕ) (o : Option Num) → AreEnds bytes e → w ≡ digits_value_after 10 0 (slice_range bytes e.start e.front_end) → m ≡ digits_value_after 10 w (slice_range bytes e.point_end e.behind_end) → minus ≡ slice_index bytes 0
    → o ≡ few_digits (moved_number (minus == 45) m (e.behind_end - e.point_end) (right_at bytes e.behind_end end) (left_at bytes e.behind_end end)) → o ≡ exact_at bytes end
unfolding exact_at
value_is bytes e end minus w m o are front back sign number =
    let scale : e.behind_end - e.point_end ≡ scale_at bytes = omega (arith, are.point, are.behind) in
    number ∙ ap (λ b. few_digits (moved_number (minus == 45) m (e.behind_end - e.point_end) (right_at bytes b end) (left_at bytes b end))) are.behind
    ∙ ap (λ s. few_digits (moved_number (minus == 45) m s (right_at bytes (behind_end bytes) end) (left_at bytes (behind_end bytes) end))) scale
    ∙ ap (λ b. few_digits (moved_number (b == 45) m (scale_at bytes) (right_at bytes (behind_end bytes) end) (left_at bytes (behind_end bytes) end))) sign
    ∙ ap (λ v. few_digits (moved_number (starts_with_minus bytes) v (scale_at bytes) (right_at bytes (behind_end bytes) end) (left_at bytes (behind_end bytes) end))) (back ∙ value_same bytes e w are front)

past_range : (bytes : List ℕ) (end : ℕ) (o : Option Num) → 10 ^ 38 ≤ digits_value 10 (all_digits bytes) → o ≡ None → o ≡ exact_at bytes end
unfolding exact_at
past_range bytes end o large none = moved_large o (starts_with_minus bytes) (digits_value 10 (all_digits bytes)) (scale_at bytes) (right_at bytes (behind_end bytes) end) (left_at bytes (behind_end bytes) end) large none

pub front_past : (bytes : List ℕ) (e : DecimalEnds) (end : ℕ) (o : Option Num) → AreEnds bytes e → (digits_value_after 10 0 (slice_range bytes e.start e.front_end) < 2 ^ 128 → ⊥) → o ≡ None → o ≡ exact_at bytes end
front_past bytes e end o are past none =
    let more = value_after-take_le 10 (digits_value_after 10 0 (slice_range bytes e.start e.front_end)) (omega arith) (slice_range bytes e.point_end e.behind_end) 0 in
    let same = value_same bytes e (digits_value_after 10 0 (slice_range bytes e.start e.front_end)) are refl in
    past_range bytes end o (omega (arith, past, more, same)) none

pub all_past : (bytes : List ℕ) (e : DecimalEnds) (end w : ℕ) (o : Option Num) → AreEnds bytes e → w ≡ digits_value_after 10 0 (slice_range bytes e.start e.front_end) → (digits_value_after 10 w (slice_range bytes e.point_end e.behind_end) < 2 ^ 128 → ⊥) → o ≡ None → o ≡ exact_at bytes end
all_past bytes e end w o are front past none = past_range bytes end o (omega (arith, past, value_same bytes e w are front)) none
