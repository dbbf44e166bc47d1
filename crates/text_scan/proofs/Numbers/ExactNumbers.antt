-- Parsing a number of JSON or of extended JSON gives what the grammar says, and the grammar's numbers are parsed so.
use Rattle.std.proofs.Common.{◌≡◌, ℕ, ◌+◌, ◌<◌, false, List, take, refl, sym, subst, ◌∙◌, inl, inr, ⊎_elim, arith, Option, Some, None, Ok, Err}
use Rattle.std.specs.Prelude.{slice_index, MatchOption, ◌==◌}
use Rattle.std.proofs.lemmas.Bool.{cases_eq, cases_lt}
use Rattle.jsonb_spec.specs.Grammar.ExactNumber.{IsExactDecimal, IsJsonNumber, IsExtendedJsonNumber}
use Rattle.jsonb_spec.specs.Grammar.ExtendedNumber.{IsExtendedText}
use Rattle.jsonb_spec.specs.Grammar.StandardNumber.{IsStandardText}
use Rattle.jsonb_spec.specs.Grammar.Scalar.{IsNumber}
use Rattle.jsonb_spec.specs.Mode.{json, extended_json, strict, lenient}
use Rattle.jsonb_spec.specs.Tree.{Num}
use Rattle.jsonb_spec.specs.Parsing.Number.{End, whole_start, standard_end}
use Rattle.jsonb_spec.specs.Parsing.ExtendedNumber.{core_start, front_end, point_end, behind_end, decimal_end}
use Rattle.jsonb_spec.specs.Parsing.ExactNumber.{exact_at, exact_to, json_number_at, extended_json_scan, extended_json_number_at}
use Rattle.text_scan.proofs.Numbers.Steps.{differs, whole_end}
use Rattle.text_scan.proofs.Numbers.Scan.{IsDigitRun, IsFractionEnd, IsExponentEnd, IsScan}
use Rattle.text_scan.proofs.Numbers.ScanText.{scan_end_within, scan_longest}
use Rattle.text_scan.proofs.Numbers.Ends.{ScannedTo, scanned, scanned_text, none_ends}
use Rattle.text_scan.proofs.Numbers.DecimalScan.{IsPointEnd, IsDecimalScan, parts_to, core_zeros, core_digits, counted_digits, point_here, decimal_scanned}
use Rattle.text_scan.proofs.Numbers.DecimalScanText.{text_of_scan}
use Rattle.text_scan.proofs.Numbers.Reading.{FindsNumber, found_at, IsScanned}
use Rattle.text_scan.proofs.Numbers.ExtendedParts.{IsLenientNumber, lenient_is_text, lenient_unique}
use Rattle.text_scan.proofs.Numbers.Standard.{NumberStart, text_starts}
use Rattle.text_scan.proofs.Numbers.Extended.{IsDecimalHere, decimal_found, decimal_missing, finds_by_kind, ExtendedStart, decimal_begins, hexadecimal_begins}
use Rattle.text_scan.proofs.Numbers.Exact.{exact_at_end, exact_is_text, exact_moved, exact_unique}

-- ---- a standard text is a decimal one

pub run_end : (bytes : List ℕ) (start a b : ℕ) → IsDigitRun bytes start a → IsDigitRun bytes start b → a ≡ b
run_end bytes start a b p q =
    ⊎_elim (λ less. absurd (p.ends (q.digits a p.ordered less)))
    (λ most. ⊎_elim (λ less. absurd (q.ends (p.digits b q.ordered less))) (λ least. omega (arith, most, least)) (cases_lt b a)) (cases_lt a b)

-- digits begin where they do in a decimal
pub core_is : (bytes : List ℕ) (end : ℕ) → IsDigitRun bytes (whole_start bytes) end → whole_start bytes < end → whole_start bytes ≡ core_start bytes
core_is bytes end run some =
    ⊎_elim (λ minus. rw minus refl)
    (λ no_minus.
    let test : (slice_index bytes 0 == 45) ≡ false = differs (slice_index bytes 0) 45 no_minus in
    let none : whole_start bytes ≡ 0 = rw test refl in
    let digit = run.digits 0 (omega (arith, none)) (omega (arith, none, some)) in
    rw (differs (slice_index bytes 0) 43 (λ plus. omega (arith, plus, digit)), test) refl) (cases_eq (slice_index bytes 0) 45)

point_same : (bytes : List ℕ) (start end digits behind : ℕ) → IsFractionEnd bytes start end → IsPointEnd bytes start digits behind → end ≡ behind
point_same bytes start end digits behind (inl none) (inl nothing) = none.0 ∙ sym nothing.1
point_same bytes start end digits behind (inl none) (inr point) = absurd (none.1 point.0)
point_same bytes start end digits behind (inr point) (inl nothing) = absurd (nothing.2 point.0)
point_same bytes start end digits behind (inr (point, some, run)) (inr (again, offset, others)) = run_end bytes (start + 1) end behind run (subst (λ i. IsDigitRun bytes i behind) offset others)

pub standard_scan : (bytes : List ℕ) (fraction end : ℕ) → IsScan bytes (whole_start bytes) (whole_end bytes) fraction end → IsDecimalScan bytes (parts_to bytes end)
standard_scan bytes fraction end scan =
    let core = core_is bytes (whole_end bytes) scan.digits scan.some_digit in
    let front : whole_end bytes ≡ front_end bytes = run_end bytes (core_start bytes) (whole_end bytes) (front_end bytes) (subst (λ i. IsDigitRun bytes i (whole_end bytes)) core scan.digits) (core_digits bytes) in
    let behind : fraction ≡ behind_end bytes = point_same bytes (front_end bytes) fraction (point_end bytes) (behind_end bytes) (subst (λ i. IsFractionEnd bytes i fraction) front scan.fraction_end) (point_here bytes) in
    record {
      first = refl;
      zeros = core_zeros bytes;
      whole = counted_digits bytes;
      point = point_here bytes;
      some_digit = inl (omega (arith, scan.some_digit, core, front));
      exponent = subst (λ i. IsExponentEnd bytes i end) behind scan.exponent_end;
    }

-- ---- JSON

pub json_is_text : (core : List ℕ) (n : Num) → IsJsonNumber core n → IsStandardText core
json_is_text core n number = number.0

-- a text has one number
pub json_unique : (core : List ℕ) (m n : Num) → IsJsonNumber core m → IsJsonNumber core n → m ≡ n
json_unique core m n p q = exact_unique core m n p.1 q.1

pub json_starts : (core : List ℕ) (n : Num) → IsJsonNumber core n → NumberStart core
json_starts core n number = text_starts core number.0

finds_json : (bytes : List ℕ) (r : End) → standard_end bytes ≡ r → FindsNumber strict (IsNumber json) bytes (exact_to bytes r)
finds_json bytes (Ok end) at =
    let s = scanned bytes end at in
    let scan = standard_scan bytes s.fraction end s.scan in
    found_at strict (IsNumber json) bytes end (exact_at bytes end) (scan_end_within bytes _ _ s.fraction end s.scan).1 (text s) (scan_longest bytes _ _ s.fraction end s.scan)
    (by_option (exact_at bytes end) (text s) (exact_at_end bytes end (text_of_scan bytes end scan) scan.exponent))
  where
    text : ScannedTo bytes end → IsStandardText (take end bytes)
    text s = scanned_text bytes end s

    by_option : (o : Option Num) → IsStandardText (take end bytes) → MatchOption o ((n : Num) → ¬ IsExactDecimal (take end bytes) n) (IsExactDecimal (take end bytes)) → MatchOption o ((n : Num) → ¬ (IsJsonNumber (take end bytes) n)) (IsJsonNumber (take end bytes))
    by_option (Some n) is_text number = (is_text, number)
    by_option None is_text none = λ n number. none n number.1
finds_json bytes (Err offset) at = (refl, none_ends bytes offset at)

pub json_scanned : (size : ℕ) (bytes : List ℕ) → IsScanned json size bytes (json_number_at size bytes)
unfolding json_number_at
json_scanned size bytes = record { scan = exact_to bytes (standard_end bytes); finds = finds_json bytes (standard_end bytes) refl; is = refl }

-- ---- extended JSON

pub extended_json_is_text : (core : List ℕ) (n : Num) → IsExtendedJsonNumber core n → IsExtendedText core
extended_json_is_text core n number = lenient_is_text IsExactDecimal exact_is_text core n number

-- a text has one number
pub extended_json_unique : (core : List ℕ) (m n : Num) → IsExtendedJsonNumber core m → IsExtendedJsonNumber core n → m ≡ n
extended_json_unique core m n p q = lenient_unique IsExactDecimal exact_is_text exact_unique core m n p q

pub extended_json_starts : (core : List ℕ) (n : Num) → IsExtendedJsonNumber core n → ExtendedStart core
extended_json_starts core n (inl decimal) = let p = exact_moved core n decimal in decimal_begins core p.sign p.zeros p.whole p.fraction p.exponent p.parts
extended_json_starts core n (inr hexadecimal) = hexadecimal_begins core n hexadecimal

finds_exact : (bytes : List ℕ) → IsDecimalHere bytes → (r : End) → decimal_end bytes ≡ r → FindsNumber lenient (IsLenientNumber IsExactDecimal) bytes (exact_to bytes r)
finds_exact bytes here (Ok end) at =
    let scan = decimal_scanned bytes end at in
    let t = text_of_scan bytes end scan in
    decimal_found IsExactDecimal exact_is_text bytes here end (exact_at bytes end) t (exact_at_end bytes end t scan.exponent)
finds_exact bytes here (Err offset) at = decimal_missing IsExactDecimal exact_is_text bytes here offset at

finds_extended_json : (bytes : List ℕ) → FindsNumber lenient (IsNumber extended_json) bytes (extended_json_scan bytes)
unfolding extended_json_scan
finds_extended_json bytes = finds_by_kind IsExactDecimal exact_is_text bytes (exact_to bytes (decimal_end bytes)) (λ here. finds_exact bytes here (decimal_end bytes) refl)

pub extended_json_scanned : (size : ℕ) (bytes : List ℕ) → IsScanned extended_json size bytes (extended_json_number_at size bytes)
unfolding extended_json_number_at
extended_json_scanned size bytes = record { scan = extended_json_scan bytes; finds = finds_extended_json bytes; is = refl }
