-- What the code's scan of an extended number finds is what the specification finds.
use Rattle.std.proofs.Common.{◌≡◌, ◌≢◌, ℕ, ◌+◌, ◌-◌, ◌*◌, ◌^◌, ◌<◌, ◌≤◌, Bool, true, false, ◌&&◌, Some, None, List, length, drop, refl, sym, subst, ap, ◌∙◌, inl, inr, ◌⊎◌, arith, Ok, Err}
use Rattle.std.specs.Prelude.{slice_index, slice_range, ◌==◌, nat_lt, nat_le}
use Rattle.std.specs.Str.Parse.{AllDigits, digits_value, digits_value_after, starts_with_minus}
use Rattle.std.proofs.lemmas.Bool.Decides.{nat_tests}
use Rattle.std.proofs.lemmas.List.{length-drop, drop-drop}
use Rattle.std.proofs.lemmas.List.Edits.{length-between}
use Rattle.std.proofs.lemmas.Nat.{pow-add}
use Rattle.std.proofs.Math.Nat.{pow-le-pow_right, mul-le-mul_right}
use Rattle.std.proofs.lemmas.Bool.{cond-false, cond-true}
use Rattle.jsonb_spec.specs.Code.{Code, number_not_carried}
use Rattle.jsonb_spec.specs.Grammar.ExtendedNumber.{decimal_number}
use Rattle.jsonb_spec.specs.Number.Signed.{signed_by}
use Rattle.jsonb_spec.specs.Tree.{Num}
use Rattle.jsonb_spec.specs.Parsing.{fault}
use Rattle.jsonb_spec.specs.Parsing.Number.{End, digits_from, exponent_from, sign_end}
use Rattle.jsonb_spec.specs.Parsing.ExtendedNumber.{Scanned, zeros_from, core_start, zeros_end, front_end, point_end, behind_end, scale_at, precision_at, lacks_digits, has_second_point, decimal_end, all_digits, decimal_at, scanned_to, extended_scan, extended_number_at}
use Rattle.text_scan.specs.ScannedNumber.{AreEnds}
use Rattle.text_scan.specs.declared.parser.extended_number.decimal.DecimalEnds.{DecimalEnds}
use Rattle.text_scan.proofs.Numbers.DecimalScan.{core_digits, counted_digits, point_here, point_ordered}
use Rattle.text_scan.proofs.Numbers.DecimalScanText.{behind_digits, digits_value_same}
use Rattle.text_scan.proofs.Numbers.DigitValues.{value_after-append}
use Rattle.text_scan.proofs.Numbers.Steps.{differs}
use Rattle.text_scan.proofs.Numbers.ScanText.{run_digits}

-- ---- a parser at an index of its input, by any scan

pub number_by : (scan : List ℕ → Scanned) (idx end : ℕ) (buf bs : List ℕ) (n : Num) → bs ≡ drop idx buf → scan bs ≡ Ok (Some n, end) → scanned_to (length buf) (drop idx buf) (scan (drop idx buf)) ≡ Ok (n, drop (idx + end) buf)
number_by scan idx end buf bs n same found =
    ap (λ xs. scanned_to (length buf) xs (scan xs)) (sym same) ∙ (ap (scanned_to (length buf) bs) found ∙ ap (λ xs. Ok (n, xs)) (ap (drop end) same ∙ drop-drop end idx buf))

pub missing_by : (scan : List ℕ → Scanned) (idx end : ℕ) (buf bs : List ℕ) → idx ≤ length buf → bs ≡ drop idx buf → end ≤ length bs → scan bs ≡ Ok (None, end) → scanned_to (length buf) (drop idx buf) (scan (drop idx buf)) ≡ Err (record { code = number_not_carried; offset = idx + end })
missing_by scan idx end buf bs inside same within found =
    let there : length buf - length (drop end bs) ≡ idx + end = omega (arith, length-drop end bs, length-drop idx buf, ap length same, within, inside) in
    ap (λ xs. scanned_to (length buf) xs (scan xs)) (sym same) ∙ (ap (scanned_to (length buf) bs) found ∙ ap (λ p. fault number_not_carried p) there)

pub fault_by : (scan : List ℕ → Scanned) (idx offset : ℕ) (code : Code) (buf bs : List ℕ) → idx ≤ length buf → bs ≡ drop idx buf → scan bs ≡ Err (code, offset) → scanned_to (length buf) (drop idx buf) (scan (drop idx buf)) ≡ Err (record { code = code; offset = idx + offset })
fault_by scan idx offset code buf bs inside same found =
    let there : length buf - length bs + offset ≡ idx + offset = omega (arith, length-drop idx buf, ap length same, inside) in
    ap (λ xs. scanned_to (length buf) xs (scan xs)) (sym same) ∙ (ap (scanned_to (length buf) bs) found ∙ ap (λ p. fault code p) there)

-- ---- by the scan of an extended number

pub scanned_number : (idx end : ℕ) (buf bs : List ℕ) (n : Num) → bs ≡ drop idx buf → extended_scan bs ≡ Ok (Some n, end) → extended_number_at (length buf) (drop idx buf) ≡ Ok (n, drop (idx + end) buf)
unfolding extended_number_at
scanned_number idx end buf bs n same found = number_by extended_scan idx end buf bs n same found

pub scanned_missing : (idx end : ℕ) (buf bs : List ℕ) → idx ≤ length buf → bs ≡ drop idx buf → end ≤ length bs → extended_scan bs ≡ Ok (None, end) → extended_number_at (length buf) (drop idx buf) ≡ Err (record { code = number_not_carried; offset = idx + end })
unfolding extended_number_at
scanned_missing idx end buf bs inside same within found = missing_by extended_scan idx end buf bs inside same within found

pub scanned_fault : (idx offset : ℕ) (code : Code) (buf bs : List ℕ) → idx ≤ length buf → bs ≡ drop idx buf → extended_scan bs ≡ Err (code, offset) → extended_number_at (length buf) (drop idx buf) ≡ Err (record { code = code; offset = idx + offset })
unfolding extended_number_at
scanned_fault idx offset code buf bs inside same found = fault_by extended_scan idx offset code buf bs inside same found

-- ---- where the parts of a decimal end

front_ends : (bytes : List ℕ) → (zeros_end bytes ≤ front_end bytes) × (front_end bytes ≤ length bytes)
front_ends bytes = ((counted_digits bytes).ordered, (core_digits bytes).within)

pub ends_without_point : (bytes : List ℕ) (start zeros front next : ℕ) → start ≡ sign_end bytes 0 → zeros ≡ zeros_from bytes start → front ≡ digits_from bytes start → next ≡ slice_index bytes front → (next ≡ 46 → ⊥) → AreEnds bytes (record { start = start; zeros_end = zeros; front_end = front; point_end = front; behind_end = front })
ends_without_point bytes start zeros front next at zeroed digits byte other =
    let z : zeros ≡ zeros_end bytes = zeroed ∙ ap (zeros_from bytes) at in
    let f : front ≡ front_end bytes = digits ∙ ap (digits_from bytes) at in
    let test : (slice_index bytes (front_end bytes) == 46) ≡ false = differs (slice_index bytes (front_end bytes)) 46 (λ p. other (byte ∙ (ap (slice_index bytes) f ∙ p))) in
    record {
      start = at;
      zeros = z;
      front = f;
      point = f ∙ sym (cond-false (slice_index bytes (front_end bytes) == 46) _ _ test);
      behind = f ∙ sym (cond-false (slice_index bytes (front_end bytes) == 46) _ _ test);
      ordered = omega (arith, z, f, front_ends bytes);
      behind_ordered = omega arith;
      within = omega (arith, f, front_ends bytes);
    }

pub ends_with_point : (bytes : List ℕ) (start zeros front next behind : ℕ) → start ≡ sign_end bytes 0 → zeros ≡ zeros_from bytes start → front ≡ digits_from bytes start → next ≡ slice_index bytes front → next ≡ 46 → behind ≡ digits_from bytes (front + 1) → AreEnds bytes (record { start = start; zeros_end = zeros; front_end = front; point_end = front + 1; behind_end = behind })
ends_with_point bytes start zeros front next behind at zeroed digits byte point ends =
    let z : zeros ≡ zeros_end bytes = zeroed ∙ ap (zeros_from bytes) at in
    let f : front ≡ front_end bytes = digits ∙ ap (digits_from bytes) at in
    let here : slice_index bytes (front_end bytes) ≡ 46 = ap (slice_index bytes) (sym f) ∙ (sym byte ∙ point) in
    let test : (slice_index bytes (front_end bytes) == 46) ≡ true = grind (arith, nat_tests) in
    let order = point_ordered bytes (front_end bytes) (point_end bytes) (behind_end bytes) (core_digits bytes).within (point_here bytes) in
    let b : behind ≡ behind_end bytes = ends ∙ (ap (λ i. digits_from bytes (i + 1)) f ∙ sym (cond-true (slice_index bytes (front_end bytes) == 46) _ _ test)) in
    let p : front + 1 ≡ point_end bytes = ap (λ i. i + 1) f ∙ sym (cond-true (slice_index bytes (front_end bytes) == 46) _ _ test) in
    record {
      start = at;
      zeros = z;
      front = f;
      point = p;
      behind = b;
      ordered = omega (arith, z, f, front_ends bytes);
      behind_ordered = omega (arith, p, b, order);
      within = omega (arith, b, order);
    }

-- ---- where a decimal ends

pub no_digits_end : (bytes : List ℕ) (e : DecimalEnds) → AreEnds bytes e → e.front_end - e.start + (e.behind_end - e.point_end) ≡ 0 → decimal_end bytes ≡ Err e.point_end
unfolding decimal_end
no_digits_end bytes e are none =
    let count : front_end bytes - core_start bytes + scale_at bytes ≡ 0 = omega (arith, none, are.start, are.front, are.point, are.behind) in
    let tested : lacks_digits bytes ≡ true = grind (arith, nat_tests) in
    cond-true (lacks_digits bytes) _ _ tested ∙ ap Err (sym are.point)

some_digits : (bytes : List ℕ) (e : DecimalEnds) → AreEnds bytes e → (e.front_end - e.start + (e.behind_end - e.point_end) ≡ 0 → ⊥) → lacks_digits bytes ≡ false
some_digits bytes e are some =
    let count : front_end bytes - core_start bytes + scale_at bytes ≢ 0 = λ none. some (omega (arith, none, are.start, are.front, are.point, are.behind)) in
    differs (front_end bytes - core_start bytes + scale_at bytes) 0 count

pub second_point_end : (bytes : List ℕ) (e : DecimalEnds) (next : ℕ) → AreEnds bytes e → (e.front_end - e.start + (e.behind_end - e.point_end) ≡ 0 → ⊥) → e.front_end < e.point_end → e.front_end - e.zeros_end + (e.behind_end - e.point_end) < 76 → next ≡ slice_index bytes e.behind_end → next ≡ 46 → decimal_end bytes ≡ Err e.behind_end
unfolding decimal_end
second_point_end bytes e next are some point few byte again =
    let later : front_end bytes < point_end bytes = omega (arith, point, are.front, are.point) in
    let small : precision_at bytes < 76 = omega (arith, few, are.zeros, are.front, are.point, are.behind) in
    let there : slice_index bytes (behind_end bytes) ≡ 46 = ap (slice_index bytes) (sym are.behind) ∙ (sym byte ∙ again) in
    let first : nat_lt (front_end bytes) (point_end bytes) ≡ true = grind (arith, nat_tests) in
    let second : nat_lt (precision_at bytes) 76 ≡ true = grind (arith, nat_tests) in
    let third : (slice_index bytes (behind_end bytes) == 46) ≡ true = grind (arith, nat_tests) in
    let tested : has_second_point bytes ≡ true = all_true _ _ _ first second third in
    cond-false (lacks_digits bytes) _ _ (some_digits bytes e are some) ∙ (cond-true (has_second_point bytes) _ _ tested ∙ ap Err (sym are.behind))
  where
    all_true : (a b c : Bool) → a ≡ true → b ≡ true → c ≡ true → (a && (b && c)) ≡ true
    all_true true true c h k l = l
    all_true true false c h k l = absurd (cc)
    all_true false b c h k l = absurd (cc)

-- no second point, or so many digits that one ends the number
abbrev pub NoSecondPoint : List ℕ → DecimalEnds → Type 0
NoSecondPoint bytes e = (e.point_end ≤ e.front_end) ⊎ ((76 ≤ e.front_end - e.zeros_end + (e.behind_end - e.point_end)) ⊎ (slice_index bytes e.behind_end ≢ 46))

pub exponent_due : (bytes : List ℕ) (e : DecimalEnds) (r : End) → AreEnds bytes e → (e.front_end - e.start + (e.behind_end - e.point_end) ≡ 0 → ⊥) → NoSecondPoint bytes e → r ≡ exponent_from bytes e.behind_end → r ≡ decimal_end bytes
unfolding decimal_end
exponent_due bytes e r are some once last =
    last ∙ (ap (exponent_from bytes) are.behind ∙ sym (cond-false (lacks_digits bytes) _ _ (some_digits bytes e are some) ∙ cond-false (has_second_point bytes) _ _ (tested once)))
  where
    first_false : (a b c : Bool) → a ≡ false → (a && (b && c)) ≡ false
    first_false true b c h = absurd (cc)
    first_false false b c h = refl

    second_false : (a b c : Bool) → b ≡ false → (a && (b && c)) ≡ false
    second_false true true c h = absurd (cc)
    second_false true false c h = refl
    second_false false b c h = refl

    third_false : (a b c : Bool) → c ≡ false → (a && (b && c)) ≡ false
    third_false true true c h = h
    third_false true false c h = refl
    third_false false b c h = refl

    tested : NoSecondPoint bytes e → has_second_point bytes ≡ false
    tested (inl none) =
        let early : point_end bytes ≤ front_end bytes = omega (arith, none, are.front, are.point) in
        let test : nat_lt (front_end bytes) (point_end bytes) ≡ false = grind (arith, nat_tests) in
        first_false (nat_lt (front_end bytes) (point_end bytes)) (nat_lt (precision_at bytes) 76) (slice_index bytes (behind_end bytes) == 46) test
    tested (inr (inl many)) =
        let large : 76 ≤ precision_at bytes = omega (arith, many, are.zeros, are.front, are.point, are.behind) in
        let test : nat_lt (precision_at bytes) 76 ≡ false = grind (arith, nat_tests) in
        second_false (nat_lt (front_end bytes) (point_end bytes)) (nat_lt (precision_at bytes) 76) (slice_index bytes (behind_end bytes) == 46) test
    tested (inr (inr other)) =
        third_false (nat_lt (front_end bytes) (point_end bytes)) (nat_lt (precision_at bytes) 76) (slice_index bytes (behind_end bytes) == 46) (differs (slice_index bytes (behind_end bytes)) 46 (λ p. other (ap (slice_index bytes) are.behind ∙ p)))

-- ---- the number

pub front_is : (bytes : List ℕ) (e : DecimalEnds) → AreEnds bytes e → AllDigits 10 (slice_range bytes e.zeros_end e.front_end)
front_is bytes e are = subst (λ i. AllDigits 10 (slice_range bytes i e.front_end)) (sym are.zeros) (subst (λ i. AllDigits 10 (slice_range bytes (zeros_end bytes) i)) (sym are.front) (run_digits bytes (zeros_end bytes) (front_end bytes) (counted_digits bytes)))

pub back_is : (bytes : List ℕ) (e : DecimalEnds) → AreEnds bytes e → AllDigits 10 (slice_range bytes e.point_end e.behind_end)
back_is bytes e are = subst (λ i. AllDigits 10 (slice_range bytes i e.behind_end)) (sym are.point) (subst (λ i. AllDigits 10 (slice_range bytes (point_end bytes) i)) (sym are.behind) (behind_digits bytes (front_end bytes) (point_end bytes) (behind_end bytes) (point_here bytes)))

front_long : (bytes : List ℕ) (e : DecimalEnds) → AreEnds bytes e → length (slice_range bytes e.zeros_end e.front_end) ≡ e.front_end - e.zeros_end
front_long bytes e are = length-between bytes e.zeros_end e.front_end (omega (arith, are.front, (core_digits bytes).within))

back_long : (bytes : List ℕ) (e : DecimalEnds) → AreEnds bytes e → length (slice_range bytes e.point_end e.behind_end) ≡ e.behind_end - e.point_end
back_long bytes e are = length-between bytes e.point_end e.behind_end are.within

pub front_capacity : (bytes : List ℕ) (e : DecimalEnds) → AreEnds bytes e → e.front_end - e.zeros_end + (e.behind_end - e.point_end) ≤ 38 → 1 * 10 ^ length (slice_range bytes e.zeros_end e.front_end) ≤ 10 ^ 38
front_capacity bytes e are few = omega (arith, pow-le-pow_right {n = 10} (omega arith) {i = length (slice_range bytes e.zeros_end e.front_end)} {j = 38} (omega (arith, front_long bytes e are, few)))

pub back_capacity : (bytes : List ℕ) (e : DecimalEnds) (w : ℕ) → AreEnds bytes e → e.front_end - e.zeros_end + (e.behind_end - e.point_end) ≤ 38 → w < (0 + 1) * 10 ^ length (slice_range bytes e.zeros_end e.front_end) → (w + 1) * 10 ^ length (slice_range bytes e.point_end e.behind_end) ≤ 10 ^ 38
back_capacity bytes e w are few small =
    let n : ℕ = length (slice_range bytes e.zeros_end e.front_end) in
    let k : ℕ = length (slice_range bytes e.point_end e.behind_end) in
    let below : w + 1 ≤ 10 ^ length (slice_range bytes e.zeros_end e.front_end) = omega (arith, small) in
    omega (arith, mul-le-mul_right (10 ^ length (slice_range bytes e.point_end e.behind_end)) below, pow-add 10 (length (slice_range bytes e.zeros_end e.front_end)) (length (slice_range bytes e.point_end e.behind_end)), pow-le-pow_right {n = 10} (omega arith) {i = length (slice_range bytes e.zeros_end e.front_end) + length (slice_range bytes e.point_end e.behind_end)} {j = 38} (omega (arith, front_long bytes e are, back_long bytes e are, few)))

pub small_number : (bytes : List ℕ) (e : DecimalEnds) (w m : ℕ) → AreEnds bytes e → w < (0 + 1) * 10 ^ length (slice_range bytes e.zeros_end e.front_end) → m < (w + 1) * 10 ^ length (slice_range bytes e.point_end e.behind_end) → m < 10 ^ (e.front_end - e.zeros_end + (e.behind_end - e.point_end))
small_number bytes e w m are small behind =
    let below : w + 1 ≤ 10 ^ length (slice_range bytes e.zeros_end e.front_end) = omega (arith, small) in
    let same : length (slice_range bytes e.zeros_end e.front_end) + length (slice_range bytes e.point_end e.behind_end) ≡ e.front_end - e.zeros_end + (e.behind_end - e.point_end) = omega (arith, front_long bytes e are, back_long bytes e are) in
    subst (λ j. m < 10 ^ j) same (omega (arith, behind, mul-le-mul_right (10 ^ length (slice_range bytes e.point_end e.behind_end)) below, pow-add 10 (length (slice_range bytes e.zeros_end e.front_end)) (length (slice_range bytes e.point_end e.behind_end))))

pub not_representable : (bytes : List ℕ) (e : DecimalEnds) (end : ℕ) → AreEnds bytes e → ((e.behind_end ≡ end → ⊥) ⊎ (38 < e.front_end - e.zeros_end + (e.behind_end - e.point_end))) → None ≡ decimal_at bytes end
unfolding decimal_at
not_representable bytes e end are (inl other) =
    let test : (behind_end bytes == end) ≡ false = differs (behind_end bytes) end (λ same. other (are.behind ∙ same)) in rw test refl
not_representable bytes e end are (inr many) =
    let large : 38 < precision_at bytes = omega (arith, many, are.zeros, are.front, are.point, are.behind) in
    let test : nat_le (precision_at bytes) 38 ≡ false = grind (arith, nat_tests) in
    sym (cond-false ((behind_end bytes == end) && nat_le (precision_at bytes) 38) _ _ (and_false (behind_end bytes == end) (nat_le (precision_at bytes) 38) test))
  where
    and_false : (a b : Bool) → b ≡ false → (a && b) ≡ false
    and_false true b h = h
    and_false false b h = refl

pub representable : (bytes : List ℕ) (e : DecimalEnds) (end minus w m : ℕ) (n : Num) → AreEnds bytes e → e.behind_end ≡ end → e.front_end - e.zeros_end + (e.behind_end - e.point_end) ≤ 38 → w ≡ digits_value_after 10 0 (slice_range bytes e.zeros_end e.front_end) → m ≡ digits_value_after 10 w (slice_range bytes e.point_end e.behind_end) → minus ≡ slice_index bytes 0 →
    n ≡ decimal_number (e.behind_end - e.point_end) (e.front_end - e.zeros_end + (e.behind_end - e.point_end)) (signed_by (minus == 45) m) → Some n ≡ decimal_at bytes end
unfolding decimal_at
representable bytes e end minus w m n are last few front back sign number =
    let here : behind_end bytes ≡ end = sym are.behind ∙ last in
    let test : (behind_end bytes == end) ≡ true = grind (arith, nat_tests) in
    let small : precision_at bytes ≤ 38 = omega (arith, few, are.zeros, are.front, are.point, are.behind) in
    let tested : nat_le (precision_at bytes) 38 ≡ true = grind (arith, nat_tests) in
    let scale : e.behind_end - e.point_end ≡ scale_at bytes = omega (arith, are.point, are.behind) in
    let precise : e.front_end - e.zeros_end + (e.behind_end - e.point_end) ≡ precision_at bytes = omega (arith, are.zeros, are.front, are.point, are.behind) in
    let first : w ≡ digits_value 10 (slice_range bytes (zeros_end bytes) (front_end bytes)) = front ∙ (ap (λ i. digits_value_after 10 0 (slice_range bytes i e.front_end)) are.zeros ∙ ap (λ i. digits_value_after 10 0 (slice_range bytes (zeros_end bytes) i)) are.front) in
    let behind : slice_range bytes e.point_end e.behind_end ≡ slice_range bytes (point_end bytes) (behind_end bytes) = ap (λ i. slice_range bytes i e.behind_end) are.point ∙ ap (slice_range bytes (point_end bytes)) are.behind in
    let value : m ≡ digits_value 10 (all_digits bytes) =
    back ∙ (ap (λ v. digits_value_after 10 v (slice_range bytes e.point_end e.behind_end)) first ∙ (ap (digits_value_after 10 (digits_value 10 (slice_range bytes (zeros_end bytes) (front_end bytes)))) behind
    ∙ (sym (value_after-append 10 0 (slice_range bytes (zeros_end bytes) (front_end bytes)) (slice_range bytes (point_end bytes) (behind_end bytes))) ∙ digits_value_same bytes (Some (slice_range bytes (point_end bytes) (behind_end bytes))) refl))) in
    let same : n ≡ decimal_number (scale_at bytes) (precision_at bytes) (signed_by (starts_with_minus bytes) (digits_value 10 (all_digits bytes))) =
    number ∙ (ap (λ s. decimal_number s (e.front_end - e.zeros_end + (e.behind_end - e.point_end)) (signed_by (minus == 45) m)) scale
    ∙ (ap (λ q. decimal_number (scale_at bytes) q (signed_by (minus == 45) m)) precise
    ∙ (ap (λ c. decimal_number (scale_at bytes) (precision_at bytes) (signed_by (c == 45) m)) sign ∙ ap (λ v. decimal_number (scale_at bytes) (precision_at bytes) (signed_by (starts_with_minus bytes) v)) value))) in
    rw (test, tested) (ap Some same)
