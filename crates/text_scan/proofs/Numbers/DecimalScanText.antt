-- The text that a scan of an extended decimal finds is a decimal number.
use Rattle.std.proofs.Common.{◌≡◌, ◌≢◌, ◌⊎◌, ℕ, ◌+◌, ◌-◌, ◌<◌, ◌≤◌, Bool, true, false, cond, ◌||◌, suc, Option, Some, None, List, [], ◌∷◌, ◌++◌, length, get_or, take, drop, refl, sym, subst, ap, ◌∙◌, inl, inr, ⊎_elim, arith, Ok}
use Rattle.std.specs.Prelude.{slice_index, slice_range, replicate, MatchOption, ◌==◌, nat_le}
use Rattle.std.specs.Str.Parse.{AllDigits, digits_value, starts_with_minus}
use Rattle.std.proofs.lemmas.Bool.{cases_eq, cases_lt, cases_Bool, false≢true}
use Rattle.std.proofs.lemmas.Bool.Decides.{nat_tests}
use Rattle.std.proofs.lemmas.List.{append_assoc}
use Rattle.std.proofs.lemmas.Slice.{between_from_start}
use Rattle.std.proofs.lemmas.List.Edits.{length-between, get_or-between}
use Rattle.jsonb_core.proofs.Numbers.DecimalTexts.{value-after_zeros}
use Rattle.jsonb_spec.specs.Grammar.ExtendedNumber.{decimal_number, IsDecimalNumber}
use Rattle.jsonb_spec.specs.Number.Signed.{signed_by}
use Rattle.jsonb_spec.specs.Parsing.Number.{sign_end}
use Rattle.jsonb_spec.specs.Parsing.ExtendedNumber.{core_start, zeros_end, front_end, point_end, behind_end, scale_at, precision_at, decimal_end, all_digits, decimal_at}
use Rattle.text_scan.proofs.Numbers.Steps.{differs}
use Rattle.text_scan.proofs.Numbers.Automaton.{DecimalStart}
use Rattle.text_scan.proofs.Numbers.ScanStates.{exponent_stop}
use Rattle.text_scan.proofs.Numbers.ScanText.{range_split, range_cons, range_none, run_digits, sign_part, exponent_text, exponent_within}
use Rattle.text_scan.proofs.Numbers.DecimalScan.{IsZeroRun, IsPointEnd, DecimalParts, IsDecimalScan, parts_to, point_ordered, core_zeros, counted_digits, decimal_scanned}
use Rattle.text_scan.proofs.Numbers.DecimalStates.{IsLongestDecimal, IsLongestDecimal-from_stop, decimal_due, zeros_and_digits, decimal_done}
use Rattle.jsonb_core.proofs.Numbers.Fractions.{fraction_digits, fraction_text, precision_of, value_of}
use Rattle.text_scan.proofs.Numbers.TextParts.{IsUnrepresentableDecimal, HasTextParts, decimal_parts_of}

zeros_from_offsets : (ds : List ℕ) → ((k : ℕ) → k < length ds → get_or ds k 0 ≡ 48) → ds ≡ replicate (length ds) 48
zeros_from_offsets [] h = refl
zeros_from_offsets (d ∷ ds) h =
    ap (λ x. x ∷ ds) (h 0 (omega arith)) ∙ ap (λ r. 48 ∷ r) (zeros_from_offsets ds (λ k below. h (suc k) (omega arith)))

zeros_text : (bytes : List ℕ) (start end : ℕ) → IsZeroRun bytes start end → slice_range bytes start end ≡ replicate (length (slice_range bytes start end)) 48
zeros_text bytes start end zeros =
    let long : length (slice_range bytes start end) ≡ end - start = length-between bytes start end zeros.within in
    zeros_from_offsets (slice_range bytes start end) (λ k below. get_or-between bytes start end k 0 (omega arith) ∙ zeros.zeros (start + k) (omega arith) (omega arith))

no_zero : (bytes : List ℕ) (start end : ℕ) → slice_index bytes start ≢ 48 → slice_index (slice_range bytes start end) 0 ≢ 48
no_zero bytes start end other zero_byte =
    ⊎_elim
    (λ some. let offset : start + 0 ≡ start = omega arith in other (ap (slice_index bytes) (sym offset) ∙ (sym (get_or-between bytes start end 0 0 (omega arith)) ∙ zero_byte)))
    (λ none. let nothing : end - start ≡ 0 = omega arith in absurd (omega (arith, sym zero_byte ∙ ap (λ n. slice_index (take n (drop start bytes)) 0) nothing))) (cases_lt start end)

-- the parts of the text, with the digits behind the point
pub record ScannedDecimal (bytes : List ℕ) (p : DecimalParts) : Type 0 where
  pub fraction : Option (List ℕ)
  pub parts : HasTextParts (take p.end bytes) (slice_range bytes 0 p.zeros_start) (slice_range bytes p.zeros_start p.whole_start) (slice_range bytes p.whole_start p.whole_end) fraction (slice_range bytes p.fraction_end p.end)
  pub digits : fraction_digits fraction ≡ slice_range bytes p.fraction_start p.fraction_end

pub record ScanOrder (bytes : List ℕ) (p : DecimalParts) : Type 0 where
  pub zeros : p.zeros_start ≤ p.whole_start
  pub whole : p.whole_start ≤ p.whole_end
  pub point : p.whole_end ≤ p.fraction_start
  pub fraction : p.fraction_start ≤ p.fraction_end
  pub exponent : p.fraction_end ≤ p.end
  pub within : p.end ≤ length bytes

pub scan_order : (bytes : List ℕ) (p : DecimalParts) → IsDecimalScan bytes p → ScanOrder bytes p
scan_order bytes p scan =
    let f = point_ordered bytes p.whole_end p.fraction_start p.fraction_end scan.whole.within scan.point in
    let e = exponent_within bytes p.fraction_end p.end f.2 scan.exponent in
    record { zeros = scan.zeros.ordered; whole = scan.whole.ordered; point = f.0; fraction = f.1; exponent = e.0; within = e.1 }

point_text : (bytes : List ℕ) (start digits end : ℕ) → IsPointEnd bytes start digits end → (f : Option (List ℕ)) × (fraction_text f ≡ slice_range bytes start end) × (fraction_digits f ≡ slice_range bytes digits end)
point_text bytes start digits end (inl none) =
    (None, sym (range_none bytes start end none.1), sym (range_none bytes digits end (none.1 ∙ sym none.0)))
point_text bytes start digits end (inr (point, offset, behind)) =
    (Some (slice_range bytes digits end), sym (range_cons bytes start end (omega (arith, behind.ordered)) behind.within ∙ (ap (λ b. b ∷ slice_range bytes (start + 1) end) point ∙ ap (λ i. 46 ∷ slice_range bytes i end) (sym offset))), refl)

pub behind_digits : (bytes : List ℕ) (start digits end : ℕ) → IsPointEnd bytes start digits end → AllDigits 10 (slice_range bytes digits end)
behind_digits bytes start digits end (inl none) = subst (AllDigits 10) (sym (range_none bytes digits end (none.1 ∙ sym none.0))) tt
behind_digits bytes start digits end (inr (point, offset, behind)) = run_digits bytes digits end behind

pub scanned_decimal : (bytes : List ℕ) (p : DecimalParts) → IsDecimalScan bytes p → ScannedDecimal bytes p
scanned_decimal bytes p scan =
    let o = scan_order bytes p scan in
    let f = point_text bytes p.whole_end p.fraction_start p.fraction_end scan.point in
    let long_fraction : length (fraction_digits f.0) ≡ p.fraction_end - p.fraction_start = ap length f.2 ∙ length-between bytes p.fraction_start p.fraction_end (omega (arith, o.exponent, o.within)) in
    let long_zeros : length (slice_range bytes p.zeros_start p.whole_start) ≡ p.whole_start - p.zeros_start = length-between bytes p.zeros_start p.whole_start scan.zeros.within in
    let long_whole : length (slice_range bytes p.whole_start p.whole_end) ≡ p.whole_end - p.whole_start = length-between bytes p.whole_start p.whole_end scan.whole.within in
    let some : p.zeros_start < length bytes = ⊎_elim (λ w. omega (arith, w, scan.whole.within)) (λ d. omega (arith, d, o.zeros, o.whole, o.point, o.exponent, o.within)) scan.some_digit in
    record {
      fraction = f.0;
      parts = record {
        joined = sym (between_from_start bytes p.end) ∙ (range_split bytes 0 p.zeros_start p.end (omega arith) (omega (arith, o.zeros, o.whole, o.point, o.fraction, o.exponent))
            ∙ ap (λ r. slice_range bytes 0 p.zeros_start ++ r) (range_split bytes p.zeros_start p.whole_start p.end o.zeros (omega (arith, o.whole, o.point, o.fraction, o.exponent))
            ∙ ap (λ r. slice_range bytes p.zeros_start p.whole_start ++ r) (range_split bytes p.whole_start p.whole_end p.end o.whole (omega (arith, o.point, o.fraction, o.exponent))
            ∙ ap (λ r. slice_range bytes p.whole_start p.whole_end ++ r) (range_split bytes p.whole_end p.fraction_end p.end (omega (arith, o.point, o.fraction)) o.exponent
            ∙ ap (λ r. r ++ slice_range bytes p.fraction_end p.end) (sym f.1)))));
        is_sign = sign_part bytes 0 p.zeros_start scan.first (omega (arith, some));
        are_zeros = zeros_text bytes p.zeros_start p.whole_start scan.zeros;
        whole_digits = run_digits bytes p.whole_start p.whole_end scan.whole;
        no_zero_first = no_zero bytes p.whole_start p.whole_end scan.zeros.ends;
        digits_behind = subst (AllDigits 10) (sym f.2) (behind_digits bytes p.whole_end p.fraction_start p.fraction_end scan.point);
        some_digit = ⊎_elim (λ w. omega (arith, w, long_zeros, long_whole, o.zeros, o.whole)) (λ d. omega (arith, d, long_fraction)) scan.some_digit;
        is_exponent = exponent_text bytes p.fraction_end p.end scan.exponent;
      };
      digits = f.2;
    }

pub decimal_longest : (bytes : List ℕ) (p : DecimalParts) → IsDecimalScan bytes p → IsLongestDecimal bytes p.end
decimal_longest bytes p scan =
    let is_due = decimal_due bytes p.zeros_start scan.first (omega (arith, scan.zeros.ordered, scan.zeros.within)) in
    let digits = zeros_and_digits bytes p.zeros_start p.whole_start p.whole_end scan.zeros scan.whole in
    let done = decimal_done bytes p.zeros_start p.whole_end p.fraction_start p.fraction_end is_due digits scan.point scan.some_digit in
    let stop = exponent_stop DecimalStart bytes p.fraction_end p.end done scan.exponent in
    IsLongestDecimal-from_stop bytes p.end stop.0 stop.1

-- ---- the number

or_right_false : (a b : Bool) → (a || b) ≡ false → b ≡ false
or_right_false true b h = absurd (false≢true (sym h))
or_right_false false b h = h

pub sign_value : (bytes : List ℕ) (start : ℕ) → start ≡ sign_end bytes 0 → starts_with_minus (slice_range bytes 0 start) ≡ starts_with_minus bytes
sign_value bytes start at =
    ⊎_elim
    (λ sign. let one : start ≡ 1 = at ∙ ap (λ b. cond b (0 + 1) 0) sign in
    ap (λ x. x == 45) (ap (λ i. slice_index (slice_range bytes 0 i) 0) one ∙ get_or-between bytes 0 1 0 0 (omega arith)))
    (λ no_sign. let none : start ≡ 0 = at ∙ ap (λ b. cond b (0 + 1) 0) no_sign in
    ap (λ i. slice_index (slice_range bytes 0 i) 0 == 45) none ∙ sym (or_right_false (slice_index bytes 0 == 43) (slice_index bytes 0 == 45) no_sign))
    (cases_Bool (slice_index bytes 0 == 43 || slice_index bytes 0 == 45))

-- what is known of a text that ends here
pub record DecimalText (bytes : List ℕ) (end : ℕ) : Type 0 where
  pub fraction : Option (List ℕ)
  pub parts : HasTextParts (take end bytes) (slice_range bytes 0 (core_start bytes)) (slice_range bytes (core_start bytes) (zeros_end bytes)) (slice_range bytes (zeros_end bytes) (front_end bytes)) fraction (slice_range bytes (behind_end bytes) end)
  pub digits : fraction_digits fraction ≡ slice_range bytes (point_end bytes) (behind_end bytes)
  pub scale : length (fraction_digits fraction) ≡ scale_at bytes
  pub precision : precision_of (slice_range bytes (zeros_end bytes) (front_end bytes)) fraction ≡ precision_at bytes
  pub ordered : behind_end bytes ≤ end
  pub within : end ≤ length bytes
  pub longest : IsLongestDecimal bytes end

pub text_of_scan : (bytes : List ℕ) (end : ℕ) → IsDecimalScan bytes (parts_to bytes end) → DecimalText bytes end
text_of_scan bytes end scan =
    let o = scan_order bytes (parts_to bytes end) scan in
    let d = scanned_decimal bytes (parts_to bytes end) scan in
    let offsets : length (fraction_digits d.fraction) ≡ scale_at bytes = ap length d.digits ∙ length-between bytes (point_end bytes) (behind_end bytes) (omega (arith, o.exponent, o.within)) in
    record {
      fraction = d.fraction;
      parts = d.parts;
      digits = d.digits;
      scale = offsets;
      precision = omega (arith, length-between bytes (zeros_end bytes) (front_end bytes) (counted_digits bytes).within, offsets);
      ordered = o.exponent;
      within = o.within;
      longest = decimal_longest bytes (parts_to bytes end) scan;
    }

pub decimal_text : (bytes : List ℕ) (end : ℕ) → decimal_end bytes ≡ Ok end → DecimalText bytes end
decimal_text bytes end at = text_of_scan bytes end (decimal_scanned bytes end at)

-- zeros in front don't count
pub digits_value_same : (bytes : List ℕ) (fraction : Option (List ℕ)) → fraction_digits fraction ≡ slice_range bytes (point_end bytes) (behind_end bytes) → digits_value 10 (slice_range bytes (zeros_end bytes) (front_end bytes) ++ fraction_digits fraction) ≡ digits_value 10 (all_digits bytes)
digits_value_same bytes fraction same =
    let zeros = core_zeros bytes in
    let front : slice_range bytes (core_start bytes) (front_end bytes) ≡ slice_range bytes (core_start bytes) (zeros_end bytes) ++ slice_range bytes (zeros_end bytes) (front_end bytes) = range_split bytes (core_start bytes) (zeros_end bytes) (front_end bytes) zeros.ordered (counted_digits bytes).ordered in
    sym (value-after_zeros (length (slice_range bytes (core_start bytes) (zeros_end bytes))) (slice_range bytes (zeros_end bytes) (front_end bytes) ++ fraction_digits fraction))
    ∙ ap (λ z. digits_value 10 (z ++ (slice_range bytes (zeros_end bytes) (front_end bytes) ++ fraction_digits fraction))) (sym (zeros_text bytes (core_start bytes) (zeros_end bytes) zeros))
    ∙ ap (λ r. digits_value 10 (slice_range bytes (core_start bytes) (zeros_end bytes) ++ (slice_range bytes (zeros_end bytes) (front_end bytes) ++ r))) same
    ∙ ap (digits_value 10) (sym (append_assoc (slice_range bytes (core_start bytes) (zeros_end bytes)) (slice_range bytes (zeros_end bytes) (front_end bytes)) (slice_range bytes (point_end bytes) (behind_end bytes))))
    ∙ ap (λ f. digits_value 10 (f ++ slice_range bytes (point_end bytes) (behind_end bytes))) (sym front)

representable : (bytes : List ℕ) (end : ℕ) → DecimalText bytes end → behind_end bytes ≡ end → precision_at bytes ≤ 38 → IsDecimalNumber (take end bytes) (decimal_number (scale_at bytes) (precision_at bytes) (signed_by (starts_with_minus bytes) (digits_value 10 (all_digits bytes))))
representable bytes end t no_exponent few =
    let whole : List ℕ = slice_range bytes (zeros_end bytes) (front_end bytes) in
    let signed : signed_by (starts_with_minus bytes) (digits_value 10 (all_digits bytes)) ≡ value_of (slice_range bytes 0 (core_start bytes)) (slice_range bytes (zeros_end bytes) (front_end bytes)) t.fraction =
    ap (λ b. signed_by b (digits_value 10 (all_digits bytes))) (sym (sign_value bytes (core_start bytes) refl)) ∙ ap (signed_by (starts_with_minus (slice_range bytes 0 (core_start bytes)))) (sym (digits_value_same bytes t.fraction t.digits)) in (
      slice_range bytes 0 (core_start bytes),
      slice_range bytes (core_start bytes) (zeros_end bytes),
      slice_range bytes (zeros_end bytes) (front_end bytes),
      t.fraction,
      decimal_parts_of (take end bytes) (slice_range bytes 0 (core_start bytes)) (slice_range bytes (core_start bytes) (zeros_end bytes)) (slice_range bytes (zeros_end bytes) (front_end bytes)) t.fraction
          (subst (HasTextParts (take end bytes) (slice_range bytes 0 (core_start bytes)) (slice_range bytes (core_start bytes) (zeros_end bytes)) (slice_range bytes (zeros_end bytes) (front_end bytes)) t.fraction) (range_none bytes (behind_end bytes) end (sym no_exponent)) t.parts),
      (
        omega (arith, t.precision, few),
        ap (λ s. decimal_number s (precision_at bytes) (signed_by (starts_with_minus bytes) (digits_value 10 (all_digits bytes)))) (sym t.scale)
            ∙ ap (λ q. decimal_number (length (fraction_digits t.fraction)) q (signed_by (starts_with_minus bytes) (digits_value 10 (all_digits bytes)))) (sym t.precision)
            ∙ ap (decimal_number (length (fraction_digits t.fraction)) (precision_of (slice_range bytes (zeros_end bytes) (front_end bytes)) t.fraction)) signed,
      ),
    )

unrepresentable : (bytes : List ℕ) (end : ℕ) → DecimalText bytes end → (behind_end bytes ≢ end) ⊎ (38 < precision_at bytes) → IsUnrepresentableDecimal (take end bytes)
unrepresentable bytes end t why = (
  slice_range bytes 0 (core_start bytes),
  slice_range bytes (core_start bytes) (zeros_end bytes),
  slice_range bytes (zeros_end bytes) (front_end bytes),
  t.fraction,
  slice_range bytes (behind_end bytes) end,
  t.parts,
  ⊎_elim (λ other. inl (λ none. other (omega (arith, ap length none, length-between bytes (behind_end bytes) end t.within, t.ordered)))) (λ many. inr (omega (arith, t.precision, many))) why,
)

-- the number of the text that ends here, or that it is not representable
pub decimal_at_end : (bytes : List ℕ) (end : ℕ) → DecimalText bytes end → MatchOption (decimal_at bytes end) (IsUnrepresentableDecimal (take end bytes)) (IsDecimalNumber (take end bytes))
unfolding decimal_at
decimal_at_end bytes end t =
    ⊎_elim
    (λ last. let tested : (behind_end bytes == end) ≡ true = grind (arith, nat_tests) in
    ⊎_elim
    (λ below. let few : precision_at bytes ≤ 38 = omega (arith, below) in let small : nat_le (precision_at bytes) 38 ≡ true = grind (arith, nat_tests) in rw (tested, small) (representable bytes end t last few))
    (λ above. let many : 38 < precision_at bytes = omega (arith, above) in let large : nat_le (precision_at bytes) 38 ≡ false = grind (arith, nat_tests) in rw (tested, large) (unrepresentable bytes end t (inr many))) (cases_lt (precision_at bytes) 39))
    (λ other. rw (differs (behind_end bytes) end other) (unrepresentable bytes end t (inl other))) (cases_eq (behind_end bytes) end)
