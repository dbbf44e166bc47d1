-- The text that a scan finds is a number.
use Rattle.std.proofs.Common.{◌≡◌, ◌≢◌, ◌⊎◌, ℕ, ◌+◌, ◌-◌, ◌<◌, ◌≤◌, cond, ◌||◌, suc, List, [], ◌∷◌, ◌++◌, length, get_or, take, drop, refl, sym, subst, ap, ◌∙◌, inl, inr, ⊎_elim, arith}
use Rattle.std.specs.Prelude.{slice_index, slice_range, ◌==◌}
use Rattle.std.specs.Int.{IsInRange, from_bool}
use Rattle.std.specs.Fmt.{sign_text}
use Rattle.std.specs.Str.Parse.{AllDigits, IsNumeral, digits_value}
use Rattle.std.proofs.lemmas.Str.{digit_value_digit}
use Rattle.std.proofs.lemmas.Bool.{cases_Bool}
use Rattle.std.proofs.lemmas.Bool.Decides.{nat_tests}
use Rattle.std.proofs.lemmas.List.{take-append-drop, take-take, drop-take, drop-drop, drop_more}
use Rattle.std.proofs.lemmas.Slice.{between_from_start}
use Rattle.std.proofs.lemmas.List.Edits.{length-between, get_or-between, between_none}
use Rattle.jsonb_spec.specs.Tree.{Num}
use Rattle.jsonb_spec.specs.Grammar.StandardNumber.{IsWhole, IsFraction, IsSign, IsExponent, IsInteger, IsStandardNumber}
use Rattle.jsonb_spec.specs.Parsing.Number.{sign_end, has_minus, whole_start}
use Rattle.text_scan.proofs.Numbers.Steps.{sign_end_ge}
use Rattle.text_scan.proofs.Numbers.Scan.{IsDigitRun, IsFractionEnd, IsExponentEnd, IsScan}
use Rattle.text_scan.proofs.Numbers.Automaton.{Start, IsLongest, IsLongest-from_stop}
use Rattle.text_scan.proofs.Numbers.ScanStates.{due, whole_state, fraction_state, exponent_stop}
use Rattle.text_scan.proofs.Numbers.TextParts.{HasParts, IsStandardUnrepresentable, integer_joined}

-- ---- parts of a list

pub range_split : (xs : List ℕ) (a b c : ℕ) → a ≤ b → b ≤ c → slice_range xs a c ≡ slice_range xs a b ++ slice_range xs b c
range_split xs a b c first second =
    let whole : c - a ≡ (b - a) + (c - b) = omega arith in
    let offset : a + (b - a) ≡ b = omega arith in
    let front : take (b - a) (take ((b - a) + (c - b)) (drop a xs)) ≡ take (b - a) (drop a xs) = take-take (b - a) ((b - a) + (c - b)) (drop a xs) (omega arith) in
    let back : drop (b - a) (take ((b - a) + (c - b)) (drop a xs)) ≡ take (c - b) (drop b xs) = drop-take (b - a) (c - b) (drop a xs) ∙ ap (take (c - b)) (drop-drop (b - a) a xs ∙ ap (λ i. drop i xs) offset) in
    ap (λ n. take n (drop a xs)) whole ∙ (sym (take-append-drop (b - a) (take ((b - a) + (c - b)) (drop a xs))) ∙ (ap (λ f. f ++ drop (b - a) (take ((b - a) + (c - b)) (drop a xs))) front ∙ ap (λ r. take (b - a) (drop a xs) ++ r) back))

pub range_cons : (xs : List ℕ) (a c : ℕ) → a < c → c ≤ length xs → slice_range xs a c ≡ slice_index xs a ∷ slice_range xs (a + 1) c
range_cons xs a c some within =
    let count : c - a ≡ suc (c - (a + 1)) = omega arith in
    ap (λ n. take n (drop a xs)) count ∙ ap (take (suc (c - (a + 1)))) (drop_more xs a 0 (omega arith))

pub range_none : (xs : List ℕ) (a b : ℕ) → b ≡ a → slice_range xs a b ≡ []
range_none xs a b none = ap (slice_range xs a) none ∙ between_none xs a

-- ---- digits

AllDigits-from_offsets : (ds : List ℕ) → ((k : ℕ) → k < length ds → IsInRange 48 57 (get_or ds k 0)) → AllDigits 10 ds
AllDigits-from_offsets [] h = tt
AllDigits-from_offsets (c ∷ cs) h =
    let first : IsInRange 48 57 c = h 0 (omega arith) in
    (omega (arith, digit_value_digit c first, first), AllDigits-from_offsets cs (λ k below. h (suc k) (omega arith)))

pub run_digits : (bytes : List ℕ) (start end : ℕ) → IsDigitRun bytes start end → AllDigits 10 (slice_range bytes start end)
run_digits bytes start end digits =
    let long : length (slice_range bytes start end) ≡ end - start = omega (arith, length-between bytes start end, digits.within, digits.ordered) in
    AllDigits-from_offsets (slice_range bytes start end) (λ k below.
    subst (IsInRange 48 57) (sym (get_or-between bytes start end k 0 (omega arith))) (digits.digits (start + k) (omega arith) (omega arith)))

pub run_numeral : (bytes : List ℕ) (start end : ℕ) → start < end → IsDigitRun bytes start end → IsNumeral 10 (slice_range bytes start end)
run_numeral bytes start end some digits =
    (omega (arith, length-between bytes start end, digits.within), run_digits bytes start end digits)

-- ---- the parts

whole_text : (bytes : List ℕ) (start end : ℕ) → IsDigitRun bytes start end → start < end → (slice_index bytes start ≡ 48 → end ≡ start + 1) → IsWhole (slice_range bytes start end)
whole_text bytes start end digits some no_zero = record {
  digits = run_numeral bytes start end some digits;
  no_needless_zero = λ zero_byte.
      let same : slice_index (slice_range bytes start end) 0 ≡ slice_index bytes (start + 0) = get_or-between bytes start end 0 0 (omega arith) in
      let offset : start + 0 ≡ start = omega arith in
      let one : end ≡ start + 1 = no_zero (sym (ap (slice_index bytes) offset) ∙ (sym same ∙ zero_byte)) in
      omega (arith, length-between bytes start end, digits.within, one);
}

fraction_text : (bytes : List ℕ) (start end : ℕ) → IsFractionEnd bytes start end → IsFraction (slice_range bytes start end)
fraction_text bytes start end (inl none) = inl (range_none bytes start end none.0)
fraction_text bytes start end (inr (point, more, digits)) =
    inr (slice_range bytes (start + 1) end, range_cons bytes start end (omega arith) digits.within ∙ ap (λ b. b ∷ slice_range bytes (start + 1) end) point, run_numeral bytes (start + 1) end more digits)

pub sign_part : (bytes : List ℕ) (start d : ℕ) → d ≡ sign_end bytes start → start < length bytes → IsSign (slice_range bytes start d)
sign_part bytes start d at inside =
    ⊎_elim
    (λ sign.
    let offset : d ≡ start + 1 = at ∙ ap (λ b. cond b (start + 1) start) sign in
    let one : slice_range bytes start d ≡ slice_index bytes start ∷ [] = range_cons bytes start d (omega arith) (omega arith) ∙ ap (λ r. slice_index bytes start ∷ r) (range_none bytes (start + 1) d offset) in
    ⊎_elim
    (λ plus. inr (inl (one ∙ ap (λ b. b ∷ []) (let byte : slice_index bytes start ≡ 43 = grind (arith, nat_tests) in byte))))
    (λ no_plus. inr (inr (one ∙ ap (λ b. b ∷ []) (let byte : slice_index bytes start ≡ 45 = grind (arith, nat_tests) in byte))))
    (cases_Bool (slice_index bytes start == 43)))
    (λ no_sign. inl (range_none bytes start d (at ∙ ap (λ b. cond b (start + 1) start) no_sign)))
    (cases_Bool (slice_index bytes start == 43 || slice_index bytes start == 45))

pub exponent_text : (bytes : List ℕ) (start end : ℕ) → IsExponentEnd bytes start end → IsExponent (slice_range bytes start end)
exponent_text bytes start end (inl none) = inl (range_none bytes start end none.0)
exponent_text bytes start end (inr (mark, more, digits)) =
    let d = sign_end bytes (start + 1) in
    let after = sign_end_ge bytes (start + 1) in
    inr record {
      mark = slice_index bytes start;
      sign = slice_range bytes (start + 1) (sign_end bytes (start + 1));
      digits = slice_range bytes (sign_end bytes (start + 1)) end;
      joined = range_cons bytes start end (omega (arith, after)) digits.within ∙ ap (λ r. slice_index bytes start ∷ r) (range_split bytes (start + 1) (sign_end bytes (start + 1)) end after (omega arith));
      is_mark = mark;
      is_sign = sign_part bytes (start + 1) (sign_end bytes (start + 1)) refl (omega (arith, after, digits.within));
      are_digits = run_numeral bytes (sign_end bytes (start + 1)) end more digits;
    }

pub fraction_within : (bytes : List ℕ) (start end : ℕ) → start ≤ length bytes → IsFractionEnd bytes start end → (start ≤ end) × (end ≤ length bytes)
fraction_within bytes start end within (inl none) = (omega (arith, none.0), omega (arith, none.0))
fraction_within bytes start end within (inr (point, more, digits)) = (omega arith, digits.within)

pub exponent_within : (bytes : List ℕ) (start end : ℕ) → start ≤ length bytes → IsExponentEnd bytes start end → (start ≤ end) × (end ≤ length bytes)
exponent_within bytes start end within (inl none) = (omega (arith, none.0), omega (arith, none.0))
exponent_within bytes start end within (inr (mark, more, digits)) = (omega (arith, sign_end_ge bytes (start + 1)), digits.within)

-- the minus, or nothing, in front of the whole part
sign_front : (bytes : List ℕ) (start : ℕ) → start ≡ whole_start bytes → take start bytes ≡ sign_text (has_minus bytes)
sign_front [] start at = ap (λ n. take n []) at
sign_front (b ∷ bs) start at =
    ⊎_elim
    (λ minus. let byte : b ≡ 45 = grind (arith, nat_tests) in ap (λ n. take n (b ∷ bs)) (at ∙ ap from_bool minus) ∙ (ap (λ x. x ∷ []) byte ∙ ap sign_text (sym minus)))
    (λ no_minus. ap (λ n. take n (b ∷ bs)) (at ∙ ap from_bool no_minus) ∙ ap sign_text (sym no_minus)) (cases_Bool (b == 45))

pub scan_end_within : (bytes : List ℕ) (start whole fraction end : ℕ) → IsScan bytes start whole fraction end → (whole ≤ end) × (end ≤ length bytes)
scan_end_within bytes start whole fraction end scan =
    let f = fraction_within bytes whole fraction scan.digits.within scan.fraction_end in
    let e = exponent_within bytes fraction end f.1 scan.exponent_end in
    (omega (arith, f, e), e.1)

pub scan_parts : (bytes : List ℕ) (start whole fraction end : ℕ) → IsScan bytes start whole fraction end → HasParts (take end bytes) (has_minus bytes) (slice_range bytes start whole) (slice_range bytes whole fraction) (slice_range bytes fraction end)
scan_parts bytes start whole fraction end scan =
    let f = fraction_within bytes whole fraction scan.digits.within scan.fraction_end in
    let e = exponent_within bytes fraction end f.1 scan.exponent_end in
    let front : slice_range bytes 0 start ≡ sign_text (has_minus bytes) = between_from_start bytes start ∙ sign_front bytes start scan.first in
    record {
      joined = sym (between_from_start bytes end) ∙ (range_split bytes 0 start end (omega arith) (omega (arith, scan.some_digit, f, e)) ∙ (ap (λ s. s ++ slice_range bytes start end) front ∙ ap (λ r. sign_text (has_minus bytes) ++ r) (range_split bytes start whole end (omega (arith, scan.some_digit)) (omega (arith, f, e)) ∙ ap (λ r. slice_range bytes start whole ++ r) (range_split bytes whole fraction end f.0 e.0))));
      is_whole = whole_text bytes start whole scan.digits scan.some_digit scan.no_needless_zero;
      is_fraction = fraction_text bytes whole fraction scan.fraction_end;
      is_exponent = exponent_text bytes fraction end scan.exponent_end;
    }

pub scan_longest : (bytes : List ℕ) (start whole fraction end : ℕ) → IsScan bytes start whole fraction end → IsLongest bytes end
scan_longest bytes start whole fraction end scan =
    let is_due = due bytes start scan.first (omega (arith, scan.some_digit, scan.digits.within)) in
    let ends = whole_state bytes start whole is_due scan.digits scan.some_digit scan.no_needless_zero in
    let done = fraction_state bytes whole fraction scan.digits.within scan.digits.ends ends scan.fraction_end in
    let stop = exponent_stop Start bytes fraction end done scan.exponent_end in
    IsLongest-from_stop bytes end stop.0 stop.1

-- ---- what was parsed

pub scan_number_text : (bytes : List ℕ) (start whole fraction end : ℕ) (n : Num) → IsScan bytes start whole fraction end → whole ≡ end → IsInteger (has_minus bytes) (digits_value 10 (slice_range bytes start whole)) n → IsStandardNumber (take end bytes) n
scan_number_text bytes start whole fraction end n scan last is_integer =
    let parts = scan_parts bytes start whole fraction end scan in
    let f = fraction_within bytes whole fraction scan.digits.within scan.fraction_end in
    let e = exponent_within bytes fraction end f.1 scan.exponent_end in
    let no_fraction : slice_range bytes whole fraction ≡ [] = range_none bytes whole fraction (omega (arith, f, e, last)) in
    let no_exponent : slice_range bytes fraction end ≡ [] = range_none bytes fraction end (omega (arith, f, e, last)) in
    let alone : HasParts (take end bytes) (has_minus bytes) (slice_range bytes start whole) [] [] =
    subst (λ r. HasParts (take end bytes) (has_minus bytes) (slice_range bytes start whole) [] r) no_exponent
    (subst (λ r. HasParts (take end bytes) (has_minus bytes) (slice_range bytes start whole) r (slice_range bytes fraction end)) no_fraction parts) in (
      has_minus bytes,
      slice_range bytes start whole,
      integer_joined (take end bytes) (has_minus bytes) (slice_range bytes start whole) alone,
      alone.is_whole,
      is_integer,
    )

pub scan_unrepresentable : (bytes : List ℕ) (start whole fraction end : ℕ) → IsScan bytes start whole fraction end → (whole ≢ end) ⊎ ((n : Num) → ¬ IsInteger (has_minus bytes) (digits_value 10 (slice_range bytes start whole)) n) → IsStandardUnrepresentable (take end bytes)
scan_unrepresentable bytes start whole fraction end scan why =
    let f = fraction_within bytes whole fraction scan.digits.within scan.fraction_end in
    let e = exponent_within bytes fraction end f.1 scan.exponent_end in
    let reason : (slice_range bytes whole fraction ++ slice_range bytes fraction end ≢ []) ⊎ ((n : Num) → ¬ IsInteger (has_minus bytes) (digits_value 10 (slice_range bytes start whole)) n) =
    ⊎_elim
    (λ other. inl (λ none.
    other (omega (arith, f, e, length-between bytes whole end e.1, ap length (range_split bytes whole fraction end f.0 e.0 ∙ none)))))
    inr why in
    (has_minus bytes, slice_range bytes start whole, slice_range bytes whole fraction, slice_range bytes fraction end, scan_parts bytes start whole fraction end scan, reason)
