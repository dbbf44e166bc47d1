-- Where digits end, and where a number does, byte by byte.
use Rattle.std.proofs.Common.{◌≡◌, ◌≢◌, ◌⊎◌, ℕ, ◌+◌, ◌-◌, ◌*◌, ◌^◌, ◌<◌, ◌≤◌, true, false, ◌||◌, zero, suc, List, [], ◌∷◌, length, take, drop, refl, sym, subst, ap, ◌∙◌, inl, inr, ⊎_elim, arith, Bool, Option, Some, None, Result, Ok, Err}
use Rattle.std.specs.Prelude.{slice_index, ◌==◌, nat_le, nat_lt}
use Rattle.std.specs.Char.{is_ascii_digit}
use Rattle.std.specs.Int.{IsInRange, from_bool}
use Rattle.std.specs.Option.{SomeIff}
use Rattle.std.specs.Str.Parse.{AllDigits, digits_value}
use Rattle.std.proofs.lemmas.Str.{digit_value_digit}
use Rattle.std.proofs.lemmas.Int.Digits.{digits_value_more}
use Rattle.std.proofs.lemmas.List.{get_or-drop, length-drop, drop-drop}
use Rattle.std.proofs.lemmas.List.Sums.{prefix_len-drop_all, prefix_len-le-length}
use Rattle.std.proofs.Math.Nat.{pow-suc, pow-le-pow_right}
use Rattle.std.proofs.lemmas.Bool.{cases_Bool, cases_eq, false≢true, and_right}
use Rattle.std.proofs.lemmas.Bool.Decides.{nat_tests}
use Rattle.jsonb_spec.specs.Code.{invalid_number_value, number_not_carried}
use Rattle.jsonb_spec.specs.Grammar.StandardNumber.{IsExponentMark}
use Rattle.jsonb_spec.specs.Tree.{Num}
use Rattle.jsonb_spec.specs.Parsing.{fault}
use Rattle.jsonb_spec.specs.Parsing.Number.{ContinuesAfterInteger, ContinuesNumber, is_number_start, End, then_from, digits_length, digits_from, sign_end, exponent_from, fraction_from, whole_from, has_minus, whole_start, standard_end, integer_of, whole_digits, integer_at, representable_at, number_to, standard_number_at}
use Rattle.text_scan.specs.ShortInteger.{short_view}
use Rattle.text_scan.proofs.Numbers.Runs.{run_more, run_stop}

-- ---- bytes

pub is_digit : (b : ℕ) → IsInRange 48 57 b → is_ascii_digit b ≡ true
is_digit b h = grind (arith, nat_tests)

pub digit_is : (b : ℕ) → is_ascii_digit b ≡ true → IsInRange 48 57 b
digit_is b e = (grind (arith, nat_tests), grind (arith, nat_tests))

pub is_no_digit : (b : ℕ) → ¬ IsInRange 48 57 b → is_ascii_digit b ≡ false
is_no_digit b h = ⊎_elim (λ e. absurd (h (digit_is b e))) (λ e. e) (cases_Bool (is_ascii_digit b))

pub differs : (a b : ℕ) → a ≢ b → (a == b) ≡ false
differs a b h = grind (arith, nat_tests)

pub is_mark : (b : ℕ) → IsExponentMark b → (b == 101 || b == 69) ≡ true
is_mark b (inl e) = rw e refl
is_mark b (inr e) = rw e refl

pub is_no_mark : (b : ℕ) → ¬ IsExponentMark b → (b == 101 || b == 69) ≡ false
is_no_mark b h =
    let small : (b == 101) ≡ false = differs b 101 (λ e. h (inl e)) in
    let great : (b == 69) ≡ false = differs b 69 (λ e. h (inr e)) in
    rw (small, great) refl

pub is_zero : (n : ℕ) → n ≡ 0 → (n == 0) ≡ true
is_zero n e = grind (arith, nat_tests)

pub is_some : (n : ℕ) → 0 < n → (n == 0) ≡ false
is_some n e = grind (arith, nat_tests)

pub is_below : (a b : ℕ) → a < b → nat_lt a b ≡ true
is_below a b h = grind (arith, nat_tests)

pub is_not_below : (a b : ℕ) → b ≤ a → nat_lt a b ≡ false
is_not_below a b h = grind (arith, nat_tests)

-- ---- digits

pub digits_more : (bs : List ℕ) (i : ℕ) → IsInRange 48 57 (slice_index bs i) → digits_length (drop i bs) ≡ suc (digits_length (drop (suc i) bs))
unfolding digits_length
digits_more bs i h = run_more is_ascii_digit refl bs i (is_digit (slice_index bs i) h)

pub digits_stop : (bs : List ℕ) (i : ℕ) → ¬ IsInRange 48 57 (slice_index bs i) → digits_length (drop i bs) ≡ 0
unfolding digits_length
digits_stop bs i h = run_stop is_ascii_digit refl bs i (is_no_digit (slice_index bs i) h)

-- past the end there are none
pub digits_past : (bs : List ℕ) (i : ℕ) → length bs ≤ i → digits_length (drop i bs) ≡ 0
unfolding digits_length
digits_past bs i h = prefix_len-drop_all is_ascii_digit bs i h

pub digits_within : (bs : List ℕ) → digits_length bs ≤ length bs
unfolding digits_length
digits_within bs = prefix_len-le-length is_ascii_digit bs

pub all_digits : (bs : List ℕ) → AllDigits 10 (take (digits_length bs) bs)
unfolding digits_length
all_digits [] = tt
all_digits (b ∷ bs) =
    ⊎_elim
    (λ digit. let byte = digit_is b digit in let one : 1 + digits_length bs ≡ suc (digits_length bs) = omega arith in rw (digit, one) (omega (arith, digit_value_digit b byte, byte), all_digits bs))
    (λ other. rw other tt) (cases_Bool (is_ascii_digit b))

-- ---- standard numbers

-- a whole part is there, with no needless zero
abbrev pub IsWholeAt : List ℕ → ℕ → Type 0
IsWholeAt bs start = (0 < digits_length (drop start bs)) × ((slice_index bs start ≢ 48) ⊎ (digits_length (drop start bs) ≤ 1))

pub missing_at : (bs : List ℕ) (start : ℕ) → digits_length (drop start bs) ≡ 0 → whole_from bs start ≡ Err start
unfolding whole_from
missing_at bs start none = rw (is_zero (digits_length (drop start bs)) none) refl

pub needless_at : (bs : List ℕ) (start : ℕ) → 1 < digits_length (drop start bs) → slice_index bs start ≡ 48 → whole_from bs start ≡ Err (start + 2)
unfolding whole_from
needless_at bs start more zero_byte =
    let many : nat_lt 1 (digits_length (drop start bs)) ≡ true = grind (arith, nat_tests) in
    rw (is_some (digits_length (drop start bs)) (omega (arith, more)), zero_byte, many) refl

pub found_at : (bs : List ℕ) (start : ℕ) → IsWholeAt bs start → whole_from bs start ≡ Ok (digits_from bs start)
unfolding whole_from
found_at bs start (some, inl other) = rw (is_some (digits_length (drop start bs)) some, differs (slice_index bs start) 48 other) refl
found_at bs start (some, inr single) =
    let one : nat_lt 1 (digits_length (drop start bs)) ≡ false = grind (arith, nat_tests) in
    rw (is_some (digits_length (drop start bs)) some, and_right (slice_index bs start == 48) (nat_lt 1 (digits_length (drop start bs))) one) refl

-- where the whole part is due, and the index after it
abbrev pub whole_end : List ℕ → ℕ
whole_end bs = digits_from bs (whole_start bs)

abbrev pub HasWhole : List ℕ → Type 0
HasWhole bs = IsWholeAt bs (whole_start bs)

-- no digit where the whole part is due
pub whole_missing : (bs : List ℕ) → digits_length (drop (whole_start bs) bs) ≡ 0 → standard_end bs ≡ Err (whole_start bs)
unfolding standard_end
whole_missing bs none = ap (λ r. then_from (then_from r (fraction_from bs)) (exponent_from bs)) (missing_at bs (whole_start bs) none)

-- a digit after a zero in front
pub whole_needless : (bs : List ℕ) → 1 < digits_length (drop (whole_start bs) bs) → slice_index bs (whole_start bs) ≡ 48 → standard_end bs ≡ Err (whole_start bs + 2)
unfolding standard_end
whole_needless bs more zero_byte = ap (λ r. then_from (then_from r (fraction_from bs)) (exponent_from bs)) (needless_at bs (whole_start bs) more zero_byte)

pub whole_found : (bs : List ℕ) → HasWhole bs → standard_end bs ≡ then_from (fraction_from bs (whole_end bs)) (exponent_from bs)
unfolding standard_end
whole_found bs has_whole = ap (λ r. then_from (then_from r (fraction_from bs)) (exponent_from bs)) (found_at bs (whole_start bs) has_whole)

pub no_fraction : (bs : List ℕ) (start : ℕ) → slice_index bs start ≢ 46 → fraction_from bs start ≡ Ok start
unfolding fraction_from
no_fraction bs start other = rw (differs (slice_index bs start) 46 other) refl

pub no_exponent : (bs : List ℕ) (start : ℕ) → ¬ IsExponentMark (slice_index bs start) → exponent_from bs start ≡ Ok start
unfolding exponent_from
no_exponent bs start other = rw (is_no_mark (slice_index bs start) other) refl

-- the whole part is all there is
pub whole_alone : (bs : List ℕ) → HasWhole bs → slice_index bs (whole_end bs) ≢ 46 → ¬ IsExponentMark (slice_index bs (whole_end bs)) → standard_end bs ≡ Ok (whole_end bs)
whole_alone bs has_whole no_point no_mark =
    whole_found bs has_whole ∙ (ap (λ r. then_from r (exponent_from bs)) (no_fraction bs (whole_end bs) no_point) ∙ no_exponent bs (whole_end bs) no_mark)

-- ---- the number

read_fault : (size : ℕ) (bs : List ℕ) (offset : ℕ) → standard_end bs ≡ Err offset → standard_number_at size bs ≡ fault invalid_number_value (size - length bs + offset)
unfolding standard_number_at
read_fault size bs offset at = ap (number_to size bs) at

pub read_integer : (size : ℕ) (bs : List ℕ) → standard_end bs ≡ Ok (whole_end bs) → standard_number_at size bs ≡ representable_at size (drop (whole_end bs) bs) (integer_of (has_minus bs) (digits_value 10 (whole_digits bs)))
unfolding standard_number_at integer_at
read_integer size bs at =
    let same : (whole_end bs == whole_end bs) ≡ true = grind (arith, nat_tests) in
    ap (number_to size bs) at ∙ rw same refl

-- ---- one step of a loop over digits

pub digits_go_on : (bs : List ℕ) (i total : ℕ) → is_ascii_digit (slice_index bs i) ≡ true → total ≡ i + digits_length (drop i bs) → total ≡ i + 1 + digits_length (drop (i + 1) bs)
digits_go_on bs i total digit before =
    let one : suc i ≡ i + 1 = omega arith in
    let after : digits_length (drop (suc i) bs) ≡ digits_length (drop (i + 1) bs) = ap (λ j. digits_length (drop j bs)) one in
    omega (arith, before, digits_more bs i (digit_is (slice_index bs i) digit), after)

pub digits_end_here : (bs : List ℕ) (i total : ℕ) → is_ascii_digit (slice_index bs i) ≡ false → total ≡ i + digits_length (drop i bs) → i ≡ total
digits_end_here bs i total other before =
    omega (arith, before, digits_stop bs i (λ digit. false≢true (sym other ∙ is_digit (slice_index bs i) digit)))

pub digits_end_past : (bs : List ℕ) (i total : ℕ) → length bs ≤ i → total ≡ i + digits_length (drop i bs) → i ≡ total
digits_end_past bs i total past before = omega (arith, before, digits_past bs i past)

-- the number of so many digits, and with one digit more
pub record AddsDigit (bs : List ℕ) (i value digit : ℕ) : Type 0 where
  pub fits : value * 10 + digit < 2 ^ 64
  pub is_value : value * 10 + digit ≡ digits_value 10 (take (i + 1) bs)
  pub below : value * 10 + digit < 10 ^ (i + 1)

pub adds_digit : (bs : List ℕ) (i value digit : ℕ) → i < length bs → i < 19 → is_ascii_digit (slice_index bs i) ≡ true → value ≡ digits_value 10 (take i bs) → value < 10 ^ i → digit ≡ slice_index bs i - 48 → AddsDigit bs i value digit
adds_digit bs i value digit inside few tested is_value below byte =
    let range = digit_is (slice_index bs i) tested in
    let ten : 10 ^ (i + 1) ≡ 10 ^ i * 10 = let one : i + 1 ≡ suc i = omega arith in ap (λ j. 10 ^ j) one ∙ pow-suc 10 i in
    let small : 10 ^ i ≤ 10 ^ 18 = pow-le-pow_right {n = 10} (omega arith) {i = i} {j = 18} (omega arith) in
    record {
      fits = omega (arith, range, below, small, byte);
      is_value = omega (arith, is_value, digits_value_more 10 bs i inside, digit_value_digit (slice_index bs i) range, byte);
      below = omega (arith, range, below, ten, byte);
    }

pub value_fits : (bs : List ℕ) (i value : ℕ) → i ≤ 19 → i ≡ digits_length bs → value ≡ digits_value 10 (take i bs) → value < 10 ^ i → (digits_value 10 (take (digits_length bs) bs) < 2 ^ 64) × (value ≡ digits_value 10 (take (digits_length bs) bs))
value_fits bs i value few all is_value below =
    let same : value ≡ digits_value 10 (take (digits_length bs) bs) = is_value ∙ ap (λ n. digits_value 10 (take n bs)) all in
    let small : 10 ^ i ≤ 10 ^ 19 = pow-le-pow_right {n = 10} (omega arith) {i = i} {j = 19} (omega arith) in
    (omega (arith, same, below, small), same)

-- ---- a fraction and an exponent

pub fraction_bare : (bs : List ℕ) (start end : ℕ) → slice_index bs start ≡ 46 → end ≡ digits_from bs (start + 1) → end ≡ start + 1 → fraction_from bs start ≡ Err (start + 2)
unfolding fraction_from
fraction_bare bs start end point at none =
    rw (point, is_zero (digits_length (drop (start + 1) bs)) (omega (arith, at, none))) refl

pub fraction_some : (bs : List ℕ) (start end : ℕ) → slice_index bs start ≡ 46 → end ≡ digits_from bs (start + 1) → end ≢ start + 1 → fraction_from bs start ≡ Ok end
unfolding fraction_from
fraction_some bs start end point at some =
    rw (point, is_some (digits_length (drop (start + 1) bs)) (omega (arith, at, some))) (ap Ok (sym at))

pub exponent_bare : (bs : List ℕ) (start digits end : ℕ) → IsExponentMark (slice_index bs start) → digits ≡ sign_end bs (start + 1) → end ≡ digits_from bs digits → end ≡ digits → exponent_from bs start ≡ Err digits
unfolding exponent_from
exponent_bare bs start digits end mark there at none =
    let same : end ≡ digits_from bs (sign_end bs (start + 1)) = subst (λ d. end ≡ digits_from bs d) there at in
    rw (is_mark (slice_index bs start) mark, is_zero (digits_length (drop (sign_end bs (start + 1)) bs)) (omega (arith, same, none, there))) (ap Err (sym there))

pub exponent_some : (bs : List ℕ) (start digits end : ℕ) → IsExponentMark (slice_index bs start) → digits ≡ sign_end bs (start + 1) → end ≡ digits_from bs digits → end ≢ digits → exponent_from bs start ≡ Ok end
unfolding exponent_from
exponent_some bs start digits end mark there at some =
    let same : end ≡ digits_from bs (sign_end bs (start + 1)) = subst (λ d. end ≡ digits_from bs d) there at in
    rw (is_mark (slice_index bs start) mark, is_some (digits_length (drop (sign_end bs (start + 1)) bs)) (omega (arith, same, some, there))) (ap Ok (sym same))

pub sign_end_ge : (bs : List ℕ) (i : ℕ) → i ≤ sign_end bs i
sign_end_ge bs i =
    ⊎_elim (λ sign. rw sign (omega arith)) (λ no_sign. rw no_sign (omega arith)) (cases_Bool (slice_index bs i == 43 || slice_index bs i == 45))

-- ---- where a fraction and an exponent end

pub by_digits : (n : ℕ) → (n ≡ 0) ⊎ (0 < n)
by_digits zero = inl refl
by_digits (suc n) = inr (omega arith)

pub ok_same : {A B : Type 0} {r : Result A B} {a b : A} → r ≡ Ok a → r ≡ Ok b → a ≡ b
ok_same first second = cc

pub ok_no_err : {A B : Type 0} {r : Result A B} {a : A} {b : B} → r ≡ Ok a → r ≡ Err b → ⊥
ok_no_err first second = absurd (cc)

fraction_at_point : (bs : List ℕ) (start end : ℕ) → slice_index bs start ≡ 46 → fraction_from bs start ≡ Ok end → start < end
fraction_at_point bs start end point at =
    ⊎_elim
    (λ none. absurd (ok_no_err at (fraction_bare bs start (digits_from bs (start + 1)) point refl (omega (arith, none)))))
    (λ some. omega (arith, ok_same at (fraction_some bs start (digits_from bs (start + 1)) point refl (omega (arith, some)))))
    (by_digits (digits_length (drop (start + 1) bs)))

exponent_at_mark : (bs : List ℕ) (start end : ℕ) → IsExponentMark (slice_index bs start) → exponent_from bs start ≡ Ok end → start < end
exponent_at_mark bs start end mark at =
    ⊎_elim
    (λ none. absurd (ok_no_err at (exponent_bare bs start (sign_end bs (start + 1)) (digits_from bs (sign_end bs (start + 1))) mark refl refl (omega (arith, none)))))
    (λ some. omega (arith, sign_end_ge bs (start + 1), ok_same at (exponent_some bs start (sign_end bs (start + 1)) (digits_from bs (sign_end bs (start + 1))) mark refl refl (omega (arith, some)))))
    (by_digits (digits_length (drop (sign_end bs (start + 1)) bs)))

pub mark_or_not : (b : ℕ) → IsExponentMark b ⊎ (IsExponentMark b → ⊥)
mark_or_not b = ⊎_elim (λ small. inl (inl small)) (λ no_small. ⊎_elim (λ great. inl (inr great)) (λ no_great. inr (⊎_elim no_small no_great)) (cases_eq b 69)) (cases_eq b 101)

pub exponent_ge : (bs : List ℕ) (start end : ℕ) → exponent_from bs start ≡ Ok end → start ≤ end
exponent_ge bs start end at =
    ⊎_elim (λ mark. omega (arith, exponent_at_mark bs start end mark at)) (λ other. omega (arith, ok_same at (no_exponent bs start other))) (mark_or_not (slice_index bs start))

-- what then_from joins
pub then_ok : (r : End) (f : ℕ → End) (end : ℕ) → then_from r f ≡ Ok end → (middle : ℕ) × (r ≡ Ok middle) × (f middle ≡ Ok end)
then_ok (Ok middle) f end at = (middle, refl, at)
then_ok (Err offset) f end at = absurd (cc)

-- a point or a mark after the whole part takes the end on
past_whole : (bs : List ℕ) (start end : ℕ) → ContinuesAfterInteger (slice_index bs start) → then_from (fraction_from bs start) (exponent_from bs) ≡ Ok end → start < end
past_whole bs start end (inl point) at =
    let parts = then_ok (fraction_from bs start) (exponent_from bs) end at in
    omega (arith, fraction_at_point bs start parts.0 point parts.1, exponent_ge bs parts.0 end parts.2)
past_whole bs start end (inr mark) at =
    let parts = then_ok (fraction_from bs start) (exponent_from bs) end at in
    let same : parts.0 ≡ start = ok_same parts.1 (no_fraction bs start (mark_no_point (slice_index bs start) mark)) in
    exponent_at_mark bs start end mark (subst (λ i. exponent_from bs i ≡ Ok end) same parts.2)
  where
    mark_no_point : (b : ℕ) → IsExponentMark b → b ≢ 46
    mark_no_point b mark = λ point. ⊎_elim (λ e. omega arith) (λ e. omega arith) mark

-- ---- a parser at an index of its input

invalid_in : (idx offset : ℕ) (buf : List ℕ) → idx ≤ length buf → standard_end (drop idx buf) ≡ Err offset → standard_number_at (length buf) (drop idx buf) ≡ Err (record { code = invalid_number_value; offset = idx + offset })
invalid_in idx offset buf inside at =
    let there : length buf - length (drop idx buf) + offset ≡ idx + offset = omega (arith, length-drop idx buf) in
    read_fault (length buf) (drop idx buf) offset at ∙ ap (λ p. fault invalid_number_value p) there

-- the fault inside of a number text
pub invalid_at : (idx offset : ℕ) (buf bs : List ℕ) → idx ≤ length buf → bs ≡ drop idx buf → standard_end bs ≡ Err offset → standard_number_at (length buf) (drop idx buf) ≡ Err (record { code = invalid_number_value; offset = idx + offset })
invalid_at idx offset buf bs inside same at = invalid_in idx offset buf inside (subst (λ xs. standard_end xs ≡ Err offset) same at)

-- a number text that goes on past its whole part
pub read_past : (size end : ℕ) (bs : List ℕ) → HasWhole bs → end ≡ whole_end bs → standard_number_at size bs ≡ number_to size bs (then_from (fraction_from bs end) (exponent_from bs))
unfolding standard_number_at
read_past size end bs has_whole at =
    ap (number_to size bs) (whole_found bs has_whole ∙ ap (λ i. then_from (fraction_from bs i) (exponent_from bs)) (sym at))

unrepresentable_in : (idx end last : ℕ) (buf : List ℕ) → idx ≤ length buf → end ≡ whole_end (drop idx buf) → ContinuesAfterInteger (slice_index (drop idx buf) end) → then_from (fraction_from (drop idx buf) end) (exponent_from (drop idx buf)) ≡ Ok last → last ≤ length (drop idx buf) → number_to (length buf) (drop idx buf) (Ok last) ≡ Err (record { code = number_not_carried; offset = idx + last })
unfolding integer_at
unrepresentable_in idx end last buf inside at goes_on found within =
    let later = past_whole (drop idx buf) end last goes_on found in
    let there : length buf - length (drop last (drop idx buf)) ≡ idx + last = omega (arith, length-drop idx buf, length-drop last (drop idx buf), within) in
    rw (differs (whole_end (drop idx buf)) last (λ same. omega (arith, at, later))) (ap (λ p. fault number_not_carried p) there)

pub unrepresentable_at : (idx end last : ℕ) (buf bs : List ℕ) → idx ≤ length buf → bs ≡ drop idx buf → end ≡ whole_end bs → ContinuesAfterInteger (slice_index bs end) → then_from (fraction_from bs end) (exponent_from bs) ≡ Ok last → last ≤ length bs → number_to (length buf) (drop idx buf) (then_from (fraction_from (drop idx buf) end) (exponent_from (drop idx buf))) ≡ Err (record { code = number_not_carried; offset = idx + last })
unrepresentable_at idx end last buf bs inside same at goes_on found within =
    let found_in = subst (λ xs. then_from (fraction_from xs end) (exponent_from xs) ≡ Ok last) same found in
    ap (number_to (length buf) (drop idx buf)) found_in
    ∙ unrepresentable_in idx end last buf inside (subst (λ xs. end ≡ whole_end xs) same at) (subst (λ xs. ContinuesAfterInteger (slice_index xs end)) same goes_on) found_in (subst (λ xs. last ≤ length xs) same within)

-- a whole part and no more
pub integer_read : (idx end : ℕ) (buf bs : List ℕ) (r : Option Num) → bs ≡ drop idx buf → HasWhole bs → end ≡ whole_end bs → ¬ ContinuesAfterInteger (slice_index bs end) → integer_of (has_minus bs) (digits_value 10 (whole_digits bs)) ≡ r → standard_number_at (length buf) (drop idx buf) ≡ representable_at (length buf) (drop (idx + end) buf) r
integer_read idx end buf bs r same has_whole at stops is_integer =
    let alone : standard_end bs ≡ Ok (whole_end bs) = whole_alone bs has_whole (λ point. stops (inl (ap (slice_index bs) at ∙ point))) (λ mark. stops (inr (subst (λ i. IsExponentMark (slice_index bs i)) (sym at) mark))) in
    let rest : drop (whole_end bs) bs ≡ drop (idx + end) buf = ap (λ i. drop i bs) (sym at) ∙ (ap (drop end) same ∙ drop-drop end idx buf) in
    sym (ap (standard_number_at (length buf)) same)
    ∙ (read_integer (length buf) bs alone
    ∙ (ap (λ xs. representable_at (length buf) xs (integer_of (has_minus bs) (digits_value 10 (whole_digits bs)))) rest ∙ ap (representable_at (length buf) (drop (idx + end) buf)) is_integer))

-- ---- the whole part that a parser found

pub record FoundWhole (bs : List ℕ) (start count : ℕ) : Type 0 where
  pub start_is : start ≡ whole_start bs
  pub count_is : count ≡ digits_length (drop (whole_start bs) bs)

pub found_whole : (bs ds : List ℕ) (start count minus : ℕ) → minus ≡ slice_index bs 0 → start ≡ from_bool (minus == 45) → ds ≡ drop (whole_start bs) bs → count ≡ digits_length ds → FoundWhole bs start count
found_whole bs ds start count minus byte at after counted = record {
  start_is = at ∙ ap (λ b. from_bool (b == 45)) byte;
  count_is = counted ∙ ap digits_length after;
}

pub found_has_whole : (bs : List ℕ) (start count first : ℕ) → FoundWhole bs start count → (count ≡ 0 → ⊥) → first ≡ slice_index bs start → ((1 < count) × (first ≡ 48 → ⊥)) ⊎ (count ≤ 1) → HasWhole bs
found_has_whole bs start count first found some byte (inl (many, other)) =
    (omega (arith, found.count_is, some), inl (λ zero_byte. other (byte ∙ (ap (slice_index bs) found.start_is ∙ zero_byte))))
found_has_whole bs start count first found some byte (inr few) = (omega (arith, found.count_is, some), inr (omega (arith, found.count_is, few)))

pub found_end : (bs : List ℕ) (start count : ℕ) → FoundWhole bs start count → start + count ≡ whole_end bs
found_end bs start count found = omega (arith, found.start_is, found.count_is)

-- the faults in a whole part
pub found_missing : (bs : List ℕ) (start count : ℕ) → FoundWhole bs start count → count ≡ 0 → standard_end bs ≡ Err start
found_missing bs start count found none = whole_missing bs (sym found.count_is ∙ none) ∙ ap Err (sym found.start_is)

pub found_needless : (bs : List ℕ) (start count first : ℕ) → FoundWhole bs start count → 1 < count → first ≡ slice_index bs start → first ≡ 48 → standard_end bs ≡ Err (start + 2)
found_needless bs start count first found many byte zero_byte =
    whole_needless bs (omega (arith, found.count_is, many)) (sym (byte ∙ ap (slice_index bs) found.start_is) ∙ zero_byte) ∙ ap (λ i. Err (i + 2)) (sym found.start_is)

-- what its digits' value is
pub found_value : (bs ds : List ℕ) (v : Option ℕ) → ds ≡ drop (whole_start bs) bs → SomeIff v (digits_value 10 (take (digits_length ds) ds) < 2 ^ 128) (digits_value 10 (take (digits_length ds) ds)) → SomeIff v (digits_value 10 (whole_digits bs) < 2 ^ 128) (digits_value 10 (whole_digits bs))
found_value bs ds v after value = subst (λ xs. SomeIff v (digits_value 10 (take (digits_length xs) xs) < 2 ^ 128) (digits_value 10 (take (digits_length xs) xs))) after value

-- a whole part whose value no type holds
pub integer_missing : (idx end : ℕ) (buf bs : List ℕ) → idx ≤ length buf → bs ≡ drop idx buf → HasWhole bs → end ≡ whole_end bs → ¬ ContinuesAfterInteger (slice_index bs end) → integer_of (has_minus bs) (digits_value 10 (whole_digits bs)) ≡ None → standard_number_at (length buf) (drop idx buf) ≡ Err (record { code = number_not_carried; offset = idx + end })
integer_missing idx end buf bs inside same has_whole at stops is_none =
    let there : length buf - length (drop (idx + end) buf) ≡ idx + end = omega (arith, length-drop (idx + end) buf, length-drop idx buf, ap length same, digits_within (drop (whole_start bs) bs), length-drop (whole_start bs) bs, has_whole.0, at, inside) in
    integer_read idx end buf bs None same has_whole at stops is_none ∙ ap (λ p. fault number_not_carried p) there

-- ---- an integer of few digits

-- No byte goes on with a number after the digits that were counted, so these are all.
pub counted_all : (ds : List ℕ) (len : ℕ) → digits_length ds ≡ len + digits_length (drop len ds) → ¬ ContinuesNumber (slice_index ds len) → len ≡ digits_length ds
counted_all ds len more stops = omega (arith, more, digits_stop ds len (λ digit. stops (inl digit)))

-- the first byte is a digit or a minus
pub starts_here : (bs : List ℕ) → 0 < digits_length (drop (whole_start bs) bs) → is_number_start (slice_index bs 0) ≡ true
starts_here bs some = ⊎_elim (λ minus. or_right (is_ascii_digit (slice_index bs 0)) (has_minus bs) minus) (λ none. digit none) (cases_Bool (has_minus bs))
  where
    or_right : (x y : Bool) → y ≡ true → (x || y) ≡ true
    or_right true y h = refl
    or_right false y h = h

    digit : has_minus bs ≡ false → is_number_start (slice_index bs 0) ≡ true
    digit none =
        let first : 0 < digits_length (drop 0 bs) = subst (λ b. 0 < digits_length (drop (from_bool b) bs)) none some in
        ⊎_elim (λ digit. rw digit refl) (λ other. absurd (omega (arith, first, digits_stop bs 0 (λ range. false≢true (sym other ∙ is_digit (slice_index bs 0) range))))) (cases_Bool (is_ascii_digit (slice_index bs 0)))

-- what is parsed of an integer
pub short_read : (size : ℕ) (bs ds : List ℕ) (start len value first minus : ℕ) (n : Num) → ds ≡ drop (whole_start bs) bs → minus ≡ slice_index bs 0 → start ≡ from_bool (minus == 45) → (len ≡ 0 → ⊥) → len ≡ digits_length ds → ¬ ContinuesNumber (slice_index ds len)
    → ((1 < len) × (first ≡ 48 → ⊥)) ⊎ (len ≤ 1) → first ≡ slice_index ds 0 → value ≡ digits_value 10 (take len ds) → integer_of (minus == 45) value ≡ Some n → standard_number_at size bs ≡ Ok (n, drop (start + len) bs)
short_read size bs ds start len value first minus n after byte at some all stops needless first_byte is_value is_integer =
    let found = found_whole bs ds start len minus byte at after all in
    let first_at : first ≡ slice_index bs start = first_byte ∙ ap (λ xs. slice_index xs 0) after ∙ get_or-drop (whole_start bs) bs 0 0 ∙ ap (slice_index bs) (omega (arith, found.start_is)) in
    let has_whole = found_has_whole bs start len first found some first_at needless in
    let end = found_end bs start len found in
    let next : slice_index ds len ≡ slice_index bs (start + len) = ap (λ xs. slice_index xs len) after ∙ get_or-drop (whole_start bs) bs len 0 ∙ ap (slice_index bs) (omega (arith, found.start_is)) in
    let here : slice_index ds len ≡ slice_index bs (whole_end bs) = next ∙ ap (slice_index bs) end in
    let alone : standard_end bs ≡ Ok (whole_end bs) = whole_alone bs has_whole (λ point. stops (inr (inl (here ∙ point)))) (λ mark. stops (inr (inr (subst IsExponentMark (sym here) mark)))) in
    let digits : value ≡ digits_value 10 (whole_digits bs) = is_value ∙ ap (λ k. digits_value 10 (take k ds)) all ∙ ap (λ xs. digits_value 10 (take (digits_length xs) xs)) after in
    read_integer size bs alone
    ∙ ap (representable_at size (drop (whole_end bs) bs)) (ap (λ v. integer_of (has_minus bs) v) (sym digits) ∙ ap (λ b. integer_of (b == 45) value) (sym byte) ∙ is_integer)
    ∙ ap (λ i. Ok (n, drop i bs)) (sym end)

-- the integer that a magnitude gives that its type holds
pub short_is : (negative : Bool) (magnitude end : ℕ) → magnitude < 2 ^ 64 → (negative ≡ true → magnitude < 2 ^ 63) → integer_of negative magnitude ≡ Some (short_view (record { negative = negative; magnitude = magnitude; end = end }))
short_is false magnitude end fits small = let tested : nat_lt magnitude (2 ^ 64) ≡ true = grind (arith, nat_tests) in rw tested refl
short_is true magnitude end fits small =
    let below = small refl in
    let tested : nat_le magnitude (2 ^ 63) ≡ true = grind (arith, nat_tests) in
    rw tested refl
