-- Parsing a decimal of few digits at once gives the same.
use Rattle.std.proofs.Common.{◌≡◌, ◌≢◌, ◌⊎◌, ℕ, ◌+◌, ◌-◌, ◌^◌, ◌<◌, ◌≤◌, Bool, true, false, ◌&&◌, Some, List, [], ◌++◌, length, take, drop, refl, sym, subst, ap, ◌∙◌, inl, inr, ⊎_elim, arith, Ok}
use Rattle.std.specs.Prelude.{slice_index, slice_range, ◌==◌, nat_lt, nat_le}
use Rattle.std.specs.Char.{to_ascii_lowercase}
use Rattle.std.specs.Int.{IsInRange}
use Rattle.std.specs.Str.Parse.{digits_value, digits_value_after, starts_with_minus}
use Rattle.std.proofs.lemmas.Bool.{cases_Bool, cases_lt, cond-false, cond-true, and_parts}
use Rattle.std.proofs.lemmas.Bool.Decides.{nat_tests}
use Rattle.std.proofs.lemmas.List.{append-nil, length-append}
use Rattle.std.proofs.lemmas.List.Edits.{length-between}
use Rattle.jsonb_spec.specs.Grammar.StandardNumber.{IsExponentMark}
use Rattle.jsonb_spec.specs.Grammar.ExtendedNumber.{decimal_number}
use Rattle.jsonb_spec.specs.Number.Signed.{signed_by}
use Rattle.jsonb_spec.specs.Tree.{Num}
use Rattle.jsonb_spec.specs.Parsing.Number.{ContinuesAfterInteger, digits_length, digits_from, sign_end}
use Rattle.jsonb_spec.specs.Parsing.ExtendedNumber.{FollowsDigits, core_start, core_byte, zeros_end, front_end, point_end, behind_end, scale_at, precision_at, lacks_digits, has_second_point, decimal_end, all_digits, decimal_at, decimal_to, decimal_scan, is_word_start, is_hexadecimal_start, extended_scan}
use Rattle.text_scan.proofs.Numbers.DecimalScan.{HasDigits, core_zeros, core_digits, counted_digits, point_here, point_ordered, digits_tested}
use Rattle.text_scan.proofs.Numbers.DecimalScanText.{behind_digits, digits_value_same}
use Rattle.text_scan.proofs.Numbers.DigitValues.{value_after-append, value_after_lt}
use Rattle.text_scan.proofs.Numbers.Extended.{is_letter, decimal_by_kind}
use Rattle.text_scan.proofs.Numbers.ExtendedTexts.{letter_is, mark_is}
use Rattle.text_scan.proofs.Numbers.Steps.{differs, no_exponent, is_not_below}
use Rattle.text_scan.proofs.Numbers.ScanText.{range_none, run_digits}
use Rattle.jsonb_core.proofs.Numbers.InRange.{digits-append}

-- ---- how large the digits' number is

pub value_small : (bytes : List ℕ) → digits_value 10 (all_digits bytes) < 10 ^ precision_at bytes
value_small bytes =
    let order = point_ordered bytes (front_end bytes) (point_end bytes) (behind_end bytes) (core_digits bytes).within (point_here bytes) in
    let front : List ℕ = slice_range bytes (zeros_end bytes) (front_end bytes) in
    let back : List ℕ = slice_range bytes (point_end bytes) (behind_end bytes) in
    let all = digits-append (slice_range bytes (zeros_end bytes) (front_end bytes)) (slice_range bytes (point_end bytes) (behind_end bytes)) (run_digits bytes (zeros_end bytes) (front_end bytes) (counted_digits bytes)) (behind_digits bytes (front_end bytes) (point_end bytes) (behind_end bytes) (point_here bytes)) in
    let long : length (slice_range bytes (zeros_end bytes) (front_end bytes) ++ slice_range bytes (point_end bytes) (behind_end bytes)) ≡ precision_at bytes =
    omega (arith, length-append (slice_range bytes (zeros_end bytes) (front_end bytes)) (slice_range bytes (point_end bytes) (behind_end bytes)), length-between bytes (zeros_end bytes) (front_end bytes) (counted_digits bytes).within, length-between bytes (point_end bytes) (behind_end bytes) order.2) in
    omega (arith, value_after_lt 0 (slice_range bytes (zeros_end bytes) (front_end bytes) ++ slice_range bytes (point_end bytes) (behind_end bytes)) all, digits_value_same bytes (Some (slice_range bytes (point_end bytes) (behind_end bytes))) refl, ap (λ n. 10 ^ n) long)

-- ---- neither a word nor a hexadecimal

-- the byte after the digits goes on with no hexadecimal, and where no digit is there it is a point
pub record NoMark (bytes : List ℕ) : Type 0 where
  pub small : slice_index bytes (front_end bytes) ≢ 120
  pub great : slice_index bytes (front_end bytes) ≢ 88
  pub some : (core_start bytes < front_end bytes) ⊎ (slice_index bytes (front_end bytes) ≡ 46)

core_is : (bytes : List ℕ) → NoMark bytes → core_byte bytes ≤ 57
core_is bytes m =
    ⊎_elim (λ digit. omega (arith, (core_digits bytes).digits (core_start bytes) (omega arith) digit))
    (λ none. let here : core_start bytes ≡ front_end bytes = omega (arith, none, (core_digits bytes).ordered) in
    ⊎_elim (λ digit. absurd (omega (arith, digit, none))) (λ point. omega (arith, ap (slice_index bytes) here, point)) m.some) (cases_lt (core_start bytes) (front_end bytes))

pub no_word : (bytes : List ℕ) → NoMark bytes → is_word_start (core_byte bytes) ≡ false
no_word bytes m = ⊎_elim (λ word. absurd (omega (arith, letter_is (core_byte bytes) (is_letter (core_byte bytes) word), core_is bytes m))) (λ none. none) (cases_Bool (is_word_start (core_byte bytes)))

pub no_hexadecimal : (bytes : List ℕ) → NoMark bytes → is_hexadecimal_start bytes ≡ false
no_hexadecimal bytes m = ⊎_elim (λ starts. absurd (never starts)) (λ none. none) (cases_Bool (is_hexadecimal_start bytes))
  where
    run : IsInRange 48 57 (slice_index bytes (core_start bytes + 1)) ⊎ (core_start bytes + 1 ≡ front_end bytes) ⊎ (front_end bytes ≡ core_start bytes)
    run = ⊎_elim (λ more. inl ((core_digits bytes).digits (core_start bytes + 1) (omega arith) more))
        (λ few. ⊎_elim (λ one. inr (inl (omega (arith, one, few)))) (λ none. inr (inr (omega (arith, none, (core_digits bytes).ordered)))) (cases_lt (core_start bytes) (front_end bytes))) (cases_lt (core_start bytes + 1) (front_end bytes))

    never : is_hexadecimal_start bytes ≡ true → ⊥
    never starts =
        let both = and_parts (core_byte bytes == 48) (to_ascii_lowercase (slice_index bytes (core_start bytes + 1)) == 120) starts in
        let first = both.0 in
        let next = both.1 in
        let zero_byte : core_byte bytes ≡ 48 = grind (arith, nat_tests) in
        let letter : to_ascii_lowercase (slice_index bytes (core_start bytes + 1)) ≡ 120 = grind (arith, nat_tests) in
        let mark = mark_is (slice_index bytes (core_start bytes + 1)) letter in
        ⊎_elim (λ digit. ⊎_elim (λ small. omega (arith, digit, small)) (λ great. omega (arith, digit, great)) mark)
        (⊎_elim (λ one. ⊎_elim (λ small. m.small (ap (slice_index bytes) (sym one) ∙ small)) (λ great. m.great (ap (slice_index bytes) (sym one) ∙ great)) mark)
        (λ none. ⊎_elim (λ some. omega (arith, some, none)) (λ point. omega (arith, point, zero_byte, ap (slice_index bytes) none)) m.some)) run

-- ---- a decimal without an exponent

-- what is known of one
record IsPlain (bytes : List ℕ) : Type 0 where
  no_mark : NoMark bytes
  has_digits : HasDigits bytes
  once : has_second_point bytes ≡ false
  no_exponent_mark : ¬ IsExponentMark (slice_index bytes (behind_end bytes))
  few : precision_at bytes ≤ 38

plain_end : (bytes : List ℕ) → IsPlain bytes → decimal_end bytes ≡ Ok (behind_end bytes)
unfolding decimal_end
plain_end bytes p =
    cond-false (lacks_digits bytes) _ _ (digits_tested bytes p.has_digits) ∙ (cond-false (has_second_point bytes) _ _ p.once ∙ no_exponent bytes (behind_end bytes) p.no_exponent_mark)

plain_at : (bytes : List ℕ) → IsPlain bytes → decimal_at bytes (behind_end bytes) ≡ Some (decimal_number (scale_at bytes) (precision_at bytes) (signed_by (starts_with_minus bytes) (digits_value 10 (all_digits bytes))))
unfolding decimal_at
plain_at bytes p =
    let here : (behind_end bytes == behind_end bytes) ≡ true = grind (arith, nat_tests) in
    let few = p.few in
    let small : nat_le (precision_at bytes) 38 ≡ true = grind (arith, nat_tests) in
    rw (here, small) refl

plain_decimal : (bytes : List ℕ) → IsPlain bytes → extended_scan bytes ≡ Ok (Some (decimal_number (scale_at bytes) (precision_at bytes) (signed_by (starts_with_minus bytes) (digits_value 10 (all_digits bytes)))), behind_end bytes)
unfolding extended_scan decimal_scan
plain_decimal bytes p =
    decimal_by_kind bytes (decimal_scan bytes) (no_word bytes p.no_mark) (no_hexadecimal bytes p.no_mark) ∙ (ap (decimal_to bytes) (plain_end bytes p) ∙ ap (λ o. Ok (o, behind_end bytes)) (plain_at bytes p))

-- ---- the digits that a parser found

pub record FrontRead (bytes : List ℕ) (start len value : ℕ) : Type 0 where
  pub start_is : start ≡ core_start bytes
  pub len_is : len ≡ digits_length (drop (core_start bytes) bytes)
  pub value_is : value ≡ digits_value 10 (slice_range bytes (core_start bytes) (front_end bytes))

pub front_read : (bytes ds : List ℕ) (start len value : ℕ) → start ≡ sign_end bytes 0 → ds ≡ drop start bytes → len ≡ 0 + digits_length ds → value ≡ digits_value_after 10 0 (take (digits_length ds) ds) → FrontRead bytes start len value
front_read bytes ds start len value at same long is =
    let there : ds ≡ drop (core_start bytes) bytes = same ∙ ap (λ i. drop i bytes) at in
    let count : digits_length (drop (core_start bytes) bytes) ≡ front_end bytes - core_start bytes = omega arith in
    record {
      start_is = at;
      len_is = let counted = ap digits_length there in omega (arith, long, counted);
      value_is = is ∙ ap (λ xs. digits_value_after 10 0 (take (digits_length xs) xs)) there ∙ ap (λ n. digits_value_after 10 0 (take n (drop (core_start bytes) bytes))) count;
    }

pub found_end : (bytes : List ℕ) (start len value : ℕ) → FrontRead bytes start len value → start + len ≡ front_end bytes
found_end bytes start len value f = omega (arith, f.start_is, f.len_is)

-- ---- without a point

pub no_point_ends : (bytes : List ℕ) → slice_index bytes (front_end bytes) ≢ 46 → (point_end bytes ≡ front_end bytes) × (behind_end bytes ≡ front_end bytes)
no_point_ends bytes other = (cond-false (slice_index bytes (front_end bytes) == 46) _ _ (differs (slice_index bytes (front_end bytes)) 46 other), cond-false (slice_index bytes (front_end bytes) == 46) _ _ (differs (slice_index bytes (front_end bytes)) 46 other))

pub short_whole : (bytes : List ℕ) (start len value next minus : ℕ) (n : Num) → FrontRead bytes start len value → (len ≡ 0 → ⊥) → len ≤ 19 → next ≡ slice_index bytes (start + len) → (next ≡ 46 → ⊥) → ¬ FollowsDigits next → minus ≡ slice_index bytes 0 →
    ((precision : ℕ) → value < 10 ^ precision → n ≡ decimal_number 0 precision (signed_by (minus == 45) value)) → extended_scan bytes ≡ Ok (Some n, start + len)
short_whole bytes start len value next minus n f some few byte no_point stops sign number =
    let end = found_end bytes start len value f in
    let here : next ≡ slice_index bytes (front_end bytes) = byte ∙ ap (slice_index bytes) end in
    let ends = no_point_ends bytes (λ point. no_point (here ∙ point)) in
    let none : scale_at bytes ≡ 0 = omega (arith, ends) in
    let nothing : slice_range bytes (point_end bytes) (behind_end bytes) ≡ [] = range_none bytes (point_end bytes) (behind_end bytes) (omega (arith, ends)) in
    let value_all : value ≡ digits_value 10 (all_digits bytes) = f.value_is ∙ (ap (digits_value 10) (sym (append-nil (slice_range bytes (core_start bytes) (front_end bytes)))) ∙ ap (λ r. digits_value 10 (slice_range bytes (core_start bytes) (front_end bytes) ++ r)) (sym nothing)) in
    let plain : IsPlain bytes = record {
      no_mark = record {
        small = λ x. stops (inr (inl (here ∙ x)));
        great = λ x. stops (inr (inr (here ∙ x)));
        some = inl (omega (arith, end, f.start_is, some));
      };
      has_digits = inl (omega (arith, end, f.start_is, some));
      once = ap (λ b. b && (nat_lt (precision_at bytes) 76 && (slice_index bytes (behind_end bytes) == 46))) (is_not_below (front_end bytes) (point_end bytes) (omega (arith, ends)));
      no_exponent_mark = λ mark. stops (inl (inr (subst IsExponentMark (ap (slice_index bytes) ends.1 ∙ sym here) mark)));
      few = omega (arith, none, end, f.start_is, few, (core_zeros bytes).ordered);
    } in
    let small : value < 10 ^ precision_at bytes = omega (arith, value_small bytes, value_all) in
    let same : n ≡ decimal_number (scale_at bytes) (precision_at bytes) (signed_by (starts_with_minus bytes) (digits_value 10 (all_digits bytes))) =
    number (precision_at bytes) small ∙ (ap (λ s. decimal_number s (precision_at bytes) (signed_by (minus == 45) value)) (sym none)
    ∙ (ap (λ b. decimal_number (scale_at bytes) (precision_at bytes) (signed_by (b == 45) value)) sign ∙ ap (λ v. decimal_number (scale_at bytes) (precision_at bytes) (signed_by (starts_with_minus bytes) v)) value_all)) in
    plain_decimal bytes plain ∙ (ap (λ m. Ok (Some m, behind_end bytes)) (sym same) ∙ ap (λ i. Ok (Some n, i)) (ends.1 ∙ sym end))

pub whole_within : (bytes : List ℕ) (start len value : ℕ) → FrontRead bytes start len value → start + len ≤ length bytes
whole_within bytes start len value f = omega (arith, found_end bytes start len value f, (core_digits bytes).within)

-- ---- with a point

pub point_ends : (bytes : List ℕ) → slice_index bytes (front_end bytes) ≡ 46 → (point_end bytes ≡ front_end bytes + 1) × (behind_end bytes ≡ digits_from bytes (front_end bytes + 1))
point_ends bytes point =
    let tested : (slice_index bytes (front_end bytes) == 46) ≡ true = grind (arith, nat_tests) in
    (cond-true (slice_index bytes (front_end bytes) == 46) _ _ tested, cond-true (slice_index bytes (front_end bytes) == 46) _ _ tested)

-- what a parser found behind the point
pub record BehindRead (bytes : List ℕ) (start len value total all : ℕ) : Type 0 where
  pub front : FrontRead bytes start len value
  pub point : slice_index bytes (start + len) ≡ 46
  pub total_is : total ≡ len + scale_at bytes
  pub all_is : all ≡ digits_value 10 (all_digits bytes)
  pub point_at : point_end bytes ≡ start + len + 1
  pub end_at : behind_end bytes ≡ start + len + 1 + scale_at bytes

pub behind_read : (bytes ds : List ℕ) (start len value total all next : ℕ) → FrontRead bytes start len value → next ≡ slice_index bytes (start + len) → next ≡ 46 → ds ≡ drop (start + len + 1) bytes → total ≡ len + digits_length ds → all ≡ digits_value_after 10 value (take (digits_length ds) ds) → BehindRead bytes start len value total all
behind_read bytes ds start len value total all next f byte point same long is =
    let end = found_end bytes start len value f in
    let here : slice_index bytes (front_end bytes) ≡ 46 = ap (slice_index bytes) (sym end) ∙ (sym byte ∙ point) in
    let ends = point_ends bytes here in
    let one : start + len + 1 ≡ front_end bytes + 1 = omega (arith, end) in
    let there : ds ≡ drop (front_end bytes + 1) bytes = same ∙ ap (λ i. drop i bytes) one in
    let counted : digits_length ds ≡ digits_length (drop (front_end bytes + 1) bytes) = ap digits_length there in
    let scale : scale_at bytes ≡ digits_length (drop (front_end bytes + 1) bytes) = omega (arith, ends) in
    let back : take (digits_length ds) ds ≡ slice_range bytes (point_end bytes) (behind_end bytes) =
    ap (λ xs. take (digits_length xs) xs) there ∙ (ap (λ n. take n (drop (front_end bytes + 1) bytes)) (sym scale) ∙ ap (λ i. take (scale_at bytes) (drop i bytes)) (sym ends.0)) in
    record {
      front = f;
      point = sym byte ∙ point;
      total_is = omega (arith, long, counted, scale);
      all_is = is ∙ (ap (λ v. digits_value_after 10 v (take (digits_length ds) ds)) f.value_is ∙ (ap (digits_value_after 10 (digits_value 10 (slice_range bytes (core_start bytes) (front_end bytes)))) back ∙ sym (value_after-append 10 0 (slice_range bytes (core_start bytes) (front_end bytes)) (slice_range bytes (point_end bytes) (behind_end bytes)))));
      point_at = omega (arith, ends, one);
      end_at = omega (arith, ends, one, scale);
    }

pub behind_few : (bytes : List ℕ) (start len value total all : ℕ) → BehindRead bytes start len value total all → precision_at bytes ≤ total
behind_few bytes start len value total all b = omega (arith, b.total_is, found_end bytes start len value b.front, b.front.start_is, (core_zeros bytes).ordered)

pub short_behind : (bytes : List ℕ) (start len value total all next minus : ℕ) (n : Num) → BehindRead bytes start len value total all → (total ≡ 0 → ⊥) → total ≤ 18 → next ≡ slice_index bytes (start + len + 1 + (total - len)) → ¬ ContinuesAfterInteger next → minus ≡ slice_index bytes 0 →
    ((precision : ℕ) → precision ≤ 18 → all < 10 ^ precision → n ≡ decimal_number (total - len) precision (signed_by (minus == 45) all)) → extended_scan bytes ≡ Ok (Some n, start + len + 1 + (total - len))
short_behind bytes start len value total all next minus n b some few byte stops sign number =
    let end = found_end bytes start len value b.front in
    let point : slice_index bytes (front_end bytes) ≡ 46 = ap (slice_index bytes) (sym end) ∙ b.point in
    let scale : total - len ≡ scale_at bytes = omega (arith, b.total_is) in
    let last : start + len + 1 + (total - len) ≡ behind_end bytes = omega (arith, b.end_at, scale) in
    let here : next ≡ slice_index bytes (behind_end bytes) = byte ∙ ap (slice_index bytes) last in
    let no_point : slice_index bytes (behind_end bytes) ≢ 46 = λ again. stops (inl (here ∙ again)) in
    let precise = behind_few bytes start len value total all b in
    let plain : IsPlain bytes = record {
      no_mark = record { small = λ x. omega (arith, point, x); great = λ x. omega (arith, point, x); some = inr point };
      has_digits = ⊎_elim (λ digit. inl digit) (λ none. inr (omega (arith, none, some, b.total_is, b.end_at, b.point_at, end, b.front.start_is))) (cases_lt (core_start bytes) (front_end bytes));
      once = not_again (nat_lt (front_end bytes) (point_end bytes)) (nat_lt (precision_at bytes) 76) (slice_index bytes (behind_end bytes) == 46) (differs (slice_index bytes (behind_end bytes)) 46 no_point);
      no_exponent_mark = λ mark. stops (inr (subst IsExponentMark (sym here) mark));
      few = omega (arith, precise, few);
    } in
    let small : all < 10 ^ precision_at bytes = omega (arith, value_small bytes, b.all_is) in
    let same : n ≡ decimal_number (scale_at bytes) (precision_at bytes) (signed_by (starts_with_minus bytes) (digits_value 10 (all_digits bytes))) =
    number (precision_at bytes) (omega (arith, precise, few)) small ∙ (ap (λ s. decimal_number s (precision_at bytes) (signed_by (minus == 45) all)) scale
    ∙ (ap (λ c. decimal_number (scale_at bytes) (precision_at bytes) (signed_by (c == 45) all)) sign ∙ ap (λ v. decimal_number (scale_at bytes) (precision_at bytes) (signed_by (starts_with_minus bytes) v)) b.all_is)) in
    plain_decimal bytes plain ∙ (ap (λ m. Ok (Some m, behind_end bytes)) (sym same) ∙ ap (λ i. Ok (Some n, i)) (sym last))
  where
    not_again : (x y z : Bool) → z ≡ false → (x && (y && z)) ≡ false
    not_again true true z h = h
    not_again true false z h = refl
    not_again false y z h = refl

pub behind_within : (bytes : List ℕ) (start len value total all : ℕ) → BehindRead bytes start len value total all → start + len + 1 + (total - len) ≤ length bytes
behind_within bytes start len value total all b =
    let order = point_ordered bytes (front_end bytes) (point_end bytes) (behind_end bytes) (core_digits bytes).within (point_here bytes) in
    omega (arith, b.total_is, b.end_at, order)
