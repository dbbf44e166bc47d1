-- Integers that are written as they are.
use Rattle.std.proofs.Common.{◌≡◌, ◌≢◌, ◌⊎◌, ℕ, zero, suc, ◌+◌, ◌^◌, ◌<◌, ◌≤◌, true, List, [], ◌∷◌, length, take, drop, refl, sym, subst, ap, ◌∙◌, inl, inr, ⊎_elim, arith}
use Rattle.std.specs.Prelude.{slice_index, ◌==◌}
use Rattle.std.specs.Char.{digit_value, is_ascii_digit}
use Rattle.std.specs.Int.{IsInRange, from_bool}
use Rattle.std.specs.Str.Parse.{AllDigits, digits_value}
use Rattle.std.proofs.lemmas.Bool.{cases_Bool, cases_lt, false≢true}
use Rattle.std.proofs.lemmas.Int.Digits.{digits_value-lt}
use Rattle.std.proofs.lemmas.List.{length-take-le}
use Rattle.std.proofs.lemmas.Str.{digit_value_digit}
use Rattle.std.proofs.lemmas.Str.Parse.{digits_value-take-le}
use Rattle.std.proofs.Math.Nat.{pow-le-pow_right}
use Rattle.jsonb_spec.specs.Parsing.Number.{ContinuesNumber, digits_length, whole_start}
use Rattle.text_scan.specs.ShortInteger.{IsVerbatimInteger}
use Rattle.text_scan.specs.declared.parser.number.ShortInteger.{ShortInteger}
use Rattle.text_scan.proofs.Numbers.Steps.{all_digits, counted_all, digit_is, digits_stop, digits_within, is_digit, short_is, short_read}

first_digit : (ds : List ℕ) → 0 < digits_length ds → IsInRange 48 57 (slice_index ds 0)
first_digit ds some =
    ⊎_elim (λ digit. digit_is (slice_index ds 0) digit) (λ other. absurd (omega (arith, some, digits_stop ds 0 (λ range. false≢true (sym other ∙ is_digit (slice_index ds 0) range)))))
    (cases_Bool (is_ascii_digit (slice_index ds 0)))

-- digits of which the first is no 0
pub above_zero : (ds : List ℕ) → IsInRange 48 57 (slice_index ds 0) → slice_index ds 0 ≢ 48 → 0 < digits_value 10 ds
above_zero [] range other = absurd (omega (arith, range.0))
above_zero (d ∷ ds) range other =
    let one : digits_value 10 (take 1 (d ∷ ds)) ≡ 0 + digit_value d = refl in
    omega (arith, one, digits_value-take-le 10 (d ∷ ds) 1 (omega arith), digit_value_digit d range, range, other)

first_taken : (ds : List ℕ) (len : ℕ) → 0 < len → slice_index (take len ds) 0 ≡ slice_index ds 0
first_taken [] (suc len) some = refl
first_taken (d ∷ ds) (suc len) some = refl
first_taken ds zero some = absurd (omega (arith, some))

-- what is parsed of an integer of at most 19 bytes that is no 0 with a minus
pub verbatim_read : (bs ds : List ℕ) (start len minus : ℕ) → ds ≡ drop (whole_start bs) bs → minus ≡ slice_index bs 0 → start ≡ from_bool (minus == 45) → (len ≡ 0 → ⊥) → digits_length ds ≡ len + digits_length (drop len ds) → ¬ ContinuesNumber (slice_index ds len)
    → start + len ≤ 19 → ((slice_index ds 0 ≡ 48 → ⊥) ⊎ (start + len ≤ 1)) → IsVerbatimInteger bs (start + len)
verbatim_read bs ds start len minus after byte at some more stops few needless =
    let all : len ≡ digits_length ds = counted_all ds len more stops in
    let value : ℕ = digits_value 10 (take len ds) in
    let digits : AllDigits 10 (take len ds) = subst (λ (n : ℕ). AllDigits 10 (take n ds)) (sym all) (all_digits ds) in
    let long : length (take len ds) ≡ len = length-take-le len ds (omega (arith, all, digits_within ds)) in
    let below : value < 10 ^ len = subst (λ (n : ℕ). value < 10 ^ n) long (digits_value-lt 10 (take len ds) digits) in
    let most : 10 ^ len ≤ 10 ^ 19 = pow-le-pow_right {n = 10} (omega arith) {i = len} {j = 19} (omega (arith, few)) in
    let fits : value < 2 ^ 64 = omega (arith, below, most) in
    let behind : (minus == 45) ≡ true → start ≡ 1 = λ minus_is. at ∙ ap from_bool minus_is in
    let small : (minus == 45) ≡ true → value < 2 ^ 63 = λ minus_is.
    let fewer : 10 ^ len ≤ 10 ^ 18 = pow-le-pow_right {n = 10} (omega arith) {i = len} {j = 18} (omega (arith, few, behind minus_is)) in omega (arith, below, fewer) in
    let whole : ((1 < len) × (slice_index ds 0 ≡ 48 → ⊥)) ⊎ (len ≤ 1) =
    ⊎_elim (λ other. ⊎_elim (λ many. inl (many, other)) (λ single. inr single) (cases_lt 1 len)) (λ single. inr (omega (arith, single))) needless in
    let read : ShortInteger = record { negative = minus == 45; magnitude = value; end = start + len } in
    record {
      read = read;
      found = λ size. short_read size bs ds start len value (slice_index ds 0) minus _ after byte at some all stops whole refl refl (short_is (minus == 45) value (start + len) fits small);
      some = λ minus_is.
          ⊎_elim (λ other.
          let taken = first_taken ds len (omega (arith, some)) in
          above_zero (take len ds) (subst (λ b. IsInRange 48 57 b) (sym taken) (first_digit ds (omega (arith, some, all)))) (λ zero_byte. other (sym taken ∙ zero_byte)))
          (λ single. absurd (some (omega (arith, single, behind minus_is)))) needless;
    }
