-- How the text of a number ends, and its text with the fewest digits.
use Rattle.std.proofs.Common.{◌≡◌, ◌≢◌, ℕ, zero, suc, ◌+◌, ◌-◌, ◌/◌, ◌%◌, ◌^◌, ◌<◌, ◌≤◌, inl, inr, ◌==◌, Bool, true, false, ◌&&◌, ◌||◌, unsigned_abs, List, [], ◌∷◌, ◌++◌, length, take, drop, replicate, refl, sym, ap, subst, ◌∙◌, arith, append_assoc, append-nil, length-append}
use Rattle.std.proofs.lemmas.Bool.{cond-true, cond-false, cases_eq, cases_lt, ne_eqb, lt-ltb, le-ltb}
use Rattle.std.proofs.lemmas.Fmt.{decimal_digit, decimal_step_wide, decimal_is_IsNumeral_wide}
use Rattle.std.proofs.lemmas.List.{drop-append-le, length-take, length-replicate}
use Rattle.std.proofs.lemmas.Str.Parse.{digit_from_value}
use Rattle.std.specs.Bool.{⊤}
use Rattle.std.specs.Fmt.{decimal, sign_text}
use Rattle.std.specs.Int.{is_negative}
use Rattle.std.specs.Str.Parse.{AllDigits}
use Rattle.jsonb_spec.specs.Proper.{IsProperNumber}
use Rattle.jsonb_spec.specs.Text.NumberText.{number_text, with_point, zero_padded}
use Rattle.jsonb_spec.specs.Tree.{Num}
use Rattle.jsonb_spec.specs.Document.Counts.{ending_text}
use Rattle.key_text.proofs.Decimals.{at_least, count, digits_of, full, left, left_small, no_point, none_spare, pointed, scale_left, shortest, some_point, some_spare}
use Rattle.key_text.proofs.Spares.{are_spare}
use Rattle.jsonb_spec.specs.Document.Scan.{is_number_byte, ending_of, zeros_with}
use Rattle.key_zeros.proofs.NumberedTexts.{shortest_text, EndsNumber}

-- ---- digits

-- each byte is a digit
abbrev pub AreDigits : List ℕ → Type 0
AreDigits [] = ⊤
AreDigits (c ∷ cs) = (48 ≤ c) × (c ≤ 57) × AreDigits cs

are_digits : (ds : List ℕ) → AllDigits 10 ds → AreDigits ds
are_digits [] h = tt
are_digits (c ∷ cs) h = let d = digit_from_value c h.0 in (omega (arith, d), omega (arith, d), are_digits cs h.1)

both_digits : (cs ds : List ℕ) → AreDigits cs → AreDigits ds → AreDigits (cs ++ ds)
both_digits [] ds p q = q
both_digits (c ∷ cs) ds p q = (p.0, p.1, both_digits cs ds p.2 q)

front_digits : (n : ℕ) (ds : List ℕ) → AreDigits ds → AreDigits (take n ds)
front_digits zero ds p = tt
front_digits (suc n) [] p = tt
front_digits (suc n) (d ∷ ds) p = (p.0, p.1, front_digits n ds p.2)

back_digits : (n : ℕ) (ds : List ℕ) → AreDigits ds → AreDigits (drop n ds)
back_digits zero ds p = p
back_digits (suc n) [] p = tt
back_digits (suc n) (d ∷ ds) p = back_digits n ds p.2

zeros_are_digits : (n : ℕ) → AreDigits (replicate n 48)
zeros_are_digits zero = tt
zeros_are_digits (suc n) = (omega arith, omega arith, zeros_are_digits n)

pub digit_byte : (c : ℕ) → 48 ≤ c → c ≤ 57 → is_number_byte c ≡ true
digit_byte c low high =
    (λ i. ne_eqb c 45 (λ e. omega (arith, e, low)) i || (ne_eqb c 46 (λ e. omega (arith, e, low)) i || (lt-ltb 47 c (omega (arith, low)) i && lt-ltb c 58 (omega (arith, high)) i)))

-- ---- how bytes of a number end

-- one more byte of a number
goes_on : (has_point : Bool) (run b : ℕ) (bytes : List ℕ) → is_number_byte b ≡ true → ending_of has_point run (b ∷ bytes) ≡ ending_of (has_point || b == 46) (zeros_with has_point run b) bytes
goes_on has_point run b bytes e = cond-true (is_number_byte b) _ _ e

pub ends_there : (has_point : Bool) (run : ℕ) (bytes : List ℕ) → EndsNumber bytes → ending_of has_point run bytes ≡ (has_point, (run, bytes))
ends_there has_point run [] h = refl
ends_there has_point run (b ∷ bytes) h = cond-false (is_number_byte b) _ _ h

sign_passed : (negative : Bool) (rest : List ℕ) → ending_of false 0 (sign_text negative ++ rest) ≡ ending_of false 0 rest
sign_passed true rest = refl
sign_passed false rest = refl

-- digits before a point
front_passed : (ds rest : List ℕ) → AreDigits ds → ending_of false 0 (ds ++ rest) ≡ ending_of false 0 rest
front_passed [] rest p = refl
front_passed (d ∷ ds) rest p =
    goes_on false 0 d (ds ++ rest) (digit_byte d p.0 p.1)
    ∙ ap (λ pointed. ending_of pointed 0 (ds ++ rest)) (ne_eqb d 46 (λ e. omega (arith, e, p.0)))
    ∙ front_passed ds rest p.2

-- digits behind a point, of which the last isn't 0
back_passed : (run c : ℕ) (ds rest : List ℕ) → AreDigits ds → 48 ≤ c → c ≤ 57 → c ≢ 48 → ending_of true run (ds ++ c ∷ rest) ≡ ending_of true 0 rest
back_passed run c [] rest p low high other =
    goes_on true run c rest (digit_byte c low high) ∙ ap (λ count. ending_of true count rest) (cond-false (c == 48) (run + 1) 0 (ne_eqb c 48 other))
back_passed run c (d ∷ ds) rest p low high other =
    goes_on true run d (ds ++ c ∷ rest) (digit_byte d p.0 p.1) ∙ back_passed (zeros_with true run d) c ds rest p.2 low high other

-- zeros behind a point
zeros_passed : (count run : ℕ) (rest : List ℕ) → ending_of true run (replicate count 48 ++ rest) ≡ ending_of true (run + count) rest
zeros_passed zero run rest = ap (λ n. ending_of true n rest) {x = run} {y = run + 0} (omega arith)
zeros_passed (suc count) run rest = zeros_passed count (run + 1) rest ∙ ap (λ n. ending_of true n rest) {x = run + 1 + count} {y = run + suc count} (omega arith)

-- ---- the digits of a number

padded_digits : (least m : ℕ) → m < 10 ^ 64 → AreDigits (zero_padded least (decimal m))
unfolding zero_padded
padded_digits least m small = both_digits (replicate (least - length (decimal m)) 48) (decimal m) (zeros_are_digits (least - length (decimal m))) (are_digits (decimal m) (decimal_is_IsNumeral_wide m small).0.1)

-- the last of them
record LastDigit (ds : List ℕ) (last : ℕ) : Type 0 where
  front : List ℕ
  is : ds ≡ front ++ (48 + last) ∷ []

decimal_last : (m : ℕ) → m < 10 ^ 64 → LastDigit (decimal m) (m % 10)
decimal_last m small = elim (cases_lt m 10) [
  | inl one ↦ let same : m ≡ m % 10 = omega (arith, one) in record { front = []; is = decimal_digit m one ∙ ap (λ d. (48 + d) ∷ []) same }
  | inr more ↦ record { front = decimal (m / 10); is = decimal_step_wide m more small }
]

padded_last : (least m : ℕ) → m < 10 ^ 64 → LastDigit (zero_padded least (decimal m)) (m % 10)
unfolding zero_padded
padded_last least m small =
    let x = decimal_last m small in
    let zs = replicate (least - length (decimal m)) 48 in
    record { front = zs ++ x.front; is = ap (λ ds. zs ++ ds) x.is ∙ sym (append_assoc zs x.front ((48 + m % 10) ∷ [])) }

-- ---- a number without the zeros

first_digits : (cs ds : List ℕ) → AreDigits (cs ++ ds) → AreDigits cs
first_digits [] ds p = tt
first_digits (c ∷ cs) ds p = (p.0, p.1, first_digits cs ds p.2)

ending_passed : (p : Bool) (run : ℕ) (follow : List ℕ) → EndsNumber follow → ending_of p 0 (ending_text p run ++ follow) ≡ (true, (run, follow))
ending_passed true run follow ends = zeros_passed run 0 follow ∙ ap (λ n. ending_of true n follow) {x = 0 + run} {y = run} (omega arith) ∙ ends_there true run follow ends
ending_passed false run follow ends = zeros_passed run 0 follow ∙ ap (λ n. ending_of true n follow) {x = 0 + run} {y = run} (omega arith) ∙ ends_there true run follow ends

-- A text that begins with a byte of a number.
pub record Begins (text : List ℕ) : Type 0 where
  pub first : ℕ
  pub others : List ℕ
  pub is : text ≡ first ∷ others
  pub begins : is_number_byte first ≡ true

digits_begin : (ds rest : List ℕ) → AreDigits ds → 0 < length ds → Begins (ds ++ rest)
digits_begin [] rest p some = absurd (omega (arith, some))
digits_begin (d ∷ ds) rest p some = record { first = d; others = ds ++ rest; is = refl; begins = digit_byte d p.0 p.1 }

pointed_begins : (scale : ℕ) (ds : List ℕ) → AreDigits ds → scale + 1 ≤ length ds → Begins (with_point scale ds)
pointed_begins zero ds p long = subst Begins (append-nil ds ∙ sym (no_point ds)) (digits_begin ds [] p (omega (arith, long)))
pointed_begins (suc scale) ds p long =
    let at = length ds - suc scale in
    subst Begins (sym (some_point (suc scale) ds (omega arith))) (digits_begin (take at ds) (46 ∷ drop at ds) (front_digits at ds p) (omega (arith, long, length-take at ds)))

signed_begins : (negative : Bool) (text : List ℕ) → Begins text → Begins (sign_text negative ++ text)
signed_begins true text b = record { first = 45; others = text; is = refl; begins = refl }
signed_begins false text b = b

module _ (n : Num) (proper : IsProperNumber n) where
  digits : AreDigits (digits_of (scale_left n proper) (left n proper))
  digits = padded_digits (scale_left n proper + 1) (left n proper) (left_small n proper)

  -- how the shortest text ends
  pub shortest_passed : (rest : List ℕ) → ending_of false 0 (shortest_text n ++ rest) ≡ ending_of (pointed n proper) 0 rest
  shortest_passed rest =
      let ds = digits_of (scale_left n proper) (left n proper) in
      let sign = sign_text (is_negative n.whole) in
      elim (cases_lt 0 (scale_left n proper)) [
        | inl more ↦
            let at = length ds - scale_left n proper in
            let last = padded_last (scale_left n proper + 1) (left n proper) (left_small n proper) in
            let other : left n proper % 10 ≢ 0 = elim (are_spare n.scale (unsigned_abs n.whole)).fewest [
              | inl all ↦ absurd (omega (arith, all, more))
              | inr other ↦ other
            ] in
            let behind : drop at ds ≡ drop at last.front ++ (48 + left n proper % 10) ∷ [] =
            ap (drop at) last.is ∙ drop-append-le at last.front ((48 + left n proper % 10) ∷ []) (omega (arith, ap length last.is, length-append last.front ((48 + left n proper % 10) ∷ []), more)) in
            let whole_front = subst AreDigits last.is digits in
            let text : shortest_text n ++ rest ≡ sign ++ (take at ds ++ 46 ∷ (drop at last.front ++ (48 + left n proper % 10) ∷ rest)) =
            ap (λ t. t ++ rest) ((shortest n proper) ∙ ap (λ t. sign ++ t) (some_point (scale_left n proper) ds more ∙ ap (λ t. take at ds ++ 46 ∷ t) behind))
            ∙ append_assoc sign (take at ds ++ 46 ∷ (drop at last.front ++ (48 + left n proper % 10) ∷ [])) rest
            ∙ ap (λ t. sign ++ t) (append_assoc (take at ds) (46 ∷ (drop at last.front ++ (48 + left n proper % 10) ∷ [])) rest
            ∙ ap (λ t. take at ds ++ 46 ∷ t) (append_assoc (drop at last.front) ((48 + left n proper % 10) ∷ []) rest)) in
            ap (ending_of false 0) text
            ∙ sign_passed (is_negative n.whole) (take at ds ++ 46 ∷ (drop at last.front ++ (48 + left n proper % 10) ∷ rest))
            ∙ front_passed (take at ds) (46 ∷ (drop at last.front ++ (48 + left n proper % 10) ∷ rest)) (front_digits at ds digits)
            ∙ back_passed 0 (48 + left n proper % 10) (drop at last.front) rest (back_digits at last.front (first_digits last.front ((48 + left n proper % 10) ∷ []) whole_front)) (omega arith) (omega arith) (λ e. other (omega (arith, e)))
            ∙ ap (λ b. ending_of b 0 rest) (sym (lt-ltb 0 (scale_left n proper) more))
        | inr none ↦
            let over : scale_left n proper ≡ 0 = omega (arith, none) in
            ap (λ t. ending_of false 0 (t ++ rest)) ((shortest n proper) ∙ ap (λ k. sign ++ with_point k ds) over ∙ ap (λ t. sign ++ t) (no_point ds))
            ∙ ap (ending_of false 0) (append_assoc sign ds rest)
            ∙ sign_passed (is_negative n.whole) (ds ++ rest)
            ∙ front_passed ds rest digits
            ∙ ap (λ b. ending_of b 0 rest) (sym (le-ltb 0 (scale_left n proper) none))
      ]

  -- how the text ends
  pub text_passed : (follow : List ℕ) → EndsNumber follow → (p : Bool) × (ending_of false 0 (number_text n ++ follow) ≡ (p, (count n proper, follow)))
  text_passed follow ends = elim (cases_eq (count n proper) 0) [
    | inl none ↦ (pointed n proper, ap (λ t. ending_of false 0 (t ++ follow)) (none_spare n proper none) ∙ shortest_passed follow ∙ ends_there (pointed n proper) 0 follow ends ∙ ap (λ k. (pointed n proper, (k, follow))) (sym none))
    | inr some ↦ (
      true,
      ap (λ t. ending_of false 0 (t ++ follow)) (some_spare n proper (omega (arith, some)))
          ∙ ap (ending_of false 0) (append_assoc (shortest_text n) (ending_text (pointed n proper) (count n proper)) follow)
          ∙ shortest_passed (ending_text (pointed n proper) (count n proper) ++ follow)
          ∙ ending_passed (pointed n proper) (count n proper) follow ends,
    )
  ]

  -- it begins with a byte of a number
  pub shortest_begins : Begins (shortest_text n)
  shortest_begins = subst Begins (sym (shortest n proper)) (signed_begins (is_negative n.whole) (with_point (scale_left n proper) (digits_of (scale_left n proper) (left n proper))) (pointed_begins (scale_left n proper) (digits_of (scale_left n proper) (left n proper)) digits (at_least n proper)))

  pub text_begins : Begins (number_text n)
  text_begins = subst Begins (sym (full n proper)) (signed_begins (is_negative n.whole) (with_point n.scale (digits_of (scale_left n proper) (left n proper) ++ replicate (count n proper) 48)) (pointed_begins n.scale (digits_of (scale_left n proper) (left n proper) ++ replicate (count n proper) 48) (both_digits (digits_of (scale_left n proper) (left n proper)) (replicate (count n proper) 48) digits (zeros_are_digits (count n proper))) (omega (arith, (at_least n proper), length-append (digits_of (scale_left n proper) (left n proper)) (replicate (count n proper) 48), length-replicate {A = ℕ} (count n proper) 48, (are_spare n.scale (unsigned_abs n.whole)).within))))
