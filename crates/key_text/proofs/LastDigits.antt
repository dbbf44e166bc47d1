-- The last digits of numbers, as many as are asked for.
use Rattle.std.proofs.Common.{◌≡◌, ℕ, zero, suc, ◌+◌, ◌*◌, ◌/◌, ◌%◌, ◌^◌, ◌<◌, ◌≤◌, [], ◌∷◌, ◌++◌, length, replicate, refl, sym, ap, ◌∙◌, arith, append_assoc, append-nil, length-append}
use Rattle.std.proofs.Math.Nat.{pow-suc, pow-zero}
use Rattle.std.proofs.lemmas.Fmt.{decimal_step_wide, decimal_digit}
use Rattle.std.proofs.lemmas.List.{replicate_more}
use Rattle.std.specs.Fmt.{decimal}
use Rattle.jsonb_core.proofs.SortKeys.Digits.{ten, mul-pos}
use Rattle.key_text.specs.Writes.{last_digits}

pub next_digits : (count n : ℕ) → last_digits (suc count) n ≡ last_digits count (n / 10) ++ (48 + n % 10) ∷ []
unfolding last_digits
next_digits count n = refl

pub no_digits : (n : ℕ) → last_digits 0 n ≡ []
unfolding last_digits
no_digits n = refl

-- with one more digit
pub one_more : (count n digit : ℕ) → digit < 10 → last_digits (suc count) (n * 10 + digit) ≡ last_digits count n ++ (48 + digit) ∷ []
one_more count n digit h =
    let front : (n * 10 + digit) / 10 ≡ n = omega (arith, h) in
    let last : (n * 10 + digit) % 10 ≡ digit = omega (arith, h) in
    next_digits count (n * 10 + digit) ∙ (λ i. last_digits count (front i) ++ (48 + last i) ∷ [])

-- with two more
pub two_more : (count n pair : ℕ) → pair < 100 → last_digits (suc (suc count)) (n * 100 + pair) ≡ last_digits count n ++ (48 + pair / 10) ∷ (48 + pair % 10) ∷ []
two_more count n pair h =
    let split : n * 100 + pair ≡ (n * 10 + pair / 10) * 10 + pair % 10 = omega arith in
    ap (last_digits (suc (suc count))) split
    ∙ one_more (suc count) (n * 10 + pair / 10) (pair % 10) (omega arith)
    ∙ ap (λ ds. ds ++ (48 + pair % 10) ∷ []) (one_more count n (pair / 10) (omega (arith, h)))
    ∙ append_assoc (last_digits count n) ((48 + pair / 10) ∷ []) ((48 + pair % 10) ∷ [])

pub digits_long : (count n : ℕ) → length (last_digits count n) ≡ count
digits_long zero n = ap length (no_digits n)
digits_long (suc count) n =
    ap length (next_digits count n) ∙ length-append (last_digits count (n / 10)) ((48 + n % 10) ∷ []) ∙ omega (arith, digits_long count (n / 10))

-- all digits of a number, of which there are as many
pub all_digits : (count n : ℕ) → 0 < count → 10 ^ count ≤ n * 10 → n < 10 ^ count → n < 10 ^ 64 → decimal n ≡ last_digits count n
all_digits zero n some least below small = absurd (omega (arith, some))
all_digits (suc zero) n some least below small =
    let one : n < 10 = omega (arith, below) in
    let same : n % 10 ≡ n = omega (arith, one) in
    decimal_digit n one ∙ ap (λ d. (48 + d) ∷ []) (sym same) ∙ ap (λ ds. ds ++ (48 + n % 10) ∷ []) (sym (no_digits (n / 10))) ∙ sym (next_digits 0 n)
all_digits (suc (suc count)) n some least below small =
    let p = pow-suc 10 count in
    let q = pow-suc 10 (suc count) in
    decimal_step_wide n (omega (arith, least, p, q, ten count)) small
    ∙ ap (λ ds. ds ++ (48 + n % 10) ∷ []) (all_digits (suc count) (n / 10) (omega arith) (omega (arith, least, p, q)) (omega (arith, below, q)) (omega (arith, small)))
    ∙ sym (next_digits (suc count) n)

-- digits and zeros behind them
pub zeros_behind : (run n : ℕ) → 0 < n → n * 10 ^ run < 10 ^ 64 → decimal (n * 10 ^ run) ≡ decimal n ++ replicate run 48
zeros_behind zero n some small = ap decimal (omega (arith, pow-zero 10)) ∙ sym (append-nil (decimal n))
zeros_behind (suc run) n some small =
    let m = n * 10 ^ run in
    let more : n * 10 ^ suc run ≡ m * 10 = omega (arith, ap (λ x. n * x) (pow-suc 10 run)) in
    let positive : 0 < m = mul-pos n (10 ^ run) some (ten run) in
    let front : m * 10 / 10 ≡ m = omega arith in
    let last : m * 10 % 10 ≡ 0 = omega arith in
    let one : run + 1 ≡ suc run = omega arith in
    ap decimal more
    ∙ decimal_step_wide (m * 10) (omega (arith, positive)) (omega (arith, small, more))
    ∙ (λ i. decimal (front i) ++ (48 + last i) ∷ [])
    ∙ ap (λ ds. ds ++ 48 ∷ []) (zeros_behind run n some (omega (arith, small, more)))
    ∙ append_assoc (decimal n) (replicate run 48) (48 ∷ [])
    ∙ ap (λ zs. decimal n ++ zs) (replicate_more run 48 ∙ ap (λ k. replicate k 48) one)
