-- Hexadecimal digits from left to right, and the number that they write.
use Rattle.std.proofs.Common.{◌≡◌, ℕ, ◌^◌, ◌<◌, ◌≤◌, true, false, zero, suc, Some, None, List, length, drop, refl, sym, ap, ◌∙◌, arith, nat_lt}
use Rattle.std.specs.Prelude.{slice_index, nat_le, ℤ, neg_ℤ, pos, FitsSigned, Bool}
use Rattle.std.specs.Int.{w64}
use Rattle.std.specs.Char.{digit_value}
use Rattle.std.proofs.lemmas.Bool.Decides.{nat_tests}
use Rattle.jsonb_spec.specs.Number.Signed.{signed_by}
use Rattle.jsonb_spec.specs.Tree.{int64, uint64, decimal128}
use Rattle.jsonb_spec.specs.Grammar.ExtendedNumber.{hexadecimal_number}
use Rattle.jsonb_spec.specs.Parsing.ExtendedNumber.{hexadecimal_length}
use Rattle.text_scan.proofs.Numbers.Runs.{run_inside, run_more, run_stop}
use Rattle.text_scan.proofs.Numbers.Steps.{is_below, is_not_below}

-- ---- how many digits there are

pub length_more : (bs : List ℕ) (i : ℕ) → digit_value (slice_index bs i) < 16 → (hexadecimal_length (drop i bs) ≡ suc (hexadecimal_length (drop (suc i) bs))) × (i < length bs)
unfolding hexadecimal_length
length_more bs i h =
    let passes = is_below (digit_value (slice_index bs i)) 16 h in (run_more (λ b. nat_lt (digit_value b) 16) refl bs i passes, run_inside (λ b. nat_lt (digit_value b) 16) refl bs i passes)

pub length_stop : (bs : List ℕ) (i : ℕ) → 16 ≤ digit_value (slice_index bs i) → hexadecimal_length (drop i bs) ≡ 0
unfolding hexadecimal_length
length_stop bs i h = run_stop (λ b. nat_lt (digit_value b) 16) refl bs i (is_not_below (digit_value (slice_index bs i)) 16 h)

-- ---- the variant

pub hexadecimal-unsigned : (n : ℕ) → n < 2 ^ 64 → hexadecimal_number false n ≡ Some (record { form = uint64; scale = 0; whole = pos n })
unfolding hexadecimal_number
hexadecimal-unsigned n h = rw (is_below n (2 ^ 64) h) refl

pub hexadecimal-unsigned_wide : (n : ℕ) → 2 ^ 64 ≤ n → n < 10 ^ 38 → hexadecimal_number false n ≡ Some (record { form = decimal128; scale = 0; whole = pos n })
unfolding hexadecimal_number
hexadecimal-unsigned_wide n h small = rw (is_not_below n (2 ^ 64) h, is_below n (10 ^ 38) small) refl

pub hexadecimal-unsigned_none : (n : ℕ) → 10 ^ 38 ≤ n → hexadecimal_number false n ≡ None
unfolding hexadecimal_number
hexadecimal-unsigned_none n large = rw (is_not_below n (2 ^ 64) (omega arith), is_not_below n (10 ^ 38) large) refl

pub hexadecimal-signed : (n : ℕ) → n ≤ 2 ^ 63 → hexadecimal_number true n ≡ Some (record { form = int64; scale = 0; whole = neg_ℤ (pos n) })
unfolding hexadecimal_number
hexadecimal-signed n h = let tested : nat_le n (2 ^ 63) ≡ true = grind (arith, nat_tests) in rw tested refl

pub hexadecimal-signed_wide : (n : ℕ) → 2 ^ 63 < n → n < 10 ^ 38 → hexadecimal_number true n ≡ Some (record { form = decimal128; scale = 0; whole = neg_ℤ (pos n) })
unfolding hexadecimal_number
hexadecimal-signed_wide n h small = let tested : nat_le n (2 ^ 63) ≡ false = grind (arith, nat_tests) in rw (tested, is_below n (10 ^ 38) small) refl

pub hexadecimal-signed_none : (n : ℕ) → 10 ^ 38 ≤ n → hexadecimal_number true n ≡ None
unfolding hexadecimal_number
hexadecimal-signed_none n large =
    let past : 2 ^ 63 < n = omega arith in
    let tested : nat_le n (2 ^ 63) ≡ false = grind (arith, nat_tests) in rw (tested, is_not_below n (10 ^ 38) large) refl

pub signed_fits_64 : (n : ℕ) → n ≤ 2 ^ 63 → FitsSigned w64 (neg_ℤ (pos n))
signed_fits_64 zero h = record { sfits = omega arith }
signed_fits_64 (suc n) h = record { sfits = omega arith }

pub unsigned_wide_answer : (negative : Bool) (n : ℕ) (z : ℤ) → z ≡ signed_by negative n → negative ≡ false → 2 ^ 64 ≤ n → n < 10 ^ 38 → Some (record { form = decimal128; scale = 0; whole = z }) ≡ hexadecimal_number negative n
unsigned_wide_answer negative n z value sign large small =
    let there : z ≡ pos n = value ∙ ap (λ b. signed_by b n) sign in
    rw (there, sign) (sym (hexadecimal-unsigned_wide n large small))

pub signed_wide_answer : (negative : Bool) (n : ℕ) (z : ℤ) → z ≡ signed_by negative n → negative ≡ true → 2 ^ 63 < n → n < 10 ^ 38 → Some (record { form = decimal128; scale = 0; whole = z }) ≡ hexadecimal_number negative n
signed_wide_answer negative n z value sign large small =
    let there : z ≡ neg_ℤ (pos n) = value ∙ ap (λ b. signed_by b n) sign in
    rw (there, sign) (sym (hexadecimal-signed_wide n large small))
