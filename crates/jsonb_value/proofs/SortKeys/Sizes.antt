-- How many bytes sort keys have.
use Rattle.std.proofs.Common.{◌≡◌, ◌≢◌, ℕ, zero, suc, ◌+◌, ◌-◌, ◌*◌, ◌/◌, ◌%◌, ◌^◌, ◌<◌, ◌≤◌, inl, inr, Bool, true, false, cond, List, [], ◌∷◌, ◌++◌, map, length, length-append, ℤ, pos, negsuc, unsigned_abs, refl, ap, ◌∙◌, arith, ◌==◌}
use Rattle.std.proofs.Math.Nat.{mul-lt-mul_of_pos_right}
use Rattle.std.proofs.lemmas.Bool.{cond-true, cond-false, ne_eqb, lt-ltb, le-ltb, cases_lt, cases_eq}
use Rattle.std.proofs.lemmas.Int.{ints}
use Rattle.std.proofs.lemmas.List.{length-map}
use Rattle.std.proofs.lemmas.List.Sums.{sum_by-cons}
use Rattle.std.proofs.lemmas.Nat.{pow-add}
use Rattle.std.specs.Bool.{if◌then◌else◌, nat_lt}
use Rattle.std.specs.Int.{is_negative}
use Rattle.std.specs.List.{flat_map, sum_by}
use Rattle.jsonb_spec.specs.Order.ByContent.{items_of, pairs_of}
use Rattle.jsonb_spec.specs.Proper.{FitsWhole, IsProperNumber}
use Rattle.jsonb_spec.specs.SortKey.{byte_key, digit_count, digits_key, items_key, key_of, magnitude_key, members_key, number_key, exponent_key, text_key, invert_if}
use Rattle.jsonb_spec.specs.SortKey.Size.{exponent_len, member_len, most_pairs, zero_count}
use Rattle.jsonb_spec.specs.Tree.{Form, int64, uint64, decimal64, decimal128, Mark, Num, string, array, object, Trees, no_trees, more_trees, Members, no_members, more_members}
use Rattle.jsonb_core.proofs.SortKeys.Counts.{HasDigits, digits_counted, far, near, power_le}
use Rattle.jsonb_core.proofs.SortKeys.Digits.{last_pair, more_pairs, ten}
use Rattle.jsonb_core.proofs.SortKeys.Kinds.{is_small}
use Rattle.jsonb_core.proofs.SortKeys.Numbers.{key_of_zero}

-- ---- numbers

digits_len : (count m : ℕ) → length (digits_key count m) ≤ (count + 1) / 2
unfolding digits_key
digits_len zero m = omega arith
digits_len (suc zero) m = omega arith
digits_len (suc (suc count)) m = elim (cases_eq (m % 10 ^ count) 0) [
  | inl none ↦ omega (arith, ap length (last_pair count m none))
  | inr some ↦ omega (arith, ap length (more_pairs count m some), digits_len count (m % 10 ^ count))
]

exponent_size : (exponent : ℕ) → length (exponent_key exponent) ≤ 2
exponent_size exponent = elim (cases_lt exponent 225) [
  | inl low ↦ omega (arith, ap length (near exponent low))
  | inr high ↦ omega (arith, ap length (far exponent high))
]

-- a number of `counted` digits has no more than a bound says
few_digits : (m counted count : ℕ) → HasDigits m counted → m < 10 ^ count → counted ≤ count
few_digits m counted count has below = elim (cases_lt count counted) [
  | inl more ↦
      let up : 10 ^ (count + 1) ≤ 10 ^ counted = power_le (count + 1) counted (omega (arith, more)) in
      absurd (omega (arith, up, has.least, below, pow-add 10 count 1))
  | inr within ↦ within
]

-- a number that isn't below 10^-31 has at most 30 zeros after the point
few_zeros : (m scale counted : ℕ) → HasDigits m counted → 10 ^ scale ≤ m * 10 ^ 31 → scale ≤ counted + 30
few_zeros m scale counted has large = elim (cases_lt (counted + 30) scale) [
  | inl more ↦
      let up : 10 ^ (counted + 31) ≤ 10 ^ scale = power_le (counted + 31) scale (omega (arith, more)) in
      let below : m * 10 ^ 31 < 10 ^ counted * 10 ^ 31 = mul-lt-mul_of_pos_right has.below (ten 31) in
      absurd (omega (arith, up, below, large, pow-add 10 counted 31))
  | inr within ↦ within
]

exponent_within : (n : Num) (counted : ℕ) → HasDigits (unsigned_abs n.whole) counted → length (exponent_key (counted + 255 - n.scale)) ≤ exponent_len n
exponent_within n counted has = elim (cases_lt (unsigned_abs n.whole * 10 ^ 31) (10 ^ n.scale)) [
  | inl small ↦ omega (arith, exponent_size (counted + 255 - n.scale), cond-true {A = ℕ} (nat_lt (unsigned_abs n.whole * 10 ^ 31) (10 ^ n.scale)) 2 1 (lt-ltb (unsigned_abs n.whole * 10 ^ 31) (10 ^ n.scale) small))
  | inr large ↦
      let zeros = few_zeros (unsigned_abs n.whole) n.scale counted has large in
      omega (arith, ap length (far (counted + 255 - n.scale) (omega (arith, zeros))), cond-false {A = ℕ} (nat_lt (unsigned_abs n.whole * 10 ^ 31) (10 ^ n.scale)) 2 1 (le-ltb (unsigned_abs n.whole * 10 ^ 31) (10 ^ n.scale) large))
]

exponent_some : (n : Num) → 1 ≤ exponent_len n
exponent_some n = by_size (nat_lt (unsigned_abs n.whole * 10 ^ 31) (10 ^ n.scale))
  where
    by_size : (small : Bool) → 1 ≤ (if small then 2 else 1)
    by_size true = omega arith
    by_size false = omega arith

magnitude_len : (scale m : ℕ) → length (magnitude_key scale m) ≡ length (exponent_key (digit_count m + 255 - scale)) + length (digits_key (digit_count m) m)
unfolding magnitude_key
magnitude_len scale m = length-append (exponent_key (digit_count m + 255 - scale)) (digits_key (digit_count m) m)

some_key : (n : Num) → unsigned_abs n.whole ≢ 0 → length (number_key n) ≡ length (magnitude_key n.scale (unsigned_abs n.whole))
unfolding number_key
some_key n some =
    ap length (cond-false (unsigned_abs n.whole == 0) (128 ∷ []) (map (invert_if (is_negative n.whole)) (magnitude_key n.scale (unsigned_abs n.whole))) (ne_eqb (unsigned_abs n.whole) 0 some))
    ∙ length-map (magnitude_key n.scale (unsigned_abs n.whole)) (invert_if (is_negative n.whole))

pub zero_len : (n : Num) → unsigned_abs n.whole ≡ 0 → length (number_key n) ≡ 1
zero_len n none = ap length (key_of_zero n none)

-- the digits that a bound allows take a byte for each two
half_le : (a b : ℕ) → a ≤ b → (a + 1) / 2 ≤ (b + 1) / 2
half_le a b h = omega (arith, h)

pub number_len : (n : Num) → IsProperNumber n → (count : ℕ) → unsigned_abs n.whole < 10 ^ count → length (number_key n) ≤ exponent_len n + (count + 1) / 2
number_len n proper count below = elim (cases_eq (unsigned_abs n.whole) 0) [
  | inl none ↦ omega (arith, zero_len n none, exponent_some n)
  | inr some ↦
      let m = unsigned_abs n.whole in
      let has = digits_counted m (omega (arith, some)) (is_small n proper).whole in
      let digits = digits_len (digit_count m) m in
      let fewer = half_le (digit_count m) count (few_digits m (digit_count m) count has below) in
      omega (arith, some_key n some, magnitude_len n.scale m, exponent_within n (digit_count m) has, digits, fewer)
]

most_whole : (form : Form) (whole : ℤ) → FitsWhole form whole → unsigned_abs whole < 10 ^ (2 * most_pairs form)
most_whole int64 whole h = omega (arith, ints)
most_whole uint64 (pos n) h = omega arith
most_whole uint64 (negsuc n) h = absurd h
most_whole decimal64 whole h = omega (arith, ints)
most_whole decimal128 whole h = omega (arith, ints)

pub form_len : (n : Num) → IsProperNumber n → length (number_key n) ≤ exponent_len n + most_pairs n.form
form_len n proper =
    let half : (2 * most_pairs n.form + 1) / 2 ≡ most_pairs n.form = omega arith in
    omega (arith, half, number_len n proper (2 * most_pairs n.form) (most_whole n.form n.whole proper.1))

-- ---- texts and containers

byte_len : (byte : ℕ) → length (byte_key byte) ≡ 1 + cond (byte == 0) 1 0
byte_len byte = by_test (byte == 0)
  where
    by_test : (is_zero : Bool) → length (if is_zero then 0 ∷ 255 ∷ [] else byte ∷ []) ≡ 1 + cond is_zero 1 0
    by_test true = refl
    by_test false = refl

bytes_len : (bytes : List ℕ) → length (flat_map byte_key bytes) ≡ length bytes + zero_count bytes
bytes_len [] = refl
bytes_len (byte ∷ bytes) =
    length-append (byte_key byte) (flat_map byte_key bytes) ∙ omega (arith, bytes_len bytes, byte_len byte, sum_by-cons (λ byte. cond (byte == 0) 1 0) byte bytes)

text_len : (bytes : List ℕ) → length (text_key bytes) ≡ length bytes + zero_count bytes + 2
text_len bytes = omega (arith, length-append (flat_map byte_key bytes) (0 ∷ 1 ∷ []), bytes_len bytes)

pub string_len : (mark : Mark) (bytes : List ℕ) → length (key_of (string mark bytes)) ≡ length bytes + zero_count bytes + 3
string_len mark bytes = omega (arith, text_len bytes)

items_len : (ts : Trees) → length (items_key ts) ≡ sum_by (λ t. length (key_of t)) (items_of ts) + 1
items_len no_trees = refl
items_len (more_trees t ts) =
    length-append (key_of t) (items_key ts) ∙ omega (arith, items_len ts, sum_by-cons (λ t. length (key_of t)) t (items_of ts))

pub array_len : (ts : Trees) → length (key_of (array ts)) ≡ sum_by (λ t. length (key_of t)) (items_of ts) + 2
array_len ts = omega (arith, items_len ts)

members_len : (ms : Members) → length (members_key ms) ≡ sum_by member_len (pairs_of ms) + 2
members_len no_members = refl
members_len (more_members key t ms) =
    length-append (text_key key) (key_of t ++ members_key ms)
    ∙ omega (arith, length-append (key_of t) (members_key ms), text_len key, members_len ms, sum_by-cons member_len (key, t) (pairs_of ms))

pub object_len : (ms : Members) → length (key_of (object ms)) ≡ sum_by member_len (pairs_of ms) + 3
object_len ms = omega (arith, members_len ms)
