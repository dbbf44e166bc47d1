-- The value of digits, from the first ones on.
use Rattle.std.proofs.Common.{◌≡◌, ℕ, ◌+◌, ◌*◌, ◌^◌, ◌<◌, ◌≤◌, Option, Some, None, suc, true, ◌-◌, List, [], ◌∷◌, ◌++◌, length, get_or, take, drop, map, refl, sym, ap, ◌∙◌, arith}
use Rattle.std.specs.Char.{digit_value, is_ascii_digit}
use Rattle.std.specs.Option.{SomeIff}
use Rattle.std.specs.Str.Parse.{AllDigits, digits_value_after}
use Rattle.std.specs.Int.Digits.{number_from_digits_after}
use Rattle.std.proofs.lemmas.Int.Digits.{number_after_ge, number_after_lt, all_below_base_from_digits}
use Rattle.std.proofs.lemmas.Str.{digit_value_digit}
use Rattle.std.proofs.Math.Nat.{pow-suc, pow-le-pow_right}
use Rattle.text_scan.proofs.Numbers.Steps.{digit_is}
use Rattle.std.proofs.lemmas.List.{take-append-drop, take_all, take_more, length-map}
use Rattle.std.proofs.Math.Seq.{take-add}

-- ---- digits that follow a number

value_after_is : (base n : ℕ) (ds : List ℕ) → digits_value_after base n ds ≡ number_from_digits_after base n (map digit_value ds)
value_after_is base n [] = refl
value_after_is base n (d ∷ ds) = value_after_is base (n * base + digit_value d) ds

pub value_after-append : (base n : ℕ) (xs ys : List ℕ) → digits_value_after base n (xs ++ ys) ≡ digits_value_after base (digits_value_after base n xs) ys
value_after-append base n [] ys = refl
value_after-append base n (x ∷ xs) ys = value_after-append base (n * base + digit_value x) xs ys

pub value_after_lt : (n : ℕ) (ds : List ℕ) → AllDigits 10 ds → digits_value_after 10 n ds < (n + 1) * 10 ^ length ds
value_after_lt n ds h =
    omega (arith, value_after_is 10 n ds, rw length-map at (number_after_lt 10 n (map digit_value ds) (all_below_base_from_digits 10 ds h)))

pub value_after_more : (base n : ℕ) (ds : List ℕ) (i : ℕ) → i < length ds → digits_value_after base n (take (i + 1) ds) ≡ digits_value_after base n (take i ds) * base + digit_value (get_or ds i 0)
value_after_more base n ds i inside = ap (digits_value_after base n) (take_more ds i 0 inside) ∙ value_after-append base n (take i ds) (get_or ds i 0 ∷ [])

pub value_after-take_le : (base n : ℕ) → 0 < base → (ds : List ℕ) (i : ℕ) → digits_value_after base n (take i ds) ≤ digits_value_after base n ds
value_after-take_le base n some ds i =
    let front = digits_value_after base n (take i ds) in
    let whole : digits_value_after base n ds ≡ digits_value_after base front (drop i ds) = ap (digits_value_after base n) (sym (take-append-drop i ds)) ∙ value_after-append base n (take i ds) (drop i ds) in
    omega (arith, whole, value_after_is base front (drop i ds), number_after_ge base front (map digit_value (drop i ds)) some)

-- one digit more is too great, and so is the whole
pub appended_none : (base front : ℕ) → 0 < base → (r : Option ℕ) (ds : List ℕ) (i n : ℕ) → i < length ds → n ≡ digits_value_after base front (take i ds) → (n * base + digit_value (get_or ds i 0) < 2 ^ 128 → ⊥) → r ≡ None
    → SomeIff r (digits_value_after base front ds < 2 ^ 128) (digits_value_after base front ds)
appended_none base front some (Some v) ds i n inside is past none = absurd (cc)
appended_none base front some None ds i n inside is past none = λ small.
    let next = ap (λ m. m * base + digit_value (get_or ds i 0)) is in
    past (omega (arith, small, next, value_after_more base front ds i inside, value_after-take_le base front some ds (i + 1)))

pub all_digits_value : (base front : ℕ) (ds : List ℕ) (i n : ℕ) → length ds ≤ i → n ≡ digits_value_after base front (take i ds) → n < 2 ^ 128 → (digits_value_after base front ds < 2 ^ 128) × (n ≡ digits_value_after base front ds)
all_digits_value base front ds i n end is small =
    let whole : n ≡ digits_value_after base front ds = is ∙ ap (digits_value_after base front) (take_all i ds end) in (rw (← whole) small, whole)

-- the first digits, and those behind them
pub value_from_front : (base : ℕ) (bytes : List ℕ) (few more : ℕ) → digits_value_after base (digits_value_after base 0 (take few bytes)) (take more (drop few bytes)) ≡ digits_value_after base 0 (take (few + more) bytes)
value_from_front base bytes few more = sym (ap (digits_value_after base 0) (take-add few more bytes) ∙ value_after-append base 0 (take few bytes) (take more (drop few bytes)))

-- one digit more leaves it below the bound
pub value_after_step : (n : ℕ) (ds : List ℕ) (i bound : ℕ) → AllDigits 10 ds → i < length ds → (n + 1) * 10 ^ length ds ≤ bound → digits_value_after 10 n (take i ds) * 10 + digit_value (get_or ds i 0) < bound
value_after_step n ds i bound h inside space =
    omega (arith, value_after_more 10 n ds i inside, value_after-take_le 10 n (omega arith) ds (i + 1), value_after_lt n ds h, space)

-- one digit behind a number of so many digits, which 64 bits hold
pub record AddsBehind (bs : List ℕ) (front i before value digit : ℕ) : Type 0 where
  pub fits : value * 10 + digit < 2 ^ 64
  pub is_value : value * 10 + digit ≡ digits_value_after 10 before (take (i + 1) bs)
  pub below : value * 10 + digit < 10 ^ (front + (i + 1))

pub adds_behind : (bs : List ℕ) (front i before value digit : ℕ) → i < length bs → front + i < 19 → is_ascii_digit (get_or bs i 0) ≡ true → value ≡ digits_value_after 10 before (take i bs) → value < 10 ^ (front + i) → digit ≡ get_or bs i 0 - 48 → AddsBehind bs front i before value digit
adds_behind bs front i before value digit inside few tested is_value below byte =
    let range = digit_is (get_or bs i 0) tested in
    let ten : 10 ^ (front + (i + 1)) ≡ 10 ^ (front + i) * 10 = let one : front + (i + 1) ≡ suc (front + i) = omega arith in ap (λ j. 10 ^ j) one ∙ pow-suc 10 (front + i) in
    let small : 10 ^ (front + i) ≤ 10 ^ 18 = pow-le-pow_right {n = 10} (omega arith) {i = front + i} {j = 18} (omega arith) in
    record {
      fits = omega (arith, range, below, small, byte);
      is_value = omega (arith, is_value, value_after_more 10 before bs i inside, digit_value_digit (get_or bs i 0) range, byte);
      below = omega (arith, range, below, ten, byte);
    }
