-- The exponent and the digits of a number, pair by pair.
use Rattle.std.proofs.Common.{◌≡◌, ◌≢◌, ℕ, zero, suc, ◌+◌, ◌-◌, ◌*◌, ◌/◌, ◌%◌, ◌^◌, ◌<◌, ◌≤◌, ◌⊎◌, inl, inr, Bool, true, false, List, [], ◌∷◌, ◌++◌, map, length, refl, sym, ap, subst, ◌∙◌, arith, eq-eqb, ◌==◌}
use Rattle.std.proofs.Math.Nat.{mul-lt-mul_of_pos_right, mul-le-mul_left, mul-le-mul_right, pow-zero}
use Rattle.std.proofs.lemmas.Bool.{cond-true, cond-false, ne_eqb, lt-ltb, le-ltb, cases_lt, cases_eq}
use Rattle.std.proofs.lemmas.Nat.{div-add-mod', mod_below, div_below, pow-add}
use Rattle.std.specs.Bool.{nat_lt}
use Rattle.jsonb_spec.specs.SortKey.{invert_if, exponent_key, digits_key}
use Rattle.jsonb_core.proofs.SortKeys.Digits.{ten, hundred, mul-pos, last_pair, more_pairs}
use Rattle.jsonb_core.proofs.Trees.Runs.{heads, tails}
use Rattle.jsonb_spec.specs.SortKey.Reading.{exponent_of, read_as, DigitsLeft, ReadsDigits, IsDigits, IsLastPair, IsNoLastPair}

-- ---- the exponent

pub turned_twice : (negative : Bool) (byte : ℕ) → byte < 256 → invert_if negative (invert_if negative byte) ≡ byte
turned_twice false byte h = refl
turned_twice true byte h = omega (arith, h)

pub far_exponent : (exponent : ℕ) → exponent < 225 → exponent_key exponent ≡ 129 ∷ exponent ∷ []
unfolding exponent_key
far_exponent exponent h = cond-true (nat_lt exponent 225) _ _ (lt-ltb exponent 225 h)

pub near_exponent : (exponent : ℕ) → 225 ≤ exponent → exponent_key exponent ≡ (exponent - 95) ∷ []
unfolding exponent_key
near_exponent exponent h = cond-false (nat_lt exponent 225) _ _ (le-ltb exponent 225 h)

far_read : (negative : Bool) (exponent : ℕ) (more : List ℕ) → exponent < 225 → exponent_of negative (invert_if negative 129 ∷ invert_if negative exponent ∷ more) ≡ read_as exponent more
far_read negative exponent more h =
    let twice = turned_twice negative exponent (omega (arith, h)) in
    cond-true (invert_if negative (invert_if negative 129) == 129) _ _ (eq-eqb (invert_if negative (invert_if negative 129)) 129 (turned_twice negative 129 (omega arith)))
    ∙ cond-true (nat_lt (invert_if negative (invert_if negative exponent)) 225) _ _ (lt-ltb (invert_if negative (invert_if negative exponent)) 225 (omega (arith, twice, h)))
    ∙ ap (λ p. read_as p more) twice

near_read : (negative : Bool) (exponent : ℕ) (more : List ℕ) → 225 ≤ exponent → exponent < 351 → exponent_of negative (invert_if negative (exponent - 95) ∷ more) ≡ read_as exponent more
near_read negative exponent more h high =
    let twice = turned_twice negative (exponent - 95) (omega (arith, h, high)) in
    let moved : (exponent - 95) + 95 ≡ exponent = omega (arith, h) in
    cond-false (invert_if negative (invert_if negative (exponent - 95)) == 129) _ _ (ne_eqb (invert_if negative (invert_if negative (exponent - 95))) 129 (λ e. absurd (omega (arith, sym twice ∙ e, h))))
    ∙ cond-false (nat_lt (invert_if negative (invert_if negative (exponent - 95))) 130) _ _ (le-ltb (invert_if negative (invert_if negative (exponent - 95))) 130 (omega (arith, twice, h)))
    ∙ ap (λ p. read_as (p + 95) more) twice ∙ ap (λ p. read_as p more) moved

pub exponent_read : (negative : Bool) (exponent : ℕ) (more : List ℕ) → exponent < 351 → exponent_of negative (map (invert_if negative) (exponent_key exponent) ++ more) ≡ read_as exponent more
exponent_read negative exponent more high = elim (cases_lt exponent 225) [
  | inl low ↦ ap (λ key. exponent_of negative (map (invert_if negative) key ++ more)) (far_exponent exponent low) ∙ far_read negative exponent more low
  | inr h ↦ ap (λ key. exponent_of negative (map (invert_if negative) key ++ more)) (near_exponent exponent h) ∙ near_read negative exponent more h high
]

-- ---- digits

pub digits_begun : (negative : Bool) (bytes : List ℕ) → ReadsDigits negative bytes 0 0 bytes
digits_begun negative bytes = λ C M below some high few more e. record { left = C; tail = M; counted = omega arith; whole = omega arith; below = below; some = some; occurs = e }

-- the last pair of the digits that are left
pub record Ends (left tail byte : ℕ) (others more : List ℕ) : Type 0 where
  pub even : byte % 2 ≡ 0
  pub whole : tail * 100 ≡ byte / 2 * 10 ^ left
  pub some : 0 < left
  pub single : left ≡ 1 → byte / 2 % 10 ≡ 0
  pub occurs : others ≡ more

-- a pair, and more of the digits that are left
pub record GoesOn (negative : Bool) (left tail byte : ℕ) (others more : List ℕ) : Type 0 where
  pub odd : byte % 2 ≡ 1
  pub count : ℕ
  pub rest : ℕ
  pub counted : left ≡ count + 2
  pub whole : tail ≡ byte / 2 * 10 ^ count + rest
  pub below : rest < 10 ^ count
  pub some : 0 < rest
  pub occurs : others ≡ map (invert_if negative) (digits_key count rest) ++ more

single_key : (m : ℕ) → digits_key 1 m ≡ (20 * m) ∷ []
unfolding digits_key
single_key m = refl

back : (negative : Bool) (byte key : ℕ) (xs ys : List ℕ) → key < 256 → byte ∷ xs ≡ invert_if negative key ∷ ys → invert_if negative byte ≡ key
back negative byte key xs ys small e = ap (invert_if negative) (heads byte (invert_if negative key) xs ys e) ∙ turned_twice negative key small

pair_below : (count m : ℕ) → m < 10 ^ suc (suc count) → m / 10 ^ count < 100
pair_below count m h = div_below m (10 ^ count) 100 (ten count) (omega (arith, h, hundred count))

nothing_left : (m : ℕ) → m < 10 ^ 0 → 0 < m → ⊥
nothing_left m h k = absurd (omega (arith, h, k, pow-zero 10))

ended : (negative : Bool) (left tail byte key : ℕ) (xs more : List ℕ) → key < 256 → invert_if negative byte ≡ key → key ≡ key / 2 * 2 → tail * 100 ≡ key / 2 * 10 ^ left → 0 < left → (left ≡ 1 → key / 2 % 10 ≡ 0) → xs ≡ more → Ends left tail (invert_if negative byte) xs more
ended negative left tail byte key xs more small is even whole some single occurs = record {
  even = ap (λ b. b % 2) is ∙ omega (arith, even);
  whole = whole ∙ ap (λ b. b / 2 * 10 ^ left) (sym is);
  some = some;
  single = λ one. ap (λ b. b / 2 % 10) is ∙ single one;
  occurs = occurs;
}

-- what the next byte says of the digits that are left
pub next_pair : (negative : Bool) (left tail byte : ℕ) (rest others more : List ℕ) → tail < 10 ^ left → 0 < tail → rest ≡ byte ∷ others → rest ≡ map (invert_if negative) (digits_key left tail) ++ more
    → Ends left tail (invert_if negative byte) others more ⊎ GoesOn negative left tail (invert_if negative byte) others more
next_pair negative zero tail byte rest others more below some first occurs = absurd (nothing_left tail below some)
next_pair negative (suc zero) tail byte rest others more below some first occurs =
    let e : byte ∷ others ≡ invert_if negative (20 * tail) ∷ more = sym first ∙ occurs ∙ ap (λ key. map (invert_if negative) key ++ more) (single_key tail) in
    let small : 20 * tail < 256 = omega (arith, below) in
    inl (ended negative 1 tail byte (20 * tail) others more small (back negative byte (20 * tail) others more small e) (omega arith) (omega arith) (omega arith) (λ one. omega arith) (tails byte (invert_if negative (20 * tail)) others more e))
next_pair negative (suc (suc count)) tail byte rest others more below some first occurs = elim (cases_eq (tail % 10 ^ count) 0) [
  | inl none ↦
      let pair = tail / 10 ^ count in
      let e : byte ∷ others ≡ invert_if negative (2 * pair) ∷ more = sym first ∙ occurs ∙ ap (λ key. map (invert_if negative) key ++ more) (last_pair count tail none) in
      let small : 2 * pair < 256 = omega (arith, pair_below count tail below) in
      let half : 2 * pair / 2 ≡ pair = omega arith in
      let whole : tail * 100 ≡ 2 * pair / 2 * 10 ^ suc (suc count) = omega (arith, ap (λ x. x * 10 ^ suc (suc count)) half, ap (λ x. pair * x) (hundred count), div-add-mod' tail (10 ^ count), none) in
      inl (ended negative (suc (suc count)) tail byte (2 * pair) others more small (back negative byte (2 * pair) others more small e) (omega arith) whole (omega arith) (λ one. absurd (omega (arith, one))) (tails byte (invert_if negative (2 * pair)) others more e))
  | inr some_left ↦
      let pair = tail / 10 ^ count in
      let left = tail % 10 ^ count in
      let key = map (invert_if negative) (digits_key count left) ++ more in
      let e : byte ∷ others ≡ invert_if negative (2 * pair + 1) ∷ key = sym first ∙ occurs ∙ ap (λ bytes. map (invert_if negative) bytes ++ more) (more_pairs count tail some_left) in
      let small : 2 * pair + 1 < 256 = omega (arith, pair_below count tail below) in
      let is = back negative byte (2 * pair + 1) others key small e in
      let half : (2 * pair + 1) / 2 ≡ pair = omega arith in
      inr (record {
        odd = ap (λ b. b % 2) is ∙ omega arith;
        count = count;
        rest = left;
        counted = omega arith;
        whole = omega (arith, div-add-mod' tail (10 ^ count), ap (λ b. b / 2 * 10 ^ count) is, ap (λ b. b * 10 ^ count) half);
        below = mod_below tail (10 ^ count) (ten count);
        some = omega (arith, some_left);
        occurs = tails byte (invert_if negative (2 * pair + 1)) others key e;
      })
]

-- ---- arithmetic of the digits

-- a product that is below another by one factor
pub cancel : (a b k : ℕ) → 0 < k → a * k ≡ b * k → a ≡ b
cancel a b k some e = elim (cases_lt a b) [
  | inl less ↦ absurd (omega (arith, e, mul-lt-mul_of_pos_right less some))
  | inr most ↦ elim (cases_lt b a) [
    | inl less ↦ absurd (omega (arith, e, mul-lt-mul_of_pos_right less some))
    | inr least ↦ omega (arith, most, least)
  ]
]

-- all digits with the last pair of them
pub all_digits : (C M digits read left tail pair with_pair last : ℕ) → read + left ≡ C → M ≡ digits * 10 ^ left + tail → tail * 100 ≡ pair * 10 ^ left → 0 < left → (left ≡ 1 → pair % 10 ≡ 0) → 0 < M
    → IsLastPair digits pair with_pair last → IsDigits C M with_pair (read + last)
all_digits C M digits read left tail pair with_pair last counted whole last_whole some single some_there p =
    let L = 10 ^ left in
    let R = 10 ^ last in
    let D = 10 ^ read in
    let hundredfold : M * 100 ≡ (digits * 100 + pair) * L = omega (arith, whole, last_whole) in
    let both : with_pair * L * 100 ≡ M * R * 100 = omega (arith, ap (λ x. x * L) p.whole, ap (λ x. x * R) hundredfold) in
    let same : with_pair * L ≡ M * R = cancel (with_pair * L) (M * R) 100 (omega arith) both in
    let power : 10 ^ C ≡ D * L = ap (λ k. 10 ^ k) (sym counted) ∙ pow-add 10 read left in
    let powers : 10 ^ (read + last) ≡ D * R = pow-add 10 read last in
    record {
      some = positive with_pair (mul-pos M R some_there (ten last)) same;
      whole = omega (arith, ap (λ x. with_pair * x) power, ap (λ x. x * D) same, ap (λ x. M * x) powers);
      fewer = fewer_read (cases_eq left 1);
    }
  where
    positive : (w : ℕ) → 0 < M * 10 ^ last → w * 10 ^ left ≡ M * 10 ^ last → 0 < w
    positive zero more e = absurd (omega (arith, more, e))
    positive (suc w) more e = omega arith

    fewer_read : (left ≡ 1) ⊎ (left ≡ 1 → ⊥) → read + last ≤ C
    fewer_read (inl one) = omega (arith, p.one (single one), counted, one)
    fewer_read (inr more) = let many : 2 ≤ left = at_least left some more in omega (arith, p.few, counted, many)
      where
        at_least : (l : ℕ) → 0 < l → (l ≡ 1 → ⊥) → 2 ≤ l
        at_least zero h k = absurd (omega (arith, h))
        at_least (suc zero) h k = absurd (k refl)
        at_least (suc (suc l)) h k = omega arith

-- with the last pair the digits are no more than the number
pub pair_fits : (M digits left tail pair : ℕ) → M ≡ digits * 10 ^ left + tail → tail * 100 ≡ pair * 10 ^ left → 0 < left → (left ≡ 1 → pair % 10 ≡ 0) → M ≤ 2 ^ 127 → (2 ^ 128 ≤ digits * 10 + pair / 10) ⊎ ((pair % 10 ≢ 0) × (2 ^ 128 ≤ digits * 100 + pair)) → ⊥
pair_fits M digits zero tail pair whole last some single high h = absurd (omega (arith, some))
pair_fits M digits (suc zero) tail pair whole last some single high (inl h) = absurd (omega (arith, whole, last, high, h))
pair_fits M digits (suc zero) tail pair whole last some single high (inr h) = absurd (h.0 (single refl))
pair_fits M digits (suc (suc left)) tail pair whole last some single high h =
    let P = 10 ^ left in
    let hundredfold : M * 100 ≡ (digits * 100 + pair) * (100 * P) = omega (arith, whole, last, ap (λ x. digits * x) (hundred left), ap (λ x. pair * x) (hundred left)) in
    let most : (digits * 100 + pair) * 1 ≤ (digits * 100 + pair) * P = mul-le-mul_left (digits * 100 + pair) (omega (arith, ten left)) in
    too_many h (omega (arith, hundredfold, most))
  where
    too_many : (2 ^ 128 ≤ digits * 10 + pair / 10) ⊎ ((pair % 10 ≢ 0) × (2 ^ 128 ≤ digits * 100 + pair)) → digits * 100 + pair ≤ M → ⊥
    too_many (inl k) all = absurd (omega (arith, k, all, high))
    too_many (inr k) all = absurd (omega (arith, k.1, all, high))

-- the last pair is none of zeros, and not past 99
pub no_zeros : (tail pair power : ℕ) → tail * 100 ≡ pair * power → 0 < tail → pair ≡ 0 → ⊥
no_zeros tail pair power e some none = absurd (omega (arith, e, some, ap (λ p. p * power) none))

no_more : (tail pair power : ℕ) → tail * 100 ≡ pair * power → tail < power → 99 < pair → ⊥
no_more tail pair power e below large = let more : 100 * power ≤ pair * power = mul-le-mul_right power (omega (arith, large)) in absurd (omega (arith, e, below, more))

-- with a pair that others follow they are less
pub pair_below_all : (M digits count rest pair left tail : ℕ) → M ≡ digits * 10 ^ left + tail → left ≡ count + 2 → tail ≡ pair * 10 ^ count + rest → (M ≡ (digits * 100 + pair) * 10 ^ count + rest) × (digits * 100 + pair ≤ M)
pair_below_all M digits count rest pair left tail whole counted more =
    let P = 10 ^ count in
    let power : 10 ^ left ≡ 100 * P = ap (λ k. 10 ^ k) (counted ∙ omega arith) ∙ hundred count in
    let all : M ≡ (digits * 100 + pair) * P + rest = omega (arith, whole, ap (λ x. digits * x) power, more) in
    let most : (digits * 100 + pair) * 1 ≤ (digits * 100 + pair) * P = mul-le-mul_left (digits * 100 + pair) (omega (arith, ten count)) in
    (all, omega (arith, all, most))

-- ---- one step of reading

module _ (negative : Bool) (bytes : List ℕ) (digits read : ℕ) (rest : List ℕ) (byte : ℕ) (others : List ℕ) (b : ℕ) (so_far : ReadsDigits negative bytes digits read rest) (first : rest ≡ byte ∷ others) (is : b ≡ invert_if negative byte)
    (C M : ℕ) (below : M < 10 ^ C) (some : 0 < M) (high : M ≤ 2 ^ 127) (few : C ≤ 39) (more : List ℕ) (e : bytes ≡ map (invert_if negative) (digits_key C M) ++ more) where
  here : DigitsLeft negative C M digits read rest more
  here = so_far C M below some high few more e

  cases : Ends here.left here.tail b others more ⊎ GoesOn negative here.left here.tail b others more
  cases = subst (λ x. Ends here.left here.tail x others more ⊎ GoesOn negative here.left here.tail x others more) (sym is) (next_pair negative here.left here.tail byte rest others more here.below here.some first here.occurs)

  at_end : b % 2 ≡ 0 → Ends here.left here.tail b others more ⊎ GoesOn negative here.left here.tail b others more → Ends here.left here.tail b others more
  at_end even (inl x) = x
  at_end even (inr y) = absurd (omega (arith, even, y.odd))

  going_on : b % 2 ≢ 0 → Ends here.left here.tail b others more ⊎ GoesOn negative here.left here.tail b others more → GoesOn negative here.left here.tail b others more
  going_on odd (inl x) = absurd (odd x.even)
  going_on odd (inr y) = y

  pub last_none : b % 2 ≡ 0 → (pair : ℕ) → pair ≡ b / 2 → IsNoLastPair digits pair → ⊥
  last_none even pair half (inl zeros) =
      let x = at_end even cases in
      no_zeros here.tail pair (10 ^ here.left) (x.whole ∙ ap (λ p. p * 10 ^ here.left) (sym half)) here.some zeros
  last_none even pair half (inr (inl large)) =
      let x = at_end even cases in
      no_more here.tail pair (10 ^ here.left) (x.whole ∙ ap (λ p. p * 10 ^ here.left) (sym half)) here.below large
  last_none even pair half (inr (inr h)) =
      let x = at_end even cases in
      pair_fits M digits here.left here.tail pair here.whole (x.whole ∙ ap (λ p. p * 10 ^ here.left) (sym half)) x.some (λ one. ap (λ p. p % 10) half ∙ x.single one) high h

  pub last_some : b % 2 ≡ 0 → (pair with_pair last : ℕ) → pair ≡ b / 2 → IsLastPair digits pair with_pair last → IsDigits C M with_pair (read + last) × (others ≡ more)
  last_some even pair with_pair last half p =
      let x = at_end even cases in (
        all_digits C M digits read here.left here.tail pair with_pair last here.counted here.whole (x.whole ∙ ap (λ q. q * 10 ^ here.left) (sym half)) x.some (λ one. ap (λ q. q % 10) half ∙ x.single one) some p,
        x.occurs,
      )

  -- all digits with the last pair of them, of which the second may be a zero behind the last digit
  pub all_with_last : b % 2 ≡ 0 → (left : ℕ) × (read + left ≡ C) × ((digits * 100 + b / 2) * 10 ^ left ≡ M * 100)
  all_with_last even =
      let x = at_end even cases in
      (here.left, here.counted, omega (arith, here.whole, x.whole))

  pub pair_small : b % 2 ≢ 0 → (pair : ℕ) → pair ≡ b / 2 → pair < 100
  pair_small odd pair half =
      let y = going_on odd cases in
      let power : 10 ^ here.left ≡ 100 * 10 ^ y.count = ap (λ k. 10 ^ k) (y.counted ∙ omega arith) ∙ hundred y.count in
      let small : b / 2 * 10 ^ y.count < 100 * 10 ^ y.count = omega (arith, here.below, power, y.whole) in
      elim (cases_lt pair 100) [
        | inl less ↦ less
        | inr large ↦ let more : 100 * 10 ^ y.count ≤ pair * 10 ^ y.count = mul-le-mul_right (10 ^ y.count) large in absurd (omega (arith, more, small, ap (λ p. p * 10 ^ y.count) half))
      ]

  pub few_read : b % 2 ≢ 0 → 38 < read → ⊥
  few_read odd many = let y = going_on odd cases in absurd (omega (arith, here.counted, y.counted, few, many))

  pub pair_within : b % 2 ≢ 0 → (pair : ℕ) → pair ≡ b / 2 → digits * 100 + pair < 2 ^ 128
  pair_within odd pair half =
      let y = going_on odd cases in
      let all = pair_below_all M digits y.count y.rest pair here.left here.tail here.whole y.counted (y.whole ∙ ap (λ p. p * 10 ^ y.count + y.rest) (sym half)) in
      omega (arith, all.1, high)

  pub pair_read : b % 2 ≢ 0 → (pair now read_now : ℕ) → pair ≡ b / 2 → now ≡ digits * 100 + pair → read_now ≡ read + 2 → DigitsLeft negative C M now read_now others more
  pair_read odd pair now read_now half is_now is_read =
      let y = going_on odd cases in
      let all = pair_below_all M digits y.count y.rest pair here.left here.tail here.whole y.counted (y.whole ∙ ap (λ p. p * 10 ^ y.count + y.rest) (sym half)) in
      record {
        left = y.count;
        tail = y.rest;
        counted = omega (arith, here.counted, y.counted, is_read);
        whole = all.0 ∙ ap (λ d. d * 10 ^ y.count + y.rest) (sym is_now);
        below = y.below;
        some = y.some;
        occurs = y.occurs;
      }

pub no_bytes : (negative : Bool) (left tail : ℕ) (more : List ℕ) → tail < 10 ^ left → 0 < tail → [] ≡ map (invert_if negative) (digits_key left tail) ++ more → ⊥
no_bytes negative zero tail more below some e = absurd (nothing_left tail below some)
no_bytes negative (suc zero) tail more below some e = let clash : [] ≡ invert_if negative (20 * tail) ∷ more = e ∙ ap (λ key. map (invert_if negative) key ++ more) (single_key tail) in cc
no_bytes negative (suc (suc count)) tail more below some e = elim (cases_eq (tail % 10 ^ count) 0) [
  | inl none ↦ let clash : [] ≡ invert_if negative (2 * (tail / 10 ^ count)) ∷ more = e ∙ ap (λ key. map (invert_if negative) key ++ more) (last_pair count tail none) in cc
  | inr others ↦ let clash : [] ≡ invert_if negative (2 * (tail / 10 ^ count) + 1) ∷ (map (invert_if negative) (digits_key count (tail % 10 ^ count)) ++ more) = e ∙ ap (λ key. map (invert_if negative) key ++ more) (more_pairs count tail others) in cc
]

-- digits are left as long as the last pair was not read
pub not_over : (negative : Bool) (bytes : List ℕ) (digits read : ℕ) (rest : List ℕ) → ReadsDigits negative bytes digits read rest → length rest ≡ 0 → (C M : ℕ) → M < 10 ^ C → 0 < M → M ≤ 2 ^ 127 → C ≤ 39 → (more : List ℕ) → bytes ≡ map (invert_if negative) (digits_key C M) ++ more → ⊥
not_over negative bytes digits read rest so_far over C M below some high few more e =
    let d = so_far C M below some high few more e in
    empty rest over d.occurs
  where
    d : DigitsLeft negative C M digits read rest more
    d = so_far C M below some high few more e

    empty : (xs : List ℕ) → length xs ≡ 0 → xs ≡ map (invert_if negative) (digits_key d.left d.tail) ++ more → ⊥
    empty [] o s = no_bytes negative d.left d.tail more d.below d.some s
    empty (x ∷ xs) o s = absurd (omega (arith, o))
