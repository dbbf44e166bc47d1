-- Bytes that digits are read from are the key of these digits.
use Rattle.std.proofs.Common.{◌≡◌, ◌≢◌, ℕ, zero, suc, ◌+◌, ◌-◌, ◌*◌, ◌/◌, ◌%◌, ◌^◌, ◌<◌, ◌≤◌, ◌⊎◌, inl, inr, Bool, true, false, List, [], ◌∷◌, ◌++◌, map, Option, Some, None, IfSome, refl, sym, ap, ◌∙◌, arith, append_assoc, append-nil}
use Rattle.std.proofs.Math.Nat.{pow-zero, pow-suc, mul-le-mul_right, mul-lt-mul_of_pos_right}
use Rattle.std.proofs.lemmas.Bool.{cases_lt, cases_eq}
use Rattle.std.proofs.lemmas.List.{map-append}
use Rattle.std.proofs.lemmas.Nat.{div-add-mod', div-mul-add, mod-mul-add, div_below, mod_below, pow-add}
use Rattle.jsonb_spec.specs.Number.Signed.{signed_by}
use Rattle.jsonb_spec.specs.SortKey.{number_key, exponent_key, digits_key, digit_count, magnitude_key, invert_if}
use Rattle.jsonb_spec.specs.Tree.{Num}
use Rattle.jsonb_core.proofs.SortKeys.Counts.{digit_count-is, power_le}
use Rattle.jsonb_core.proofs.SortKeys.Digits.{ten, hundred, more_pairs, last_pair, digits_compare, mul-pos}
use Rattle.jsonb_core.proofs.SortKeys.Numbers.{positive, negative, magnitude_split}
use Rattle.jsonb_core.proofs.SortKeys.Pairs.{two_digits, single_digit}
use Rattle.jsonb_core.proofs.SortKeys.Comparing.{is_equal}
use Rattle.jsonb_spec.specs.Order.{bytes_cmp}
use Rattle.std.specs.Ordering.{nat_cmp, ordering_then}
use Rattle.std.specs.declared.cmp.Ordering.TheVariants.{Equal}
use Rattle.std.proofs.lemmas.Map.Lookups.{exact_bytes}
use Rattle.jsonb_core.proofs.Trees.Runs.{heads}
use Rattle.key_value.proofs.Numbers.{turned_twice, far_exponent, near_exponent}
use Rattle.jsonb_spec.specs.SortKey.Reading.{IsLastPair}

-- what holds of the value holds of it in another form
pub if_some : {A : Type 0} {P Q : A → Type 0} (o : Option A) → IfSome o P → ((a : A) → P a → Q a) → IfSome o Q
if_some (Some a) p f = f a p
if_some None p f = tt

-- ---- the exponent

pub far_exact : (negative : Bool) (first exponent : ℕ) (bytes tail rest : List ℕ) → first < 256 → invert_if negative first ≡ 129 → bytes ≡ first ∷ tail → tail ≡ invert_if negative exponent ∷ rest → exponent < 225
    → bytes ≡ map (invert_if negative) (exponent_key exponent) ++ rest
far_exact negative first exponent bytes tail rest small is e behind low =
    let back : first ≡ invert_if negative 129 = sym (turned_twice negative first small) ∙ ap (invert_if negative) is in
    e ∙ ap (λ b. b ∷ tail) back ∙ ap (λ bs. invert_if negative 129 ∷ bs) behind ∙ ap (λ key. map (invert_if negative) key ++ rest) (sym (far_exponent exponent low))

pub near_exact : (negative : Bool) (first byte : ℕ) (bytes rest : List ℕ) → first < 256 → byte ≡ invert_if negative first → 130 ≤ byte → bytes ≡ first ∷ rest
    → bytes ≡ map (invert_if negative) (exponent_key (byte + 95)) ++ rest
near_exact negative first byte bytes rest small is high e =
    let back : first ≡ invert_if negative byte = sym (turned_twice negative first small) ∙ ap (invert_if negative) (sym is) in
    let moved : byte + 95 - 95 ≡ byte = omega arith in
    e ∙ ap (λ b. b ∷ rest) (back ∙ ap (invert_if negative) (sym moved)) ∙ ap (λ key. map (invert_if negative) key ++ rest) (sym (near_exponent (byte + 95) (omega (arith, high))))

-- ---- digits

-- These digits were read: whatever digits are behind them, the key of all begins with the bytes before the rest.
pub record DigitsRead (negative : Bool) (bytes : List ℕ) (digits count : ℕ) (rest : List ℕ) : Type 0 where
  pub front : List ℕ
  pub below : digits < 10 ^ count
  pub begins : (C M : ℕ) → 0 < M → M < 10 ^ C → map (invert_if negative) (digits_key (count + C) (digits * 10 ^ C + M)) ≡ front ++ map (invert_if negative) (digits_key C M)
  pub occurs : bytes ≡ front ++ rest

pub none_read : (negative : Bool) (bytes : List ℕ) → DigitsRead negative bytes 0 0 bytes
none_read negative bytes = record {
  front = [];
  below = omega (arith, pow-zero 10);
  begins = λ C M some below. (λ i. map (invert_if negative) (digits_key (sum C i) (whole C M i)));
  occurs = refl;
}
  where
    sum : (C : ℕ) → 0 + C ≡ C
    sum C = omega arith

    whole : (C M : ℕ) → 0 * 10 ^ C + M ≡ M
    whole C M = omega arith

-- a pair in front of other digits
pair_first : (negative : Bool) (pair C M : ℕ) → 0 < M → M < 10 ^ C → map (invert_if negative) (digits_key (suc (suc C)) (pair * 10 ^ C + M)) ≡ invert_if negative (2 * pair + 1) ∷ map (invert_if negative) (digits_key C M)
pair_first negative pair C M some below =
    let left : (pair * 10 ^ C + M) % 10 ^ C ≡ M = mod-mul-add pair (10 ^ C) M below in
    let front : (pair * 10 ^ C + M) / 10 ^ C ≡ pair = div-mul-add pair (10 ^ C) M below in
    ap (map (invert_if negative)) (more_pairs C (pair * 10 ^ C + M) (λ z. absurd (omega (arith, some, left, z))))
    ∙ (λ i. invert_if negative (2 * front i + 1) ∷ map (invert_if negative) (digits_key C (left i)))

pub one_pair_read : (negative : Bool) (bytes : List ℕ) (digits count : ℕ) (rest others : List ℕ) (byte b pair now : ℕ) → DigitsRead negative bytes digits count rest → rest ≡ byte ∷ others → byte < 256 → b ≡ invert_if negative byte → pair ≡ b / 2 → b % 2 ≢ 0 → pair < 100 → now ≡ digits * 100 + pair
    → DigitsRead negative bytes now (count + 2) others
one_pair_read negative bytes digits count rest others byte b pair now so_far first fits is half odd small is_now =
    let whole : b ≡ 2 * pair + 1 = omega (arith, half, odd) in
    let back : byte ≡ invert_if negative (2 * pair + 1) = sym (turned_twice negative byte fits) ∙ ap (invert_if negative) (sym is ∙ whole) in
    let power : 10 ^ (count + 2) ≡ 10 ^ count * 100 = pow-add 10 count 2 in
    record {
      front = so_far.front ++ byte ∷ [];
      below = omega (arith, so_far.below, small, is_now, power);
      begins = λ C M some below.
          let all : now * 10 ^ C + M ≡ digits * 10 ^ suc (suc C) + (pair * 10 ^ C + M) = omega (arith, ap (λ x. x * 10 ^ C) is_now, ap (λ x. digits * x) (hundred C)) in
          let sum : count + 2 + C ≡ count + suc (suc C) = omega arith in
          let less : pair * 10 ^ C + M < 10 ^ suc (suc C) = below_all C M below in
          (λ i. map (invert_if negative) (digits_key (sum i) (all i)))
          ∙ so_far.begins (suc (suc C)) (pair * 10 ^ C + M) (omega (arith, some)) less
          ∙ ap (λ key. so_far.front ++ key) (pair_first negative pair C M some below ∙ ap (λ x. x ∷ map (invert_if negative) (digits_key C M)) (sym back))
          ∙ sym (append_assoc so_far.front (byte ∷ []) (map (invert_if negative) (digits_key C M)));
      occurs = so_far.occurs ∙ ap (λ bs. so_far.front ++ bs) first ∙ sym (append_assoc so_far.front (byte ∷ []) others);
    }
  where
    below_all : (C M : ℕ) → M < 10 ^ C → pair * 10 ^ C + M < 10 ^ suc (suc C)
    below_all C M below = let most : pair * 10 ^ C ≤ 99 * 10 ^ C = le_times pair 99 (10 ^ C) (omega (arith, small)) in omega (arith, below, most, hundred C)
      where
        le_times : (x y z : ℕ) → x ≤ y → x * z ≤ y * z
        le_times x y z h = mul-le-mul_right z h

pub last_pair_read : (negative : Bool) (bytes : List ℕ) (digits count : ℕ) (rest others : List ℕ) (byte b pair all last : ℕ) → DigitsRead negative bytes digits count rest → rest ≡ byte ∷ others → byte < 256 → b ≡ invert_if negative byte → pair ≡ b / 2 → b % 2 ≡ 0 → IsLastPair digits pair all last
    → (bytes ≡ map (invert_if negative) (digits_key (count + last) all) ++ others) × (all < 10 ^ (count + last))
last_pair_read negative bytes digits count rest others byte b pair all last so_far first fits is half even p = by p.taken
  where
    whole : b ≡ 2 * pair
    whole = omega (arith, half, even)

    back : byte ≡ invert_if negative (2 * pair)
    back = sym (turned_twice negative byte fits) ∙ ap (invert_if negative) (sym is ∙ whole)

    some : 0 < pair
    some = positive pair refl
      where
        positive : (q : ℕ) → pair ≡ q → 0 < pair
        positive (suc q) e = omega (arith, e)
        positive zero e = absurd (p.not_zero (none p.taken))
          where
            none : ((last ≡ 2) × (all ≡ digits * 100 + pair)) ⊎ ((last ≡ 1) × (pair % 10 ≡ 0) × (all ≡ digits * 10 + pair / 10)) → all % 10 ≡ 0
            none (inl t) = omega (arith, t.1, e)
            none (inr t) = omega (arith, t.2, e)

    occurs : (C M : ℕ) → 0 < M → M < 10 ^ C → digits_key C M ≡ (2 * pair) ∷ [] → bytes ≡ map (invert_if negative) (digits_key (count + C) (digits * 10 ^ C + M)) ++ others
    occurs C M positive below key =
        so_far.occurs ∙ ap (λ bs. so_far.front ++ bs) first ∙ ap (λ x. so_far.front ++ x ∷ others) back
        ∙ sym (append_assoc so_far.front (invert_if negative (2 * pair) ∷ []) others)
        ∙ ap (λ k. (so_far.front ++ map (invert_if negative) k) ++ others) (sym key)
        ∙ ap (λ k. k ++ others) (sym (so_far.begins C M positive below))

    by : ((last ≡ 2) × (all ≡ digits * 100 + pair)) ⊎ ((last ≡ 1) × (pair % 10 ≡ 0) × (all ≡ digits * 10 + pair / 10)) → (bytes ≡ map (invert_if negative) (digits_key (count + last) all) ++ others) × (all < 10 ^ (count + last))
    by (inl t) =
        let is_all : digits * 10 ^ 2 + pair ≡ all = omega (arith, t.1) in (
          occurs 2 pair some p.below (two_digits pair) ∙ (λ i. map (invert_if negative) (digits_key (count + sym t.0 i) (is_all i)) ++ others),
          omega (arith, ap (λ k. 10 ^ (count + k)) t.0, pow-add 10 count 2, so_far.below, p.below, t.1),
        )
    by (inr t) =
        let tenth : 20 * (pair / 10) ≡ 2 * pair = omega (arith, t.1) in
        let is_all : digits * 10 ^ 1 + pair / 10 ≡ all = omega (arith, t.2) in (
          occurs 1 (pair / 10) (omega (arith, t.1, some)) (omega (arith, p.below)) (single_digit (pair / 10) ∙ ap (λ x. x ∷ []) tenth) ∙ (λ i. map (invert_if negative) (digits_key (count + sym t.0 i) (is_all i)) ++ others),
          omega (arith, ap (λ k. 10 ^ (count + k)) t.0, pow-add 10 count 1, so_far.below, p.below, t.2),
        )

-- the first digit of these isn't 0
pub first_digit : (negative : Bool) (count m first : ℕ) (bytes tail more : List ℕ) → 0 < m → m < 10 ^ count → bytes ≡ map (invert_if negative) (digits_key count m) ++ more → bytes ≡ first ∷ tail → 20 ≤ invert_if negative first → 10 ^ count ≤ m * 10
first_digit negative zero m first bytes tail more some below occurs e high = omega (arith, pow-zero 10, some)
first_digit negative (suc zero) m first bytes tail more some below occurs e high = omega (arith, pow-zero 10, pow-suc 10 0, some)
first_digit negative (suc (suc count)) m first bytes tail more some below occurs e high = elim (cases_eq (m % 10 ^ count) 0) [
  | inl none ↦ least (2 * (m / 10 ^ count)) (omega arith) (omega (arith, pair_below)) (heads first _ tail _ (sym e ∙ occurs ∙ ap (λ key. map (invert_if negative) key ++ more) (last_pair count m none)))
  | inr others ↦ least (2 * (m / 10 ^ count) + 1) (omega arith) (omega (arith, pair_below)) (heads first _ tail _ (sym e ∙ occurs ∙ ap (λ key. map (invert_if negative) key ++ more) (more_pairs count m others)))
]
  where
    pair_below : m / 10 ^ count < 100
    pair_below = div_below m (10 ^ count) 100 (ten count) (omega (arith, below, hundred count))

    least : (key : ℕ) → key ≤ 2 * (m / 10 ^ count) + 1 → key < 256 → first ≡ invert_if negative key → 10 ^ suc (suc count) ≤ m * 10
    least key most small is =
        let back : invert_if negative first ≡ key = ap (invert_if negative) is ∙ turned_twice negative key small in
        let pair : 10 ≤ m / 10 ^ count = omega (arith, most, high, back) in
        let enough : 10 * 10 ^ count ≤ m / 10 ^ count * 10 ^ count = mul-le-mul_right (10 ^ count) pair in
        omega (arith, enough, hundred count, div-add-mod' m (10 ^ count))

-- the key of digits, of which the first isn't 0
pub digit_there : (negative : Bool) (count m : ℕ) (bytes more : List ℕ) → 0 < m → m < 10 ^ count → 10 ^ count ≤ m * 10 → bytes ≡ map (invert_if negative) (digits_key count m) ++ more
    → ((first : ℕ) (rest : List ℕ) → bytes ≡ first ∷ rest → invert_if negative first < 20) → ⊥
digit_there negative zero m bytes more some below least occurs low = omega (arith, pow-zero 10, some, below)
digit_there negative (suc zero) m bytes more some below least occurs low =
    let key = occurs ∙ ap (λ k. map (invert_if negative) k ++ more) (single_digit m) in
    let small : 20 * m < 256 = omega (arith, below) in
    omega (arith, some, low _ more key, turned_twice negative (20 * m) small)
digit_there negative (suc (suc count)) m bytes more some below least occurs low = elim (cases_eq (m % 10 ^ count) 0) [
  | inl none ↦ clash (2 * (m / 10 ^ count)) (omega arith) (omega (arith, pair_below)) _ (occurs ∙ ap (λ key. map (invert_if negative) key ++ more) (last_pair count m none))
  | inr others ↦ clash (2 * (m / 10 ^ count) + 1) (omega arith) (omega (arith, pair_below)) _ (occurs ∙ ap (λ key. map (invert_if negative) key ++ more) (more_pairs count m others))
]
  where
    pair_below : m / 10 ^ count < 100
    pair_below = div_below m (10 ^ count) 100 (ten count) (omega (arith, below, hundred count))

    ten_or_more : 10 ≤ m / 10 ^ count
    ten_or_more = elim (cases_lt (m / 10 ^ count) 10) [
      | inl few ↦ let most : m / 10 ^ count * 10 ^ count ≤ 9 * 10 ^ count = mul-le-mul_right (10 ^ count) (omega (arith, few)) in
          absurd (omega (arith, most, hundred count, div-add-mod' m (10 ^ count), mod_below m (10 ^ count) (ten count), least))
      | inr many ↦ many
    ]

    clash : (key : ℕ) → 2 * (m / 10 ^ count) ≤ key → key < 256 → (tail : List ℕ) → bytes ≡ invert_if negative key ∷ tail → ⊥
    clash key high small tail e = omega (arith, ten_or_more, high, low (invert_if negative key) tail e, turned_twice negative key small)

-- ---- the number

-- digits with zeros behind them have one key
pub zeros_left_out : (count k m : ℕ) → 0 < m → m < 10 ^ count → digits_key (count + k) (m * 10 ^ k) ≡ digits_key count m
zeros_left_out count k m some below =
    let power : 10 ^ (count + k) ≡ 10 ^ count * 10 ^ k = pow-add 10 count k in
    let less : m * 10 ^ k < 10 ^ (count + k) = omega (arith, power, mul-lt-mul_of_pos_right below (ten k)) in
    let same : m * 10 ^ k * 10 ^ count ≡ m * 10 ^ (count + k) = omega (arith, ap (λ x. m * x) power) in
    let compared = digits_compare false (count + k) count (m * 10 ^ k) m less below (mul-pos m (10 ^ k) some (ten k)) some in
    let equal : nat_cmp (m * 10 ^ k * 10 ^ count) (m * 10 ^ (count + k)) ≡ Equal = is_equal _ _ same in
    sym (as_it_is (digits_key (count + k) (m * 10 ^ k)))
    ∙ exact_bytes (map (invert_if false) (digits_key (count + k) (m * 10 ^ k))) (map (invert_if false) (digits_key count m))
    ((λ i. bytes_cmp (sym (append-nil (map (invert_if false) (digits_key (count + k) (m * 10 ^ k)))) i) (sym (append-nil (map (invert_if false) (digits_key count m))) i)) ∙ compared.compared [] [] ∙ ap (λ r. ordering_then r Equal) equal)
    ∙ as_it_is (digits_key count m)
  where
    as_it_is : (bytes : List ℕ) → map (invert_if false) bytes ≡ bytes
    as_it_is [] = refl
    as_it_is (b ∷ bytes) = ap (λ bs. b ∷ bs) (as_it_is bytes)

-- how many digits these are
pub counted : (count m : ℕ) → m < 10 ^ count → 10 ^ count ≤ m * 10 → 0 < m → m < 10 ^ 39 → digit_count m ≡ count
counted zero m below least some small = absurd (omega (arith, below, some, pow-zero 10))
counted (suc count) m below least some small =
    let least_one : 10 ^ count ≤ m = omega (arith, least, pow-suc 10 count) in
    let few : count < 39 = elim (cases_lt count 39) [
      | inl h ↦ h
      | inr h ↦ let many : 10 ^ 39 ≤ 10 ^ count = power_le 39 count h in absurd (omega (arith, many, least_one, small))
    ] in
    digit_count-is m count least_one (omega (arith, below, pow-suc 10 count)) few ∙ omega arith

-- the key of a number of this sign, by its digits
pub key_of_parts : (x : Num) (sign : Bool) (scale magnitude count exponent : ℕ) → x.scale ≡ scale → x.whole ≡ signed_by sign magnitude → 0 < magnitude → count ≡ digit_count magnitude → exponent ≡ count + 255 - scale
    → number_key x ≡ map (invert_if sign) (exponent_key exponent) ++ map (invert_if sign) (digits_key count magnitude)
key_of_parts x sign scale zero count exponent s w some c p = absurd (omega (arith, some))
key_of_parts x false scale (suc a) count exponent s w some c p =
    positive x a w ∙ ap (λ k. map (invert_if false) (magnitude_key k (suc a))) s ∙ magnitude_split false scale (suc a) count exponent c p
key_of_parts x true scale (suc a) count exponent s w some c p =
    negative x a w ∙ ap (λ k. map (invert_if true) (magnitude_key k (suc a))) s ∙ magnitude_split true scale (suc a) count exponent c p

pub up_key : (x : Num) (sign : Bool) (digits count exponent power magnitude : ℕ) → x.scale ≡ 0 → x.whole ≡ signed_by sign magnitude → magnitude ≡ digits * power → power ≡ 10 ^ (exponent - (255 + count)) → 255 + count ≤ exponent → 0 < digits → digits < 10 ^ count → 10 ^ count ≤ digits * 10 → magnitude < 10 ^ 39
    → number_key x ≡ map (invert_if sign) (exponent_key exponent ++ digits_key count digits)
up_key x sign digits count exponent power magnitude s w product is_power high some below least small =
    let k = exponent - (255 + count) in
    let is : magnitude ≡ digits * 10 ^ k = product ∙ ap (λ q. digits * q) is_power in
    let positive = mul-pos digits (10 ^ k) some (ten k) in
    let powers : 10 ^ (count + k) ≡ 10 ^ count * 10 ^ k = pow-add 10 count k in
    let less : magnitude < 10 ^ (count + k) = omega (arith, is, powers, mul-lt-mul_of_pos_right below (ten k)) in
    let at_least : 10 ^ (count + k) ≤ magnitude * 10 = omega (arith, is, powers, mul-le-mul_right (10 ^ k) least) in
    let is_count = counted (count + k) magnitude less at_least (omega (arith, is, positive)) small in
    key_of_parts x sign 0 magnitude (count + k) exponent s w (omega (arith, is, positive)) (sym is_count) (omega (arith, high))
    ∙ ap (λ m. map (invert_if sign) (exponent_key exponent) ++ map (invert_if sign) (digits_key (count + k) m)) is
    ∙ ap (λ key. map (invert_if sign) (exponent_key exponent) ++ map (invert_if sign) key) (zeros_left_out count k digits some below)
    ∙ sym (map-append (invert_if sign) (exponent_key exponent) (digits_key count digits))

pub down_key : (x : Num) (sign : Bool) (scale digits count exponent : ℕ) → x.scale ≡ scale → x.whole ≡ signed_by sign digits → scale ≡ (255 + count) - exponent → exponent ≤ 255 + count → 0 < digits → digits < 10 ^ count → 10 ^ count ≤ digits * 10 → digits < 10 ^ 39
    → number_key x ≡ map (invert_if sign) (exponent_key exponent ++ digits_key count digits)
down_key x sign scale digits count exponent s w is_scale low some below least small =
    let is_count = counted count digits below least some small in
    key_of_parts x sign scale digits count exponent s w some (sym is_count) (omega (arith, is_scale, low))
    ∙ sym (map-append (invert_if sign) (exponent_key exponent) (digits_key count digits))
