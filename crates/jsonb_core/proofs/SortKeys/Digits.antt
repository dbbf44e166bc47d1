-- The digits of numbers, in pairs.
use Rattle.std.proofs.Common.{◌≡◌, ◌≢◌, ℕ, zero, suc, ◌+◌, ◌-◌, ◌*◌, ◌/◌, ◌%◌, ◌^◌, ◌<◌, ◌≤◌, inl, inr, ◌⊎◌, Bool, true, false, List, [], ◌∷◌, ◌++◌, map, refl, sym, ap, ◌∙◌, arith, eq-eqb, ◌==◌}
use Rattle.std.proofs.Math.Nat.{mul-lt-mul_of_pos_right, one-le-pow, pow-suc, pow-zero}
use Rattle.std.proofs.lemmas.Bool.{ne_eqb, cond-true, cond-false, cases_eq}
use Rattle.std.proofs.lemmas.Bool.Decides.{eqb_tells}
use Rattle.std.proofs.lemmas.Nat.{div-add-mod', mod_below, div_below}
use Rattle.std.specs.Ordering.{nat_cmp, ordering_then, ordering_reverse, MatchOrdering}
use Rattle.std.specs.declared.cmp.Ordering.{Ordering}
use Rattle.std.specs.declared.cmp.Ordering.TheVariants.{Less, Equal, Greater}
use Rattle.jsonb_spec.specs.SortKey.{digits_key, invert_if}
use Rattle.jsonb_core.proofs.SortKeys.Comparing.{Compares, nothing, is_less, is_equal, is_greater, ranks, nat_cmp-scaled, nat_cmp-digits, byte_then, byte_below, byte_above}

-- an answer about numbers of that sign, from the answer about them without it
abbrev pub signed_order : Bool → Ordering → Ordering
signed_order false r = r
signed_order true r = ordering_reverse r

pub signed_equal : (negative : Bool) → signed_order negative Equal ≡ Equal
signed_equal false = refl
signed_equal true = refl

pub turned_below : (negative : Bool) (h k : ℕ) (c d : List ℕ) → h < k → k < 256
    → Compares (invert_if negative h ∷ c) (invert_if negative k ∷ d) (signed_order negative Less)
turned_below false h k c d l b = byte_below h k c d l
turned_below true h k c d l b = byte_above (255 - h) (255 - k) c d (omega arith)

pub turned_above : (negative : Bool) (h k : ℕ) (c d : List ℕ) → k < h → h < 256
    → Compares (invert_if negative h ∷ c) (invert_if negative k ∷ d) (signed_order negative Greater)
turned_above false h k c d l b = byte_above h k c d l
turned_above true h k c d l b = byte_below (255 - h) (255 - k) c d (omega arith)

pub turned_same : (negative : Bool) (h k : ℕ) (c d : List ℕ) (r : Ordering) → h ≡ k → Compares c d r
    → Compares (invert_if negative h ∷ c) (invert_if negative k ∷ d) r
turned_same negative h k c d r e p = byte_then _ _ c d Equal r (is_equal _ _ (ap (invert_if negative) e)) p

pub ten : (n : ℕ) → 0 < 10 ^ n
ten n = omega (arith, one-le-pow n 10 (omega arith))

pub hundred : (n : ℕ) → 10 ^ suc (suc n) ≡ 100 * 10 ^ n
hundred n = omega (arith, pow-suc 10 (suc n), pow-suc 10 n)

pub mul-pos : (a b : ℕ) → 0 < a → 0 < b → 0 < a * b
mul-pos a b p q = omega (arith, mul-lt-mul_of_pos_right p q)

-- ---- the first byte of the key of two digits or more, and the rest

pub last_pair : (count m : ℕ) → m % 10 ^ count ≡ 0 → digits_key (suc (suc count)) m ≡ (2 * (m / 10 ^ count)) ∷ []
unfolding digits_key
last_pair count m h = cond-true (m % 10 ^ count == 0) _ _ (eq-eqb (m % 10 ^ count) 0 h)

pub more_pairs : (count m : ℕ) → m % 10 ^ count ≢ 0
    → digits_key (suc (suc count)) m ≡ (2 * (m / 10 ^ count) + 1) ∷ digits_key count (m % 10 ^ count)
unfolding digits_key
more_pairs count m h = cond-false (m % 10 ^ count == 0) _ _ (ne_eqb (m % 10 ^ count) 0 h)

record Begins (count m : ℕ) : Type 0 where
  head : ℕ
  tail : List ℕ
  is : digits_key (suc (suc count)) m ≡ head ∷ tail
  low : 2 * (m / 10 ^ count) ≤ head
  high : head ≤ 2 * (m / 10 ^ count) + 1

begins : (count m : ℕ) → Begins count m
begins count m =
    elim (eqb_tells (m % 10 ^ count) 0) [
      | inl w ↦ record { head = 2 * (m / 10 ^ count); tail = []; is = last_pair count m w.1; low = omega arith; high = omega arith }
      | inr w ↦ record {
        head = 2 * (m / 10 ^ count) + 1;
        tail = digits_key count (m % 10 ^ count);
        is = more_pairs count m w.1;
        low = omega arith;
        high = omega arith;
      }
    ]

pair_below : (count m : ℕ) → m < 10 ^ suc (suc count) → m / 10 ^ count < 100
pair_below count m h = div_below m (10 ^ count) 100 (ten count) (omega (arith, hundred count))

-- what the digits say of two numbers, each with its count
abbrev pub DigitsCompare : Bool → ℕ → ℕ → ℕ → ℕ → Type 0
DigitsCompare negative a b m n =
    Compares (map (invert_if negative) (digits_key a m)) (map (invert_if negative) (digits_key b n))
    (signed_order negative (nat_cmp (m * 10 ^ b) (n * 10 ^ a)))

-- two numbers by their first pairs, and then by the rest
crossed : (a b m n : ℕ) → nat_cmp (m * 10 ^ suc (suc b)) (n * 10 ^ suc (suc a))
    ≡ ordering_then (nat_cmp (m / 10 ^ a) (n / 10 ^ b)) (nat_cmp (m % 10 ^ a * 10 ^ b) (n % 10 ^ b * 10 ^ a))
crossed a b m n =
    let A = 10 ^ a in
    let B = 10 ^ b in
    let left : m * 10 ^ suc (suc b) ≡ (m / A * (A * B) + m % A * B) * 100 =
    omega (arith, ap (λ x. m * x) (hundred b), ap (λ x. x * B) (div-add-mod' m A)) in
    let right : n * 10 ^ suc (suc a) ≡ (n / B * (A * B) + n % B * A) * 100 =
    omega (arith, ap (λ x. n * x) (hundred a), ap (λ x. x * A) (div-add-mod' n B)) in
    let first : m % A * B < A * B = mul-lt-mul_of_pos_right (mod_below m A (ten a)) (ten b) in
    let second : n % B * A < A * B = omega (arith, mul-lt-mul_of_pos_right (mod_below n B (ten b)) (ten a)) in
    (λ i. nat_cmp (left i) (right i))
    ∙ sym (nat_cmp-scaled (m / A * (A * B) + m % A * B) (n / B * (A * B) + n % B * A) 100 (omega arith))
    ∙ nat_cmp-digits (A * B) (m / A) (n / B) (m % A * B) (n % B * A) first second

-- where the first pairs are the same, the rest decides
same_pairs : (negative : Bool) (a b m n : ℕ) → m < 10 ^ suc (suc a) → n < 10 ^ suc (suc b) → m / 10 ^ a ≡ n / 10 ^ b
    → (0 < m % 10 ^ a → 0 < n % 10 ^ b → DigitsCompare negative a b (m % 10 ^ a) (n % 10 ^ b))
    → (m % 10 ^ a ≡ 0) ⊎ (m % 10 ^ a ≡ 0 → ⊥) → (n % 10 ^ b ≡ 0) ⊎ (n % 10 ^ b ≡ 0 → ⊥)
    → Compares (map (invert_if negative) (digits_key (suc (suc a)) m)) (map (invert_if negative) (digits_key (suc (suc b)) n))
    (signed_order negative (nat_cmp (m % 10 ^ a * 10 ^ b) (n % 10 ^ b * 10 ^ a)))
same_pairs negative a b m n p q l rest (inl x) (inl y) =
    let same : nat_cmp (m % 10 ^ a * 10 ^ b) (n % 10 ^ b * 10 ^ a) ≡ Equal =
    is_equal (m % 10 ^ a * 10 ^ b) (n % 10 ^ b * 10 ^ a) (omega (arith, ap (λ r. r * 10 ^ b) x, ap (λ r. r * 10 ^ a) y)) in
    rw (last_pair a m x, last_pair b n y, same, signed_equal negative)
    (turned_same negative _ _ [] [] Equal (ap (λ d. 2 * d) l) nothing)
same_pairs negative a b m n p q l rest (inl x) (inr y) =
    let some : 0 < n % 10 ^ b * 10 ^ a = mul-pos (n % 10 ^ b) (10 ^ a) (omega arith) (ten a) in
    let less : nat_cmp (m % 10 ^ a * 10 ^ b) (n % 10 ^ b * 10 ^ a) ≡ Less = is_less (m % 10 ^ a * 10 ^ b) (n % 10 ^ b * 10 ^ a) (omega (arith, ap (λ r. r * 10 ^ b) x)) in
    rw (last_pair a m x, more_pairs b n y, less)
    (turned_below negative _ _ [] (map (invert_if negative) (digits_key b (n % 10 ^ b))) (omega arith) (omega (arith, pair_below b n q)))
same_pairs negative a b m n p q l rest (inr x) (inl y) =
    let some : 0 < m % 10 ^ a * 10 ^ b = mul-pos (m % 10 ^ a) (10 ^ b) (omega arith) (ten b) in
    let greater : nat_cmp (m % 10 ^ a * 10 ^ b) (n % 10 ^ b * 10 ^ a) ≡ Greater = is_greater (m % 10 ^ a * 10 ^ b) (n % 10 ^ b * 10 ^ a) (omega (arith, ap (λ r. r * 10 ^ a) y)) in
    rw (more_pairs a m x, last_pair b n y, greater)
    (turned_above negative _ _ (map (invert_if negative) (digits_key a (m % 10 ^ a))) [] (omega arith) (omega (arith, pair_below a m p)))
same_pairs negative a b m n p q l rest (inr x) (inr y) =
    rw (more_pairs a m x, more_pairs b n y)
    (turned_same negative _ _ _ _ _ (ap (λ d. 2 * d + 1) l) (rest (omega arith) (omega arith)))

-- the step from the rest of the digits to all of them, where the first pairs decide or not
first_pairs : (negative : Bool) (a b m n : ℕ) → m < 10 ^ suc (suc a) → n < 10 ^ suc (suc b)
    → (0 < m % 10 ^ a → 0 < n % 10 ^ b → DigitsCompare negative a b (m % 10 ^ a) (n % 10 ^ b))
    → (r : Ordering) → MatchOrdering r (m / 10 ^ a < n / 10 ^ b) (m / 10 ^ a ≡ n / 10 ^ b) (n / 10 ^ b < m / 10 ^ a)
    → Compares (map (invert_if negative) (digits_key (suc (suc a)) m)) (map (invert_if negative) (digits_key (suc (suc b)) n))
    (signed_order negative (ordering_then r (nat_cmp (m % 10 ^ a * 10 ^ b) (n % 10 ^ b * 10 ^ a))))
first_pairs negative a b m n p q rest Less l =
    let x = begins a m in
    let y = begins b n in
    let small : y.head < 256 = omega (arith, pair_below b n q, y.high) in
    rw (x.is, y.is)
    (turned_below negative x.head y.head (map (invert_if negative) x.tail) (map (invert_if negative) y.tail)
    (omega (arith, x.high, y.low)) small)
first_pairs negative a b m n p q rest Greater l =
    let x = begins a m in
    let y = begins b n in
    let small : x.head < 256 = omega (arith, pair_below a m p, x.high) in
    rw (x.is, y.is)
    (turned_above negative x.head y.head (map (invert_if negative) x.tail) (map (invert_if negative) y.tail)
    (omega (arith, x.low, y.high)) small)
first_pairs negative a b m n p q rest Equal l = same_pairs negative a b m n p q l rest (cases_eq (m % 10 ^ a) 0) (cases_eq (n % 10 ^ b) 0)

by_pairs : (negative : Bool) (a b m n : ℕ) → m < 10 ^ suc (suc a) → n < 10 ^ suc (suc b)
    → (0 < m % 10 ^ a → 0 < n % 10 ^ b → DigitsCompare negative a b (m % 10 ^ a) (n % 10 ^ b))
    → DigitsCompare negative (suc (suc a)) (suc (suc b)) m n
by_pairs negative a b m n p q rest =
    rw (crossed a b m n)
    (first_pairs negative a b m n p q rest (nat_cmp (m / 10 ^ a) (n / 10 ^ b)) (ranks (m / 10 ^ a) (n / 10 ^ b)))

-- ---- a single digit means a pair with 0

nothing_left : (m : ℕ) → m % 10 ^ 0 ≡ 0
nothing_left m = omega (arith, mod_below m (10 ^ 0) (ten 0))

single : (m : ℕ) → digits_key 1 m ≡ digits_key 2 (m * 10)
unfolding digits_key
single m =
    let all : 20 * m ≡ 2 * (m * 10 / 10 ^ 0) = omega (arith, div-add-mod' (m * 10) (10 ^ 0), nothing_left (m * 10)) in
    ap (λ x. x ∷ []) all ∙ sym (last_pair 0 (m * 10) (nothing_left (m * 10)))

tenfold : (m x : ℕ) → m * x * 10 ≡ m * 10 * x
tenfold m x = omega arith

tenfold_1 : (m : ℕ) → m * 10 ^ 1 * 10 ≡ m * 10 ^ 2
tenfold_1 m = omega arith

hundredfold : (m : ℕ) → m * 10 ^ 1 * 100 ≡ m * 10 * 10 ^ 2
hundredfold m = omega arith

-- digits of any two numbers above 0
pub digits_compare : (negative : Bool) (a b m n : ℕ) → m < 10 ^ a → n < 10 ^ b → 0 < m → 0 < n → DigitsCompare negative a b m n
digits_compare negative zero b m n p q o k = absurd (omega (arith, pow-zero 10))
digits_compare negative (suc a) zero m n p q o k = absurd (omega (arith, pow-zero 10))
digits_compare negative (suc zero) (suc zero) m n p q o k =
    let same : nat_cmp (m * 10 ^ 1) (n * 10 ^ 1) ≡ nat_cmp (m * 10 * 10 ^ 2) (n * 10 * 10 ^ 2) =
    nat_cmp-scaled (m * 10 ^ 1) (n * 10 ^ 1) 100 (omega arith) ∙ (λ i. nat_cmp (hundredfold m i) (hundredfold n i)) in
    rw (single m, single n, same)
    (by_pairs negative 0 0 (m * 10) (n * 10) (omega arith) (omega arith) (λ o k. absurd (omega (arith, nothing_left (m * 10)))))
digits_compare negative (suc zero) (suc (suc b)) m n p q o k =
    let same : nat_cmp (m * 10 ^ suc (suc b)) (n * 10 ^ 1) ≡ nat_cmp (m * 10 * 10 ^ suc (suc b)) (n * 10 ^ 2) =
    nat_cmp-scaled (m * 10 ^ suc (suc b)) (n * 10 ^ 1) 10 (omega arith)
    ∙ (λ i. nat_cmp (tenfold m (10 ^ suc (suc b)) i) (tenfold_1 n i)) in
    rw (single m, same)
    (by_pairs negative 0 b (m * 10) n (omega arith) q (λ o k. absurd (omega (arith, nothing_left (m * 10)))))
digits_compare negative (suc (suc a)) (suc zero) m n p q o k =
    let same : nat_cmp (m * 10 ^ 1) (n * 10 ^ suc (suc a)) ≡ nat_cmp (m * 10 ^ 2) (n * 10 * 10 ^ suc (suc a)) =
    nat_cmp-scaled (m * 10 ^ 1) (n * 10 ^ suc (suc a)) 10 (omega arith)
    ∙ (λ i. nat_cmp (tenfold_1 m i) (tenfold n (10 ^ suc (suc a)) i)) in
    rw (single n, same)
    (by_pairs negative a 0 m (n * 10) p (omega arith) (λ o k. absurd (omega (arith, nothing_left (n * 10)))))
digits_compare negative (suc (suc a)) (suc (suc b)) m n p q o k =
    by_pairs negative a b m n p q (λ o k. digits_compare negative a b (m % 10 ^ a) (n % 10 ^ b) (mod_below m (10 ^ a) (ten a)) (mod_below n (10 ^ b) (ten b)) o k)

-- ---- the digits as they are written

pub last_two : (negative : Bool) (count left m byte pair rest : ℕ) → count ≡ left + 2 → pair ≡ m / 10 ^ left → rest ≡ m % 10 ^ left
    → rest ≡ 0 → byte ≡ invert_if negative (2 * pair) → byte ∷ [] ≡ map (invert_if negative) (digits_key count m)
last_two negative count left m byte pair rest e p r h b =
    let whole : count ≡ suc (suc left) = omega arith in
    rw whole (ap (λ x. x ∷ []) (b ∙ ap (λ x. invert_if negative (2 * x)) p) ∙ sym (ap (map (invert_if negative)) (last_pair left m (sym r ∙ h))))

pub two_and_more : (negative : Bool) (count left m byte pair rest : ℕ) → count ≡ left + 2 → pair ≡ m / 10 ^ left → rest ≡ m % 10 ^ left
    → rest ≢ 0 → byte ≡ invert_if negative (2 * pair + 1)
    → map (invert_if negative) (digits_key count m) ≡ (byte ∷ []) ++ map (invert_if negative) (digits_key left rest)
two_and_more negative count left m byte pair rest e p r h b =
    let whole : count ≡ suc (suc left) = omega arith in
    rw whole
    (ap (map (invert_if negative)) (more_pairs left m (λ z. h (r ∙ z)))
    ∙ (λ i. sym (b ∙ ap (λ x. invert_if negative (2 * x + 1)) p) i ∷ map (invert_if negative) (digits_key left (sym r i))))

pub below_hundred : (count m : ℕ) → 2 ≤ count → m < 10 ^ count → m < 100 * 10 ^ (count - 2)
below_hundred count m l h =
    let whole : count ≡ suc (suc (count - 2)) = omega arith in
    omega (arith, ap (λ k. 10 ^ k) whole, hundred (count - 2))
