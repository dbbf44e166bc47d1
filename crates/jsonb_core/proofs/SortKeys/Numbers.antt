-- The keys of numbers, by their signs.
use Rattle.std.proofs.Common.{◌≡◌, ◌≢◌, ℕ, zero, suc, ◌+◌, ◌-◌, ◌*◌, ◌^◌, ◌<◌, Bool, true, false, List, [], ◌∷◌, ◌++◌, map, ℤ, pos, negsuc, ◌*ℤ◌, unsigned_abs, refl, sym, ap, ◌∙◌, arith, eq-eqb, ◌==◌}
use Rattle.std.proofs.lemmas.Bool.{ne_eqb, cond-true, cond-false}
use Rattle.std.proofs.lemmas.Int.{ints}
use Rattle.std.proofs.lemmas.List.{map-append}
use Rattle.std.specs.Cmp.{int_cmp_is}
use Rattle.std.specs.Int.{is_negative}
use Rattle.std.specs.Ordering.{nat_cmp, int_cmp, ordering_then, ordering_reverse, MatchOrdering}
use Rattle.std.specs.Prelude.{◌<ℤ◌}
use Rattle.std.specs.declared.cmp.Ordering.{Ordering}
use Rattle.std.specs.declared.cmp.Ordering.TheVariants.{Less, Equal, Greater}
use borrow.Author.Differences.{product_is}
use Rattle.jsonb_spec.specs.Order.{num_cmp, decimal_cmp}
use Rattle.jsonb_spec.specs.SortKey.{magnitude_key, number_key, exponent_key, digits_key, digit_count, invert_if}
use Rattle.jsonb_spec.specs.Tree.{Num}
use Rattle.jsonb_core.proofs.SortKeys.Comparing.{Compares, ranks, same_bytes, byte_below, byte_above, then_compares}
use Rattle.jsonb_core.proofs.SortKeys.Counts.{digits_counted, digit_count-le, indexes_compare, located, exponents_and_digits}
use Rattle.jsonb_core.proofs.SortKeys.Digits.{signed_order, digits_compare, ten, mul-pos}
use Rattle.jsonb_core.proofs.Numbers.Pointed.{is_negative-pos}

signed_then : (negative : Bool) (r s : Ordering)
    → ordering_then (signed_order negative r) (signed_order negative s) ≡ signed_order negative (ordering_then r s)
signed_then false r s = refl
signed_then true Less s = refl
signed_then true Equal s = refl
signed_then true Greater s = refl

-- two numbers above 0 of one sign
magnitudes : (negative : Bool) (s t m n : ℕ) → s < 256 → t < 256 → 0 < m → 0 < n → m < 10 ^ 39 → n < 10 ^ 39
    → Compares (map (invert_if negative) (magnitude_key s m)) (map (invert_if negative) (magnitude_key t n))
    (signed_order negative (nat_cmp (m * 10 ^ t) (n * 10 ^ s)))
unfolding magnitude_key
magnitudes negative s t m n p q o k u v =
    let f = invert_if negative in
    let a = digit_count m in
    let b = digit_count n in
    let x = digits_counted m o u in
    let y = digits_counted n k v in
    let exponents = indexes_compare negative (a + 255 - s) (b + 255 - t) (omega (arith, digit_count-le m)) (omega (arith, digit_count-le n)) in
    let digits = digits_compare negative a b m n x.below y.below o k in
    let both = then_compares _ _ _ _ _ _ exponents digits in
    let order = signed_then negative (nat_cmp (a + 255 - s) (b + 255 - t)) (nat_cmp (m * 10 ^ b) (n * 10 ^ a)) ∙ ap (signed_order negative) (exponents_and_digits a b m n s t p q x y) in
    rw (map-append f (exponent_key (a + 255 - s)) (digits_key a m), map-append f (exponent_key (b + 255 - t)) (digits_key b n), ← order) both

-- the first byte of a number's key
pub record Headed (m s : ℕ) : Type 0 where
  pub head : ℕ
  pub tail : List ℕ
  pub is : magnitude_key s m ≡ head ∷ tail
  pub low : 128 < head
  pub high : head < 200

headed : (m s : ℕ) → 0 < m → m < 10 ^ 39 → s < 256 → Headed m s
unfolding magnitude_key
headed m s o u p =
    let x = located (digit_count m + 255 - s) (omega (arith, digit_count-le m)) in
    record {
      head = x.head;
      tail = x.tail ++ digits_key (digit_count m) m;
      is = ap (λ exponent. exponent ++ digits_key (digit_count m) m) x.is;
      low = x.low;
      high = x.high;
    }

-- ---- the key of a number by its sign

pub key_of_zero : (n : Num) → unsigned_abs n.whole ≡ 0 → number_key n ≡ 128 ∷ []
unfolding number_key
key_of_zero n h = cond-true (unsigned_abs n.whole == 0) _ _ (eq-eqb (unsigned_abs n.whole) 0 h)

pub key_of_some : (n : Num) → unsigned_abs n.whole ≢ 0 → number_key n ≡ map (invert_if (is_negative n.whole)) (magnitude_key n.scale (unsigned_abs n.whole))
unfolding number_key
key_of_some n h = cond-false (unsigned_abs n.whole == 0) _ _ (ne_eqb (unsigned_abs n.whole) 0 h)

-- ---- the order of numbers by their signs

ints_by : (a b : ℤ) (r : Ordering) → MatchOrdering r (a <ℤ b) (a ≡ b) (b <ℤ a) → int_cmp a b ≡ r
ints_by a b r h = sym (int_cmp_is a b r h)

below_by : (a b T S : ℕ) (r : Ordering) → MatchOrdering r (a * T < b * S) (a * T ≡ b * S) (b * S < a * T)
    → int_cmp (pos a *ℤ pos T) (pos b *ℤ pos S) ≡ r
below_by a b T S Less l = ints_by (pos a *ℤ pos T) (pos b *ℤ pos S) Less (omega (arith, ints, l, product_is (pos a) (pos T), product_is (pos b) (pos S)))
below_by a b T S Equal l = ints_by (pos a *ℤ pos T) (pos b *ℤ pos S) Equal (omega (arith, ints, l, product_is (pos a) (pos T), product_is (pos b) (pos S)))
below_by a b T S Greater l = ints_by (pos a *ℤ pos T) (pos b *ℤ pos S) Greater (omega (arith, ints, l, product_is (pos a) (pos T), product_is (pos b) (pos S)))

both_positive : (a b T S : ℕ) → int_cmp (pos a *ℤ pos T) (pos b *ℤ pos S) ≡ nat_cmp (a * T) (b * S)
both_positive a b T S = below_by a b T S (nat_cmp (a * T) (b * S)) (ranks (a * T) (b * S))

above_by : (a b T S : ℕ) (r : Ordering) → MatchOrdering r (suc a * T < suc b * S) (suc a * T ≡ suc b * S) (suc b * S < suc a * T)
    → int_cmp (negsuc a *ℤ pos T) (negsuc b *ℤ pos S) ≡ ordering_reverse r
above_by a b T S Less l = ints_by (negsuc a *ℤ pos T) (negsuc b *ℤ pos S) Greater (omega (arith, ints, l, product_is (negsuc a) (pos T), product_is (negsuc b) (pos S)))
above_by a b T S Equal l = ints_by (negsuc a *ℤ pos T) (negsuc b *ℤ pos S) Equal (omega (arith, ints, l, product_is (negsuc a) (pos T), product_is (negsuc b) (pos S)))
above_by a b T S Greater l = ints_by (negsuc a *ℤ pos T) (negsuc b *ℤ pos S) Less (omega (arith, ints, l, product_is (negsuc a) (pos T), product_is (negsuc b) (pos S)))

both_negative : (a b T S : ℕ) → int_cmp (negsuc a *ℤ pos T) (negsuc b *ℤ pos S) ≡ ordering_reverse (nat_cmp (suc a * T) (suc b * S))
both_negative a b T S = above_by a b T S (nat_cmp (suc a * T) (suc b * S)) (ranks (suc a * T) (suc b * S))

negative_below : (a b T S : ℕ) → 0 < T → int_cmp (negsuc a *ℤ pos T) (pos b *ℤ pos S) ≡ Less
negative_below a b T S h = ints_by (negsuc a *ℤ pos T) (pos b *ℤ pos S) Less (omega (arith, ints, product_is (negsuc a) (pos T), product_is (pos b) (pos S)))

above_negative : (a b T S : ℕ) → 0 < S → int_cmp (pos a *ℤ pos T) (negsuc b *ℤ pos S) ≡ Greater
above_negative a b T S h = ints_by (pos a *ℤ pos T) (negsuc b *ℤ pos S) Greater (omega (arith, ints, product_is (pos a) (pos T), product_is (negsuc b) (pos S)))

-- ---- numbers in range, by their signs

-- what a number of a value has by its type
pub record IsSmall (n : Num) : Type 0 where
  pub scale : n.scale < 256
  pub whole : unsigned_abs n.whole < 10 ^ 39

pub positive : (n : Num) (a : ℕ) → n.whole ≡ pos (suc a) → number_key n ≡ map (invert_if false) (magnitude_key n.scale (suc a))
positive n a e =
    key_of_some n (λ z. absurd (omega (arith, sym z ∙ ap unsigned_abs e)))
    ∙ ap (λ w. map (invert_if (is_negative w)) (magnitude_key n.scale (unsigned_abs w))) e
    ∙ ap (λ b. map (invert_if b) (magnitude_key n.scale (suc a))) (is_negative-pos (suc a))

pub negative : (n : Num) (a : ℕ) → n.whole ≡ negsuc a → number_key n ≡ map (invert_if true) (magnitude_key n.scale (suc a))
negative n a e =
    key_of_some n (λ z. absurd (omega (arith, sym z ∙ ap unsigned_abs e)))
    ∙ ap (λ w. map (invert_if (is_negative w)) (magnitude_key n.scale (unsigned_abs w))) e

pub nothing_there : (n : Num) → n.whole ≡ pos zero → number_key n ≡ 128 ∷ []
nothing_there n e = key_of_zero n (ap unsigned_abs e)

pub head_of : (n : Num) (a : ℕ) → unsigned_abs n.whole ≡ suc a → IsSmall n → Headed (suc a) n.scale
head_of n a e small = headed (suc a) n.scale (omega arith) (omega (arith, sym e, small.whole)) small.scale

-- the order of two numbers by their whole numbers
abbrev OrderedBy : Num → Num → ℤ → ℤ → Type 0
OrderedBy m n a b = Compares (number_key m) (number_key n) (decimal_cmp a m.scale b n.scale)

by_signs : (m n : Num) → IsSmall m → IsSmall n → (a b : ℤ) → m.whole ≡ a → n.whole ≡ b → OrderedBy m n a b
by_signs m n p q (pos zero) (pos zero) e f =
    let order : decimal_cmp (pos 0) m.scale (pos 0) n.scale ≡ Equal = below_by 0 0 (10 ^ n.scale) (10 ^ m.scale) Equal (omega arith) in
    rw (nothing_there m e, nothing_there n f, order) (same_bytes (128 ∷ []))
by_signs m n p q (pos zero) (pos (suc b)) e f =
    let x = head_of n b (ap unsigned_abs f) q in
    let some : 0 < suc b * 10 ^ m.scale = mul-pos (suc b) (10 ^ m.scale) (omega arith) (ten m.scale) in
    let order : decimal_cmp (pos 0) m.scale (pos (suc b)) n.scale ≡ Less = below_by 0 (suc b) (10 ^ n.scale) (10 ^ m.scale) Less (omega arith) in
    rw (nothing_there m e, positive n b f, x.is, order) (byte_below 128 x.head [] (map (invert_if false) x.tail) x.low)
by_signs m n p q (pos zero) (negsuc b) e f =
    let x = head_of n b (ap unsigned_abs f) q in
    let order : decimal_cmp (pos 0) m.scale (negsuc b) n.scale ≡ Greater = above_negative 0 b (10 ^ n.scale) (10 ^ m.scale) (ten m.scale) in
    rw (nothing_there m e, negative n b f, x.is, order) (byte_above 128 (255 - x.head) [] (map (invert_if true) x.tail) (omega (arith, x.low)))
by_signs m n p q (pos (suc a)) (pos zero) e f =
    let x = head_of m a (ap unsigned_abs e) p in
    let some : 0 < suc a * 10 ^ n.scale = mul-pos (suc a) (10 ^ n.scale) (omega arith) (ten n.scale) in
    let order : decimal_cmp (pos (suc a)) m.scale (pos 0) n.scale ≡ Greater = below_by (suc a) 0 (10 ^ n.scale) (10 ^ m.scale) Greater (omega arith) in
    rw (positive m a e, nothing_there n f, x.is, order) (byte_above x.head 128 (map (invert_if false) x.tail) [] x.low)
by_signs m n p q (pos (suc a)) (pos (suc b)) e f =
    rw (positive m a e, positive n b f, both_positive (suc a) (suc b) (10 ^ n.scale) (10 ^ m.scale))
    (magnitudes false m.scale n.scale (suc a) (suc b) p.scale q.scale (omega arith) (omega arith) (omega (arith, p.whole, ap unsigned_abs e)) (omega (arith, q.whole, ap unsigned_abs f)))
by_signs m n p q (pos (suc a)) (negsuc b) e f =
    let x = head_of m a (ap unsigned_abs e) p in
    let y = head_of n b (ap unsigned_abs f) q in
    rw (positive m a e, negative n b f, x.is, y.is, above_negative (suc a) b (10 ^ n.scale) (10 ^ m.scale) (ten m.scale))
    (byte_above x.head (255 - y.head) (map (invert_if false) x.tail) (map (invert_if true) y.tail) (omega (arith, x.low, y.low)))
by_signs m n p q (negsuc a) (pos zero) e f =
    let x = head_of m a (ap unsigned_abs e) p in
    rw (negative m a e, nothing_there n f, x.is, negative_below a 0 (10 ^ n.scale) (10 ^ m.scale) (ten n.scale))
    (byte_below (255 - x.head) 128 (map (invert_if true) x.tail) [] (omega (arith, x.low)))
by_signs m n p q (negsuc a) (pos (suc b)) e f =
    let x = head_of m a (ap unsigned_abs e) p in
    let y = head_of n b (ap unsigned_abs f) q in
    rw (negative m a e, positive n b f, x.is, y.is, negative_below a (suc b) (10 ^ n.scale) (10 ^ m.scale) (ten n.scale))
    (byte_below (255 - x.head) y.head (map (invert_if true) x.tail) (map (invert_if false) y.tail) (omega (arith, x.low, y.low)))
by_signs m n p q (negsuc a) (negsuc b) e f =
    rw (negative m a e, negative n b f, both_negative a b (10 ^ n.scale) (10 ^ m.scale))
    (magnitudes true m.scale n.scale (suc a) (suc b) p.scale q.scale (omega arith) (omega arith) (omega (arith, p.whole, ap unsigned_abs e)) (omega (arith, q.whole, ap unsigned_abs f)))

pub numbers_compare : (m n : Num) → IsSmall m → IsSmall n → Compares (number_key m) (number_key n) (num_cmp m n)
numbers_compare m n p q = by_signs m n p q m.whole n.whole refl refl

-- the key of a number above 0 in its two parts
pub magnitude_split : (negative : Bool) (scale m count exponent : ℕ) → count ≡ digit_count m → exponent ≡ count + 255 - scale
    → map (invert_if negative) (magnitude_key scale m) ≡ map (invert_if negative) (exponent_key exponent) ++ map (invert_if negative) (digits_key count m)
unfolding magnitude_key
magnitude_split negative scale m count exponent e f =
    map-append (invert_if negative) (exponent_key (digit_count m + 255 - scale)) (digits_key (digit_count m) m)
    ∙ (λ i. map (invert_if negative) (exponent_key (sym (f ∙ ap (λ n. n + 255 - scale) e) i)) ++ map (invert_if negative) (digits_key (sym e i) m))
