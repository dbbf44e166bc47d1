-- The keys of integers of 32 and 64 bits.
use Rattle.std.proofs.Common.{◌≡◌, ℕ, zero, suc, ◌+◌, ◌*◌, ◌/◌, ◌%◌, ◌^◌, ◌<◌, ℤ, pos, unsigned_abs, FitsSigned, refl, sym, ap, ◌∙◌, arith}
use Rattle.std.proofs.Math.Nat.{pow-suc, one-le-pow}
use Rattle.std.proofs.lemmas.Int.{ints}
use Rattle.std.proofs.lemmas.Nat.{div-add-mod', mod_below, mod-mul-add, mul-add-lt}
use Rattle.std.specs.Cmp.{int_cmp_is}
use Rattle.std.specs.Int.{w32, w64, byte_at, bytes_high_first}
use Rattle.std.specs.Ordering.{nat_cmp, int_cmp, ordering_then, MatchOrdering}
use Rattle.std.specs.Prelude.{◌+ℤ◌}
use Rattle.std.specs.declared.cmp.Ordering.{Ordering}
use Rattle.std.specs.declared.cmp.Ordering.TheVariants.{Less, Equal, Greater}
use Rattle.jsonb_spec.specs.SortKey.{key_of_32_bits, key_of_64_bits}
use Rattle.jsonb_core.proofs.SortKeys.Comparing.{Compares, nothing, is_equal, ranks, nat_cmp-digits, byte_then}

mod_split : (n a b : ℕ) → 0 < a → 0 < b → n % (b * a) ≡ n / a % b * a + n % a
mod_split n a b p q =
    let low : n / a % b * a + n % a < b * a = omega (arith, mul-add-lt (n / a % b) a (n % a) b (mod_below (n / a) b q) (mod_below n a p)) in
    let whole : n ≡ n / a / b * (b * a) + (n / a % b * a + n % a) =
    omega (arith, div-add-mod' n a, ap (λ x. x * a) (div-add-mod' (n / a) b)) in
    ap (λ x. x % (b * a)) whole ∙ mod-mul-add (n / a / b) (b * a) (n / a % b * a + n % a) low

byte_at-is : (k n : ℕ) → byte_at k n ≡ n / 256 ^ k % 256
byte_at-is zero n = ap (λ x. x % 256) {y = n / 256 ^ 0} (omega arith)
byte_at-is (suc k) n = refl

first_byte : (k n : ℕ) → n % 256 ^ suc k ≡ byte_at k n * 256 ^ k + n % 256 ^ k
first_byte k n =
    let power : 256 ^ suc k ≡ 256 * 256 ^ k = omega (arith, pow-suc 256 k) in
    ap (λ x. n % x) power ∙ mod_split n (256 ^ k) 256 (omega (arith, one-le-pow k 256 (omega arith))) (omega arith)
    ∙ ap (λ b. b * 256 ^ k + n % 256 ^ k) (sym (byte_at-is k n))

fixed : (k m n : ℕ) → Compares (bytes_high_first k m) (bytes_high_first k n) (nat_cmp (m % 256 ^ k) (n % 256 ^ k))
fixed zero m n =
    let same : nat_cmp (m % 256 ^ 0) (n % 256 ^ 0) ≡ Equal = is_equal (m % 256 ^ 0) (n % 256 ^ 0) (omega arith) in
    rw same nothing
fixed (suc k) m n =
    let power : 0 < 256 ^ k = omega (arith, one-le-pow k 256 (omega arith)) in
    let order : nat_cmp (m % 256 ^ suc k) (n % 256 ^ suc k)
    ≡ ordering_then (nat_cmp (byte_at k m) (byte_at k n)) (nat_cmp (m % 256 ^ k) (n % 256 ^ k)) =
    (λ i. nat_cmp (first_byte k m i) (first_byte k n i))
    ∙ nat_cmp-digits (256 ^ k) (byte_at k m) (byte_at k n) (m % 256 ^ k) (n % 256 ^ k) (mod_below m (256 ^ k) power) (mod_below n (256 ^ k) power) in
    rw order (byte_then (byte_at k m) (byte_at k n) _ _ _ _ refl (fixed k m n))

moved_by_32 : (z w : ℤ) → FitsSigned w32 z → FitsSigned w32 w → (r : Ordering)
    → (u v : ℕ) → u ≡ unsigned_abs (z +ℤ pos (2 ^ 31)) % 256 ^ 4 → v ≡ unsigned_abs (w +ℤ pos (2 ^ 31)) % 256 ^ 4
    → MatchOrdering r (u < v) (u ≡ v) (v < u) → r ≡ int_cmp z w
moved_by_32 z w p q Less u v e f l = int_cmp_is z w Less (omega (arith, ints, l))
moved_by_32 z w p q Equal u v e f l = int_cmp_is z w Equal (omega (arith, ints, l))
moved_by_32 z w p q Greater u v e f l = int_cmp_is z w Greater (omega (arith, ints, l))

pub compares_32_bits : (z w : ℤ) → FitsSigned w32 z → FitsSigned w32 w → Compares (key_of_32_bits z) (key_of_32_bits w) (int_cmp z w)
unfolding key_of_32_bits
compares_32_bits z w p q =
    let u = unsigned_abs (z +ℤ pos (2 ^ 31)) in
    let v = unsigned_abs (w +ℤ pos (2 ^ 31)) in
    let order : nat_cmp (u % 256 ^ 4) (v % 256 ^ 4) ≡ int_cmp z w =
    moved_by_32 z w p q (nat_cmp (u % 256 ^ 4) (v % 256 ^ 4)) (u % 256 ^ 4) (v % 256 ^ 4) refl refl (ranks (u % 256 ^ 4) (v % 256 ^ 4)) in
    rw (← order) (fixed 4 u v)

moved_by_64 : (z w : ℤ) → FitsSigned w64 z → FitsSigned w64 w → (r : Ordering)
    → (u v : ℕ) → u ≡ unsigned_abs (z +ℤ pos (2 ^ 63)) % 256 ^ 8 → v ≡ unsigned_abs (w +ℤ pos (2 ^ 63)) % 256 ^ 8
    → MatchOrdering r (u < v) (u ≡ v) (v < u) → r ≡ int_cmp z w
moved_by_64 z w p q Less u v e f l = int_cmp_is z w Less (omega (arith, ints, l))
moved_by_64 z w p q Equal u v e f l = int_cmp_is z w Equal (omega (arith, ints, l))
moved_by_64 z w p q Greater u v e f l = int_cmp_is z w Greater (omega (arith, ints, l))

pub compares_64_bits : (z w : ℤ) → FitsSigned w64 z → FitsSigned w64 w → Compares (key_of_64_bits z) (key_of_64_bits w) (int_cmp z w)
unfolding key_of_64_bits
compares_64_bits z w p q =
    let u = unsigned_abs (z +ℤ pos (2 ^ 63)) in
    let v = unsigned_abs (w +ℤ pos (2 ^ 63)) in
    let order : nat_cmp (u % 256 ^ 8) (v % 256 ^ 8) ≡ int_cmp z w =
    moved_by_64 z w p q (nat_cmp (u % 256 ^ 8) (v % 256 ^ 8)) (u % 256 ^ 8) (v % 256 ^ 8) refl refl (ranks (u % 256 ^ 8) (v % 256 ^ 8)) in
    rw (← order) (fixed 8 u v)
