-- Numbers of two digits and lists of bytes compared part by part.
use Rattle.std.proofs.Common.{◌≡◌, ℕ, ◌+◌, ◌*◌, ◌<◌, ◌≤◌, List, [], ◌∷◌, ◌++◌, refl, sym, ap, ◌∙◌, arith, append_assoc}
use Rattle.std.proofs.Math.Nat.{mul-lt-mul_of_pos_right, mul-le-mul_right}
use Rattle.std.specs.Cmp.{nat_cmp_is, ranked}
use Rattle.std.specs.Ordering.{nat_cmp, ordering_then, MatchOrdering}
use Rattle.std.specs.declared.cmp.Ordering.{Ordering}
use Rattle.std.specs.declared.cmp.Ordering.TheVariants.{Less, Equal, Greater}
use Rattle.jsonb_spec.specs.Order.{bytes_cmp}

pub is_less : (a b : ℕ) → a < b → nat_cmp a b ≡ Less
is_less a b h = sym (nat_cmp_is a b Less h)

pub is_equal : (a b : ℕ) → a ≡ b → nat_cmp a b ≡ Equal
is_equal a b h = sym (nat_cmp_is a b Equal h)

pub is_greater : (a b : ℕ) → b < a → nat_cmp a b ≡ Greater
is_greater a b h = sym (nat_cmp_is a b Greater h)

-- what each answer says of two numbers
pub ranks : (a b : ℕ) → MatchOrdering (nat_cmp a b) (a < b) (a ≡ b) (b < a)
ranks a b = ranked a b (nat_cmp a b) refl

-- ---- the same order of other numbers

same_order_by : (a b c d : ℕ) (r : Ordering) → MatchOrdering r (a < b) (a ≡ b) (b < a)
    → (a < b → c < d) → (a ≡ b → c ≡ d) → (b < a → d < c) → r ≡ nat_cmp c d
same_order_by a b c d Less h p q s = nat_cmp_is c d Less (p h)
same_order_by a b c d Equal h p q s = nat_cmp_is c d Equal (q h)
same_order_by a b c d Greater h p q s = nat_cmp_is c d Greater (s h)

pub same_order : (a b c d : ℕ) → (a < b → c < d) → (a ≡ b → c ≡ d) → (b < a → d < c) → nat_cmp a b ≡ nat_cmp c d
same_order a b c d p q s = same_order_by a b c d (nat_cmp a b) (ranks a b) p q s

-- a common factor does not count
pub nat_cmp-scaled : (a b k : ℕ) → 0 < k → nat_cmp a b ≡ nat_cmp (a * k) (b * k)
nat_cmp-scaled a b k h =
    same_order a b (a * k) (b * k) (λ l. mul-lt-mul_of_pos_right l h) (λ e. ap (λ x. x * k) e)
    (λ l. mul-lt-mul_of_pos_right l h)

-- ---- a number of two digits: the first decides, and then the second

digits_by : (P d e u v : ℕ) → u < P → v < P → (r : Ordering) → MatchOrdering r (d < e) (d ≡ e) (e < d)
    → nat_cmp (d * P + u) (e * P + v) ≡ ordering_then r (nat_cmp u v)
digits_by P d e u v p q Less h =
    let more : (d + 1) * P ≤ e * P = mul-le-mul_right P (omega arith) in
    is_less (d * P + u) (e * P + v) (omega (arith, more))
digits_by P d e u v p q Equal h =
    sym (same_order u v (d * P + u) (e * P + v) (λ l. omega (arith, ap (λ x. x * P) h))
    (λ l. omega (arith, ap (λ x. x * P) h)) (λ l. omega (arith, ap (λ x. x * P) h)))
digits_by P d e u v p q Greater h =
    let more : (e + 1) * P ≤ d * P = mul-le-mul_right P (omega arith) in
    is_greater (d * P + u) (e * P + v) (omega (arith, more))

pub nat_cmp-digits : (P d e u v : ℕ) → u < P → v < P
    → nat_cmp (d * P + u) (e * P + v) ≡ ordering_then (nat_cmp d e) (nat_cmp u v)
nat_cmp-digits P d e u v p q = digits_by P d e u v p q (nat_cmp d e) (ranks d e)

-- ---- lists

-- However two lists go on, they compare by r, and where r is equal as what follows does.
pub record Compares (a b : List ℕ) (r : Ordering) : Type 0 where
  pub compared : (x y : List ℕ) → bytes_cmp (a ++ x) (b ++ y) ≡ ordering_then r (bytes_cmp x y)

pub then_assoc : (r s o : Ordering) → ordering_then r (ordering_then s o) ≡ ordering_then (ordering_then r s) o
then_assoc Less s o = refl
then_assoc Equal s o = refl
then_assoc Greater s o = refl

pub nothing : Compares [] [] Equal
nothing = record { compared = λ x y. refl }

-- one part and then another
pub then_compares : (a b c d : List ℕ) (r s : Ordering) → Compares a b r → Compares c d s
    → Compares (a ++ c) (b ++ d) (ordering_then r s)
then_compares a b c d r s p q = record {
  compared = λ x y.
      (λ i. bytes_cmp (append_assoc a c x i) (append_assoc b d y i)) ∙ p.compared (c ++ x) (d ++ y)
      ∙ ap (ordering_then r) (q.compared x y) ∙ then_assoc r s (bytes_cmp x y);
}

-- one byte and then more
pub byte_then : (h k : ℕ) (c d : List ℕ) (r s : Ordering) → nat_cmp h k ≡ r → Compares c d s
    → Compares (h ∷ c) (k ∷ d) (ordering_then r s)
byte_then h k c d r s e q = record {
  compared = λ x y.
      (λ i. ordering_then (e i) (q.compared x y i)) ∙ then_assoc r s (bytes_cmp x y);
}

-- the first bytes differ
pub byte_below : (h k : ℕ) (c d : List ℕ) → h < k → Compares (h ∷ c) (k ∷ d) Less
byte_below h k c d l = record { compared = λ x y. ap (λ r. ordering_then r (bytes_cmp (c ++ x) (d ++ y))) (is_less h k l) }

pub byte_above : (h k : ℕ) (c d : List ℕ) → k < h → Compares (h ∷ c) (k ∷ d) Greater
byte_above h k c d l =
    record { compared = λ x y. ap (λ r. ordering_then r (bytes_cmp (c ++ x) (d ++ y))) (is_greater h k l) }

pub same_bytes : (c : List ℕ) → Compares c c Equal
same_bytes [] = nothing
same_bytes (b ∷ c) = byte_then b b c c Equal Equal (is_equal b b refl) (same_bytes c)
