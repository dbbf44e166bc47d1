-- The order of lines behind their keys in hexadecimal.
use Rattle.std.proofs.Common.{◌≡◌, ◌⊎◌, ⊎_elim, ℕ, ◌+◌, ◌-◌, ◌/◌, ◌%◌, ◌<◌, ◌≤◌, nat_lt, List, [], ◌∷◌, ◌++◌, Ordering, Less, Equal, Greater, refl, sym, ap, ◌∙◌, arith}
use Rattle.std.proofs.lemmas.Bool.{cases_lt, cases_order, cond-true, cond-false, lt-ltb, le-ltb}
use Rattle.std.specs.Cmp.{nat_cmp_is}
use Rattle.std.specs.List.{flat_map}
use Rattle.std.specs.Ordering.{nat_cmp, ordering_then}
use Rattle.jsonb_spec.specs.Order.{bytes_cmp}
use Rattle.jsonb_spec.specs.Program.KeyLine.{hex_digit, hex_text, key_line}

low_digit : (a : ℕ) → a < 10 → hex_digit a ≡ 48 + a
low_digit a low = cond-true (nat_lt a 10) _ _ (lt-ltb a 10 low)

high_digit : (a : ℕ) → 10 ≤ a → hex_digit a ≡ 97 + (a - 10)
high_digit a high = cond-false (nat_lt a 10) _ _ (le-ltb a 10 high)

-- digits ascend
rises : (a b : ℕ) → a < b → hex_digit a < hex_digit b
rises a b less = ⊎_elim
    (λ (low : b < 10). omega (arith, low_digit a (omega arith), low_digit b low))
    (λ (high : 10 ≤ b). ⊎_elim
    (λ (under : a < 10). omega (arith, low_digit a under, high_digit b high))
    (λ (over : 10 ≤ a). omega (arith, high_digit a over, high_digit b high)) (cases_lt a 10))
    (cases_lt b 10)

-- a tab is before each digit
pub above_tab : (a : ℕ) → 9 < hex_digit a
above_tab a = ⊎_elim (λ (low : a < 10). omega (arith, low_digit a low)) (λ (high : 10 ≤ a). omega (arith, high_digit a high)) (cases_lt a 10)

less : (a b : ℕ) → a < b → nat_cmp a b ≡ Less
less a b h = sym (nat_cmp_is a b Less h)

greater : (a b : ℕ) → b < a → nat_cmp a b ≡ Greater
greater a b h = sym (nat_cmp_is a b Greater h)

same : (a b : ℕ) → a ≡ b → nat_cmp a b ≡ Equal
same a b h = sym (nat_cmp_is a b Equal h)

digit_cmp : (a b : ℕ) → nat_cmp (hex_digit a) (hex_digit b) ≡ nat_cmp a b
digit_cmp a b = ⊎_elim
    (λ (e : a ≡ b). same (hex_digit a) (hex_digit b) (ap hex_digit e) ∙ sym (same a b e))
    (λ (apart : (a < b) ⊎ (b < a)). ⊎_elim
    (λ (h : a < b). less (hex_digit a) (hex_digit b) (rises a b h) ∙ sym (less a b h))
    (λ (h : b < a). greater (hex_digit a) (hex_digit b) (rises b a h) ∙ sym (greater a b h)) apart)
    (cases_order a b)

-- bytes compare as their halves
halves_cmp : (a b : ℕ) → ordering_then (nat_cmp (a / 16) (b / 16)) (nat_cmp (a % 16) (b % 16)) ≡ nat_cmp a b
halves_cmp a b = ⊎_elim
    (λ (e : a / 16 ≡ b / 16). ap (λ o. ordering_then o (nat_cmp (a % 16) (b % 16))) (same (a / 16) (b / 16) e) ∙ ⊎_elim
    (λ (f : a % 16 ≡ b % 16). same (a % 16) (b % 16) f ∙ sym (same a b (omega (arith, e, f))))
    (λ (apart : (a % 16 < b % 16) ⊎ (b % 16 < a % 16)). ⊎_elim
    (λ (h : a % 16 < b % 16). less (a % 16) (b % 16) h ∙ sym (less a b (omega (arith, e, h))))
    (λ (h : b % 16 < a % 16). greater (a % 16) (b % 16) h ∙ sym (greater a b (omega (arith, e, h)))) apart)
    (cases_order (a % 16) (b % 16)))
    (λ (apart : (a / 16 < b / 16) ⊎ (b / 16 < a / 16)). ⊎_elim
    (λ (h : a / 16 < b / 16). ap (λ o. ordering_then o (nat_cmp (a % 16) (b % 16))) (less (a / 16) (b / 16) h) ∙ sym (less a b (omega (arith, h))))
    (λ (h : b / 16 < a / 16). ap (λ o. ordering_then o (nat_cmp (a % 16) (b % 16))) (greater (a / 16) (b / 16) h) ∙ sym (greater a b (omega (arith, h)))) apart)
    (cases_order (a / 16) (b / 16))

then_assoc : (o p q : Ordering) → ordering_then o (ordering_then p q) ≡ ordering_then (ordering_then o p) q
then_assoc Less p q = refl
then_assoc Equal p q = refl
then_assoc Greater p q = refl

-- bytes in hexadecimal before others
pub hex_cmp : (a b : ℕ) (xs ys : List ℕ) → bytes_cmp (hex_text a ++ xs) (hex_text b ++ ys) ≡ ordering_then (nat_cmp a b) (bytes_cmp xs ys)
hex_cmp a b xs ys =
    ap (λ o. ordering_then o (ordering_then (nat_cmp (hex_digit (a % 16)) (hex_digit (b % 16))) (bytes_cmp xs ys))) (digit_cmp (a / 16) (b / 16))
    ∙ ap (λ o. ordering_then (nat_cmp (a / 16) (b / 16)) (ordering_then o (bytes_cmp xs ys))) (digit_cmp (a % 16) (b % 16))
    ∙ then_assoc (nat_cmp (a / 16) (b / 16)) (nat_cmp (a % 16) (b % 16)) (bytes_cmp xs ys)
    ∙ ap (λ o. ordering_then o (bytes_cmp xs ys)) (halves_cmp a b)

pub keyed_cmp : (k l x y : List ℕ) → bytes_cmp (key_line k x) (key_line l y) ≡ ordering_then (bytes_cmp k l) (bytes_cmp (x ++ 10 ∷ []) (y ++ 10 ∷ []))
keyed_cmp [] [] x y = refl
keyed_cmp [] (b ∷ l) x y = ap (λ o. ordering_then o (bytes_cmp (x ++ 10 ∷ []) (hex_digit (b % 16) ∷ (flat_map hex_text l ++ 9 ∷ (y ++ 10 ∷ []))))) (less 9 (hex_digit (b / 16)) (above_tab (b / 16)))
keyed_cmp (a ∷ k) [] x y = ap (λ o. ordering_then o (bytes_cmp (hex_digit (a % 16) ∷ (flat_map hex_text k ++ 9 ∷ (x ++ 10 ∷ []))) (y ++ 10 ∷ []))) (greater (hex_digit (a / 16)) 9 (above_tab (a / 16)))
keyed_cmp (a ∷ k) (b ∷ l) x y =
    hex_cmp a b (key_line k x) (key_line l y) ∙ ap (λ o. ordering_then (nat_cmp a b) o) (keyed_cmp k l x y) ∙ then_assoc (nat_cmp a b) (bytes_cmp k l) (bytes_cmp (x ++ 10 ∷ []) (y ++ 10 ∷ []))
