-- Bytes without zeros, which a key has as they are.
use Rattle.std.proofs.Common.{◌≡◌, ◌≢◌, ℕ, zero, suc, ◌<◌, ◌≤◌, Bool, true, false, List, [], ◌∷◌, ◌++◌, take, drop, length, get_or, Option, Some, None, refl, sym, ap, ap₂, ◌∙◌, arith, ◌==◌, length-append, eq-eqb}
use Rattle.std.specs.Bool.{if◌then◌else◌, nat_lt}
use Rattle.std.specs.List.{flat_map}
use Rattle.std.specs.Option.{unwrap_or}
use Rattle.std.proofs.lemmas.Bool.{ne_eqb, cond-false}
use Rattle.memchr.specs.Find.{IsFirstByte, is_byte}
use Rattle.jsonb_spec.specs.SortKey.{byte_key}
use Rattle.jsonb_spec.specs.Text.StringText.{byte_text, control_text}

some_byte : (b : ℕ) → b ≢ 0 → byte_key b ≡ b ∷ []
some_byte b h = cond-false (b == 0) _ _ (ne_eqb b 0 h)

-- ---- bytes that a JSON text has as they are have no zero among them

either : (P : List ℕ → Type 0) (test : Bool) (x y : List ℕ) → P x → P y → P (if test then x else y)
either P true x y p q = p
either P false x y p q = q

-- what holds of each text that a byte can have holds of the text of this one
by_cases : (b : ℕ) (P : List ℕ → Type 0) → ((a : ℕ) → P (92 ∷ a ∷ [])) → P (control_text b) → P (b ∷ []) → P (byte_text b)
by_cases b P two control one =
    either P (b == 34) _ _ (two 34)
    (either P (b == 92) _ _ (two 92)
    (either P (b == 10) _ _ (two 110)
    (either P (b == 13) _ _ (two 114) (either P (b == 9) _ _ (two 116) (either P (nat_lt b 32) _ _ control one)))))

some_text : (b : ℕ) → 1 ≤ length (byte_text b)
some_text b = by_cases b (λ text. 1 ≤ length text) (λ a. omega arith) (omega arith) (omega arith)

short_text : (b : ℕ) → length (byte_text b) ≤ 1 → byte_text b ≡ b ∷ []
short_text b = by_cases b (λ text. length text ≤ 1 → text ≡ b ∷ []) (λ a l. absurd (omega arith)) (λ l. absurd (omega arith)) (λ l. refl)

longer : (bytes : List ℕ) → length bytes ≤ length (flat_map byte_text bytes)
longer [] = omega arith
longer (b ∷ bytes) = omega (arith, longer bytes, some_text b, length-append (byte_text b) (flat_map byte_text bytes))

one_byte : (b : ℕ) (bytes : List ℕ) → flat_map byte_text (b ∷ bytes) ≡ b ∷ bytes → length (byte_text b) ≤ 1
one_byte b bytes h = omega (arith, ap length h, length-append (byte_text b) (flat_map byte_text bytes), longer bytes)

no_zero : (b : ℕ) (bytes : List ℕ) → flat_map byte_text (b ∷ bytes) ≡ b ∷ bytes → b ≢ 0
no_zero b bytes h z =
    let six : length (byte_text b) ≡ 6 = ap (λ x. length (byte_text x)) z in
    absurd (omega (arith, six, one_byte b bytes h))

pub plain_key : (bytes : List ℕ) → flat_map byte_text bytes ≡ bytes → flat_map byte_key bytes ≡ bytes
plain_key [] h = refl
plain_key (b ∷ bytes) h =
    let is = short_text b (one_byte b bytes h) in
    let rest : flat_map byte_text bytes ≡ bytes = ap (drop 1) (sym (ap (λ text. text ++ flat_map byte_text bytes) is) ∙ h) in
    ap₂ (λ front back. front ++ back) (some_byte b (no_zero b bytes h)) (plain_key bytes rest)

-- ---- the bytes before the first zero

run_of : (bytes : List ℕ) (n : ℕ) → ((k : ℕ) → k < n → get_or bytes k 0 ≢ 0) → flat_map byte_key (take n bytes) ≡ take n bytes
run_of bytes zero h = refl
run_of [] (suc n) h = refl
run_of (b ∷ bytes) (suc n) h =
    ap₂ (λ front back. front ++ back) (some_byte b (h 0 (omega arith))) (run_of bytes n (λ k l. h (suc k) (omega arith)))

pub before_zero : (bytes : List ℕ) (r : Option ℕ) → IsFirstByte (is_byte 0) bytes r
    → flat_map byte_key (take (unwrap_or r (length bytes)) bytes) ≡ take (unwrap_or r (length bytes)) bytes
before_zero bytes (Some n) h = run_of bytes n (λ k l e. h.0.before k (omega arith) l (eq-eqb _ 0 e))
before_zero bytes None h = run_of bytes (length bytes) (λ k l e. h k (omega arith) l (eq-eqb _ 0 e))
