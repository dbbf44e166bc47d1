-- The digits of a `\u` escape, and what it means.
use Rattle.std.proofs.Common.{List, ◌≡◌, ℕ, ◌+◌, ◌<◌, ◌≤◌, ◌++◌, ◌∷◌, length, take, drop, get_or, Bool, true, false, cond, ◌||◌, [], sym, ap, ◌∙◌, arith, length-append, ◌*◌}
use Rattle.std.proofs.lemmas.List.{take-append-drop, drop_more, length-take-le, get_or-take, get_or_default}
use Rattle.std.proofs.lemmas.Str.{length-encode, len_utf8_bounds}
use Rattle.std.specs.Char.{digit_value, encode_utf8}
use Rattle.jsonb_spec.specs.Grammar.StringBody.{IsHexDigit, after_u, alone, together, encoding, unit}
use Rattle.jsonb_spec.specs.Grammar.StringFault.{IsFirstNonDigit}
use Rattle.std.specs.Char.Utf16.{is_high_surrogate, is_low_surrogate, surrogate_pair_char}
use Rattle.std.specs.Str.Parse.{digits_value}

pub first_non_digit_at : (bytes : List ℕ) (i : ℕ) → i < length bytes → ((k : ℕ) → k < i → digit_value (get_or bytes k 0) < 16) → ¬ (IsHexDigit (get_or bytes i 0)) → IsFirstNonDigit bytes (get_or bytes i 0)
first_non_digit_at bytes i within before here = record {
  digits = take i bytes;
  more = drop (i + 1) bytes;
  split = sym (take-append-drop i bytes) ∙ ap (λ rest. take i bytes ++ rest) (drop_more bytes i 0 within);
  before = λ k d h.
      let long : length (take i bytes) ≡ i = length-take-le i bytes (omega arith) in
      let low : k < i = omega arith in
      let inside : k < length bytes = omega arith in
      rw (get_or-take i bytes k d low, get_or_default bytes k d 0 inside) (before k low);
  here = here;
}

four_digits : (a b c d : ℕ) → (((0 * 16 + a) * 16 + b) * 16 + c) * 16 + d ≡ a * 4096 + b * 256 + c * 16 + d
four_digits a b c d = omega arith

-- the number that four digits write
pub unit_digits : (digits : List ℕ) → length digits ≡ 4 → digits_value 16 digits ≡ digit_value (get_or digits 0 0) * 4096 + digit_value (get_or digits 1 0) * 256 + digit_value (get_or digits 2 0) * 16 + digit_value (get_or digits 3 0)
unit_digits [] four = absurd (omega (arith, four))
unit_digits (a ∷ []) four = absurd (omega (arith, four))
unit_digits (a ∷ b ∷ []) four = absurd (omega (arith, four))
unit_digits (a ∷ b ∷ c ∷ []) four = absurd (omega (arith, four))
unit_digits (a ∷ b ∷ c ∷ d ∷ []) four = four_digits (digit_value a) (digit_value b) (digit_value c) (digit_value d)
unit_digits (a ∷ b ∷ c ∷ d ∷ e ∷ digits) four = absurd (omega (arith, four))

pub alone-retained : (digits : List ℕ) → (is_high_surrogate (digits_value 16 digits) || is_low_surrogate (digits_value 16 digits)) ≡ true → alone digits ≡ encoding (unit false digits)
unfolding alone
alone-retained digits h = ap (λ b. cond b (encoding (unit false digits)) (encode_utf8 (digits_value 16 digits))) h

pub alone-character : (digits : List ℕ) → (is_high_surrogate (digits_value 16 digits) || is_low_surrogate (digits_value 16 digits)) ≡ false → alone digits ≡ encode_utf8 (digits_value 16 digits)
unfolding alone
alone-character digits h = ap (λ b. cond b (encoding (unit false digits)) (encode_utf8 (digits_value 16 digits))) h

pub together-character : (high next : List ℕ) → is_low_surrogate (digits_value 16 next) ≡ true → together high next ≡ encode_utf8 (surrogate_pair_char (digits_value 16 high) (digits_value 16 next))
unfolding together
together-character high next h = ap (λ b. cond b (encode_utf8 (surrogate_pair_char (digits_value 16 high) (digits_value 16 next))) (encoding (unit false high) ++ encoding (unit false next))) h

pub together-retained : (high next : List ℕ) → is_low_surrogate (digits_value 16 next) ≡ false → together high next ≡ encoding (unit false high) ++ encoding (unit false next)
unfolding together
together-retained high next h = ap (λ b. cond b (encode_utf8 (surrogate_pair_char (digits_value 16 high) (digits_value 16 next))) (encoding (unit false high) ++ encoding (unit false next))) h

pub length-alone : (digits : List ℕ) → length digits ≡ 4 → length (alone digits) ≤ 6
unfolding alone
length-alone digits four =
    let value = digits_value 16 digits in
    elim (is_high_surrogate value || is_low_surrogate value) as (λ b. length (cond b (encoding (unit false digits)) (encode_utf8 value)) ≤ 6)
    [ true ↦ omega (arith, four) | false ↦ omega (arith, length-encode value, len_utf8_bounds value) ]

pub length-together : (high next : List ℕ) → length high ≡ 4 → length next ≡ 4 → length (together high next) ≤ 12
unfolding together
length-together high next four again =
    let value = surrogate_pair_char (digits_value 16 high) (digits_value 16 next) in
    elim (is_low_surrogate (digits_value 16 next)) as (λ b. length (cond b (encode_utf8 value) (encoding (unit false high) ++ encoding (unit false next))) ≤ 12)
    [ true ↦ omega (arith, length-encode value, len_utf8_bounds value) | false ↦ omega (arith, length-append (encoding (unit false high)) (encoding (unit false next)), four, again) ]

pub length-after_u : (braces : Bool) (digits : List ℕ) → length digits ≡ 4 → 4 ≤ length (after_u braces digits)
length-after_u false digits four = omega (arith, four)
length-after_u true digits four = omega (arith, four, length-append digits (125 ∷ []))
