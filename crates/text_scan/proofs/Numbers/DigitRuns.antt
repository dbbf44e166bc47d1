-- Runs of digits, found by vectors.
use Rattle.std.proofs.Common.{◌≡◌, ℕ, zero, suc, ◌+◌, ◌%◌, ◌^◌, ◌<◌, ◌≤◌, eqb, Bool, true, false, not, cond, List, map, drop, length, get_or, Fits, w8, refl, sym, ap, ◌∙◌, subst, arith}
use Rattle.std.proofs.lemmas.Bool.{agree_below, agree_below_at}
use Rattle.std.proofs.lemmas.List.{length-map}
use Rattle.std.proofs.lemmas.Simd.{map-map, mask_l-mod, length-chunk, first_set_mask_l, run_in_chunk_le, run_in_chunk_fails}
use Rattle.std.specs.Char.{is_ascii_digit}
use Rattle.std.specs.Int.{trailing_zeros, w64}
use Rattle.std.specs.List.{prefix_len}
use Rattle.std.specs.Simd.Lanes.{chunk, mask_l, top}
use Rattle.jsonb_spec.specs.Parsing.Number.{digits_length}
use Rattle.text_scan.proofs.Numbers.Steps.{digits_go_on}

-- so many digits are the first ones
pub count_digits : (bytes : List ℕ) (n : ℕ) → ((k : ℕ) → k < n → is_ascii_digit (get_or bytes k 0) ≡ true) → digits_length bytes ≡ n + digits_length (drop n bytes)
count_digits bytes zero h = let same : digits_length bytes ≡ 0 + digits_length bytes = omega arith in same
count_digits bytes (suc n) h =
    let one : n + 1 ≡ suc n = omega arith in
    subst (λ m. digits_length bytes ≡ m + digits_length (drop m bytes)) one
    (digits_go_on bytes n (digits_length bytes) (h n (omega arith)) (count_digits bytes n (λ k low. h k (omega (arith, low)))))

-- no digit
abbrev is_other : ℕ → Bool
is_other b = not (is_ascii_digit b)

digit_where : (t : Bool) → not t ≡ false → t ≡ true
digit_where true h = refl
digit_where false h = sym h

-- the first n bytes in a vector, f of each in another, and r the first of these whose top bit is set
module _ (bytes : List ℕ) (n r : ℕ) (marks : List ℕ) (f : ℕ → ℕ) (space : n ≤ length bytes) (few : n ≤ 64)
    (fits : (k : ℕ) → Fits w8 (get_or bytes k 0)) (found : r ≡ cond (eqb (mask_l (map (top 7) marks) % 2 ^ 64) 0) n (trailing_zeros w64 (mask_l (map (top 7) marks) % 2 ^ 64)))
    (lanes : marks ≡ map f (chunk 0 n bytes)) (exact : agree_below (λ b. top 7 (f b)) is_other 256 ≡ true) where
  abbrev is_marked : ℕ → Bool
  is_marked b = top 7 (f b)

  counted : r ≡ prefix_len (λ b. not (is_marked b)) (chunk 0 n bytes)
  counted =
      let v = chunk 0 n bytes in
      let long : length v ≡ n = length-chunk 0 n bytes (omega (arith, space)) in
      let mask = ap (λ l. mask_l l % 2 ^ 64) (ap (map (top 7)) lanes ∙ map-map (top 7) f v) ∙ mask_l-mod (map is_marked v) 64 (omega (arith, length-map v is_marked, long)) in
      found ∙ ap (λ m. cond (eqb m 0) n (trailing_zeros w64 m)) mask ∙ first_set_mask_l is_marked v n long few

  pub digits_within : r ≤ n
  digits_within = run_in_chunk_le is_marked bytes 0 n r 0 (omega (arith, space)) counted

  pub digits_here : (k : ℕ) → k < r → is_ascii_digit (get_or bytes k 0) ≡ true
  digits_here k l =
      digit_where (is_ascii_digit (get_or bytes k 0))
      (sym (agree_below_at is_marked is_other 256 (get_or bytes k 0) exact (fits k).fits)
      ∙ run_in_chunk_fails is_marked bytes 0 n r 0 (omega (arith, space)) counted k (omega arith) (omega (arith, l)))
