-- Runs of bytes that are written as they are, found by vectors.
use Rattle.std.proofs.Common.{◌≡◌, ◌≢◌, ℕ, zero, suc, ◌+◌, ◌%◌, ◌^◌, ◌<◌, ◌≤◌, eqb, ltb, Bool, true, false, not, ◌||◌, cond, List, [], ◌∷◌, ◌++◌, map, take, drop, length, get_or, Fits, w8, refl, sym, ap, ap₂, subst, ◌∙◌, inl, inr, arith}
use Rattle.std.proofs.Math.Pow.{pow_mono}
use Rattle.std.proofs.Math.Seq.{take-add}
use Rattle.std.proofs.lemmas.Bool.{agree_below, agree_below_at, cases_lt, or_parts, ltb-false, ne_eqb}
use Rattle.std.proofs.lemmas.List.{length-map}
use Rattle.std.proofs.lemmas.List.Concat.{flat_map-append}
use Rattle.std.proofs.lemmas.Nat.Bits.{bit_at_above, bit_at-trailing_zeros}
use Rattle.std.proofs.lemmas.Simd.{map-map, mask_l-lt, mask_l-mod, length-chunk, first_set_mask_l, run_in_chunk_le, run_in_chunk_fails}
use Rattle.std.specs.Int.{bit_at, trailing_zeros, w64}
use Rattle.std.specs.List.{flat_map, prefix_len}
use Rattle.std.specs.Simd.Lanes.{chunk, mask_l, top}
use Rattle.jsonb_spec.specs.Text.StringText.{byte_text}

abbrev pub ArePlain : List ℕ → Type 0
ArePlain bytes = flat_map byte_text bytes ≡ bytes

-- the byte has an escape
abbrev is_escaped : ℕ → Bool
is_escaped b = (ltb b 32 || eqb b 34) || eqb b 92

plain_byte : (b : ℕ) → is_escaped b ≡ false → byte_text b ≡ b ∷ []
plain_byte b h =
    let other = or_parts (ltb b 32 || eqb b 34) (eqb b 92) h in
    let others = or_parts (ltb b 32) (eqb b 34) other.0 in
    let high = ltb-false b 32 others.0 in
    let no_feed = ne_eqb b 10 (λ e. absurd (omega (arith, e, high))) in
    let no_return = ne_eqb b 13 (λ e. absurd (omega (arith, e, high))) in
    let no_tab = ne_eqb b 9 (λ e. absurd (omega (arith, e, high))) in
    rw (others.1, other.1, no_feed, no_return, no_tab, others.0) refl

plain_run : (bytes : List ℕ) (n : ℕ) → ((k : ℕ) → k < n → is_escaped (get_or bytes k 0) ≡ false) → ArePlain (take n bytes)
plain_run bytes zero h = refl
plain_run [] (suc n) h = refl
plain_run (b ∷ bytes) (suc n) h =
    ap₂ (λ front back. front ++ back) (plain_byte b (h 0 (omega arith))) (plain_run bytes n (λ k l. h (suc k) (omega arith)))

-- a run after a run
pub plain_on : (bytes : List ℕ) (n m : ℕ) → ArePlain (take n bytes) → ArePlain (take m (drop n bytes)) → ArePlain (take (n + m) bytes)
plain_on bytes n m front back =
    let split = take-add n m bytes in
    ap (flat_map byte_text) split ∙ flat_map-append byte_text (take n bytes) (take m (drop n bytes)) ∙ ap₂ (λ xs ys. xs ++ ys) front back ∙ sym split

-- the first n bytes in a vector, f of each in another, and r the first of these whose top bit is set
module _ (bytes : List ℕ) (n r : ℕ) (marks : List ℕ) (f : ℕ → ℕ) (space : n ≤ length bytes) (few : n ≤ 64)
    (fits : (k : ℕ) → Fits w8 (get_or bytes k 0)) (found : r ≡ cond (eqb (mask_l (map (top 7) marks) % 2 ^ 64) 0) n (trailing_zeros w64 (mask_l (map (top 7) marks) % 2 ^ 64)))
    (lanes : marks ≡ map f (chunk 0 n bytes)) (exact : agree_below (λ b. top 7 (f b)) is_escaped 256 ≡ true) where
  abbrev is_marked : ℕ → Bool
  is_marked b = top 7 (f b)

  counted : r ≡ prefix_len (λ b. not (is_marked b)) (chunk 0 n bytes)
  counted =
      let v = chunk 0 n bytes in
      let long : length v ≡ n = length-chunk 0 n bytes (omega (arith, space)) in
      let mask = ap (λ l. mask_l l % 2 ^ 64) (ap (map (top 7)) lanes ∙ map-map (top 7) f v) ∙ mask_l-mod (map is_marked v) 64 (omega (arith, length-map v is_marked, long)) in
      found ∙ ap (λ m. cond (eqb m 0) n (trailing_zeros w64 m)) mask ∙ first_set_mask_l is_marked v n long few

  pub marks_within : r ≤ n
  marks_within = run_in_chunk_le is_marked bytes 0 n r 0 (omega (arith, space)) counted

  pub marks_inside : mask_l (map (top 7) marks) % 2 ^ 64 ≢ 0 → r < n
  marks_inside some =
      let bits = map (top 7) marks in
      let m = mask_l bits % 2 ^ 64 in
      let long : length bits ≡ n = length-map marks (top 7) ∙ ap length lanes ∙ length-map (chunk 0 n bytes) f ∙ length-chunk 0 n bytes (omega (arith, space)) in
      let whole : m ≡ mask_l bits = mask_l-mod bits 64 (omega (arith, long, few)) in
      let below : m < 2 ^ n = subst (λ k. m < 2 ^ k) long (omega (arith, whole, mask_l-lt bits)) in
      let lowest = bit_at-trailing_zeros w64 m (omega (arith, some)) (omega (arith, below, pow_mono few)) in
      let is : r ≡ trailing_zeros w64 m = found ∙ rw (ne_eqb m 0 some) refl in
      elim (cases_lt r n) [
        | inl less ↦ less
        | inr past ↦ absurd (omega (arith, bit_at_above m n r below past, subst (λ k. bit_at m k ≡ 1) (sym is) lowest.1))
      ]

  pub marks_plain : ArePlain (take r bytes)
  marks_plain =
      plain_run bytes r (λ k l.
      sym (agree_below_at is_marked is_escaped 256 (get_or bytes k 0) exact (fits k).fits)
      ∙ run_in_chunk_fails is_marked bytes 0 n r 0 (omega (arith, space)) counted k (omega arith) (omega (arith, l)))
