-- Bytes that are ASCII, found by vectors.
use Rattle.std.proofs.Common.{◌≡◌, ◌⊎◌, ℕ, ◌+◌, ◌-◌, ◌%◌, ◌^◌, ◌<◌, ◌≤◌, inl, inr, eqb, leb, Bool, true, false, true≢false, not, cond, List, map, drop, length, get_or, Fits, w8, sym, ap, subst, ◌∙◌, arith}
use Rattle.std.proofs.lemmas.Bool.{agree_below, agree_below_at, cases_lt, le-leb}
use Rattle.std.proofs.lemmas.List.{get_or-drop, get_or_past, length-map}
use Rattle.std.proofs.lemmas.Simd.{map-map, mask_l-mod, length-chunk, first_set_mask_l, run_in_chunk_fails}
use Rattle.std.specs.Int.{trailing_zeros, w64}
use Rattle.std.specs.List.{prefix_len}
use Rattle.std.specs.Simd.Lanes.{chunk, mask_l, top}

-- the first 16 bytes in a vector, f of each in another, of which none has its top bit set
module _ (bytes : List ℕ) (marks : List ℕ) (f : ℕ → ℕ) (sink : 16 ≤ length bytes) (fits : (k : ℕ) → Fits w8 (get_or bytes k 0))
    (none : eqb (mask_l (map (top 7) marks) % 2 ^ 64) 0 ≡ true) (lanes : marks ≡ map f (chunk 0 16 bytes)) (exact : agree_below (λ b. top 7 (f b)) (leb 128) 256 ≡ true) where
  abbrev is_marked : ℕ → Bool
  is_marked b = top 7 (f b)

  counted : 16 ≡ prefix_len (λ b. not (is_marked b)) (chunk 0 16 bytes)
  counted =
      let v = chunk 0 16 bytes in
      let long : length v ≡ 16 = length-chunk 0 16 bytes (omega (arith, sink)) in
      let mask = ap (λ l. mask_l l % 2 ^ 64) (ap (map (top 7)) lanes ∙ map-map (top 7) f v) ∙ mask_l-mod (map is_marked v) 64 (omega (arith, length-map v is_marked, long)) in
      let found : 16 ≡ cond (eqb (mask_l (map (top 7) marks) % 2 ^ 64) 0) 16 (trailing_zeros w64 (mask_l (map (top 7) marks) % 2 ^ 64)) =
      sym (ap (λ b. cond b 16 (trailing_zeros w64 (mask_l (map (top 7) marks) % 2 ^ 64))) none) in
      found ∙ ap (λ m. cond (eqb m 0) 16 (trailing_zeros w64 m)) mask ∙ first_set_mask_l is_marked v 16 long (omega arith)

  below : (b : ℕ) → leb 128 b ≡ false → b < 128
  below b is = elim (cases_lt b 128) [
    | inl less ↦ less
    | inr most ↦ absurd (true≢false (sym (le-leb 128 b most) ∙ is))
  ]

  pub marks_ascii : (k : ℕ) → k < 16 → get_or bytes k 0 < 128
  marks_ascii k l =
      below (get_or bytes k 0)
      (sym (agree_below_at is_marked (leb 128) 256 (get_or bytes k 0) exact (fits k).fits)
      ∙ run_in_chunk_fails is_marked bytes 0 16 16 0 (omega (arith, sink)) counted k (omega arith) (omega (arith, l)))

-- ---- four of them that may overlap

-- the 16 bytes from an index on are ASCII
abbrev AreAscii : List ℕ → ℕ → Type 0
AreAscii bytes start = (k : ℕ) → start ≤ k → k < start + 16 → get_or bytes k 0 < 128

-- the first 16 bytes of what begins at an index
pub window : (bytes rest : List ℕ) (start : ℕ) → rest ≡ drop start bytes → ((k : ℕ) → k < 16 → get_or rest k 0 < 128) → AreAscii bytes start
window bytes rest start is all = λ k least most. subst (λ b. b < 128) (same k least) (all (k - start) (omega (arith, least, most)))
  where
    same : (k : ℕ) → start ≤ k → get_or rest (k - start) 0 ≡ get_or bytes k 0
    same k least = ap (λ xs. get_or xs (k - start) 0) is ∙ get_or-drop start bytes (k - start) 0 ∙ ap (λ i. get_or bytes i 0) (omega (arith, least))

-- an index that is the last one, or else this one
abbrev pub IsLesser : ℕ → ℕ → ℕ → Type 0
IsLesser start last other = (start ≤ last) × (start ≤ other) × ((start ≡ last) ⊎ (start ≡ other))

pub four_windows : (bytes : List ℕ) (second third last : ℕ) → length bytes ≡ last + 16 → last ≤ 48 → IsLesser second last 16 → IsLesser third last 32
    → AreAscii bytes 0 → AreAscii bytes second → AreAscii bytes third → AreAscii bytes last → (k : ℕ) → get_or bytes k 0 < 128
four_windows bytes second third last long most two three a b c d k = elim (cases_lt k 16) [
  | inl l ↦ a k (omega arith) (omega (arith, l))
  | inr g ↦ elim (cases_lt k (second + 16)) [
    | inl l ↦ b k (omega (arith, two.1, g)) l
    | inr h ↦ elim (cases_lt k (third + 16)) [
      | inl l ↦ c k (from_third two.2 h) l
      | inr i ↦ elim (cases_lt k (last + 16)) [
        | inl l ↦ d k (from_last three.2 i) l
        | inr j ↦ subst (λ b. b < 128) (sym (get_or_past bytes k 0 (omega (arith, j, long)))) (omega arith)
      ]
    ]
  ]
]
  where
    from_third : (second ≡ last) ⊎ (second ≡ 16) → second + 16 ≤ k → third ≤ k
    from_third (inl e) h = omega (arith, e, h, three.0)
    from_third (inr e) h = omega (arith, e, h, three.1)

    from_last : (third ≡ last) ⊎ (third ≡ 32) → third + 16 ≤ k → last ≤ k
    from_last (inl e) h = omega (arith, e, h)
    from_last (inr e) h = omega (arith, e, h, most)
