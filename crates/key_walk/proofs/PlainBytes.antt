-- Bytes that are ASCII and no zeros, found by vectors, and the first zero behind them.
use Rattle.std.proofs.Common.{◌≡◌, ◌≢◌, ℕ, zero, suc, ◌+◌, ◌-◌, ◌%◌, ◌^◌, ◌<◌, ◌≤◌, inl, inr, eqb, leb, Bool, true, false, true≢false, not, ◌||◌, cond, List, [], ◌∷◌, ◌++◌, Some, map, take, drop, length, get_or, Fits, w8, IsUtf8, sym, ap, subst, ◌∙◌, arith, eq-eqb}
use Rattle.std.proofs.Math.Seq.{take-add}
use Rattle.std.proofs.lemmas.Bool.{agree_below, agree_below_at, or_parts, cases_lt, le-leb}
use Rattle.std.proofs.lemmas.List.{length-map, length-drop, get_or-drop}
use Rattle.std.proofs.lemmas.Simd.{map-map, mask_l-mod, length-chunk, first_set_mask_l, run_in_chunk_le, run_in_chunk_fails}
use Rattle.std.proofs.lemmas.Str.{IsUtf8-append, IsUtf8-drop, IsUtf8-from_ascii, IsCharBoundary-after_ascii}
use Rattle.std.specs.Int.{trailing_zeros, w64}
use Rattle.std.specs.List.{prefix_len}
use Rattle.std.specs.Simd.Lanes.{chunk, mask_l, top}
use Rattle.memchr.specs.Find.{IsFirstByte, is_byte}
use Rattle.jsonb_spec.specs.SortKey.Front.{AreNoZeros}
use Rattle.key_walk.specs.Frames.{ArePlain, TextFirst, Utf8UpTo}
use Rattle.key_walk.proofs.AfterTexts.{some_zero, is_zero}
use Rattle.key_walk.proofs.CheckedTexts.{zero_up_to, run_is_utf8}

-- ---- by vectors

-- the byte is no ASCII or a zero
abbrev pub is_other : ℕ → Bool
is_other b = eqb b 0 || leb 128 b

plain_byte : (b : ℕ) → is_other b ≡ false → (b ≢ 0) × (b < 128)
plain_byte b h =
    let both = or_parts (eqb b 0) (leb 128 b) h in
    ((λ e. true≢false (sym (eq-eqb b 0 e) ∙ both.0)), below b both.1)
  where
    below : (b : ℕ) → leb 128 b ≡ false → b < 128
    below b none = elim (cases_lt b 128) [
      | inl less ↦ less
      | inr most ↦ absurd (true≢false (sym (le-leb 128 b most) ∙ none))
    ]

-- a run after a run
pub plain_on : (bytes others : List ℕ) (n m : ℕ) → others ≡ drop n bytes → ArePlain bytes n → ArePlain others m → ArePlain bytes (n + m)
plain_on bytes others n m e front back = λ k l. elim (cases_lt k n) [
  | inl low ↦ front k low
  | inr high ↦ subst (λ b. (b ≢ 0) × (b < 128)) (same k high) (back (k - n) (omega (arith, l, high)))
]
  where
    same : (k : ℕ) → n ≤ k → get_or others (k - n) 0 ≡ get_or bytes k 0
    same k high = ap (λ xs. get_or xs (k - n) 0) e ∙ get_or-drop n bytes (k - n) 0 ∙ ap (λ i. get_or bytes i 0) (omega (arith, high))

-- the first n bytes in a vector, f of each in another, and r the first of these whose top bit is set, by which bytes
-- stop
module _ (stops : ℕ → Bool) (bytes : List ℕ) (n r : ℕ) (marks : List ℕ) (f : ℕ → ℕ) (space : n ≤ length bytes) (few : n ≤ 64)
    (found : r ≡ cond (eqb (mask_l (map (top 7) marks) % 2 ^ 64) 0) n (trailing_zeros w64 (mask_l (map (top 7) marks) % 2 ^ 64)))
    (lanes : marks ≡ map f (chunk 0 n bytes)) where
  abbrev is_marked : ℕ → Bool
  is_marked b = top 7 (f b)

  counted : r ≡ prefix_len (λ b. not (is_marked b)) (chunk 0 n bytes)
  counted =
      let v = chunk 0 n bytes in
      let long : length v ≡ n = length-chunk 0 n bytes (omega (arith, space)) in
      let mask = ap (λ l. mask_l l % 2 ^ 64) (ap (map (top 7)) lanes ∙ map-map (top 7) f v) ∙ mask_l-mod (map is_marked v) 64 (omega (arith, length-map v is_marked, long)) in
      found ∙ ap (λ m. cond (eqb m 0) n (trailing_zeros w64 m)) mask ∙ first_set_mask_l is_marked v n long few

  pub marks_within : r ≤ n
  marks_within = run_in_chunk_le is_marked bytes 0 n r 0 (omega (arith, space)) counted

  pub marks_pass : agree_below is_marked stops 256 ≡ true → (k : ℕ) → k < r → Fits w8 (get_or bytes k 0) → stops (get_or bytes k 0) ≡ false
  marks_pass exact k l fit =
      sym (agree_below_at is_marked stops 256 (get_or bytes k 0) exact fit.fits)
      ∙ run_in_chunk_fails is_marked bytes 0 n r 0 (omega (arith, space)) counted k (omega arith) (omega (arith, l))

-- the bytes are plain that don't stop
pub plain_bytes : (bytes : List ℕ) (r : ℕ) → ((k : ℕ) → k < r → is_other (get_or bytes k 0) ≡ false) → ArePlain bytes r
plain_bytes bytes r pass = λ k l. plain_byte (get_or bytes k 0) (pass k l)

-- the byte is a zero
abbrev pub is_zero_byte : ℕ → Bool
is_zero_byte b = eqb b 0

pub no_zeros : (bytes : List ℕ) (r : ℕ) → ((k : ℕ) → k < r → is_zero_byte (get_or bytes k 0) ≡ false) → AreNoZeros bytes r
no_zeros bytes r pass = λ k l e. true≢false (sym (eq-eqb (get_or bytes k 0) 0 e) ∙ pass k l)

-- a run without zeros after another
pub no_zeros_on : (bytes others : List ℕ) (n m : ℕ) → others ≡ drop n bytes → AreNoZeros bytes n → AreNoZeros others m → AreNoZeros bytes (n + m)
no_zeros_on bytes others n m e front back = λ k l. elim (cases_lt k n) [
  | inl low ↦ front k low
  | inr high ↦ subst (λ b. b ≢ 0) (ap (λ xs. get_or xs (k - n) 0) e ∙ get_or-drop n bytes (k - n) 0 ∙ ap (λ i. get_or bytes i 0) (omega (arith, high))) (back (k - n) (omega (arith, l, high)))
]

-- no bit is set
pub none_set : (mask n : ℕ) → eqb mask 0 ≡ true → n ≡ cond (eqb mask 0) n (trailing_zeros w64 mask)
none_set mask n e = sym (ap (λ b. cond b n (trailing_zeros w64 mask)) e)

-- ---- the first zero

take_plain : (bytes : List ℕ) (n : ℕ) → ArePlain bytes n → (i : ℕ) → get_or (take n bytes) i 0 < 128
take_plain bytes zero p i = omega arith
take_plain [] (suc n) p i = omega arith
take_plain (b ∷ bytes) (suc n) p zero = (p 0 (omega arith)).1
take_plain (b ∷ bytes) (suc n) p (suc i) = take_plain bytes n (λ k l. p (suc k) (omega (arith, l))) i

plain_utf8 : (bytes : List ℕ) (n : ℕ) → ArePlain bytes n → IsUtf8 (take n bytes)
plain_utf8 bytes n p = IsUtf8-from_ascii (take n bytes) (take_plain bytes n p)

-- all bytes are plain
pub no_zero_there : (bytes rest more : List ℕ) (run : ℕ) → run ≤ length bytes → ArePlain bytes run → rest ≡ drop run bytes → ((k : ℕ) → k < length rest → get_or rest k 0 ≢ 0) → TextFirst bytes more → ⊥
no_zero_there bytes rest more run within plain back none t =
    some_zero t.text more bytes t.occurs (λ k l h. elim (cases_lt k run) [
      | inl low ↦ (plain k low).0 h
      | inr high ↦ none (k - run) (omega (arith, l, high, ap length back, length-drop run bytes)) (ap (λ xs. get_or xs (k - run) 0) back ∙ get_or-drop run bytes (k - run) 0 ∙ ap (λ i. get_or bytes i 0) (omega (arith, high)) ∙ h)
    ])

pub zero_first : (bytes rest tail : List ℕ) (run first : ℕ) → run ≤ length bytes → ArePlain bytes run → rest ≡ drop run bytes → rest ≡ first ∷ tail → first ≡ 0 → Utf8UpTo bytes run
zero_first bytes rest tail run first within plain back head is = record {
  within = omega (arith, within, ap length (sym back ∙ head), length-drop run bytes);
  none_before = λ k l. (plain k l).0;
  here = sym (ap (λ i. get_or bytes i 0) (omega arith)) ∙ sym (get_or-drop run bytes 0 0) ∙ ap (λ xs. get_or xs 0 0) (sym back ∙ head) ∙ is;
  utf8 = plain_utf8 bytes run plain;
}

-- the bytes up to a zero further on
module _ (bytes rest text : List ℕ) (run zero : ℕ) (within : run ≤ length bytes) (plain : ArePlain bytes run) (back : rest ≡ drop run bytes) (found : IsFirstByte (is_byte 0) rest (Some zero)) (front : text ≡ take zero rest) where
  size : length rest + run ≡ length bytes
  size = omega (arith, within, ap length back, length-drop run bytes)

  at : (k : ℕ) → run ≤ k → get_or rest (k - run) 0 ≡ get_or bytes k 0
  at k high = ap (λ xs. get_or xs (k - run) 0) back ∙ get_or-drop run bytes (k - run) 0 ∙ ap (λ i. get_or bytes i 0) (omega (arith, high))

  none : (k : ℕ) → k < run + zero → get_or bytes k 0 ≢ 0
  none k l h = elim (cases_lt k run) [
    | inl low ↦ (plain k low).0 h
    | inr high ↦ found.0.before (k - run) (omega arith) (omega (arith, l, high)) (eq-eqb (get_or rest (k - run) 0) 0 (at k high ∙ h))
  ]

  here : get_or bytes (run + zero) 0 ≡ 0
  here = sym (at (run + zero) (omega arith)) ∙ ap (λ i. get_or rest i 0) (omega arith) ∙ is_zero (get_or rest zero 0) found.1

  whole : take (run + zero) bytes ≡ take run bytes ++ text
  whole = take-add run zero bytes ∙ ap (λ xs. take run bytes ++ take zero xs) (sym back) ∙ ap (λ xs. take run bytes ++ xs) (sym front)

  pub text_up_to : IsUtf8 text → Utf8UpTo bytes (run + zero)
  text_up_to u = record {
    within = omega (arith, size, found.0.high);
    none_before = none;
    here = here;
    utf8 = subst IsUtf8 (sym whole) (IsUtf8-append (take run bytes) text (plain_utf8 bytes run plain) u);
  }

  behind_plain : (xs ys : List ℕ) → ((i : ℕ) → get_or xs i 0 < 128) → IsUtf8 (xs ++ ys) → IsUtf8 ys
  behind_plain [] ys p u = u
  behind_plain (x ∷ xs) ys p u =
      behind_plain xs ys (λ i. p (suc i))
      (IsUtf8-drop (x ∷ (xs ++ ys)) 1 u (IsCharBoundary-after_ascii (x ∷ (xs ++ ys)) 0 u (omega arith) (p 0)))

  pub text_utf8 : (more : List ℕ) → TextFirst bytes more → IsUtf8 text
  text_utf8 more t =
      let all = run_is_utf8 bytes (take (run + zero) bytes) (drop (suc (run + zero)) bytes) more (zero_up_to bytes (run + zero) (omega (arith, size, found.0.high)) none here) t in
      behind_plain (take run bytes) text (take_plain bytes run plain) (subst IsUtf8 whole all)
