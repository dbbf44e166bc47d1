-- The bits of a mask: where a byte is among 16.
use Rattle.std.proofs.Common.{◌≡◌, ◌↔◌, ℕ, zero, suc, ◌+◌, ◌^◌, ◌<◌, ◌≤◌, ◌-◌, ◌++◌, ⊎_elim, List, [], ◌∷◌, Bool, true, false, true≢false, cond, eqb, eqb-true, eq-eqb, length, get_or, map, take, drop, sym, subst, ap, ◌∙◌, refl, arith}
use Rattle.std.proofs.lemmas.Simd.{bit_mask_l, get_or-chunk, length-chunk}
use Rattle.std.proofs.lemmas.List.{append_assoc, get_or-drop, get_or-map, get_or_past, length-map, length-take-le, take-append-le, take-append-drop}
use Rattle.std.proofs.Math.Seq.{take-append-add}
use Rattle.std.proofs.lemmas.Bool.{cases_lt}
use Rattle.std.specs.Int.{bit_at}
use Rattle.std.specs.Simd.Lanes.{chunk, mask_l}
use Rattle.jsonb_spec.specs.Parsing.Decoding.{SeesNoBackslash}

pub within : (byte : ℕ) → 0 < byte → (bytes : List ℕ) (k : ℕ) → get_or bytes k 0 ≡ byte → k < length bytes
within byte some [] k e = absurd (omega (arith, some, e))
within byte some (b ∷ bytes) zero e = omega arith
within byte some (b ∷ bytes) (suc k) e = let below = within byte some bytes k e in omega (arith, below)

-- what a bit of the mask of a row of bytes says, where it tells which of them pass a test
pub told : (t : ℕ → Bool) (at size : ℕ) (bytes : List ℕ) (m : ℕ) → at + size ≤ length bytes → m ≡ mask_l (map t (chunk at size bytes)) → (k : ℕ) → (bit_at m k ≡ 1) ↔ ((k < size) × (t (get_or bytes (at + k) 0) ≡ true))
told t at size bytes m long is k = ⊎_elim inside past (cases_lt k size)
  where
    bits : List Bool
    bits = map t (chunk at size bytes)

    bit : bit_at m k ≡ cond (get_or bits k false) 1 0
    bit = ap (λ n. bit_at n k) is ∙ bit_mask_l bits k

    set_tells : (b : Bool) → (cond {A = ℕ} b 1 0 ≡ 1) ↔ (b ≡ true)
    set_tells true = (λ h. refl, λ h. refl)
    set_tells false = (λ h. absurd (omega (arith, h)), λ h. absurd (true≢false (sym h)))

    inside : k < size → (bit_at m k ≡ 1) ↔ ((k < size) × (t (get_or bytes (at + k) 0) ≡ true))
    inside low =
        let here : get_or bits k false ≡ t (get_or bytes (at + k) 0) =
        get_or-map t (chunk at size bytes) k 0 false (omega (arith, low, length-chunk at size bytes long)) ∙ ap t (get_or-chunk at size bytes k 0 low) in
        let set = bit ∙ ap (λ (b : Bool). cond {A = ℕ} b 1 0) here in
        let tells = set_tells (t (get_or bytes (at + k) 0)) in
        (λ h. (low, tells.0 (sym set ∙ h)), λ both. set ∙ tells.1 both.1)

    past : size ≤ k → (bit_at m k ≡ 1) ↔ ((k < size) × (t (get_or bytes (at + k) 0) ≡ true))
    past high =
        let none : get_or bits k false ≡ false = get_or_past bits k false (omega (arith, high, length-map (chunk at size bytes) t, length-chunk at size bytes long)) in
        let zero = bit ∙ ap (λ (b : Bool). cond {A = ℕ} b 1 0) none in
        (λ h. absurd (omega (arith, h, zero)), λ both. absurd (omega (arith, high, both.0)))

-- the same where they are this byte
pub reported : (byte at size : ℕ) (bytes : List ℕ) (m : ℕ) → at + size ≤ length bytes → m ≡ mask_l (map (λ b. eqb b byte) (chunk at size bytes)) → (k : ℕ) → (bit_at m k ≡ 1) ↔ ((k < size) × (get_or bytes (at + k) 0 ≡ byte))
reported byte at size bytes m long is k =
    let tells = told (λ b. eqb b byte) at size bytes m long is k in
    (λ h. let t = tells.0 h in (t.0, eqb-true (get_or bytes (at + k) 0) byte t.1), λ both. tells.1 (both.0, eq-eqb (get_or bytes (at + k) 0) byte both.1))

-- bits of which only the first 16 may be set are not all that a number has
pub not_all : (m : ℕ) → m < 2 ^ 64 → ((k : ℕ) → bit_at m k ≡ 1 → k < 16) → m + 1 < 2 ^ 64
not_all m fits few = ⊎_elim (λ low. low) (λ high.
    let all : m ≡ 2 ^ 64 - 1 = omega (arith, fits, high) in
    absurd (omega (arith, few 63 (subst (λ n. bit_at n 63 ≡ 1) (sym all) refl)))) (cases_lt (m + 1) (2 ^ 64))

-- where the first bytes are all this one, there are so many
pub all_within : (byte : ℕ) → 0 < byte → (bytes : List ℕ) (count : ℕ) → ((k : ℕ) → k < count → get_or bytes k 0 ≡ byte) → count ≤ length bytes
all_within byte some bytes zero are = omega arith
all_within byte some bytes (suc count) are = let last = within byte some bytes count (are count (omega arith)) in omega (arith, last)

-- a copy of more bytes than are wanted, cut back
pub cut_back : (old bytes : List ℕ) (count size : ℕ) → count ≤ size → size ≤ length bytes → take (length old + count) (old ++ take size bytes) ≡ old ++ take count bytes
cut_back old bytes count size few enough =
    take-append-add old (take size bytes) count
    ∙ ap (λ added. old ++ added) (sym (take-append-le count (take size bytes) (drop size bytes) (omega (arith, few, length-take-le size bytes enough))) ∙ ap (take count) (take-append-drop size bytes))

-- the first 16 bytes, and then so many of the others

pub clear_more : (bytes others : List ℕ) (count : ℕ) → others ≡ drop 16 bytes → SeesNoBackslash bytes 16 → SeesNoBackslash others count → SeesNoBackslash bytes (16 + count)
clear_more bytes others count is none later k low here = ⊎_elim
    (λ before. none k before here)
    (λ after.
    let offset : 16 + (k - 16) ≡ k = omega (arith, after) in
    later (k - 16) (omega (arith, low, after)) (ap (λ xs. get_or xs (k - 16) 0) is ∙ get_or-drop 16 bytes (k - 16) 0 ∙ ap (λ n. get_or bytes n 0) offset ∙ here))
    (cases_lt k 16)

pub next_more : (bytes others : List ℕ) (count : ℕ) → others ≡ drop 16 bytes → get_or others count 0 ≡ get_or bytes (16 + count) 0
next_more bytes others count is = ap (λ xs. get_or xs count 0) is ∙ get_or-drop 16 bytes count 0

pub copied_more : (bytes others old middle new : List ℕ) (count : ℕ) → 16 ≤ length bytes → others ≡ drop 16 bytes → middle ≡ old ++ take 16 bytes → new ≡ middle ++ take count others → new ≡ old ++ take (16 + count) bytes
copied_more bytes others old middle new count long is first then =
    let sixteen : length (take 16 bytes) ≡ 16 = length-take-le 16 bytes long in
    let whole : take (16 + count) bytes ≡ take 16 bytes ++ take count (drop 16 bytes) =
    ap (take (16 + count)) (sym (take-append-drop 16 bytes)) ∙ subst (λ n. take (n + count) (take 16 bytes ++ drop 16 bytes) ≡ take 16 bytes ++ take count (drop 16 bytes)) sixteen (take-append-add (take 16 bytes) (drop 16 bytes) count) in
    then ∙ ap (λ xs. middle ++ take count xs) is ∙ ap (λ front. front ++ take count (drop 16 bytes)) first ∙ append_assoc old (take 16 bytes) (take count (drop 16 bytes)) ∙ ap (λ added. old ++ added) (sym whole)
