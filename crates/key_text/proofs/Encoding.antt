-- The digits of a number, encoded pair by pair.
use Rattle.std.proofs.Common.{◌≡◌, ◌≢◌, ℕ, suc, ◌+◌, ◌-◌, ◌*◌, ◌/◌, ◌%◌, ◌^◌, ◌<◌, ◌≤◌, ◌⊎◌, inl, inr, Bool, List, [], ◌∷◌, ◌++◌, map, set, length, replicate, refl, sym, ap, ap₂, subst, ◌∙◌, arith, append_assoc, length-append}
use Rattle.std.proofs.Math.Seq.{set-append_seam}
use Rattle.jsonb_spec.specs.SortKey.{digits_key, invert_if}
use Rattle.jsonb_core.proofs.SortKeys.Digits.{ten, hundred}
use Rattle.jsonb_spec.specs.SortKey.Reading.{DigitsLeft, IsLastPair}
use Rattle.key_value.proofs.Numbers.{Ends, GoesOn, next_pair, all_digits as digits_ended, no_zeros, pair_below_all, no_bytes}
use Rattle.key_text.specs.Writes.{IsEncoded, last_digits}
use Rattle.key_text.proofs.LastDigits.{digits_long, one_more, two_more, no_digits}
use Rattle.key_text.proofs.NumberTexts.{less_back}

-- what was read of a number, and what is left of it
pub record EncodedLeft (negative : Bool) (C M count : ℕ) (rest more row : List ℕ) : Type 0 where
  pub digits : ℕ
  pub left : DigitsLeft negative C M digits count rest more
  pub encoded : row ≡ last_digits count digits ++ replicate (48 - count) 48

abbrev pub Encodes : Bool → List ℕ → ℕ → List ℕ → List ℕ → Type 0
Encodes negative bytes count rest row = (C M : ℕ) → M < 10 ^ C → 0 < M → C ≤ 39 → (more : List ℕ) → bytes ≡ map (invert_if negative) (digits_key C M) ++ more → EncodedLeft negative C M count rest more row

pub none_encoded : (negative : Bool) (bytes row : List ℕ) → row ≡ replicate 48 48 → Encodes negative bytes 0 bytes row
none_encoded negative bytes row zeros_there = λ C M below some few more e. record {
  digits = 0;
  left = record { left = C; tail = M; counted = omega arith; whole = omega arith; below = below; some = some; occurs = e };
  encoded = zeros_there ∙ ap (λ ds. ds ++ replicate 48 48) (sym (no_digits 0));
}

-- ---- the row

two_set : (ds : List ℕ) (count tens ones left : ℕ) → length ds ≡ count → set (set (ds ++ 48 ∷ 48 ∷ replicate left 48) count tens) (count + 1) ones ≡ (ds ++ tens ∷ ones ∷ []) ++ replicate left 48
two_set ds count tens ones left long =
    let first : set (ds ++ 48 ∷ 48 ∷ replicate left 48) count tens ≡ (ds ++ tens ∷ []) ++ 48 ∷ replicate left 48 =
    ap (λ i. set (ds ++ 48 ∷ 48 ∷ replicate left 48) i tens) (sym long) ∙ set-append_seam ds 48 (48 ∷ replicate left 48) tens ∙ sym (append_assoc ds (tens ∷ []) (48 ∷ replicate left 48)) in
    let next : count + 1 ≡ length (ds ++ tens ∷ []) = omega (arith, length-append ds (tens ∷ []), long) in
    ap₂ (λ row i. set row i ones) first next ∙ set-append_seam (ds ++ tens ∷ []) 48 (replicate left 48) ones
    ∙ sym (append_assoc (ds ++ tens ∷ []) (ones ∷ []) (replicate left 48)) ∙ ap (λ t. t ++ replicate left 48) (append_assoc ds (tens ∷ []) (ones ∷ []))

row_after : (row new : List ℕ) (count digits tens ones : ℕ) → count ≤ 38 → row ≡ last_digits count digits ++ replicate (48 - count) 48 → new ≡ set (set row count tens) (count + 1) ones → new ≡ (last_digits count digits ++ tens ∷ ones ∷ []) ++ replicate (46 - count) 48
row_after row new count digits tens ones few encoded is =
    let over : 48 - count ≡ suc (suc (46 - count)) = omega (arith, few) in
    is ∙ ap (λ r. set (set r count tens) (count + 1) ones) (encoded ∙ ap (λ k. last_digits count digits ++ replicate k 48) over)
    ∙ two_set (last_digits count digits) count tens ones (46 - count) (digits_long count digits)

-- ---- one step

-- a pair of digits
ends_small : (left tail byte : ℕ) (others more : List ℕ) → tail < 10 ^ left → Ends left tail byte others more → byte / 2 < 100
ends_small left tail byte others more below e = less_back (byte / 2) 100 (10 ^ left) (ten left) (omega (arith, e.whole, below))

goes_on_small : (negative : Bool) (left tail byte : ℕ) (others more : List ℕ) → tail < 10 ^ left → GoesOn negative left tail byte others more → byte / 2 < 100
goes_on_small negative left tail byte others more below g =
    let power : 10 ^ left ≡ 100 * 10 ^ g.count = ap (λ k. 10 ^ k) {x = left} (g.counted ∙ omega arith) ∙ hundred g.count in
    less_back (byte / 2) 100 (10 ^ g.count) (ten g.count) (omega (arith, g.whole, below, power))

module _ (negative : Bool) (bytes : List ℕ) (count : ℕ) (rest row : List ℕ) (byte : ℕ) (others : List ℕ) (b : ℕ) (so_far : Encodes negative bytes count rest row) (first : rest ≡ byte ∷ others) (is : b ≡ invert_if negative byte) where
  module _ (C M : ℕ) (below : M < 10 ^ C) (some : 0 < M) (few : C ≤ 39) (more : List ℕ) (e : bytes ≡ map (invert_if negative) (digits_key C M) ++ more) where
    abbrev here : EncodedLeft negative C M count rest more row
    here = so_far C M below some few more e

    abbrev Cases : Type 0
    Cases = Ends here.left.left here.left.tail b others more ⊎ GoesOn negative here.left.left here.left.tail b others more

    cases : Cases
    cases = subst (λ x. Ends here.left.left here.left.tail x others more ⊎ GoesOn negative here.left.left here.left.tail x others more) (sym is) (next_pair negative here.left.left here.left.tail byte rest others more here.left.below here.left.some first here.left.occurs)

    pub pair_small : (count ≤ 38) × (b / 2 < 100)
    pair_small = elim cases [
      | inl x ↦ (omega (arith, x.some, here.left.counted, few), ends_small here.left.left here.left.tail b others more here.left.below x)
      | inr y ↦ (omega (arith, y.counted, here.left.counted, few), goes_on_small negative here.left.left here.left.tail b others more here.left.below y)
    ]

    at_end : b % 2 ≡ 0 → Ends here.left.left here.left.tail b others more
    at_end even = elim cases [
      | inl x ↦ x
      | inr y ↦ absurd (omega (arith, even, y.odd))
    ]

    going_on : b % 2 ≢ 0 → GoesOn negative here.left.left here.left.tail b others more
    going_on odd = elim cases [
      | inl x ↦ absurd (odd x.even)
      | inr y ↦ y
    ]

    -- the last pair, of which the second digit is no zero
    pub two_encoded : (new : List ℕ) (tens ones : ℕ) → b % 2 ≡ 0 → b / 2 % 10 ≢ 0 → tens ≡ 48 + b / 2 / 10 → ones ≡ 48 + b / 2 % 10 → new ≡ set (set row count tens) (count + 1) ones → IsEncoded C M (count + 2) new × (others ≡ more)
    two_encoded new tens ones even last t o n =
        let x = at_end even in
        let small = pair_small in
        let D = here.digits * 100 + b / 2 in
        let pair : IsLastPair here.digits (b / 2) D 2 = record { below = small.1; taken = inl (refl, refl); whole = omega arith; few = omega arith; one = λ z. absurd (last z); not_zero = λ z. last (omega (arith, z)) } in
        let next : suc (suc count) ≡ count + 2 = omega arith in
        let left : 46 - count ≡ 48 - (count + 2) = omega arith in (
          record {
            digits = D;
            is_digits = digits_ended C M here.digits count here.left.left here.left.tail (b / 2) D 2 here.left.counted here.left.whole x.whole x.some x.single some pair;
            not_zero = pair.not_zero;
            encoded = row_after row new count here.digits tens ones small.0 here.encoded n
                ∙ ap₂ (λ u v. (last_digits count here.digits ++ u ∷ v ∷ []) ++ replicate (46 - count) 48) t o
                ∙ ap (λ ds. ds ++ replicate (46 - count) 48) (sym (two_more count here.digits (b / 2) small.1))
                ∙ ap₂ (λ c k. last_digits c D ++ replicate k 48) next left;
          },
          x.occurs,
        )

    -- the last pair, of which the second digit is a zero
    pub one_encoded : (new : List ℕ) (tens ones : ℕ) → b % 2 ≡ 0 → b / 2 % 10 ≡ 0 → tens ≡ 48 + b / 2 / 10 → ones ≡ 48 + b / 2 % 10 → new ≡ set (set row count tens) (count + 1) ones → IsEncoded C M (count + 1) new × (others ≡ more)
    one_encoded new tens ones even last t o n =
        let x = at_end even in
        let small = pair_small in
        let D = here.digits * 10 + b / 2 / 10 in
        let some_digit : b / 2 % 100 ≢ 0 = λ z. no_zeros here.left.tail (b / 2) (10 ^ here.left.left) x.whole here.left.some (omega (arith, z, small.1)) in
        let pair : IsLastPair here.digits (b / 2) D 1 = record { below = small.1; taken = inr (refl, last, refl); whole = omega (arith, last); few = omega arith; one = λ z. refl; not_zero = λ z. some_digit (omega (arith, z, small.1, last)) } in
        let next : suc count ≡ count + 1 = omega arith in
        let left : suc (46 - count) ≡ 48 - (count + 1) = omega (arith, small.0) in
        let one : ones ≡ 48 = omega (arith, o, last) in (
          record {
            digits = D;
            is_digits = digits_ended C M here.digits count here.left.left here.left.tail (b / 2) D 1 here.left.counted here.left.whole x.whole x.some x.single some pair;
            not_zero = pair.not_zero;
            encoded = row_after row new count here.digits tens ones small.0 here.encoded n
                ∙ ap₂ (λ u v. (last_digits count here.digits ++ u ∷ v ∷ []) ++ replicate (46 - count) 48) t one
                ∙ ap (λ ds. ds ++ replicate (46 - count) 48) (sym (append_assoc (last_digits count here.digits) ((48 + b / 2 / 10) ∷ []) (48 ∷ [])))
                ∙ append_assoc (last_digits count here.digits ++ (48 + b / 2 / 10) ∷ []) (48 ∷ []) (replicate (46 - count) 48)
                ∙ ap (λ ds. ds ++ 48 ∷ replicate (46 - count) 48) (sym (one_more count here.digits (b / 2 / 10) (omega (arith, small.1))))
                ∙ ap₂ (λ c k. last_digits c D ++ replicate k 48) next left;
          },
          x.occurs,
        )

    -- a pair that others follow
    pub pair_encoded : (new : List ℕ) (tens ones : ℕ) → b % 2 ≢ 0 → tens ≡ 48 + b / 2 / 10 → ones ≡ 48 + b / 2 % 10 → new ≡ set (set row count tens) (count + 1) ones → EncodedLeft negative C M (count + 2) others more new
    pair_encoded new tens ones odd t o n =
        let y = going_on odd in
        let small = pair_small in
        let D = here.digits * 100 + b / 2 in
        let all = pair_below_all M here.digits y.count y.rest (b / 2) here.left.left here.left.tail here.left.whole y.counted y.whole in
        let next : suc (suc count) ≡ count + 2 = omega arith in
        let left : 46 - count ≡ 48 - (count + 2) = omega arith in
        record {
          digits = D;
          left = record { left = y.count; tail = y.rest; counted = omega (arith, here.left.counted, y.counted); whole = all.0; below = y.below; some = y.some; occurs = y.occurs };
          encoded = row_after row new count here.digits tens ones small.0 here.encoded n
              ∙ ap₂ (λ u v. (last_digits count here.digits ++ u ∷ v ∷ []) ++ replicate (46 - count) 48) t o
              ∙ ap (λ ds. ds ++ replicate (46 - count) 48) (sym (two_more count here.digits (b / 2) small.1))
              ∙ ap₂ (λ c k. last_digits c D ++ replicate k 48) next left;
        }

-- some byte is left
pub not_over : (negative : Bool) (bytes : List ℕ) (count : ℕ) (rest row : List ℕ) → Encodes negative bytes count rest row → length rest ≡ 0 → (C M : ℕ) → M < 10 ^ C → 0 < M → C ≤ 39 → (more : List ℕ) → bytes ≡ map (invert_if negative) (digits_key C M) ++ more → ⊥
not_over negative bytes count rest row so_far over C M below some few more e = empty rest over (so_far C M below some few more e)
  where
    empty : (rest : List ℕ) → length rest ≡ 0 → EncodedLeft negative C M count rest more row → ⊥
    empty [] o s = no_bytes negative s.left.left s.left.tail more s.left.below s.left.some s.left.occurs
    empty (x ∷ xs) o s = absurd (omega (arith, o))
