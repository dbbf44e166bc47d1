-- The digits of a number that are within a row of 16, encoded pair by pair.
use Rattle.std.proofs.Common.{◌≡◌, ◌≢◌, ℕ, suc, ◌+◌, ◌-◌, ◌*◌, ◌/◌, ◌%◌, ◌^◌, ◌<◌, ◌≤◌, inl, inr, false, List, ◌++◌, ◌∷◌, map, get_or, set, drop, take, length, replicate, refl, sym, ap, ap₂, subst, ◌∙◌, arith, drop-cons}
use Rattle.std.proofs.lemmas.Bool.{cases_eq, cases_lt}
use Rattle.std.proofs.lemmas.List.{set-append_left, get_or-set_same, length-set, length-drop, drop-append-le, take-append-le}
use Rattle.std.specs.Prelude.{slice_range, ◌⊎◌}
use Rattle.jsonb_spec.specs.SortKey.{digits_key, invert_if}
use Rattle.key_text.specs.Writes.{AppendsPairs, IsEncoded, HasPairs, TakesNumberOf, scaled_text}
use Rattle.key_text.proofs.Encoding.{Encodes, EncodedLeft, none_encoded, pair_small, two_encoded, one_encoded, pair_encoded}
use Rattle.key_text.proofs.NumberTexts.{pointed_scaled}

pub few_begun : (bytes row tail : List ℕ) → row ≡ replicate 16 48 → Encodes false (bytes ++ tail) 0 (bytes ++ tail) (row ++ replicate 32 48)
few_begun bytes row tail zeros = none_encoded false (bytes ++ tail) (row ++ replicate 32 48) (ap (λ r. r ++ replicate 32 48) zeros)

module _ (bytes tail row : List ℕ) (pairs tens ones : ℕ) (so_far : Encodes false (bytes ++ tail) (2 * pairs) (drop pairs bytes ++ tail) (row ++ replicate 32 48)) (within : pairs < length bytes) (few : pairs < 8) (size : length row ≡ 16) where
  abbrev byte : ℕ
  byte = get_or bytes pairs 0

  abbrev pub others : List ℕ
  others = drop (pairs + 1) bytes ++ tail

  abbrev pub new : List ℕ
  new = set (set row (2 * pairs) tens) (2 * pairs + 1) ones

  first : drop pairs bytes ++ tail ≡ byte ∷ others
  first =
      let one : suc pairs ≡ pairs + 1 = omega arith in
      ap (λ xs. xs ++ tail) (drop-cons bytes pairs 0 within) ∙ ap (λ i. byte ∷ (drop i bytes ++ tail)) one

  same_row : new ++ replicate 32 48 ≡ set (set (row ++ replicate 32 48) (2 * pairs) tens) (2 * pairs + 1) ones
  same_row =
      let long : length (set row (2 * pairs) tens) ≡ 16 = length-set row (2 * pairs) tens ∙ size in
      sym (ap (λ r. set r (2 * pairs + 1) ones) (set-append_left row (replicate 32 48) (2 * pairs) tens (omega (arith, size, few)))
      ∙ set-append_left (set row (2 * pairs) tens) (replicate 32 48) (2 * pairs + 1) ones (omega (arith, long, few)))

  last_digit : get_or new (2 * (pairs + 1) - 1) 0 ≡ ones
  last_digit =
      let long : length (set row (2 * pairs) tens) ≡ 16 = length-set row (2 * pairs) tens ∙ size in
      let index : 2 * (pairs + 1) - 1 ≡ 2 * pairs + 1 = omega arith in
      ap (λ i. get_or new i 0) index ∙ get_or-set_same (set row (2 * pairs) tens) (2 * pairs + 1) ones 0 (omega (arith, long, few))

  module _ (C M : ℕ) (below : M < 10 ^ C) (some : 0 < M) (most : C ≤ 39) (more : List ℕ) (e : bytes ++ tail ≡ map (invert_if false) (digits_key C M) ++ more) (are : byte / 2 < 100 → (tens ≡ 48 + byte / 2 / 10) × (ones ≡ 48 + byte / 2 % 10)) where
    small : (2 * pairs ≤ 38) × (byte / 2 < 100)
    small = pair_small false (bytes ++ tail) (2 * pairs) (drop pairs bytes ++ tail) (row ++ replicate 32 48) byte others byte so_far first refl C M below some most more e

    pub few_ended : byte % 2 ≡ 0 → HasPairs C M (pairs + 1) new × (others ≡ more)
    few_ended even =
        let digits = are small.1 in
        let ended : others ≡ more = elim (cases_eq (byte / 2 % 10) 0) [
          | inl z ↦ (one_encoded false (bytes ++ tail) (2 * pairs) (drop pairs bytes ++ tail) (row ++ replicate 32 48) byte others byte so_far first refl C M below some most more e (new ++ replicate 32 48) tens ones even z digits.0 digits.1 same_row).1
          | inr n ↦ (two_encoded false (bytes ++ tail) (2 * pairs) (drop pairs bytes ++ tail) (row ++ replicate 32 48) byte others byte so_far first refl C M below some most more e (new ++ replicate 32 48) tens ones even n digits.0 digits.1 same_row).1
        ] in
        let two_more : 2 * pairs + 2 ≡ 2 * (pairs + 1) = omega arith in
        let one_more : 2 * pairs + 1 ≡ 2 * (pairs + 1) - 1 = omega arith in (
          record {
            two = λ n. subst (λ k. IsEncoded C M k (new ++ replicate 32 48)) two_more
                (two_encoded false (bytes ++ tail) (2 * pairs) (drop pairs bytes ++ tail) (row ++ replicate 32 48) byte others byte so_far first refl C M below some most more e (new ++ replicate 32 48) tens ones even (λ z. n (last_digit ∙ omega (arith, digits.1, z))) digits.0 digits.1 same_row).0;
            one = λ z. subst (λ k. IsEncoded C M k (new ++ replicate 32 48)) one_more
                (one_encoded false (bytes ++ tail) (2 * pairs) (drop pairs bytes ++ tail) (row ++ replicate 32 48) byte others byte so_far first refl C M below some most more e (new ++ replicate 32 48) tens ones even (omega (arith, digits.1, sym last_digit ∙ z)) digits.0 digits.1 same_row).0;
          },
          ended,
        )

    pub few_left : byte % 2 ≢ 0 → EncodedLeft false C M (2 * (pairs + 1)) others more (new ++ replicate 32 48)
    few_left odd =
        let digits = are small.1 in
        let two_more : 2 * pairs + 2 ≡ 2 * (pairs + 1) = omega arith in
        subst (λ k. EncodedLeft false C M k others more (new ++ replicate 32 48)) two_more
        (pair_encoded false (bytes ++ tail) (2 * pairs) (drop pairs bytes ++ tail) (row ++ replicate 32 48) byte others byte so_far first refl C M below some most more e (new ++ replicate 32 48) tens ones odd digits.0 digits.1 same_row)

-- the digits of an integer, where none are left for behind its point
pub record WholeRead (C M front : ℕ) (row : List ℕ) : Type 0 where
  pub read : ℕ
  pub encoded : IsEncoded C M read (row ++ replicate 32 48)
  pub whole : read ≤ front
  pub text : take front row ≡ take front (row ++ replicate 32 48)

pub whole_read : (C M pairs front : ℕ) (row : List ℕ) → HasPairs C M pairs row → 0 < pairs → 2 * pairs ≤ front + 1 → (front + 1 ≡ 2 * pairs → get_or row front 0 ≡ 48) → front ≤ 16 → length row ≡ 16 → WholeRead C M front row
whole_read C M pairs front row h some most last few size =
    let text : take front row ≡ take front (row ++ replicate 32 48) = sym (take-append-le front row (replicate 32 48) (omega (arith, size, few))) in
    elim (cases_eq (get_or row (2 * pairs - 1) 0) 48) [
      | inl z ↦ record { read = 2 * pairs - 1; encoded = h.one z; whole = omega (arith, most, some); text = text }
      | inr n ↦ record { read = 2 * pairs; encoded = h.two n; whole = whole n; text = text }
    ]
  where
    whole : get_or row (2 * pairs - 1) 0 ≢ 48 → 2 * pairs ≤ front
    whole n = elim (cases_lt front (2 * pairs)) [
      | inl less ↦
          let all : front + 1 ≡ 2 * pairs = omega (arith, most, less) in
          let index : 2 * pairs - 1 ≡ front = omega (arith, all) in
          absurd (n (ap (λ i. get_or row i 0) index ∙ last all))
      | inr there ↦ there
    ]

-- the digits of a number, some of which are behind its point
pub pointed_taken : (front pairs taken : ℕ) (bytes tail row old new : List ℕ) (C M : ℕ) (more : List ℕ) → HasPairs C M pairs row × (drop pairs bytes ++ tail ≡ more) → (taken ≡ pairs) × AppendsPairs front pairs row old new → 0 < front → (front + 1 < 2 * pairs) ⊎ ((front + 1 ≡ 2 * pairs) × (get_or row front 0 ≢ 48)) → pairs ≤ 8 → length row ≡ 16 → length bytes ≡ 8
    → TakesNumberOf C M front (bytes ++ tail) taken more old new
pointed_taken front pairs taken bytes tail row old new C M more (h, ended) (all, a) some behind few size long =
    elim (cases_eq (get_or row (2 * pairs - 1) 0) 48) [
      | inl z ↦ record { read = 2 * pairs - 1; row = row ++ replicate 32 48; encoded = h.one z; left = left; appended = a.one z ∙ ap (λ t. old ++ t) (sym (text (2 * pairs - 1) (one z) (omega (arith, few)))) }
      | inr n ↦ record { read = 2 * pairs; row = row ++ replicate 32 48; encoded = h.two n; left = left; appended = a.two n ∙ ap (λ t. old ++ t) (sym (text (2 * pairs) two (omega (arith, few)))) }
    ]
  where
    left : drop taken (bytes ++ tail) ≡ more
    left = ap (λ k. drop k (bytes ++ tail)) all ∙ drop-append-le pairs bytes tail (omega (arith, few, long)) ∙ ended

    one : get_or row (2 * pairs - 1) 0 ≡ 48 → front < 2 * pairs - 1
    one z = elim behind [
      | inl more ↦ omega (arith, more)
      | inr last ↦ absurd (last.1 (ap (λ i. get_or row i 0) {x = front} {y = 2 * pairs - 1} (omega (arith, last.0)) ∙ z))
    ]

    two : front < 2 * pairs
    two = elim behind [
      | inl more ↦ omega (arith, more)
      | inr last ↦ omega (arith, last.0)
    ]

    text : (read : ℕ) → front < read → read ≤ 16 → scaled_text (255 + front) read (row ++ replicate 32 48) ≡ take front row ++ 46 ∷ slice_range row front read
    text read inside within =
        pointed_scaled front read (row ++ replicate 32 48) some inside
        ∙ ap₂ (λ xs ys. xs ++ 46 ∷ ys) (take-append-le front row (replicate 32 48) (omega (arith, size, inside, within)))
        (ap (take (read - front)) (drop-append-le front row (replicate 32 48) (omega (arith, size, inside, within))) ∙ take-append-le (read - front) (drop front row) (replicate 32 48) (omega (arith, length-drop front row, size, inside, within)))
