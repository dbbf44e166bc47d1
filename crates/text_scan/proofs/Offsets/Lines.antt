-- The line feeds that a search finds, and the last of them, as counts over the whole list.
use Rattle.std.proofs.Common.{◌≡◌, ◌+◌, ◌-◌, ◌≤◌, ◌<◌, ℕ, zero, suc, Bool, true, false, cond, not, List, ◌∷◌, length, take, get_or, if◌then◌else◌, arith, refl, sym, ap, ◌∙◌, ⊎_elim}
use Rattle.std.proofs.Math.Seq.{take-length}
use Rattle.std.proofs.lemmas.Bool.{cases_Bool}
use Rattle.std.proofs.lemmas.List.Sums.{count_by_more_yes, count_by_more_no, suffix_len_is}
use Rattle.std.specs.List.{count_by, suffix_len}
use Rattle.memchr.specs.Find.{Nowhere, NoneAfter, Passes, places, places_from}

joined : (all here later front_later front whole : ℕ) → all ≡ here + later → later + front_later ≡ whole → front_later ≡ front + here → all + front ≡ whole
joined all here later front_later front whole e f g = omega (arith, e, f, g)

length-chosen : (b : Bool) (i : ℕ) (later : List ℕ) → length (if b then i ∷ later else later) ≡ cond b 1 0 + length later
length-chosen true i later = omega arith
length-chosen false i later = omega arith

module _ (test : ℕ → Bool) (hay : List ℕ) where
  one_more : (i : ℕ) → i < length hay → count_by test (take (i + 1) hay) ≡ count_by test (take i hay) + cond (test (get_or hay i 0)) 1 0
  one_more i within =
      ⊎_elim
      (λ yes. count_by_more_yes test hay i 0 within yes ∙ ap (λ b. count_by test (take i hay) + cond b 1 0) (sym yes))
      (λ no. count_by_more_no test hay i 0 within no ∙ plus_zero (count_by test (take i hay)) ∙ ap (λ b. count_by test (take i hay) + cond b 1 0) (sym no))
      (cases_Bool (test (get_or hay i 0)))
    where
      plus_zero : (n : ℕ) → n ≡ n + 0
      plus_zero n = omega arith

  counted : (n i : ℕ) → i + n ≤ length hay → length (places_from test hay i n) + count_by test (take i hay) ≡ count_by test (take (i + n) hay)
  unfolding places_from
  counted zero i within =
      let same : i ≡ i + 0 = omega arith in
      let alone : 0 + count_by test (take i hay) ≡ count_by test (take i hay) = omega arith in
      alone ∙ ap (λ k. count_by test (take k hay)) same
  counted (suc n) i within =
      let same : i + 1 + n ≡ i + suc n = omega arith in
      joined _ _ (length (places_from test hay (i + 1) n)) (count_by test (take (i + 1) hay)) (count_by test (take i hay)) _
      (length-chosen (test (get_or hay i 0)) i (places_from test hay (i + 1) n))
      (counted n (i + 1) (omega (arith, within)) ∙ ap (λ k. count_by test (take k hay)) same)
      (one_more i (omega (arith, within)))

  -- a search finds as many offsets as there are bytes that pass the test
  pub length-offsets : length (places test hay) ≡ count_by test hay
  length-offsets =
      let all : length hay - 0 ≡ length hay = omega arith in
      let none : length (places_from test hay 0 (length hay)) ≡ length (places_from test hay 0 (length hay)) + 0 = omega arith in
      let whole : 0 + length hay ≡ length hay = omega arith in
      ap (λ n. length (places_from test hay 0 n)) all
      ∙ none
      ∙ counted (length hay) 0 (omega arith)
      ∙ ap (λ k. count_by test (take k hay)) whole
      ∙ ap (count_by test) (take-length hay)

  fails : (b : Bool) → (b ≡ true → ⊥) → not b ≡ true
  fails true h = absurd (h refl)
  fails false h = refl

  -- where no byte passes, all bytes are behind the last one that does
  pub behind_none : Nowhere (Passes test hay) 0 (length hay) → suffix_len (λ b. not (test b)) hay ≡ length hay
  behind_none h =
      let all : length hay - 0 ≡ length hay = omega arith in
      suffix_len_is (λ b. not (test b)) hay 0 0 (omega arith) (λ k low high. fails (test (get_or hay k 0)) (h k low high)) (λ below. absurd (omega (arith, below)))
      ∙ all

  -- what is behind the last offset whose byte passes
  pub behind_last : (k : ℕ) → NoneAfter (Passes test hay) 0 (length hay) k → Passes test hay k → suffix_len (λ b. not (test b)) hay ≡ length hay - (k + 1)
  behind_last k h passes =
      let high = h.high in
      let back : k + 1 - 1 ≡ k = omega arith in
      suffix_len_is (λ b. not (test b)) hay (k + 1) 0 (omega (arith, high)) (λ j low below. fails (test (get_or hay j 0)) (h.after j low below))
      (λ _. ap (λ i. not (test (get_or hay i 0))) back ∙ ap not passes)
