-- Where a run of bytes that meet a condition ends, by offset. No byte past the end passes.
use Rattle.std.proofs.Common.{◌≡◌, ℕ, ◌+◌, ◌-◌, ◌<◌, ◌≤◌, Bool, true, false, true≢false, zero, suc, List, [], ◌∷◌, length, get_or, drop, sym, ap, ◌∙◌, ⊎_elim, arith, get_or-drop}
use Rattle.std.specs.Prelude.{slice_index}
use Rattle.std.specs.List.{prefix_len}
use Rattle.std.proofs.lemmas.Bool.{cases_lt}
use Rattle.std.proofs.lemmas.List.{length-drop, get_or_past}
use Rattle.std.proofs.lemmas.List.Sums.{prefix_len-drop_all, prefix_len-drop_no, prefix_len-drop_yes, prefix_len-le-length, prefix_len_passes, prefix_len_stops}

module _ (p : ℕ → Bool) (past : p 0 ≡ false) where
  pub run_inside : (bs : List ℕ) (i : ℕ) → p (slice_index bs i) ≡ true → i < length bs
  run_inside [] zero h = absurd (true≢false (sym h ∙ past))
  run_inside [] (suc i) h = absurd (true≢false (sym h ∙ past))
  run_inside (b ∷ bs) zero h = omega arith
  run_inside (b ∷ bs) (suc i) h = omega (arith, run_inside bs i h)

  pub run_more : (bs : List ℕ) (i : ℕ) → p (slice_index bs i) ≡ true → prefix_len p (drop i bs) ≡ suc (prefix_len p (drop (suc i) bs))
  run_more bs i h =
      let on : suc i ≡ i + 1 = omega arith in
      omega (arith, prefix_len-drop_yes p bs i 0 (run_inside bs i h) h, ap (λ j. prefix_len p (drop j bs)) on)

  pub run_stop : (bs : List ℕ) (i : ℕ) → p (slice_index bs i) ≡ false → prefix_len p (drop i bs) ≡ 0
  run_stop bs i h = ⊎_elim (λ inside. prefix_len-drop_no p bs i 0 inside h) (λ beyond. prefix_len-drop_all p bs i beyond) (cases_lt i (length bs))

  pub run_within : (bs : List ℕ) (start : ℕ) → start ≤ length bs → start + prefix_len p (drop start bs) ≤ length bs
  run_within bs start h = omega (arith, prefix_len-le-length p (drop start bs), length-drop start bs)

  pub run_passes : (bs : List ℕ) (start k : ℕ) → start ≤ k → k < start + prefix_len p (drop start bs) → p (slice_index bs k) ≡ true
  run_passes bs start k low high =
      let offset : start + (k - start) ≡ k = omega arith in
      ap (λ j. p (get_or bs j 0)) (sym offset) ∙ ap p (sym (get_or-drop start bs (k - start) 0)) ∙ prefix_len_passes p (drop start bs) (k - start) 0 (omega arith)

  pub run_ends : (bs : List ℕ) (start : ℕ) → p (slice_index bs (start + prefix_len p (drop start bs))) ≡ false
  run_ends bs start =
      let n = prefix_len p (drop start bs) in
      ap p (sym (get_or-drop start bs n 0))
      ∙ ⊎_elim (λ inside. prefix_len_stops p (drop start bs) 0 inside) (λ beyond. ap p (get_or_past (drop start bs) n 0 beyond) ∙ past) (cases_lt n (length (drop start bs)))
