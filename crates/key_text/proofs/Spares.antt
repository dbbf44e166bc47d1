-- The zeros at the end of a number's digits behind the point.
use Rattle.std.proofs.Common.{◌≡◌, ◌≢◌, ℕ, zero, suc, ◌+◌, ◌-◌, ◌*◌, ◌/◌, ◌%◌, ◌^◌, ◌≤◌, ◌⊎◌, inl, inr, ℤ, pos, negsuc, FitsSigned, unsigned_abs, refl, sym, ap, ap₂, subst, ◌∙◌, arith, eq-eqb, ◌==◌}
use Rattle.std.proofs.Math.Nat.{pow-suc, pow-zero, div-div-eq-div-mul, div-mul-le_self}
use Rattle.std.proofs.lemmas.Bool.{cond-true, cond-false, ne_eqb, cases_eq}
use Rattle.std.proofs.lemmas.Nat.{pow-add}
use Rattle.std.specs.Int.{Width, w64, w128, is_negative, FitsUnsignedBits}
use Rattle.jsonb_spec.specs.Number.Signed.{signed_by}
use Rattle.jsonb_spec.specs.Proper.{IsProperNumber, FitsScale, FitsWhole}
use Rattle.jsonb_spec.specs.SortKey.{number_key}
use Rattle.jsonb_spec.specs.Tree.{Form, int64, uint64, decimal64, decimal128, Num}
use Rattle.jsonb_core.proofs.Numbers.Nearest.{unsigned_abs-signed}
use Rattle.jsonb_core.proofs.Numbers.Pointed.{is_negative-pos}
use Rattle.jsonb_spec.specs.SortKey.Readable.{HasFewestDigits}
use Rattle.key_value.proofs.Signs.{same_keys}
use Rattle.key_value.proofs.Wholes.{same_number}
use Rattle.jsonb_spec.specs.Document.Counts.{count_of}
use Rattle.jsonb_spec.specs.SortKey.FewestDigits.{spare_zeros, fewest_digits}

one_spare : (scale m : ℕ) → m % 10 ≡ 0 → spare_zeros (suc scale) m ≡ suc (spare_zeros scale (m / 10))
unfolding spare_zeros
one_spare scale m h = cond-true (m % 10 == 0) _ _ (eq-eqb (m % 10) 0 h)

none_spare : (scale m : ℕ) → m % 10 ≢ 0 → spare_zeros (suc scale) m ≡ 0
unfolding spare_zeros
none_spare scale m h = cond-false (m % 10 == 0) _ _ (ne_eqb (m % 10) 0 h)

no_scale : (m : ℕ) → spare_zeros 0 m ≡ 0
unfolding spare_zeros
no_scale m = refl

-- all digits behind the point are run
pub all_spare : (scale run n : ℕ) → scale ≤ run → spare_zeros scale (n * 10 ^ run) ≡ scale
all_spare zero run n h = no_scale (n * 10 ^ run)
all_spare (suc scale) zero n h = absurd (omega (arith, h))
all_spare (suc scale) (suc run) n h =
    let m = n * 10 ^ run in
    let more : n * 10 ^ suc run ≡ m * 10 = omega (arith, ap (λ x. n * x) (pow-suc 10 run)) in
    let front : m * 10 / 10 ≡ m = omega arith in
    ap (spare_zeros (suc scale)) more ∙ one_spare scale (m * 10) (omega arith) ∙ ap (λ k. suc (spare_zeros scale k)) front ∙ ap suc (all_spare scale run n (omega (arith, h)))

-- as many are as there are at the end of the number
pub some_spare : (scale run n : ℕ) → n % 10 ≢ 0 → run ≤ scale → spare_zeros scale (n * 10 ^ run) ≡ run
some_spare zero zero n last h = no_scale (n * 10 ^ 0)
some_spare zero (suc run) n last h = absurd (omega (arith, h))
some_spare (suc scale) zero n last h =
    let same : n * 10 ^ 0 ≡ n = omega (arith, pow-zero 10) in
    ap (spare_zeros (suc scale)) same ∙ none_spare scale n last
some_spare (suc scale) (suc run) n last h =
    let m = n * 10 ^ run in
    let more : n * 10 ^ suc run ≡ m * 10 = omega (arith, ap (λ x. n * x) (pow-suc 10 run)) in
    let front : m * 10 / 10 ≡ m = omega arith in
    ap (spare_zeros (suc scale)) more ∙ one_spare scale (m * 10) (omega arith) ∙ ap (λ k. suc (spare_zeros scale k)) front ∙ ap suc (some_spare scale run n last (omega (arith, h)))

-- the zeros are there, and no more of them
pub record AreSpare (scale m run : ℕ) : Type 0 where
  pub within : run ≤ scale
  pub whole : m / 10 ^ run * 10 ^ run ≡ m
  pub fewest : (run ≡ scale) ⊎ (m / 10 ^ run % 10 ≢ 0)

nothing_divided : (m : ℕ) → m / 10 ^ 0 ≡ m
nothing_divided m = ap (λ x. m / x) (pow-zero 10) ∙ omega arith

pub are_spare : (scale m : ℕ) → AreSpare scale m (spare_zeros scale m)
are_spare zero m =
    subst (AreSpare 0 m) (sym (no_scale m)) (record { within = omega arith; whole = omega (arith, ap (λ x. x * 10 ^ 0) (nothing_divided m), ap (λ x. m * x) (pow-zero 10)); fewest = inl refl })
are_spare (suc scale) m = elim (cases_eq (m % 10) 0) [
  | inl last ↦
      let x = are_spare scale (m / 10) in
      let z = spare_zeros scale (m / 10) in
      let Z = 10 ^ z in
      let power : 10 ^ suc z ≡ 10 * Z = omega (arith, pow-suc 10 z) in
      let divided : m / 10 ^ suc z ≡ m / 10 / Z = ap (λ k. m / k) power ∙ sym (div-div-eq-div-mul m 10 Z) in
      subst (AreSpare (suc scale) m) (sym (one_spare scale m last)) (record {
        within = omega (arith, x.within);
        whole = omega (arith, ap₂ (λ a b. a * b) divided power, ap (λ k. k * 10) x.whole, last);
        fewest = elim x.fewest [
          | inl all ↦ inl (ap suc all)
          | inr other ↦ inr (λ e. other (ap (λ k. k % 10) (sym divided) ∙ e))
        ];
      })
  | inr last ↦
      subst (AreSpare (suc scale) m) (sym (none_spare scale m last))
      (record { within = omega arith; whole = omega (arith, ap (λ x. x * 10 ^ 0) (nothing_divided m), ap (λ x. m * x) (pow-zero 10)); fewest = inr (λ e. last (ap (λ k. k % 10) (sym (nothing_divided m)) ∙ e)) })
]

-- ---- the number without them

smaller_signed : (w : Width) (z : ℤ) (q : ℕ) → q ≤ unsigned_abs z → FitsSigned w z → FitsSigned w (signed_by (is_negative z) q)
smaller_signed w (pos n) q h fits = subst (λ b. FitsSigned w (signed_by b q)) (sym (is_negative-pos n)) (record { sfits = omega (arith, h, fits.sfits) })
smaller_signed w (negsuc n) zero h fits = record { sfits = omega (arith, fits.sfits) }
smaller_signed w (negsuc n) (suc q) h fits = record { sfits = omega (arith, h, fits.sfits) }

smaller_unsigned : (z : ℤ) (q : ℕ) → q ≤ unsigned_abs z → FitsUnsignedBits 64 z → FitsUnsignedBits 64 (signed_by (is_negative z) q)
smaller_unsigned (pos n) q h fits = subst (λ b. FitsUnsignedBits 64 (signed_by b q)) (sym (is_negative-pos n)) (omega (arith, h, fits))
smaller_unsigned (negsuc n) q h fits = absurd fits

smaller : (form : Form) (scale less : ℕ) (z : ℤ) (q : ℕ) → q ≤ unsigned_abs z → FitsScale form scale × FitsWhole form z → FitsScale form (scale - less) × FitsWhole form (signed_by (is_negative z) q)
smaller int64 scale less z q h p = (omega (arith, p.0), smaller_signed w64 z q h p.1)
smaller uint64 scale less z q h p = (omega (arith, p.0), smaller_unsigned z q h p.1)
smaller decimal64 scale less z q h p = (omega (arith, p.0), smaller_signed w64 z q h p.1)
smaller decimal128 scale less z q h p = (omega (arith, p.0), smaller_signed w128 z q h p.1)

pub divided_less : (m d : ℕ) → m / d ≤ m
divided_less m zero = omega arith
divided_less m (suc d) = elim (cases_eq (m / suc d) 0) [
  | inl none ↦ omega (arith, none)
  | inr some ↦ omega (arith, div-mul-le_self m (suc d))
]

pub fewest_proper : (n : Num) → IsProperNumber n → IsProperNumber (fewest_digits n)
fewest_proper n p =
    let z = spare_zeros n.scale (unsigned_abs n.whole) in
    smaller n.form n.scale z n.whole (unsigned_abs n.whole / 10 ^ z) (divided_less (unsigned_abs n.whole) (10 ^ z)) p

pub fewest_key : (n : Num) → IsProperNumber n → number_key (fewest_digits n) ≡ number_key n
fewest_key n p =
    let m = unsigned_abs n.whole in
    let z = spare_zeros n.scale m in
    let x = are_spare n.scale m in
    let Z = 10 ^ z in
    let A = 10 ^ (n.scale - z) in
    let split : n.scale ≡ (n.scale - z) + z = omega (arith, x.within) in
    let power : 10 ^ n.scale ≡ A * Z = ap (λ k. 10 ^ k) split ∙ pow-add 10 (n.scale - z) z in
    let same : m / Z * 10 ^ n.scale ≡ m * A = omega (arith, ap (λ k. m / Z * k) power, ap (λ k. k * A) x.whole) in
    same_keys (fewest_digits n) n (fewest_proper n p) p (same_number (fewest_digits n) n (is_negative n.whole) (n.scale - z) (m / Z) refl refl refl same)

pub fewest_has : (n : Num) → HasFewestDigits (fewest_digits n)
fewest_has n =
    let m = unsigned_abs n.whole in
    let z = spare_zeros n.scale m in
    let x = are_spare n.scale m in
    elim x.fewest [
      | inl all ↦ inl (omega (arith, all))
      | inr other ↦ inr (λ e. other (ap (λ k. k % 10) (sym (unsigned_abs-signed (is_negative n.whole) (m / 10 ^ z))) ∙ e))
    ]

-- ---- a number with no zeros to spare

pub none_to_spare : (n : Num) → HasFewestDigits n → count_of n ≡ 0
none_to_spare n (inl whole) = ap (λ scale. spare_zeros scale (unsigned_abs n.whole)) whole ∙ no_scale (unsigned_abs n.whole)
none_to_spare n (inr other) = by_scale n.scale (unsigned_abs n.whole) other
  where
    by_scale : (scale m : ℕ) → m % 10 ≢ 0 → spare_zeros scale m ≡ 0
    by_scale zero m last = no_scale m
    by_scale (suc scale) m last = none_spare scale m last
