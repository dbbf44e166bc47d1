-- The text of a number that isn't below 1, from the digits of its key.
use Rattle.std.proofs.Common.{◌≡◌, ◌≢◌, ℕ, zero, suc, ◌+◌, ◌-◌, ◌/◌, ◌%◌, ◌^◌, ◌<◌, ◌≤◌, inl, inr, false, List, ◌∷◌, ◌++◌, map, set, drop, replicate, unsigned_abs, refl, sym, ap, ◌∙◌, arith, ◌==◌}
use Rattle.std.proofs.lemmas.Bool.{cond-false, ne_eqb, le-ltb, cases_eq}
use Rattle.std.specs.Bool.{nat_lt}
use Rattle.std.specs.Fmt.{sign_text}
use Rattle.jsonb_spec.specs.Proper.{IsProperNumber}
use Rattle.jsonb_spec.specs.SortKey.{number_key, digits_key, invert_if}
use Rattle.jsonb_spec.specs.Text.NumberText.{number_text}
use Rattle.jsonb_spec.specs.Tree.{Num}
use Rattle.jsonb_spec.specs.SortKey.Reading.{exponent_of, read_as}
use Rattle.jsonb_spec.specs.SortKey.FewestDigits.{fewest_digits}
use Rattle.key_text.specs.Writes.{AppendsPair, TakesNumber, TakesNumberOf, scaled_text}
use Rattle.key_text.proofs.Encoding.{Encodes, none_encoded, pair_small, two_encoded, one_encoded}
use Rattle.key_text.proofs.KeyNumbers.{signed, is_exponent_key}
use Rattle.key_text.proofs.NumberTexts.{number_is, pointed_scaled, whole_scaled}

exponent_there : (first : ℕ) (digits : List ℕ) → 160 < first → exponent_of false (first ∷ digits) ≡ read_as (first + 95) digits
exponent_there first digits h =
    cond-false (first == 129) _ _ (ne_eqb first 129 (λ e. absurd (omega (arith, h, e))))
    ∙ cond-false (nat_lt first 130) _ _ (le-ltb first 130 (omega (arith, h)))

-- the text that is appended
pub number_taken : (n : Num) → IsProperNumber n → (first front : ℕ) (digits more : List ℕ) → first ∷ digits ≡ number_key n ++ more → 160 < first → front ≡ first - 160 → (taken : ℕ) (old new : List ℕ) → 0 < taken → TakesNumber front digits taken old new
    → (drop taken digits ≡ more) × (new ≡ old ++ number_text (fewest_digits n))
number_taken n proper first front digits more e h is taken old new some takes =
    let other : first ≢ 128 = λ z. omega (arith, h, z) in
    let s = signed n proper first digits (first ∷ digits) more refl other e in
    let positive : nat_lt first 128 ≡ false = le-ltb first 128 (omega (arith, h)) in
    let at = is_exponent_key n proper first digits (first ∷ digits) more refl other e (first + 95) digits (sym (ap (λ b. exponent_of b (first ∷ digits)) positive ∙ exponent_there first digits h)) in
    let t = takes some s.count (unsigned_abs n.whole) s.below s.some s.few more (at.1 ∙ ap (λ b. map (invert_if b) (digits_key s.count (unsigned_abs n.whole)) ++ more) positive) in
    let text = number_is n (nat_lt first 128) (first ∷ digits) more s t.read t.row t.encoded
    ∙ ap (λ b. sign_text b ++ scaled_text s.exponent t.read t.row) positive
    ∙ ap (λ k. scaled_text k t.read t.row) {x = s.exponent} {y = 255 + front} (omega (arith, at.0, is, h)) in
    (t.left, t.appended ∙ ap (λ ds. old ++ ds) (sym text))

-- a number of one pair of digits
pub pair_taken : (front byte : ℕ) (others old new : List ℕ) → byte % 2 ≡ 0 → 0 < front → front ≤ 2 → (byte / 2 < 100 → AppendsPair front (byte / 2) old new) → TakesNumber front (byte ∷ others) 1 old new
pair_taken front byte others old new even some few appends = λ _ C M below positive most more e. by_front front some few appends C M below positive most more e
  where
    row : List ℕ
    row = replicate 48 48

    both : List ℕ
    both = set (set row 0 (48 + byte / 2 / 10)) (0 + 1) (48 + byte / 2 % 10)

    so_far : Encodes false (byte ∷ others) 0 (byte ∷ others) row
    so_far = none_encoded false (byte ∷ others) row refl

    by_front : (front : ℕ) → 0 < front → front ≤ 2 → (byte / 2 < 100 → AppendsPair front (byte / 2) old new) → (C M : ℕ) → M < 10 ^ C → 0 < M → C ≤ 39 → (more : List ℕ) → byte ∷ others ≡ map (invert_if false) (digits_key C M) ++ more → TakesNumberOf C M front (byte ∷ others) 1 more old new
    by_front zero s f a C M below positive most more e = absurd (omega (arith, s))
    by_front (suc zero) s f a C M below positive most more e =
        let small = pair_small false (byte ∷ others) 0 (byte ∷ others) row byte others byte so_far refl refl C M below positive most more e in
        elim (cases_eq (byte / 2 % 10) 0) [
          | inl z ↦
              let r = one_encoded false (byte ∷ others) 0 (byte ∷ others) row byte others byte so_far refl refl C M below positive most more e both (48 + byte / 2 / 10) (48 + byte / 2 % 10) even z refl refl refl in
              record { read = 1; row = both; encoded = r.0; left = r.1; appended = (a small.1).one refl z ∙ ap (λ t. old ++ t) (sym (whole_scaled 1 1 both (omega arith) (omega arith))) }
          | inr k ↦
              let r = two_encoded false (byte ∷ others) 0 (byte ∷ others) row byte others byte so_far refl refl C M below positive most more e both (48 + byte / 2 / 10) (48 + byte / 2 % 10) even k refl refl refl in
              record { read = 2; row = both; encoded = r.0; left = r.1; appended = (a small.1).pointed refl k ∙ ap (λ t. old ++ t) (sym (pointed_scaled 1 2 both (omega arith) (omega arith))) }
        ]
    by_front (suc (suc zero)) s f a C M below positive most more e =
        let small = pair_small false (byte ∷ others) 0 (byte ∷ others) row byte others byte so_far refl refl C M below positive most more e in
        let x = (a small.1).two refl in
        elim (cases_eq (byte / 2 % 10) 0) [
          | inl z ↦
              let r = one_encoded false (byte ∷ others) 0 (byte ∷ others) row byte others byte so_far refl refl C M below positive most more e both (48 + byte / 2 / 10) (48 + byte / 2 % 10) even z refl refl refl in
              record { read = 1; row = both; encoded = r.0; left = r.1; appended = x ∙ ap (λ t. old ++ t) (sym (whole_scaled 2 1 both (omega arith) (omega arith))) }
          | inr k ↦
              let r = two_encoded false (byte ∷ others) 0 (byte ∷ others) row byte others byte so_far refl refl C M below positive most more e both (48 + byte / 2 / 10) (48 + byte / 2 % 10) even k refl refl refl in
              record { read = 2; row = both; encoded = r.0; left = r.1; appended = x ∙ ap (λ t. old ++ t) (sym (whole_scaled 2 2 both (omega arith) (omega arith))) }
        ]
    by_front (suc (suc (suc k))) s f a C M below positive most more e = absurd (omega (arith, f))
