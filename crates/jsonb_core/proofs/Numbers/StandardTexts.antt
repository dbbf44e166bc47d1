-- The text of a number in range is a number text of RFC 8259.
use Rattle.std.proofs.Common.{◌≡◌, inl, inr, ⊎_elim, ℕ, ◌+◌, ◌-◌, ◌%◌, ◌^◌, ◌<◌, ◌≤◌, List, [], ◌∷◌, ◌++◌, length, get_or, take, drop, refl, sym, subst, ap, ◌∙◌, arith}
use Rattle.std.specs.Prelude.{replicate, slice_index, unsigned_abs}
use Rattle.std.specs.Fmt.{decimal, sign_text}
use Rattle.std.specs.Int.{is_negative}
use Rattle.std.proofs.lemmas.Bool.{cases_lt, cases_eq}
use Rattle.std.proofs.lemmas.List.{append-nil, length-take-le, length-drop, length-append, length-replicate, get_or-take, get_or_append_left}
use Rattle.std.proofs.lemmas.Fmt.{decimal_is_IsNumeral_wide, decimal_digit, decimal_by_steps_wide}
use Rattle.jsonb_spec.specs.Grammar.StandardNumber.{IsFraction, IsStandardText, IsWhole}
use Rattle.jsonb_spec.specs.Text.NumberText.{number_text, text_of_parts, with_point, zero_padded}
use Rattle.jsonb_spec.specs.Text.Range.{HasFewDigits}
use Rattle.jsonb_spec.specs.Tree.{Num}
use Rattle.jsonb_core.proofs.Numbers.DecimalTexts.{digits-take, digits-drop, digits-after_zeros}
use Rattle.jsonb_core.proofs.Numbers.Pointed.{pointed_whole, pointed_inside, pointed_before}

-- the digits of a number above 0 begin with no zero
first_digit : (n : ℕ) → n < 10 ^ 64 → (0 < length (decimal n)) × (0 < n → 48 < get_or (decimal n) 0 0)
first_digit n small =
    decimal_by_steps_wide (λ m bs. (0 < length bs) × (0 < m → 48 < get_or bs 0 0))
    (λ m digit. (omega arith, λ some. omega arith))
    (λ m bs large h. (omega (arith, length-append bs ((48 + m % 10) ∷ []), h.0), λ some. subst (λ x. 48 < x) (sym (get_or_append_left bs ((48 + m % 10) ∷ []) 0 0 h.0)) (h.1 (omega arith))))
    n small

-- digits, and a point with digits or none
record IsPointed (body : List ℕ) : Type 0 where
  whole : List ℕ
  fraction : List ℕ
  joined : body ≡ whole ++ fraction
  is_whole : IsWhole whole
  is_fraction : IsFraction fraction

whole_digits : (m : ℕ) → m < 10 ^ 38 → IsWhole (decimal m)
whole_digits m small = record {
  digits = (decimal_is_IsNumeral_wide m (omega arith)).0;
  no_needless_zero = λ zero_byte.
      ⊎_elim (λ none. ap length (ap decimal none ∙ decimal_digit 0 (omega arith)))
      (λ some. absurd (omega (arith, (first_digit m (omega arith)).1 (omega arith), zero_byte))) (cases_eq m 0);
}

pointed_alone : (m : ℕ) → m < 10 ^ 38 → IsPointed (with_point 0 (zero_padded 1 (decimal m)))
pointed_alone m small = record {
  whole = decimal m;
  fraction = [];
  joined = pointed_whole (decimal m) (first_digit m (omega arith)).0 ∙ sym (append-nil (decimal m));
  is_whole = whole_digits m small;
  is_fraction = inl refl;
}

inside : (scale m : ℕ) → 0 < scale → 0 < m → m < 10 ^ 38 → scale < length (decimal m) → IsPointed (with_point scale (zero_padded (scale + 1) (decimal m)))
inside scale m point some small within =
    let first = first_digit m (omega arith) in
    let numeral = decimal_is_IsNumeral_wide m (omega arith) in
    let n : ℕ = length (decimal m) - scale in
    let front : length (take (length (decimal m) - scale) (decimal m)) ≡ length (decimal m) - scale = length-take-le (length (decimal m) - scale) (decimal m) (omega arith) in
    let back : length (drop (length (decimal m) - scale) (decimal m)) ≡ scale = omega (arith, length-drop (length (decimal m) - scale) (decimal m)) in
    let same : slice_index (take (length (decimal m) - scale) (decimal m)) 0 ≡ get_or (decimal m) 0 0 = get_or-take (length (decimal m) - scale) (decimal m) 0 0 (omega arith) in
    record {
      whole = take (length (decimal m) - scale) (decimal m);
      fraction = 46 ∷ drop (length (decimal m) - scale) (decimal m);
      joined = pointed_inside scale (decimal m) point within;
      is_whole = record {
        digits = (omega (arith, front, within), digits-take (length (decimal m) - scale) (decimal m) numeral.0.1);
        no_needless_zero = λ e. absurd (omega (arith, first.1 some, same, e));
      };
      is_fraction = inr (drop (length (decimal m) - scale) (decimal m), refl, (omega (arith, back, point), digits-drop (length (decimal m) - scale) (decimal m) numeral.0.1));
    }

before : (scale m : ℕ) → 0 < scale → m < 10 ^ 38 → length (decimal m) ≤ scale → IsPointed (with_point scale (zero_padded (scale + 1) (decimal m)))
before scale m point small behind =
    let numeral = decimal_is_IsNumeral_wide m (omega arith) in
    let long : length (replicate (scale - length (decimal m)) 48 ++ decimal m) ≡ scale = simp (length-append, length-replicate) (omega arith) in
    record {
      whole = 48 ∷ [];
      fraction = 46 ∷ (replicate (scale - length (decimal m)) 48 ++ decimal m);
      joined = pointed_before scale (decimal m) point behind;
      is_whole = record { digits = (omega arith, (omega arith, tt)); no_needless_zero = λ e. refl };
      is_fraction = inr (replicate (scale - length (decimal m)) 48 ++ decimal m, refl, (omega (arith, long, point), digits-after_zeros (scale - length (decimal m)) (decimal m) numeral.0.1));
    }

pointed : (scale m : ℕ) → m < 10 ^ 38 → IsPointed (with_point scale (zero_padded (scale + 1) (decimal m)))
pointed scale m small =
    ⊎_elim
    (λ no_point. subst (λ s. IsPointed (with_point s (zero_padded (s + 1) (decimal m)))) (sym no_point) (pointed_alone m small))
    (λ point. ⊎_elim
    (λ within. ⊎_elim (λ none. absurd (omega (arith, point, within, ap length (ap decimal none ∙ decimal_digit 0 (omega arith))))) (λ some. inside scale m (omega arith) (omega arith) small within) (cases_eq m 0))
    (λ behind. before scale m (omega arith) small behind) (cases_lt scale (length (decimal m)))) (cases_eq scale 0)

pub standard_text : (n : Num) → HasFewDigits n → (text : IsStandardText (number_text n)) × (text.exponent ≡ [])
unfolding text_of_parts
standard_text n few =
    let b = pointed n.scale (unsigned_abs n.whole) few.1 in (
      record {
        negative = is_negative n.whole;
        whole = b.whole;
        fraction = b.fraction;
        exponent = [];
        joined = ap (λ l. sign_text (is_negative n.whole) ++ l) (b.joined ∙ ap (λ l. b.whole ++ l) (sym (append-nil b.fraction)));
        is_whole = b.is_whole;
        is_fraction = b.is_fraction;
        is_exponent = inl refl;
      },
      refl,
    )
