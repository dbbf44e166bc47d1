-- Decimals that are written as they are.
use Rattle.std.proofs.Common.{◌≡◌, ◌≢◌, ◌⊎◌, ℕ, zero, suc, ◌+◌, ◌-◌, ◌^◌, ◌<◌, ◌≤◌, Bool, true, false, List, [], ◌∷◌, ◌++◌, length, length-append, take, drop, get_or, refl, sym, subst, ap, ap₂, ◌∙◌, inl, inr, not, ⊎_elim, arith}
use Rattle.std.specs.Prelude.{slice_index, replicate, unsigned_abs, ◌==◌, nat_eq, MatchBool}
use Rattle.std.specs.Fmt.{decimal, sign_text}
use Rattle.std.specs.Int.{is_negative, from_bool}
use Rattle.std.specs.Str.Parse.{AllDigits, digits_value}
use Rattle.std.proofs.Math.Seq.{take-add, take-append_seam, drop-append_seam, drop-cons}
use Rattle.std.proofs.lemmas.Bool.{cases_eq, eqb-true}
use Rattle.std.proofs.lemmas.Fmt.{decimal-digits_value, decimal_digit}
use Rattle.std.proofs.lemmas.Int.Digits.{digits_value-lt}
use Rattle.std.proofs.lemmas.Str.Parse.{digit_from_value}
use Rattle.std.proofs.lemmas.List.{length-take-le, length-drop, get_or-take, take-take}
use Rattle.jsonb_spec.specs.Number.Signed.{signed_by}
use Rattle.jsonb_spec.specs.Text.NumberText.{text_of_parts, with_point, zero_padded}
use Rattle.jsonb_spec.specs.Tree.{decimal64}
use Rattle.jsonb_core.proofs.Numbers.DecimalTexts.{digits-take}
use Rattle.jsonb_core.proofs.Numbers.InRange.{decimals, digits-append}
use Rattle.jsonb_core.proofs.Numbers.Nearest.{unsigned_abs-signed}
use Rattle.jsonb_core.proofs.Numbers.Pointed.{is_negative-pos, pointed_inside, pointed_before}
use Rattle.jsonb_spec.specs.Parsing.Number.{digits_length, has_minus, whole_start}
use Rattle.jsonb_spec.specs.Text.VerbatimNumber.{IsBeforePoint, IsDecimalBody, IsVerbatimDecimal}
use Rattle.text_scan.proofs.Numbers.Forms.{below_power}
use Rattle.text_scan.proofs.Numbers.Steps.{all_digits, digits_stop, digits_within, is_some}
use Rattle.text_scan.proofs.Numbers.Verbatim.{above_zero}

-- ---- digits behind a point

-- the digits of this value, behind as many zeros as make them as long as these digits, are these
abbrev IsPadded : List ℕ → ℕ → Type 0
IsPadded back v = (length (decimal v) ≤ length back) × (replicate (length back - length (decimal v)) 48 ++ decimal v ≡ back)

padded_same : (back : List ℕ) (v : ℕ) → decimal v ≡ back → IsPadded back v
padded_same back v same =
    let none : length back - length back ≡ 0 = omega arith in
    (omega (arith, ap length same), subst (λ xs. replicate (length back - length xs) 48 ++ xs ≡ back) (sym same) (rw none refl))

padded_more : (back : List ℕ) (v : ℕ) → IsPadded back v → IsPadded (48 ∷ back) v
padded_more back v (within, same) =
    let one_more : suc (length back) - length (decimal v) ≡ suc (length back - length (decimal v)) = omega (arith, within) in
    (omega (arith, within), rw one_more (ap (λ xs. 48 ∷ xs) same))

small_value : (ds : List ℕ) → AllDigits 10 ds → length ds ≤ 18 → digits_value 10 ds < 10 ^ 18
small_value ds all few = below_power (length ds) 18 (digits_value 10 ds) few (digits_value-lt 10 ds all)

-- digits are those of their value
own_digits : (ds : List ℕ) → AllDigits 10 ds → 0 < length ds → length ds ≤ 18 → get_or ds 0 0 ≢ 48 → decimal (digits_value 10 ds) ≡ ds
own_digits ds all some few other = decimal-digits_value decimals ds all some (λ z. absurd (other z)) (omega (arith, small_value ds all few))

padded : (back : List ℕ) → AllDigits 10 back → 0 < length back → length back ≤ 18 → IsPadded back (digits_value 10 back)
padded [] all some few = absurd (omega (arith, some))
padded (d ∷ []) all some few =
    ⊎_elim (λ zero_byte. subst (λ b. IsPadded (b ∷ []) (digits_value 10 (b ∷ []))) (sym zero_byte) (padded_same (48 ∷ []) 0 (decimal_digit 0 (omega arith))))
    (λ other. padded_same (d ∷ []) (digits_value 10 (d ∷ [])) (own_digits (d ∷ []) all some few other)) (cases_eq d 48)
padded (d ∷ e ∷ back) all some few =
    ⊎_elim (λ zero_byte. subst (λ b. IsPadded (b ∷ e ∷ back) (digits_value 10 (b ∷ e ∷ back))) (sym zero_byte) (padded_more (e ∷ back) (digits_value 10 (e ∷ back)) (padded (e ∷ back) all.1 (omega arith) (omega (arith, few)))))
    (λ other. padded_same (d ∷ e ∷ back) (digits_value 10 (d ∷ e ∷ back)) (own_digits (d ∷ e ∷ back) all some few other)) (cases_eq d 48)

-- ---- digits with a point

-- the digits before a point and behind it, as they are written
pub pointed_digits : (front back : List ℕ) → 0 < length front → 0 < length back → AllDigits 10 front → AllDigits 10 back → length front + length back ≤ 18 → ((get_or front 0 0 ≡ 48 → ⊥) ⊎ (length front ≤ 1))
    → front ++ 46 ∷ back ≡ with_point (length back) (zero_padded (length back + 1) (decimal (digits_value 10 (front ++ back))))
pointed_digits [] back some point all more few needless = absurd (omega (arith, some))
pointed_digits (d ∷ front) back some point all more few needless = ⊎_elim (λ zero_byte. before zero_byte) (λ other. inside other) (cases_eq d 48)
  where
    inside : d ≢ 48 → (d ∷ front) ++ 46 ∷ back ≡ with_point (length back) (zero_padded (length back + 1) (decimal (digits_value 10 ((d ∷ front) ++ back))))
    inside other =
        let ds : List ℕ = (d ∷ front) ++ back in
        let long : length ds ≡ length (d ∷ front) + length back = length-append (d ∷ front) back in
        let own : decimal (digits_value 10 ds) ≡ ds = own_digits ds (digits-append (d ∷ front) back all more) (omega (arith, long, point)) (omega (arith, long, few)) other in
        let cut : length ds - length back ≡ length (d ∷ front) = omega (arith, long) in
        let split : take (length ds - length back) ds ++ 46 ∷ drop (length ds - length back) ds ≡ (d ∷ front) ++ 46 ∷ back =
        subst (λ n. take n ds ++ 46 ∷ drop n ds ≡ (d ∷ front) ++ 46 ∷ back) (sym cut) (ap₂ (λ xs ys. xs ++ 46 ∷ ys) (take-append_seam (d ∷ front) back) (drop-append_seam (d ∷ front) back)) in
        sym (ap (λ xs. with_point (length back) (zero_padded (length back + 1) xs)) own ∙ pointed_inside (length back) ds point (omega (arith, long)) ∙ split)

    alone : (fs : List ℕ) → length (d ∷ fs) ≤ 1 → d ≡ 48 → (d ∷ fs) ++ 46 ∷ back ≡ with_point (length back) (zero_padded (length back + 1) (decimal (digits_value 10 ((d ∷ fs) ++ back))))
    alone [] single zero_byte =
        let p = padded back more point (omega (arith, few)) in
        subst (λ b. b ∷ 46 ∷ back ≡ with_point (length back) (zero_padded (length back + 1) (decimal (digits_value 10 (b ∷ back))))) (sym zero_byte)
        (sym (pointed_before (length back) (decimal (digits_value 10 back)) point p.0 ∙ ap (λ xs. 48 ∷ 46 ∷ xs) p.1))
    alone (f ∷ fs) single zero_byte = absurd (omega (arith, single))

    before : d ≡ 48 → (d ∷ front) ++ 46 ∷ back ≡ with_point (length back) (zero_padded (length back + 1) (decimal (digits_value 10 ((d ∷ front) ++ back))))
    before zero_byte = ⊎_elim (λ other. absurd (other zero_byte)) (λ single. alone front single zero_byte) needless

-- digits of which some are no zeros
above : (front back : List ℕ) → 0 < length front → AllDigits 10 front → ((get_or front 0 0 ≡ 48 → ⊥) ⊎ (length front ≤ 1)) → (get_or front 0 0 ≢ 48) ⊎ (0 < digits_value 10 back) → 0 < digits_value 10 (front ++ back)
above [] back some all needless either = absurd (omega (arith, some))
above (d ∷ front) back some all needless either = ⊎_elim (λ zero_byte. behind zero_byte) (λ other. first other) (cases_eq d 48)
  where
    first : d ≢ 48 → 0 < digits_value 10 ((d ∷ front) ++ back)
    first other = above_zero (d ∷ (front ++ back)) (digit_from_value d all.0) other

    alone : (fs : List ℕ) → length (d ∷ fs) ≤ 1 → d ≡ 48 → 0 < digits_value 10 back → 0 < digits_value 10 ((d ∷ fs) ++ back)
    alone [] single zero_byte more = subst (λ b. 0 < digits_value 10 (b ∷ back)) (sym zero_byte) more
    alone (f ∷ fs) single zero_byte more = absurd (omega (arith, single))

    behind : d ≡ 48 → 0 < digits_value 10 ((d ∷ front) ++ back)
    behind zero_byte =
        ⊎_elim (λ other. absurd (other zero_byte)) (λ more. ⊎_elim (λ other. absurd (other zero_byte)) (λ single. alone front single zero_byte more) needless) either

-- what a test for digits other than zeros says of digits that write no less
pub some_sign : (Q P : Type 0) (v total : ℕ) → v ≤ total → MatchBool (not (nat_eq v 0)) (Q → P ⊎ (0 < total)) (Unit {0})
some_sign Q P v total h =
    ⊎_elim (λ none. subst (λ n. MatchBool (not (nat_eq n 0)) (Q → P ⊎ (0 < total)) (Unit {0})) (sym none) tt)
    (λ other. let some : (v == 0) ≡ false = is_some v (omega (arith, other)) in rw some (λ q. inr (omega (arith, h, other)))) (cases_eq v 0)

-- the first bytes around a point
at_point : (bytes : List ℕ) (front back : ℕ) → slice_index bytes front ≡ 46 → front < length bytes → take (front + 1 + back) bytes ≡ take front bytes ++ 46 ∷ take back (drop (front + 1) bytes)
at_point bytes front back point inside =
    let next : drop front bytes ≡ 46 ∷ drop (suc front) bytes = drop-cons bytes front 0 inside ∙ ap (λ b. b ∷ drop (suc front) bytes) point in
    let more : front + 1 + back ≡ front + suc back = omega arith in
    let one : front + 1 ≡ suc front = omega arith in
    ap (λ n. take n bytes) more ∙ take-add front (suc back) bytes ∙ ap (λ xs. take front bytes ++ take (suc back) xs) next ∙ ap (λ n. take front bytes ++ 46 ∷ take back (drop n bytes)) (sym one)

-- digits that are counted are digits
pub counted_digits : (bytes : List ℕ) (len more : ℕ) → digits_length bytes ≡ len + more → AllDigits 10 (take len bytes) × (length (take len bytes) ≡ len)
counted_digits bytes len more counted =
    (subst (AllDigits 10) (take-take len (digits_length bytes) bytes (omega (arith, counted))) (digits-take len (take (digits_length bytes) bytes) (all_digits bytes)), length-take-le len bytes (omega (arith, counted, digits_within bytes)))

-- digits that were counted up to a point are all before it
pub counted_before : (ds : List ℕ) (len next : ℕ) → digits_length ds ≡ len + digits_length (drop len ds) → next ≡ slice_index ds len → next ≡ 46 → digits_length ds ≡ len
counted_before ds len next more is point = omega (arith, more, digits_stop ds len (λ digit. absurd (omega (arith, is, point, digit.0))))

pub before_point : (bytes ds : List ℕ) (len next : ℕ) → ds ≡ drop (whole_start bytes) bytes → (len ≡ 0 → ⊥) → digits_length ds ≡ len + digits_length (drop len ds) → next ≡ slice_index ds len → next ≡ 46 → IsBeforePoint bytes len
before_point bytes ds len next after some more is point =
    record {
      some = omega (arith, some);
      digits = sym (ap digits_length after) ∙ counted_before ds len next more is point;
      point = sym (ap (λ xs. slice_index xs len) after) ∙ sym is ∙ point;
    }

pub decimal_body : (negative : Bool) (bytes behind : List ℕ) (front back : ℕ) → slice_index bytes front ≡ 46 → 0 < front → digits_length bytes ≡ front → digits_length (drop (front + 1) bytes) ≡ back + digits_length (drop back (drop (front + 1) bytes))
    → 0 < back → front + back ≤ 18 → ((slice_index bytes 0 ≡ 48 → ⊥) ⊎ (front ≤ 1)) → behind ≡ take back (drop (front + 1) bytes) → (negative ≡ true → (slice_index bytes 0 ≢ 48) ⊎ (0 < digits_value 10 behind)) → IsDecimalBody negative (take (front + 1 + back) bytes)
decimal_body negative bytes behind front back point some whole more any few needless is sign =
    let ahead = counted_digits bytes front 0 (omega (arith, whole)) in
    let behind_it = counted_digits (drop (front + 1) bytes) back (digits_length (drop back (drop (front + 1) bytes))) more in
    let inside : front < length bytes = omega (arith, any, more, digits_within (drop (front + 1) bytes), length-drop (front + 1) bytes) in
    let first : get_or (take front bytes) 0 0 ≡ slice_index bytes 0 = get_or-take front bytes 0 0 some in
    let no_needless : (get_or (take front bytes) 0 0 ≡ 48 → ⊥) ⊎ (length (take front bytes) ≤ 1) = ⊎_elim (λ other. inl (λ z. other (sym first ∙ z))) (λ single. inr (omega (arith, single, ahead.1))) needless in
    let xs : List ℕ = take front bytes in
    let ys : List ℕ = take back (drop (front + 1) bytes) in
    let value : ℕ = digits_value 10 (xs ++ ys) in
    let small : value < 10 ^ 18 = small_value (xs ++ ys) (digits-append xs ys ahead.0 behind_it.0) (omega (arith, length-append xs ys, ahead.1, behind_it.1, few)) in
    record {
      scale = length ys;
      magnitude = value;
      text = at_point bytes front back point inside ∙ pointed_digits xs ys (omega (arith, ahead.1, some)) (omega (arith, behind_it.1, any)) ahead.0 behind_it.0 (omega (arith, ahead.1, behind_it.1, few)) no_needless;
      point = omega (arith, behind_it.1, any);
      few = omega (arith, behind_it.1, few, some);
      small = small;
      some = λ minus. above xs ys (omega (arith, ahead.1, some)) ahead.0 no_needless
          (⊎_elim (λ other. inl (λ z. other (sym first ∙ z))) (λ above_it. inr (subst (λ ds. 0 < digits_value 10 ds) is above_it)) (sign minus));
    }

-- ---- a sign in front

sign_is : (negative : Bool) (magnitude : ℕ) → (negative ≡ true → 0 < magnitude) → is_negative (signed_by negative magnitude) ≡ negative
sign_is false magnitude some = is_negative-pos magnitude
sign_is true zero some = absurd (omega (arith, some refl))
sign_is true (suc magnitude) some = refl

-- the sign of a text
sign_taken : (bytes : List ℕ) (negative : Bool) → negative ≡ has_minus bytes → take (from_bool negative) bytes ≡ sign_text negative
sign_taken bytes false is = refl
sign_taken [] true is = cc
sign_taken (b ∷ bytes) true is = ap (λ c. c ∷ []) (eqb-true b 45 (sym is))

pub signed_decimal : (bytes ds : List ℕ) (start len : ℕ) (negative : Bool) → ds ≡ drop (whole_start bytes) bytes → negative ≡ has_minus bytes → start ≡ from_bool negative → IsDecimalBody negative (take len ds) → IsVerbatimDecimal bytes (start + len)
unfolding text_of_parts
signed_decimal bytes ds start len negative after is from body =
    let whole = signed_by negative body.magnitude in
    let begins : start ≡ whole_start bytes = from ∙ ap from_bool is in
    let signed : is_negative whole ≡ negative = sign_is negative body.magnitude body.some in
    let same : unsigned_abs whole ≡ body.magnitude = unsigned_abs-signed negative body.magnitude in
    record {
      value = record { form = decimal64; scale = body.scale; whole = whole };
      text = take-add start len bytes
          ∙ ap₂ (λ xs ys. xs ++ ys) (ap (λ n. take n bytes) from ∙ sign_taken bytes negative is) (ap (λ n. take len (drop n bytes)) begins ∙ ap (take len) (sym after) ∙ body.text)
          ∙ ap₂ (λ b m. sign_text b ++ with_point body.scale (zero_padded (body.scale + 1) (decimal m))) (sym signed) (sym same);
      point = body.point;
      few = body.few;
      small = subst (λ m. m < 10 ^ 18) (sym same) body.small;
    }
