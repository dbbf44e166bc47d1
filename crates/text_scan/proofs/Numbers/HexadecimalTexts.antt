-- Which numbers begin with a zero and an x after the sign.
use Rattle.std.proofs.Common.{◌≡◌, ◌≢◌, ◌⊎◌, ℕ, ◌+◌, ◌<◌, ◌≤◌, Option, Some, None, List, [], ◌∷◌, ◌++◌, length, take, drop, refl, sym, subst, ap, ◌∙◌, inl, inr, ⊎_elim, arith, add-zero, ◌^◌}
use Rattle.std.specs.Prelude.{slice_index, IfSome}
use Rattle.std.specs.Char.{digit_value, to_ascii_lowercase}
use Rattle.std.specs.Str.Parse.{AllDigits, IsNumeral, digits_value}
use Rattle.std.proofs.lemmas.List.{append_assoc, take-append-drop, length-append, length-take-le, get_or-drop}
use Rattle.jsonb_spec.specs.Grammar.StandardNumber.{IsSign}
use Rattle.jsonb_spec.specs.Grammar.ExtendedNumber.{IsHexadecimalText}
use Rattle.jsonb_spec.specs.Parsing.ExtendedNumber.{ContinuesNumberExtended}
use Rattle.jsonb_core.proofs.Numbers.Fractions.{fraction_digits, fraction_text}

-- ---- runs of digits

-- two ways to split a list into digits and a rest, of which the second takes all digits
pub runs_end : (ds es xs ys : List ℕ) → AllDigits 16 ds → AllDigits 16 es → 16 ≤ digit_value (slice_index ys 0) → ds ++ xs ≡ es ++ ys → ((ds ≡ es) × (xs ≡ ys)) ⊎ ((length ds < length es) × (digit_value (slice_index xs 0) < 16))
runs_end [] [] xs ys h k stops same = inl (refl, same)
runs_end [] (e ∷ es) xs ys h k stops same = inr (omega arith, subst (λ z. digit_value (slice_index z 0) < 16) (sym same) k.0)
runs_end (d ∷ ds) [] xs ys h k stops same = absurd (omega (arith, h.0, stops, ap (λ z. digit_value (slice_index z 0)) same))
runs_end (d ∷ ds) (e ∷ es) xs ys h k stops same =
    let tails : ds ++ xs ≡ es ++ ys = ap (drop 1) same in
    let heads : d ≡ e = ap (λ z. slice_index z 0) same in
    ⊎_elim (λ all. inl (ap (λ z. z ∷ ds) heads ∙ ap (λ z. e ∷ z) all.0, all.1)) (λ less. inr (omega (arith, less.0), less.1)) (runs_end ds es xs ys h.1 k.1 stops tails)

-- ---- the sign, the zero and the x

pub same_front : (sign other : List ℕ) (c mark mark' : ℕ) (r r' : List ℕ) → IsSign sign → IsSign other → c ≢ 43 → c ≢ 45 → sign ++ (c ∷ mark ∷ r) ≡ other ++ (48 ∷ mark' ∷ r') → (sign ≡ other) × (c ≡ 48) × (mark ≡ mark') × (r ≡ r')
same_front sign other c mark mark' r r' (inl a) (inl b) plus minus same = let s = rw (a, b) at same in (a ∙ sym b, cc, cc, cc)
same_front sign other c mark mark' r r' (inl a) (inr (inl b)) plus minus same = let s = rw (a, b) at same in absurd (plus (ap (λ z. slice_index z 0) s))
same_front sign other c mark mark' r r' (inl a) (inr (inr b)) plus minus same = let s = rw (a, b) at same in absurd (minus (ap (λ z. slice_index z 0) s))
same_front sign other c mark mark' r r' (inr (inl a)) (inl b) plus minus same = let s = rw (a, b) at same in absurd (omega (arith, ap (λ z. slice_index z 0) s))
same_front sign other c mark mark' r r' (inr (inl a)) (inr (inl b)) plus minus same = let s = rw (a, b) at same in (a ∙ sym b, cc, cc, cc)
same_front sign other c mark mark' r r' (inr (inl a)) (inr (inr b)) plus minus same = let s = rw (a, b) at same in absurd (omega (arith, ap (λ z. slice_index z 0) s))
same_front sign other c mark mark' r r' (inr (inr a)) (inl b) plus minus same = let s = rw (a, b) at same in absurd (omega (arith, ap (λ z. slice_index z 0) s))
same_front sign other c mark mark' r r' (inr (inr a)) (inr (inl b)) plus minus same = let s = rw (a, b) at same in absurd (omega (arith, ap (λ z. slice_index z 0) s))
same_front sign other c mark mark' r r' (inr (inr a)) (inr (inr b)) plus minus same = let s = rw (a, b) at same in (a ∙ sym b, cc, cc, cc)

-- ---- the digits and the fraction

-- a hexadecimal that goes as far as its digits do
pub record IsHexadecimalScan (bytes sign : List ℕ) (mark : ℕ) (whole : List ℕ) (fraction : Option (List ℕ)) (after : List ℕ) : Type 0 where
  pub joined : bytes ≡ sign ++ (48 ∷ mark ∷ (whole ++ (fraction_text fraction ++ after)))
  pub is_sign : IsSign sign
  pub is_mark : to_ascii_lowercase mark ≡ 120
  pub whole_digits : AllDigits 16 whole
  pub digits_behind : AllDigits 16 (fraction_digits fraction)
  pub stops : 16 ≤ digit_value (slice_index after 0)
  pub no_point : fraction ≡ None → slice_index after 0 ≢ 46

abbrev pub scan_length : List ℕ → List ℕ → Option (List ℕ) → ℕ
scan_length sign whole fraction = length sign + (2 + (length whole + length (fraction_text fraction)))

-- the digits are those of a number text
pub record AreGood (whole : List ℕ) (fraction : Option (List ℕ)) : Type 0 where
  pub are_digits : IsNumeral 16 whole
  pub digits_behind : IfSome fraction (IsNumeral 16)
  pub whole_fits : digits_value 16 whole < 2 ^ 128
  pub fraction_fits : digits_value 16 (fraction_digits fraction) < 2 ^ 128

fraction_stops : (fraction : Option (List ℕ)) (after : List ℕ) → 16 ≤ digit_value (slice_index after 0) → 16 ≤ digit_value (slice_index (fraction_text fraction ++ after) 0)
fraction_stops None after stops = stops
fraction_stops (Some ds) after stops = omega arith

abbrev EndsOrContinuesNumber : Option (List ℕ) → Option (List ℕ) → List ℕ → Type 0
EndsOrContinuesNumber f g m = (f ≡ g) ⊎ ((length (fraction_text f) < length (fraction_text g)) × ContinuesNumberExtended (slice_index m 0))

fractions_end : (f g : Option (List ℕ)) (m after : List ℕ) → AllDigits 16 (fraction_digits f) → AllDigits 16 (fraction_digits g) → 16 ≤ digit_value (slice_index after 0) → (g ≡ None → slice_index after 0 ≢ 46) → fraction_text f ++ m ≡ fraction_text g ++ after → EndsOrContinuesNumber f g m
fractions_end None None m after h k stops no_point same = inl refl
fractions_end None (Some g) m after h k stops no_point same = inr (omega arith, inr (inl (ap (λ z. slice_index z 0) same)))
fractions_end (Some f) None m after h k stops no_point same = absurd (no_point refl (sym (ap (λ z. slice_index z 0) same)))
fractions_end (Some f) (Some g) m after h k stops no_point same =
    let tails : f ++ m ≡ g ++ after = ap (drop 1) same in
    ⊎_elim (λ all. inl (ap Some all.0)) (λ less. inr (omega (arith, less.0), inl less.1)) (runs_end f g m after h k stops tails)

-- a byte that is a digit isn't behind digits that a point follows
digit_behind : (f : Option (List ℕ)) (m : List ℕ) → digit_value (slice_index (fraction_text f ++ m) 0) < 16 → (f ≡ None) × (digit_value (slice_index m 0) < 16)
digit_behind None m h = (refl, h)
digit_behind (Some f) m h = absurd (omega (arith, h))

digits_of_some : (f : Option (List ℕ)) → IfSome f (IsNumeral 16) → AllDigits 16 (fraction_digits f)
digits_of_some None h = tt
digits_of_some (Some f) h = h.1

-- a hexadecimal text that the bytes begin with ends where the digits do, or before that where a byte goes on
pub hexadecimal_ends : (bytes sign : List ℕ) (mark : ℕ) (whole : List ℕ) (fraction : Option (List ℕ)) (after : List ℕ) → IsHexadecimalScan bytes sign mark whole fraction after →
    (k : ℕ) → k ≤ length bytes → IsHexadecimalText (take k bytes) → ((k ≡ scan_length sign whole fraction) × AreGood whole fraction) ⊎ ((k < scan_length sign whole fraction) × ContinuesNumberExtended (slice_index bytes k))
hexadecimal_ends bytes sign mark whole fraction after scan k within (sign', mark', whole', fraction', parts) =
    let m = drop k bytes in
    let encoded : sign' ++ (48 ∷ mark' ∷ (whole' ++ (fraction_text fraction' ++ drop k bytes))) ≡ bytes =
    ap (λ z. sign' ++ (48 ∷ mark' ∷ z)) (sym (append_assoc whole' (fraction_text fraction') (drop k bytes))) ∙ (sym (append_assoc sign' (48 ∷ mark' ∷ (whole' ++ fraction_text fraction')) (drop k bytes)) ∙ (ap (λ z. z ++ drop k bytes) (sym parts.joined) ∙ take-append-drop k bytes)) in
    let front = same_front sign' sign 48 mark' mark (whole' ++ (fraction_text fraction' ++ drop k bytes)) (whole ++ (fraction_text fraction ++ after)) parts.is_sign scan.is_sign (omega arith) (omega arith) (encoded ∙ scan.joined) in
    let long : k ≡ length sign' + (2 + (length whole' + length (fraction_text fraction'))) = text_length k bytes sign' mark' whole' (fraction_text fraction') within parts.joined in
    let next_byte : slice_index bytes k ≡ slice_index (drop k bytes) 0 = first_of_rest bytes k in
    ⊎_elim
    (λ all. ⊎_elim
    (λ same. inl (
      omega (arith, long, ap length front.0, ap length all.0, ap (λ f. length (fraction_text f)) same),
      record {
        are_digits = subst (IsNumeral 16) all.0 parts.are_digits;
        digits_behind = subst (λ f. IfSome f (IsNumeral 16)) same parts.digits_behind;
        whole_fits = subst (λ ds. digits_value 16 ds < 2 ^ 128) all.0 parts.whole_fits;
        fraction_fits = subst (λ f. digits_value 16 (fraction_digits f) < 2 ^ 128) same parts.fraction_fits;
      },
    ))
    (λ shorter. inr (omega (arith, long, ap length front.0, ap length all.0, shorter.0), subst ContinuesNumberExtended (sym next_byte) shorter.1))
    (fractions_end fraction' fraction (drop k bytes) after (digits_of_some fraction' parts.digits_behind) scan.digits_behind scan.stops scan.no_point all.1))
    (λ less.
    let behind = digit_behind fraction' (drop k bytes) less.1 in
    inr (omega (arith, long, ap length front.0, less.0, ap (λ f. length (fraction_text f)) behind.0), subst ContinuesNumberExtended (sym next_byte) (inl behind.1)))
    (runs_end whole' whole (fraction_text fraction' ++ drop k bytes) (fraction_text fraction ++ after) parts.are_digits.1 scan.whole_digits (fraction_stops fraction after scan.stops) front.3)
  where
    text_length : (k : ℕ) (bytes sign : List ℕ) (mark : ℕ) (whole rest : List ℕ) → k ≤ length bytes → take k bytes ≡ sign ++ (48 ∷ mark ∷ (whole ++ rest)) → k ≡ length sign + (2 + (length whole + length rest))
    text_length k bytes sign mark whole rest within same = omega (arith, length-take-le k bytes within, ap length same, length-append sign (48 ∷ mark ∷ (whole ++ rest)), length-append whole rest)

    first_of_rest : (bytes : List ℕ) (k : ℕ) → slice_index bytes k ≡ slice_index (drop k bytes) 0
    first_of_rest bytes k = ap (slice_index bytes) (sym (add-zero k)) ∙ sym (get_or-drop k bytes 0 0)
