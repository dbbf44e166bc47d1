-- The digits of a number's text, read from left to right.
use Rattle.std.proofs.Common.{◌≡◌, ℕ, zero, suc, ◌+◌, ◌-◌, ◌*◌, ◌^◌, ◌<◌, ◌≤◌, ◌⊎◌, inl, inr, ⊎_elim, ◌==◌, Bool, true, false, true≢false, ◌&&◌, ◌||◌, List, [], ◌∷◌, ◌++◌, length, take, drop, replicate, ℤ, pos, negsuc, unsigned_abs, if◌then◌else◌, refl, sym, ap, ap₂, ◌∙◌, arith, append_assoc, append-nil, length-append}
use Rattle.std.specs.Fmt.{decimal, sign_text}
use Rattle.std.specs.Int.{is_negative}
use Rattle.std.specs.Str.Parse.{AllDigits, digits_value, digits_value_after}
use Rattle.std.specs.Char.{digit_value}
use Rattle.std.proofs.lemmas.Bool.{cond-true, cond-false, cases_lt, eq-eqb, ne_eqb, lt-ltb}
use Rattle.std.proofs.lemmas.Fmt.{decimal_is_IsNumeral_wide}
use Rattle.std.proofs.lemmas.Int.{ints}
use Rattle.std.proofs.lemmas.List.{take-append-drop, length-take-le, length-drop, length-replicate, nil_from_length}
use Rattle.std.proofs.lemmas.Str.{digit_value_digit}
use Rattle.std.proofs.lemmas.Str.Parse.{digit_from_value}
use Rattle.jsonb_spec.specs.Number.Signed.{signed_by}
use Rattle.jsonb_spec.specs.Proper.{FitsWhole, IsProperNumber}
use Rattle.jsonb_spec.specs.SortKey.{number_key}
use Rattle.jsonb_spec.specs.Text.NumberText.{number_text, text_of_parts, with_point, zero_padded}
use Rattle.jsonb_spec.specs.Tree.{Form, int64, uint64, decimal64, decimal128, Num}
use Rattle.jsonb_core.proofs.Numbers.DecimalTexts.{digits-take, digits-drop, digits-after_zeros, value-after_zeros}
use Rattle.jsonb_core.proofs.Numbers.Nearest.{signed_parts}
use Rattle.jsonb_core.proofs.Numbers.Pointed.{pointed_whole, pointed_inside, pointed_before}
use Rattle.jsonb_core.proofs.SortKeys.Kinds.{is_small}
use Rattle.jsonb_core.proofs.Trees.Runs.{heads}
use Rattle.jsonb_spec.specs.SortKey.FewestDigits.{spare_zeros}
use Rattle.jsonb_spec.specs.Document.Scan.{is_number_byte, ending_of}
use Rattle.key_zeros.proofs.Decimals.{text_passed, digit_byte}
use Rattle.key_zeros.proofs.NumberedTexts as numbered
use Rattle.key_document.specs.FromText.{AreDigitsOf, AreDigitsOfNumber, EndsNumber, is_digit, magnitude_from, scale_from, scale_with, with_digit}
use Rattle.key_document.specs.declared.from_text.digits.Digits.{Digits}

either_more : (test : Bool) (x y m : ℕ) → m ≤ x → m ≤ y → m ≤ (if test then x else y)
either_more true x y m p q = p
either_more false x y m p q = q

-- more digits make no less
digit_more : (m b : ℕ) → m ≤ with_digit m b
digit_more m b = either_more (is_digit b) (m * 10 + (b - 48)) m m (omega arith) (omega arith)

pub digits_more : (m : ℕ) (bytes : List ℕ) → m ≤ magnitude_from m bytes
digits_more m [] = omega arith
digits_more m (b ∷ bytes) = either_more (is_number_byte b) (magnitude_from (with_digit m b) bytes) m m (omega (arith, digit_more m b, digits_more (with_digit m b) bytes)) (omega arith)

-- a number that is too large so far
pub too_large : (m b : ℕ) (rest others bytes : List ℕ) → magnitude_from 0 bytes ≤ 2 ^ 127 → magnitude_from 0 bytes ≡ magnitude_from m rest → rest ≡ b ∷ others → is_number_byte b ≡ true → 2 ^ 127 < with_digit m b → ⊥
too_large m b rest others bytes small so_far is number large =
    omega (arith, small, large, digits_more (with_digit m b) others, so_far ∙ ap (magnitude_from m) is ∙ cond-true (is_number_byte b) (magnitude_from (with_digit m b) others) m number)

-- ---- the text of a number in its parts

-- the point and the digits behind it, where there are any
abbrev behind : ℕ → List ℕ → List ℕ
behind zero back = []
behind (suc scale) back = 46 ∷ back

-- digits with a point, as the parts before and behind it
record IsPointed (text : List ℕ) (scale m : ℕ) : Type 0 where
  front : List ℕ
  back : List ℕ
  joined : text ≡ front ++ behind scale back
  some : 0 < length front
  front_digits : AllDigits 10 front
  back_digits : AllDigits 10 back
  long : length back ≡ scale
  value : digits_value 10 (front ++ back) ≡ m

pointed_none : (m : ℕ) → m < 10 ^ 64 → IsPointed (with_point 0 (zero_padded 1 (decimal m))) 0 m
pointed_none m small =
    let numeral = decimal_is_IsNumeral_wide m small in
    record {
      front = decimal m;
      back = [];
      joined = pointed_whole (decimal m) numeral.0.0 ∙ sym (append-nil (decimal m));
      some = numeral.0.0;
      front_digits = numeral.0.1;
      back_digits = tt;
      long = refl;
      value = ap (digits_value 10) (append-nil (decimal m)) ∙ numeral.1;
    }

pointed_inside_digits : (scale m : ℕ) → m < 10 ^ 64 → suc scale < length (decimal m) → IsPointed (with_point (suc scale) (zero_padded (suc scale + 1) (decimal m))) (suc scale) m
pointed_inside_digits scale m small inside =
    let numeral = decimal_is_IsNumeral_wide m small in
    record {
      front = take (length (decimal m) - suc scale) (decimal m);
      back = drop (length (decimal m) - suc scale) (decimal m);
      joined = pointed_inside (suc scale) (decimal m) (omega arith) inside;
      some = omega (arith, length-take-le (length (decimal m) - suc scale) (decimal m) (omega arith));
      front_digits = digits-take (length (decimal m) - suc scale) (decimal m) numeral.0.1;
      back_digits = digits-drop (length (decimal m) - suc scale) (decimal m) numeral.0.1;
      long = omega (arith, length-drop (length (decimal m) - suc scale) (decimal m));
      value = ap (digits_value 10) (take-append-drop (length (decimal m) - suc scale) (decimal m)) ∙ numeral.1;
    }

pointed_before_digits : (scale m : ℕ) → m < 10 ^ 64 → length (decimal m) ≤ suc scale → IsPointed (with_point (suc scale) (zero_padded (suc scale + 1) (decimal m))) (suc scale) m
pointed_before_digits scale m small outside =
    let numeral = decimal_is_IsNumeral_wide m small in
    record {
      front = 48 ∷ [];
      back = replicate (suc scale - length (decimal m)) 48 ++ decimal m;
      joined = pointed_before (suc scale) (decimal m) (omega arith) outside;
      some = omega arith;
      front_digits = (omega arith, tt);
      back_digits = digits-after_zeros (suc scale - length (decimal m)) (decimal m) numeral.0.1;
      long = simp (length-append, length-replicate) (omega arith);
      value = value-after_zeros (suc scale - length (decimal m)) (decimal m) ∙ numeral.1;
    }

pointed : (scale m : ℕ) → m < 10 ^ 64 → IsPointed (with_point scale (zero_padded (scale + 1) (decimal m))) scale m
pointed zero m small = pointed_none m small
pointed (suc scale) m small =
    ⊎_elim (λ inside. pointed_inside_digits scale m small inside) (λ outside. pointed_before_digits scale m small outside) (cases_lt (suc scale) (length (decimal m)))

-- ---- digits are read

digit_is : (c : ℕ) → 48 ≤ c → c ≤ 57 → is_digit c ≡ true
digit_is c low high = (λ i. lt-ltb 47 c (omega (arith, low)) i && lt-ltb c 58 (omega (arith, high)) i)

digit_added : (m c : ℕ) → digit_value c < 10 → with_digit m c ≡ m * 10 + digit_value c
digit_added m c d =
    let range = digit_from_value c d in
    let value = digit_value_digit c range in
    let rest : m * 10 + (c - 48) ≡ m * 10 + digit_value c = omega (arith, value) in
    cond-true (is_digit c) (m * 10 + (c - 48)) m (digit_is c (omega (arith, range)) (omega (arith, range))) ∙ rest

magnitude_read : (ds rest : List ℕ) (m : ℕ) → AllDigits 10 ds → magnitude_from m (ds ++ rest) ≡ magnitude_from (digits_value_after 10 m ds) rest
magnitude_read [] rest m p = refl
magnitude_read (d ∷ ds) rest m p =
    let range = digit_from_value d p.0 in
    cond-true (is_number_byte d) (magnitude_from (with_digit m d) (ds ++ rest)) m (digit_byte d (omega (arith, range)) (omega (arith, range)))
    ∙ ap (λ x. magnitude_from x (ds ++ rest)) (digit_added m d p.0) ∙ magnitude_read ds rest (m * 10 + digit_value d) p.1

magnitude_over : (m : ℕ) (more : List ℕ) → EndsNumber more → magnitude_from m more ≡ m
magnitude_over m [] ends = refl
magnitude_over m (b ∷ more) ends = cond-false (is_number_byte b) (magnitude_from (with_digit m b) more) m ends

value_joined : (xs ys : List ℕ) (m : ℕ) → digits_value_after 10 (digits_value_after 10 m xs) ys ≡ digits_value_after 10 m (xs ++ ys)
value_joined [] ys m = refl
value_joined (x ∷ xs) ys m = value_joined xs ys (m * 10 + digit_value x)

scale_before : (ds rest : List ℕ) (s : ℕ) → AllDigits 10 ds → scale_from false s (ds ++ rest) ≡ scale_from false s rest
scale_before [] rest s p = refl
scale_before (d ∷ ds) rest s p =
    let range = digit_from_value d p.0 in
    cond-true (is_number_byte d) (scale_from (false || d == 46) s (ds ++ rest)) s (digit_byte d (omega (arith, range)) (omega (arith, range)))
    ∙ ap (λ (x : Bool). scale_from x s (ds ++ rest)) (ne_eqb d 46 (λ e. omega (arith, e, range))) ∙ scale_before ds rest s p.1

scale_behind : (ds rest : List ℕ) (s : ℕ) → AllDigits 10 ds → scale_from true s (ds ++ rest) ≡ scale_from true (s + length ds) rest
scale_behind [] rest s p = ap (λ n. scale_from true n rest) {x = s} {y = s + 0} (omega arith)
scale_behind (d ∷ ds) rest s p =
    let range = digit_from_value d p.0 in
    cond-true (is_number_byte d) (scale_from true (scale_with true s d) (ds ++ rest)) s (digit_byte d (omega (arith, range)) (omega (arith, range)))
    ∙ ap (λ n. scale_from true n (ds ++ rest)) (cond-true (is_digit d) (s + 1) s (digit_is d (omega (arith, range)) (omega (arith, range))))
    ∙ scale_behind ds rest (s + 1) p.1 ∙ ap (λ n. scale_from true n rest) {x = s + 1 + length ds} {y = s + suc (length ds)} (omega arith)

scale_over : (p : Bool) (s : ℕ) (more : List ℕ) → EndsNumber more → scale_from p s more ≡ s
scale_over p s [] ends = refl
scale_over p s (b ∷ more) ends = cond-false (is_number_byte b) (scale_from (p || b == 46) (scale_with p s b) more) s ends

-- ---- a number is read

fits_positive : (form : Form) (n : ℕ) → FitsWhole form (pos n) → n < 2 ^ 127
fits_positive int64 n h = omega (arith, ints)
fits_positive uint64 n h = omega arith
fits_positive decimal64 n h = omega (arith, ints)
fits_positive decimal128 n h = omega (arith, ints)

fits_negative : (form : Form) (n : ℕ) → FitsWhole form (negsuc n) → suc n ≤ 2 ^ 127
fits_negative int64 n h = omega (arith, ints)
fits_negative uint64 n h = absurd h
fits_negative decimal64 n h = omega (arith, ints)
fits_negative decimal128 n h = omega (arith, ints)

pub whole_fits : (form : Form) (whole : ℤ) → FitsWhole form whole → unsigned_abs whole ≤ 2 ^ 127
whole_fits form (pos n) h = omega (arith, fits_positive form n h)
whole_fits form (negsuc n) h = fits_negative form n h

pub sign_fits : (form : Form) (whole : ℤ) → FitsWhole form whole → is_negative whole ≡ false → unsigned_abs whole < 2 ^ 127
sign_fits form (pos n) h s = fits_positive form n h
sign_fits form (negsuc n) h s = absurd (true≢false s)

sign_read : (negative : Bool) (rest : List ℕ) → magnitude_from 0 (sign_text negative ++ rest) ≡ magnitude_from 0 rest
sign_read true rest = refl
sign_read false rest = refl

sign_scale : (negative : Bool) (rest : List ℕ) → scale_from false 0 (sign_text negative ++ rest) ≡ scale_from false 0 rest
sign_scale true rest = refl
sign_scale false rest = refl

back_read : (scale : ℕ) (back more : List ℕ) (m : ℕ) → length back ≡ scale → AllDigits 10 back → EndsNumber more → magnitude_from m (behind scale back ++ more) ≡ digits_value_after 10 m back
back_read zero back more m long p ends = magnitude_over m more ends ∙ ap (digits_value_after 10 m) (sym (nil_from_length back long))
back_read (suc scale) back more m long p ends = magnitude_read back more m p ∙ magnitude_over (digits_value_after 10 m back) more ends

back_scale : (scale : ℕ) (back more : List ℕ) → length back ≡ scale → AllDigits 10 back → EndsNumber more → scale_from false 0 (behind scale back ++ more) ≡ scale
back_scale zero back more long p ends = scale_over false 0 more ends
back_scale (suc scale) back more long p ends = scale_behind back more 0 p ∙ scale_over true (0 + length back) more ends ∙ omega (arith, long)

sign_first : (negative : Bool) (front rest : List ℕ) (first : ℕ) (others : List ℕ) → AllDigits 10 front → 0 < length front → first ∷ others ≡ sign_text negative ++ (front ++ rest) → (first == 45) ≡ negative
sign_first negative [] rest first others p some e = absurd (omega (arith, some))
sign_first true (d ∷ front) rest first others p some e = eq-eqb first 45 (heads first 45 others (d ∷ (front ++ rest)) e)
sign_first false (d ∷ front) rest first others p some e =
    let range = digit_from_value d p.0 in
    ne_eqb first 45 (λ is. omega (arith, is, range, heads first d others (front ++ rest) e))

ends_so : (more : List ℕ) → EndsNumber more → numbered.EndsNumber more
ends_so [] ends = tt
ends_so (b ∷ more) ends = ends

module _ (n : Num) (proper : IsProperNumber n) where
  parts : IsPointed (with_point n.scale (zero_padded (n.scale + 1) (decimal (unsigned_abs n.whole)))) n.scale (unsigned_abs n.whole)
  parts = pointed n.scale (unsigned_abs n.whole) (omega (arith, (is_small n proper).whole))

  text_is : (more : List ℕ) → number_text n ++ more ≡ sign_text (is_negative n.whole) ++ (parts.front ++ (behind n.scale parts.back ++ more))
  unfolding text_of_parts
  text_is more =
      ap (λ t. (sign_text (is_negative n.whole) ++ t) ++ more) parts.joined
      ∙ append_assoc (sign_text (is_negative n.whole)) (parts.front ++ behind n.scale parts.back) more
      ∙ ap (λ t. sign_text (is_negative n.whole) ++ t) (append_assoc parts.front (behind n.scale parts.back) more)

  pub sign_is : (more : List ℕ) (first : ℕ) (others bytes : List ℕ) → bytes ≡ first ∷ others → bytes ≡ number_text n ++ more → (first == 45) ≡ is_negative n.whole
  sign_is more first others bytes is e =
      sign_first (is_negative n.whole) parts.front (behind n.scale parts.back ++ more) first others parts.front_digits parts.some (sym is ∙ e ∙ text_is more)

  pub some_text : (more bytes : List ℕ) → bytes ≡ number_text n ++ more → 0 < length bytes
  some_text more bytes e =
      omega (arith, ap length (e ∙ text_is more), length-append (sign_text (is_negative n.whole)) (parts.front ++ (behind n.scale parts.back ++ more)), length-append parts.front (behind n.scale parts.back ++ more), parts.some)

  magnitude_is : (more : List ℕ) → EndsNumber more → magnitude_from 0 (number_text n ++ more) ≡ unsigned_abs n.whole
  magnitude_is more ends =
      ap (magnitude_from 0) (text_is more)
      ∙ sign_read (is_negative n.whole) (parts.front ++ (behind n.scale parts.back ++ more))
      ∙ magnitude_read parts.front (behind n.scale parts.back ++ more) 0 parts.front_digits
      ∙ back_read n.scale parts.back more (digits_value_after 10 0 parts.front) parts.long parts.back_digits ends
      ∙ value_joined parts.front parts.back 0 ∙ parts.value

  scale_is : (more : List ℕ) → EndsNumber more → scale_from false 0 (number_text n ++ more) ≡ n.scale
  scale_is more ends =
      ap (scale_from false 0) (text_is more)
      ∙ sign_scale (is_negative n.whole) (parts.front ++ (behind n.scale parts.back ++ more))
      ∙ scale_before parts.front (behind n.scale parts.back ++ more) 0 parts.front_digits
      ∙ back_scale n.scale parts.back more parts.long parts.back_digits ends

  pub number_small : (more bytes : List ℕ) → EndsNumber more → bytes ≡ number_text n ++ more → magnitude_from 0 bytes ≤ 2 ^ 127
  number_small more bytes ends e = omega (arith, ap (magnitude_from 0) e, magnitude_is more ends, whole_fits n.form n.whole proper.1)

  pub digits_of_number : (more bytes : List ℕ) (digits : Digits) → EndsNumber more → bytes ≡ number_text n ++ more → AreDigitsOf bytes digits → AreDigitsOfNumber n more digits
  digits_of_number more bytes digits ends e d =
      let x = text_passed n proper more (ends_so more ends) in
      let ending = ap (ending_of false 0) e ∙ x.1 in
      record {
        magnitude = d.magnitude ∙ ap (magnitude_from 0) e ∙ magnitude_is more ends;
        scale = d.scale ∙ ap (scale_from false 0) e ∙ scale_is more ends;
        zeros = d.zeros ∙ ap (λ r. r.1.0) ending;
        rest = d.rest ∙ ap (λ r. r.1.1) ending;
      }

  pub ending_read : (more bytes : List ℕ) → EndsNumber more → bytes ≡ number_text n ++ more → (ending_of false 0 bytes).1 ≡ (spare_zeros n.scale (unsigned_abs n.whole), more)
  ending_read more bytes ends e = ap (λ r. r.1) (ap (ending_of false 0) e ∙ (text_passed n proper more (ends_so more ends)).1)

  -- its sign and its digits fit
  pub no_overflow : (more : List ℕ) (first : ℕ) (others bytes : List ℕ) (magnitude : ℕ) → bytes ≡ first ∷ others → bytes ≡ number_text n ++ more → magnitude ≡ unsigned_abs n.whole → (2 ^ 127 < magnitude) ⊎ (((first == 45) ≡ false) × (2 ^ 127 ≤ magnitude)) → ⊥
  no_overflow more first others bytes magnitude is e same (inl over) = omega (arith, over, same, whole_fits n.form n.whole proper.1)
  no_overflow more first others bytes magnitude is e same (inr over) =
      omega (arith, over.1, same, sign_fits n.form n.whole proper.1 (sym (sign_is more first others bytes is e) ∙ over.0))

  pub whole_is : (more : List ℕ) (first : ℕ) (others bytes : List ℕ) (magnitude : ℕ) → bytes ≡ first ∷ others → bytes ≡ number_text n ++ more → magnitude ≡ unsigned_abs n.whole → signed_by (first == 45) magnitude ≡ n.whole
  whole_is more first others bytes magnitude is e same = ap₂ signed_by (sign_is more first others bytes is e) same ∙ signed_parts n.whole

-- the key is that of the scale and the integer
pub same_key : (m n : Num) → m.scale ≡ n.scale → m.whole ≡ n.whole → number_key m ≡ number_key n
unfolding number_key
same_key m n scales wholes = key_by m.scale n.scale m.whole n.whole scales wholes
  where
    key_by : (s t : ℕ) (v w : ℤ) → s ≡ t → v ≡ w → number_key (record { form = int64; scale = s; whole = v }) ≡ number_key (record { form = int64; scale = t; whole = w })
    key_by s t v w p q = (λ i. number_key (record { form = int64; scale = p i; whole = q i }))
