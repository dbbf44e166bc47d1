-- A number's text determines its scale and its integer.
use Rattle.std.proofs.Common.{List, [], ◌∷◌, ◌≡◌, ◌≢◌, ℕ, zero, suc, ◌+◌, ◌-◌, ◌<◌, ◌≤◌, ◌^◌, ◌++◌, length, take, drop, Bool, true, false, refl, sym, subst, ap, ◌∙◌, arith, ⊎_elim}
use Rattle.std.specs.Prelude.{unsigned_abs, replicate}
use Rattle.std.specs.Int.{is_negative}
use Rattle.std.specs.Fmt.{decimal, sign_text}
use Rattle.std.specs.List.{AllByRecursion}
use Rattle.std.specs.Str.Parse.{AllDigits, digits_value}
use Rattle.std.proofs.lemmas.Bool.{cases_lt}
use Rattle.std.proofs.lemmas.List.{append-nil, take-append-drop, length-take-le, length-drop, length-append, length-replicate, nil_from_length}
use Rattle.std.proofs.lemmas.Fmt.{decimal_is_IsNumeral_wide}
use Rattle.std.proofs.lemmas.Str.Parse.{digit_from_value}
use Rattle.jsonb_spec.specs.Tree.{Num}
use Rattle.jsonb_spec.specs.Number.Signed.{signed_by}
use Rattle.jsonb_spec.specs.Text.NumberText.{text_of_parts, with_point, zero_padded, number_text}
use Rattle.jsonb_core.proofs.Numbers.DecimalTexts.{digits-take, digits-drop, digits-after_zeros, value-after_zeros}
use Rattle.jsonb_core.proofs.Numbers.Nearest.{signed_parts}
use Rattle.jsonb_core.proofs.Numbers.Pointed.{pointed_whole, pointed_inside, pointed_before}
use Rattle.jsonb_core.proofs.Trees.Runs.{BeginsOther, same_run}

-- a digit, a point or a minus
abbrev pub IsNumberByte : ℕ → Type 0
IsNumberByte b = (44 < b) × (b < 58) × (b ≢ 47)

abbrev pub IsDigit : ℕ → Type 0
IsDigit b = (47 < b) × (b < 58)

-- the point and the digits behind it, where there are any
abbrev pub behind : ℕ → List ℕ → List ℕ
behind zero back = []
behind (suc scale) back = 46 ∷ back

-- A number's text in its parts: a sign, the digits before the point, and those behind it.
record IsSplit (n : Num) : Type 0 where
  front : List ℕ
  back : List ℕ
  joined : number_text n ≡ sign_text (is_negative n.whole) ++ (front ++ behind n.scale back)
  some : 0 < length front
  front_digits : AllDigits 10 front
  back_digits : AllDigits 10 back
  long : length back ≡ n.scale
  value : digits_value 10 (front ++ back) ≡ unsigned_abs n.whole

-- digits with a point, as the parts before and behind it
record IsPointed (text : List ℕ) (scale m : ℕ) : Type 0 where
  front : List ℕ
  back : List ℕ
  joined : text ≡ front ++ behind scale back
  some : 0 < length front
  front_digits : AllDigits 10 front
  back_digits : AllDigits 10 back
  long : length back ≡ scale
  value : digits_value 10 (front ++ back) ≡ m

pointed_none : (m : ℕ) → m < 10 ^ 38 → IsPointed (with_point 0 (zero_padded 1 (decimal m))) 0 m
pointed_none m small =
    let numeral = decimal_is_IsNumeral_wide m (omega arith) in
    record {
      front = decimal m;
      back = [];
      joined = pointed_whole (decimal m) numeral.0.0 ∙ sym (append-nil (decimal m));
      some = numeral.0.0;
      front_digits = numeral.0.1;
      back_digits = tt;
      long = refl;
      value = ap (digits_value 10) (append-nil (decimal m)) ∙ numeral.1;
    }

pointed_inside_digits : (scale m : ℕ) → m < 10 ^ 38 → suc scale < length (decimal m) → IsPointed (with_point (suc scale) (zero_padded (suc scale + 1) (decimal m))) (suc scale) m
pointed_inside_digits scale m small inside =
    let numeral = decimal_is_IsNumeral_wide m (omega arith) in
    let n : ℕ = length (decimal m) - suc scale in
    record {
      front = take (length (decimal m) - suc scale) (decimal m);
      back = drop (length (decimal m) - suc scale) (decimal m);
      joined = pointed_inside (suc scale) (decimal m) (omega arith) inside;
      some = omega (arith, length-take-le (length (decimal m) - suc scale) (decimal m) (omega arith));
      front_digits = digits-take (length (decimal m) - suc scale) (decimal m) numeral.0.1;
      back_digits = digits-drop (length (decimal m) - suc scale) (decimal m) numeral.0.1;
      long = omega (arith, length-drop (length (decimal m) - suc scale) (decimal m));
      value = ap (digits_value 10) (take-append-drop (length (decimal m) - suc scale) (decimal m)) ∙ numeral.1;
    }

pointed_before_digits : (scale m : ℕ) → m < 10 ^ 38 → length (decimal m) ≤ suc scale → IsPointed (with_point (suc scale) (zero_padded (suc scale + 1) (decimal m))) (suc scale) m
pointed_before_digits scale m small outside =
    let numeral = decimal_is_IsNumeral_wide m (omega arith) in
    record {
      front = 48 ∷ [];
      back = replicate (suc scale - length (decimal m)) 48 ++ decimal m;
      joined = pointed_before (suc scale) (decimal m) (omega arith) outside;
      some = omega arith;
      front_digits = (omega arith, tt);
      back_digits = digits-after_zeros (suc scale - length (decimal m)) (decimal m) numeral.0.1;
      long = simp (length-append, length-replicate) (omega arith);
      value = value-after_zeros (suc scale - length (decimal m)) (decimal m) ∙ numeral.1;
    }

pointed : (scale m : ℕ) → m < 10 ^ 38 → IsPointed (with_point scale (zero_padded (scale + 1) (decimal m))) scale m
pointed zero m small = pointed_none m small
pointed (suc scale) m small =
    ⊎_elim (λ inside. pointed_inside_digits scale m small inside) (λ outside. pointed_before_digits scale m small outside) (cases_lt (suc scale) (length (decimal m)))

split : (n : Num) → unsigned_abs n.whole < 10 ^ 38 → IsSplit n
unfolding text_of_parts
split n small =
    let p = pointed n.scale (unsigned_abs n.whole) small in
    record {
      front = p.front;
      back = p.back;
      joined = ap (λ r. sign_text (is_negative n.whole) ++ r) p.joined;
      some = p.some;
      front_digits = p.front_digits;
      back_digits = p.back_digits;
      long = p.long;
      value = p.value;
    }

-- ---- the bytes

each_append : (P : ℕ → Type 0) (xs ys : List ℕ) → AllByRecursion P xs → AllByRecursion P ys → AllByRecursion P (xs ++ ys)
each_append P [] ys h k = k
each_append P (x ∷ xs) ys h k = (h.0, each_append P xs ys h.1 k)

pub digit_bytes : (ds : List ℕ) → AllDigits 10 ds → AllByRecursion IsDigit ds
digit_bytes [] h = tt
digit_bytes (d ∷ ds) h = let inside = digit_from_value d h.0 in ((omega (arith, inside), omega (arith, inside)), digit_bytes ds h.1)

number_bytes_of : (ds : List ℕ) → AllByRecursion IsDigit ds → AllByRecursion IsNumberByte ds
number_bytes_of [] h = tt
number_bytes_of (d ∷ ds) h = ((omega (arith, h.0), omega (arith, h.0), omega (arith, h.0)), number_bytes_of ds h.1)

sign_bytes : (b : Bool) → AllByRecursion IsNumberByte (sign_text b)
sign_bytes false = tt
sign_bytes true = ((omega arith, omega arith, omega arith), tt)

behind_bytes : (scale : ℕ) (back : List ℕ) → AllDigits 10 back → AllByRecursion IsNumberByte (behind scale back)
behind_bytes zero back h = tt
behind_bytes (suc scale) back h = ((omega arith, omega arith, omega arith), number_bytes_of back (digit_bytes back h))

pub number_bytes : (n : Num) → unsigned_abs n.whole < 10 ^ 38 → AllByRecursion IsNumberByte (number_text n)
number_bytes n small =
    let s = split n small in
    subst (AllByRecursion IsNumberByte) (sym s.joined)
    (each_append IsNumberByte (sign_text (is_negative n.whole)) (s.front ++ behind n.scale s.back) (sign_bytes (is_negative n.whole))
    (each_append IsNumberByte s.front (behind n.scale s.back) (number_bytes_of s.front (digit_bytes s.front s.front_digits)) (behind_bytes n.scale s.back s.back_digits)))

-- bytes that begin with one of this kind
pub record Begins (P : ℕ → Type 0) (bytes : List ℕ) : Type 0 where
  pub first : ℕ
  pub rest : List ℕ
  pub joined : bytes ≡ first ∷ rest
  pub is : P first

pub begun : (P : ℕ → Type 0) (bytes : List ℕ) → 0 < length bytes → AllByRecursion P bytes → Begins P bytes
begun P [] some h = absurd (omega (arith, some))
begun P (b ∷ bytes) some h = record { first = b; rest = bytes; joined = refl; is = h.0 }

digits_first : (n : Num) (s : IsSplit n) → Begins IsDigit (s.front ++ behind n.scale s.back)
digits_first n s =
    let b = begun IsDigit s.front s.some (digit_bytes s.front s.front_digits) in
    record { first = b.first; rest = b.rest ++ behind n.scale s.back; joined = ap (λ front. front ++ behind n.scale s.back) b.joined; is = b.is }

sign_first : (b : Bool) (bytes : List ℕ) → Begins IsDigit bytes → Begins IsNumberByte (sign_text b ++ bytes)
sign_first false bytes d = record { first = d.first; rest = d.rest; joined = d.joined; is = (omega (arith, d.is), omega (arith, d.is), omega (arith, d.is)) }
sign_first true bytes d = record { first = 45; rest = bytes; joined = refl; is = (omega arith, omega arith, omega arith) }

-- a number's text begins with a digit or a minus
pub number_first : (n : Num) → unsigned_abs n.whole < 10 ^ 38 → Begins IsNumberByte (number_text n)
number_first n small =
    let s = split n small in
    subst (Begins IsNumberByte) (sym s.joined) (sign_first (is_negative n.whole) (s.front ++ behind n.scale s.back) (digits_first n s))

-- ---- one text, one number

same_sign : (a b : Bool) (xs ys : List ℕ) → Begins IsDigit xs → Begins IsDigit ys → sign_text a ++ xs ≡ sign_text b ++ ys → (a ≡ b) × (xs ≡ ys)
same_sign false false xs ys x y e = (refl, e)
same_sign true true xs ys x y e = (refl, (cc))
same_sign true false xs ys x y e =
    let whole : 45 ∷ xs ≡ y.first ∷ y.rest = e ∙ y.joined in
    let first : 45 ≡ y.first = cc in
    absurd (omega (arith, first, y.is))
same_sign false true xs ys x y e =
    let whole : 45 ∷ ys ≡ x.first ∷ x.rest = sym e ∙ x.joined in
    let first : 45 ≡ x.first = cc in
    absurd (omega (arith, first, x.is))

same_behind : (s t : ℕ) (xs ys : List ℕ) → length xs ≡ s → length ys ≡ t → behind s xs ≡ behind t ys → (s ≡ t) × (xs ≡ ys)
same_behind zero zero xs ys p q e = (refl, nil_from_length xs p ∙ sym (nil_from_length ys q))
same_behind zero (suc t) xs ys p q e = cc
same_behind (suc s) zero xs ys p q e = cc
same_behind (suc s) (suc t) xs ys p q e = let same : xs ≡ ys = cc in (sym p ∙ ap length same ∙ q, same)

ends_digits : (scale : ℕ) (back : List ℕ) → BeginsOther IsDigit (behind scale back)
ends_digits zero back = tt
ends_digits (suc scale) back = λ digit. absurd (omega (arith, digit))

pub same_number : (m n : Num) → unsigned_abs m.whole < 10 ^ 38 → unsigned_abs n.whole < 10 ^ 38 → number_text m ≡ number_text n → (m.scale ≡ n.scale) × (m.whole ≡ n.whole)
same_number m n small less e =
    let s = split m small in
    let t = split n less in
    let signs = same_sign (is_negative m.whole) (is_negative n.whole) _ _ (digits_first m s) (digits_first n t) (sym s.joined ∙ e ∙ t.joined) in
    let fronts = same_run IsDigit s.front t.front (behind m.scale s.back) (behind n.scale t.back) (digit_bytes s.front s.front_digits) (digit_bytes t.front t.front_digits) (ends_digits m.scale s.back) (ends_digits n.scale t.back) signs.1 in
    let backs = same_behind m.scale n.scale s.back t.back s.long t.long fronts.1 in
    let values : unsigned_abs m.whole ≡ unsigned_abs n.whole = sym s.value ∙ (λ i. digits_value 10 (fronts.0 i ++ backs.1 i)) ∙ t.value in
    (backs.0, sym (signed_parts m.whole) ∙ (λ i. signed_by (signs.0 i) (values i)) ∙ signed_parts n.whole)

-- the same where bytes follow that no number has
pub same_number_before : (m n : Num) (r s : List ℕ) → unsigned_abs m.whole < 10 ^ 38 → unsigned_abs n.whole < 10 ^ 38 → BeginsOther IsNumberByte r → BeginsOther IsNumberByte s
    → number_text m ++ r ≡ number_text n ++ s → (m.scale ≡ n.scale) × (m.whole ≡ n.whole) × (r ≡ s)
same_number_before m n r s small less other another e =
    let texts = same_run IsNumberByte (number_text m) (number_text n) r s (number_bytes m small) (number_bytes n less) other another e in
    let same = same_number m n small less texts.0 in
    (same.0, same.1, texts.1)
