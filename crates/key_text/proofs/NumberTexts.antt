-- The text of a number with the fewest digits, from the digits of its key.
use Rattle.std.proofs.Common.{◌≡◌, ◌≢◌, ℕ, zero, suc, ◌+◌, ◌-◌, ◌*◌, ◌/◌, ◌%◌, ◌^◌, ◌<◌, ◌≤◌, inl, inr, Bool, true, false, pos, unsigned_abs, List, [], ◌∷◌, ◌++◌, length, take, drop, replicate, refl, sym, ap, ap₂, ◌∙◌, arith, length-append}
use Rattle.std.proofs.Math.Nat.{pow-zero, mul-div_cancel, mul-le-mul_left, mul-le-mul_right, mul-lt-mul_of_pos_right, zero-div}
use Rattle.std.proofs.Math.Seq.{take-append-add, take-append_seam}
use Rattle.std.proofs.lemmas.Bool.{cond-true, cond-false, cases_lt, lt-ltb, le-ltb}
use Rattle.std.proofs.lemmas.List.{take-append-le, take-replicate, drop-append-le, length-drop}
use Rattle.std.proofs.lemmas.Nat.{pow-add}
use Rattle.std.specs.Bool.{nat_lt}
use Rattle.std.specs.Fmt.{decimal, sign_text}
use Rattle.std.specs.Int.{is_negative}
use Rattle.std.specs.Prelude.{slice_range}
use Rattle.jsonb_spec.specs.Number.Signed.{signed_by}
use Rattle.jsonb_spec.specs.Text.NumberText.{number_text, text_of_parts, with_point, zero_padded}
use Rattle.jsonb_spec.specs.Tree.{Num}
use Rattle.jsonb_core.proofs.Numbers.Nearest.{unsigned_abs-signed}
use Rattle.jsonb_core.proofs.Numbers.Pointed.{is_negative-pos, pointed_whole, pointed_inside, pointed_before, unsigned_is_text}
use Rattle.jsonb_core.proofs.SortKeys.Digits.{ten, mul-pos}
use Rattle.jsonb_core.proofs.SortKeys.Counts.{power_le}
use Rattle.std.proofs.lemmas.Fmt.{decimal_digit}
use Rattle.key_value.proofs.Numbers.{cancel}
use Rattle.key_value.proofs.Signs.{IsSigned}
use Rattle.jsonb_spec.specs.SortKey.FewestDigits.{spare_zeros, fewest_digits}
use Rattle.key_text.specs.Writes.{IsEncoded, last_digits, scaled_text}
use Rattle.key_text.proofs.LastDigits.{all_digits, digits_long, zeros_behind}
use Rattle.key_text.proofs.Spares.{all_spare, some_spare}

sign_retained : (b : Bool) (q : ℕ) → 0 < q → is_negative (signed_by b q) ≡ b
sign_retained false q some = is_negative-pos q
sign_retained true zero some = absurd (omega (arith, some))
sign_retained true (suc q) some = refl

-- the text of the parts, where some digit isn't 0
parts_text : (scale : ℕ) (b : Bool) (q : ℕ) → 0 < q → text_of_parts scale (signed_by b q) ≡ sign_text b ++ with_point scale (zero_padded (scale + 1) (decimal q))
unfolding text_of_parts
parts_text scale b q some = ap₂ (λ s m. sign_text s ++ with_point scale (zero_padded (scale + 1) (decimal m))) (sign_retained b q some) (unsigned_abs-signed b q)

-- the text without this many digits
without : (n : Num) (less q : ℕ) → spare_zeros n.scale (unsigned_abs n.whole) ≡ less → unsigned_abs n.whole / 10 ^ less ≡ q → 0 < q → number_text (fewest_digits n) ≡ sign_text (is_negative n.whole) ++ with_point (n.scale - less) (zero_padded (n.scale - less + 1) (decimal q))
without n less q spare divided some =
    ap (λ z. text_of_parts (n.scale - z) (signed_by (is_negative n.whole) (unsigned_abs n.whole / 10 ^ z))) spare
    ∙ ap (λ m. text_of_parts (n.scale - less) (signed_by (is_negative n.whole) m)) divided
    ∙ parts_text (n.scale - less) (is_negative n.whole) q some

-- ---- the three kinds of exponents

pub no_point : (exponent count : ℕ) (row : List ℕ) → 255 < exponent → count ≤ exponent - 255 → scaled_text exponent count row ≡ take (exponent - 255) row
unfolding scaled_text
no_point exponent count row h k = cond-true (nat_lt 255 exponent) _ _ (lt-ltb 255 exponent h) ∙ cond-false (nat_lt (exponent - 255) count) _ _ (le-ltb (exponent - 255) count k)

pub point_inside : (exponent count : ℕ) (row : List ℕ) → 255 < exponent → exponent - 255 < count → scaled_text exponent count row ≡ take (exponent - 255) row ++ 46 ∷ slice_range row (exponent - 255) count
unfolding scaled_text
point_inside exponent count row h k = cond-true (nat_lt 255 exponent) _ _ (lt-ltb 255 exponent h) ∙ cond-true (nat_lt (exponent - 255) count) _ _ (lt-ltb (exponent - 255) count k)

pub point_before : (exponent count : ℕ) (row : List ℕ) → exponent ≤ 255 → scaled_text exponent count row ≡ 48 ∷ 46 ∷ (replicate (255 - exponent) 48 ++ take count row)
unfolding scaled_text
point_before exponent count row h = cond-false (nat_lt 255 exponent) _ _ (le-ltb 255 exponent h)

-- where so many digits are before the point
pub whole_scaled : (front count : ℕ) (row : List ℕ) → 0 < front → count ≤ front → scaled_text (255 + front) count row ≡ take front row
whole_scaled front count row some h = no_point (255 + front) count row (omega (arith, some)) (omega (arith, h)) ∙ ap (λ k. take k row) {x = 255 + front - 255} (omega arith)

pub pointed_scaled : (front count : ℕ) (row : List ℕ) → 0 < front → front < count → scaled_text (255 + front) count row ≡ take front row ++ 46 ∷ slice_range row front count
pointed_scaled front count row some h = point_inside (255 + front) count row (omega (arith, some)) (omega (arith, h)) ∙ ap (λ k. take k row ++ 46 ∷ slice_range row k count) {x = 255 + front - 255} (omega arith)

-- ---- the digits in the row

-- all of them
row_digits : (ds zs : List ℕ) (count : ℕ) → length ds ≡ count → take count (ds ++ zs) ≡ ds
row_digits ds zs count long = ap (λ k. take k (ds ++ zs)) (sym long) ∙ take-append_seam ds zs

-- some of them
row_front : (ds zs : List ℕ) (front : ℕ) → front ≤ length ds → take front (ds ++ zs) ≡ take front ds
row_front ds zs front h = take-append-le front ds zs h

-- the others
row_back : (ds zs : List ℕ) (front count : ℕ) → length ds ≡ count → front ≤ count → slice_range (ds ++ zs) front count ≡ drop front ds
row_back ds zs front count long h =
    let few : length (drop front ds) ≡ count - front = omega (arith, length-drop front ds, long) in
    ap (take (count - front)) (drop-append-le front ds zs (omega (arith, long, h))) ∙ row_digits (drop front ds) zs (count - front) few

-- and zeros behind them
row_zeros : (ds : List ℕ) (front count left : ℕ) → length ds ≡ count → count ≤ front → front ≤ count + left → take front (ds ++ replicate left 48) ≡ ds ++ replicate (front - count) 48
row_zeros ds front count left long h k =
    let split : front ≡ length ds + (front - count) = omega (arith, long, h) in
    ap (λ n. take n (ds ++ replicate left 48)) split ∙ take-append-add ds (replicate left 48) (front - count) ∙ ap (λ zs. ds ++ zs) (take-replicate (front - count) left 48 (omega (arith, h, k)))

-- ---- all together

pub less_back : (a b k : ℕ) → 0 < k → a * k < b * k → a < b
less_back a b k some h = elim (cases_lt a b) [
  | inl less ↦ less
  | inr most ↦ absurd (omega (arith, h, mul-le-mul_right k most))
]

most_back : (a b k : ℕ) → 0 < k → a * k ≤ b * k → a ≤ b
most_back a b k some h = elim (cases_lt b a) [
  | inl less ↦ absurd (omega (arith, h, mul-lt-mul_of_pos_right less some))
  | inr most ↦ most
]

some_read : (D read : ℕ) → 0 < D → D < 10 ^ read → 0 < read
some_read D zero some below = absurd (omega (arith, some, below, pow-zero 10))
some_read D (suc read) some below = omega arith

one_power : (k : ℕ) → 1 ≤ 10 ^ k
one_power k = omega (arith, ten k)

-- what the digits say of the number
record AreDigits (n : Num) (count read D : ℕ) : Type 0 where
  run : ℕ
  counted : count ≡ run + read
  whole : unsigned_abs n.whole ≡ D * 10 ^ run
  some : 0 < D
  any : 0 < read
  small : unsigned_abs n.whole < 10 ^ 64
  long : length (decimal D) ≡ read
  are : decimal D ≡ last_digits read D

are_digits : (n : Num) (sign : Bool) (bytes more : List ℕ) (s : IsSigned n sign bytes more) (read : ℕ) (row : List ℕ) (p : IsEncoded s.count (unsigned_abs n.whole) read row) → AreDigits n s.count read p.digits
are_digits n sign bytes more s read row p =
    let M = unsigned_abs n.whole in
    let D = p.digits in
    let run = s.count - read in
    let counted : s.count ≡ run + read = omega (arith, p.is_digits.fewer) in
    let R = 10 ^ run in
    let power : 10 ^ s.count ≡ R * 10 ^ read = ap (λ k. 10 ^ k) counted ∙ pow-add 10 run read in
    let whole : M ≡ D * R = cancel M (D * R) (10 ^ read) (ten read) (omega (arith, p.is_digits.whole, ap (λ k. D * k) power)) in
    let below : D < 10 ^ read = less_back D (10 ^ read) R (ten run) (omega (arith, whole, s.below, power)) in
    let least : 10 ^ read ≤ D * 10 = most_back (10 ^ read) (D * 10) R (ten run) (omega (arith, whole, s.least, power)) in
    let any = some_read D read p.is_digits.some below in
    let most : 10 ^ read ≤ 10 ^ 39 = power_le read 39 (omega (arith, p.is_digits.fewer, s.few)) in
    let wide : 10 ^ s.count ≤ 10 ^ 39 = power_le s.count 39 s.few in
    let are = all_digits read D any least below (omega (arith, below, most)) in
    record {
      run = run;
      counted = counted;
      whole = whole;
      some = p.is_digits.some;
      any = any;
      small = omega (arith, s.below, wide);
      long = ap length are ∙ digits_long read D;
      are = are;
    }

module _ (n : Num) (exponent count read D : ℕ) (a : AreDigits n count read D) (is_exponent_key : exponent + n.scale ≡ count + 255) (few : count ≤ 39) (last : D % 10 ≢ 0) where
  abbrev sign : List ℕ
  sign = sign_text (is_negative n.whole)

  abbrev row : List ℕ
  row = decimal D ++ replicate (48 - read) 48

  whole_text : 255 < exponent → read ≤ exponent - 255 → number_text (fewest_digits n) ≡ sign ++ scaled_text exponent read row
  whole_text h k =
      let fewer : n.scale ≤ a.run = omega (arith, is_exponent_key, a.counted, h, k) in
      let left = a.run - n.scale in
      let q = D * 10 ^ left in
      let power : 10 ^ a.run ≡ 10 ^ left * 10 ^ n.scale = ap (λ e. 10 ^ e) {x = a.run} (omega (arith, fewer)) ∙ pow-add 10 left n.scale in
      let all : unsigned_abs n.whole ≡ q * 10 ^ n.scale = omega (arith, a.whole, ap (λ e. D * e) power) in
      let spare = ap (spare_zeros n.scale) a.whole ∙ all_spare n.scale a.run D fewer in
      let divided : unsigned_abs n.whole / 10 ^ n.scale ≡ q = ap (λ m. m / 10 ^ n.scale) all ∙ mul-div_cancel q (ten n.scale) in
      let positive : 0 < q = mul-pos D (10 ^ left) a.some (ten left) in
      let most : q ≤ unsigned_abs n.whole = omega (arith, all, mul-le-mul_left q (one_power n.scale)) in
      let digits : decimal q ≡ decimal D ++ replicate left 48 = zeros_behind left D a.some (omega (arith, most, a.small)) in
      let some : 0 < length (decimal q) = omega (arith, ap length digits, length-append (decimal D) (replicate left 48), a.long, a.any) in
      let none : n.scale - n.scale ≡ 0 = omega arith in
      let written = row_zeros (decimal D) (exponent - 255) read (48 - read) a.long k (omega (arith, is_exponent_key, few, a.counted)) in
      let over : exponent - 255 - read ≡ left = omega (arith, is_exponent_key, a.counted, h, k) in
      without n n.scale q spare divided positive
      ∙ ap (λ x. sign ++ with_point x (zero_padded (x + 1) (decimal q))) none
      ∙ ap (λ ds. sign ++ ds) (pointed_whole (decimal q) some ∙ digits ∙ ap (λ x. decimal D ++ replicate x 48) (sym over) ∙ sym written ∙ sym (no_point exponent read row h k))

  inside_text : 255 < exponent → exponent - 255 < read → number_text (fewest_digits n) ≡ sign ++ scaled_text exponent read row
  inside_text h k =
      let more : a.run < n.scale = omega (arith, is_exponent_key, a.counted, h, k) in
      let spare = ap (spare_zeros n.scale) a.whole ∙ some_spare n.scale a.run D last (omega (arith, more)) in
      let divided : unsigned_abs n.whole / 10 ^ a.run ≡ D = ap (λ m. m / 10 ^ a.run) a.whole ∙ mul-div_cancel D (ten a.run) in
      let front : length (decimal D) - (n.scale - a.run) ≡ exponent - 255 = omega (arith, is_exponent_key, a.counted, a.long, h, k) in
      let inside = pointed_inside (n.scale - a.run) (decimal D) (omega (arith, more)) (omega (arith, is_exponent_key, a.counted, a.long, h, more)) in
      without n a.run D spare divided a.some
      ∙ ap (λ ds. sign ++ ds) (inside ∙ ap (λ x. take x (decimal D) ++ 46 ∷ drop x (decimal D)) front
      ∙ ap₂ (λ xs ys. xs ++ 46 ∷ ys) (sym (row_front (decimal D) (replicate (48 - read) 48) (exponent - 255) (omega (arith, a.long, k)))) (sym (row_back (decimal D) (replicate (48 - read) 48) (exponent - 255) read a.long (omega (arith, k))))
      ∙ sym (point_inside exponent read row h k))

  before_text : exponent ≤ 255 → number_text (fewest_digits n) ≡ sign ++ scaled_text exponent read row
  before_text h =
      let more : a.run < n.scale = omega (arith, is_exponent_key, a.counted, h, a.any) in
      let spare = ap (spare_zeros n.scale) a.whole ∙ some_spare n.scale a.run D last (omega (arith, more)) in
      let divided : unsigned_abs n.whole / 10 ^ a.run ≡ D = ap (λ m. m / 10 ^ a.run) a.whole ∙ mul-div_cancel D (ten a.run) in
      let zeros_left : n.scale - a.run - length (decimal D) ≡ 255 - exponent = omega (arith, is_exponent_key, a.counted, a.long, h) in
      let before = pointed_before (n.scale - a.run) (decimal D) (omega (arith, more)) (omega (arith, is_exponent_key, a.counted, a.long, h)) in
      without n a.run D spare divided a.some
      ∙ ap (λ ds. sign ++ ds) (before ∙ ap (λ x. 48 ∷ 46 ∷ (replicate x 48 ++ decimal D)) zeros_left
      ∙ ap (λ ds. 48 ∷ 46 ∷ (replicate (255 - exponent) 48 ++ ds)) (sym (row_digits (decimal D) (replicate (48 - read) 48) read a.long))
      ∙ sym (point_before exponent read row h))

  any_text : number_text (fewest_digits n) ≡ sign ++ scaled_text exponent read row
  any_text = elim (cases_lt 255 exponent) [
    | inl h ↦ elim (cases_lt (exponent - 255) read) [
      | inl k ↦ inside_text h k
      | inr k ↦ whole_text h k
    ]
    | inr h ↦ before_text h
  ]

-- the text of a number that isn't 0
pub number_is : (n : Num) (sign : Bool) (bytes more : List ℕ) (s : IsSigned n sign bytes more) (read : ℕ) (row : List ℕ) (p : IsEncoded s.count (unsigned_abs n.whole) read row) → number_text (fewest_digits n) ≡ sign_text sign ++ scaled_text s.exponent read row
number_is n sign bytes more s read row p =
    let a = are_digits n sign bytes more s read row p in
    any_text n s.exponent s.count read p.digits a s.is_exponent_key s.few p.not_zero
    ∙ ap₂ (λ b ds. sign_text b ++ scaled_text s.exponent read ds) s.is_sign (ap (λ ds. ds ++ replicate (48 - read) 48) a.are ∙ sym p.encoded)

-- the text of 0
pub zero_is : (n : Num) → n.whole ≡ pos 0 → number_text (fewest_digits n) ≡ 48 ∷ []
zero_is n none =
    let spare : spare_zeros n.scale (unsigned_abs n.whole) ≡ n.scale = ap (λ z. spare_zeros n.scale (unsigned_abs z)) none ∙ ap (spare_zeros n.scale) (product (10 ^ n.scale)) ∙ all_spare n.scale n.scale 0 (omega arith) in
    let over : n.scale - spare_zeros n.scale (unsigned_abs n.whole) ≡ 0 = omega (arith, spare) in
    let divided : unsigned_abs n.whole / 10 ^ spare_zeros n.scale (unsigned_abs n.whole) ≡ 0 = ap (λ z. unsigned_abs z / 10 ^ spare_zeros n.scale (unsigned_abs n.whole)) none ∙ nothing_left (10 ^ spare_zeros n.scale (unsigned_abs n.whole)) in
    ap₂ (λ s m. text_of_parts s (signed_by (is_negative n.whole) m)) over divided
    ∙ ap (λ z. text_of_parts 0 (signed_by (is_negative z) 0)) none
    ∙ zero_text
  where
    product : (k : ℕ) → 0 ≡ 0 * k
    product k = omega arith

    nothing_left : (k : ℕ) → 0 / k ≡ 0
    nothing_left zero = omega arith
    nothing_left (suc k) = zero-div (suc k)

    zero_text : text_of_parts 0 (signed_by (is_negative (pos 0)) 0) ≡ 48 ∷ []
    zero_text = sym (unsigned_is_text 0 (omega arith)) ∙ decimal_digit 0 (omega arith)
