-- A decimal text with an exponent or none has one exact number, and what a scan finds is it.
use Rattle.std.proofs.Common.{◌≡◌, ◌≢◌, ℕ, ◌+◌, ◌^◌, ◌<◌, ◌≤◌, true, false, Option, List, [], ◌∷◌, ◌++◌, length, take, drop, refl, sym, ap, ◌∙◌, inl, inr, ⊎_elim, arith}
use Rattle.std.specs.Prelude.{slice_index, slice_range, unsigned_abs, nat_le, MatchOption, ◌==◌, if◌then◌else◌}
use Rattle.std.specs.Str.Parse.{IsNumeral, digits_value, starts_with_minus}
use Rattle.std.proofs.lemmas.Str.Parse.{digit_from_value}
use Rattle.std.proofs.lemmas.Bool.{cases_eq, cases_lt, cond-false, cond-true}
use Rattle.std.proofs.lemmas.Bool.Decides.{nat_tests}
use Rattle.jsonb_spec.specs.Grammar.StandardNumber.{IsExponent}
use Rattle.jsonb_spec.specs.Grammar.ExtendedNumber.{IsDecimalText}
use Rattle.jsonb_spec.specs.Grammar.ExactNumber.{Moves, no_exponent, to_the_right, to_the_left, moved_number, IsExactDecimal}
use Rattle.jsonb_spec.specs.Tree.{Num}
use Rattle.jsonb_spec.specs.Parsing.Number.{sign_end}
use Rattle.jsonb_spec.specs.Parsing.ExtendedNumber.{core_start, zeros_end, front_end, behind_end, scale_at, all_digits}
use Rattle.jsonb_spec.specs.Parsing.ExactNumber.{exponent_value, right_at, left_at, few_digits, exact_at}
use Rattle.text_scan.proofs.Numbers.Steps.{differs, is_below, is_not_below, sign_end_ge}
use Rattle.text_scan.proofs.Numbers.Scan.{IsExponentEnd}
use Rattle.text_scan.proofs.Numbers.ScanText.{range_cons, range_none, run_numeral}
use Rattle.text_scan.proofs.Numbers.DecimalScanText.{DecimalText, digits_value_same, sign_value}
use Rattle.text_scan.proofs.Numbers.ExtendedParts.{same_decimal}
use Rattle.jsonb_core.proofs.Numbers.Fractions.{fraction_digits, fraction_text}
use Rattle.text_scan.proofs.Numbers.TextParts.{HasTextParts, front_parts, parts_with, regrouped, decimal_text_of}

-- ---- how far an exponent moves a point

-- digits behind a plus or none
abbrev unsigned : List ℕ → List ℕ
unsigned [] = []
unsigned (b ∷ bytes) = if b == 43 then bytes else b ∷ bytes

-- how far the bytes of an exponent move a point to the right
abbrev right_of : List ℕ → ℕ
right_of [] = 0
right_of (mark ∷ bytes) = if slice_index bytes 0 == 45 then 0 else digits_value 10 (unsigned bytes)

-- how far they move it to the left
abbrev left_of : List ℕ → ℕ
left_of [] = 0
left_of (mark ∷ bytes) = if slice_index bytes 0 == 45 then digits_value 10 (drop 1 bytes) else 0

-- digits begin with no sign
record IsUnsigned (digits : List ℕ) : Type 0 where
  no_minus : (slice_index digits 0 == 45) ≡ false
  no_plus : unsigned digits ≡ digits

numeral_unsigned : (digits : List ℕ) → IsNumeral 10 digits → IsUnsigned digits
numeral_unsigned [] numeral = absurd (omega (arith, numeral.0))
numeral_unsigned (d ∷ digits) numeral =
    let digit = digit_from_value d numeral.1.0 in
    let plus : (d == 43) ≡ false = differs d 43 (λ e. omega (arith, e, digit)) in
    record { no_minus = differs d 45 (λ e. omega (arith, e, digit)); no_plus = rw plus refl }

-- the bytes of an exponent decide it
moves_are : (exponent : List ℕ) (right left : ℕ) → Moves exponent right left → (right ≡ right_of exponent) × (left ≡ left_of exponent)
moves_are exponent right left no_exponent = (refl, refl)
moves_are exponent right left (to_the_right digits is_mark (inl none) numeral) =
    let u = numeral_unsigned digits numeral in rw (none, u.no_minus, u.no_plus) (refl, refl)
moves_are exponent right left (to_the_right digits is_mark (inr plus) numeral) = rw plus (refl, refl)
moves_are exponent right left (to_the_left digits is_mark numeral) = (refl, refl)

moves_exponent : (exponent : List ℕ) (right left : ℕ) → Moves exponent right left → IsExponent exponent
moves_exponent exponent right left no_exponent = inl refl
moves_exponent exponent right left (to_the_right {mark = mark} {sign = sign} digits is_mark is_sign numeral) = inr record { mark = mark; sign = sign; digits = digits; joined = refl; is_mark = is_mark; is_sign = ⊎_elim inl (λ plus. inr (inl plus)) is_sign; are_digits = numeral }
moves_exponent exponent right left (to_the_left {mark = mark} digits is_mark numeral) = inr record { mark = mark; sign = 45 ∷ []; digits = digits; joined = refl; is_mark = is_mark; is_sign = inr (inr refl); are_digits = numeral }

moved : {exponent text : List ℕ} {right r left l : ℕ} → exponent ≡ text → right ≡ r → left ≡ l → Moves text r l → Moves exponent right left
moved same to_right to_left m = rw (same, to_right, to_left) m

-- what is found of an exponent
moves_here : (bytes : List ℕ) (start end : ℕ) → IsExponentEnd bytes start end → Moves (slice_range bytes start end) (right_at bytes start end) (left_at bytes start end)
moves_here bytes start end (inl (same, no_mark)) =
    let here : (start == end) ≡ true = grind (arith, nat_tests) in
    moved (range_none bytes start end same) (cond-true (start == end) _ _ here) (cond-true (start == end) _ _ here) no_exponent
moves_here bytes start end (inr (mark, more, digits)) =
    ⊎_elim
    (λ minus.
    let at : sign_end bytes (start + 1) ≡ start + 1 + 1 = rw minus refl in
    let test : (slice_index bytes (start + 1) == 45) ≡ true = grind (arith, nat_tests) in
    moved (first ∙ ap (λ r. slice_index bytes start ∷ r) (signed 45 minus at)) (past _ ∙ cond-true (slice_index bytes (start + 1) == 45) _ _ test) (past _ ∙ cond-true (slice_index bytes (start + 1) == 45) _ _ test) (to_the_left (slice_range bytes (sign_end bytes (start + 1)) end) mark numeral))
    (λ no_minus. ⊎_elim
    (λ plus.
    let at : sign_end bytes (start + 1) ≡ start + 1 + 1 = rw plus refl in
    moved (first ∙ ap (λ r. slice_index bytes start ∷ r) (signed 43 plus at)) (to_right no_minus) (to_left no_minus) (to_the_right (slice_range bytes (sign_end bytes (start + 1)) end) mark (inr refl) numeral))
    (λ no_plus.
    let at : sign_end bytes (start + 1) ≡ start + 1 = rw (differs (slice_index bytes (start + 1)) 43 no_plus, differs (slice_index bytes (start + 1)) 45 no_minus) refl in
    moved (first ∙ ap (λ i. slice_index bytes start ∷ slice_range bytes i end) (sym at)) (to_right no_minus) (to_left no_minus) (to_the_right {sign = []} (slice_range bytes (sign_end bytes (start + 1)) end) mark (inl refl) numeral))
    (cases_eq (slice_index bytes (start + 1)) 43)) (cases_eq (slice_index bytes (start + 1)) 45)
  where
    later : start + 1 < end
    later = omega (arith, more, sign_end_ge bytes (start + 1))

    numeral : IsNumeral 10 (slice_range bytes (sign_end bytes (start + 1)) end)
    numeral = run_numeral bytes (sign_end bytes (start + 1)) end more digits

    first : slice_range bytes start end ≡ slice_index bytes start ∷ slice_range bytes (start + 1) end
    first = range_cons bytes start end (omega (arith, later)) digits.within

    signed : (sign : ℕ) → slice_index bytes (start + 1) ≡ sign → sign_end bytes (start + 1) ≡ start + 1 + 1 → slice_range bytes (start + 1) end ≡ sign ∷ slice_range bytes (sign_end bytes (start + 1)) end
    signed sign byte at = range_cons bytes (start + 1) end later digits.within ∙ (ap (λ b. b ∷ slice_range bytes (start + 1 + 1) end) byte ∙ ap (λ i. sign ∷ slice_range bytes i end) (sym at))

    past : (n : ℕ) → (if start == end then 0 else n) ≡ n
    past n = cond-false (start == end) 0 n (differs start end (λ e. omega (arith, e, later)))

    to_right : slice_index bytes (start + 1) ≢ 45 → right_at bytes start end ≡ exponent_value bytes start end
    to_right other = past _ ∙ cond-false (slice_index bytes (start + 1) == 45) _ _ (differs (slice_index bytes (start + 1)) 45 other)

    to_left : slice_index bytes (start + 1) ≢ 45 → left_at bytes start end ≡ 0
    to_left other = past _ ∙ cond-false (slice_index bytes (start + 1) == 45) _ _ (differs (slice_index bytes (start + 1)) 45 other)

-- ---- a text has one number

-- the number of a decimal with these parts, once its point is moved
abbrev pub moved_by : List ℕ → List ℕ → Option (List ℕ) → ℕ → ℕ → Num
moved_by sign whole fraction right left = moved_number (starts_with_minus sign) (digits_value 10 (whole ++ fraction_digits fraction)) (length (fraction_digits fraction)) right left

-- the bytes are a decimal text with this number, of few digits or of many
pub record IsMoved (bytes : List ℕ) (n : Num) : Type 0 where
  pub sign : List ℕ
  pub zeros : List ℕ
  pub whole : List ℕ
  pub fraction : Option (List ℕ)
  pub exponent : List ℕ
  pub parts : HasTextParts bytes sign zeros whole fraction exponent
  pub right : ℕ
  pub left : ℕ
  pub moves : Moves exponent right left
  pub value : n ≡ moved_by sign whole fraction right left

moved_unique : (core : List ℕ) (m n : Num) → IsMoved core m → IsMoved core n → m ≡ n
moved_unique core m n p q =
    let s = same_decimal core p.sign p.zeros p.whole p.fraction p.exponent q.sign q.zeros q.whole q.fraction q.exponent p.parts q.parts in
    let first = moves_are p.exponent p.right p.left p.moves in
    let second = moves_are q.exponent q.right q.left q.moves in
    let right : p.right ≡ q.right = first.0 ∙ ap right_of s.exponent_same ∙ sym second.0 in
    let left : p.left ≡ q.left = first.1 ∙ ap left_of s.exponent_same ∙ sym second.1 in
    p.value ∙ ap (λ x. moved_by x p.whole p.fraction p.right p.left) s.sign_same ∙ ap (λ x. moved_by q.sign x p.fraction p.right p.left) s.whole_same ∙ ap (λ x. moved_by q.sign q.whole x p.right p.left) s.fraction_same
    ∙ ap (λ x. moved_by q.sign q.whole q.fraction x p.left) right ∙ ap (λ x. moved_by q.sign q.whole q.fraction q.right x) left ∙ sym q.value

exact_parts : (core : List ℕ) (n : Num) (d : IsExactDecimal core n) → HasTextParts core d.sign d.zeros d.whole d.fraction d.exponent
exact_parts core n d = parts_with core d.front d.exponent d.sign d.zeros d.whole d.fraction d.joined (moves_exponent d.exponent d.right d.left d.moves) d.parts

pub exact_moved : (core : List ℕ) (n : Num) → IsExactDecimal core n → IsMoved core n
exact_moved core n d = record {
  sign = d.sign;
  zeros = d.zeros;
  whole = d.whole;
  fraction = d.fraction;
  exponent = d.exponent;
  parts = exact_parts core n d;
  right = d.right;
  left = d.left;
  moves = d.moves;
  value = d.value;
}

moved_exact : (core : List ℕ) (n : Num) → IsMoved core n → n.scale ≤ 38 → unsigned_abs n.whole < 10 ^ 38 → IsExactDecimal core n
moved_exact core n m few_behind few = record {
  front = m.sign ++ (m.zeros ++ (m.whole ++ fraction_text m.fraction));
  exponent = m.exponent;
  joined = m.parts.joined ∙ sym (regrouped m.sign m.zeros m.whole (fraction_text m.fraction) m.exponent);
  sign = m.sign;
  zeros = m.zeros;
  whole = m.whole;
  fraction = m.fraction;
  parts = front_parts core m.sign m.zeros m.whole m.fraction m.exponent (m.sign ++ (m.zeros ++ (m.whole ++ fraction_text m.fraction))) m.parts refl;
  right = m.right;
  left = m.left;
  moves = m.moves;
  value = m.value;
  few_behind = few_behind;
  few = few;
}

pub exact_unique : (core : List ℕ) (m n : Num) → IsExactDecimal core m → IsExactDecimal core n → m ≡ n
exact_unique core m n p q = moved_unique core m n (exact_moved core m p) (exact_moved core n q)

pub exact_is_text : (core : List ℕ) (n : Num) → IsExactDecimal core n → IsDecimalText core
exact_is_text core n d = decimal_text_of core d.sign d.zeros d.whole d.fraction d.exponent (exact_parts core n d)

-- ---- the number that a scan finds

-- a number of few digits, or that the text has none
few_or_none : (core : List ℕ) (n : Num) → IsMoved core n → MatchOption (few_digits n) ((m : Num) → ¬ IsExactDecimal core m) (IsExactDecimal core)
few_or_none core n is =
    ⊎_elim
    (λ (below : n.scale < 39).
    let few : n.scale ≤ 38 = omega (arith, below) in
    let tested : nat_le n.scale 38 ≡ true = grind (arith, nat_tests) in
    ⊎_elim
    (λ small. rw (tested, is_below (unsigned_abs n.whole) (10 ^ 38) small) (moved_exact core n is few small))
    (λ large. rw (tested, is_not_below (unsigned_abs n.whole) (10 ^ 38) (omega (arith, large))) (λ m d. omega (arith, large, d.few, ap (λ (x : Num). unsigned_abs x.whole) (same m d))))
    (cases_lt (unsigned_abs n.whole) (10 ^ 38)))
    (λ (above : 39 ≤ n.scale).
    let many : 38 < n.scale = omega (arith, above) in
    let tested : nat_le n.scale 38 ≡ false = grind (arith, nat_tests) in
    rw tested (λ m d. omega (arith, many, d.few_behind, ap (λ (x : Num). x.scale) (same m d))))
    (cases_lt n.scale 39)
  where
    same : (m : Num) → IsExactDecimal core m → m ≡ n
    same m d = moved_unique core m n (exact_moved core m d) is

number_here : (bytes : List ℕ) (end : ℕ) → DecimalText bytes end → IsExponentEnd bytes (behind_end bytes) end →
    IsMoved (take end bytes) (moved_number (starts_with_minus bytes) (digits_value 10 (all_digits bytes)) (scale_at bytes) (right_at bytes (behind_end bytes) end) (left_at bytes (behind_end bytes) end))
number_here bytes end t exponent =
    let right : ℕ = right_at bytes (behind_end bytes) end in
    let left : ℕ = left_at bytes (behind_end bytes) end in
    let sign : List ℕ = slice_range bytes 0 (core_start bytes) in
    let whole : List ℕ = slice_range bytes (zeros_end bytes) (front_end bytes) in
    record {
      sign = slice_range bytes 0 (core_start bytes);
      zeros = slice_range bytes (core_start bytes) (zeros_end bytes);
      whole = slice_range bytes (zeros_end bytes) (front_end bytes);
      fraction = t.fraction;
      exponent = slice_range bytes (behind_end bytes) end;
      parts = t.parts;
      right = right_at bytes (behind_end bytes) end;
      left = left_at bytes (behind_end bytes) end;
      moves = moves_here bytes (behind_end bytes) end exponent;
      value = ap (λ b. moved_number b (digits_value 10 (all_digits bytes)) (scale_at bytes) right left) (sym (sign_value bytes (core_start bytes) refl))
          ∙ ap (λ v. moved_number (starts_with_minus sign) v (scale_at bytes) right left) (sym (digits_value_same bytes t.fraction t.digits))
          ∙ ap (λ s. moved_number (starts_with_minus sign) (digits_value 10 (whole ++ fraction_digits t.fraction)) s right left) (sym t.scale);
    }

-- the number of the text that ends here, or that it has none
pub exact_at_end : (bytes : List ℕ) (end : ℕ) → DecimalText bytes end → IsExponentEnd bytes (behind_end bytes) end → MatchOption (exact_at bytes end) ((n : Num) → ¬ IsExactDecimal (take end bytes) n) (IsExactDecimal (take end bytes))
unfolding exact_at
exact_at_end bytes end t exponent = few_or_none (take end bytes) _ (number_here bytes end t exponent)
