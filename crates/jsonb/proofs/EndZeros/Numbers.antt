-- A number of a text that looks plain has no zeros at its end.
use Rattle.std.proofs.Common.{◌≡◌, ◌≢◌, ◌⊎◌, inl, inr, ℕ, zero, suc, ◌+◌, ◌-◌, ◌*◌, ◌^◌, ◌<◌, ◌==◌, Bool, true, false, true≢false, List, [], ◌∷◌, ◌++◌, length, replicate, Option, Some, None, refl, sym, ap, subst, ◌∙◌, arith, append-nil, append_assoc, eq-eqb}
use Rattle.std.specs.Prelude.{◌%◌, pos, neg_ℤ, nat_lt, nat_le, if◌then◌else◌}
use Rattle.std.specs.Char.{digit_value, is_ascii_digit}
use Rattle.std.specs.Option.{unwrap_or, option_map_or}
use Rattle.std.specs.Str.Parse.{AllDigits, digits_value, digits_value_after, starts_with_minus}
use Rattle.std.proofs.lemmas.Bool.{cases_lt}
use Rattle.std.proofs.lemmas.Str.{digit_value_digit}
use Rattle.std.proofs.lemmas.Str.Parse.{digit_from_value}
use Rattle.std.proofs.Math.Nat.{pow-zero}
use Rattle.jsonb_spec.specs.Grammar.ExactNumber.{Moves, no_exponent, to_the_right, to_the_left, IsExactDecimal}
use Rattle.jsonb_spec.specs.Grammar.ExtendedNumber.{hexadecimal_number, IsHexadecimalNumber}
use Rattle.jsonb_spec.specs.Grammar.Scalar.{IsNumber}
use Rattle.jsonb_spec.specs.Grammar.StandardNumber.{IsExponentMark, IsInteger}
use Rattle.jsonb_spec.specs.Mode.{Mode, standard, extended, json, extended_json}
use Rattle.jsonb_spec.specs.Text.Range.{EndsInNoZero}
use Rattle.jsonb_spec.specs.Tree.{int64, uint64, decimal128, Num}
use Rattle.text_scan.proofs.Containers.JoinedParts.{break_is}
use Rattle.text_scan.proofs.Numbers.DigitValues.{value_after-append}
use Rattle.text_scan.proofs.Numbers.Steps.{is_digit}
use Rattle.text_parse.proofs.Scalars.Encodings.{Follows, no_more, before}
use Rattle.jsonb.specs.EndZeros.{ends_in_zero}
use Rattle.jsonb.proofs.EndZeros.Marks.{StartsLeft, PassesByte, LooksPlain, plain_end}
use Rattle.jsonb.proofs.Modes.ExactValues.{exact_scale, exact_size}
use Rattle.jsonb.proofs.Modes.ExtendedIsExtendedJson.{exact_decimal}

-- ---- digits, from the first one on

-- The last digit is a zero where the number of the digits is one of tens.
abbrev EndsAs : ℕ → ℕ → Type 0
EndsAs last n = n % 10 ≡ 0 → last ≡ 48

one_more : (n d : ℕ) → digit_value d < 10 → EndsAs d (n * 10 + digit_value d)
one_more n d range tens =
    let value : digit_value d ≡ 0 = omega (arith, tens, range) in
    omega (arith, value, digit_value_digit d (digit_from_value d range))

digit_passed : (last d : ℕ) (bytes : List ℕ) → digit_value d < 10 → ends_in_zero last (d ∷ bytes) ≡ ends_in_zero d bytes
unfolding ends_in_zero
digit_passed last d bytes range = ap (λ (b : Bool). if b then ends_in_zero d bytes else last == 48) (is_digit d (digit_from_value d range))

-- digits whose last is no zero, before bytes that begin with no digit
digits_end : (last n : ℕ) (ds rest : List ℕ) → AllDigits 10 ds → ((l : ℕ) → ends_in_zero l rest ≡ (l == 48)) → EndsAs last n → ends_in_zero last (ds ++ rest) ≡ false → digits_value_after 10 n ds % 10 ≢ 0
digits_end last n [] rest each stops ends other tens = true≢false (sym (eq-eqb last 48 (ends tens)) ∙ sym (stops last) ∙ other)
digits_end last n (d ∷ ds) rest each stops ends other tens = digits_end d (n * 10 + digit_value d) ds rest each.1 stops (one_more n d each.0) (sym (digit_passed last d (ds ++ rest) each.0) ∙ other) tens

-- digits before an exponent that moves the point to the left
digits_before_left : (last n : ℕ) (ds rest : List ℕ) → AllDigits 10 ds → EndsAs last n → PassesByte last (ds ++ rest) → LooksPlain (ds ++ rest) → StartsLeft rest → digits_value_after 10 n ds % 10 ≢ 0
digits_before_left last n [] rest each ends here plain left tens = here.digit (ends tens) left
digits_before_left last n (d ∷ ds) rest each ends here plain left tens = digits_before_left d (n * 10 + digit_value d) ds rest each.1 (one_more n d each.0) plain.0 plain.1 left tens

left_behind : (count : ℕ) (whole rest : List ℕ) → AllDigits 10 whole → 0 < count + length whole → LooksPlain (replicate count 48 ++ (whole ++ rest)) → StartsLeft rest → digits_value 10 whole % 10 ≢ 0
left_behind zero [] rest each some plain left = absurd (omega (arith, some))
left_behind zero (d ∷ ds) rest each some plain left = digits_before_left d (0 * 10 + digit_value d) ds rest each.1 (one_more 0 d each.0) plain.0 plain.1 left
left_behind (suc zero) whole rest each some plain left = digits_before_left 48 0 whole rest each (λ tens. refl) plain.0 plain.1 left
left_behind (suc (suc count)) whole rest each some plain left = left_behind (suc count) whole rest each (omega arith) plain.1 left

-- ---- what is behind a decimal

begins_no_digit : (last byte : ℕ) (bytes : List ℕ) → is_ascii_digit byte ≡ false → ends_in_zero last (byte ∷ bytes) ≡ (last == 48)
unfolding ends_in_zero
begins_no_digit last byte bytes other = ap (λ (b : Bool). if b then ends_in_zero byte bytes else last == 48) other

follows_digits : (rest : List ℕ) → Follows rest → (last : ℕ) → ends_in_zero last rest ≡ (last == 48)
unfolding ends_in_zero
follows_digits rest no_more last = refl
follows_digits rest (before ends) last =
    ap (ends_in_zero last) ends.whole ∙ begins_no_digit last ends.first ends.others (break_is ends.first ends.is_end (λ (b : ℕ). is_ascii_digit b ≡ false) refl refl refl refl refl refl refl refl refl refl refl)

mark_is_no_digit : (mark : ℕ) → IsExponentMark mark → is_ascii_digit mark ≡ false
mark_is_no_digit mark (inl e) = ap is_ascii_digit e
mark_is_no_digit mark (inr e) = ap is_ascii_digit e

exponent_follows : (exponent rest : List ℕ) (right left : ℕ) → Moves exponent right left → Follows rest → (last : ℕ) → ends_in_zero last (exponent ++ rest) ≡ (last == 48)
exponent_follows exponent rest right left no_exponent follows last = follows_digits rest follows last
exponent_follows exponent rest right left (to_the_right {mark = mark} {sign = sign} digits is sign_is each) follows last = begins_no_digit last mark ((sign ++ digits) ++ rest) (mark_is_no_digit mark is)
exponent_follows exponent rest right left (to_the_left {mark = mark} digits is each) follows last = begins_no_digit last mark (45 ∷ digits ++ rest) (mark_is_no_digit mark is)

-- ---- decimals

-- a point and digits, or nothing
abbrev point_and : Option (List ℕ) → List ℕ
point_and fraction = option_map_or (λ digits. 46 ∷ digits) fraction []

-- No digit is left behind the point, or the last digit is no zero.
abbrev EndsWell : List ℕ → List ℕ → ℕ → ℕ → Type 0
EndsWell whole behind right left =
    ((length behind + left) - right ≡ 0) ⊎ (digits_value 10 (whole ++ behind) * 10 ^ (right - length behind) % 10 ≢ 0)

unmoved : (behind right left : ℕ) (exponent : List ℕ) → Moves exponent right left → right < behind + left → right - behind ≡ 0
unmoved behind right left exponent no_exponent more = omega arith
unmoved behind right left exponent (to_the_right digits mark sign each) more = omega (arith, more)
unmoved behind right left exponent (to_the_left digits mark each) more = omega arith

once : (m k : ℕ) → k ≡ 0 → m * 10 ^ k ≡ m
once m k none = ap (λ (j : ℕ). m * 10 ^ j) none ∙ ap (λ (j : ℕ). m * j) (pow-zero 10) ∙ omega arith

some_behind : (whole : List ℕ) (d : ℕ) (ds tail : List ℕ) → AllDigits 10 (d ∷ ds) → ((l : ℕ) → ends_in_zero l tail ≡ (l == 48)) → LooksPlain (46 ∷ (d ∷ ds ++ tail)) → digits_value 10 (whole ++ d ∷ ds) % 10 ≢ 0
some_behind whole d ds tail each stops plain tens =
    digits_end d (digits_value 10 whole * 10 + digit_value d) ds tail each.1 stops (one_more (digits_value 10 whole) d each.0) (sym (digit_passed 0 d (ds ++ tail) each.0) ∙ plain.0.digits refl)
    (ap (λ n. n % 10) (sym (value_after-append 10 0 whole (d ∷ ds))) ∙ tens)

left_none : (count : ℕ) (whole : List ℕ) (mark : ℕ) (more : List ℕ) → AllDigits 10 whole → 0 < count + length whole + 0 → IsExponentMark mark → LooksPlain (replicate count 48 ++ (whole ++ mark ∷ 45 ∷ more))
    → digits_value 10 (whole ++ []) * 10 ^ (0 - 0) % 10 ≢ 0
left_none count whole mark more each some is plain tens =
    left_behind count whole (mark ∷ 45 ∷ more) each (omega (arith, some)) plain (record { mark = mark; rest = more; is_mark = is; whole = refl })
    (ap (λ n. n % 10) (sym (once (digits_value 10 whole) (0 - 0) refl) ∙ ap (λ (l : List ℕ). digits_value 10 l * 10 ^ (0 - 0)) (sym (append-nil whole))) ∙ tens)

behind_front : (count : ℕ) (whole bytes : List ℕ) → LooksPlain (replicate count 48 ++ (whole ++ bytes)) → LooksPlain bytes
behind_front count whole bytes plain = plain_end whole bytes (plain_end (replicate count 48) (whole ++ bytes) plain)

parts_end : (count : ℕ) (whole : List ℕ) (fraction : Option (List ℕ)) (exponent rest : List ℕ) (right left : ℕ) → AllDigits 10 whole → AllDigits 10 (unwrap_or fraction []) → 0 < count + length whole + length (unwrap_or fraction [])
    → Moves exponent right left → Follows rest → LooksPlain (replicate count 48 ++ (whole ++ (point_and fraction ++ (exponent ++ rest)))) → EndsWell whole (unwrap_or fraction []) right left
parts_end count whole (Some (d ∷ ds)) exponent rest right left each others some moves follows plain =
    elim (cases_lt right (length (d ∷ ds) + left)) [
      | inl less ↦
          inr (λ tens.
          some_behind whole d ds (exponent ++ rest) others (exponent_follows exponent rest right left moves follows) (behind_front count whole (46 ∷ (d ∷ ds ++ (exponent ++ rest))) plain)
          (ap (λ n. n % 10) (sym (once (digits_value 10 (whole ++ d ∷ ds)) (right - length (d ∷ ds)) (unmoved (length (d ∷ ds)) right left exponent moves less))) ∙ tens))
      | inr more ↦ inl (omega (arith, more))
    ]
parts_end count whole (Some []) exponent rest right left each others some no_exponent follows plain = inl refl
parts_end count whole (Some []) exponent rest right left each others some (to_the_right digits mark sign all) follows plain = inl (omega arith)
parts_end count whole (Some []) exponent rest right left each others some (to_the_left {mark = mark} digits is all) follows plain =
    absurd ((behind_front count whole (46 ∷ mark ∷ 45 ∷ (digits ++ rest)) plain).0.point refl (record { mark = mark; rest = digits ++ rest; is_mark = is; whole = refl }))
parts_end count whole None exponent rest right left each others some no_exponent follows plain = inl refl
parts_end count whole None exponent rest right left each others some (to_the_right digits mark sign all) follows plain = inl (omega arith)
parts_end count whole None exponent rest right left each others some (to_the_left {mark = mark} digits is all) follows plain = inr (left_none count whole mark (digits ++ rest) each some is plain)

exact_ends : (bytes : List ℕ) (n : Num) (d : IsExactDecimal bytes n) (rest : List ℕ) → Follows rest → LooksPlain (bytes ++ rest) → EndsInNoZero n
exact_ends bytes n d rest follows plain =
    let point = point_and d.fraction in
    let tail = d.exponent ++ rest in
    let parts : bytes ++ rest ≡ d.sign ++ (d.zeros ++ (d.whole ++ (point ++ tail))) =
    ap (λ (l : List ℕ). l ++ rest) d.joined ∙ append_assoc d.front d.exponent rest ∙ ap (λ (l : List ℕ). l ++ tail) d.parts.joined ∙ append_assoc d.sign (d.zeros ++ (d.whole ++ point)) tail
    ∙ ap (λ (l : List ℕ). d.sign ++ l) (append_assoc d.zeros (d.whole ++ point) tail ∙ ap (λ (l : List ℕ). d.zeros ++ l) (append_assoc d.whole point tail)) in
    let unsigned : LooksPlain (d.zeros ++ (d.whole ++ (point ++ tail))) = plain_end d.sign (d.zeros ++ (d.whole ++ (point ++ tail))) (subst LooksPlain parts plain) in
    let zeros : LooksPlain (replicate (length d.zeros) 48 ++ (d.whole ++ (point ++ tail))) = subst (λ (l : List ℕ). LooksPlain (l ++ (d.whole ++ (point ++ tail)))) d.parts.are_zeros unsigned in
    elim (parts_end (length d.zeros) d.whole d.fraction d.exponent rest d.right d.left d.parts.whole_digits d.parts.digits_behind d.parts.some_digit d.moves follows zeros) [
      | inl none ↦ inl (exact_scale bytes n d ∙ none)
      | inr other ↦ inr (λ tens. other (ap (λ k. k % 10) (sym (exact_size bytes n d)) ∙ tens))
    ]

-- ---- numbers

some_number : (m n : Num) → Some m ≡ Some n → m ≡ n
some_number m n e = cc

hexadecimal_whole : (b : Bool) (m : ℕ) (n : Num) → hexadecimal_number b m ≡ Some n → n.scale ≡ 0
unfolding hexadecimal_number
hexadecimal_whole false m n is = unsigned_tests (nat_lt m (2 ^ 64)) (nat_lt m (10 ^ 38)) is
  where
    unsigned_tests : (x y : Bool) → (if x then Some (record { form = uint64; scale = 0; whole = pos m }) else (if y then Some (record { form = decimal128; scale = 0; whole = pos m }) else None)) ≡ Some n → n.scale ≡ 0
    unsigned_tests true y e = ap (λ (x : Num). x.scale) (sym (some_number (record { form = uint64; scale = 0; whole = pos m }) n e))
    unsigned_tests false true e = ap (λ (x : Num). x.scale) (sym (some_number (record { form = decimal128; scale = 0; whole = pos m }) n e))
    unsigned_tests false false e = cc
hexadecimal_whole true m n is = signed_tests (nat_le m (2 ^ 63)) (nat_lt m (10 ^ 38)) is
  where
    signed_tests : (x y : Bool) → (if x then Some (record { form = int64; scale = 0; whole = neg_ℤ (pos m) }) else (if y then Some (record { form = decimal128; scale = 0; whole = neg_ℤ (pos m) }) else None)) ≡ Some n → n.scale ≡ 0
    signed_tests true y e = ap (λ (x : Num). x.scale) (sym (some_number (record { form = int64; scale = 0; whole = neg_ℤ (pos m) }) n e))
    signed_tests false true e = ap (λ (x : Num). x.scale) (sym (some_number (record { form = decimal128; scale = 0; whole = neg_ℤ (pos m) }) n e))
    signed_tests false false e = cc

integer_whole : (negative : Bool) (value : ℕ) (n : Num) → IsInteger negative value n → n.scale ≡ 0
integer_whole false value n is = ap (λ (x : Num). x.scale) is.1
integer_whole true value n is = ap (λ (x : Num). x.scale) is.1

hexadecimal_ends : (bytes : List ℕ) (n : Num) → IsHexadecimalNumber bytes n → EndsInNoZero n
hexadecimal_ends bytes n (sign, mark, whole, parts, is) = inl (hexadecimal_whole (starts_with_minus sign) _ n is)

pub number_ends : (mode : Mode) (bytes : List ℕ) (n : Num) → IsNumber mode bytes n → (rest : List ℕ) → Follows rest → LooksPlain (bytes ++ rest) → EndsInNoZero n
number_ends standard bytes n (negative, whole, joined, is_whole, is) rest follows plain = inl (integer_whole negative _ n is)
number_ends extended bytes n (inl decimal) rest follows plain = exact_ends bytes n (exact_decimal bytes n decimal) rest follows plain
number_ends extended bytes n (inr hexadecimal) rest follows plain = hexadecimal_ends bytes n hexadecimal
number_ends json bytes n is rest follows plain = exact_ends bytes n is.1 rest follows plain
number_ends extended_json bytes n (inl decimal) rest follows plain = exact_ends bytes n decimal rest follows plain
number_ends extended_json bytes n (inr hexadecimal) rest follows plain = hexadecimal_ends bytes n hexadecimal
