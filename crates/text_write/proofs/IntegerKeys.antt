-- The bytes of a number's digits, as they are in a text, are its sort key.
use Rattle.std.proofs.Common.{◌≡◌, ◌≢◌, ℕ, zero, suc, ◌+◌, ◌-◌, ◌*◌, ◌/◌, ◌%◌, ◌^◌, ◌<◌, ◌≤◌, inl, inr, Bool, true, false, List, [], ◌∷◌, ◌++◌, length, map, take, drop, get_or, refl, sym, ap, ap₂, subst, ◌∙◌, arith, pos, append_assoc, eq-eqb}
use Rattle.std.specs.Prelude.{slice_index, slice_range, slice_set, neg_ℤ, unsigned_abs, if◌then◌else◌, ◌==◌, FitsSigned}
use mir.Val.{bool_byte}
use Rattle.std.specs.Char.{digit_value}
use Rattle.std.specs.Int.{is_negative, w64}
use Rattle.std.specs.Str.Parse.{AllDigits, IsNumeral, digits_value, digits_value_after}
use Rattle.std.proofs.Math.Nat.{pow-suc}
use Rattle.std.proofs.lemmas.Nat.{div-mul-add, mod-mul-add, mul-add-lt}
use Rattle.std.proofs.lemmas.Str.{digit_value_digit}
use Rattle.std.proofs.lemmas.Str.Parse.{digit_from_value}
use Rattle.std.proofs.lemmas.Int.Digits.{digits_value-lt}
use Rattle.jsonb_spec.specs.SortKey.{digits_key, digit_count, magnitude_key, number_key, invert_if}
use Rattle.jsonb_core.proofs.SortKeys.Digits.{last_pair, more_pairs, mul-pos, ten}
use Rattle.jsonb_core.proofs.SortKeys.Pairs.{single_digit}
use Rattle.jsonb_core.proofs.SortKeys.Counts.{digit_count-is, far, power_le}
use Rattle.jsonb_core.proofs.SortKeys.Numbers.{key_of_some, key_of_zero, magnitude_split}
use Rattle.jsonb_core.proofs.Numbers.DecimalTexts.{digits-take}
use Rattle.std.proofs.lemmas.Bool.{cases_eq, cases_lt, ne_eqb}
use Rattle.std.proofs.lemmas.Int.{ints}
use Rattle.jsonb_spec.specs.Grammar.StandardNumber.{IsStandardNumber}
use Rattle.jsonb_spec.specs.Tree.{Num}
use Rattle.jsonb_core.proofs.Numbers.Pointed.{is_negative-pos}
use Rattle.std.proofs.lemmas.Bool.Decides.{eqb_tells}
use Rattle.std.proofs.lemmas.List.{drop-take, drop_all, drop_more, get_or-drop, get_or-take, length-drop, length-take-le, take-append-drop, take-map, take-take, take_rest}
use Rattle.jsonb_spec.specs.Source.{Source}
use Rattle.text_write.specs.KeySink.{Writes}
use Rattle.jsonb_spec.specs.SortKey.Joined.{source_key}
use Rattle.text_write.specs.declared.key.KeySink.{KeySink}
use Rattle.jsonb_spec.specs.Text.VerbatimScalar.{IsIntegerAt}
use Rattle.text_write.specs.IntegerKey.{digit_bytes, last_byte, more_byte, more_bytes}

-- ---- what digits are worth

spread : (a b p : ℕ) → (a * 10 + b) * p ≡ a * (p * 10) + b * p
spread a b p = omega arith

value_after : (n : ℕ) (ds : List ℕ) → digits_value_after 10 n ds ≡ n * 10 ^ length ds + digits_value 10 ds
value_after n [] = omega arith
value_after n (d ∷ ds) =
    let power = 10 ^ length ds in
    let up : n * 10 ^ length (d ∷ ds) ≡ n * (power * 10) = ap (λ p. n * p) (pow-suc 10 (length ds)) in
    let one = value_after (n * 10 + digit_value d) ds in
    let two = value_after (0 * 10 + digit_value d) ds in
    omega (arith, up, one, two, spread n (digit_value d) power, spread 0 (digit_value d) power)

value_more : (d : ℕ) (ds : List ℕ) → digits_value 10 (d ∷ ds) ≡ digit_value d * 10 ^ length ds + digits_value 10 ds
value_more d ds = omega (arith, value_after (0 * 10 + digit_value d) ds, spread 0 (digit_value d) (10 ^ length ds))

value_two : (d e : ℕ) (ds : List ℕ) → digits_value 10 (d ∷ e ∷ ds) ≡ (digit_value d * 10 + digit_value e) * 10 ^ length ds + digits_value 10 ds
value_two d e ds =
    let power = 10 ^ length ds in
    let up : digit_value d * 10 ^ length (e ∷ ds) ≡ digit_value d * (power * 10) = ap (λ p. digit_value d * p) (pow-suc 10 (length ds)) in
    omega (arith, value_more d (e ∷ ds), value_more e ds, up, spread (digit_value d) (digit_value e) power)

abbrev AreZeros : List ℕ → Type 0
AreZeros zs = (k : ℕ) → k < length zs → get_or zs k 0 ≡ 48

zeros_value : (zs : List ℕ) → AreZeros zs → digits_value 10 zs ≡ 0
zeros_value [] h = refl
zeros_value (z ∷ zs) h =
    let none : digit_value z ≡ 0 = ap digit_value (h 0 (omega arith)) in
    omega (arith, value_more z zs, ap (λ v. v * 10 ^ length zs) none, zeros_value zs (λ k l. h (suc k) (omega arith)))

record IsDigit (d : ℕ) : Type 0 where
  value : digit_value d + 48 ≡ d
  small : digit_value d < 10

digit_is : (d : ℕ) → digit_value d < 10 → IsDigit d
digit_is d h = record { value = digit_value_digit d (digit_from_value d h); small = h }

-- the last digit is no zero
abbrev EndsInSome : List ℕ → Type 0
EndsInSome [] = Unit {0}
EndsInSome (d ∷ []) = d ≢ 48
EndsInSome (d ∷ e ∷ xs) = EndsInSome (e ∷ xs)

ends_in_some : (xs : List ℕ) → get_or xs (length xs - 1) 0 ≢ 48 → EndsInSome xs
ends_in_some [] h = tt
ends_in_some (d ∷ []) h = h
ends_in_some (d ∷ e ∷ xs) h =
    ends_in_some (e ∷ xs) (λ z. h (ap (λ n. get_or (d ∷ e ∷ xs) n 0) {x = suc (suc (length xs)) - 1} {y = suc (suc (length xs) - 1)} (omega arith) ∙ z))

some_digit : (d : ℕ) → digit_value d < 10 → d ≢ 48 → 0 < digit_value d
some_digit d h some = omega (arith, (digit_is d h).value, some)

some_value : (xs zs : List ℕ) → AllDigits 10 xs → 0 < length xs → EndsInSome xs → 0 < digits_value 10 (xs ++ zs)
some_value [] zs all l h = absurd (omega (arith, l))
some_value (d ∷ []) zs all l h =
    omega (arith, value_more d zs, mul-pos (digit_value d) (10 ^ length zs) (some_digit d all.0 h) (ten (length zs)))
some_value (d ∷ e ∷ xs) zs all l h = omega (arith, value_more d ((e ∷ xs) ++ zs), some_value (e ∷ xs) zs all.1 (omega arith) h)

-- ---- the key of digits

last_is : (d e : ℕ) → IsDigit d → IsDigit e → 2 * (digit_value d * 10 + digit_value e) ≡ last_byte d e
last_is d e p q = omega (arith, p.value, q.value, p.small, q.small)

more_is : (d e : ℕ) → IsDigit d → IsDigit e → 2 * (digit_value d * 10 + digit_value e) + 1 ≡ more_byte d e
more_is d e p q = omega (arith, p.value, q.value, p.small, q.small)

first_two : (d e : ℕ) (ds : List ℕ) → digits_value 10 ds < 10 ^ length ds → digits_value 10 (d ∷ e ∷ ds) / 10 ^ length ds ≡ digit_value d * 10 + digit_value e
first_two d e ds small = ap (λ v. v / 10 ^ length ds) (value_two d e ds) ∙ div-mul-add _ (10 ^ length ds) _ small

behind_two : (d e : ℕ) (ds : List ℕ) → digits_value 10 ds < 10 ^ length ds → digits_value 10 (d ∷ e ∷ ds) % 10 ^ length ds ≡ digits_value 10 ds
behind_two d e ds small = ap (λ v. v % 10 ^ length ds) (value_two d e ds) ∙ mod-mul-add (digit_value d * 10 + digit_value e) (10 ^ length ds) _ small

last_two : (d e : ℕ) (ds : List ℕ) → IsDigit d → IsDigit e → AreZeros ds → digits_key (suc (suc (length ds))) (digits_value 10 (d ∷ e ∷ ds)) ≡ last_byte d e ∷ []
last_two d e ds p q zeros =
    let none = zeros_value ds zeros in
    let small : digits_value 10 ds < 10 ^ length ds = omega (arith, none, ten (length ds)) in
    last_pair (length ds) _ (behind_two d e ds small ∙ none)
    ∙ ap (λ v. v ∷ []) (ap (λ v. 2 * v) (first_two d e ds small) ∙ last_is d e p q)

more_two : (d e : ℕ) (ds : List ℕ) → IsDigit d → IsDigit e → digits_value 10 ds < 10 ^ length ds → 0 < digits_value 10 ds → digits_key (suc (suc (length ds))) (digits_value 10 (d ∷ e ∷ ds)) ≡ more_byte d e ∷ digits_key (length ds) (digits_value 10 ds)
more_two d e ds p q small some =
    let rest = behind_two d e ds small in
    more_pairs (length ds) _ (λ z. absurd (omega (arith, rest, z, some)))
    ∙ ap₂ (λ v w. v ∷ digits_key (length ds) w) (ap (λ v. 2 * v + 1) (first_two d e ds small) ∙ more_is d e p q) rest

zero_is : IsDigit 48
zero_is = record { value = refl; small = omega arith }

zeros_are : (zs : List ℕ) → AreZeros zs → AllDigits 10 zs
zeros_are [] h = tt
zeros_are (z ∷ zs) h = (subst (λ d. digit_value d < 10) (sym (h 0 (omega arith))) (omega arith), zeros_are zs (λ k l. h (suc k) (omega arith)))

all_append : (xs ys : List ℕ) → AllDigits 10 xs → AllDigits 10 ys → AllDigits 10 (xs ++ ys)
all_append [] ys p q = q
all_append (x ∷ xs) ys p q = (p.0, all_append xs ys p.1 q)

digits_written : (xs zs : List ℕ) → AllDigits 10 xs → 0 < length xs → EndsInSome xs → AreZeros zs
    → digits_key (length (xs ++ zs)) (digits_value 10 (xs ++ zs)) ≡ digit_bytes xs
digits_written [] zs all l h zeros = absurd (omega (arith, l))
digits_written (d ∷ []) [] all l h zeros =
    let p = digit_is d all.0 in
    single_digit _ ∙ ap (λ v. v ∷ []) (omega (arith, last_is d 48 p zero_is))
digits_written (d ∷ []) (z ∷ zs) all l h zeros =
    let is : z ≡ 48 = zeros 0 (omega arith) in
    last_two d z zs (digit_is d all.0) (subst IsDigit (sym is) zero_is) (λ k l. zeros (suc k) (omega arith))
    ∙ ap (λ e. last_byte d e ∷ []) is
digits_written (d ∷ e ∷ []) zs all l h zeros = last_two d e zs (digit_is d all.0) (digit_is e all.1.0) zeros
digits_written (d ∷ e ∷ f ∷ xs) zs all l h zeros =
    let rest = all_append (f ∷ xs) zs all.1.1 (zeros_are zs zeros) in
    more_two d e ((f ∷ xs) ++ zs) (digit_is d all.0) (digit_is e all.1.0) (digits_value-lt 10 ((f ∷ xs) ++ zs) rest) (some_value (f ∷ xs) zs all.1.1 (omega arith) h)
    ∙ ap (λ bs. more_byte d e ∷ bs) (digits_written (f ∷ xs) zs all.1.1 (omega arith) h zeros)

-- ---- the key of a number above 0

-- the first digit is no zero
record LeadsIn (ds : List ℕ) : Type 0 where
  digits : AllDigits 10 ds
  some : 0 < length ds
  few : length ds < 32
  leads : get_or ds 0 0 ≢ 48

counted : (ds : List ℕ) → LeadsIn ds → digit_count (digits_value 10 ds) ≡ length ds
counted [] h = absurd (omega (arith, h.some))
counted (d ∷ ds) h =
    let p = digit_is d h.digits.0 in
    let power = 10 ^ length ds in
    let some = some_digit d h.digits.0 h.leads in
    let split : digit_value d ≡ (digit_value d - 1) + 1 = omega (arith, some) in
    let below = digits_value-lt 10 ds h.digits.1 in
    let is = value_more d ds in
    omega (
      arith,
      digit_count-is (digits_value 10 (d ∷ ds)) (length ds)
          (omega (arith, is, ap (λ v. v * power) split))
          (omega (arith, is, mul-add-lt (digit_value d) power (digits_value 10 ds) 10 p.small below))
          (omega (arith, h.few)),
    )

-- so many digits are left without the zeros at their end
pub record IsCut (ds : List ℕ) (len : ℕ) : Type 0 where
  pub some : 0 < len
  pub within : len ≤ length ds
  pub zeros : (k : ℕ) → len ≤ k → k < length ds → get_or ds k 0 ≡ 48
  pub last : 1 < len → get_or ds (len - 1) 0 ≢ 48

cut_ends : (ds : List ℕ) (len : ℕ) → get_or ds 0 0 ≢ 48 → IsCut ds len → EndsInSome (take len ds)
cut_ends ds len leads cut = ends_in_some (take len ds) (λ z.
    let long = length-take-le len ds cut.within in
    let there : get_or ds (len - 1) 0 ≡ 48 =
    sym (get_or-take len ds (len - 1) 0 (omega (arith, cut.some))) ∙ ap (λ n. get_or (take len ds) (n - 1) 0) (sym long) ∙ z in
    elim (cases_lt 1 len) [
      | inl l ↦ cut.last l there
      | inr l ↦ leads (ap (λ n. get_or ds n 0) {x = 0} {y = len - 1} (omega (arith, l, cut.some)) ∙ there)
    ])

-- digits of which so many are behind a point
pub scaled_bytes : (negative : Bool) (scale : ℕ) (ds : List ℕ) (len : ℕ) → AllDigits 10 ds → length ds < 32 → scale ≤ 30 → get_or ds 0 0 ≢ 48 → IsCut ds len
    → map (invert_if negative) (magnitude_key scale (digits_value 10 ds)) ≡ invert_if negative (160 + length ds - scale) ∷ map (invert_if negative) (digit_bytes (take len ds))
scaled_bytes negative scale ds len all few near leads cut =
    let whole = take-append-drop len ds in
    let count = counted ds (record { digits = all; some = omega (arith, cut.some, cut.within); few = few; leads = leads }) in
    let long = length-take-le len ds cut.within in
    let zeros : AreZeros (drop len ds) = λ k l. get_or-drop len ds k 0 ∙ cut.zeros (len + k) (omega arith) (omega (arith, l, length-drop len ds)) in
    let written = digits_written (take len ds) (drop len ds) (digits-take len ds all) (omega (arith, long, cut.some)) (cut_ends ds len leads cut) zeros in
    magnitude_split negative scale (digits_value 10 ds) (length ds) (length ds + 255 - scale) (sym count) refl
    ∙ ap₂ (λ offset digits. map (invert_if negative) offset ++ map (invert_if negative) digits)
    (far (length ds + 255 - scale) (omega (arith, near)) ∙ ap (λ n. n ∷ []) {x = length ds + 255 - scale - 95} {y = 160 + length ds - scale} (omega (arith, near)))
    (sym (ap (λ xs. digits_key (length xs) (digits_value 10 xs)) whole) ∙ written)

pub number_bytes : (negative : Bool) (ds : List ℕ) (len : ℕ) → AllDigits 10 ds → length ds < 32 → get_or ds 0 0 ≢ 48 → IsCut ds len
    → map (invert_if negative) (magnitude_key 0 (digits_value 10 ds)) ≡ invert_if negative (160 + length ds) ∷ map (invert_if negative) (digit_bytes (take len ds))
number_bytes negative ds len all few leads cut =
    scaled_bytes negative 0 ds len all few (omega arith) leads cut
    ∙ ap (λ n. invert_if negative n ∷ map (invert_if negative) (digit_bytes (take len ds))) {x = 160 + length ds - 0} {y = 160 + length ds} (omega arith)

-- ---- eight pairs at once

-- twice a number
abbrev double : ℕ → ℕ
double zero = zero
double (suc n) = suc (suc (double n))

double_is : (n : ℕ) → double n ≡ 2 * n
double_is zero = refl
double_is (suc n) = omega (arith, double_is n)

abbrev row_of : List ℕ → List ℕ
row_of [] = []
row_of (d ∷ []) = []
row_of (d ∷ e ∷ ds) = more_byte d e ∷ row_of ds

drop_two : (ds : List ℕ) (i : ℕ) → i + 1 < length ds → drop i ds ≡ get_or ds i 0 ∷ get_or ds (i + 1) 0 ∷ drop (i + 2) ds
drop_two ds i l =
    drop_more ds i 0 (omega (arith, l))
    ∙ ap (λ xs. get_or ds i 0 ∷ xs) (drop_more ds (i + 1) 0 l ∙ ap (λ n. get_or ds (i + 1) 0 ∷ drop n ds) {x = i + 1 + 1} {y = i + 2} (omega arith))

row_from : (n i : ℕ) (ds : List ℕ) → length ds ≡ i + double n → more_bytes n i ds ≡ row_of (drop i ds)
row_from zero i ds h = sym (ap row_of (drop_all i ds (omega (arith, h))))
row_from (suc n) i ds h =
    ap (λ bs. more_byte (get_or ds i 0) (get_or ds (i + 1) 0) ∷ bs) (row_from n (i + 2) ds (omega (arith, h)))
    ∙ sym (ap row_of (drop_two ds i (omega (arith, h))))

abbrev Paired : List ℕ → Type 0
Paired [] = Unit {0}
Paired (d ∷ []) = ⊥
Paired (d ∷ e ∷ ds) = Paired ds

paired : (n : ℕ) (ds : List ℕ) → length ds ≡ double n → Paired ds
paired zero [] h = tt
paired zero (d ∷ ds) h = absurd (omega (arith, h))
paired (suc n) [] h = tt
paired (suc n) (d ∷ []) h = absurd (omega (arith, h))
paired (suc n) (d ∷ e ∷ ds) h = paired n ds (omega (arith, h))

-- the row of pairs, of which this is the last
abbrev RowIs : List ℕ → ℕ → ℕ → ℕ → Type 0
RowIs ds last byte len = take (suc last) (slice_set (row_of ds) last byte) ≡ digit_bytes (take len ds)

odd_row : (last : ℕ) (ds : List ℕ) → Paired ds → double last < length ds → RowIs ds last (last_byte (get_or ds (double last) 0) 48) (suc (double last))
odd_row last [] p l = absurd (omega (arith, l))
odd_row last (d ∷ []) p l = absurd p
odd_row zero (d ∷ e ∷ ds) p l = refl
odd_row (suc last) (d ∷ e ∷ []) p l = absurd (omega (arith, l))
odd_row (suc last) (d ∷ e ∷ f ∷ ds) p l = ap (λ bs. more_byte d e ∷ bs) (odd_row last (f ∷ ds) p (omega (arith, l)))

even_row : (last : ℕ) (ds : List ℕ) → Paired ds → suc (double last) < length ds → RowIs ds last (last_byte (get_or ds (double last) 0) (get_or ds (suc (double last)) 0)) (suc (suc (double last)))
even_row last [] p l = absurd (omega (arith, l))
even_row last (d ∷ []) p l = absurd p
even_row zero (d ∷ e ∷ ds) p l = refl
even_row (suc last) (d ∷ e ∷ []) p l = absurd (omega (arith, l))
even_row (suc last) (d ∷ e ∷ f ∷ ds) p l = ap (λ bs. more_byte d e ∷ bs) (even_row last (f ∷ ds) p (omega (arith, l)))

pub row_written : (negative : Bool) (ds row : List ℕ) (len last first second : ℕ) → length ds ≡ 32 → row ≡ more_bytes 16 0 ds → 0 < len → len ≤ 32
    → last ≡ (len - 1) / 2 → first ≡ get_or ds (2 * last) 0 → (len % 2 ≡ 0 → second ≡ get_or ds (len - 1) 0) → (len % 2 ≢ 0 → second ≡ 48)
    → take (last + 1) (map (invert_if negative) (slice_set row last (last_byte first second))) ≡ map (invert_if negative) (digit_bytes (take len ds))
row_written negative ds row len last first second long is some few half f even odd =
    let row_is = is ∙ row_from 16 0 ds long in
    let pairs = paired 16 ds long in
    let twice = double_is last in
    let first_is : first ≡ get_or ds (double last) 0 = f ∙ ap (λ n. get_or ds n 0) (sym twice) in
    let more : last + 1 ≡ suc last = omega arith in
    let whole : take (suc last) (slice_set row last (last_byte first second)) ≡ digit_bytes (take len ds) =
    elim (eqb_tells (len % 2) 0) [
      | inl w ↦
          let end : len ≡ suc (suc (double last)) = omega (arith, half, twice, w.1, some) in
          let second_is : second ≡ get_or ds (suc (double last)) 0 = even w.1 ∙ ap (λ n. get_or ds n 0) (omega (arith, end)) in
          (λ i. take (suc last) (slice_set (row_is i) last (last_byte (first_is i) (second_is i))))
          ∙ even_row last ds pairs (omega (arith, end, few, long)) ∙ ap (λ n. digit_bytes (take n ds)) (sym end)
      | inr w ↦
          let end : len ≡ suc (double last) = omega (arith, half, twice, w.1, some) in
          let second_is = odd w.1 in
          (λ i. take (suc last) (slice_set (row_is i) last (last_byte (first_is i) (second_is i))))
          ∙ odd_row last ds pairs (omega (arith, end, few, long)) ∙ ap (λ n. digit_bytes (take n ds)) (sym end)
    ] in
    ap (λ n. take n (map (invert_if negative) (slice_set row last (last_byte first second)))) more
    ∙ take-map (invert_if negative) (suc last) (slice_set row last (last_byte first second)) ∙ ap (map (invert_if negative)) whole

-- the first bytes from an index on, turned round
abbrev turned_from : ℕ → ℕ → List ℕ → List ℕ
turned_from zero i xs = []
turned_from (suc n) i xs = (255 - get_or xs i 0) ∷ turned_from n (i + 1) xs

turned_are : (n i : ℕ) (xs : List ℕ) → length xs ≡ i + n → turned_from n i xs ≡ map (invert_if true) (drop i xs)
turned_are zero i xs h = sym (ap (map (invert_if true)) (drop_all i xs (omega (arith, h))))
turned_are (suc n) i xs h =
    ap (λ ys. (255 - get_or xs i 0) ∷ ys) (turned_are n (i + 1) xs (omega (arith, h))) ∙ sym (ap (map (invert_if true)) (drop_more xs i 0 (omega (arith, h))))

pub sixteen_turned : (xs : List ℕ) → length xs ≡ 16 → turned_from 16 0 xs ≡ map (invert_if true) xs
sixteen_turned xs h = turned_are 16 0 xs h

pub not_turned : (xs : List ℕ) → xs ≡ map (invert_if false) xs
not_turned [] = refl
not_turned (x ∷ xs) = ap (λ ys. x ∷ ys) (not_turned xs)

-- ---- integers of a text

-- The digits behind a minus or none are those of this integer.
pub record IsIntegerOf (negative : Bool) (ds : List ℕ) (n : Num) : Type 0 where
  pub numeral : IsNumeral 10 ds
  pub no_needless_zero : get_or ds 0 0 ≡ 48 → length ds ≡ 1
  pub small : digits_value 10 ds < 2 ^ 64
  pub scale : n.scale ≡ 0
  pub magnitude : unsigned_abs n.whole ≡ digits_value 10 ds
  pub sign : digits_value 10 ds ≢ 0 → is_negative n.whole ≡ negative

signs : (v : ℕ) → (unsigned_abs (neg_ℤ (pos v)) ≡ v) × (v ≢ 0 → is_negative (neg_ℤ (pos v)) ≡ true)
signs zero = (refl, λ h. absurd (h refl))
signs (suc v) = (refl, λ h. refl)

first_digit : (ds : List ℕ) → IsNumeral 10 ds → get_or ds 0 0 ≢ 45
first_digit [] h z = absurd (omega (arith, h.0))
first_digit (d ∷ ds) h z = absurd (omega (arith, (digit_is d h.1.0).value, z))

magnitude_fits : (v : ℕ) → FitsSigned w64 (neg_ℤ (pos v)) → v < 2 ^ 64
magnitude_fits zero h = omega arith
magnitude_fits (suc v) h = omega (arith, ints, h)

pub integer_of : (bytes : List ℕ) (len start : ℕ) (negative : Bool) (n : Num) → 0 < len → negative ≡ (slice_index bytes 0 == 45) → start ≡ bool_byte negative
    → IsStandardNumber (take len bytes) n → IsIntegerOf negative (drop start (take len bytes)) n
integer_of bytes len start negative n some is from (false, whole, joined, is_whole, value) =
    let first : get_or bytes 0 0 ≡ get_or whole 0 0 = sym (get_or-take len bytes 0 0 some) ∙ ap (λ xs. get_or xs 0 0) joined in
    let none : negative ≡ false = is ∙ ne_eqb (get_or bytes 0 0) 45 (λ z. first_digit whole is_whole.digits (sym first ∙ z)) in
    let begins : start ≡ 0 = from ∙ ap bool_byte none in
    let same : drop start (take len bytes) ≡ whole = ap (λ k. drop k (take len bytes)) begins ∙ joined in
    subst (λ ds. IsIntegerOf negative ds n) (sym same)
    (record {
      numeral = is_whole.digits;
      no_needless_zero = is_whole.no_needless_zero;
      small = value.0;
      scale = ap (λ (m : Num). m.scale) value.1;
      magnitude = ap (λ (m : Num). unsigned_abs m.whole) value.1;
      sign = λ z. ap (λ (m : Num). is_negative m.whole) value.1 ∙ is_negative-pos (digits_value 10 whole) ∙ sym none;
    })
integer_of bytes len start negative n some is from (true, whole, joined, is_whole, value) =
    let first : get_or bytes 0 0 ≡ 45 = sym (get_or-take len bytes 0 0 some) ∙ ap (λ xs. get_or xs 0 0) joined in
    let there : negative ≡ true = is ∙ eq-eqb (get_or bytes 0 0) 45 first in
    let begins : start ≡ 1 = from ∙ ap bool_byte there in
    let same : drop start (take len bytes) ≡ whole = (λ i. drop (begins i) (joined i)) in
    let signed = signs (digits_value 10 whole) in
    subst (λ ds. IsIntegerOf negative ds n) (sym same)
    (record {
      numeral = is_whole.digits;
      no_needless_zero = is_whole.no_needless_zero;
      small = magnitude_fits (digits_value 10 whole) value.0;
      scale = ap (λ (m : Num). m.scale) value.1;
      magnitude = ap (λ (m : Num). unsigned_abs m.whole) value.1 ∙ signed.0;
      sign = λ z. ap (λ (m : Num). is_negative m.whole) value.1 ∙ signed.1 z ∙ sym there;
    })

pub leading_value : (d : ℕ) (ds : List ℕ) → AllDigits 10 (d ∷ ds) → d ≢ 48 → 10 ^ length ds ≤ digits_value 10 (d ∷ ds)
leading_value d ds all leads =
    let some = some_digit d all.0 leads in
    let split : digit_value d ≡ (digit_value d - 1) + 1 = omega (arith, some) in
    omega (arith, value_more d ds, ap (λ v. v * 10 ^ length ds) split)

pub never_long : (negative : Bool) (ds : List ℕ) (n : Num) → IsIntegerOf negative ds n → length ds < 32
never_long negative [] n h = omega arith
never_long negative (d ∷ ds) n h =
    elim (eqb_tells d 48) [
      | inl w ↦ omega (arith, h.no_needless_zero w.1)
      | inr w ↦
          elim (cases_lt (length ds) 31) [
            | inl l ↦ omega (arith, l)
            | inr l ↦ absurd (omega (arith, power_le 31 (length ds) l, leading_value d ds h.numeral.1 w.1, h.small))
          ]
    ]

pub zero_key : (negative : Bool) (ds : List ℕ) (n : Num) → IsIntegerOf negative ds n → get_or ds 0 0 ≡ 48 → number_key n ≡ 128 ∷ []
zero_key negative [] n h z = absurd (omega (arith, h.numeral.0))
zero_key negative (d ∷ []) n h z = key_of_zero n (h.magnitude ∙ ap (λ e. digits_value 10 (e ∷ [])) z)
zero_key negative (d ∷ e ∷ ds) n h z = absurd (omega (arith, h.no_needless_zero z))

pub some_key : (negative : Bool) (ds : List ℕ) (n : Num) → IsIntegerOf negative ds n → get_or ds 0 0 ≢ 48
    → number_key n ≡ map (invert_if negative) (magnitude_key 0 (digits_value 10 ds))
some_key negative [] n h leads = absurd (omega (arith, h.numeral.0))
some_key negative (d ∷ ds) n h leads =
    let some : digits_value 10 (d ∷ ds) ≢ 0 = λ z. absurd (omega (arith, leading_value d ds h.numeral.1 leads, z, ten (length ds))) in
    key_of_some n (λ z. some (sym h.magnitude ∙ z))
    ∙ (λ i. map (invert_if (h.sign some i)) (magnitude_key (h.scale i) (h.magnitude i)))

-- ---- what is appended

pub scaled_appended : (negative : Bool) (scale : ℕ) (digits before mid after : List ℕ) (count len offset : ℕ) → 0 < count → count < 32 → scale ≤ 30 → count ≤ length digits
    → get_or digits 0 0 ≢ 48 → IsCut (take count digits) len → mid ≡ before ++ offset ∷ [] → offset ≡ invert_if negative (160 + count - scale)
    → after ≡ mid ++ map (invert_if negative) (digit_bytes (take len digits)) → AllDigits 10 (take count digits)
    → after ≡ before ++ map (invert_if negative) (magnitude_key scale (digits_value 10 (take count digits)))
scaled_appended negative scale digits before mid after count len offset some few near inside leads cut m p a all =
    let long = length-take-le count digits inside in
    let bytes = scaled_bytes negative scale (take count digits) len all (omega (arith, long)) near (λ z. leads (sym (get_or-take count digits 0 0 some) ∙ z)) cut in
    a ∙ ap₂ (λ xs ds. xs ++ map (invert_if negative) (digit_bytes ds)) m (sym (take-take len count digits (omega (arith, cut.within, long))))
    ∙ append_assoc before (offset ∷ []) (map (invert_if negative) (digit_bytes (take len (take count digits))))
    ∙ ap (λ xs. before ++ xs) (ap (λ b. b ∷ map (invert_if negative) (digit_bytes (take len (take count digits)))) (p ∙ ap (λ k. invert_if negative (160 + k - scale)) (sym long)) ∙ sym bytes)

pub appended : (negative : Bool) (digits before mid after : List ℕ) (count len offset : ℕ) → 0 < count → count < 32 → count ≤ length digits
    → get_or digits 0 0 ≢ 48 → IsCut (take count digits) len → mid ≡ before ++ offset ∷ [] → offset ≡ invert_if negative (160 + count)
    → after ≡ mid ++ map (invert_if negative) (digit_bytes (take len digits)) → AllDigits 10 (take count digits)
    → after ≡ before ++ map (invert_if negative) (magnitude_key 0 (digits_value 10 (take count digits)))
appended negative digits before mid after count len offset some few inside leads cut m p a all =
    scaled_appended negative 0 digits before mid after count len offset some few (omega arith) inside leads cut m
    (p ∙ ap (invert_if negative) {x = 160 + count} {y = 160 + count - 0} (omega arith)) a all

-- so many bytes behind a sign
abbrev pub behind_sign : List ℕ → ℕ → ℕ → List ℕ
behind_sign bytes len start = take (len - start) (take (length bytes - start) (drop start bytes))

pub digits_behind : (bytes : List ℕ) (len start : ℕ) (negative : Bool) (n : Num) → len ≤ length bytes → start < len → negative ≡ (slice_index bytes 0 == 45)
    → start ≡ bool_byte negative → IsStandardNumber (take len bytes) n → IsIntegerOf negative (behind_sign bytes len start) n
digits_behind bytes len start negative n inside some is from number =
    let whole : start + (len - start) ≡ len = omega (arith, some) in
    subst (λ ds. IsIntegerOf negative ds n)
    (ap (λ k. drop start (take k bytes)) (sym whole) ∙ drop-take start (len - start) bytes ∙ ap (take (len - start)) (sym (take_rest bytes start)))
    (integer_of bytes len start negative n (omega (arith, some)) is from number)

pub behind_len : (bytes : List ℕ) (len start : ℕ) → len ≤ length bytes → start ≤ len → length (behind_sign bytes len start) ≡ len - start
behind_len bytes len start inside some =
    length-take-le (len - start) (take (length bytes - start) (drop start bytes)) (omega (arith, inside, ap length (take_rest bytes start), length-drop start bytes))

pub behind_first : (bytes : List ℕ) (len start : ℕ) → start < len → get_or (behind_sign bytes len start) 0 0 ≡ get_or (take (length bytes - start) (drop start bytes)) 0 0
behind_first bytes len start some = get_or-take (len - start) (take (length bytes - start) (drop start bytes)) 0 0 (omega (arith, some))

-- one digit or two
pub few_bytes : (negative : Bool) (digits : List ℕ) (count offset byte second : ℕ) → 0 < count → count ≤ 2 → count ≤ length digits → get_or digits 0 0 ≢ 48
    → offset ≡ invert_if negative (160 + count) → byte ≡ invert_if negative (last_byte (get_or digits 0 0) second) → (count ≡ 2 → second ≡ get_or digits 1 0) → (count ≢ 2 → second ≡ 48)
    → AllDigits 10 (take count digits) → offset ∷ byte ∷ [] ≡ map (invert_if negative) (magnitude_key 0 (digits_value 10 (take count digits)))
few_bytes negative digits zero offset byte second some few inside leads p b two one all = absurd (omega (arith, some))
few_bytes negative [] (suc count) offset byte second some few inside leads p b two one all = absurd (omega (arith, inside))
few_bytes negative (d ∷ ds) (suc zero) offset byte second some few inside leads p b two one all =
    let cut : IsCut (d ∷ []) 1 = record { some = omega arith; within = omega arith; zeros = λ k low high. absurd (omega (arith, low, high)); last = λ l. absurd (omega (arith, l)) } in
    ap₂ (λ x y. x ∷ y ∷ []) p (b ∙ ap (λ e. invert_if negative (last_byte d e)) (one (λ z. absurd (omega (arith, z)))))
    ∙ sym (number_bytes negative (d ∷ []) 1 all (omega arith) leads cut)
few_bytes negative (d ∷ []) (suc (suc count)) offset byte second some few inside leads p b two one all = absurd (omega (arith, inside))
few_bytes negative (d ∷ e ∷ ds) (suc (suc zero)) offset byte second some few inside leads p b two one all =
    elim (cases_eq e 48) [
      | inl z ↦
          let cut : IsCut (d ∷ e ∷ []) 1 = record { some = omega arith; within = omega arith; zeros = λ k low high. ap (λ n. get_or (d ∷ e ∷ []) n 0) {x = k} {y = 1} (omega (arith, low, high)) ∙ z; last = λ l. absurd (omega (arith, l)) } in
          ap₂ (λ x y. x ∷ y ∷ []) p (b ∙ ap (λ y. invert_if negative (last_byte d y)) (two refl ∙ z))
          ∙ sym (number_bytes negative (d ∷ e ∷ []) 1 all (omega arith) leads cut)
      | inr n ↦
          let cut : IsCut (d ∷ e ∷ []) 2 = record { some = omega arith; within = omega arith; zeros = λ k low high. absurd (omega (arith, low, high)); last = λ l. n } in
          ap₂ (λ x y. x ∷ y ∷ []) p (b ∙ ap (λ y. invert_if negative (last_byte d y)) (two refl))
          ∙ sym (number_bytes negative (d ∷ e ∷ []) 2 all (omega arith) leads cut)
    ]
few_bytes negative (d ∷ e ∷ ds) (suc (suc (suc count))) offset byte second some few inside leads p b two one all = absurd (omega (arith, few))

-- ---- in a sink

-- the form of a number is no part of its key
pub same_key : (m n : Num) → m.scale ≡ n.scale → m.whole ≡ n.whole → number_key m ≡ number_key n
unfolding number_key
same_key m n scale whole =
    ap₂ (λ s w. if unsigned_abs w == 0 then 128 ∷ [] else map (invert_if (is_negative w)) (magnitude_key s (unsigned_abs w))) scale whole

pub integer_written : {r s : KeySink} (v : Source) (from to : ℕ) → IsIntegerAt r.members.text.now from to v
    → ((n : Num) → to ≤ length r.members.text.now → IsStandardNumber (slice_range r.members.text.now from to) n → Writes (number_key n) r s) → Writes (source_key v) r s
integer_written {r = r} {s = s} v from to at wrote =
    subst (λ (u : Source). Writes (source_key u) r s) (sym at.is)
    (subst (λ bytes. Writes bytes r s) (sym (same_key at.value at.integer at.scale at.whole)) (wrote at.integer at.inside at.digits))
