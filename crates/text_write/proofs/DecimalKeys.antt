-- The bytes of a decimal's digits, as they are in a text, are its sort key.
use Rattle.std.proofs.Common.{◌≡◌, ◌≢◌, ℕ, zero, suc, ◌+◌, ◌-◌, ◌*◌, ◌^◌, ◌<◌, ◌≤◌, inl, inr, ⊎_elim, Bool, true, false, List, [], ◌∷◌, ◌++◌, length, length-append, map, take, drop, get_or, refl, sym, ap, subst, ◌∙◌, arith, eq-eqb}
use Rattle.std.specs.Prelude.{slice_index, slice_range, slice_set, unsigned_abs, replicate, if◌then◌else◌, ◌==◌}
use Rattle.std.specs.Char.{digit_value}
use Rattle.std.specs.Fmt.{decimal, sign_text}
use Rattle.std.specs.Int.{is_negative}
use Rattle.std.specs.Str.Parse.{AllDigits, digits_value, digits_value_after}
use Rattle.std.proofs.Math.Seq.{get_or-append_seam, take-suc-set}
use Rattle.std.proofs.lemmas.Bool.{cases_eq, cases_lt, ne_eqb}
use Rattle.std.proofs.lemmas.Fmt.{decimal_is_IsNumeral_wide, length-decimal-le_wide}
use Rattle.std.proofs.lemmas.List.{length-set, get_or-take, get_or-set_other, get_or-set_same, length-drop, length-replicate, length-take-le, take-append-drop}
use Rattle.std.proofs.lemmas.Str.Parse.{digit_from_value}
use Rattle.jsonb_spec.specs.SortKey.{invert_if, magnitude_key, number_key}
use Rattle.jsonb_spec.specs.Source.{Source}
use Rattle.jsonb_spec.specs.Text.NumberText.{number_text, text_of_parts, with_point, zero_padded}
use Rattle.jsonb_spec.specs.Tree.{Num}
use Rattle.jsonb_core.proofs.Numbers.DecimalTexts.{digits-after_zeros, digits-drop, digits-take, value-after_zeros}
use Rattle.jsonb_core.proofs.Numbers.Pointed.{pointed_before, pointed_inside}
use Rattle.jsonb_core.proofs.SortKeys.Numbers.{key_of_some, key_of_zero}
use Rattle.jsonb_spec.specs.Text.VerbatimScalar.{IsDecimalAt, IsShortDecimal}
use Rattle.jsonb_spec.specs.Parsing.Number.{has_minus, whole_start}
use Rattle.jsonb_spec.specs.Text.SourceText.{source_text}
use Rattle.text_write.proofs.IntegerKeys.{leading_value}
use Rattle.jsonb_core.proofs.SortKeys.Digits.{ten}
use Rattle.text_write.specs.DecimalKey.{IsOnlyPoint, without_points}
use Rattle.text_write.specs.KeySink.{Writes}
use Rattle.jsonb_spec.specs.SortKey.Joined.{source_key}
use Rattle.text_write.specs.declared.key.KeySink.{KeySink}

-- ---- bytes around points

pub points_more : (bytes : List ℕ) (i : ℕ) → i < length bytes → get_or bytes i 0 ≡ 46 → without_points (take (suc i) bytes) ≡ without_points (take i bytes)
points_more [] i l e = absurd (omega (arith, l))
points_more (b ∷ bytes) zero l e = let there : (b == 46) ≡ true = eq-eqb b 46 e in rw there refl
points_more (b ∷ bytes) (suc i) l e = ap (λ xs. if b == 46 then xs else b ∷ xs) (points_more bytes i (omega (arith, l)) e)

pub others_more : (bytes : List ℕ) (i : ℕ) → i < length bytes → get_or bytes i 0 ≢ 46 → without_points (take (suc i) bytes) ≡ without_points (take i bytes) ++ get_or bytes i 0 ∷ []
others_more [] i l e = absurd (omega (arith, l))
others_more (b ∷ bytes) zero l e = let other : (b == 46) ≡ false = ne_eqb b 46 e in rw other refl
others_more (b ∷ bytes) (suc i) l e =
    ap (λ xs. if b == 46 then xs else b ∷ xs) (others_more bytes i (omega (arith, l)) e) ∙ in_front (b == 46)
  where
    in_front : (x : Bool) → (if x then without_points (take i bytes) ++ get_or bytes i 0 ∷ [] else b ∷ (without_points (take i bytes) ++ get_or bytes i 0 ∷ [])) ≡ (if x then without_points (take i bytes) else b ∷ without_points (take i bytes)) ++ get_or bytes i 0 ∷ []
    in_front true = refl
    in_front false = refl

after_last : (n : ℕ) (ds : List ℕ) (d : ℕ) → digits_value_after 10 n (ds ++ d ∷ []) ≡ digits_value_after 10 n ds * 10 + digit_value d
after_last n [] d = refl
after_last n (e ∷ ds) d = after_last (n * 10 + digit_value e) ds d

value_last : (ds : List ℕ) (d : ℕ) → digits_value 10 (ds ++ d ∷ []) ≡ digits_value 10 ds * 10 + digit_value d
value_last ds d = after_last 0 ds d

all_parts : (ds es : List ℕ) → AllDigits 10 (ds ++ es) → AllDigits 10 ds × AllDigits 10 es
all_parts [] es h = (tt, h)
all_parts (d ∷ ds) es h = let p = all_parts ds es h.1 in ((h.0, p.0), p.1)

all_joined : (ds es : List ℕ) → AllDigits 10 ds → AllDigits 10 es → AllDigits 10 (ds ++ es)
all_joined [] es p q = q
all_joined (d ∷ ds) es p q = (p.0, all_joined ds es p.1 q)

-- ---- the digits so far

-- Of the first bytes the digits from the first on that is no zero are in a row.
pub record Collected (bytes : List ℕ) (index count scale : ℕ) (row : List ℕ) : Type 0 where
  pub within : index ≤ length bytes
  pub few : count ≤ index
  pub size : length row ≡ 32
  pub digits : AllDigits 10 (without_points (take index bytes)) → AllDigits 10 (take count row)
  pub value : digits_value 10 (take count row) ≡ digits_value 10 (without_points (take index bytes))
  pub leads : 0 < count → slice_index row 0 ≢ 48
  pub behind : (point : ℕ) → IsOnlyPoint bytes point → point < index → scale ≡ length bytes - 1 - point
  pub near : scale ≤ length bytes

pub at_point : (bytes : List ℕ) (index count scale : ℕ) (row : List ℕ) → index < length bytes → slice_index bytes index ≡ 46 → Collected bytes index count scale row → Collected bytes (index + 1) count (length bytes - 1 - index) row
at_point bytes index count scale row inside there so =
    let one : index + 1 ≡ suc index = omega arith in
    let same : without_points (take (index + 1) bytes) ≡ without_points (take index bytes) = ap (λ n. without_points (take n bytes)) one ∙ points_more bytes index inside there in
    record {
      within = omega (arith, inside);
      few = omega (arith, so.few);
      size = so.size;
      digits = λ all. so.digits (subst (AllDigits 10) same all);
      value = so.value ∙ ap (digits_value 10) (sym same);
      leads = so.leads;
      behind = λ point only before. ap (λ k. length bytes - 1 - k) (only.only index there);
      near = omega arith;
    }

-- a byte that is no point
other_scale : (bytes : List ℕ) (index scale : ℕ) → slice_index bytes index ≢ 46 → ((point : ℕ) → IsOnlyPoint bytes point → point < index → scale ≡ length bytes - 1 - point) → (point : ℕ) → IsOnlyPoint bytes point → point < index + 1 → scale ≡ length bytes - 1 - point
other_scale bytes index scale other so point only before =
    ⊎_elim (λ earlier. so point only earlier) (λ later. absurd (other (ap (slice_index bytes) {x = index} {y = point} (omega (arith, before, later)) ∙ only.is))) (cases_lt point index)

pub at_digit : (bytes : List ℕ) (index count scale byte : ℕ) (row : List ℕ) → length bytes < 32 → index < length bytes → byte ≡ slice_index bytes index → byte ≢ 46 → ((count ≡ 0) → byte ≢ 48) → Collected bytes index count scale row → Collected bytes (index + 1) (count + 1) scale (slice_set row count byte)
at_digit bytes index count scale byte row short inside is other some so =
    let one : index + 1 ≡ suc index = omega arith in
    let more : count + 1 ≡ suc count = omega arith in
    let space : count < length row = omega (arith, so.few, so.size, inside, short) in
    let there : slice_index bytes index ≢ 46 = λ z. other (is ∙ z) in
    let same : without_points (take (index + 1) bytes) ≡ without_points (take index bytes) ++ byte ∷ [] =
    ap (λ n. without_points (take n bytes)) one ∙ others_more bytes index inside there ∙ ap (λ b. without_points (take index bytes) ++ b ∷ []) (sym is) in
    let put : take (count + 1) (slice_set row count byte) ≡ take count row ++ byte ∷ [] = ap (λ n. take n (slice_set row count byte)) more ∙ take-suc-set row count byte space in
    record {
      within = omega (arith, inside);
      few = omega (arith, so.few);
      size = length-set row count byte ∙ so.size;
      digits = λ all.
          let parts = all_parts (without_points (take index bytes)) (byte ∷ []) (subst (AllDigits 10) same all) in
          subst (AllDigits 10) (sym put) (all_joined (take count row) (byte ∷ []) (so.digits parts.0) parts.1);
      value = ap (digits_value 10) put ∙ value_last (take count row) byte ∙ ap (λ v. v * 10 + digit_value byte) so.value ∙ sym (value_last (without_points (take index bytes)) byte) ∙ ap (digits_value 10) (sym same);
      leads = λ any. ⊎_elim (λ none. λ z. some none (sym (get_or-set_same row 0 byte 0 (omega (arith, so.size))) ∙ ap (λ n. slice_index (slice_set row n byte) 0) {x = 0} {y = count} (omega (arith, none)) ∙ z))
          (λ before. λ z. so.leads (omega (arith, before)) (sym (get_or-set_other row count 0 byte 0 (omega (arith, before))) ∙ z)) (cases_eq count 0);
      behind = other_scale bytes index scale there so.behind;
      near = so.near;
    }

-- a zero in front
pub at_zero : (bytes : List ℕ) (index scale : ℕ) (row : List ℕ) → index < length bytes → slice_index bytes index ≡ 48 → Collected bytes index 0 scale row → Collected bytes (index + 1) 0 scale row
at_zero bytes index scale row inside is so =
    let one : index + 1 ≡ suc index = omega arith in
    let there : slice_index bytes index ≢ 46 = λ z. absurd (omega (arith, sym is ∙ z)) in
    let same : without_points (take (index + 1) bytes) ≡ without_points (take index bytes) ++ 48 ∷ [] =
    ap (λ n. without_points (take n bytes)) one ∙ others_more bytes index inside there ∙ ap (λ b. without_points (take index bytes) ++ b ∷ []) is in
    record {
      within = omega (arith, inside);
      few = omega arith;
      size = so.size;
      digits = λ all. tt;
      value = ap (λ v. v * 10 + digit_value 48) so.value ∙ sym (value_last (without_points (take index bytes)) 48) ∙ ap (digits_value 10) (sym same);
      leads = so.leads;
      behind = other_scale bytes index scale there so.behind;
      near = so.near;
    }

pub collected_as : (bytes : List ℕ) (index count scale : ℕ) (row : List ℕ) (count_now scale_now : ℕ) (row_now : List ℕ) → count_now ≡ count → scale_now ≡ scale → row_now ≡ row → Collected bytes index count scale row → Collected bytes index count_now scale_now row_now
collected_as bytes index count scale row count_now scale_now row_now p q r so =
    subst (λ n. Collected bytes index n scale_now row_now) (sym p) (subst (λ n. Collected bytes index count n row_now) (sym q) (subst (λ xs. Collected bytes index count scale xs) (sym r) so))

-- ---- a number's text in its parts

-- the digits before the point and behind it
record IsPointed (text : List ℕ) (scale m : ℕ) : Type 0 where
  front : List ℕ
  back : List ℕ
  joined : text ≡ front ++ 46 ∷ back
  some : 0 < length front
  few : length front + length back ≤ 18
  front_digits : AllDigits 10 front
  back_digits : AllDigits 10 back
  long : length back ≡ scale
  value : digits_value 10 (front ++ back) ≡ m

pointed : (scale m : ℕ) → 0 < scale → scale < 18 → m < 10 ^ 18 → IsPointed (with_point scale (zero_padded (scale + 1) (decimal m))) scale m
pointed scale m point few small =
    let numeral = decimal_is_IsNumeral_wide m (omega (arith, small)) in
    let long = length-decimal-le_wide 18 m (omega arith) small (omega (arith, small)) in
    elim (cases_lt scale (length (decimal m))) [
      | inl inside ↦
          let n : ℕ = length (decimal m) - scale in
          let ahead : length (take n (decimal m)) ≡ n = length-take-le n (decimal m) (omega arith) in
          let behind : length (drop n (decimal m)) ≡ scale = omega (arith, length-drop n (decimal m), inside) in
          record {
            front = take n (decimal m);
            back = drop n (decimal m);
            joined = pointed_inside scale (decimal m) point inside;
            some = omega (arith, ahead, inside);
            few = omega (arith, ahead, behind, long, inside);
            front_digits = digits-take n (decimal m) numeral.0.1;
            back_digits = digits-drop n (decimal m) numeral.0.1;
            long = behind;
            value = ap (digits_value 10) (take-append-drop n (decimal m)) ∙ numeral.1;
          }
      | inr outside ↦
          let zeros : ℕ = scale - length (decimal m) in
          let behind : length (replicate zeros 48 ++ decimal m) ≡ scale = simp (length-append, length-replicate) (omega (arith, outside)) in
          record {
            front = 48 ∷ [];
            back = replicate zeros 48 ++ decimal m;
            joined = pointed_before scale (decimal m) point outside;
            some = omega arith;
            few = omega (arith, behind, few);
            front_digits = (omega arith, tt);
            back_digits = digits-after_zeros zeros (decimal m) numeral.0.1;
            long = behind;
            value = value-after_zeros zeros (decimal m) ∙ numeral.1;
          }
    ]

not_point : (ds : List ℕ) (k : ℕ) → AllDigits 10 ds → get_or ds k 0 ≡ 46 → ⊥
not_point [] k all e = absurd (omega (arith, e))
not_point (d ∷ ds) zero all e = absurd (omega (arith, digit_from_value d all.0, e))
not_point (d ∷ ds) (suc k) all e = not_point ds k all.1 e

no_points : (ds : List ℕ) → AllDigits 10 ds → without_points ds ≡ ds
no_points [] all = refl
no_points (d ∷ ds) all = let other : (d == 46) ≡ false = ne_eqb d 46 (not_point (d ∷ ds) 0 all) in rw other (ap (λ xs. d ∷ xs) (no_points ds all.1))

around_point : (front back : List ℕ) → AllDigits 10 front → AllDigits 10 back → without_points (front ++ 46 ∷ back) ≡ front ++ back
around_point [] back all more = no_points back more
around_point (d ∷ front) back all more = let other : (d == 46) ≡ false = ne_eqb d 46 (not_point (d ∷ front) 0 all) in rw other (ap (λ xs. d ∷ xs) (around_point front back all.1 more))

only_at : (front back : List ℕ) (k : ℕ) → AllDigits 10 front → AllDigits 10 back → get_or (front ++ 46 ∷ back) k 0 ≡ 46 → k ≡ length front
only_at [] back zero all more e = refl
only_at [] back (suc k) all more e = absurd (not_point back k more e)
only_at (d ∷ front) back zero all more e = absurd (not_point (d ∷ front) 0 all e)
only_at (d ∷ front) back (suc k) all more e = ap suc (only_at front back k all.1 more e)

no_minus : (front back : List ℕ) → 0 < length front → AllDigits 10 front → get_or (front ++ 46 ∷ back) 0 0 ≢ 45
no_minus [] back some all e = absurd (omega (arith, some))
no_minus (d ∷ front) back some all e = absurd (omega (arith, digit_from_value d all.0, e))

behind_sign : (b : Bool) (body bytes ds : List ℕ) → bytes ≡ sign_text b ++ body → get_or body 0 0 ≢ 45 → ds ≡ drop (whole_start bytes) bytes → (ds ≡ body) × ((slice_index bytes 0 == 45) ≡ b)
behind_sign true body bytes ds e other after = (after ∙ ap (λ bs. drop (whole_start bs) bs) e, ap has_minus e)
behind_sign false body bytes ds e other after =
    let none : has_minus body ≡ false = ne_eqb (get_or body 0 0) 45 other in
    let start : whole_start body ≡ 0 = rw none refl in
    (after ∙ ap (λ bs. drop (whole_start bs) bs) e ∙ ap (λ n. drop n body) start, ap has_minus e ∙ none)

-- The digits behind a minus or none are those of this decimal.
pub record IsDecimalOf (negative : Bool) (ds : List ℕ) (n : Num) : Type 0 where
  pub digits : AllDigits 10 (without_points ds)
  pub value : digits_value 10 (without_points ds) ≡ unsigned_abs n.whole
  pub point : ℕ
  pub only : IsOnlyPoint ds point
  pub scale : length ds - 1 - point ≡ n.scale
  pub sign : negative ≡ is_negative n.whole
  pub some : 0 < length ds
  pub few : length ds < 20

pub decimal_of : (n : Num) (bytes ds : List ℕ) → IsShortDecimal n → bytes ≡ number_text n → ds ≡ drop (whole_start bytes) bytes → IsDecimalOf (slice_index bytes 0 == 45) ds n
unfolding text_of_parts
decimal_of n bytes ds short text after =
    let p = pointed n.scale (unsigned_abs n.whole) short.point short.few short.small in
    let body : List ℕ = p.front ++ 46 ∷ p.back in
    let joined : bytes ≡ sign_text (is_negative n.whole) ++ body = text ∙ ap (λ xs. sign_text (is_negative n.whole) ++ xs) p.joined in
    let signed = behind_sign (is_negative n.whole) body bytes ds joined (no_minus p.front p.back p.some p.front_digits) after in
    let digits : without_points body ≡ p.front ++ p.back = around_point p.front p.back p.front_digits p.back_digits in
    let long : length body ≡ length p.front + (1 + length p.back) = simp (length-append) (omega arith) in
    subst (λ xs. IsDecimalOf (slice_index bytes 0 == 45) xs n) (sym signed.0)
    (record {
      digits = subst (AllDigits 10) (sym digits) (all_joined p.front p.back p.front_digits p.back_digits);
      value = ap (digits_value 10) digits ∙ p.value;
      point = length p.front;
      only = record { is = get_or-append_seam p.front 46 p.back 0; only = λ k e. only_at p.front p.back k p.front_digits p.back_digits e };
      scale = omega (arith, long, p.long);
      sign = signed.1;
      some = omega (arith, long);
      few = omega (arith, long, p.few);
    })

-- ---- what is appended

value_some : (ds : List ℕ) → AllDigits 10 ds → 0 < length ds → get_or ds 0 0 ≢ 48 → digits_value 10 ds ≢ 0
value_some [] all some leads z = absurd (omega (arith, some))
value_some (d ∷ ds) all some leads z = absurd (omega (arith, leading_value d ds all leads, z, ten (length ds)))

pub zero_written : (n : Num) (negative : Bool) (ds row : List ℕ) (count : ℕ) → IsDecimalOf negative ds n → count ≡ 0 → digits_value 10 (take count row) ≡ digits_value 10 (without_points ds) → number_key n ≡ 128 ∷ []
zero_written n negative ds row count of none value = key_of_zero n (sym (ap (λ k. digits_value 10 (take k row)) (sym none) ∙ value ∙ of.value))

pub some_written : (n : Num) (negative : Bool) (ds row before after : List ℕ) (count scale : ℕ) → IsShortDecimal n → IsDecimalOf negative ds n → 0 < count → length row ≡ 32 → count < 32 → (AllDigits 10 (without_points ds) → AllDigits 10 (take count row))
    → digits_value 10 (take count row) ≡ digits_value 10 (without_points ds) → slice_index row 0 ≢ 48 → ((point : ℕ) → IsOnlyPoint ds point → scale ≡ length ds - 1 - point)
    → (AllDigits 10 (take count row) → scale ≤ 30 → after ≡ before ++ map (invert_if negative) (magnitude_key scale (digits_value 10 (take count row)))) → after ≡ before ++ number_key n
some_written n negative ds row before after count scale short of some size few digits value leads behind wrote =
    let all = digits of.digits in
    let scaled : scale ≡ n.scale = behind of.point of.only ∙ of.scale in
    let is : digits_value 10 (take count row) ≡ unsigned_abs n.whole = value ∙ of.value in
    let any : unsigned_abs n.whole ≢ 0 = λ z. value_some (take count row) all (omega (arith, length-take-le count row (omega (arith, size, few)), some)) (λ e. leads (sym (get_or-take count row 0 0 some) ∙ e)) (is ∙ z) in
    wrote all (omega (arith, scaled, short.few))
    ∙ ap (λ xs. before ++ xs) ((λ i. map (invert_if (of.sign i)) (magnitude_key (scaled i) (is i))) ∙ sym (key_of_some n any))

-- no text is empty
pub not_empty : (n : Num) → IsShortDecimal n → [] ≡ number_text n → ⊥
not_empty n short text = absurd (omega (arith, (decimal_of n [] [] short text refl).some))

pub decimal_written : {r s : KeySink} (v : Source) (from to : ℕ) → IsDecimalAt r.members.text.now from to v
    → ((n : Num) → to ≤ length r.members.text.now → IsShortDecimal n → slice_range r.members.text.now from to ≡ number_text n → Writes (number_key n) r s) → Writes (source_key v) r s
decimal_written {r = r} {s = s} v from to at wrote =
    subst (λ (u : Source). Writes (source_key u) r s) (sym at.is) (wrote at.value at.inside at.short (at.same ∙ ap source_text at.is))
