-- The digits of numbers of 64 bits, written into a row from the last pair on; the two bytes of one or two digits.
use Rattle.std.proofs.Common.{◌≡◌, ◌≢◌, ℕ, zero, suc, ◌+◌, ◌-◌, ◌*◌, ◌/◌, ◌%◌, ◌^◌, ◌<◌, ◌≤◌, inl, inr, ◌⊎◌, Bool, List, [], ◌∷◌, ◌++◌, map, drop, length, slice_set, refl, sym, ap, ap₂, ◌∙◌, arith}
use Rattle.std.proofs.Math.Arith.{mod-mul}
use Rattle.std.proofs.Math.Nat.{div-div-eq-div-mul, pow-suc, pow-zero}
use Rattle.std.proofs.lemmas.Bool.{cases_eq}
use Rattle.std.proofs.lemmas.List.{drop-set, drop_all, length-set}
use Rattle.std.proofs.lemmas.Nat.{div-add-mod', mod_below, mod-mul-add, div-mul-add}
use Rattle.jsonb_spec.specs.SortKey.{digit_count, digits_key, magnitude_key, exponent_key, invert_if}
use Rattle.jsonb_core.proofs.SortKeys.Counts.{near, far}
use Rattle.jsonb_core.proofs.SortKeys.Numbers.{magnitude_split}
use Rattle.jsonb_core.proofs.SortKeys.Digits.{hundred, last_pair, more_pairs, mul-pos, ten}

-- The last `count` digits of m are in the row from `start` on. `front` is the number before them, and `more` is 1
-- where they are not all zeros, of which a single byte is there.
pub record AreWritten (negative : Bool) (m count start front more : ℕ) (row : List ℕ) : Type 0 where
  pub bytes : drop start row ≡ map (invert_if negative) (digits_key count (m % 10 ^ count))
  pub before : front ≡ m / 10 ^ count
  pub none : more ≡ 0 → (m % 10 ^ count ≡ 0) × (start ≡ 11)
  pub some : more ≢ 0 → (more ≡ 1) × (m % 10 ^ count ≢ 0)

-- ---- the last byte

pub two_digits : (x : ℕ) → digits_key 2 x ≡ (2 * x) ∷ []
two_digits x =
    let one : 10 ^ 0 ≡ 1 = refl in
    last_pair 0 x (omega (arith, mod_below x (10 ^ 0) (ten 0)))
    ∙ ap (λ y. (2 * y) ∷ []) {x = x / 10 ^ 0} {y = x} (omega (arith, div-add-mod' x (10 ^ 0), mod_below x (10 ^ 0) (ten 0)))

pub single_digit : (x : ℕ) → digits_key 1 x ≡ (20 * x) ∷ []
unfolding digits_key
single_digit x = refl

pub last_byte : (row : List ℕ) (byte : ℕ) → length row ≡ 12 → drop 11 (slice_set row 11 byte) ≡ byte ∷ []
last_byte row byte long = drop-set row 11 byte (omega arith) ∙ ap (λ r. byte ∷ r) (drop_all 12 row (omega arith))

pub begin_digits : (negative : Bool) (m count last front more byte : ℕ) (row : List ℕ) → length row ≡ 12
    → ◌≡◌ {A = List ℕ} ((2 * last) ∷ []) (digits_key count (m % 10 ^ count)) → (last ≡ 0 → m % 10 ^ count ≡ 0) → (m % 10 ^ count ≡ 0 → last ≡ 0)
    → front ≡ m / 10 ^ count → byte ≡ invert_if negative (2 * last) → (last ≢ 0 → more ≡ 1) → (last ≡ 0 → more ≡ 0)
    → AreWritten negative m count 11 front more (slice_set row 11 byte)
begin_digits negative m count last front more byte row long digits to from before e one none = record {
  bytes = last_byte row byte long ∙ ap (λ b. b ∷ []) e ∙ ap (map (invert_if negative)) digits;
  before = before;
  none = λ h. elim (cases_eq last 0) [ inl z ↦ (to z, refl) | inr z ↦ absurd (omega (arith, one z)) ];
  some = λ h. elim (cases_eq last 0) [ inl z ↦ absurd (h (none z)) | inr z ↦ (one z, λ y. z (from y)) ];
}

-- ---- a pair before the digits that are there

-- the last digits with one pair more
parts : (m c : ℕ) → m % 10 ^ suc (suc c) ≡ (m / 10 ^ c % 100) * 10 ^ c + m % 10 ^ c
parts m c = ap (λ x. m % x) (hundred c) ∙ mod-mul m (omega arith) (ten c)

first_pair : (m c : ℕ) → m % 10 ^ suc (suc c) / 10 ^ c ≡ m / 10 ^ c % 100
first_pair m c = ap (λ x. x / 10 ^ c) (parts m c) ∙ div-mul-add (m / 10 ^ c % 100) (10 ^ c) (m % 10 ^ c) (mod_below m (10 ^ c) (ten c))

others : (m c : ℕ) → m % 10 ^ suc (suc c) % 10 ^ c ≡ m % 10 ^ c
others m c = ap (λ x. x % 10 ^ c) (parts m c) ∙ mod-mul-add (m / 10 ^ c % 100) (10 ^ c) (m % 10 ^ c) (mod_below m (10 ^ c) (ten c))

after_zeros : (m c : ℕ) → m % 10 ^ c ≡ 0 → digits_key (suc (suc c)) (m % 10 ^ suc (suc c)) ≡ (2 * (m / 10 ^ c % 100)) ∷ []
after_zeros m c h = last_pair c (m % 10 ^ suc (suc c)) (others m c ∙ h) ∙ ap (λ p. (2 * p) ∷ []) (first_pair m c)

after_some : (m c : ℕ) → m % 10 ^ c ≢ 0
    → digits_key (suc (suc c)) (m % 10 ^ suc (suc c)) ≡ (2 * (m / 10 ^ c % 100) + 1) ∷ digits_key c (m % 10 ^ c)
after_some m c h =
    more_pairs c (m % 10 ^ suc (suc c)) (λ e. h (sym (others m c) ∙ e))
    ∙ (λ i. (2 * first_pair m c i + 1) ∷ digits_key c (others m c i))

still_zeros : (m c : ℕ) → m / 10 ^ c % 100 ≡ 0 → m % 10 ^ c ≡ 0 → m % 10 ^ suc (suc c) ≡ 0
still_zeros m c p r = omega (arith, parts m c, ap (λ x. x * 10 ^ c) p)

some_pair : (m c : ℕ) → m / 10 ^ c % 100 ≢ 0 → m % 10 ^ suc (suc c) ≢ 0
some_pair m c p e = absurd (omega (arith, parts m c, mul-pos (m / 10 ^ c % 100) (10 ^ c) (omega arith) (ten c)))

some_others : (m c : ℕ) → m % 10 ^ c ≢ 0 → m % 10 ^ suc (suc c) ≢ 0
some_others m c r e = absurd (omega (arith, parts m c))

module _ (negative : Bool) (m c start front more byte next : ℕ) (row : List ℕ) (long : length row ≡ 12) (some_capacity : 1 ≤ start) (within : start ≤ 11)
    (w : AreWritten negative m c start front more row) (e : byte ≡ invert_if negative (2 * (front % 100) + more))
    (one : front % 100 ≢ 0 → next ≡ 1) (same : front % 100 ≡ 0 → next ≡ more) where
  pair_is : front % 100 ≡ m / 10 ^ c % 100
  pair_is = ap (λ x. x % 100) w.before

  bytes_by : (more ≡ 0) ⊎ (more ≡ 0 → ⊥)
      → drop (start - more) (slice_set row (start - more) byte) ≡ map (invert_if negative) (digits_key (suc (suc c)) (m % 10 ^ suc (suc c)))
  bytes_by (inl z) =
      let at : start - more ≡ 11 = omega (arith, (w.none z).1) in
      let is : byte ≡ invert_if negative (2 * (m / 10 ^ c % 100)) = e ∙ ap (invert_if negative) {x = 2 * (front % 100) + more} (omega (arith, pair_is)) in
      rw at (last_byte row byte long ∙ ap (λ b. b ∷ []) is ∙ sym (ap (map (invert_if negative)) (after_zeros m c (w.none z).0)))
  bytes_by (inr z) =
      let at : start - more + 1 ≡ start = omega (arith, (w.some z).0) in
      let is : byte ≡ invert_if negative (2 * (m / 10 ^ c % 100) + 1) = e ∙ ap (invert_if negative) {x = 2 * (front % 100) + more} (omega (arith, pair_is, (w.some z).0)) in
      drop-set row (start - more) byte (omega arith) ∙ ap (λ n. byte ∷ drop n row) at
      ∙ (λ i. is i ∷ w.bytes i) ∙ sym (ap (map (invert_if negative)) (after_some m c (w.some z).1))

  none_by : (front % 100 ≡ 0) ⊎ (front % 100 ≡ 0 → ⊥) → next ≡ 0 → (m % 10 ^ suc (suc c) ≡ 0) × (start - more ≡ 11)
  none_by (inl z) h =
      let no_more : more ≡ 0 = sym (same z) ∙ h in
      (still_zeros m c (sym pair_is ∙ z) (w.none no_more).0, omega (arith, no_more, (w.none no_more).1))
  none_by (inr z) h = absurd (omega (arith, one z))

  some_by : (front % 100 ≡ 0) ⊎ (front % 100 ≡ 0 → ⊥) → next ≢ 0 → (next ≡ 1) × (m % 10 ^ suc (suc c) ≢ 0)
  some_by (inl z) h =
      let before = w.some (λ e. h (same z ∙ e)) in
      (same z ∙ before.0, some_others m c before.1)
  some_by (inr z) h = (one z, some_pair m c (λ e. z (pair_is ∙ e)))

  pub next_pair : AreWritten negative m (suc (suc c)) (start - more) (front / 100) next (slice_set row (start - more) byte)
  next_pair = record {
    bytes = bytes_by (cases_eq more 0);
    before = ap (λ x. x / 100) w.before ∙ div-div-eq-div-mul m (10 ^ c) 100 ∙ ap (λ x. m / x) {x = 10 ^ c * 100} (omega (arith, hundred c));
    none = none_by (cases_eq (front % 100) 0);
    some = some_by (cases_eq (front % 100) 0);
  }

-- ---- the exponent before the digits

pub far_exponent : (negative : Bool) (exponent end byte : ℕ) (row : List ℕ) → length row ≡ 12 → 1 ≤ end → end ≤ 12 → 225 ≤ exponent
    → byte ≡ invert_if negative (exponent - 95)
    → drop (end - 1) (slice_set row (end - 1) byte) ≡ map (invert_if negative) (exponent_key exponent) ++ drop end row
far_exponent negative exponent end byte row long low high l e =
    drop-set row (end - 1) byte (omega arith)
    ∙ ap (λ n. byte ∷ drop n row) {x = end - 1 + 1} {y = end} (omega arith)
    ∙ ap (λ b. b ∷ drop end row) e ∙ sym (ap (λ key. map (invert_if negative) key ++ drop end row) (far exponent l))

pub near_exponent : (negative : Bool) (exponent end byte sign : ℕ) (row : List ℕ) → length row ≡ 12 → 2 ≤ end → end ≤ 12 → exponent < 225
    → byte ≡ invert_if negative exponent → sign ≡ invert_if negative 129
    → drop (end - 2) (slice_set (slice_set row (end - 1) byte) (end - 2) sign) ≡ map (invert_if negative) (exponent_key exponent) ++ drop end row
near_exponent negative exponent end byte sign row long low high l e s =
    let first : drop (end - 1) (slice_set row (end - 1) byte) ≡ byte ∷ drop end row =
    drop-set row (end - 1) byte (omega arith) ∙ ap (λ n. byte ∷ drop n row) {x = end - 1 + 1} {y = end} (omega arith) in
    drop-set (slice_set row (end - 1) byte) (end - 2) sign (omega (arith, length-set row (end - 1) byte))
    ∙ ap (λ n. sign ∷ drop n (slice_set row (end - 1) byte)) {x = end - 2 + 1} {y = end - 1} (omega arith)
    ∙ ap (λ bytes. sign ∷ bytes) first
    ∙ (λ i. s i ∷ e i ∷ drop end row)
    ∙ sym (ap (λ key. map (invert_if negative) key ++ drop end row) (near exponent l))

-- what isn't written at once has two digits or more
pub two_or_more : (count m : ℕ) → m < 10 ^ count → ((count ≤ 20) × (18446744073709551616 ≤ m)) ⊎ (20 < count) → 2 ≤ count
two_or_more zero m below (inl h) = absurd (omega (arith, h.1, below, pow-zero 10))
two_or_more (suc zero) m below (inl h) = absurd (omega (arith, h.1, below, pow-suc 10 0, pow-zero 10))
two_or_more (suc (suc count)) m below (inl h) = omega arith
two_or_more count m below (inr h) = omega arith

-- ---- two bytes for one or two digits

pub small_key : (negative : Bool) (scale m count digits first second : ℕ) → scale < 31 → 1 ≤ count → count ≡ digit_count m
    → ◌≡◌ {A = List ℕ} (digits ∷ []) (digits_key (digit_count m) m)
    → first ≡ invert_if negative (count + 160 - scale) → second ≡ invert_if negative digits
    → ◌≡◌ {A = List ℕ} (first ∷ second ∷ []) (map (invert_if negative) (magnitude_key scale m))
small_key negative scale m count digits first second near some is key e f =
    let exponent : count + 255 - scale - 95 ≡ count + 160 - scale = omega arith in
    let head : first ∷ [] ≡ map (invert_if negative) (exponent_key (count + 255 - scale)) =
    ap (λ b. b ∷ []) (e ∙ ap (invert_if negative) (sym exponent)) ∙ sym (ap (map (invert_if negative)) (far (count + 255 - scale) (omega arith))) in
    let tail : second ∷ [] ≡ map (invert_if negative) (digits_key count m) =
    ap (λ b. b ∷ []) f ∙ ap (map (invert_if negative)) (key ∙ ap (λ n. digits_key n m) (sym is)) in
    ap₂ (λ front back. front ++ back) head tail
    ∙ sym (magnitude_split negative scale m count (count + 255 - scale) is refl)
