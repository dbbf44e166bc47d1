-- The index that a key encodes is what parsing the key gives.
use Rattle.std.proofs.Common.{◌≡◌, ◌≢◌, ◌<◌, ◌^◌, ℕ, Bool, true, false, ◌&&◌, List, [], ◌∷◌, length, drop, cond, if◌then◌else◌, IfNone, IfSome, Option, Some, None, Result, Ok, Err, refl, sym, ap, subst, ◌∙◌, arith}
use Rattle.std.proofs.lemmas.Bool.{cond-true, cond-false, lt-ltb, ltb-true}
use Rattle.std.specs.Bool.{nat_lt, ◌==◌}
use Rattle.std.specs.Char.{digit_value, is_digit}
use Rattle.std.specs.Prelude.{not, slice_index}
use Rattle.std.specs.Result.{result_ok}
use Rattle.std.specs.Str.Parse.{AllDigits, IsNumeral, ParsesUnsigned, digits_value, without_leading_plus}
use Rattle.jsonb_spec.specs.PartAt.{IsIndex, all_digits, index_named, leads_well}

pub and_left : (a b : Bool) → (a && b) ≡ true → a ≡ true
and_left true b e = refl
and_left false b e = e

pub and_right : (a b : Bool) → (a && b) ≡ true → b ≡ true
and_right true b e = e
and_right false b e = absurd cc

pub both : (a b : Bool) → a ≡ true → b ≡ true → (a && b) ≡ true
both true b d e = e
both false b d e = absurd cc

pub not_true : (b : Bool) → (b ≡ true → ⊥) → b ≡ false
not_true true h = absurd (h refl)
not_true false h = refl

-- ---- digits

pub digits_all : (ds : List ℕ) → all_digits ds ≡ true → AllDigits 10 ds
digits_all [] e = tt
digits_all (c ∷ cs) e =
    (ltb-true (digit_value c) 10 (and_left (is_digit c 10) (all_digits cs) e), digits_all cs (and_right (is_digit c 10) (all_digits cs) e))

pub all_are : (ds : List ℕ) → AllDigits 10 ds → all_digits ds ≡ true
all_are [] h = refl
all_are (c ∷ cs) h = both (is_digit c 10) (all_digits cs) (lt-ltb (digit_value c) 10 h.0) (all_are cs h.1)

some_there : (key : List ℕ) → leads_well key ≡ true → 0 < length key
some_there [] e = absurd cc
some_there (c ∷ cs) e = omega arith

-- ---- a key

-- what names an index
abbrev pub names : List ℕ → Bool
names key = leads_well key && (all_digits key && nat_lt (digits_value 10 key) (2 ^ 64))

-- a key that leads well, with no plus before it
pub parsed : {E : Type 0} (key : List ℕ) (r : Result ℕ E) → leads_well key ≡ true → (slice_index key 0 == 43) ≡ false → ParsesUnsigned 64 10 key r → result_ok r ≡ index_named key
parsed key (Ok x) leads plus h =
    let same : without_leading_plus key ≡ key = ap (λ b. drop (cond b 1 0) key) plus in
    let num : IsNumeral 10 key × (digits_value 10 key < 2 ^ 64) = subst (λ ds. IsNumeral 10 ds × (digits_value 10 ds < 2 ^ 64)) same h.0 in
    let fits = both (all_digits key) (nat_lt (digits_value 10 key) (2 ^ 64)) (all_are key num.0.1) (lt-ltb (digits_value 10 key) (2 ^ 64) num.1) in
    ap Some (h.1 ∙ ap (digits_value 10) same) ∙ sym (cond-true (names key) (Some (digits_value 10 key)) None (both (leads_well key) _ leads fits))
parsed key (Err e) leads plus h =
    let same : without_leading_plus key ≡ key = ap (λ b. drop (cond b 1 0) key) plus in
    sym (cond-false (names key) (Some (digits_value 10 key)) None (not_true (names key) (λ is.
    let rest = and_right (leads_well key) _ is in
    h (subst (λ ds. IsNumeral 10 ds × (digits_value 10 ds < 2 ^ 64)) (sym same)
    ((some_there key leads, digits_all key (and_left (all_digits key) _ rest)), ltb-true (digits_value 10 key) (2 ^ 64) (and_right (all_digits key) _ rest))))))

-- ---- indexes

well_led : (key : List ℕ) → 0 < length key → (1 < length key → slice_index key 0 ≢ 48) → leads_well key ≡ true
well_led [] some zero_last = absurd (omega arith)
well_led (c ∷ []) some zero_last = refl
well_led (c ∷ d ∷ ds) some zero_last = by (c == 48) refl
  where
    by : (b : Bool) → (c == 48) ≡ b → not b ≡ true
    by true e = absurd (zero_last (omega arith) (same_byte c e))
      where
        same_byte : (c : ℕ) → (c == 48) ≡ true → c ≡ 48
        same_byte c e = grind arith
    by false e = refl

no_zero : (key : List ℕ) → leads_well key ≡ true → 1 < length key → slice_index key 0 ≢ 48
no_zero [] e long = absurd cc
no_zero (c ∷ []) e long = absurd (omega arith)
no_zero (c ∷ d ∷ ds) e long = λ is. differ c is e
  where
    differ : (c : ℕ) → c ≡ 48 → not (c == 48) ≡ true → ⊥
    differ c is e = let zero : not (48 == 48) ≡ true = subst (λ b. not (b == 48) ≡ true) is e in cc

pub is_named : (key : List ℕ) (index : ℕ) → IsIndex key index → index < 2 ^ 64 → index_named key ≡ Some index
is_named key index is small =
    let fits : digits_value 10 key < 2 ^ 64 = subst (λ n. n < 2 ^ 64) is.value small in
    let digits = both (all_digits key) (nat_lt (digits_value 10 key) (2 ^ 64)) (all_are key is.digits.1) (lt-ltb (digits_value 10 key) (2 ^ 64) fits) in
    cond-true (leads_well key && (all_digits key && nat_lt (digits_value 10 key) (2 ^ 64))) (Some (digits_value 10 key)) None (both (leads_well key) _ (well_led key is.digits.0 is.no_zero) digits)
    ∙ ap Some (sym is.value)

pub names_index : (key : List ℕ) (index : ℕ) → index_named key ≡ Some index → IsIndex key index
names_index key index e = by (leads_well key && (all_digits key && nat_lt (digits_value 10 key) (2 ^ 64))) refl e
  where
    by : (b : Bool) → (leads_well key && (all_digits key && nat_lt (digits_value 10 key) (2 ^ 64))) ≡ b → (if b then Some (digits_value 10 key) else None) ≡ Some index → IsIndex key index
    by true is e = record {
      digits = (some_there key (and_left (leads_well key) _ is), digits_all key (and_left (all_digits key) _ (and_right (leads_well key) _ is)));
      no_zero = no_zero key (and_left (leads_well key) _ is);
      value = sym (same_number (digits_value 10 key) index e);
    }
      where
        same_number : (m n : ℕ) → Some m ≡ Some n → m ≡ n
        same_number m n e = cc
    by false is e = absurd (nothing e)
      where
        nothing : None ≡ Some index → ⊥
        nothing e = cc

-- what a key is as an index, and what one that names none isn't
pub index_there : (key : List ℕ) (o : Option ℕ) → o ≡ index_named key → IfSome o (λ index. IsIndex key index)
index_there key None e = tt
index_there key (Some index) e = names_index key index (sym e)

pub no_index_there : (key : List ℕ) (o : Option ℕ) → o ≡ index_named key → IfNone o ((index : ℕ) → index < 2 ^ 64 → IsIndex key index → ⊥)
no_index_there key None e = λ index small is. nothing index (e ∙ is_named key index is small)
  where
    nothing : (index : ℕ) → None ≡ Some index → ⊥
    nothing index e = cc
no_index_there key (Some index) e = tt
