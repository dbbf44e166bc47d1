-- Texts that fit, and the parts of an interval's text.
use Rattle.std.proofs.Common.{◌≡◌, ◌≢◌, ℕ, ◌+◌, ◌-◌, ◌/◌, ◌%◌, ◌<◌, ◌≤◌, Bool, true, false, inl, inr, List, [], ◌∷◌, ◌++◌, length, slice_range, replicate, ◌==◌, if◌then◌else◌, ℤ, pos, negsuc, FitsSigned, int_div, int_rem, unsigned_abs, refl, sym, ap, ◌∙◌, eq-eqb, append_assoc, length-append, arith, codes}
use Rattle.std.proofs.lemmas.Bool.{ne_eqb, cond-true, cond-false}
use Rattle.std.proofs.lemmas.Bool.Decides.{nat_tests, eqb_tells}
use Rattle.std.proofs.lemmas.List.{take-replicate}
use Rattle.std.specs.Fmt.{sign_text, signed_decimal, decimal}
use Rattle.std.specs.Fmt.Cut.{cut_to}
use Rattle.std.proofs.lemmas.Int.{ints}
use Rattle.std.specs.Int.{w32, is_negative}
use Rattle.jsonb_spec.specs.Text.IntervalText.{amount_text, microseconds_text, clock_text, time_text, with_piece, beside, interval_text}
use Rattle.jsonb_spec.specs.Text.NumberText.{zero_padded}

-- a text that fits is not cut
cut_to-whole : (space : ℕ) (text : List ℕ) → length text ≤ space → cut_to space text ≡ text
unfolding cut_to
cut_to-whole space text h = grind (arith, nat_tests)

-- a part that fits is after the text, whichever of the two cases of `and_str` it is
pub appended_whole : (n : ℕ) (old part now : List ℕ) → (length old + length part < n → now ≡ old ++ cut_to (length part) part) → (n ≤ length old + length part → now ≡ cut_to n (old ++ part))
    → length old + length part ≤ n → now ≡ old ++ part
appended_whole n old part now within to_end space =
    elim (eqb_tells (length old + length part) n) [
      | inl w ↦ to_end (omega arith) ∙ cut_to-whole n (old ++ part) (omega (arith, length-append old part))
      | inr w ↦ within (omega arith) ∙ ap (λ p. old ++ p) (cut_to-whole (length part) part (omega arith))
    ]

-- zeros, as many as are asked for
pub zeros_taken : (k : ℕ) → k ≤ 6 → slice_range (codes "000000") 0 k ≡ replicate k 48
zeros_taken k h = let whole : k - 0 ≡ k = omega arith in rw whole (take-replicate k 6 48 h)

pub with_piece-none : (text : List ℕ) → length text ≡ 0 → text ≡ with_piece text
unfolding with_piece
with_piece-none [] h = refl
with_piece-none (b ∷ text) h = absurd (omega arith)

pub with_piece-some : (text : List ℕ) → length text ≢ 0 → text ++ 32 ∷ [] ≡ with_piece text
unfolding with_piece
with_piece-some [] h = absurd (h refl)
with_piece-some (b ∷ text) h = refl

pub length-with_piece : (text : List ℕ) → length (with_piece text) ≤ length text + 1
unfolding with_piece
length-with_piece [] = omega arith
length-with_piece (b ∷ text) = omega (arith, length-append text (32 ∷ []))

beside-some : (before text : List ℕ) → 0 < length text → beside before text ≡ with_piece before ++ text
unfolding beside
beside-some before [] h = absurd (omega arith)
beside-some before (c ∷ text) h = refl

beside-none : (before text : List ℕ) → text ≡ [] → before ≡ beside before text
unfolding beside
beside-none before [] h = refl
beside-none before (c ∷ text) h = cc h

beside-first : (text : List ℕ) → beside [] text ≡ text
unfolding beside with_piece
beside-first [] = refl
beside-first (c ∷ text) = refl

-- an amount of 0
pub beside_no_amount : (before : List ℕ) (a : ℤ) (name : List ℕ) → unsigned_abs a ≡ 0 → before ≡ beside before (amount_text a name)
unfolding amount_text
beside_no_amount before a name h = beside-none before _ (cond-true (unsigned_abs a == 0) _ _ (eq-eqb (unsigned_abs a) 0 h))

-- what is after a unit's name: nothing after one, and an s after more
abbrev pub ending : ℕ → List ℕ
ending n = if n == 1 then [] else 115 ∷ []

amount_text-is : (a : ℤ) (name : List ℕ) → unsigned_abs a ≢ 0 → amount_text a name ≡ signed_decimal a ++ 32 ∷ name ++ ending (unsigned_abs a)
unfolding amount_text
amount_text-is a name h = cond-false (unsigned_abs a == 0) _ _ (ne_eqb (unsigned_abs a) 0 h)

-- an amount that is there, with the unit's plural or not
pub beside_amount : (before : List ℕ) (a : ℤ) (name last now : List ℕ) → unsigned_abs a ≢ 0 → ending (unsigned_abs a) ≡ last
    → now ≡ (((with_piece before ++ signed_decimal a) ++ 32 ∷ []) ++ name) ++ last → now ≡ beside before (amount_text a name)
beside_amount before a name last now h e w =
    let is : amount_text a name ≡ signed_decimal a ++ 32 ∷ name ++ last = amount_text-is a name h ∙ ap (λ s. signed_decimal a ++ 32 ∷ name ++ s) e in
    let some : 0 < length (amount_text a name) = omega (arith, ap length is, length-append (signed_decimal a ++ 32 ∷ name) last, length-append (signed_decimal a) (32 ∷ name)) in
    w ∙ sym (beside-some before (amount_text a name) some ∙ ap (λ t. with_piece before ++ t) is ∙ simp append_assoc)

pub one_ends : (n : ℕ) → n ≡ 1 → ending n ≡ []
one_ends n h = cond-true (n == 1) _ _ (eq-eqb n 1 h)

pub more_end : (n : ℕ) → n ≢ 1 → ending n ≡ 115 ∷ []
more_end n h = cond-false (n == 1) _ _ (ne_eqb n 1 h)

-- no fraction
pub fraction_text-none : (micros : ℕ) → micros ≡ 0 → microseconds_text micros ≡ []
unfolding microseconds_text
fraction_text-none micros h = cond-true (micros == 0) _ _ (eq-eqb micros 0 h)

pub fraction_text-some : (micros : ℕ) → micros ≢ 0 → microseconds_text micros ≡ 46 ∷ zero_padded 6 (decimal micros)
unfolding microseconds_text
fraction_text-some micros h = cond-false (micros == 0) _ _ (ne_eqb micros 0 h)

-- the parts of a clock one after the other
pub clock_joined : (text : List ℕ) (micros : ℕ)
    → ((((text ++ zero_padded 2 (decimal (micros / 3600000000))) ++ 58 ∷ []) ++ zero_padded 2 (decimal (micros / 60000000 % 60))) ++ 58 ∷ []) ++ zero_padded 2 (decimal (micros / 1000000 % 60)) ++ microseconds_text (micros % 1000000)
    ≡ text ++ clock_text micros
unfolding clock_text
clock_joined text micros = simp append_assoc

pub length-sign_text : (negative : Bool) → length (sign_text negative) ≤ 1
length-sign_text true = omega arith
length-sign_text false = omega arith

-- no time
pub beside_no_time : (before : List ℕ) (micros : ℤ) → unsigned_abs micros ≡ 0 → before ≡ beside before (time_text micros)
unfolding time_text
beside_no_time before micros h = beside-none before _ (cond-true (unsigned_abs micros == 0) _ _ (eq-eqb (unsigned_abs micros) 0 h))

time_text-is : (micros : ℤ) → unsigned_abs micros ≢ 0 → time_text micros ≡ sign_text (is_negative micros) ++ clock_text (unsigned_abs micros)
unfolding time_text
time_text-is micros h = cond-false (unsigned_abs micros == 0) _ _ (ne_eqb (unsigned_abs micros) 0 h)

-- a clock has two colons at least
clock_text-some : (micros : ℕ) → 0 < length (clock_text micros)
unfolding clock_text
clock_text-some micros =
    let last = microseconds_text (micros % 1000000) in
    omega (arith, length-append {A = ℕ})

-- a time that is there
pub beside_time : (before : List ℕ) (micros : ℤ) (now : List ℕ) → unsigned_abs micros ≢ 0
    → now ≡ (with_piece before ++ sign_text (is_negative micros)) ++ clock_text (unsigned_abs micros) → now ≡ beside before (time_text micros)
beside_time before micros now h w =
    let is = time_text-is micros h in
    let some : 0 < length (time_text micros) = omega (arith, ap length is, length-append (sign_text (is_negative micros)) (clock_text (unsigned_abs micros)), clock_text-some (unsigned_abs micros)) in
    w ∙ append_assoc (with_piece before) (sign_text (is_negative micros)) (clock_text (unsigned_abs micros)) ∙ sym (beside-some before (time_text micros) some ∙ ap (λ t. with_piece before ++ t) is)

-- the two cases of the whole text
pub interval_text-none : (months days micros : ℤ) → unsigned_abs months ≡ 0 → unsigned_abs days ≡ 0 → unsigned_abs micros ≡ 0 → interval_text months days micros ≡ codes "00:00:00"
unfolding interval_text
interval_text-none months days micros p q r = grind (arith, nat_tests)

pub interval_text-some : (months days micros : ℤ) → (unsigned_abs months ≡ 0 → unsigned_abs days ≡ 0 → unsigned_abs micros ≡ 0 → ⊥)
    → beside (beside (beside (amount_text (int_div months (pos 12)) (codes "year")) (amount_text (int_rem months (pos 12)) (codes "month"))) (amount_text days (codes "day"))) (time_text micros) ≡ interval_text months days micros
unfolding interval_text
interval_text-some months days micros h = grind (arith, nat_tests)

-- the whole text, part by part
pub interval_text-joined : (months days micros : ℤ) (t0 t1 t2 t3 t4 : List ℕ) → (unsigned_abs months ≡ 0 → unsigned_abs days ≡ 0 → unsigned_abs micros ≡ 0 → ⊥)
    → t0 ≡ [] → t1 ≡ beside t0 (amount_text (int_div months (pos 12)) (codes "year")) → t2 ≡ beside t1 (amount_text (int_rem months (pos 12)) (codes "month"))
    → t3 ≡ beside t2 (amount_text days (codes "day")) → t4 ≡ beside t3 (time_text micros) → t4 ≡ interval_text months days micros
interval_text-joined months days micros t0 t1 t2 t3 t4 h e0 e1 e2 e3 e4 =
    e4 ∙ ap (λ t. beside t (time_text micros)) (e3 ∙ ap (λ t. beside t (amount_text days (codes "day"))) (e2
    ∙ ap (λ t. beside t (amount_text (int_rem months (pos 12)) (codes "month"))) (e1 ∙ ap (λ t. beside t (amount_text (int_div months (pos 12)) (codes "year"))) e0 ∙ beside-first _)))
    ∙ interval_text-some months days micros h

-- years and months are no more than the months that they come from
pub years_fit : (z : ℤ) → FitsSigned w32 z → FitsSigned w32 (int_div z (pos 12))
years_fit (pos n) f = omega (arith, ints)
years_fit (negsuc n) f = omega (arith, ints)

pub months_fit : (z : ℤ) → FitsSigned w32 z → FitsSigned w32 (int_rem z (pos 12))
months_fit (pos n) f = omega (arith, ints)
months_fit (negsuc n) f = omega (arith, ints)
