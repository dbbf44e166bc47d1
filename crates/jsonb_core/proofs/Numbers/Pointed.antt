-- Where the point of a number's text goes.
use Rattle.std.proofs.Common.{◌≡◌, ℕ, ◌+◌, ◌-◌, ◌<◌, ◌≤◌, List, [], ◌∷◌, ◌++◌, length, take, drop, refl, ◌∙◌, sym, arith, eqb, true, false, suc, ◌≢◌, ◌^◌, ap, ℤ, pos, negsuc}
use Rattle.std.specs.Prelude.{replicate, FitsSigned}
use Rattle.std.specs.Int.{w64, is_negative}
use Rattle.std.specs.Fmt.{decimal, signed_decimal, sign_text}
use Rattle.std.proofs.lemmas.Fmt.{decimal_is_IsNumeral_wide}
use Rattle.std.proofs.lemmas.Bool.Decides.{nat_tests}
use Rattle.std.proofs.lemmas.List.{append-nil, length-append, length-replicate}
use Rattle.jsonb_spec.specs.Text.NumberText.{zero_padded, with_point, text_of_parts}
use Rattle.jsonb_core.specs.declared.number.text.TextParts.{TextParts}
use Rattle.jsonb_core.specs.TextParts.{bytes_of_parts}

-- no zeros are missing
pub zero_padded-enough : (least : ℕ) (ds : List ℕ) → least ≤ length ds → zero_padded least ds ≡ ds
unfolding zero_padded
zero_padded-enough least ds enough =
    let none : least - length ds ≡ 0 = omega arith in rw none refl

-- a whole number has no point
pub pointed_whole : (ds : List ℕ) → 0 < length ds → with_point 0 (zero_padded 1 ds) ≡ ds
unfolding with_point
pointed_whole ds some = zero_padded-enough 1 ds (omega arith)

-- the digits go beyond the point
pub pointed_inside : (scale : ℕ) (ds : List ℕ) → 0 < scale → scale < length ds → with_point scale (zero_padded (scale + 1) ds) ≡ take (length ds - scale) ds ++ 46 ∷ drop (length ds - scale) ds
unfolding with_point
pointed_inside scale ds some inside =
    let same : zero_padded (scale + 1) ds ≡ ds = zero_padded-enough (scale + 1) ds (omega arith) in
    let tested : eqb scale 0 ≡ false = grind (arith, nat_tests) in
    rw (same, tested) refl

-- the digits all are behind the point
pub pointed_before : (scale : ℕ) (ds : List ℕ) → 0 < scale → length ds ≤ scale → with_point scale (zero_padded (scale + 1) ds) ≡ 48 ∷ 46 ∷ (replicate (scale - length ds) 48 ++ ds)
unfolding with_point zero_padded
pointed_before scale ds some behind =
    let tested : eqb scale 0 ≡ false = grind (arith, nat_tests) in
    let one_more : scale + 1 - length ds ≡ suc (scale - length ds) = omega arith in
    let long : length (replicate (scale - length ds) 48 ++ ds) ≡ scale = simp (length-append, length-replicate) (omega arith) in
    let one : suc (length (replicate (scale - length ds) 48 ++ ds)) - scale ≡ 1 = omega arith in
    rw (tested, one_more, one) refl

-- The pieces are the text: the digits before the point, the point, the zeros behind it and the other digits.
pub joined_whole : (scale : ℕ) (ds : List ℕ) → scale ≡ 0 → 0 < length ds → ds ++ ([] ++ (replicate 0 48 ++ [])) ≡ with_point scale (zero_padded (scale + 1) ds)
joined_whole scale ds none some = rw none (append-nil ds ∙ sym (pointed_whole ds some))

pub joined_inside : (scale : ℕ) (ds front back : List ℕ) → scale ≢ 0 → scale < length ds → front ≡ take (length ds - scale) ds → back ≡ drop (length ds - scale) ds → front ++ ((46 ∷ []) ++ (replicate 0 48 ++ back)) ≡ with_point scale (zero_padded (scale + 1) ds)
joined_inside scale ds front back some inside first last =
    rw (first, last) (sym (pointed_inside scale ds (omega arith) inside))

pub joined_before : (scale : ℕ) (ds : List ℕ) → scale ≢ 0 → length ds ≤ scale → (48 ∷ []) ++ ((46 ∷ []) ++ (replicate (scale - length ds) 48 ++ ds)) ≡ with_point scale (zero_padded (scale + 1) ds)
joined_before scale ds some behind = sym (pointed_before scale ds (omega arith) behind)

pub length-joined : (p : TextParts) → length (bytes_of_parts p) ≡ length p.sign.now + length p.front.now + length p.point.now + p.zeros + length p.back.now
length-joined p = simp (length-append, length-replicate) (omega arith)

-- ---- integers

pub is_negative-pos : (n : ℕ) → is_negative (pos n) ≡ false
is_negative-pos n = grind (arith, nat_tests)

pub unsigned_is_text : (n : ℕ) → n < 2 ^ 64 → decimal n ≡ text_of_parts 0 (pos n)
unfolding text_of_parts
unsigned_is_text n small =
    sym (ap (λ b. sign_text b ++ with_point 0 (zero_padded (0 + 1) (decimal n))) (is_negative-pos n) ∙ pointed_whole (decimal n) (decimal_is_IsNumeral_wide n (omega arith)).0.0)

negative_is_text : (n : ℕ) → suc n < 2 ^ 64 → 45 ∷ decimal (suc n) ≡ text_of_parts 0 (negsuc n)
unfolding text_of_parts
negative_is_text n small = sym (ap (λ r. sign_text true ++ r) (pointed_whole (decimal (suc n)) (decimal_is_IsNumeral_wide (suc n) (omega arith)).0.0))

-- what is written of an integer is its text
pub signed_is_text : (z : ℤ) → FitsSigned w64 z → signed_decimal z ≡ text_of_parts 0 z
signed_is_text (pos n) fits = unsigned_is_text n (omega (arith, fits.sfits))
signed_is_text (negsuc n) fits = negative_is_text n (omega (arith, fits.sfits))
