-- Text that is written as it is, and its parts.
use Rattle.std.proofs.Common.{◌≡◌, ◌≢◌, ℕ, zero, suc, get_or, append-nil, ◌+◌, ◌<◌, ◌≤◌, Bool, true, false, MatchBool, List, [], ◌∷◌, ◌++◌, length, take, drop, cond, eqb, leb, ltb, ◌-◌, subst, refl, sym, ap, ◌∙◌, arith, length-append}
use Rattle.std.proofs.Math.Seq.{take-add, take-append_seam}
use Rattle.std.proofs.lemmas.Bool.{leb-true}
use Rattle.std.proofs.lemmas.List.Concat.{flat_map-append}
use Rattle.std.specs.List.{flat_map}
use Rattle.jsonb_spec.specs.Text.StringText.{ArePlain, byte_text}

chosen_some : (t : Bool) (xs ys : List ℕ) → 0 < length xs → 0 < length ys → 0 < length (cond t xs ys)
chosen_some true xs ys p q = p
chosen_some false xs ys p q = q

pub byte_some : (b : ℕ) → 0 < length (byte_text b)
byte_some b =
    chosen_some (eqb b 34) _ _ (omega arith) (chosen_some (eqb b 92) _ _ (omega arith) (chosen_some (eqb b 10) _ _ (omega arith) (chosen_some (eqb b 13) _ _ (omega arith) (
    chosen_some (eqb b 9) _ _ (omega arith) (chosen_some (ltb b 32) _ _ (omega arith) (omega arith))
    ))))

pub no_shorter : (bytes : List ℕ) → length bytes ≤ length (flat_map byte_text bytes)
no_shorter [] = omega arith
no_shorter (b ∷ bytes) = omega (arith, byte_some b, no_shorter bytes, length-append (byte_text b) (flat_map byte_text bytes))

-- the first part of such a text
front_plain : (xs ys : List ℕ) → ArePlain (xs ++ ys) → ArePlain xs
front_plain xs ys h =
    let whole : flat_map byte_text xs ++ flat_map byte_text ys ≡ xs ++ ys = sym (flat_map-append byte_text xs ys) ∙ h in
    let long : length (flat_map byte_text xs) ≡ length xs = omega (arith, ap length whole, length-append (flat_map byte_text xs) (flat_map byte_text ys), length-append xs ys, no_shorter xs, no_shorter ys) in
    sym (take-append_seam (flat_map byte_text xs) (flat_map byte_text ys)) ∙ ap (λ n. take n (flat_map byte_text xs ++ flat_map byte_text ys)) long
    ∙ ap (take (length xs)) whole ∙ take-append_seam xs ys

pub fewer_plain : (bytes : List ℕ) (n m : ℕ) → ArePlain (take n bytes) → m ≤ n → ArePlain (take m bytes)
fewer_plain bytes n m h less =
    let sum : n ≡ m + (n - m) = omega arith in
    let split : take n bytes ≡ take m bytes ++ take (n - m) (drop m bytes) = ap (λ k. take k bytes) sum ∙ take-add m (n - m) bytes in
    front_plain (take m bytes) (take (n - m) (drop m bytes)) (subst (λ xs. ArePlain xs) split h)

pub one_plain : (b : ℕ) (bytes : List ℕ) → ArePlain (b ∷ bytes) → byte_text b ≡ b ∷ []
one_plain b bytes h = sym (append-nil (byte_text b)) ∙ front_plain (b ∷ []) bytes h

pub rest_plain : (b : ℕ) (bytes : List ℕ) → ArePlain (b ∷ bytes) → ArePlain bytes
rest_plain b bytes h = ap (drop 1) (ap (λ xs. xs ++ flat_map byte_text bytes) (sym (one_plain b bytes h)) ∙ h)

pub no_mark : (mark b : ℕ) → 1 < length (byte_text mark) → byte_text b ≡ b ∷ [] → b ≢ mark
no_mark mark b long h e = absurd (omega (arith, long, ap length (subst (λ x. byte_text x ≡ x ∷ []) e h)))

-- there is no quote among such bytes, and no backslash
pub no_marks : (bytes : List ℕ) → ArePlain bytes → (k : ℕ) → k < length bytes → (get_or bytes k 0 ≢ 34) × (get_or bytes k 0 ≢ 92)
no_marks [] h k low = absurd (omega (arith, low))
no_marks (b ∷ bytes) h zero low = let one = one_plain b bytes h in (no_mark 34 b (omega arith) one, no_mark 92 b (omega arith) one)
no_marks (b ∷ bytes) h (suc k) low = no_marks bytes (rest_plain b bytes h) k (omega (arith, low))

where_true : {P : Type 0} (t : Bool) → (t ≡ true → P) → MatchBool t P (Unit {0})
where_true true p = p refl
where_true false p = tt

-- as many as are asked for
pub plain_where : (bytes : List ℕ) (n m : ℕ) → ArePlain (take n bytes) → MatchBool (leb m n) (ArePlain (take m bytes)) (Unit {0})
plain_where bytes n m h = where_true (leb m n) (λ t. fewer_plain bytes n m h (leb-true m n t))
