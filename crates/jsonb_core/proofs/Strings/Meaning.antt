-- What the first items of contents mean.
use Rattle.std.proofs.Common.{List, [], ◌∷◌, ◌≡◌, ◌≢◌, ℕ, ◌++◌, Bool, true, false, cond, ap, refl}
use Rattle.std.specs.List.{flat_map, AllByRecursion}
use Rattle.jsonb_spec.specs.Mode.{Mode}
use Rattle.jsonb_spec.specs.Grammar.StringBody.{Item, raw, escape, unit, after_u, encoding, IsItem, alone, together, meaning}
use Rattle.std.specs.Char.Utf16.{is_high_surrogate}
use Rattle.std.specs.Str.Parse.{digits_value}

pub each-append : (mode : Mode) (xs ys : List Item) → AllByRecursion (IsItem mode) xs → AllByRecursion (IsItem mode) ys → AllByRecursion (IsItem mode) (xs ++ ys)
each-append mode [] ys h k = k
each-append mode (x ∷ xs) ys h k = (h.0, each-append mode xs ys h.1 k)

pub meaning-raw : (byte : ℕ) (tail : List Item) → meaning (raw byte ∷ tail) ≡ byte ∷ meaning tail
unfolding meaning
meaning-raw byte tail = refl

pub meaning-escape : (letter byte : ℕ) (tail : List Item) → meaning (escape letter byte ∷ tail) ≡ byte ∷ meaning tail
unfolding meaning
meaning-escape letter byte tail = refl

pub meaning-together : (p q : Bool) (first next : List ℕ) (tail : List Item) → is_high_surrogate (digits_value 16 first) ≡ true → meaning (unit p first ∷ unit q next ∷ tail) ≡ together first next ++ meaning tail
unfolding meaning
meaning-together p q first next tail high = ap (λ b. cond b (together first next ++ meaning tail) (alone first ++ meaning (unit q next ∷ tail))) high

pub meaning-alone : (p : Bool) (digits : List ℕ) (tail : List Item) → is_high_surrogate (digits_value 16 digits) ≡ false → meaning (unit p digits ∷ tail) ≡ alone digits ++ meaning tail
unfolding meaning
meaning-alone p digits [] low = refl
meaning-alone p digits (raw byte ∷ tail) low = refl
meaning-alone p digits (escape letter byte ∷ tail) low = refl
meaning-alone p digits (unit q next ∷ tail) low = ap (λ b. cond b (together digits next ++ meaning tail) (alone digits ++ meaning (unit q next ∷ tail))) low

-- no unit is next
pub meaning-last : (p : Bool) (digits : List ℕ) (tail : List Item) → ((rest : List ℕ) → flat_map encoding tail ≢ 92 ∷ 117 ∷ rest) → meaning (unit p digits ∷ tail) ≡ alone digits ++ meaning tail
unfolding meaning
meaning-last p digits [] none = refl
meaning-last p digits (raw byte ∷ tail) none = refl
meaning-last p digits (escape letter byte ∷ tail) none = refl
meaning-last p digits (unit q next ∷ tail) none = absurd (none (after_u q next ++ flat_map encoding tail) refl)
