-- The number that a key begins with: its sign, its exponent and its digits.
use Rattle.std.proofs.Common.{◌≡◌, ◌≢◌, ℕ, zero, suc, ◌-◌, ◌≤◌, Bool, true, false, List, ◌∷◌, ◌++◌, map, None, ℤ, pos, negsuc, unsigned_abs, refl, sym, ap, ◌∙◌, arith}
use Rattle.std.specs.Bool.{nat_lt}
use Rattle.jsonb_spec.specs.Proper.{IsProperNumber}
use Rattle.jsonb_spec.specs.SortKey.{number_key, digits_key, invert_if}
use Rattle.jsonb_spec.specs.Tree.{Num}
use Rattle.jsonb_core.proofs.SortKeys.Kinds.{is_small}
use Rattle.jsonb_core.proofs.SortKeys.Numbers.{positive, negative, head_of}
use Rattle.jsonb_core.proofs.Trees.Runs.{heads}
use Rattle.jsonb_spec.specs.SortKey.Reading.{exponent_of, read_as}
use Rattle.key_value.proofs.Numbers.{exponent_read}
use Rattle.key_value.proofs.Signs.{IsSigned, signed_read}
use Rattle.key_value.proofs.Texts.{none_some, some_pair}

-- with the byte of 0 it is 0
pub zero_there : (n : Num) → IsProperNumber n → (first : ℕ) (rest bytes more : List ℕ) → bytes ≡ first ∷ rest → first ≡ 128 → bytes ≡ number_key n ++ more → n.whole ≡ pos 0
zero_there n proper first rest bytes more e is occurs = by_whole n.whole refl
  where
    by_whole : (z : ℤ) → n.whole ≡ z → n.whole ≡ pos 0
    by_whole (pos zero) w = w
    by_whole (pos (suc a)) w =
        let x = head_of n a (ap unsigned_abs w) (is_small n proper) in
        let key = positive n a w ∙ ap (map (invert_if false)) x.is in
        absurd (omega (arith, is, x.low, heads first x.head rest (map (invert_if false) x.tail ++ more) (sym e ∙ occurs ∙ ap (λ k. k ++ more) key)))
    by_whole (negsuc a) w =
        let x = head_of n a (ap unsigned_abs w) (is_small n proper) in
        let key = negative n a w ∙ ap (map (invert_if true)) x.is in
        absurd (omega (arith, is, x.low, x.high, heads first (255 - x.head) rest (map (invert_if true) x.tail ++ more) (sym e ∙ occurs ∙ ap (λ k. k ++ more) key)))

module _ (n : Num) (proper : IsProperNumber n) (first : ℕ) (rest bytes more : List ℕ) (e : bytes ≡ first ∷ rest) (other : first ≢ 128) (occurs : bytes ≡ number_key n ++ more) where
  abbrev pub sign : Bool
  sign = nat_lt first 128

  abbrev pub signed : IsSigned n sign bytes more
  signed = signed_read n proper first rest bytes more e other occurs

  -- the digits, and what follows them
  abbrev pub digits_there : List ℕ
  digits_there = map (invert_if sign) (digits_key signed.count (unsigned_abs n.whole)) ++ more

  pub exponent_there : exponent_of sign bytes ≡ read_as signed.exponent digits_there
  exponent_there = ap (exponent_of sign) signed.occurs ∙ exponent_read sign signed.exponent digits_there signed.low

  pub some_exponent : None ≡ exponent_of sign bytes → ⊥
  some_exponent none = none_some _ (none ∙ exponent_there)

  pub is_exponent_key : (exponent : ℕ) (digits : List ℕ) → read_as exponent digits ≡ exponent_of sign bytes → (exponent ≡ signed.exponent) × (digits ≡ digits_there)
  is_exponent_key exponent digits read = some_pair exponent signed.exponent digits digits_there (read ∙ exponent_there)

  pub near_exponent : signed.exponent ≤ 294
  near_exponent = omega (arith, signed.is_exponent_key, signed.few)
