-- The key of a number by its sign.
use Rattle.std.proofs.Common.{◌≡◌, ◌≢◌, ℕ, zero, suc, ◌+◌, ◌-◌, ◌*◌, ◌^◌, ◌<◌, ◌≤◌, Bool, true, false, Equal, List, ◌∷◌, ◌++◌, map, None, ℤ, pos, negsuc, unsigned_abs, refl, sym, subst, ap, ◌∙◌, arith, append_assoc, length}
use Rattle.std.proofs.lemmas.Bool.{lt-ltb, le-ltb}
use Rattle.std.specs.Bool.{nat_lt}
use Rattle.std.specs.Int.{is_negative}
use Rattle.jsonb_spec.specs.Order.{num_cmp}
use Rattle.jsonb_spec.specs.Proper.{IsProperNumber}
use Rattle.jsonb_spec.specs.SortKey.{number_key, magnitude_key, exponent_key, digits_key, digit_count, invert_if}
use Rattle.jsonb_spec.specs.Tree.{Num, number}
use Rattle.jsonb_core.proofs.Numbers.Pointed.{is_negative-pos}
use Rattle.jsonb_core.proofs.SortKeys.Counts.{digits_counted, digit_count-le}
use Rattle.jsonb_core.proofs.SortKeys.Kinds.{is_small, number_begins}
use Rattle.jsonb_core.proofs.SortKeys.Numbers.{positive, negative, nothing_there, head_of, magnitude_split}
use Rattle.jsonb_core.proofs.SortKeys.Trees.{keys_same}
use Rattle.jsonb_core.proofs.Trees.Runs.{heads, tails}
use Rattle.jsonb_spec.specs.SortKey.Reading.{exponent_of, read_as}
use Rattle.key_value.proofs.Numbers.{exponent_read}
use Rattle.key_value.proofs.Texts.{none_some, some_pair}

-- with the byte of 0 it is 0
pub zero_there : (n : Num) → IsProperNumber n → (first : ℕ) (rest bytes more : List ℕ) → bytes ≡ first ∷ rest → first ≡ 128 → bytes ≡ number_key n ++ more → n.whole ≡ pos 0
zero_there n proper first rest bytes more e is occurs = by_whole n.whole refl
  where
    by_whole : (z : ℤ) → n.whole ≡ z → n.whole ≡ pos 0
    by_whole (pos zero) w = w
    by_whole (pos (suc a)) w =
        let x = head_of n a (ap unsigned_abs w) (is_small n proper) in
        let key = positive n a w ∙ ap (map (invert_if false)) x.is in
        absurd (omega (arith, is, x.low, heads first x.head rest (map (invert_if false) x.tail ++ more) (sym e ∙ occurs ∙ ap (λ k. k ++ more) key)))
    by_whole (negsuc a) w =
        let x = head_of n a (ap unsigned_abs w) (is_small n proper) in
        let key = negative n a w ∙ ap (map (invert_if true)) x.is in
        absurd (omega (arith, is, x.low, x.high, heads first (255 - x.head) rest (map (invert_if true) x.tail ++ more) (sym e ∙ occurs ∙ ap (λ k. k ++ more) key)))

-- the key of 0 is one byte
pub zero_read : (n : Num) → IsProperNumber n → (first : ℕ) (rest bytes more : List ℕ) → bytes ≡ first ∷ rest → first ≡ 128 → bytes ≡ number_key n ++ more → rest ≡ more
zero_read n proper first rest bytes more e is occurs =
    tails first 128 rest more (sym e ∙ occurs ∙ ap (λ k. k ++ more) (nothing_there n (zero_there n proper first rest bytes more e is occurs)))

-- The bytes begin with the exponent and the digits of n, which has this sign.
pub record IsSigned (n : Num) (sign : Bool) (bytes more : List ℕ) : Type 0 where
  pub is_sign : is_negative n.whole ≡ sign
  pub count : ℕ
  pub exponent : ℕ
  pub low : exponent < 351
  pub is_exponent_key : exponent + n.scale ≡ count + 255
  pub below : unsigned_abs n.whole < 10 ^ count
  pub least : 10 ^ count ≤ unsigned_abs n.whole * 10
  pub some : 0 < unsigned_abs n.whole
  pub few : count ≤ 39
  pub occurs : bytes ≡ map (invert_if sign) (exponent_key exponent) ++ (map (invert_if sign) (digits_key count (unsigned_abs n.whole)) ++ more)

signed_parts : (n : Num) → IsProperNumber n → (sign : Bool) (a : ℕ) (bytes more : List ℕ) → is_negative n.whole ≡ sign → unsigned_abs n.whole ≡ suc a → bytes ≡ map (invert_if sign) (magnitude_key n.scale (suc a)) ++ more → IsSigned n sign bytes more
signed_parts n proper sign a bytes more is_sign whole occurs =
    let small = is_small n proper in
    let count = digit_count (suc a) in
    let exponent = count + 255 - n.scale in
    let counted = digits_counted (suc a) (omega arith) (omega (arith, whole, small.whole)) in
    let few = digit_count-le (suc a) in
    record {
      is_sign = is_sign;
      count = count;
      exponent = exponent;
      low = omega (arith, few);
      is_exponent_key = omega (arith, small.scale);
      below = omega (arith, whole, counted.below);
      least = omega (arith, whole, counted.least);
      some = omega (arith, whole);
      few = few;
      occurs = occurs ∙ ap (λ k. k ++ more) (magnitude_split sign n.scale (suc a) count exponent refl refl)
          ∙ append_assoc (map (invert_if sign) (exponent_key exponent)) (map (invert_if sign) (digits_key count (suc a))) more
          ∙ ap (λ m. map (invert_if sign) (exponent_key exponent) ++ (map (invert_if sign) (digits_key count m) ++ more)) (sym whole);
    }

pub signed_read : (n : Num) → IsProperNumber n → (first : ℕ) (rest bytes more : List ℕ) → bytes ≡ first ∷ rest → first ≢ 128 → bytes ≡ number_key n ++ more → IsSigned n (nat_lt first 128) bytes more
signed_read n proper first rest bytes more e other occurs = by_whole n.whole refl
  where
    by_whole : (z : ℤ) → n.whole ≡ z → IsSigned n (nat_lt first 128) bytes more
    by_whole (pos zero) w = absurd (other (heads first 128 rest more (sym e ∙ occurs ∙ ap (λ k. k ++ more) (nothing_there n w))))
    by_whole (pos (suc a)) w =
        let x = head_of n a (ap unsigned_abs w) (is_small n proper) in
        let key = positive n a w ∙ ap (map (invert_if false)) x.is in
        let above : 128 ≤ first = omega (arith, x.low, heads first x.head rest (map (invert_if false) x.tail ++ more) (sym e ∙ occurs ∙ ap (λ k. k ++ more) key)) in
        subst (λ b. IsSigned n b bytes more) (sym (le-ltb first 128 above))
        (signed_parts n proper false a bytes more (ap is_negative w ∙ is_negative-pos (suc a)) (ap unsigned_abs w) (occurs ∙ ap (λ k. k ++ more) (positive n a w)))
    by_whole (negsuc a) w =
        let x = head_of n a (ap unsigned_abs w) (is_small n proper) in
        let key = negative n a w ∙ ap (map (invert_if true)) x.is in
        let under : first < 128 = omega (arith, x.low, x.high, heads first (255 - x.head) rest (map (invert_if true) x.tail ++ more) (sym e ∙ occurs ∙ ap (λ k. k ++ more) key)) in
        subst (λ b. IsSigned n b bytes more) (sym (lt-ltb first 128 under))
        (signed_parts n proper true a bytes more (ap is_negative w) (ap unsigned_abs w) (occurs ∙ ap (λ k. k ++ more) (negative n a w)))

-- numbers that are the same have one key
pub same_keys : (x n : Num) → IsProperNumber x → IsProperNumber n → num_cmp x n ≡ Equal → number_key x ≡ number_key n
same_keys x n p q e = (keys_same (number x) (number n) p q).1 e

-- the exponent of its first digit, and what is behind it
module _ (n : Num) (sign : Bool) (bytes more : List ℕ) (s : IsSigned n sign bytes more) where
  abbrev digits_there : List ℕ
  digits_there = map (invert_if sign) (digits_key s.count (unsigned_abs n.whole)) ++ more

  pub exponent_there : exponent_of sign bytes ≡ read_as s.exponent digits_there
  exponent_there = ap (exponent_of sign) s.occurs ∙ exponent_read sign s.exponent digits_there s.low

  pub some_exponent : None ≡ exponent_of sign bytes → ⊥
  some_exponent none = none_some _ (none ∙ exponent_there)

  pub is_exponent : (exponent : ℕ) (digits : List ℕ) → read_as exponent digits ≡ exponent_of sign bytes → (exponent ≡ s.exponent) × (digits ≡ digits_there)
  is_exponent exponent digits read = some_pair exponent s.exponent digits digits_there (read ∙ exponent_there)

-- a number's key has a byte
pub some_bytes : (n : Num) → IsProperNumber n → (bytes more : List ℕ) → bytes ≡ number_key n ++ more → length bytes ≡ 0 → ⊥
some_bytes n proper bytes more occurs none =
    let b = number_begins n (is_small n proper) in
    absurd (omega (arith, none, ap length (occurs ∙ ap (λ key. key ++ more) b.is)))
