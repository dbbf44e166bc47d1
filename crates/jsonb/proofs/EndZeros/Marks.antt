-- Bytes in which no number can have zeros at its end, from one mark to the next.
use Rattle.std.proofs.Common.{◌≡◌, ◌≤◌, ◌↔◌, bit_or, inl, inr, ⊎_elim, ℕ, zero, suc, ◌<◌, ◌==◌, Bool, true, false, List, [], ◌∷◌, ◌++◌, length, take, drop, get_or, Some, refl, sym, ap, subst, ◌∙◌, arith, eqb-true}
use Rattle.std.specs.Prelude.{if◌then◌else◌, ⊤}
use Rattle.std.specs.Char.{is_ascii_digit}
use Rattle.std.specs.Int.{bit_at}
use Rattle.std.proofs.lemmas.Bool.{cases_lt, or_cases}
use Rattle.std.proofs.lemmas.Nat.Bits.{bit_at-lt, bit_at_or}
use Rattle.memchr.specs.Find.{IsFirstByte, is_byte2}
use Rattle.jsonb_spec.specs.Grammar.StandardNumber.{IsExponentMark}
use Rattle.jsonb_core.proofs.Trees.Runs.{heads, tails}
use Rattle.jsonb.specs.EndZeros.{ends_in_zero, HasNoMark, IsMark, IsSplitAtMark, PassesMark}

-- The bytes begin with an exponent that moves the point to the left.
pub record StartsLeft (bytes : List ℕ) : Type 0 where
  pub mark : ℕ
  pub rest : List ℕ
  pub is_mark : IsExponentMark mark
  pub whole : bytes ≡ mark ∷ 45 ∷ rest

-- Behind this byte nothing follows that shows zeros at the end of a number.
pub record PassesByte (byte : ℕ) (bytes : List ℕ) : Type 0 where
  pub digits : byte ≡ 46 → ends_in_zero 0 bytes ≡ false
  pub point : byte ≡ 46 → ¬ (StartsLeft bytes)
  pub digit : byte ≡ 48 → ¬ (StartsLeft bytes)

-- So it is behind each byte.
abbrev pub LooksPlain : List ℕ → Type 0
LooksPlain [] = ⊤
LooksPlain (byte ∷ bytes) = PassesByte byte bytes × LooksPlain bytes

pub plain_end : (front bytes : List ℕ) → LooksPlain (front ++ bytes) → LooksPlain bytes
plain_end [] bytes p = p
plain_end (byte ∷ front) bytes p = plain_end front bytes p.1

-- ---- from mark to mark

second_same : (w x y z : ℕ) (xs ys : List ℕ) → w ∷ x ∷ xs ≡ y ∷ z ∷ ys → x ≡ z
second_same w x y z xs ys e = heads x z xs ys (tails w y (x ∷ xs) (z ∷ ys) e)

other_mark : (mark : ℕ) → IsMark mark → ¬ (IsExponentMark mark)
other_mark mark (inl point) (inl e) = omega (arith, point, e)
other_mark mark (inl point) (inr e) = omega (arith, point, e)
other_mark mark (inr minus) (inl e) = omega (arith, minus, e)
other_mark mark (inr minus) (inr e) = omega (arith, minus, e)

no_digit : (mark : ℕ) → IsMark mark → mark ≡ 48 → ⊥
no_digit mark (inl point) e = omega (arith, point, e)
no_digit mark (inr minus) e = omega (arith, minus, e)

starts_later : (front : List ℕ) (mark : ℕ) (behind : List ℕ) → HasNoMark front → IsMark mark → (mark ≡ 45 → (m : ℕ) → front ≡ m ∷ [] → ¬ (IsExponentMark m)) → ¬ (StartsLeft (front ++ mark ∷ behind))
starts_later [] mark behind each is alone s = other_mark mark is (subst IsExponentMark (sym (heads mark s.mark behind (45 ∷ s.rest) s.whole)) s.is_mark)
starts_later (m ∷ []) mark behind each is alone s =
    alone (second_same m mark s.mark 45 behind s.rest s.whole) m refl (subst IsExponentMark (sym (heads m s.mark (mark ∷ behind) (45 ∷ s.rest) s.whole)) s.is_mark)
starts_later (m ∷ k ∷ front) mark behind each is alone s = each.1.0 (inr (second_same m k s.mark 45 (front ++ mark ∷ behind) s.rest s.whole))

plain_later : (front : List ℕ) (mark : ℕ) (behind : List ℕ) → HasNoMark front → IsMark mark → (mark ≡ 45 → (before : List ℕ) (m : ℕ) → front ≡ before ++ 48 ∷ m ∷ [] → ¬ (IsExponentMark m)) → PassesByte mark behind → LooksPlain behind
    → LooksPlain (front ++ mark ∷ behind)
plain_later [] mark behind each is none here later = (here, later)
plain_later (byte ∷ front) mark behind each is none here later = (
  record {
    digits = λ e. absurd (each.0 (inl e));
    point = λ e. absurd (each.0 (inl e));
    digit = λ e. starts_later front mark behind each.1 is (λ minus m alone. none minus [] m (λ i. e i ∷ alone i));
  },
  plain_later front mark behind each.1 is (λ minus before m e. none minus (byte ∷ before) m (ap (λ (l : List ℕ). byte ∷ l) e)) here later,
)

here_passed : (front : List ℕ) (mark : ℕ) (behind : List ℕ) → IsMark mark → PassesMark front mark behind → ¬ (StartsLeft behind) → PassesByte mark behind
here_passed front mark behind is passes starts = record { digits = passes.point; point = λ e. starts; digit = λ e. absurd (no_digit mark is e) }

-- The bytes look plain if what is left of them does, and doesn't begin with such an exponent.
abbrev pub ShowsAll : List ℕ → List ℕ → Type 0
ShowsAll bytes rest = ¬ (StartsLeft rest) → LooksPlain rest → LooksPlain bytes

pub nothing_passed : (bytes : List ℕ) → ShowsAll bytes bytes
nothing_passed bytes starts plain = plain

pub mark_passed : (bytes rest front : List ℕ) (mark : ℕ) (behind : List ℕ) → ShowsAll bytes rest → IsSplitAtMark rest front mark behind → PassesMark front mark behind → ShowsAll bytes behind
mark_passed bytes rest front mark behind shows split passes starts plain =
    shows (subst (λ l. ¬ (StartsLeft l)) (sym split.whole) (starts_later front mark behind split.none_before split.is_mark (λ minus. (passes.minus minus).alone)))
    (subst LooksPlain (sym split.whole) (plain_later front mark behind split.none_before split.is_mark (λ minus. (passes.minus minus).behind_zero) (here_passed front mark behind split.is_mark passes starts) plain))

-- ---- no mark

no_start : (bytes : List ℕ) → HasNoMark bytes → ¬ (StartsLeft bytes)
no_start [] each s = omega (arith, ap length s.whole)
no_start (m ∷ []) each s = omega (arith, ap length s.whole)
no_start (m ∷ k ∷ bytes) each s = each.1.0 (inr (second_same m k s.mark 45 bytes s.rest s.whole))

no_mark_plain : (bytes : List ℕ) → HasNoMark bytes → LooksPlain bytes
no_mark_plain [] each = tt
no_mark_plain (byte ∷ bytes) each = (record { digits = λ e. absurd (each.0 (inl e)); point = λ e. absurd (each.0 (inl e)); digit = λ e. no_start bytes each.1 }, no_mark_plain bytes each.1)

pub all_passed : (bytes rest : List ℕ) → ShowsAll bytes rest → HasNoMark rest → LooksPlain bytes
all_passed bytes rest shows each = shows (no_start rest each) (no_mark_plain rest each)

-- ---- the first mark

no_mark : (x : ℕ) → (is_byte2 46 45 x ≡ true → ⊥) → ¬ (IsMark x)
no_mark x none (inl e) = none (ap (is_byte2 46 45) e)
no_mark x none (inr e) = none (ap (is_byte2 46 45) e)

none_in_front : (k : ℕ) (xs : List ℕ) → ((j : ℕ) → j < k → is_byte2 46 45 (get_or xs j 0) ≡ true → ⊥) → HasNoMark (take k xs)
none_in_front zero [] none = tt
none_in_front zero (x ∷ xs) none = tt
none_in_front (suc k) [] none = tt
none_in_front (suc k) (x ∷ xs) none = (no_mark x (none 0 (omega arith)), none_in_front k xs (λ j l. none (suc j) (omega (arith, l))))

mark_there : (k : ℕ) (xs : List ℕ) (mark : ℕ) (behind : List ℕ) → drop k xs ≡ mark ∷ behind → get_or xs k 0 ≡ mark
mark_there zero [] mark behind e = absurd (omega (arith, ap length e))
mark_there zero (x ∷ xs) mark behind e = heads x mark xs behind e
mark_there (suc k) [] mark behind e = absurd (omega (arith, ap length e))
mark_there (suc k) (x ∷ xs) mark behind e = mark_there k xs mark behind e

is_one : (x : ℕ) → is_byte2 46 45 x ≡ true → IsMark x
is_one x e = ⊎_elim (λ point. inl (eqb-true x 46 point)) (λ minus. inr (eqb-true x 45 minus)) (or_cases (x == 46) (x == 45) e)

pub mark_found : (bytes front back : List ℕ) (k mark : ℕ) (behind : List ℕ) → IsFirstByte (is_byte2 46 45) bytes (Some k) → front ≡ take k bytes → back ≡ drop k bytes → bytes ≡ front ++ back → back ≡ mark ∷ behind → IsSplitAtMark bytes front mark behind
mark_found bytes front back k mark behind found before after whole begins = record {
  whole = whole ∙ ap (λ (l : List ℕ). front ++ l) begins;
  none_before = subst HasNoMark (sym before) (none_in_front k bytes (λ j l. found.0.before j (omega arith) l));
  is_mark = subst IsMark (mark_there k bytes mark behind (sym after ∙ begins)) (is_one (get_or bytes k 0) found.1);
}

-- ---- the first 16 bytes

is_test : (x : ℕ) → IsMark x → is_byte2 46 45 x ≡ true
is_test x (inl e) = ap (is_byte2 46 45) e
is_test x (inr e) = ap (is_byte2 46 45) e

-- the lowest bit of both masks is at the first mark
pub near_found : (bytes : List ℕ) (a b i : ℕ) → 16 ≤ length bytes → ((k : ℕ) → (bit_at a k ≡ 1) ↔ ((k < 16) × (get_or bytes k 0 ≡ 46))) → ((k : ℕ) → (bit_at b k ≡ 1) ↔ ((k < 16) × (get_or bytes k 0 ≡ 45)))
    → bit_at (bit_or a b) i ≡ 1 → ((k : ℕ) → k < i → bit_at (bit_or a b) k ≡ 0) → IsFirstByte (is_byte2 46 45) bytes (Some i)
near_found bytes a b i long points minuses set below =
    let here = each i set in (
      record {
        low = omega arith;
        high = omega (arith, long, here.0);
        before = λ k low less passes. let one = either k (omega (arith, less, here.0)) (is_one (get_or bytes k 0) passes) in omega (arith, one, below k less);
      },
      is_test (get_or bytes i 0) here.1,
    )
  where
    each : (k : ℕ) → bit_at (bit_or a b) k ≡ 1 → (k < 16) × IsMark (get_or bytes k 0)
    each k one = elim (cases_lt (bit_at a k) 1) [
      | inl none ↦ let s = (minuses k).0 (omega (arith, none, one, bit_at_or a b k, bit_at-lt b k)) in (s.0, inr s.1)
      | inr some ↦ let s = (points k).0 (omega (arith, some, bit_at-lt a k)) in (s.0, inl s.1)
    ]

    either : (k : ℕ) → k < 16 → IsMark (get_or bytes k 0) → bit_at (bit_or a b) k ≡ 1
    either k low (inl e) = let one = (points k).1 (low, e) in omega (arith, one, bit_at_or a b k, bit_at-lt b k)
    either k low (inr e) = let one = (minuses k).1 (low, e) in omega (arith, one, bit_at_or a b k, bit_at-lt a k)

-- ---- digits behind a point

pub digit_read : (last byte : ℕ) (rest others : List ℕ) → rest ≡ byte ∷ others → is_ascii_digit byte ≡ true → ends_in_zero last rest ≡ ends_in_zero byte others
unfolding ends_in_zero
digit_read last byte rest others e digit = ap (ends_in_zero last) e ∙ ap (λ (b : Bool). if b then ends_in_zero byte others else last == 48) digit

pub digits_over : (last byte : ℕ) (rest others : List ℕ) → rest ≡ byte ∷ others → is_ascii_digit byte ≡ false → ends_in_zero last rest ≡ (last == 48)
unfolding ends_in_zero
digits_over last byte rest others e other = ap (ends_in_zero last) e ∙ ap (λ (b : Bool). if b then ends_in_zero byte others else last == 48) other

pub no_more : (last : ℕ) (rest : List ℕ) → length rest ≡ 0 → ends_in_zero last rest ≡ (last == 48)
unfolding ends_in_zero
no_more last [] none = refl
no_more last (byte ∷ rest) none = absurd (omega (arith, none))
