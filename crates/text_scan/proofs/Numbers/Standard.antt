-- Parsing a standard number gives what the grammar says, and the grammar's numbers are parsed so.
use Rattle.std.proofs.Common.{◌≡◌, ◌⊎◌, ℕ, Bool, true, false, List, [], ◌∷◌, ◌++◌, take, refl, sym, subst, ap, ◌∙◌, inl, inr, ⊎_elim, arith, Option, Some, None, Ok, Err}
use Rattle.std.specs.Prelude.{MatchOption}
use Rattle.std.specs.Int.{IsInRange}
use Rattle.std.specs.Str.Parse.{AllDigits, digits_value}
use Rattle.std.proofs.lemmas.Str.Parse.{digit_from_value}
use Rattle.std.proofs.lemmas.List.{append-nil}
use Rattle.jsonb_spec.specs.Code.{invalid_number_value}
use Rattle.jsonb_spec.specs.Tree.{Num}
use Rattle.jsonb_spec.specs.Grammar.StandardNumber.{IsWhole, IsFraction, IsExponent, IsInteger, IsStandardNumber, IsStandardText}
use Rattle.jsonb_spec.specs.Parsing.Number.{ContinuesAfterInteger, is_number_start, End, standard_end, integer_at, number_to, standard_number_at}
use Rattle.jsonb_spec.specs.Parsing.ExtendedNumber.{Scanned, scanned_to}
use Rattle.text_scan.proofs.Numbers.Steps.{is_digit}
use Rattle.text_scan.proofs.Numbers.Reading.{FindsNumber, found_at, IsScanned, NumberRead, parsed_answer}
use Rattle.text_scan.proofs.Numbers.ScanText.{scan_longest, scan_end_within}
use Rattle.text_scan.proofs.Numbers.Ends.{scanned, scanned_text, none_ends, number_at_end}
use Rattle.text_scan.proofs.Numbers.TextParts.{HasParts, IsStandardUnrepresentable, parts_of, standard_text_of, integer_parts}
use Rattle.jsonb_spec.specs.Grammar.Scalar.{IsNumber}
use Rattle.jsonb_spec.specs.Mode.{standard, strict}

-- ---- how a number text begins

pub record NumberStart (core : List ℕ) : Type 0 where
  pub first : ℕ
  pub others : List ℕ
  pub whole : core ≡ first ∷ others
  pub start : is_number_start first ≡ true

-- a whole part begins with a digit
whole_first : (whole : List ℕ) → IsWhole whole → (c : ℕ) × (cs : List ℕ) × (whole ≡ c ∷ cs) × IsInRange 48 57 c
whole_first [] w = absurd (omega (arith, w.digits.0))
whole_first (c ∷ cs) w = (c, cs, refl, digit_from_value c w.digits.1.0)

parts_start : (core : List ℕ) (negative : Bool) (whole fraction exponent : List ℕ) → HasParts core negative whole fraction exponent → NumberStart core
parts_start core true whole fraction exponent parts = record { first = 45; others = whole ++ (fraction ++ exponent); whole = parts.joined; start = refl }
parts_start core false whole fraction exponent parts =
    let begun = whole_first whole parts.is_whole in
    record {
      first = begun.0;
      others = begun.1 ++ (fraction ++ exponent);
      whole = parts.joined ∙ ap (λ w. w ++ (fraction ++ exponent)) begun.2;
      start = rw (is_digit begun.0 begun.3) refl;
    }

pub text_starts : (core : List ℕ) → IsStandardText core → NumberStart core
text_starts core t = parts_start core t.negative t.whole t.fraction t.exponent (parts_of core t)

pub standard_is_text : (core : List ℕ) (n : Num) → IsStandardNumber core n → IsStandardText core
standard_is_text core n (negative, whole, joined, is_whole, is_integer) = standard_text_of core negative whole [] [] (integer_parts core negative whole joined is_whole)

pub number_starts : (core : List ℕ) (n : Num) → IsStandardNumber core n → NumberStart core
number_starts core n number = text_starts core (standard_is_text core n number)

-- ---- a text has its parts in one way

integer_unique : (negative : Bool) (value : ℕ) (m n : Num) → IsInteger negative value m → IsInteger negative value n → m ≡ n
integer_unique false value m n first second = first.1 ∙ sym second.1
integer_unique true value m n first second = first.1 ∙ sym second.1

no_digit_follows : (b : ℕ) → ContinuesAfterInteger b → IsInRange 48 57 b → ⊥
no_digit_follows b (inl point) digit = omega (arith, point, digit)
no_digit_follows b (inr (inl small)) digit = omega (arith, small, digit)
no_digit_follows b (inr (inr great)) digit = omega (arith, great, digit)

-- nothing, or a byte that follows a whole part
abbrev pub IsTail : List ℕ → Type 0
IsTail bytes = (bytes ≡ []) ⊎ ((b : ℕ) × (bs : List ℕ) × (bytes ≡ b ∷ bs) × ContinuesAfterInteger b)

tail_of : (fraction exponent : List ℕ) → IsFraction fraction → IsExponent exponent → IsTail (fraction ++ exponent)
tail_of fraction exponent (inl none) (inl no_exponent) = inl (rw (none, no_exponent) refl)
tail_of fraction exponent (inl none) (inr e) = inr (e.mark, e.sign ++ e.digits, rw none e.joined, inr e.is_mark)
tail_of fraction exponent (inr (ds, point, digits)) last = inr (46, ds ++ exponent, ap (λ f. f ++ exponent) point, inl refl)

-- digits alone are a whole part and nothing more
front_is_all : (whole front tail : List ℕ) → AllDigits 10 whole → IsTail tail → whole ≡ front ++ tail → tail ≡ []
front_is_all whole [] tail digits (inl none) same = none
front_is_all [] [] tail digits (inr (b, bs, begun, follows)) same = absurd (cc)
front_is_all (c ∷ cs) [] tail digits (inr (b, bs, begun, follows)) same =
    let first : c ≡ b = cc in absurd (no_digit_follows b follows (subst (IsInRange 48 57) first (digit_from_value c digits.0)))
front_is_all [] (x ∷ front) tail digits is_tail same = absurd (cc)
front_is_all (c ∷ cs) (x ∷ front) tail digits is_tail same = let rest : cs ≡ front ++ tail = cc in front_is_all cs front tail digits.1 is_tail rest

-- the same sign and digits, and nothing after these
record SameParts (negative other : Bool) (whole digits tail : List ℕ) : Type 0 where
  sign : negative ≡ other
  whole_same : whole ≡ digits
  no_tail : tail ≡ []

digits_same : (negative : Bool) (whole digits fraction exponent : List ℕ) → IsWhole whole → IsFraction fraction → IsExponent exponent → whole ++ ([] ++ []) ≡ digits ++ (fraction ++ exponent) → SameParts negative negative whole digits (fraction ++ exponent)
digits_same negative whole digits fraction exponent w f e same =
    let all : whole ≡ digits ++ (fraction ++ exponent) = sym (append-nil whole) ∙ same in
    let none = front_is_all whole digits (fraction ++ exponent) w.digits.1 (tail_of fraction exponent f e) all in
    record { sign = refl; whole_same = all ∙ (ap (λ t. digits ++ t) none ∙ append-nil digits); no_tail = none }

same_parts : (core : List ℕ) (negative other : Bool) (whole digits fraction exponent : List ℕ) → HasParts core negative whole [] [] → HasParts core other digits fraction exponent → SameParts negative other whole digits (fraction ++ exponent)
same_parts core false false whole digits fraction exponent first second =
    digits_same false whole digits fraction exponent first.is_whole second.is_fraction second.is_exponent (sym first.joined ∙ second.joined)
same_parts core true true whole digits fraction exponent first second =
    let joined : 45 ∷ (whole ++ ([] ++ [])) ≡ 45 ∷ (digits ++ (fraction ++ exponent)) = sym first.joined ∙ second.joined in
    let rest : whole ++ ([] ++ []) ≡ digits ++ (fraction ++ exponent) = cc in
    digits_same true whole digits fraction exponent first.is_whole second.is_fraction second.is_exponent rest
same_parts core true false whole digits fraction exponent first second =
    let begun = whole_first digits second.is_whole in
    let joined : 45 ∷ (whole ++ ([] ++ [])) ≡ begun.0 ∷ (begun.1 ++ (fraction ++ exponent)) = sym first.joined ∙ (second.joined ∙ ap (λ w. w ++ (fraction ++ exponent)) begun.2) in
    let byte : 45 ≡ begun.0 = cc in absurd (omega (arith, byte, begun.3))
same_parts core false true whole digits fraction exponent first second =
    let begun = whole_first whole first.is_whole in
    let joined : begun.0 ∷ (begun.1 ++ ([] ++ [])) ≡ 45 ∷ (digits ++ (fraction ++ exponent)) = sym (first.joined ∙ ap (λ w. w ++ ([] ++ [])) begun.2) ∙ second.joined in
    let byte : begun.0 ≡ 45 = cc in absurd (omega (arith, byte, begun.3))

-- a text has one number
pub number_unique : (core : List ℕ) (m n : Num) → IsStandardNumber core m → IsStandardNumber core n → m ≡ n
number_unique core m n (negative, whole, joined, is_whole, is_integer) (other, digits, joined', is_digits, is_other) =
    let same = same_parts core negative other whole digits [] [] (integer_parts core negative whole joined is_whole) (integer_parts core other digits joined' is_digits) in
    let moved : IsInteger negative (digits_value 10 whole) n = subst (λ ds. IsInteger negative (digits_value 10 ds) n) (sym same.whole_same) (subst (λ b. IsInteger b (digits_value 10 digits) n) (sym same.sign) is_other) in
    integer_unique negative (digits_value 10 whole) m n is_integer moved

-- a text with a number is representable
pub number_representable : (core : List ℕ) (n : Num) → IsStandardNumber core n → IsStandardUnrepresentable core → ⊥
number_representable core n (negative, whole, joined, is_whole, is_integer) (other, digits, fraction, exponent, others, why) =
    let same = same_parts core negative other whole digits fraction exponent (integer_parts core negative whole joined is_whole) others in
    ⊎_elim (λ more. more same.no_tail)
    (λ none. none n (subst (λ ds. IsInteger other (digits_value 10 ds) n) same.whole_same (subst (λ b. IsInteger b (digits_value 10 whole) n) same.sign is_integer))) why

-- ---- what a scan finds

-- the number of the text that ends there, or the fault
abbrev integer_to : List ℕ → End → Scanned
integer_to bytes (Ok end) = Ok (integer_at bytes end, end)
integer_to bytes (Err offset) = Err (invalid_number_value, offset)

finds_integer : (bytes : List ℕ) (r : End) → standard_end bytes ≡ r → FindsNumber strict (IsNumber standard) bytes (integer_to bytes r)
finds_integer bytes (Ok end) at =
    let s = scanned bytes end at in
    found_at strict (IsNumber standard) bytes end (integer_at bytes end) (scan_end_within bytes _ _ s.fraction end s.scan).1 (scanned_text bytes end s) (scan_longest bytes _ _ s.fraction end s.scan)
    (without_number (integer_at bytes end) (number_at_end bytes end s))
  where
    without_number : (o : Option Num) → MatchOption o (IsStandardUnrepresentable (take end bytes)) (IsStandardNumber (take end bytes)) → MatchOption o ((n : Num) → ¬ (IsStandardNumber (take end bytes) n)) (IsStandardNumber (take end bytes))
    without_number (Some n) number = number
    without_number None unrepresentable = λ n number. number_representable (take end bytes) n number unrepresentable
finds_integer bytes (Err offset) at = (refl, none_ends bytes offset at)

pub standard_scanned : (size : ℕ) (bytes : List ℕ) → IsScanned standard size bytes (standard_number_at size bytes)
unfolding standard_number_at
standard_scanned size bytes = record { scan = integer_to bytes (standard_end bytes); finds = finds_integer bytes (standard_end bytes) refl; is = by_end (standard_end bytes) }
  where
    by_end : (r : End) → number_to size bytes r ≡ scanned_to size bytes (integer_to bytes r)
    by_end (Ok end) = refl
    by_end (Err offset) = refl

-- What is parsed is a number text with its number, and no longer one is there.
pub number_sound : (size : ℕ) (bytes : List ℕ) (n : Num) (rest : List ℕ) → standard_number_at size bytes ≡ Ok (n, rest) → NumberRead standard bytes n rest
number_sound size bytes n rest at = parsed_answer standard size bytes (standard_number_at size bytes) (Ok (n, rest)) (standard_scanned size bytes) at
