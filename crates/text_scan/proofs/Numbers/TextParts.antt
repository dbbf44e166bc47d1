-- Number texts by their parts, and those whose number no form holds.
use Rattle.std.proofs.Common.{◌≡◌, ◌≢◌, ◌⊎◌, ℕ, ◌+◌, ◌<◌, Bool, Option, None, List, [], ◌++◌, length, refl, sym, ap, ◌∙◌, inl}
use Rattle.std.specs.Prelude.{slice_index, replicate}
use Rattle.std.specs.Fmt.{sign_text}
use Rattle.std.specs.Str.Parse.{AllDigits, digits_value, starts_with_minus}
use Rattle.std.proofs.lemmas.List.{append_assoc, append-nil}
use Rattle.jsonb_spec.specs.Grammar.StandardNumber.{IsWhole, IsFraction, IsSign, IsExponent, IsInteger, IsStandardText}
use Rattle.jsonb_spec.specs.Grammar.ExtendedNumber.{HasDecimalParts, IsDecimalText, HasHexadecimalParts, hexadecimal_number, IsWordText}
use Rattle.jsonb_spec.specs.Tree.{Num}
use Rattle.jsonb_core.proofs.Numbers.Fractions.{fraction_digits, fraction_text, precision_of}

-- ---- standard texts

-- the parts of a standard number text: a minus or none, a whole part, a fraction or none, an exponent or none
pub record HasParts (bytes : List ℕ) (negative : Bool) (whole fraction exponent : List ℕ) : Type 0 where
  pub joined : bytes ≡ sign_text negative ++ (whole ++ (fraction ++ exponent))
  pub is_whole : IsWhole whole
  pub is_fraction : IsFraction fraction
  pub is_exponent : IsExponent exponent

pub parts_of : (bytes : List ℕ) (t : IsStandardText bytes) → HasParts bytes t.negative t.whole t.fraction t.exponent
parts_of bytes t = record { joined = t.joined; is_whole = t.is_whole; is_fraction = t.is_fraction; is_exponent = t.is_exponent }

pub standard_text_of : (bytes : List ℕ) (negative : Bool) (whole fraction exponent : List ℕ) → HasParts bytes negative whole fraction exponent → IsStandardText bytes
standard_text_of bytes negative whole fraction exponent p =
    record { negative = negative; whole = whole; fraction = fraction; exponent = exponent; joined = p.joined; is_whole = p.is_whole; is_fraction = p.is_fraction; is_exponent = p.is_exponent }

-- an integer's text has a whole part alone
pub integer_parts : (bytes : List ℕ) (negative : Bool) (whole : List ℕ) → bytes ≡ sign_text negative ++ whole → IsWhole whole → HasParts bytes negative whole [] []
integer_parts bytes negative whole joined is_whole =
    record { joined = joined ∙ ap (λ w. sign_text negative ++ w) (sym (append-nil whole)); is_whole = is_whole; is_fraction = inl refl; is_exponent = inl refl }

pub integer_joined : (bytes : List ℕ) (negative : Bool) (whole : List ℕ) → HasParts bytes negative whole [] [] → bytes ≡ sign_text negative ++ whole
integer_joined bytes negative whole p = p.joined ∙ ap (λ w. sign_text negative ++ w) (append-nil whole)

-- a standard number text with a fraction, an exponent or a value that its type does not hold
abbrev pub IsStandardUnrepresentable : List ℕ → Type 0
IsStandardUnrepresentable bytes =
    (negative : Bool) × (whole : List ℕ) × (fraction : List ℕ) × (exponent : List ℕ)
    × HasParts bytes negative whole fraction exponent
    × ((fraction ++ exponent ≢ []) ⊎ ((n : Num) → ¬ IsInteger negative (digits_value 10 whole) n))

-- ---- decimal texts

-- the parts of a decimal, and an exponent or none
pub record HasTextParts (bytes sign zeros whole : List ℕ) (fraction : Option (List ℕ)) (exponent : List ℕ) : Type 0 where
  pub joined : bytes ≡ sign ++ (zeros ++ (whole ++ (fraction_text fraction ++ exponent)))
  pub is_sign : IsSign sign
  pub are_zeros : zeros ≡ replicate (length zeros) 48
  pub whole_digits : AllDigits 10 whole
  pub no_zero_first : slice_index whole 0 ≢ 48
  pub digits_behind : AllDigits 10 (fraction_digits fraction)
  pub some_digit : 0 < length zeros + length whole + length (fraction_digits fraction)
  pub is_exponent : IsExponent exponent

-- a decimal is a text without an exponent
pub plain_parts : (bytes sign zeros whole : List ℕ) (fraction : Option (List ℕ)) → HasDecimalParts bytes sign zeros whole fraction → HasTextParts bytes sign zeros whole fraction []
plain_parts bytes sign zeros whole fraction p =
    record {
      joined = p.joined ∙ ap (λ r. sign ++ (zeros ++ (whole ++ r))) (sym (append-nil (fraction_text fraction)));
      is_sign = p.is_sign;
      are_zeros = p.are_zeros;
      whole_digits = p.whole_digits;
      no_zero_first = p.no_zero_first;
      digits_behind = p.digits_behind;
      some_digit = p.some_digit;
      is_exponent = inl refl;
    }

-- what is before an exponent
pub front_parts : (bytes sign zeros whole : List ℕ) (fraction : Option (List ℕ)) (exponent front : List ℕ) → HasTextParts bytes sign zeros whole fraction exponent → front ≡ sign ++ (zeros ++ (whole ++ fraction_text fraction)) → HasDecimalParts front sign zeros whole fraction
front_parts bytes sign zeros whole fraction exponent front p is =
    record {
      joined = is;
      is_sign = p.is_sign;
      are_zeros = p.are_zeros;
      whole_digits = p.whole_digits;
      no_zero_first = p.no_zero_first;
      digits_behind = p.digits_behind;
      some_digit = p.some_digit;
    }

pub decimal_parts_of : (bytes sign zeros whole : List ℕ) (fraction : Option (List ℕ)) → HasTextParts bytes sign zeros whole fraction [] → HasDecimalParts bytes sign zeros whole fraction
decimal_parts_of bytes sign zeros whole fraction p =
    front_parts bytes sign zeros whole fraction [] bytes p (p.joined ∙ ap (λ r. sign ++ (zeros ++ (whole ++ r))) (append-nil (fraction_text fraction)))

pub regrouped : (sign zeros whole text exponent : List ℕ) → (sign ++ (zeros ++ (whole ++ text))) ++ exponent ≡ sign ++ (zeros ++ (whole ++ (text ++ exponent)))
regrouped sign zeros whole text exponent =
    append_assoc sign (zeros ++ (whole ++ text)) exponent ∙ ap (λ r. sign ++ r) (append_assoc zeros (whole ++ text) exponent ∙ ap (λ r. zeros ++ r) (append_assoc whole text exponent))

pub decimal_text_of : (bytes sign zeros whole : List ℕ) (fraction : Option (List ℕ)) (exponent : List ℕ) → HasTextParts bytes sign zeros whole fraction exponent → IsDecimalText bytes
decimal_text_of bytes sign zeros whole fraction exponent p = (
  sign ++ (zeros ++ (whole ++ fraction_text fraction)),
  exponent,
  p.joined ∙ sym (regrouped sign zeros whole (fraction_text fraction) exponent),
  p.is_exponent,
  sign,
  zeros,
  whole,
  fraction,
  front_parts bytes sign zeros whole fraction exponent (sign ++ (zeros ++ (whole ++ fraction_text fraction))) p refl,
)

-- the parts of a decimal with an exponent behind it
pub parts_with : (bytes front exponent sign zeros whole : List ℕ) (fraction : Option (List ℕ)) → bytes ≡ front ++ exponent → IsExponent exponent → HasDecimalParts front sign zeros whole fraction → HasTextParts bytes sign zeros whole fraction exponent
parts_with bytes front exponent sign zeros whole fraction joined is_exponent p =
    record {
      joined = joined ∙ ap (λ f. f ++ exponent) p.joined ∙ regrouped sign zeros whole (fraction_text fraction) exponent;
      is_sign = p.is_sign;
      are_zeros = p.are_zeros;
      whole_digits = p.whole_digits;
      no_zero_first = p.no_zero_first;
      digits_behind = p.digits_behind;
      some_digit = p.some_digit;
      is_exponent = is_exponent;
    }

abbrev pub HasDecimalText : List ℕ → Type 0
HasDecimalText bytes = (sign : List ℕ) × (zeros : List ℕ) × (whole : List ℕ) × (fraction : Option (List ℕ)) × (exponent : List ℕ) × HasTextParts bytes sign zeros whole fraction exponent

pub text_parts : (bytes : List ℕ) → IsDecimalText bytes → HasDecimalText bytes
text_parts bytes (front, exponent, joined, is_exponent, sign, zeros, whole, fraction, p) =
    (sign, zeros, whole, fraction, exponent, parts_with bytes front exponent sign zeros whole fraction joined is_exponent p)

-- a decimal number text with an exponent or with 39 digits or more
abbrev pub IsUnrepresentableDecimal : List ℕ → Type 0
IsUnrepresentableDecimal bytes =
    (sign : List ℕ) × (zeros : List ℕ) × (whole : List ℕ) × (fraction : Option (List ℕ)) × (exponent : List ℕ)
    × HasTextParts bytes sign zeros whole fraction exponent
    × ((exponent ≢ []) ⊎ (38 < precision_of whole fraction))

-- ---- all of them

-- a hexadecimal with a fraction or with a number that no form holds
abbrev pub IsUnrepresentableHexadecimal : List ℕ → Type 0
IsUnrepresentableHexadecimal bytes =
    (sign : List ℕ) × (mark : ℕ) × (whole : List ℕ) × (fraction : Option (List ℕ))
    × HasHexadecimalParts bytes sign mark whole fraction
    × ((fraction ≢ None) ⊎ (hexadecimal_number (starts_with_minus sign) (digits_value 16 whole) ≡ None))

-- an extended number text without a number that a form holds
abbrev pub IsExtendedUnrepresentable : List ℕ → Type 0
IsExtendedUnrepresentable bytes = IsUnrepresentableDecimal bytes
    ⊎ (IsUnrepresentableHexadecimal bytes ⊎ IsWordText bytes)
