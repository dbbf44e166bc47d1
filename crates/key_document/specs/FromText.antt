-- The parts of a serialized form, from left to right: what they mean, and their keys.
use Rattle.std.specs.Prelude.{◌≡◌, ◌<◌, ◌+◌, ◌-◌, ◌*◌, ◌%◌, ◌==◌, ℕ, Bool, false, ◌&&◌, ◌||◌, nat_lt, if◌then◌else◌, unsigned_abs, List, [], ◌∷◌, ◌++◌, length, Option, Some, None, MatchResult, Result, Vec, vec_len}
use Rattle.std.specs.List.{flat_map}
use Rattle.std.specs.Vec.{vec_capacity}
use Rattle.std.specs.declared.alloc.Global.{Global}
use Rattle.jsonb_spec.specs.Ascii as ascii
use Rattle.jsonb_spec.specs.SortKey.{text_key}
use Rattle.jsonb_spec.specs.SortKey.Kind as kind
use Rattle.jsonb_spec.specs.Text.StringText.{byte_text}
use Rattle.jsonb_spec.specs.Tree.{Num}
use Rattle.key_document.specs.declared.error.DocumentError.{DocumentError}
use Rattle.key_document.specs.declared.error.DocumentError.TheVariants.{OutOfMemory}
use Rattle.key_document.specs.declared.from_text.digits.Digits.{Digits}
use Rattle.jsonb_spec.specs.SortKey.FewestDigits.{spare_zeros}
use Rattle.jsonb_spec.specs.Document.Scan.{is_number_byte, ending_of}

-- ---- numbers

-- a digit
abbrev pub is_digit : ℕ → Bool
is_digit byte = nat_lt ascii.slash byte && nat_lt byte ascii.colon

-- the number with one digit more; with another byte the number
abbrev pub with_digit : ℕ → ℕ → ℕ
with_digit number byte = if is_digit byte then number * 10 + (byte - ascii.digit_zero) else number

-- the number that digits write behind those of another, without a point among them
abbrev pub magnitude_from : ℕ → List ℕ → ℕ
magnitude_from number [] = number
magnitude_from number (byte ∷ bytes) =
    if is_number_byte byte then magnitude_from (with_digit number byte) bytes else number

-- how many digits are behind a point with one more byte
abbrev pub scale_with : Bool → ℕ → ℕ → ℕ
scale_with pointed scale byte = if pointed && is_digit byte then scale + 1 else scale

-- how many digits are behind the point
abbrev pub scale_from : Bool → ℕ → List ℕ → ℕ
scale_from pointed scale [] = scale
scale_from pointed scale (byte ∷ bytes) =
    if is_number_byte byte then scale_from (pointed || byte == ascii.point) (scale_with pointed scale byte) bytes
    else scale

-- The digits that the bytes begin with, where they are read to their end.
pub record AreDigitsOf (bytes : List ℕ) (digits : Digits) : Type 0 where
  pub magnitude : digits.magnitude ≡ magnitude_from 0 bytes
  pub scale : digits.scale ≡ scale_from false 0 bytes
  pub zeros : digits.zeros ≡ (ending_of false 0 bytes).1.0
  pub rest : digits.rest.now ≡ (ending_of false 0 bytes).1.1

-- These are the digits of the number, and these bytes are behind them.
pub record AreDigitsOfNumber (n : Num) (more : List ℕ) (digits : Digits) : Type 0 where
  pub magnitude : digits.magnitude ≡ unsigned_abs n.whole
  pub scale : digits.scale ≡ n.scale
  pub zeros : digits.zeros ≡ spare_zeros n.scale (unsigned_abs n.whole)
  pub rest : digits.rest.now ≡ more

-- No number goes on with these bytes.
abbrev pub EndsNumber : List ℕ → Type 0
EndsNumber [] = Unit {0}
EndsNumber (byte ∷ bytes) = is_number_byte byte ≡ false

-- ---- strings

-- what a hexadecimal digit in small letters means
abbrev pub hexadecimal_value : ℕ → ℕ
hexadecimal_value digit = if nat_lt digit ascii.colon then digit % 16 else digit % 16 + 9

-- the byte that the letter behind a backslash means
abbrev pub escaped_byte : ℕ → ℕ
escaped_byte letter =
    if letter == ascii.lower_n then ascii.line_feed
    else (if letter == ascii.lower_r then ascii.carriage_return
    else (if letter == ascii.lower_t then ascii.tab else letter))

-- the byte that four hexadecimal digits mean, of which the last two are looked at, and the bytes behind them
abbrev pub control_of : List ℕ → Option (ℕ × List ℕ)
control_of [] = None
control_of (a ∷ []) = None
control_of (a ∷ b ∷ []) = None
control_of (a ∷ b ∷ c ∷ []) = None
control_of (a ∷ b ∷ c ∷ d ∷ bytes) = Some (16 * (c % 2) + hexadecimal_value d, bytes)

-- the byte that a backslash and these bytes mean, and the bytes behind that
abbrev pub escape_of : List ℕ → Option (ℕ × List ℕ)
escape_of [] = None
escape_of (letter ∷ bytes) = if letter == ascii.lower_u then control_of bytes else Some (escaped_byte letter, bytes)

-- the next byte of a string, and the bytes behind it
abbrev pub item_of : List ℕ → Option (ℕ × List ℕ)
item_of [] = None
item_of (byte ∷ bytes) = if byte == ascii.backslash then escape_of bytes else Some (byte, bytes)

-- the contents of a string, the quote that ends it, and what is behind
abbrev pub closed : List ℕ → List ℕ → List ℕ
closed text more = flat_map byte_text text ++ ascii.quote ∷ more

-- whether a colon comes first: what is before it is a name
abbrev pub is_name : List ℕ → Bool
is_name [] = false
is_name (byte ∷ bytes) = byte == ascii.colon

-- the key of a string, behind which these bytes come: a name has no kind
abbrev pub string_key : List ℕ → List ℕ → List ℕ
string_key more text = (if is_name more then [] else kind.string ∷ []) ++ text_key text

-- ---- what is neither

-- the key of what begins with this byte: of a bracket, a brace or a word; a comma and a colon have none
abbrev pub mark_key : ℕ → List ℕ
mark_key first =
    if first == ascii.open_brace then kind.object ∷ []
    else (if first == ascii.open_bracket then kind.array ∷ []
    else (if first == ascii.close_brace then kind.terminator ∷ kind.terminator ∷ []
    else (if first == ascii.close_bracket then kind.terminator ∷ []
    else (if first == ascii.lower_n then kind.null ∷ []
    else (if first == ascii.lower_t then kind.true ∷ []
    else (if first == ascii.lower_f then kind.false ∷ [] else []))))))

-- how many bytes of it come behind that byte
abbrev pub mark_behind : ℕ → ℕ
mark_behind first =
    if first == ascii.lower_n then 3
    else (if first == ascii.lower_t then 3 else (if first == ascii.lower_f then 4 else 0))

-- ---- what is appended

-- The key is appended, and these bytes of the text are left. Else memory ran out, as the capacity for it is missing.
abbrev pub WritesPart : {X : Type 0} → (X → Type 0) → Result X DocumentError → Vec ℕ Global → Vec ℕ Global → List ℕ
    → Type 0
WritesPart IsLeft result old new key = MatchResult result
    (λ x. IsLeft x × (new.items ≡ old.items ++ key))
    (λ e. (e ≡ OutOfMemory) × (vec_capacity old < vec_len old + length key))
