-- Literals, quotes, numbers and keys, by mode.
use Rattle.std.specs.Prelude.{◌≡◌, ◌⊎◌, ℕ, true, false, List, codes, map}
use Rattle.std.specs.Char.{to_ascii_lowercase}
use Rattle.jsonb_spec.specs.Ascii as ascii
use Rattle.jsonb_spec.specs.Grammar.BareKey.{IsBareKey}
use Rattle.jsonb_spec.specs.Grammar.ExactNumber.{IsJsonNumber, IsExtendedJsonNumber}
use Rattle.jsonb_spec.specs.Grammar.ExtendedNumber.{IsExtendedNumber, IsExtendedText}
use Rattle.jsonb_spec.specs.Mode.{Mode, standard, extended, json, extended_json, Strictness, strict, lenient, strictness, IsLenient}
use Rattle.jsonb_spec.specs.Tree.{Mark, plain, Num, Tree, null, boolean, string, number}
use Rattle.jsonb_spec.specs.Grammar.Quoted.{Quoted}
use Rattle.jsonb_spec.specs.Grammar.StandardNumber.{IsStandardNumber, IsStandardText}

-- the letters of a word: in lower case, or in a lenient mode each in either case
abbrev pub IsWord : Strictness → List ℕ → List ℕ → Type 0
IsWord strict word letters = letters ≡ word
IsWord lenient word letters = map to_ascii_lowercase letters ≡ word

-- a word: `null`, `true` or `false` (RFC 8259, section 3, has them in lower case)
pub data IsLiteral (mode : Mode) : List ℕ → Tree → Type 0 where
  null_word : {letters : List ℕ} → IsWord (strictness mode) (codes "null") letters → IsLiteral mode letters null
  true_word : {letters : List ℕ} → IsWord (strictness mode) (codes "true") letters
      → IsLiteral mode letters (boolean true)
  false_word : {letters : List ℕ} → IsWord (strictness mode) (codes "false") letters
      → IsLiteral mode letters (boolean false)

-- the quotes of strings: double quotes, or in a lenient mode single ones
abbrev pub IsQuote : Strictness → ℕ → Type 0
IsQuote strict quote = quote ≡ ascii.quote
IsQuote lenient quote = (quote ≡ ascii.quote) ⊎ (quote ≡ ascii.single_quote)

-- the bytes are a number text whose number is n
abbrev pub IsNumber : Mode → List ℕ → Num → Type 0
IsNumber standard bytes n = IsStandardNumber bytes n
IsNumber extended bytes n = IsExtendedNumber bytes n
IsNumber json bytes n = IsJsonNumber bytes n
IsNumber extended_json bytes n = IsExtendedJsonNumber bytes n

-- the bytes are a number text, representable or not
abbrev pub IsNumberText : Strictness → List ℕ → Type 0
IsNumberText strict bytes = IsStandardText bytes
IsNumberText lenient bytes = IsExtendedText bytes

-- the bytes are a number text whose number no tree has
abbrev pub IsUnrepresentable : Mode → List ℕ → Type 0
IsUnrepresentable mode bytes = IsNumberText (strictness mode) bytes × ((n : Num) → ¬ (IsNumber mode bytes n))

-- a word, a string in quotes or a number
pub data IsScalar (mode : Mode) : List ℕ → Tree → Type 0 where
  literal_value : {bytes : List ℕ} {t : Tree} → IsLiteral mode bytes t → IsScalar mode bytes t
  string_value : {quote : ℕ} {bytes text : List ℕ} {mark : Mark} → IsQuote (strictness mode) quote
      → Quoted mode quote bytes text mark → IsScalar mode bytes (string mark text)
  number_value : {bytes : List ℕ} {n : Num} → IsNumber mode bytes n → IsScalar mode bytes (number n)

-- A key with its mark: a string in quotes, or in a lenient mode a bare key.
pub data IsKey (mode : Mode) : List ℕ → Mark × List ℕ → Type 0 where
  quoted_key : {quote : ℕ} {bytes text : List ℕ} {mark : Mark} → IsQuote (strictness mode) quote
      → Quoted mode quote bytes text mark → IsKey mode bytes (mark, text)
  bare_key : {bytes : List ℕ} → IsLenient mode → IsBareKey bytes → IsKey mode bytes (plain, bytes)
