-- The texts of RFC 8259, by its own productions, section by section, and the tree of each.
use Rattle.std.specs.Prelude.{◌≡◌, ◌≢◌, ◌⊎◌, ℕ, zero, suc, ◌≤◌, true, false, List, [], ◌∷◌, ◌++◌, length, map, codes, All, Some}
use Rattle.std.specs.List.{flat_map, AllByRecursion}
use Rattle.std.specs.Str.{IsUtf8}
use Rattle.jsonb_spec.specs.Ascii as ascii
use Rattle.jsonb_spec.specs.Grammar.{IsJoined, AreDistinct, max_depth}
use Rattle.jsonb_spec.specs.Grammar.ExactNumber.{IsExactDecimal}
use Rattle.jsonb_spec.specs.Grammar.Quoted.{mark_of}
use Rattle.jsonb_spec.specs.Grammar.StandardNumber.{IsStandardText}
use Rattle.jsonb_spec.specs.Grammar.StringBody.{Item, raw, escape, unit, encoding, meaning, standard_escape, IsHexDigit}
use Rattle.jsonb_spec.specs.Tree.{Mark, Num, Tree, null, boolean, string, number, array, object, no_members, trees_of, Member, put_all}

-- ---- whitespace (section 2)

-- a space, a tab, a line feed or a carriage return
abbrev pub IsSpace : ℕ → Type 0
IsSpace byte = (byte ≡ ascii.space) ⊎ ((byte ≡ ascii.tab) ⊎ ((byte ≡ ascii.line_feed) ⊎ (byte ≡ ascii.carriage_return)))

-- whitespace: only such bytes
abbrev pub AreSpaces : List ℕ → Type 0
AreSpaces bytes = AllByRecursion IsSpace bytes

-- with whitespace before and after it
pub data IsSpaced {A : Type 0} (Encodes : List ℕ → A → Type 0) : List ℕ → A → Type 0 where
  spaced : (front core back : List ℕ) {a : A} → AreSpaces front → Encodes core a → AreSpaces back
      → IsSpaced Encodes (front ++ (core ++ back)) a

-- ---- strings (section 7)

-- One character of a string: a byte that means itself, which is no control character, no quotation mark and no
-- backslash; a backslash and one of eight letters; or `\u` and four hexadecimal digits.
abbrev pub IsCharacter : Item → Type 0
IsCharacter (raw byte) = (ascii.space ≤ byte) × (byte ≢ ascii.quote) × (byte ≢ ascii.backslash)
IsCharacter (escape letter byte) = standard_escape letter ≡ Some byte
IsCharacter (unit braces digits) = (braces ≡ false) × (length digits ≡ 4) × All IsHexDigit digits

-- The bytes are a string: characters between quotation marks. The text is what they mean, and the mark says whether
-- there are escapes among them.
pub record IsString (bytes : List ℕ) (mark : Mark) (text : List ℕ) : Type 0 where
  pub characters : List Item
  pub each : AllByRecursion IsCharacter characters
  pub quoted : bytes ≡ ascii.quote ∷ (flat_map encoding characters ++ ascii.quote ∷ [])
  pub meant : text ≡ meaning characters
  pub utf8 : IsUtf8 text
  pub marked : mark ≡ mark_of characters

-- ---- values (sections 3 to 6)

-- the bytes are one of the three literal names, in lower case (section 3)
pub data IsLiteralName : List ℕ → Tree → Type 0 where
  null_name : IsLiteralName (codes "null") null
  true_name : IsLiteralName (codes "true") (boolean true)
  false_name : IsLiteralName (codes "false") (boolean false)

-- The bytes are a number: a minus or none, a whole part, a fraction or none, an exponent or none. And n is its exact
-- value, where that is in range (section 6).
abbrev pub IsExactNumber : List ℕ → Num → Type 0
IsExactNumber bytes n = IsStandardText bytes × IsExactDecimal bytes n

-- a literal name, a string or a number
pub data IsPlainValue : List ℕ → Tree → Type 0 where
  a_literal : {bytes : List ℕ} {t : Tree} → IsLiteralName bytes t → IsPlainValue bytes t
  a_string : {bytes text : List ℕ} {mark : Mark} → IsString bytes mark text → IsPlainValue bytes (string mark text)
  a_number : {bytes : List ℕ} {n : Num} → IsExactNumber bytes n → IsPlainValue bytes (number n)

-- a name of a member: a string
abbrev pub IsName : List ℕ → Mark × List ℕ → Type 0
IsName bytes name = IsString bytes name.0 name.1

-- a member of an object: a name, a colon and a value, with whitespace round both (section 4)
pub data IsPair (Value : List ℕ → Tree → Type 0) : List ℕ → Member → Type 0 where
  name_and_value : {left right : List ℕ} {name : Mark × List ℕ} {t : Tree} → IsSpaced IsName left name
      → IsSpaced Value right t → IsPair Value (left ++ ascii.colon ∷ right) (name.1, t)

-- A value, where Value says which values may be inside of it: a plain one, an array or an object. The names of an
-- object's members are distinct (section 4).
pub data IsOneValue (Value : List ℕ → Tree → Type 0) : List ℕ → Tree → Type 0 where
  plain_value : {bytes : List ℕ} {t : Tree} → IsPlainValue bytes t → IsOneValue Value bytes t
  no_items : (spaces : List ℕ) → AreSpaces spaces
      → IsOneValue Value (ascii.open_bracket ∷ (spaces ++ ascii.close_bracket ∷ [])) (array (trees_of []))
  some_items : {body : List ℕ} {ts : List Tree} → IsJoined (IsSpaced Value) body ts
      → IsOneValue Value (ascii.open_bracket ∷ (body ++ ascii.close_bracket ∷ [])) (array (trees_of ts))
  no_pairs : (spaces : List ℕ) → AreSpaces spaces
      → IsOneValue Value (ascii.open_brace ∷ (spaces ++ ascii.close_brace ∷ [])) (object no_members)
  some_pairs : {body : List ℕ} {ms : List Member} → IsJoined (IsPair Value) body ms → AreDistinct (map (λ m. m.0) ms)
      → IsOneValue Value (ascii.open_brace ∷ (body ++ ascii.close_brace ∷ [])) (object (put_all ms no_members))

-- the bytes encode the tree, with arrays and objects nested no deeper than the number
abbrev pub IsNested : ℕ → List ℕ → Tree → Type 0
IsNested zero bytes t = IsPlainValue bytes t
IsNested (suc depth) bytes t = IsOneValue (IsNested depth) bytes t

-- a text: a value with whitespace round it, nested no deeper than a parser must go (sections 2 and 9)
abbrev pub IsJsonText : List ℕ → Tree → Type 0
IsJsonText bytes t = IsSpaced (IsNested max_depth) bytes t
