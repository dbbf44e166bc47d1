-- Documents: whitespace around values, parts joined by commas, elements, members, values by depth (RFC 8259, sections
-- 2, 4 and 5, for the standard ones).
pub mod BareKey
pub mod Whitespace
pub mod ExactNumber
pub mod ExtendedNumber
pub mod Quoted
pub mod Scalar
pub mod StandardNumber
pub mod StringBody
pub mod StringFault
pub mod StringStep
use Rattle.std.specs.Prelude.{◌≡◌, ◌≢◌, ℕ, zero, suc, List, [], ◌∷◌, ◌++◌, map, ⊤}
use Rattle.std.specs.List.{AllByRecursion}
use Rattle.jsonb_spec.specs.Ascii as ascii
use Rattle.jsonb_spec.specs.Mode.{Mode, IsLenient}
use Rattle.jsonb_spec.specs.Tree.{Mark, Tree, null, array, object, no_members, trees_of, Member, put_all}
use Rattle.jsonb_spec.specs.Grammar.Whitespace.{IsWhitespace, IsLastWhitespace}
use Rattle.jsonb_spec.specs.Grammar.Scalar.{IsScalar, IsKey}

-- `Encodes bytes a` says that the bytes encode a. Whitespace may be before and after what is padded.
pub data IsPadded {A : Type 0} (mode : Mode) (Encodes : List ℕ → A → Type 0) : List ℕ → A → Type 0 where
  padded : {before core after : List ℕ} {a : A} → IsWhitespace mode before → Encodes core a → IsWhitespace mode after
      → IsPadded mode Encodes (before ++ (core ++ after)) a

-- one part, or more with a comma after each but the last
pub data IsJoined {A : Type 0} (Encodes : List ℕ → A → Type 0) : List ℕ → List A → Type 0 where
  one_part : {bytes : List ℕ} {a : A} → Encodes bytes a → IsJoined Encodes bytes (a ∷ [])
  more_parts : {first rest : List ℕ} {a : A} {others : List A} → Encodes first a → IsJoined Encodes rest others
      → IsJoined Encodes (first ++ ascii.comma ∷ rest) (a ∷ others)

-- An element of an array: a value with whitespace round it. In a lenient mode whitespace alone means null.
pub data IsElement (mode : Mode) (Value : List ℕ → Tree → Type 0) : List ℕ → Tree → Type 0 where
  whole_element : {bytes : List ℕ} {t : Tree} → IsPadded mode Value bytes t → IsElement mode Value bytes t
  empty_element : {bytes : List ℕ} → IsLenient mode → IsWhitespace mode bytes → IsElement mode Value bytes null

-- A member of an object: a key, a colon and a value, with whitespace round the key and round the value.
pub data IsMember (mode : Mode) (Value : List ℕ → Tree → Type 0) : List ℕ → Member → Type 0 where
  key_and_value : {left right : List ℕ} {key : Mark × List ℕ} {t : Tree} → IsPadded mode (IsKey mode) left key
      → IsPadded mode Value right t → IsMember mode Value (left ++ ascii.colon ∷ right) (key.1, t)

-- no two keys are the same
abbrev pub AreDistinct : List (List ℕ) → Type 0
AreDistinct [] = ⊤
AreDistinct (key ∷ keys) = AllByRecursion (λ other. key ≢ other) keys × AreDistinct keys

-- A value, where Value says which values may be inside of it. One element alone is not whitespace alone.
pub data IsValue (mode : Mode) (Value : List ℕ → Tree → Type 0) : List ℕ → Tree → Type 0 where
  scalar : {bytes : List ℕ} {t : Tree} → IsScalar mode bytes t → IsValue mode Value bytes t
  empty_array : {whitespace : List ℕ} → IsWhitespace mode whitespace
      → IsValue mode Value (ascii.open_bracket ∷ (whitespace ++ ascii.close_bracket ∷ [])) (array (trees_of []))
  full_array : {body : List ℕ} {ts : List Tree} → IsJoined (IsElement mode Value) body ts → (IsWhitespace mode body → ⊥)
      → IsValue mode Value (ascii.open_bracket ∷ (body ++ ascii.close_bracket ∷ [])) (array (trees_of ts))
  empty_object : {whitespace : List ℕ} → IsWhitespace mode whitespace
      → IsValue mode Value (ascii.open_brace ∷ (whitespace ++ ascii.close_brace ∷ [])) (object no_members)
  full_object : {body : List ℕ} {ms : List Member} → IsJoined (IsMember mode Value) body ms
      → AreDistinct (map (λ m. m.0) ms)
      → IsValue mode Value (ascii.open_brace ∷ (body ++ ascii.close_brace ∷ [])) (object (put_all ms no_members))

-- the bytes encode the tree, with arrays and objects nested no deeper than the number
abbrev pub Derives : Mode → ℕ → List ℕ → Tree → Type 0
Derives mode zero bytes t = IsScalar mode bytes t
Derives mode (suc depth) bytes t = IsValue mode (Derives mode depth) bytes t

-- how many arrays and objects may be open at once
abbrev pub max_depth : ℕ
max_depth = 512

-- A whole text: a value with whitespace round it. In a lenient mode whitespace alone means null.
pub data IsDocument (mode : Mode) : List ℕ → Tree → Type 0 where
  value_alone : {before core after : List ℕ} {t : Tree} → IsWhitespace mode before → Derives mode max_depth core t
      → IsLastWhitespace mode after → IsDocument mode (before ++ (core ++ after)) t
  whitespace_alone : {bytes : List ℕ} → IsLenient mode → IsLastWhitespace mode bytes → IsDocument mode bytes null

-- the text is a document of no tree
abbrev pub IsNoDocument : Mode → List ℕ → Type 0
IsNoDocument mode bytes = (t : Tree) → IsDocument mode bytes t → ⊥
