-- Which path an error has: where a part is due, what is put there is the part at the path, and the text is wrong there.
use Rattle.std.specs.Prelude.{◌≡◌, ◌⊎◌, ℕ, ◌<◌, Bool, true, false, List, [], ◌∷◌, ◌++◌, length, codes, Option, Some, None}
use Rattle.std.specs.List.{AllByRecursion}
use Rattle.jsonb_spec.specs.Ascii as ascii
use Rattle.jsonb_spec.specs.Errors.{RepeatsKey}
use Rattle.jsonb_spec.specs.Grammar.{Derives, IsDocument, IsElement, IsPadded, max_depth}
use Rattle.jsonb_spec.specs.Grammar.Whitespace.{IsWhitespacePiece}
use Rattle.jsonb_spec.specs.Mode.{Mode, IsLenient}
use Rattle.jsonb_spec.specs.PartAt.{part_at}
use Rattle.jsonb_spec.specs.Text.{text_of}
use Rattle.jsonb_spec.specs.Tree.{Tree}

-- ---- where a part is due

-- a byte that closes an array or an object
abbrev pub IsClosing : ℕ → Type 0
IsClosing byte = (byte ≡ ascii.close_bracket) ⊎ (byte ≡ ascii.close_brace)

-- one of two values
abbrev pub literal : Bool → List ℕ
literal true = codes "true"
literal false = codes "false"

-- the comma or the colon that is put before a part where the text lacks it
abbrev pub put_before : Option ℕ → List ℕ
put_before None = []
put_before (Some byte) = byte ∷ []

-- The front of a text, then a value where a part is due, and then what closes the arrays and objects that are open.
abbrev pub completed : List ℕ → Option ℕ → List ℕ → Bool → List ℕ
completed front lacking closers value = front ++ (put_before lacking ++ (literal value ++ closers))

-- The text is a document, and the part at the keys is written so.
pub record HasAt (mode : Mode) (text : List ℕ) (keys : List (List ℕ)) (written : List ℕ) : Type 0 where
  pub tree : Tree
  pub document : IsDocument mode text tree
  pub part : Tree
  pub there : part_at keys tree ≡ Some part
  pub is : text_of part ≡ Some written

-- In the text an object has a key twice.
abbrev pub RepeatsSome : Mode → List ℕ → Type 0
RepeatsSome mode text = (key : List ℕ) × ((offset : ℕ) × RepeatsKey mode text key offset)

-- ---- what is wrong there

-- An element of an array, or the value of a member of an object, by the byte that closes it.
pub data IsPart (mode : Mode) : ℕ → List ℕ → Type 0 where
  element : {bytes : List ℕ} {t : Tree} → IsElement mode (Derives mode max_depth) bytes t
      → IsPart mode ascii.close_bracket bytes
  member_value : {bytes : List ℕ} {t : Tree} → IsPadded mode (Derives mode max_depth) bytes t
      → IsPart mode ascii.close_brace bytes

-- The bytes begin with a part, and a comma or the closing byte is behind it.
pub record BeginsWithPart (mode : Mode) (close : ℕ) (bytes : List ℕ) : Type 0 where
  pub part : List ℕ
  pub byte : ℕ
  pub rest : List ℕ
  pub whole : bytes ≡ part ++ byte ∷ rest
  pub is_part : IsPart mode close part
  pub ends : (byte ≡ ascii.comma) ⊎ (byte ≡ close)

-- No part is passed there. Of the value of a whole text nothing is said.
abbrev pub NonePasses : Mode → List ℕ → List ℕ → Type 0
NonePasses mode [] bytes = Unit {0}
NonePasses mode (close ∷ closers) bytes = BeginsWithPart mode close bytes → ⊥

-- The bytes begin with a document.
pub record BeginsWithDocument (mode : Mode) (bytes : List ℕ) : Type 0 where
  pub front : List ℕ
  pub rest : List ℕ
  pub tree : Tree
  pub whole : bytes ≡ front ++ rest
  pub some : 0 < length front
  pub document : IsDocument mode front tree

-- How a text is wrong, of which these bytes are left where a part is due.
pub data IsWrong (mode : Mode) (closers : List ℕ) : Option ℕ → List ℕ → Type 0 where
  -- An array or an object begins where as many are open as may be.
  too_deep : {byte : ℕ} {rest : List ℕ} → length closers ≡ max_depth
      → (byte ≡ ascii.open_bracket) ⊎ (byte ≡ ascii.open_brace) → IsWrong mode closers None (byte ∷ rest)
  -- No part passes. If it is an array, its own end is there, since else one of its elements would be wrong.
  none_passes : {bytes : List ℕ} → NonePasses mode closers bytes
      → ((rest : List ℕ) → bytes ≡ ascii.open_bracket ∷ rest → BeginsWithDocument mode bytes)
      → IsWrong mode closers None bytes
  -- The colon is missing after a key.
  no_colon : {bytes : List ℕ} → ((rest : List ℕ) → bytes ≡ ascii.colon ∷ rest → ⊥)
      → IsWrong mode closers (Some ascii.colon) bytes
  -- A comment that doesn't end is there, where a comma or the end of an array is due.
  open_comment : {byte : ℕ} {rest : List ℕ} → IsLenient mode → (byte ≡ ascii.star) ⊎ (byte ≡ ascii.slash)
      → IsWrong mode closers (Some ascii.comma) (ascii.slash ∷ byte ∷ rest)

-- ---- the path

-- Behind a front of the text a part is due: a value that is put there, with what is open closed behind it, makes a
-- document, in which it is the part at the keys. No whitespace begins there, and the text is wrong there.
pub record IsErrorAt (mode : Mode) (text : List ℕ) (keys : List (List ℕ)) : Type 0 where
  pub front : List ℕ
  pub rest : List ℕ
  pub whole : text ≡ front ++ rest
  pub lacking : Option ℕ
  pub closers : List ℕ
  pub are_closing : AllByRecursion IsClosing closers
  pub leads : (value : Bool) → HasAt mode (completed front lacking closers value) keys (literal value)
  pub no_piece : (piece others : List ℕ) → IsWhitespacePiece mode piece → rest ≡ piece ++ others → ⊥
  pub is_wrong : IsWrong mode closers lacking rest

-- A front of the text makes no document so, since a key comes twice in it.
pub record IsBehindRepeat (mode : Mode) (text : List ℕ) : Type 0 where
  pub front : List ℕ
  pub rest : List ℕ
  pub whole : text ≡ front ++ rest
  pub lacking : Option ℕ
  pub closers : List ℕ
  pub are_closing : AllByRecursion IsClosing closers
  pub value : Bool
  pub repeats : RepeatsSome mode (completed front lacking closers value)

-- The keys of the path at which the text is wrong. Behind a key that comes twice nothing is said of them.
pub data IsErrorPath (mode : Mode) (text : List ℕ) (keys : List (List ℕ)) : Type 0 where
  at_part : IsErrorAt mode text keys → IsErrorPath mode text keys
  behind_repeat : IsBehindRepeat mode text → IsErrorPath mode text keys
