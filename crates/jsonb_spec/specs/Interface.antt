-- What each status and each out parameter says of the texts.
pub mod Document
pub mod DocumentCursor
pub mod DocumentInsert
pub mod KeyContains
pub mod KeyParts
pub mod KeyText
pub mod Lines
pub mod Rejected
pub mod Scalars
pub mod Table
pub mod Zeros
use Rattle.std.specs.Prelude.{◌≡◌, ◌≢◌, ◌⊎◌, ℕ, ◌<◌, ◌≤◌, ℤ, pos, negsuc, List, [], ◌++◌, ◌↔◌, length, drop, Some, Ok}
use Rattle.std.specs.declared.cmp.Ordering.{Ordering}
use Rattle.std.specs.declared.cmp.Ordering.TheVariants.{Less, Equal, Greater}
use Rattle.jsonb_spec.specs.Code.{Code}
use Rattle.jsonb_spec.specs.Code.Code.{control_character_while_parsing_string, depth_limit_exceeded, expected_array_comma_or_end, expected_colon, expected_object_comma_or_end, expected_some_ident, expected_some_value, invalid_eof, invalid_escaped, invalid_hex, invalid_lone_leading_surrogate_in_hex_escape, invalid_number_value, invalid_string_value, invalid_surrogate_in_hex_escape, key_must_be_a_string, number_not_carried, object_duplicate_key, object_key_invalid_character, object_key_invalid_number, unexpected_end_of_hex_escape, unexpected_trailing_characters}
use Rattle.jsonb_spec.specs.Grammar.{IsDocument, IsNoDocument}
use Rattle.jsonb_spec.specs.Mode.{Mode, standard, extended, json, extended_json}
use Rattle.jsonb_spec.specs.Order.{bytes_cmp, tree_cmp}
use Rattle.jsonb_spec.specs.SortKey.{key_of}
use Rattle.jsonb_spec.specs.Text.ReadsBack.{ReadsBackAs}
use Rattle.jsonb_spec.specs.Text.{text_of}
use Rattle.jsonb_spec.specs.Tree.{Tree}
use Rattle.jsonb_spec.specs.Parsing.Document.{document_of}
use Rattle.jsonb_spec.specs.Parsing.Memory.{MayAllocate}
use Rattle.jsonb_spec.specs.PartAt.{IsAt}
use Rattle.jsonb_spec.specs.Path.{IsPath, StartsKey}

-- Which number chooses which grammar.
pub data NumberChooses (number : ℕ) : Mode → Type 0 where
  standard_mode : number ≡ 0 → NumberChooses number standard
  extended_mode : number ≡ 1 → NumberChooses number extended
  json_mode : number ≡ 2 → NumberChooses number json
  extended_json_mode : number ≡ 3 → NumberChooses number extended_json

-- the number of a code: from 1 on, in the order of `ParseErrorCode`
abbrev pub code_number : Code → ℕ
code_number invalid_eof = 1
code_number invalid_number_value = 2
code_number invalid_string_value = 3
code_number expected_some_ident = 4
code_number expected_some_value = 5
code_number expected_colon = 6
code_number expected_array_comma_or_end = 7
code_number expected_object_comma_or_end = 8
code_number unexpected_trailing_characters = 9
code_number key_must_be_a_string = 10
code_number control_character_while_parsing_string = 11
code_number (invalid_escaped byte) = 12
code_number (invalid_hex byte) = 13
code_number (invalid_lone_leading_surrogate_in_hex_escape unit) = 14
code_number (invalid_surrogate_in_hex_escape unit) = 15
code_number unexpected_end_of_hex_escape = 16
code_number (object_duplicate_key key) = 17
code_number object_key_invalid_number = 18
code_number object_key_invalid_character = 19
code_number number_not_carried = 20
code_number depth_limit_exceeded = 21

-- the number of an order
abbrev pub sign : Ordering → ℤ
sign Less = negsuc 0
sign Equal = pos 0
sign Greater = pos 1

-- The number chooses a mode in which the text is a document of this tree and of no other, and the tree is what reading
-- gives.
pub record IsDocumentOf (number : ℕ) (text : List ℕ) (tree : Tree) : Type 0 where
  pub mode : Mode
  pub chosen : NumberChooses number mode
  pub document : IsDocument mode text tree
  pub only : (t : Tree) → IsDocument mode text t → t ≡ tree
  pub exact : document_of mode text ≡ Ok tree

-- The number chooses a mode in which the text is a document.
pub record IsAccepted (number : ℕ) (text : List ℕ) : Type 0 where
  pub tree : Tree
  pub read : IsDocumentOf number text tree

-- The status is no greater than this one, and says whether the number chooses a mode.
pub record IsStatus (number greatest status : ℕ) : Type 0 where
  pub known : status ≤ greatest
  pub mode : status ≡ 3 ↔ (3 < number)

-- The text may allocate, or it is a document, of which something is written.
abbrev pub FormMayAllocate : ℕ → List ℕ → Type 0
FormMayAllocate number text = MayAllocate text ⊎ IsAccepted number text

-- One of two texts may allocate, the second only where the first is a document.
abbrev pub EitherMayAllocate : ℕ → List ℕ → List ℕ → Type 0
EitherMayAllocate number left right = MayAllocate left ⊎ (IsAccepted number left × MayAllocate right)

-- The status of a call that writes something of a document's tree: it says whether the number chooses a mode. A
-- document is accepted, unless memory ran out, which takes a text that may allocate, or a document.
pub record IsStatusOfForm (number : ℕ) (text : List ℕ) (status : ℕ) : Type 0 where
  pub known : status ≤ 4
  pub mode : status ≡ 3 ↔ (3 < number)
  pub accepted : IsAccepted number text → (status ≡ 0) ⊎ (status ≡ 4) ⊎ (status ≡ 2)
  pub memory : status ≡ 2 → FormMayAllocate number text

-- A document is accepted, and nothing else, unless memory ran out.
pub record AcceptsDocuments (number : ℕ) (text : List ℕ) (status : ℕ) : Type 0 where
  pub document : status ≡ 0 → IsAccepted number text
  pub accepted : IsAccepted number text → (status ≡ 0) ⊎ (status ≡ 2)

-- Bytes that are these are at the front of the buffer, whose other bytes are as before.
pub record Writes (Are : List ℕ → Type 0) (size : ℕ) (old new : List ℕ) : Type 0 where
  pub bytes : List ℕ
  pub are : Are bytes
  pub sized : size ≡ length bytes
  pub put : new ≡ bytes ++ drop size old

-- Bytes that are these have this size, and the buffer is shorter.
pub record NeedsCapacity (Are : List ℕ → Type 0) (size : ℕ) (old : List ℕ) : Type 0 where
  pub bytes : List ℕ
  pub are : Are bytes
  pub sized : size ≡ length bytes
  pub too_short : length old < size

-- The bytes are the text of the tree of the text, and they read back as a document of the same tree with this text.
pub record IsTextOf (number : ℕ) (text bytes : List ℕ) : Type 0 where
  pub tree : Tree
  pub read : IsDocumentOf number text tree
  pub is_text : text_of tree ≡ Some bytes
  pub reads_back : ReadsBackAs read.mode bytes tree

-- The bytes are the sort key of the tree of the text. With the sort key of each document, of either mode, they compare
-- as the trees do, and no more bytes follow them there.
pub record IsKeyOf (number : ℕ) (text bytes : List ℕ) : Type 0 where
  pub tree : Tree
  pub read : IsDocumentOf number text tree
  pub is_key : bytes ≡ key_of tree
  pub ordered : (mode : Mode) (other : List ℕ) (t : Tree) → IsDocument mode other t
      → bytes_cmp bytes (key_of t) ≡ tree_cmp tree t
  pub no_front : (mode : Mode) (other : List ℕ) (t : Tree) → IsDocument mode other t
      → (more : List ℕ) → key_of t ≡ bytes ++ more → more ≡ []

-- The status says whether such bytes are written to the start of the buffer, which is the status `done`, or the buffer
-- is too short for them. Where nothing is written the buffer is as before; where no bytes are known the size is 0.
pub record FillsBuffer (Are : List ℕ → Type 0) (done status size : ℕ) (old new : List ℕ) : Type 0 where
  pub written : status ≡ done → Writes Are size old new
  pub short : status ≡ 4 → NeedsCapacity Are size old
  pub untouched : status ≢ done → new ≡ old
  pub no_size : status ≢ done → status ≢ 4 → size ≡ 0

-- Where nothing is written the buffer is as before; where no bytes are known the size is 0.
pub record PreservesBuffer (status size : ℕ) (old new : List ℕ) : Type 0 where
  pub untouched : status ≢ 0 → new ≡ old
  pub no_size : status ≢ 0 → status ≢ 4 → size ≡ 0

-- The text and the key of the text's tree have these sizes, and one of the buffers is shorter.
pub record NeedsCapacityForBoth (number : ℕ) (text : List ℕ) (size key_size : ℕ) (old key_old : List ℕ) : Type 0 where
  pub bytes : List ℕ
  pub is_text : IsTextOf number text bytes
  pub sized : size ≡ length bytes
  pub key : List ℕ
  pub is_key : IsKeyOf number text key
  pub key_sized : key_size ≡ length key
  pub too_short : (length old < size) ⊎ (length key_old < key_size)

-- The number is that of the order of the two texts' trees.
pub record IsOrdered (number : ℕ) (left right : List ℕ) (order : ℤ) : Type 0 where
  pub first : Tree
  pub first_read : IsDocumentOf number left first
  pub second : Tree
  pub second_read : IsDocumentOf number right second
  pub ordered : order ≡ sign (tree_cmp first second)

-- The number chooses a mode in which the text is no document.
pub record IsNoDocumentOf (number : ℕ) (text : List ℕ) : Type 0 where
  pub mode : Mode
  pub chosen : NumberChooses number mode
  pub no_document : IsNoDocument mode text

-- A part of the text's tree is at the path.
pub record HasPartAt (number : ℕ) (path text : List ℕ) : Type 0 where
  pub tree : Tree
  pub read : IsDocumentOf number text tree
  pub keys : List (List ℕ)
  pub is_path : IsPath path keys
  pub part : Tree
  pub at : IsAt tree keys part

-- The text may allocate, or it is a document and the path has a key, or there is a part, which is written.
abbrev pub PartMayAllocate : ℕ → List ℕ → List ℕ → Type 0
PartMayAllocate number path text =
    MayAllocate text ⊎ (IsAccepted number text × StartsKey path) ⊎ HasPartAt number path text

-- The bytes are the text of the part of the text's tree that is at the path, and they read back as a document of
-- the same part with this text.
pub record IsPartOf (number : ℕ) (path text bytes : List ℕ) : Type 0 where
  pub found : HasPartAt number path text
  pub is_text : text_of found.part ≡ Some bytes
  pub reads_back : ReadsBackAs found.read.mode bytes found.part

-- The text's tree has no part at the path.
pub record HasNoPartAt (number : ℕ) (path text : List ℕ) : Type 0 where
  pub tree : Tree
  pub read : IsDocumentOf number text tree
  pub keys : List (List ℕ)
  pub is_path : IsPath path keys
  pub none : (part : Tree) → IsAt tree keys part → ⊥

-- The bytes encode no path.
abbrev pub IsNoPath : List ℕ → Type 0
IsNoPath path = (keys : List (List ℕ)) → IsPath path keys → ⊥

-- The status says what is wrong with a path, unless memory ran out.
pub record ReportsPath (path : List ℕ) (status : ℕ) : Type 0 where
  pub no_path : status ≡ 6 → IsNoPath path
  pub wrong_path : IsNoPath path → (status ≡ 6) ⊎ (status ≡ 2)
