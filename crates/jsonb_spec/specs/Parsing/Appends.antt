-- What is appended of a text that is parsed for its serialized form or its sort key.
use Rattle.std.specs.Prelude.{◌≡◌, ℕ, ◌+◌, ◌<◌, List, ◌++◌, length, Ok, Bool, MatchBool, None, Some}
use Rattle.jsonb_spec.specs.Grammar.{IsDocument}
use Rattle.jsonb_spec.specs.Mode.{Mode}
use Rattle.jsonb_spec.specs.SortKey.{key_of}
use Rattle.jsonb_spec.specs.Text.{AppendsText, tree_text}
use Rattle.jsonb_spec.specs.Tree.{Tree}
use Rattle.jsonb_spec.specs.Parsing.Document.{document_of}
use Rattle.jsonb_spec.specs.PartAt.{part_at}

-- The text is a document of this tree and of no other, which is what parsing gives.
pub record IsParsed (mode : Mode) (text : List ℕ) (tree : Tree) : Type 0 where
  pub document : IsDocument mode text tree
  pub only : (t : Tree) → IsDocument mode text t → t ≡ tree
  pub exact : document_of mode text ≡ Ok tree

-- new is old with the text of the document's tree at its end
pub record AppendsTextOf (mode : Mode) (text old new : List ℕ) : Type 0 where
  pub tree : Tree
  pub parsed : IsParsed mode text tree
  pub appended : AppendsText tree old new

-- new is old with the sort key of the document's tree at its end
pub record AppendsKeyOf (mode : Mode) (text old new : List ℕ) : Type 0 where
  pub tree : Tree
  pub parsed : IsParsed mode text tree
  pub appended : new ≡ old ++ key_of tree

-- The text is a document, and a buffer of this capacity with this many bytes has no space for its value's text.
pub record LacksCapacityForText (mode : Mode) (text : List ℕ) (capacity len : ℕ) : Type 0 where
  pub tree : Tree
  pub document : IsDocument mode text tree
  pub too_short : capacity < len + length (tree_text tree)

-- The text is a document, and a buffer of this capacity with this many bytes has no space for its value's sort key.
pub record LacksCapacityForKey (mode : Mode) (text : List ℕ) (capacity len : ℕ) : Type 0 where
  pub tree : Tree
  pub document : IsDocument mode text tree
  pub too_short : capacity < len + length (key_of tree)

-- The text is a document, and a buffer of this capacity with this many bytes has no space for the text of its part.
pub record LacksCapacityForPart (mode : Mode) (text : List ℕ) (keys : List (List ℕ)) (capacity len : ℕ) : Type 0 where
  pub tree : Tree
  pub document : IsDocument mode text tree
  pub part : Tree
  pub there : part_at keys tree ≡ Some part
  pub too_short : capacity < len + length (tree_text part)

-- new is old with the text of the tree's part at the keys at its end
pub record AppendsPart (tree : Tree) (keys : List (List ℕ)) (old new : List ℕ) : Type 0 where
  pub part : Tree
  pub there : part_at keys tree ≡ Some part
  pub appended : AppendsText part old new

-- new is old with the text of the part of the document's tree at its end, or is old, where the tree has no such part
pub record AppendsPartOf (mode : Mode) (text : List ℕ) (keys : List (List ℕ)) (old new : List ℕ) (is_there : Bool)
    : Type 0 where
  pub tree : Tree
  pub parsed : IsParsed mode text tree
  pub part : MatchBool is_there (AppendsPart tree keys old new) ((part_at keys tree ≡ None) × (new ≡ old))
