-- Where a buffer has no space for what is appended.
use Rattle.std.specs.Prelude.{◌≡◌, ℕ, ◌+◌, ◌<◌, List, length, Some}
use Rattle.jsonb_spec.specs.Indented.{indented_text}
use Rattle.jsonb_spec.specs.PartAt.{part_at}
use Rattle.jsonb_spec.specs.Text.{tree_text}
use Rattle.jsonb_spec.specs.Tree.{Tree}
use Rattle.text_scan.specs.declared.parser.Grammar.{Grammar}
use Rattle.vjson_text.specs.Texts.{IsTextOf}
use Rattle.vjson_text.specs.declared.reader.Layout.{Layout}
use Rattle.vjson_text.specs.declared.reader.Layout.TheVariants.{Compact, Indent}

-- the text of a tree in a layout
abbrev pub laid_out : Layout → Tree → List ℕ
laid_out Compact t = tree_text t
laid_out (Indent width) t = indented_text width 0 t

-- The text is one of the grammar, and a buffer of this capacity with this many bytes has no space for what its tree is
-- written as.
pub record LacksSpace (grammar : Grammar) (written : Tree → List ℕ) (text : List ℕ) (capacity len : ℕ) : Type 0 where
  pub tree : Tree
  pub is_text : IsTextOf grammar text tree
  pub too_short : capacity < len + length (written tree)

-- The text is one of the grammar, and such a buffer has no space for the text of its tree's part at the keys.
pub record LacksSpaceForPart (grammar : Grammar) (keys : List (List ℕ)) (text : List ℕ) (capacity len : ℕ) : Type 0
  where
    pub tree : Tree
    pub is_text : IsTextOf grammar text tree
    pub part : Tree
    pub there : part_at keys tree ≡ Some part
    pub too_short : capacity < len + length (tree_text part)
