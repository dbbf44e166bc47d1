-- The text of what is parsed.
use Rattle.std.specs.Prelude.{ℕ, List}
use Rattle.jsonb_spec.specs.Text.{tree_text}
use Rattle.jsonb_spec.specs.Source.{Source, tree_of_source}

-- the text of a value
abbrev pub source_text : Source → List ℕ
source_text s = tree_text (tree_of_source s)
