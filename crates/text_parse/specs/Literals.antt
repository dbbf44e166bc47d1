-- The literals: `null`, `true` and `false`.
use Rattle.std.specs.Prelude.{ℕ, true, false, List, codes}
use Rattle.jsonb_spec.specs.Tree.{Tree, null, boolean}
use Rattle.text_parse.specs.declared.parser.scalar.Literal.{Literal}
use Rattle.text_parse.specs.declared.parser.scalar.Literal.TheVariants as variants

-- the tree of a literal
abbrev pub literal_tree : Literal → Tree
literal_tree variants.Null = null
literal_tree (variants.Bool value) = boolean value

-- how a literal is encoded
abbrev pub literal_text : Literal → List ℕ
literal_text variants.Null = codes "null"
literal_text (variants.Bool true) = codes "true"
literal_text (variants.Bool false) = codes "false"
