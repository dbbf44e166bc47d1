-- The tree of a `JsonAst`.
use Rattle.std.specs.Prelude.{ℕ, List, map}
use Rattle.std.specs.Cow.{cow_str_bytes}
use Rattle.std.specs.declared.alloc.Global.{Global}
use Rattle.std.specs.declared.borrow.CowStr.{CowStr}
use Rattle.jsonb_spec.specs.Tree.{Tree, null, boolean, number, string, array, object, Trees, trees_of, Member, Members, no_members, put_all}
use Rattle.jsonb_core.specs.View.{number_view, mark_view}
use Rattle.jsonb.specs.declared.parser.ast.JsonAst.{JsonAst, fold-JsonAst}
use Rattle.jsonb.specs.declared.parser.ast.JsonAst.TheOpen.{JsonAst-F}

-- the key and the tree of each member
abbrev pub keyed_trees : List (CowStr Global × Tree × ℕ) → List Member
keyed_trees ms = map (λ m. (cow_str_bytes m.0, m.1)) ms

-- one level, with each value inside already seen as its tree. An object has its members put in one after the other
abbrev pub ast_step : JsonAst-F Tree → Tree
ast_step JsonAst-F.Null = null
ast_step (JsonAst-F.Bool b) = boolean b
ast_step (JsonAst-F.String s) = string (mark_view s) (cow_str_bytes s)
ast_step (JsonAst-F.Number n) = number (number_view n)
ast_step (JsonAst-F.Array v) = array (trees_of v.items)
ast_step (JsonAst-F.Object v) = object (put_all (keyed_trees v.items) no_members)

-- the tree that a `JsonAst` means
abbrev pub ast_view : JsonAst → Tree
ast_view = fold-JsonAst Tree ast_step

-- the items of an array
abbrev pub asts_view : List JsonAst → Trees
asts_view asts = trees_of (map ast_view asts)

-- a member of an object as it was written
abbrev pub Written : Type 0
Written = CowStr Global × JsonAst × ℕ

-- each key with its value's tree
abbrev pub written_pairs : List Written → List Member
written_pairs ms = keyed_trees (map (λ m. (m.0, ast_view m.1, m.2)) ms)

-- the members of an object, put in one after the other
abbrev pub written_members : List Written → Members
written_members ms = put_all (written_pairs ms) no_members
