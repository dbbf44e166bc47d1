-- A `JsonAst` with its order and offsets, and what is borrowed.
use Rattle.std.specs.Prelude.{ℕ, List, map}
use Rattle.std.specs.Cow.{cow_str_bytes}
use Rattle.std.specs.declared.alloc.Global.{Global}
use Rattle.std.specs.declared.borrow.CowStr.{CowStr}
use Rattle.jsonb_core.specs.View.{number_view, mark_view}
use Rattle.jsonb.specs.AstView.{Written}
use Rattle.jsonb.specs.declared.parser.ast.JsonAst.{JsonAst, fold-JsonAst}
use Rattle.jsonb.specs.declared.parser.ast.JsonAst.TheOpen.{JsonAst-F}
use Rattle.jsonb_spec.specs.Source.{Found, array_source_of, source_members_of, sources_of, Source, null_source, boolean_source, string_source, number_source, object_source, Sources, SourceMembers}

-- a member of an object, with its value already seen as a source
abbrev pub found_from : CowStr Global × Source × ℕ → Found
found_from m = record { mark = mark_view m.0; key = cow_str_bytes m.0; source = m.1; offset = m.2 }

-- one level, with each value inside already seen as its source
abbrev pub source_step : JsonAst-F Source → Source
source_step JsonAst-F.Null = null_source
source_step (JsonAst-F.Bool b) = boolean_source b
source_step (JsonAst-F.String s) = string_source (mark_view s) (cow_str_bytes s)
source_step (JsonAst-F.Number n) = number_source (number_view n)
source_step (JsonAst-F.Array v) = array_source_of v.items
source_step (JsonAst-F.Object v) = object_source (source_members_of (map found_from v.items))

abbrev pub source_view : JsonAst → Source
source_view = fold-JsonAst Source source_step

abbrev pub sources_view : List JsonAst → Sources
sources_view asts = sources_of (map source_view asts)

abbrev pub source_members_view : List Written → SourceMembers
source_members_view ms = source_members_of (map found_from (map (λ m. (m.0, source_view m.1, m.2)) ms))

-- a member that was parsed
abbrev pub found_of : Written → Found
found_of m = found_from (m.0, source_view m.1, m.2)
