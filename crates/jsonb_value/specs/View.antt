-- The tree of a `Value` or an `ExtensionValue`.
use Rattle.std.specs.Prelude.{ℕ, List, [], ◌∷◌, map, String, string_bytes}
use Rattle.std.specs.Cow.{cow_str_bytes}
use Rattle.std.specs.declared.alloc.Global.{Global}
use Rattle.jsonb_spec.specs.Tree.{Tree, null, boolean, number, string, array, object, binary, date, timestamp, timestamp_tz, interval, Trees, trees_of, Members, no_members, more_members}
use Rattle.jsonb_value.specs.declared.extension.ExtensionValue.{ExtensionValue}
use Rattle.jsonb_value.specs.declared.extension.ExtensionValue.TheVariants as extension
use Rattle.jsonb_core.specs.View.{number_view, mark_view}
use Rattle.jsonb_value.specs.declared.value.Value.{Value, fold-Value}
use Rattle.jsonb_value.specs.declared.value.Value.TheOpen.{Value-F}

-- the tree that an `ExtensionValue` means
abbrev pub extension_view : ExtensionValue → Tree
extension_view (extension.Binary b) = binary b.now
extension_view (extension.Date d) = date d.value
extension_view (extension.Timestamp t) = timestamp t.value
extension_view (extension.TimestampTz t) = timestamp_tz t.offset t.value
extension_view (extension.Interval i) = interval i.months i.days i.micros

-- the members of an object, from a list of keys and trees
abbrev pub members_of : List (String Global × Tree) → Members
members_of [] = no_members
members_of (m ∷ ms) = more_members (string_bytes m.0) m.1 (members_of ms)

-- one level, with each value inside already seen as its tree
abbrev pub view_step : Value-F Tree → Tree
view_step Value-F.Null = null
view_step (Value-F.Bool b) = boolean b
view_step (Value-F.String s) = string (mark_view s) (cow_str_bytes s)
view_step (Value-F.Number n) = number (number_view n)
view_step (Value-F.Binary b) = binary b.now
view_step (Value-F.Date d) = date d.value
view_step (Value-F.Timestamp t) = timestamp t.value
view_step (Value-F.TimestampTz t) = timestamp_tz t.offset t.value
view_step (Value-F.Interval i) = interval i.months i.days i.micros
view_step (Value-F.Array v) = array (trees_of v.items)
view_step (Value-F.Object m) = object (members_of m.entries)

-- the tree that a `Value` means
abbrev pub view : Value → Tree
view = fold-Value Tree view_step

-- the trees of an array's values
abbrev pub trees_view : List Value → Trees
trees_view vs = trees_of (map view vs)

-- the keys and trees of a map's entries
abbrev pub members_view : List (String Global × Value) → Members
members_view ms = members_of (map (λ m. (m.0, view m.1)) ms)

-- each key with its value's tree
abbrev pub pairs_view : List (String Global × Value) → List (List ℕ × Tree)
pairs_view ms = map (λ m. (string_bytes m.0, view m.1)) ms
