-- A table is short beside its key.
use Rattle.std.proofs.Common.{◌≡◌, ◌+◌, ◌*◌, ◌≤◌, Bool, true, false, [], ◌∷◌, ◌++◌, length, ap, refl, arith, length-append}
use Rattle.std.specs.List.{flat_map}
use Rattle.jsonb_spec.specs.Proper.{IsProper, HaveProperParts}
use Rattle.jsonb_spec.specs.SortKey.{byte_key, key_of, members_key, text_key}
use Rattle.jsonb_spec.specs.Tree.{Tree, object, Members, no_members, more_members}
use Rattle.jsonb_core.proofs.SortKeys.Kinds.{begins}
use Rattle.jsonb_spec.specs.SortKey.Found.{members_len}
use Rattle.jsonb_spec.specs.Table.{has_table, in_two, member_offsets, table_of}
use Rattle.key_table.proofs.Having.{entries_long, table_none, table_some}

three_each : (ms : Members) → HaveProperParts ms → 3 * members_len ms + 2 ≤ length (members_key ms)
three_each no_members p = omega arith
three_each (more_members k t ms) p =
    omega (arith, three_each ms p.2, ap length (begins t p.1).is, length-append (text_key k) (key_of t ++ members_key ms), length-append (key_of t) (members_key ms), length-append (flat_map byte_key k) (0 ∷ 1 ∷ []))

short_if : (ms : Members) → IsProper (object ms) → (has : Bool) → has_table (object ms) ≡ has → 3 * length (table_of (object ms)) ≤ 2 * length (key_of (object ms)) + 3
short_if ms p true has =
    omega (arith, three_each ms p.1, ap length (table_some ms has), entries_long 1 ms, length-append (flat_map in_two (member_offsets 1 ms)) (in_two (members_len ms) ++ 254 ∷ []))
short_if ms p false has = omega (arith, ap length (table_none (object ms) has))

pub table_short : (t : Tree) → IsProper t → 3 * length (table_of t) ≤ 2 * length (key_of t) + 3
table_short (object ms) p = short_if ms p (has_table (object ms)) refl
table_short t p = omega arith
