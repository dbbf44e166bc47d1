use Rattle.std.proofs.Common.{◌≡◌, ◌++◌, take}
use Rattle.std.specs.List.{flat_map}
use Rattle.jsonb_spec.specs.Program.Printed.{cell_byte}
use Rattle.vjson_text.proofs.cell.append_cell.Given as goal

abbrev pub invariant-bytes : goal.invariant-bytes
invariant-bytes l = l.row.items ≡ l.fn.row.items ++ flat_map cell_byte (take l.byte-index l.bytes)
