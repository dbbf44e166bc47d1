use Rattle.std.proofs.Common.{◌≡◌, ◌++◌, take}
use Rattle.std.specs.List.{flat_map}
use Rattle.jsonb_spec.specs.Program.KeyLine.{hex_text}
use Rattle.vjson_run.proofs.lines.append_few.Given as goal

abbrev pub invariant-bytes : goal.invariant-bytes
invariant-bytes l = l.out.items ≡ l.fn.out.items ++ flat_map hex_text (take l.byte-index l.bytes)
