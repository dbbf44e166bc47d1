use Rattle.std.proofs.Common.{◌≡◌, ◌++◌, length}
use Rattle.std.specs.List.{flat_map}
use Rattle.jsonb_spec.specs.Program.KeyLine.{hex_text}
use Rattle.vjson_run.proofs.lines.append_hex.Given as goal

abbrev pub invariant-fours : goal.invariant-fours
invariant-fours l = l.out.items ++ flat_map hex_text l.rest ≡ l.fn.out.items ++ flat_map hex_text l.bytes

abbrev pub decreases-fours : goal.decreases-fours
decreases-fours l = length l.rest
