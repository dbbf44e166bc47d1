use Rattle.std.proofs.Common.{◌≡◌, drop}
use Rattle.std.specs.List.{list_all}
use Rattle.jsonb_spec.specs.Program.Input.{is_blank}
use Rattle.vjson_run.proofs.input.is_blank_line.Given as goal

abbrev pub invariant-bytes : goal.invariant-bytes
invariant-bytes l = list_all is_blank (drop l.byte-index l.line) ≡ list_all is_blank l.line
