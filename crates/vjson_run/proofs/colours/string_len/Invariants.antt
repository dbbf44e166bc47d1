use Rattle.std.proofs.Common.{◌≡◌, ◌+◌, drop, true}
use Rattle.jsonb_spec.specs.Program.Colours.{string_len}
use Rattle.vjson_run.proofs.colours.string_len.Given as goal

abbrev pub invariant-bytes : goal.invariant-bytes
invariant-bytes l = string_len true l.fn.bytes ≡ l.i + string_len l.passed (drop l.i l.fn.bytes)
