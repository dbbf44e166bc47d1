use Rattle.std.proofs.Common.{◌≤◌, length}
use Rattle.std.specs.List.{flat_map}
use Rattle.std.specs.Vec.{vec_capacity}
use Rattle.jsonb_spec.specs.Text.StringText.{byte_text}
use Rattle.jsonb_core.proofs.Appending.Appended.{IsUnderway}
use Rattle.jsonb_core.proofs.parts.text.append_runs.Given as goal

-- what is left to write is the text of the rest
abbrev pub invariant-runs : goal.invariant-runs
invariant-runs l = record {
  underway : IsUnderway l.fn.buf.items l.buf.items (flat_map byte_text l.bytes) (flat_map byte_text l.rest);
  space : vec_capacity l.fn.buf ≤ vec_capacity l.buf;
}

abbrev pub decreases-runs : goal.decreases-runs
decreases-runs l = length l.rest
