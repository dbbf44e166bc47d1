use Rattle.std.proofs.Common.{◌≡◌, ◌≤◌, ◌+◌, length}
use Rattle.std.specs.List.{count_by}
use Rattle.jsonb_spec.specs.Characters.{begins_character}
use Rattle.error_path.proofs.characters.characters.Given as goal

abbrev pub invariant-bytes : goal.invariant-bytes
invariant-bytes l = record { counted : count_by begins_character l.bytes ≡ l.count + count_by begins_character l.rest; within : l.count + length l.rest ≤ length l.bytes }

abbrev pub decreases-bytes : goal.decreases-bytes
decreases-bytes l = length l.rest
