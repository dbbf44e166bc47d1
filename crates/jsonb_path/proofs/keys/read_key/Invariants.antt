use Rattle.std.proofs.Common.{◌≡◌, ◌++◌, ◌≤◌, length}
use Rattle.jsonb_spec.specs.Path.{encoded_key}
use Rattle.jsonb_path.proofs.keys.read_key.Given as goal

abbrev pub invariant-bytes : goal.invariant-bytes
invariant-bytes l = (l.text ≡ encoded_key l.key.items ++ l.rest) × (length l.rest ≤ length l.text)

abbrev pub decreases-bytes : goal.decreases-bytes
decreases-bytes l = length l.rest
