use Rattle.std.proofs.Common.{length, map, string_bytes}
use Rattle.jsonb_spec.specs.Path.KeyEncoding.{Reads}
use Rattle.jsonb_path.proofs.keys.read_keys.Given as goal

abbrev pub invariant-parts : goal.invariant-parts
invariant-parts l = Reads l.path (map string_bytes l.keys.items) l.rest

abbrev pub decreases-parts : goal.decreases-parts
decreases-parts l = length l.rest
