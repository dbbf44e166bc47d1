use Rattle.std.proofs.Common.{◌≡◌, ◌++◌, take}
use Rattle.jsonb_spec.specs.Path.{encoded_key}
use Rattle.jsonb_path.proofs.append.append_key.Given as goal

abbrev pub invariant-bytes : goal.invariant-bytes
invariant-bytes l = l.path.items ≡ l.fn.path.items ++ encoded_key (take l.byte-index l.key)
