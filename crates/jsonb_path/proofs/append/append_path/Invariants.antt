use Rattle.std.proofs.Common.{◌≡◌, ◌++◌, take, map, string_bytes}
use Rattle.jsonb_spec.specs.Path.{encoded_keys}
use Rattle.jsonb_path.proofs.append.append_path.Given as goal

abbrev pub invariant-keys : goal.invariant-keys
invariant-keys l = l.path.items ≡ l.fn.path.items ++ encoded_keys (map string_bytes (take l.key-index l.keys))
