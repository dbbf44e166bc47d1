use Rattle.std.proofs.Common.{arith}
use Rattle.jsonb_path.proofs.Encoding.{key_step}
use Rattle.jsonb_path.proofs.append.append_key.Goals as goal

pub bytes-preserved : goal.bytes-preserved
bytes-preserved c = key_step c.args.path.now.items c.bytes.path.items c.append_byte.new.path.items c.args.key.now c.bytes.byte-index (omega arith) c.bytes.invariant c.in_ok-append_byte.ensures
